use Rattle.std.proofs.Common.{◌≡◌, [], ◌∷◌, Some, None, Ok, rules}
use Rattle.inf_server.proofs.LinkFacts.{link_refused, nothing_linked, told_link}
use Rattle.inf_server.specs.Chains.{last_of}
use Rattle.inf_server.specs.Checks.{asked_of}
use Rattle.inf_server.specs.Server.{site_of, state_with}
use Rattle.inf_server.proofs.server.Server.link.Goals as goal

pub returns-in_default-clause-refused : goal.returns-in_default-clause-refused
returns-in_default-clause-refused g c =
    let s = c.args.self.now in
    let ask = c.args.ask.now in
    let entry = c.in_ok-entry.entry.now in
    let asked : asked_of (site_of g.R.IdRule.digest_of s) s.state ask.from (last_of c.args.chain.now)
    (c.args.chain.now ∷ []) ≡ Ok entry = search rules in
    let told : told_link s.state entry (Some (c.args.linked, c.args.mode, ask.caller)) ask.from ≡ None = search rules in
    link_refused (site_of g.R.IdRule.digest_of s) s.state ask c.args.chain.now entry c.args.linked c.args.mode asked
    told

pub returns-in_default-clause-unchanged : goal.returns-in_default-clause-unchanged
returns-in_default-clause-unchanged g c =
    let s = c.self.inside in
    let ask = c.args.ask.now in
    let entry = c.in_ok-entry.entry.now in
    let state = state_with s.root s.contents s.renames in
    let told : told_link state entry (Some (c.args.linked, c.args.mode, ask.caller)) ask.from ≡ None = search rules in
    let same = nothing_linked state entry (Some (c.args.linked, c.args.mode, ask.caller)) ask.from told in
    search rules
