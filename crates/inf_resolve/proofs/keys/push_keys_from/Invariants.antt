use Rattle.std.proofs.Common.{◌≡◌, drop}
use Rattle.std.specs.List.{fold}
use Rattle.inf_resolve.specs.Keys.{keys_from, leads_to, with_key}
use Rattle.inf_resolve.specs.Known.{told_at}
use Rattle.inf_resolve.proofs.keys.push_keys_from.Given as goal

abbrev pub invariant-loop-name : goal.invariant-loop-name
invariant-loop-name g l =
    fold (with_key l.known) l.keys.items
    (keys_from (g.R.IdRule.digest_of l.rule) l.known
    (leads_to (g.R.IdRule.digest_of l.rule) l.dir l.above (told_at l.known l.dir l.above)) (drop l.name-index l.others))
    ≡ fold (with_key l.known) l.fn.keys.items (keys_from (g.R.IdRule.digest_of l.rule) l.known l.fn.id l.names)
