use Rattle.std.proofs.Common.{◌≡◌, true, Some, Ok, rules}
use Rattle.inf_base.specs.declared.directory.DirRef.{DirRef}
use Rattle.inf_content.specs.Contents.{content_of_id}
use Rattle.inf_content.specs.Slots.{slot_in}
use Rattle.inf_server.specs.Lookups.{unheld, unless_sealed}
use Rattle.inf_server.specs.Server.{site_of}
use Rattle.inf_server.specs.State.{is_here}
use Rattle.inf_server.proofs.LookupFacts.{directory_told, looked_up}
use Rattle.inf_server.proofs.server.Server.lookup_at.Goals as goal

pub returns-in-Ok-clause-done : goal.returns-in-Ok-clause-done
returns-in-Ok-clause-done g c =
    let s = c.args.self.now in
    let id = c.args.id.now in
    let name = c.args.name.now in
    let found = c.in-Some.directory in
    let dir : DirRef = record { id = id; born = found.dir.born } in
    let here : is_here (site_of g.R.IdRule.digest_of s) id ≡ true = search rules in
    let is : content_of_id id s.state.contents ≡ Some found = search rules in
    let unsealed : unless_sealed found.dir.born found.seal ≡ Ok tt = search rules in
    let free : unheld dir.born c.in-Dir.held ≡ Ok tt = search rules in
    looked_up (site_of g.R.IdRule.digest_of s) s.state id name found c.in-Ok.reply here is unsealed
    (directory_told dir name (slot_in name found.slots) c.in-Dir.dir c.in-Dir.mode c.in-Dir.owner c.in-Dir.group
    c.in-Dir.held c.in-Ok.reply (search rules) free (search rules) s.state)
