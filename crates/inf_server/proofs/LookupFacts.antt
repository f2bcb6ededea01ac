-- What a lookup is told where a directory stands under the name.
use Rattle.std.proofs.Common.{◌≡◌, ℕ, ◌==◌, true, List, Option, Some, None, IfSome, Ok, refl, arith, ap, ◌∙◌}
use Rattle.std.proofs.lemmas.Bool.Decides.{nat_tests}
use Rattle.inf_base.specs.declared.caller.CallRef.{CallRef}
use Rattle.inf_base.specs.declared.directory.DirRef.{DirRef}
use Rattle.inf_base.specs.declared.id.Id.{Id}
use Rattle.inf_base.specs.declared.key.Key.TheVariants as key
use Rattle.inf_base.specs.Checks.{◌>>=◌}
use Rattle.inf_base.specs.Content.{Content, Slot, reserved, file, directory}
use Rattle.inf_content.specs.Contents.{content_of_id}
use Rattle.inf_content.specs.Slot.{holder}
use Rattle.inf_content.specs.Slots.{access_of, seen_of, slot_in}
use Rattle.inf_content.specs.declared.seen.Seen.TheVariants as seen
use Rattle.inf_message.specs.declared.reply.Reply.{Reply}
use Rattle.inf_message.specs.declared.reply.Reply.TheVariants as reply
use Rattle.inf_server.specs.Lookups.{lookup_at, told_of, unheld, unless_sealed}
use Rattle.inf_server.specs.Response.{Gives, done}
use Rattle.inf_server.specs.State.{Site, State, is_here}

-- the directory is told, if no call holds it
pub directory_told : (dir : DirRef) (name : List ℕ) (slot : Option Slot) (told : DirRef) (mode owner group : ℕ)
    (held : Option CallRef) (given : Reply)
    → seen_of slot ≡ seen.Dir told mode owner group held → unheld dir.born held ≡ Ok tt
    → IfSome (access_of slot) (λ access. given ≡ reply.Found (key.At dir name) access)
    → (state : State) → Gives state (told_of dir name slot >>= λ reply. done reply state) given state
directory_told dir name None told mode owner group held given shown free is state = cc
directory_told dir name (Some (reserved by access)) told mode owner group held given shown free is state = cc
directory_told dir name (Some (file meta holds)) told mode owner group held given shown free is state = cc
directory_told dir name (Some (directory access holds)) told mode owner group held given shown free is state =
    let same : holder holds ≡ held = cc in
    let unheld_now : unheld dir.born (holder holds) ≡ Ok tt = ap (unheld dir.born) same ∙ free in
    rw (is, unheld_now) refl

-- what is told of the slot of the directory that was found, the lookup is told
pub looked_up : (site : Site) (state : State) (id : Id) (name : List ℕ) (found : Content) (given : Reply)
    → is_here site id ≡ true → content_of_id id state.contents ≡ Some found
    → unless_sealed found.dir.born found.seal ≡ Ok tt
    → Gives state (told_of (record { id = id; born = found.dir.born }) name (slot_in name found.slots)
    >>= λ reply. done reply state) given state
    → Gives state (lookup_at site state id name) given state
looked_up site state id name found given here is unsealed told =
    let born : (found.dir.born == found.dir.born) ≡ true = grind (arith, nat_tests) in
    rw (here, is, born, unsealed) told
