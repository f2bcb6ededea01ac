use Rattle.std.proofs.Common.{◌≡◌, ℕ, Option, Some, ap, ◌∙◌, subst, sym}
use Rattle.inf_base.specs.declared.caller.Caller.{Caller}
use Rattle.inf_base.specs.declared.directory.DirRef.{DirRef}
use Rattle.inf_base.specs.declared.entry.Entry.{Entry}
use Rattle.inf_base.specs.Content.{reserved}
use Rattle.inf_base.specs.Same.{dir_of}
use Rattle.inf_content.specs.Contents.{slots_at}
use Rattle.inf_content.specs.Slot.{filled, linked, reserves}
use Rattle.inf_content.specs.Slots.{filled_in, first}
use Rattle.inf_laws_directory.specs.Changes.{Puts}
use Rattle.inf_laws_directory.specs.Objects.{content_in, site_in, slots_kept}
use Rattle.inf_laws_directory.specs.Serves.{directories_after}
use Rattle.inf_laws_directory.specs.Things.{a_dir, thing_in}
use Rattle.inf_laws_directory.proofs.ContentFacts.{slots_sorted}
use Rattle.inf_laws_directory.proofs.ServiceFacts.{put_by, slots_here}
use Rattle.inf_laws_directory.proofs.SlotFacts.{first_is_changed}
use Rattle.inf_laws_directory.proofs.ServedKinds.{has_edited, linked_so}
use Rattle.inf_server.specs.Chains.{last_of}
use Rattle.inf_laws_server.specs.Edits as edit
use Rattle.inf_laws_directory.proofs.serves.linking_puts_a_directory.Goals as goal

pub returns : goal.returns
returns c = λ service objects number ask chain last dir mode name by access done ordered is at_last at_first.
    let was_linked = linked_so (site_in service number) (objects number) ask done chain name dir mode is in
    let put = was_linked.passed in
    let has = has_edited (site_in service number) (objects number) done.state ask.from (last_of chain) put.entry (edit.fills ask.from dir mode ask.caller) put.is_asked was_linked.did in
    let place = dir_of put.entry.access in
    let link : Option (DirRef × ℕ × Caller) = Some (dir, mode, ask.caller) in
    let same : put.entry ≡ last = cc (put.is_asked.last, at_last) in
    let slots = slots_at place (objects number).contents in
    let here : first (reserves ask.from) slots ≡ Some (name, reserved by access) =
    ap (first (reserves ask.from)) (sym (slots_here service objects number done.state place has.here))
    ∙ ap (λ (e : Entry). first (reserves ask.from) (slots_kept service objects (dir_of e.access))) same ∙ at_first in
    let changed = first_is_changed (reserves ask.from) (filled link) slots (name, reserved by access) (slots_sorted place (objects number).contents ordered.names) here in
    subst (λ (e : Entry). Puts (content_in service objects) (directories_after service objects number done.state) (dir_of e.access) name (a_dir (linked link access))) same
    (put_by service objects number done.state place (filled_in ask.from link) has name
    (λ other apart. ap thing_in (changed.others other apart))
    (a_dir (linked link access)) (ap thing_in changed.old) (ap thing_in changed.new))
