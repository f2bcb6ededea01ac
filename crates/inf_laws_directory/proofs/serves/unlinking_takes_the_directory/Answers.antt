use Rattle.std.proofs.Common.{◌≡◌, ℕ, List, ap, sym, subst, subst₂}
use Rattle.inf_base.specs.declared.entry.Entry.{Entry}
use Rattle.inf_base.specs.Content.{Slot}
use Rattle.inf_base.specs.Same.{dir_of}
use Rattle.inf_content.specs.Contents.{slots_at}
use Rattle.inf_content.specs.Slots.{slot_in, without_slot}
use Rattle.inf_laws_directory.specs.Changes.{Takes}
use Rattle.inf_laws_directory.specs.Objects.{content_in, site_in}
use Rattle.inf_laws_directory.specs.Serves.{StandsAs, directories_after}
use Rattle.inf_laws_directory.specs.Things.{thing_in, thing_under}
use Rattle.inf_laws_directory.proofs.ContentFacts.{slots_sorted}
use Rattle.inf_laws_directory.proofs.ServiceFacts.{slots_here, taken_by}
use Rattle.inf_laws_directory.proofs.SlotFacts.{without_slot_apart, without_slot_gone}
use Rattle.inf_laws_directory.proofs.ServedKinds.{has_edited, named_so, unlinked_so, unlinked_stood}
use Rattle.inf_server.specs.Chains.{before_last, last_of}
use Rattle.inf_laws_server.specs.Edits as edit
use Rattle.inf_laws_directory.proofs.serves.unlinking_takes_the_directory.Goals as goal

pub returns-clause-stood : goal.returns-clause-stood
returns-clause-stood c = λ service objects number ask chain target parent dir name done is at_last at_name at_parent.
    let was_unlinked = unlinked_so (site_in service number) (objects number) ask done chain is in
    let taken = was_unlinked.passed in
    let has = has_edited (site_in service number) (objects number) done.state ask.from (last_of (before_last chain)) taken.entry (edit.takes taken.name) taken.is_asked was_unlinked.did in
    let place = dir_of taken.entry.access in
    let same_target : taken.target ≡ target = cc (taken.last, at_last) in
    let same_parent : taken.entry ≡ parent = cc (taken.is_asked.last, at_parent) in
    let named = named_so taken.target target dir taken.name name taken.named same_target at_name in
    let stood = subst (λ (slots : List (List ℕ × Slot)). StandsAs (dir_of taken.target.access) (thing_in (slot_in taken.name slots))) (sym (slots_here service objects number done.state place has.here)) (unlinked_stood (site_in service number) (objects number) ask chain taken) in
    let there = subst₂ (λ (e : Entry) (n : List ℕ). StandsAs (dir_of taken.target.access) (thing_under n (dir_of e.access) (content_in service objects))) same_parent named stood in
    subst (λ (e : Entry). StandsAs (dir_of e.access) (thing_under name (dir_of parent.access) (content_in service objects))) same_target there

pub returns-clause-takes : goal.returns-clause-takes
returns-clause-takes c = λ service objects number ask chain target parent dir name done ordered is at_last at_name at_parent.
    let was_unlinked = unlinked_so (site_in service number) (objects number) ask done chain is in
    let taken = was_unlinked.passed in
    let has = has_edited (site_in service number) (objects number) done.state ask.from (last_of (before_last chain)) taken.entry (edit.takes taken.name) taken.is_asked was_unlinked.did in
    let place = dir_of taken.entry.access in
    let slots = slots_at place (objects number).contents in
    let same_target : taken.target ≡ target = cc (taken.last, at_last) in
    let same_parent : taken.entry ≡ parent = cc (taken.is_asked.last, at_parent) in
    let named = named_so taken.target target dir taken.name name taken.named same_target at_name in
    subst₂ (λ (e : Entry) (n : List ℕ). Takes (content_in service objects) (directories_after service objects number done.state) (dir_of e.access) n) same_parent named
    (taken_by service objects number done.state place (without_slot taken.name) has taken.name
    (λ other apart. ap thing_in (without_slot_apart taken.name other slots apart))
    (ap thing_in (without_slot_gone taken.name slots (slots_sorted place (objects number).contents ordered.names))))
