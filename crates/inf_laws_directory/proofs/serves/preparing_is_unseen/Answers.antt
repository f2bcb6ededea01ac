use Rattle.std.proofs.Common.{◌≡◌, None, Some, refl, sym, ap, ◌∙◌}
use Rattle.inf_base.specs.declared.directory.DirRef.{DirRef}
use Rattle.inf_base.specs.Content.{Content, reserved}
use Rattle.inf_base.specs.Identity.{identity}
use Rattle.inf_base.specs.Same.{dir_of}
use Rattle.inf_content.specs.Contents.{empty_content, if_born, seal_left, slots_at}
use Rattle.inf_content.specs.Slots.{lifted, with_slot}
use Rattle.inf_laws_server.specs.Edits as edit
use Rattle.inf_laws_directory.specs.Objects.{content_in, site_in, with_state}
use Rattle.inf_laws_directory.proofs.ContentFacts.{slots_sorted}
use Rattle.inf_laws_directory.proofs.Kept.{changed_becomes, content_here, made_becomes}
use Rattle.inf_laws_directory.proofs.ServiceFacts.{thing_found, unseen_beside_slots, unseen_by, unseen_so}
use Rattle.inf_laws_directory.proofs.SlotFacts.{lifted_unseen, reserved_unseen}
use Rattle.inf_server.specs.State.{State}
use Rattle.inf_laws_directory.proofs.ServedKinds.{cancelled, has_edited, has_lifted, made, reserved_name, sealed_so, unsealed}
use Rattle.inf_server.specs.Chains.{last_of}
use Rattle.inf_base.specs.declared.triple.Triple.TheVariants as triple
use Rattle.inf_renames.specs.Renames.{least_version}
use Rattle.inf_server.specs.Births.{access_to_come}
use Rattle.inf_laws_directory.proofs.serves.preparing_is_unseen.Goals as goal

pub returns-clause-reserving : goal.returns-clause-reserving
returns-clause-reserving c = λ service objects number ask chain name done is.
    let was_reserved = reserved_name (site_in service number) (objects number) ask done chain name is in
    let put = was_reserved.passed in
    let dir = dir_of put.entry.access in
    let id = put.entry.access.id in
    let birth = triple.Of id name (least_version id name (objects number).renames) in
    let access = access_to_come (site_in service number) ask.caller birth in
    unseen_by service objects number done.state dir (with_slot name (reserved ask.from access))
    (has_edited (site_in service number) (objects number) done.state ask.from (last_of chain) put.entry (edit.keeps name ask.from access) put.is_asked was_reserved.did)
    (λ other. reserved_unseen name other ask.from access (slots_at dir (objects number).contents) put.free)

pub returns-clause-making : goal.returns-clause-making
returns-clause-making c = λ service objects at ask birth done is.
    let was_made = made (site_in service at.number) (objects at.number) ask done at.ask_place birth is in
    let id = identity service.digest birth in
    let dir : DirRef = record { id = id; born = at.ask_place } in
    let none : content_in service objects dir ≡ None =
    content_here service objects at.number done.state dir was_made.passed.here ∙ ap (if_born at.ask_place) was_made.passed.is_new in
    unseen_so service objects (with_state at.number done.state objects) dir (Some (empty_content id at.ask_place birth ask.from))
    (made_becomes service objects at.number done.state id at.ask_place birth ask.from was_made.passed.here was_made.passed.is_new (ap (λ (s : State). s.contents) was_made.did))
    (λ there. refl) (λ name. sym (ap (thing_found name) none))

pub returns-clause-cancelling : goal.returns-clause-cancelling
returns-clause-cancelling c = λ service objects number ask dir done ordered is.
    let was_lifted = cancelled (site_in service number) (objects number) ask done dir is in
    let has = has_lifted (site_in service number) (objects number) done.state ask.from dir was_lifted.passed.here was_lifted.did in
    unseen_by service objects number done.state dir (lifted ask.from) has
    (λ name. lifted_unseen ask.from name (slots_at dir (objects number).contents) (slots_sorted dir (objects number).contents ordered.names))

pub returns-clause-sealing : goal.returns-clause-sealing
returns-clause-sealing c = λ service objects number ask chain done is.
    let seals = sealed_so (site_in service number) (objects number) ask done chain is in
    let dir = dir_of seals.passed.entry.access in
    let change = λ (c : Content). record c { seal = Some ask.from } in
    unseen_beside_slots service objects number done.state dir change (λ c. refl)
    (changed_becomes service objects number done.state dir seals.passed.is_asked.here change (λ c. refl) (ap (λ (s : State). s.contents) seals.did))

pub returns-clause-unsealing : goal.returns-clause-unsealing
returns-clause-unsealing c = λ service objects number ask dir done is.
    let was_unsealed = unsealed (site_in service number) (objects number) ask done dir is in
    let change = λ (c : Content). record c { seal = seal_left ask.from c.seal } in
    unseen_beside_slots service objects number done.state dir change (λ c. refl)
    (changed_becomes service objects number done.state dir was_unsealed.passed.here change (λ c. refl) (ap (λ (s : State). s.contents) was_unsealed.did))
