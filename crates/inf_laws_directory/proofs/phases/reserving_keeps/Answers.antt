use Rattle.std.proofs.Common.{◌≡◌, ℕ, List, Option, Some, None, is_some, Ok, refl, sym, ap, ◌∙◌, subst}
use Rattle.inf_base.specs.declared.access.Access.{Access}
use Rattle.inf_base.specs.declared.caller.CallRef.{CallRef}
use Rattle.inf_base.specs.declared.directory.DirRef.{DirRef}
use Rattle.inf_base.specs.declared.entry.Entry.{Entry}
use Rattle.inf_base.specs.declared.triple.Triple.{Triple}
use Rattle.inf_base.specs.declared.triple.Triple.TheVariants as triple
use Rattle.inf_base.specs.Content.{Content, Slot, reserved}
use Rattle.inf_base.specs.Same.{dir_of}
use Rattle.inf_content.specs.Contents.{content_at, slots_found}
use Rattle.inf_content.specs.Slots.{slot_in, with_slot}
use Rattle.inf_message.specs.declared.ask.Ask.{Ask}
use Rattle.inf_message.specs.declared.reply.Reply.TheVariants as reply
use Rattle.inf_renames.specs.Renames.{least_version}
use Rattle.inf_server.specs.Births.{access_to_come, reserve}
use Rattle.inf_server.specs.Chains.{last_of}
use Rattle.inf_server.specs.Response.{Response}
use Rattle.inf_laws_directory.specs.Leads.{Leads}
use Rattle.inf_laws_directory.specs.Objects.{Objects, Service, content_in, site_in, with_state}
use Rattle.inf_laws_directory.specs.Owned.{AreOwned, IsUnheld}
use Rattle.inf_laws_directory.specs.Phases.{IsLoose, IsReserving, IsSealing, Phase, Phases, has_reserved, idle, with_phase}
use Rattle.inf_laws_directory.specs.Steps.{Keeps}
use Rattle.inf_laws_directory.specs.Things.{a_dir}
use Rattle.inf_laws_directory.proofs.AskedFacts.{IsThere, asked_not_sealed, is_there, same_last}
use Rattle.inf_laws_directory.proofs.CallFacts.{none_not_some}
use Rattle.inf_laws_directory.proofs.Kept.{content_here}
use Rattle.inf_content.proofs.Ordered.{reserved_in_order}
use Rattle.inf_laws_directory.proofs.OwnedFacts.{led_not_loose}
use Rattle.inf_laws_directory.proofs.ServedSlots.{slot_changes}
use Rattle.inf_laws_directory.proofs.SlotFacts.{with_slot_apart, with_slot_here}
use Rattle.inf_laws_directory.proofs.SlotSteps.{MayChange, SlotChanges, slot_step_keeps}
use Rattle.inf_laws_server.proofs.Came.{Did}
use Rattle.inf_laws_server.specs.Passed.{MayPut}
use Rattle.inf_laws_directory.proofs.ServedKinds.{has_edited, reserved_name}
use Rattle.inf_message.specs.declared.request.Request.TheVariants as request
use Rattle.inf_laws_server.specs.Edits as edit
use Rattle.inf_laws_directory.proofs.phases.reserving_keeps.Goals as goal

module _ (service : Service) (objects : Objects) (number version : ℕ) (root : Access) (phases : Phases) (ask : Ask)
    (path : List (List ℕ)) (chain : List Entry) (last : Entry) (name : List ℕ) (end : Response)
    (owned : AreOwned service objects root phases) (phase : phases ask.from ≡ idle)
    (leads : Leads (content_in service objects) root path chain) (at_last : last_of chain ≡ Some last)
    (is : reserve (site_in service number) (objects number) ask chain name ≡ Ok end) (told : end.reply ≡ reply.Reserved version) where
  abbrev next : Objects
  next = with_state number end.state objects

  abbrev birth_in : Entry → Triple
  birth_in e = triple.Of e.access.id name (least_version e.access.id name (objects number).renames)

  was_reserved : Did (site_in service number) (objects number) 0 ask (request.Reserve chain name) end
  was_reserved = reserved_name (site_in service number) (objects number) ask end chain name is

  abbrev put : MayPut (site_in service number) (objects number) ask chain name
  put = was_reserved.passed

  same_entry : put.entry ≡ last
  same_entry = same_last chain put.entry last put.is_asked.last at_last

  abbrev dir : DirRef
  dir = dir_of put.entry.access

  abbrev access : Access
  access = access_to_come (site_in service number) ask.caller (birth_in put.entry)

  abbrev birth : Triple
  birth = triple.Of last.access.id name version

  abbrev slot : Slot
  slot = reserved ask.from access

  birth_told : birth_in put.entry ≡ birth
  birth_told =
      let least = least_version put.entry.access.id name (objects number).renames in
      let numbers : least ≡ version = (let both : reply.Reserved least ≡ reply.Reserved version = sym was_reserved.said ∙ told in cc) in
      ap (λ (v : ℕ). triple.Of put.entry.access.id name v) numbers ∙ ap (λ (e : Entry). triple.Of e.access.id name version) same_entry

  kept_here : content_in service objects dir ≡ content_at dir (objects number).contents
  kept_here = content_here service objects number end.state dir put.is_asked.here

  content_there : IsThere (content_in service objects dir)
  content_there = is_there (content_in service objects dir) (ap is_some kept_here ∙ put.is_asked.there)

  free : slot_in name content_there.value.slots ≡ None
  free = ap (λ (o : Option Content). slot_in name (slots_found o)) (sym content_there.there ∙ kept_here) ∙ put.free

  changes : SlotChanges service objects next dir name None (Some slot)
  changes =
      slot_changes service objects number end.state owned.order dir (with_slot name slot) (reserved_in_order dir name ask.from access) (has_edited (site_in service number) (objects number) end.state ask.from (last_of chain) put.entry (edit.keeps name ask.from access) put.is_asked was_reserved.did) content_there.value content_there.there
      name None (Some slot) free (with_slot_here name slot content_there.value.slots)
      (λ other apart. with_slot_apart name other slot content_there.value.slots apart)

  not_sealed : (call : CallRef) → IsSealing (phases call) dir → ⊥
  not_sealed =
      asked_not_sealed service objects number root phases owned ask.from (last_of chain) put.entry put.is_asked
      (λ sealing. subst (λ (p : Phase). IsSealing p (dir_of put.entry.access)) phase sealing)

  may_reserve : MayChange service objects next root phases ask.from (has_reserved dir name birth) dir name None (Some slot)
  may_reserve = record {
    unmade = led_not_loose service objects root phases owned path chain put.entry leads put.is_asked.last;
    unsealed = not_sealed;
    unseen = refl;
    own = λ call other same. none_not_some None (reserved call other) refl same;
    reserves = λ call other same. (cc, (refl, refl));
    unheld = λ other same. let it : slot ≡ other = cc in subst IsUnheld it tt;
    stands = λ other same. none_not_some None (a_dir other) refl same;
    has = record { access = access; slot = ap (λ (o : Option Content). slot_in name (slots_found o)) changes.here ∙ changes.slot_after; birth_kept = birth_told };
    reserving = λ other_dir other apart reserving. absurd (subst (λ (p : Phase). IsReserving p other_dir other) phase reserving);
    sealing = λ other sealing. subst (λ (p : Phase). IsSealing p other) phase sealing;
    loose = λ other loose. absurd (subst (λ (p : Phase). IsLoose p other) phase loose);
    loose_before = λ other loose. absurd loose;
  }

  reserving : Keeps service objects next root phases (with_phase ask.from (has_reserved (dir_of last.access) name birth) phases)
  reserving = subst (λ (e : Entry). Keeps service objects next root phases (with_phase ask.from (has_reserved (dir_of e.access) name birth) phases)) same_entry
      (slot_step_keeps service objects next root phases ask.from (has_reserved dir name birth) dir name None (Some slot) owned changes may_reserve)

pub returns : goal.returns
returns c = reserving
