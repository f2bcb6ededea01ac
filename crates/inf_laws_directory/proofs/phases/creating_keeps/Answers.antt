use Rattle.std.proofs.Common.{◌≡◌, ℕ, List, Option, Some, None, Ok, refl, sym, ap, ◌∙◌, subst}
use Rattle.inf_base.specs.declared.access.Access.{Access}
use Rattle.inf_base.specs.declared.caller.CallRef.{CallRef}
use Rattle.inf_base.specs.declared.directory.DirRef.{DirRef}
use Rattle.inf_base.specs.declared.entry.Entry.{Entry}
use Rattle.inf_base.specs.Content.{Content, Slot, file}
use Rattle.inf_base.specs.Same.{dir_of}
use Rattle.inf_content.specs.Contents.{slots_found}
use Rattle.inf_content.specs.Slots.{slot_in, with_slot}
use Rattle.inf_message.specs.declared.ask.Ask.{Ask}
use Rattle.inf_server.specs.Files.{create, new_file}
use Rattle.inf_server.specs.Response.{Response}
use Rattle.inf_laws_directory.specs.Leads.{Leads}
use Rattle.inf_laws_directory.specs.Objects.{Objects, Service, content_in, site_in, with_state}
use Rattle.inf_laws_directory.specs.Owned.{AreOwned, IsUnheld}
use Rattle.inf_laws_directory.specs.Phases.{IsLoose, IsReserving, IsSealing, Phase, Phases, idle, with_phase}
use Rattle.inf_laws_directory.specs.Steps.{Keeps}
use Rattle.inf_laws_directory.proofs.CallFacts.{same_phases}
use Rattle.inf_laws_directory.proofs.Kept.{content_here}
use Rattle.inf_laws_directory.proofs.AskedFacts.{IsThere, is_there}
use Rattle.inf_laws_directory.proofs.OpenDirectories.{IsOpen, is_open}
use Rattle.inf_content.proofs.Ordered.{with_file_in_order}
use Rattle.inf_laws_directory.proofs.OwnedFacts.{led_not_loose, sealed_by}
use Rattle.inf_laws_directory.proofs.ServedSlots.{slot_changes}
use Rattle.inf_laws_directory.proofs.SlotFacts.{with_slot_apart, with_slot_here}
use Rattle.inf_laws_directory.proofs.SlotSteps.{MayChange, slot_step_keeps}
use Rattle.inf_laws_server.proofs.Came.{Did}
use Rattle.inf_laws_server.specs.Passed.{MayPut}
use Rattle.inf_laws_directory.proofs.ServedKinds.{created, has_edited}
use Rattle.inf_server.specs.Chains.{last_of}
use Rattle.inf_message.specs.declared.request.Request.TheVariants as request
use Rattle.inf_laws_server.specs.Edits as edit
use Rattle.inf_message.specs.declared.op.Op.TheVariants as op
use Rattle.inf_laws_directory.proofs.phases.creating_keeps.Goals as goal

module _ (service : Service) (objects : Objects) (number : ℕ) (root : Access) (phases : Phases) (ask : Ask)
    (path : List (List ℕ)) (chain : List Entry) (name : List ℕ) (mode : ℕ) (done : Response)
    (owned : AreOwned service objects root phases) (at_idle : phases ask.from ≡ idle)
    (leads : Leads (content_in service objects) root path chain)
    (is : create (site_in service number) (objects number) ask chain name mode ≡ Ok done) where
  abbrev next : Objects
  next = with_state number done.state objects

  abbrev new : Slot
  new = file (new_file ask.caller mode) None

  was_created : Did (site_in service number) (objects number) 0 ask (request.Finish chain (op.Create name mode)) done
  was_created = created (site_in service number) (objects number) ask done chain name mode is

  abbrev put : MayPut (site_in service number) (objects number) ask chain name
  put = was_created.passed

  abbrev dir : DirRef
  dir = dir_of put.entry.access

  opened : IsOpen service objects ask.from chain put.entry
  opened = is_open service objects number ask.from chain put.entry put.is_asked

  there : IsThere (content_in service objects dir)
  there = is_there (content_in service objects dir) opened.there

  free : slot_in name there.value.slots ≡ None
  free =
      ap (λ (o : Option Content). slot_in name (slots_found o)) (sym there.there)
      ∙ ap (λ (o : Option Content). slot_in name (slots_found o)) (content_here service objects number done.state dir put.is_asked.here)
      ∙ put.free

  may_create : MayChange service objects next root phases ask.from idle dir name None (Some new)
  may_create = record {
    unmade = led_not_loose service objects root phases owned path chain put.entry leads put.is_asked.last;
    unsealed = λ call sealing.
        let own = opened.unsealed call (sealed_by service objects root phases owned call dir sealing) in
        subst (λ (phase : Phase). IsSealing phase dir) at_idle (subst (λ (c : CallRef). IsSealing (phases c) dir) own sealing);
    unseen = refl;
    own = λ call access same. cc;
    reserves = λ call access same. absurd (cc);
    unheld = λ slot same. let same_slot : new ≡ slot = cc in subst IsUnheld same_slot refl;
    stands = λ access same. absurd (cc);
    has = tt;
    reserving = λ other second apart reserving. absurd (subst (λ (phase : Phase). IsReserving phase other second) at_idle reserving);
    sealing = λ other sealing. subst (λ (phase : Phase). IsSealing phase other) at_idle sealing;
    loose = λ other loose. absurd (subst (λ (phase : Phase). IsLoose phase other) at_idle loose);
    loose_before = λ other loose. absurd loose;
  }

  creating : Keeps service objects next root phases phases
  creating =
      subst (λ (after : Phases). Keeps service objects next root phases after)
      (ap (λ (phase : Phase). with_phase ask.from phase phases) (sym at_idle) ∙ same_phases ask.from phases)
      (slot_step_keeps service objects next root phases ask.from idle dir name None (Some new) owned
      (slot_changes service objects number done.state owned.order dir (with_slot name new) (with_file_in_order dir name (new_file ask.caller mode)) (has_edited (site_in service number) (objects number) done.state ask.from (last_of chain) put.entry (edit.puts name (new_file ask.caller mode)) put.is_asked was_created.did) there.value there.there
      name None (Some new) free (with_slot_here name new there.value.slots) (λ other apart. with_slot_apart name other new there.value.slots apart))
      may_create)

pub returns : goal.returns
returns c = creating
