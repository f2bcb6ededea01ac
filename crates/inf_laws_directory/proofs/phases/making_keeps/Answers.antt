use Rattle.std.proofs.Common.{◌≡◌, ℕ, true, List, Option, Some, None, is_some, inr, Ok, refl, sym, ap, ◌∙◌, subst}
use Rattle.inf_base.specs.declared.access.Access.{Access}
use Rattle.inf_base.specs.declared.directory.DirRef.{DirRef}
use Rattle.inf_base.specs.declared.id.Id.{Id}
use Rattle.inf_base.specs.declared.triple.Triple.{Triple}
use Rattle.inf_base.specs.Content.{Content}
use Rattle.inf_base.specs.Identity.{identity}
use Rattle.inf_content.specs.Contents.{empty_content, made_at, seal_of, slots_found}
use Rattle.inf_message.specs.declared.ask.Ask.{Ask}
use Rattle.inf_server.specs.Births.{make}
use Rattle.inf_server.specs.Response.{Response}
use Rattle.inf_server.specs.State.{State}
use Rattle.inf_laws_directory.specs.At.{At}
use Rattle.inf_laws_directory.specs.Objects.{Objects, Service, content_in, site_in, with_state}
use Rattle.inf_content.specs.Order.{AreInOrder}
use Rattle.inf_laws_directory.specs.Owned.{AreOwned, Has, IsUnlinked, KeepsName}
use Rattle.inf_laws_directory.specs.Phases.{IsLoose, IsReserving, IsSealing, Phase, Phases, has_made, has_reserved, has_unlinked, with_phase}
use Rattle.inf_laws_directory.specs.Steps.{KeepsOlder}
use Rattle.inf_laws_directory.specs.Told.{IsUnborn}
use Rattle.inf_laws_directory.proofs.CallFacts.{none_not_some, phase_here}
use Rattle.inf_laws_directory.proofs.ContentSteps.{MayBecome, content_step_owned, content_step_told, same_slot, still_unlinked}
use Rattle.inf_laws_directory.proofs.Kept.{Becomes, made_becomes}
use Rattle.inf_content.proofs.Ordered.{made_in_order}
use Rattle.inf_laws_directory.proofs.OwnedFacts.{loose_in, sealing_in}
use Rattle.inf_laws_directory.proofs.ServedSlots.{orders_after}
use Rattle.inf_laws_server.proofs.Came.{Did}
use Rattle.inf_message.specs.declared.request.Request.TheVariants as request
use Rattle.inf_laws_directory.proofs.ServedKinds.{made}
use Rattle.inf_laws_directory.proofs.phases.making_keeps.Goals as goal

not_there : (found : Option Content) → found ≡ None → is_some found ≡ true → ⊥
not_there None none there = cc
not_there (Some c) none there = cc

module _ (service : Service) (objects : Objects) (at : At) (root : Access) (phases : Phases) (ask : Ask)
    (parent : DirRef) (name : List ℕ) (birth : Triple) (end : Response)
    (owned : AreOwned service objects root phases) (phase : phases ask.from ≡ has_reserved parent name birth)
    (unborn : IsUnborn service objects at.ask_place)
    (is : make (site_in service at.number) (objects at.number) at.ask_place ask birth ≡ Ok end) where
  abbrev next : Objects
  next = with_state at.number end.state objects

  abbrev id : Id
  id = identity service.digest birth

  abbrev dir : DirRef
  dir = record { id = id; born = at.ask_place }

  abbrev new : Content
  new = empty_content id at.ask_place birth ask.from

  abbrev then : Phase
  then = has_made parent name birth dir

  kept : KeepsName service objects ask.from parent name birth
  kept = subst (λ (p : Phase). Has service objects ask.from p) phase (owned.has ask.from)

  was_made : Did (site_in service at.number) (objects at.number) at.ask_place ask (request.Make birth) end
  was_made = made (site_in service at.number) (objects at.number) ask end at.ask_place birth is

  contents_made : end.state.contents ≡ made_at id at.ask_place birth ask.from (objects at.number).contents
  contents_made = ap (λ (s : State). s.contents) was_made.did

  comes : Becomes service objects next dir (Some new)
  comes = made_becomes service objects at.number end.state id at.ask_place birth ask.from was_made.passed.here
      was_made.passed.is_new contents_made

  none_there : content_in service objects dir ≡ None
  none_there = unborn.contents dir refl

  same_slots : ◌≡◌ (slots_found (Some new)) (slots_found (content_in service objects dir))
  same_slots = sym (ap slots_found none_there)

  stands_nowhere : IsUnlinked (content_in service objects) dir
  stands_nowhere other n access linked same = unborn.links other n access linked (ap (λ (d : DirRef). d.born) same)

  may_make : MayBecome service objects next root phases ask.from then dir (Some new)
  may_make = record {
    order = orders_after objects at.number end.state owned.order
        (subst AreInOrder (sym contents_made)
        (made_in_order id at.ask_place birth ask.from (objects at.number).contents (owned.order at.number)));
    becomes = comes;
    same_slots = same_slots;
    not_loose = λ call apart loose. not_there _ none_there (loose_in service objects root phases owned call dir loose).hands.present;
    not_sealed = λ call apart sealing. not_there _ none_there (sealing_in service objects root phases owned call dir sealing).present;
    seals = λ content call there sealed. none_not_some content.seal call (sym (ap seal_of there)) sealed;
    root_kept = λ same. refl;
    linked_kept = λ other n access linked same. refl;
    placed = λ there. inr (inr (record { call = ask.from; loose = subst (λ (p : Phase). IsLoose p dir) (sym (phase_here ask.from then phases)) refl }));
    has = (
      record { access = kept.access; slot = same_slot service objects next dir (Some new) comes same_slots parent name ∙ kept.slot; birth_kept = kept.birth_kept },
      comes.here,
      refl,
      still_unlinked service objects next dir (Some new) comes same_slots dir stands_nowhere,
    );
    reserving = λ other n reserving. subst (λ (p : Phase). IsReserving p other n) phase reserving;
    sealing = λ other apart sealing. absurd (subst (λ (p : Phase). IsSealing p other) phase sealing);
    loose = λ other apart loose. absurd (subst (λ (p : Phase). IsLoose p other) phase loose);
    unlinked = λ other apart unlinked. let never : has_reserved parent name birth ≡ has_unlinked other = sym phase ∙ unlinked in cc;
    root_apart = λ same. not_there _ none_there (subst (λ (d : DirRef). is_some (content_in service objects d) ≡ true) (sym same) owned.root_kept);
  }

  making : KeepsOlder service at.ask_place objects next root phases (with_phase ask.from then phases)
  making = record {
    owned = content_step_owned service objects next root phases ask.from then dir (Some new) owned may_make;
    told = λ k access older. content_step_told service objects next root phases ask.from then dir (Some new) owned may_make k access
        (λ gone same. absurd (older (ap (λ (d : DirRef). d.born) same)));
  }

pub returns : goal.returns
returns c = making
