use Rattle.std.proofs.Common.{◌≡◌, ℕ, inl, inr, true, List, Option, Some, None, Ok, refl, sym, ap, ◌∙◌, subst}
use Rattle.std.specs.Option.{option_map}
use Rattle.inf_base.specs.declared.access.Access.{Access}
use Rattle.inf_base.specs.declared.caller.CallRef.{CallRef}
use Rattle.inf_base.specs.declared.directory.DirRef.{DirRef}
use Rattle.inf_base.specs.Content.{Content}
use Rattle.inf_base.specs.Same.{dir_of, is_same_call}
use Rattle.inf_base.proofs.Same.{same_call_self}
use Rattle.inf_content.specs.Contents.{may_drop_found, seal_left, seal_of, slots_found}
use Rattle.inf_message.specs.declared.ask.Ask.{Ask}
use Rattle.inf_message.specs.declared.request.Request.TheVariants as request
use Rattle.inf_server.specs.Removals.{drop_dir, unseal}
use Rattle.inf_server.specs.Response.{Response}
use Rattle.inf_server.specs.State.{State}
use Rattle.inf_laws_directory.specs.Objects.{Objects, Service, content_in, site_in, with_state}
use Rattle.inf_laws_directory.specs.Owned.{AreOwned, Has, StandsUnder}
use Rattle.inf_laws_directory.specs.Phases.{IsLoose, IsReserving, IsSealing, Phase, Phases, has_sealed, has_unlinked, idle, with_phase}
use Rattle.inf_laws_directory.specs.Steps.{Keeps}
use Rattle.inf_laws_directory.specs.Told.{IsGone}
use Rattle.inf_laws_directory.proofs.CallFacts.{none_not_some}
use Rattle.inf_laws_directory.proofs.ContentSteps.{MayBecome, content_step_owned, content_step_told}
use Rattle.inf_laws_directory.proofs.Kept.{Becomes, changed_becomes, dropped_becomes}
use Rattle.inf_laws_directory.proofs.OwnedFacts.{IsInHands, loose_in, one_bearer, one_loose, sealing_in}
use Rattle.inf_laws_directory.proofs.SameContents.{kept_stay}
use Rattle.inf_laws_directory.proofs.ServedSlots.{orders_after}
use Rattle.inf_laws_server.proofs.Serves.{done_in_order}
use Rattle.inf_laws_directory.proofs.ServedKinds.{dropped, forgot, unsealed}
use Rattle.inf_laws_directory.proofs.phases.ending_keeps.Goals as goal

own_seal : (by : CallRef) (seal : Option CallRef) → seal ≡ Some by → seal_left by seal ≡ None
own_seal by None is = refl
own_seal by (Some other) is =
    let same : other ≡ by = cc is in
    let own : is_same_call other by ≡ true = subst (λ (c : CallRef). is_same_call c by ≡ true) (sym same) (same_call_self by) in
    rw own refl

may_drop_own : (by : CallRef) (content : Content) → content.seal ≡ Some by → may_drop_found by (Some content) ≡ true
may_drop_own by content is = (let own = same_call_self by in rw is (rw own refl))

-- a directory that is unlinked is dropped
module _ (service : Service) (objects : Objects) (number : ℕ) (root : Access) (phases : Phases) (ask : Ask) (target : DirRef) (done : Response)
    (owned : AreOwned service objects root phases) (phase : phases ask.from ≡ has_unlinked target)
    (is : drop_dir (site_in service number) (objects number) ask target ≡ Ok done) where
  abbrev after_drop : Objects
  after_drop = with_state number done.state objects

  has_it : Has service objects ask.from (has_unlinked target)
  has_it = subst (λ (p : Phase). Has service objects ask.from p) phase (owned.has ask.from)

  hands : IsInHands service objects ask.from target
  hands = sealing_in service objects root phases owned ask.from target (subst (λ (p : Phase). IsSealing p target) (sym phase) refl)

  drops : Becomes service objects after_drop target None
  drops =
      let was_dropped = dropped (site_in service number) (objects number) ask done target is in
      dropped_becomes service objects number done.state target was_dropped.passed.here ask.from (owned.order number)
      (ap (may_drop_found ask.from) has_it.0.there ∙ may_drop_own ask.from has_it.0.content has_it.0.seal) (ap (λ (s : State). s.contents) was_dropped.did)

  may_drop : MayBecome service objects after_drop root phases ask.from idle target None
  may_drop = record {
    order = orders_after objects number done.state owned.order (done_in_order (site_in service number) (objects number) 0 ask done.reply done.state (request.Drop target) (dropped (site_in service number) (objects number) ask done target is) (owned.order number));
    becomes = drops;
    same_slots = sym hands.empty;
    not_loose = λ call apart loose. apart (one_loose service objects root phases owned ask.from call target hands loose);
    not_sealed = λ call apart sealing. apart (one_bearer service objects root phases owned ask.from call target hands (sealing_in service objects root phases owned call target sealing));
    seals = λ content call there. none_not_some None content refl there;
    root_kept = λ same. absurd (owned.root_apart ask.from (subst (λ (p : Phase). IsLoose p (dir_of root)) (sym phase) same));
    linked_kept = λ parent name access linked same. absurd (has_it.1 parent name access linked same);
    placed = λ there. absurd (cc);
    has = tt;
    reserving = λ other name reserving. absurd (subst (λ (p : Phase). IsReserving p other name) phase reserving);
    sealing = λ other not_target sealing. absurd (not_target (sym (subst (λ (p : Phase). IsSealing p other) phase sealing)));
    loose = λ other not_target loose. absurd (not_target (sym (subst (λ (p : Phase). IsLoose p other) phase loose)));
    unlinked = λ other not_target unlinked.
        let both : has_unlinked target ≡ has_unlinked other = sym phase ∙ unlinked in
        let same : target ≡ other = cc both in
        absurd (not_target (sym same));
    root_apart = λ loose. loose;
  }

  dropping : Keeps service objects after_drop root phases (with_phase ask.from idle phases)
  dropping = record {
    owned = content_step_owned service objects after_drop root phases ask.from idle target None owned may_drop;
    told = λ k access. content_step_told service objects after_drop root phases ask.from idle target None owned may_drop k access (λ gone same. inl drops.here);
  }

-- or its seal is lifted
module _ (service : Service) (objects : Objects) (number : ℕ) (root : Access) (phases : Phases) (ask : Ask)
    (parent target : DirRef) (name : List ℕ) (done : Response)
    (owned : AreOwned service objects root phases) (phase : phases ask.from ≡ has_sealed parent name target)
    (is : unseal (site_in service number) (objects number) ask target ≡ Ok done) where
  abbrev after_unseal : Objects
  after_unseal = with_state number done.state objects

  has_sealed_it : Has service objects ask.from (has_sealed parent name target)
  has_sealed_it = subst (λ (p : Phase). Has service objects ask.from p) phase (owned.has ask.from)

  hands_sealed : IsInHands service objects ask.from target
  hands_sealed = sealing_in service objects root phases owned ask.from target (subst (λ (p : Phase). IsSealing p target) (sym phase) refl)

  abbrev kept : Content
  kept = has_sealed_it.0.content

  abbrev stands : StandsUnder service objects parent name target
  stands = has_sealed_it.1

  lifts : Becomes service objects after_unseal target (Some (record kept { seal = None }))
  lifts =
      let was_unsealed = unsealed (site_in service number) (objects number) ask done target is in
      subst (λ (s : Option CallRef). Becomes service objects after_unseal target (Some (record kept { seal = s }))) (own_seal ask.from kept.seal has_sealed_it.0.seal)
      (subst (λ (o : Option Content). Becomes service objects after_unseal target (option_map (λ (c : Content). record c { seal = seal_left ask.from c.seal }) o)) has_sealed_it.0.there
      (changed_becomes service objects number done.state target was_unsealed.passed.here (λ (c : Content). record c { seal = seal_left ask.from c.seal }) (λ c. refl)
      (ap (λ (s : State). s.contents) was_unsealed.did)))

  not_loose : (call : CallRef) → IsLoose (phases call) target → ⊥
  not_loose call loose = (loose_in service objects root phases owned call target loose).unlinked parent name stands.access stands.linked stands.same

  may_unseal : MayBecome service objects after_unseal root phases ask.from idle target (Some (record kept { seal = None }))
  may_unseal = record {
    order = orders_after objects number done.state owned.order (done_in_order (site_in service number) (objects number) 0 ask done.reply done.state (request.Unseal target) (unsealed (site_in service number) (objects number) ask done target is) (owned.order number));
    becomes = lifts;
    same_slots = sym (ap slots_found has_sealed_it.0.there);
    not_loose = λ call apart. not_loose call;
    not_sealed = λ call apart sealing. apart (one_bearer service objects root phases owned ask.from call target hands_sealed (sealing_in service objects root phases owned call target sealing));
    seals = λ content call there seal.
        let none : content.seal ≡ None = sym (ap seal_of there) in
        none_not_some content.seal call none seal;
    root_kept = λ same. refl;
    linked_kept = λ other second access linked same. refl;
    placed = λ there. inr (inl (record { parent = parent; name = name; access = stands.access; linked = stands.linked; same = stands.same }));
    has = tt;
    reserving = λ other second reserving. absurd (subst (λ (p : Phase). IsReserving p other second) phase reserving);
    sealing = λ other not_target sealing. absurd (not_target (sym (subst (λ (p : Phase). IsSealing p other) phase sealing)));
    loose = λ other not_target loose. absurd (subst (λ (p : Phase). IsLoose p other) phase loose);
    unlinked = λ other not_target unlinked. let never : has_sealed parent name target ≡ has_unlinked other = sym phase ∙ unlinked in absurd (cc);
    root_apart = λ loose. loose;
  }

  -- the directory that was sealed is not gone
  not_gone : IsGone service objects phases target → ⊥
  not_gone (inl none) = none_not_some (content_in service objects target) kept none has_sealed_it.0.there
  not_gone (inr unlinked) = not_loose unlinked.call (subst (λ (p : Phase). IsLoose p target) (sym unlinked.unlinked) refl)

  unsealing : Keeps service objects after_unseal root phases (with_phase ask.from idle phases)
  unsealing = record {
    owned = content_step_owned service objects after_unseal root phases ask.from idle target (Some (record kept { seal = None })) owned may_unseal;
    told = λ k access. content_step_told service objects after_unseal root phases ask.from idle target (Some (record kept { seal = None })) owned may_unseal k access
        (λ gone same. absurd (not_gone gone));
  }

pub returns-clause-dropped : goal.returns-clause-dropped
returns-clause-dropped c = dropping

pub returns-clause-unsealed : goal.returns-clause-unsealed
returns-clause-unsealed c = unsealing

pub returns-clause-forgotten : goal.returns-clause-forgotten
returns-clause-forgotten c = λ service objects number root phases ask parent target done owned is.
    kept_stay service objects number done.state (ap (λ (s : State). s.contents) (forgot (site_in service number) (objects number) ask done parent target is).did) root phases owned
