use Rattle.std.proofs.Common.{◌≡◌, ℕ, inl, inr, true, List, [], ◌∷◌, ◌++◌, Option, Some, Ok, refl, sym, ap, ◌∙◌, subst}
use Rattle.std.specs.Option.{option_map}
use Rattle.inf_base.specs.declared.access.Access.{Access}
use Rattle.inf_base.specs.declared.caller.CallRef.{CallRef}
use Rattle.inf_base.specs.declared.directory.DirRef.{DirRef}
use Rattle.inf_base.specs.declared.entry.Entry.{Entry}
use Rattle.inf_base.specs.Content.{Content}
use Rattle.inf_base.specs.Same.{dir_of}
use Rattle.inf_content.specs.Contents.{sealed_at, slots_at, slots_found}
use Rattle.inf_message.specs.declared.ask.Ask.{Ask}
use Rattle.inf_message.specs.declared.request.Request.TheVariants as request
use Rattle.inf_server.specs.Chains.{before_last, last_of}
use Rattle.inf_server.specs.Removals.{seal}
use Rattle.inf_server.specs.Response.{Response}
use Rattle.inf_server.specs.State.{State, is_here}
use Rattle.inf_laws_directory.specs.Leads.{Leads}
use Rattle.inf_laws_directory.specs.Objects.{Objects, Service, content_in, site_in, with_state}
use Rattle.inf_laws_directory.specs.Owned.{AreOwned, Links}
use Rattle.inf_laws_directory.specs.Phases.{IsLoose, IsReserving, IsSealing, Phase, Phases, has_sealed, has_unlinked, idle, with_phase}
use Rattle.inf_laws_directory.specs.Steps.{Keeps}
use Rattle.inf_laws_directory.specs.Told.{IsGone}
use Rattle.inf_laws_directory.proofs.CallFacts.{none_not_some, phase_here}
use Rattle.inf_laws_directory.proofs.ChainEnds.{last_links}
use Rattle.inf_laws_directory.proofs.ContentSteps.{MayBecome, content_step_owned, content_step_told, link_stays}
use Rattle.inf_laws_directory.proofs.Kept.{Becomes, changed_becomes, content_here}
use Rattle.inf_laws_directory.proofs.AskedFacts.{IsThere, is_there}
use Rattle.inf_laws_directory.proofs.OpenDirectories.{IsOpen, is_open}
use Rattle.inf_laws_directory.proofs.OwnedFacts.{led_not_loose, sealed_by}
use Rattle.inf_laws_directory.proofs.ServedSlots.{orders_after}
use Rattle.inf_laws_server.proofs.Came.{Did}
use Rattle.inf_laws_server.proofs.Serves.{done_in_order}
use Rattle.inf_laws_directory.proofs.ServedKinds.{sealed_so}
use Rattle.inf_laws_directory.proofs.phases.sealing_keeps.Goals as goal

module _ (service : Service) (objects : Objects) (number : ℕ) (root : Access) (phases : Phases) (ask : Ask)
    (path : List (List ℕ)) (chain : List Entry) (parent target : Entry) (name : List ℕ) (done : Response)
    (owned : AreOwned service objects root phases) (at_idle : phases ask.from ≡ idle)
    (leads : Leads (content_in service objects) root (path ++ name ∷ []) chain)
    (at_last : last_of chain ≡ Some target) (at_parent : last_of (before_last chain) ≡ Some parent)
    (is : seal (site_in service number) (objects number) ask chain ≡ Ok done) where
  abbrev next : Objects
  next = with_state number done.state objects

  abbrev dir : DirRef
  dir = dir_of target.access

  abbrev phase : Phase
  phase = has_sealed (dir_of parent.access) name dir

  seals_it : Did (site_in service number) (objects number) 0 ask (request.Seal chain) done
  seals_it = sealed_so (site_in service number) (objects number) ask done chain is

  same_entry : seals_it.passed.entry ≡ target
  same_entry = let ends = seals_it.passed.is_asked.last in cc (ends, at_last)

  opened_first : IsOpen service objects ask.from chain seals_it.passed.entry
  opened_first = is_open service objects number ask.from chain seals_it.passed.entry seals_it.passed.is_asked

  opened : IsOpen service objects ask.from chain target
  opened = subst (λ (e : Entry). IsOpen service objects ask.from chain e) same_entry opened_first

  there : IsThere (content_in service objects dir)
  there = is_there (content_in service objects dir) opened.there

  abbrev sealed : Content
  sealed = record there.value { seal = Some ask.from }

  here : is_here (site_in service number) dir.id ≡ true
  here = subst (λ (e : Entry). is_here (site_in service number) e.access.id ≡ true) same_entry seals_it.passed.is_asked.here

  empty : there.value.slots ≡ []
  empty =
      sym (ap slots_found there.there)
      ∙ ap slots_found (content_here service objects number done.state dir here)
      ∙ subst (λ (e : Entry). slots_at (dir_of e.access) (objects number).contents ≡ []) same_entry seals_it.passed.empty

  becomes : Becomes service objects next dir (Some sealed)
  becomes =
      subst (λ (o : Option Content). Becomes service objects next dir (option_map (λ (c : Content). record c { seal = Some ask.from }) o)) there.there
      (changed_becomes service objects number done.state dir here (λ (c : Content). record c { seal = Some ask.from }) (λ c. refl)
      (subst (λ (e : Entry). done.state.contents ≡ sealed_at (dir_of e.access) ask.from (objects number).contents) same_entry (ap (λ (s : State). s.contents) seals_it.did)))

  linked : Links (content_in service objects) (dir_of parent.access) name target.access
  linked = last_links (content_in service objects) name target parent root path chain leads at_last at_parent

  same_slots : slots_found (Some sealed) ≡ slots_found (content_in service objects dir)
  same_slots = sym (ap slots_found there.there)

  at_phase : with_phase ask.from phase phases ask.from ≡ phase
  at_phase = phase_here ask.from phase phases

  not_loose : (call : CallRef) → IsLoose (phases call) dir → ⊥
  not_loose = led_not_loose service objects root phases owned (path ++ name ∷ []) chain target leads at_last

  may_seal : MayBecome service objects next root phases ask.from phase dir (Some sealed)
  may_seal = record {
    order = orders_after objects number done.state owned.order (done_in_order (site_in service number) (objects number) 0 ask done.reply done.state (request.Seal chain) seals_it (owned.order number));
    becomes = becomes;
    same_slots = same_slots;
    not_loose = λ call apart. not_loose call;
    not_sealed = λ call apart sealing. apart (opened.unsealed call (sealed_by service objects root phases owned call dir sealing));
    seals = λ content call now seal.
        let own : ask.from ≡ call = cc (now, seal) in
        subst (λ (c : CallRef). IsSealing (with_phase ask.from phase phases c) dir) own (subst (λ (p : Phase). IsSealing p dir) (sym at_phase) refl);
    root_kept = λ same. refl;
    linked_kept = λ other second access at same. refl;
    placed = λ now. inr (inl (record { parent = dir_of parent.access; name = name; access = target.access; linked = linked; same = refl }));
    has = (
      record { content = sealed; there = becomes.here; seal = refl; slots = empty },
      record {
        access = target.access;
        linked = link_stays service objects next dir (Some sealed) becomes same_slots (dir_of parent.access) name target.access linked;
        same = refl;
      },
    );
    reserving = λ other second reserving. absurd (subst (λ (p : Phase). IsReserving p other second) at_idle reserving);
    sealing = λ other not_dir sealing. absurd (subst (λ (p : Phase). IsSealing p other) at_idle sealing);
    loose = λ other not_dir loose. absurd (subst (λ (p : Phase). IsLoose p other) at_idle loose);
    unlinked = λ other not_dir unlinked. let never : idle ≡ has_unlinked other = sym at_idle ∙ unlinked in absurd (cc);
    root_apart = λ loose. loose;
  }

  -- the directory that is sealed is not gone
  not_gone : IsGone service objects phases dir → ⊥
  not_gone (inl none) = none_not_some (content_in service objects dir) there.value none there.there
  not_gone (inr unlinked) = not_loose unlinked.call (subst (λ (p : Phase). IsLoose p dir) (sym unlinked.unlinked) refl)

  sealing : Keeps service objects next root phases (with_phase ask.from phase phases)
  sealing = record {
    owned = content_step_owned service objects next root phases ask.from phase dir (Some sealed) owned may_seal;
    told = λ k access. content_step_told service objects next root phases ask.from phase dir (Some sealed) owned may_seal k access (λ gone same. absurd (not_gone gone));
  }

pub returns : goal.returns
returns c = sealing
