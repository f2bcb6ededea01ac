-- The root's access object stands at the root's server alone: at first, and after each Serve.
use Rattle.std.proofs.Common.{◌≡◌, ◌≢◌, ℕ, ◌==◌, Bool, true, false, cond, Some, None, refl, sym, ap, ◌∙◌, subst}
use Rattle.std.specs.Option.{option_map}
use Rattle.std.proofs.lemmas.Bool.Decides.{Decides-eqb}
use Rattle.inf_base.specs.declared.access.Access.{Access}
use Rattle.inf_base.specs.Content.{TopAccess}
use Rattle.inf_message.specs.declared.ask.Ask.{Ask}
use Rattle.inf_message.specs.declared.reply.Reply.{Reply}
use Rattle.inf_server.specs.Machine.{Serves, machine}
use Rattle.inf_server.specs.State.{Site, State, is_here, opening, root_access, root_id}
use Rattle.inf_laws_server.proofs.Serves.{machine_serves, top_kept}
use Rattle.inf_laws_directory.specs.Objects.{Objects, Service, site_in, with_state}
use Rattle.inf_laws_directory.specs.Root.{NoOtherRoot, RootStands, root_server}

-- where this one stands, no server has another
pub no_other : (service : Service) (objects : Objects) (root : Access) → RootStands service objects root
    → NoOtherRoot service objects root
no_other service objects root stands number top is = by (number == root_server service) refl
  where
    by : (b : Bool) → (number == root_server service) ≡ b → top.access ≡ root
    by true same =
        let here : number ≡ root_server service = (Decides-eqb _ _).0 same in
        let has : (objects (root_server service)).top ≡ Some top = subst (λ (n : ℕ). (objects n).top ≡ Some top) here is in
        let both : Some top.access ≡ Some root =
        sym (ap (option_map (λ (t : TopAccess). t.access)) has) ∙ stands.kept in
        cc both
    by false apart =
        let none : (objects number).top ≡ None = stands.alone number (λ same. let is = (Decides-eqb _ _).1 same in cc) in
        absurd (cc (none, is))

-- where each server's stays, the root's access object stands as it stood
root_stays : (service : Service) (old new : Objects) (root : Access) → ((number : ℕ) → (new number).top ≡ (old number).top)
    → RootStands service old root → RootStands service new root
root_stays service old new root same stands = record {
  kept = ap (option_map (λ (t : TopAccess). t.access)) (same (root_server service)) ∙ stands.kept;
  alone = λ number other. same number ∙ stands.alone number other;
  of_root = stands.of_root;
}

-- at first the root's server has it
pub root_opens : (service : Service)
    → RootStands service (λ number. opening (site_in service number)) (root_access (site_in service 0))
root_opens service = record {
  kept = (let here : is_here (site_in service (root_server service)) (root_id (site_in service 0)) ≡ true = (Decides-eqb _ _).1 refl in rw here refl);
  alone = λ number other. none number other (number == root_server service) refl;
  of_root = refl;
}
  where
    none : (number : ℕ) → number ≢ root_server service → (b : Bool) → (number == root_server service) ≡ b
        → (opening (site_in service number)).top ≡ None
    none number other true same = absurd (other ((Decides-eqb _ _).0 same))
    none number other false apart = rw apart refl

pub top_stays : (site : Site) (state : State) (ask : Ask) (place : ℕ) → (machine site state place ask).state.top ≡ state.top
top_stays site state ask place = top_kept site state place ask _ _ (machine_serves site state place ask)

-- and no Serve changes it
tops_kept : (service : Service) (objects : Objects) (number place : ℕ) (ask : Ask) (given : Reply) (new : State)
    → Serves (site_in service number) (objects number) place ask given new
    → (other : ℕ) → (with_state number new objects other).top ≡ (objects other).top
tops_kept service objects number place ask given new serves other = same (other == number) refl
  where
    same : (b : Bool) → (other == number) ≡ b → (cond b new (objects other)).top ≡ (objects other).top
    same true is =
        subst (λ (n : ℕ). new.top ≡ (objects n).top) (sym ((Decides-eqb _ _).0 is))
        (top_kept (site_in service number) (objects number) place ask given new serves)
    same false apart = refl

pub root_kept : (service : Service) (objects : Objects) (root : Access) (number place : ℕ) (ask : Ask) (given : Reply) (new : State)
    → RootStands service objects root → Serves (site_in service number) (objects number) place ask given new
    → RootStands service (with_state number new objects) root
root_kept service objects root number place ask given new stands serves =
    root_stays service objects (with_state number new objects) root
    (tops_kept service objects number place ask given new serves) stands

pub no_other_kept : (service : Service) (objects : Objects) (root : Access) (number place : ℕ) (ask : Ask)
    (given : Reply) (new : State)
    → NoOtherRoot service objects root → Serves (site_in service number) (objects number) place ask given new
    → NoOtherRoot service (with_state number new objects) root
no_other_kept service objects root number place ask given new stands serves =
    λ other top is. stands other top (sym (tops_kept service objects number place ask given new serves other) ∙ is)
