-- What a client keeps while it settles what to ask for, and gives calls up on the way.
use Rattle.std.proofs.Common.{ℕ, Bool, true, false, if◌then◌else◌, eqb, List, [], ◌∷◌}
use Rattle.inf_base.specs.declared.call.Call.{Call}
use Rattle.inf_base.specs.declared.id.Id.{Id}
use Rattle.inf_duty.specs.Duty.{at_call, begun, found_at, given_up, lifts, may_give_up}
use Rattle.inf_duty.specs.Outcome.{all_given_up, may_pass}
use Rattle.inf_duty.specs.ClientState.{ClientState}
use Rattle.inf_duty.specs.Group.{composed}
use Rattle.inf_message.specs.Sent.{Sent}
use Rattle.inf_message.specs.declared.ask.Ask.{Ask}
use Rattle.inf_message.specs.declared.request.Request.{Request}

pub if_both : {A : Type 0} (P : A → Type 0) (b : Bool) (x y : A) → P x → P y → P (if b then x else y)
if_both P true x y here there = here
if_both P false x y here there = there

pub record IsKept (digest : List ℕ → Id) (P : ClientState → Type 0) : Type 0 where
  pub composing : (s : ClientState) → P s → P (composed digest s)
  pub giving_up : (s : ClientState) → P s → P (given_up s)

module _ (digest : List ℕ → Id) (P : ClientState → Type 0) (keeps : IsKept digest P) where
  kept_found : (asked : Request) (s : ClientState) → P s → P (found_at digest asked s)
  kept_found asked s now =
      if_both P (lifts asked) _ _ (if_both P (may_give_up s) (given_up s) s (keeps.giving_up s now) now) (keeps.composing s now)

  kept_at_call : (number : ℕ) (asked : Request) (calls : List Call) (s : ClientState) → P s → P (at_call digest number asked calls s)
  kept_at_call number asked [] s now = now
  kept_at_call number asked (call ∷ calls) s now =
      if_both P (eqb number s.number) (found_at digest asked s) _ (kept_found asked s now)
      (if_both P (may_give_up s) (at_call digest number asked calls (given_up s)) s
      (kept_at_call number asked calls (given_up s) (keeps.giving_up s now))
      now)

  pub kept_begun : (ask : Ask) (sent : List Sent) (s : ClientState) → P s → P (begun digest ask sent s)
  kept_begun ask [] s now = kept_at_call ask.from.number ask.request s.left s now
  kept_begun ask (x ∷ sent) s now = now

  pub kept_all_given_up : (calls : List Call) (s : ClientState) → P s → P (all_given_up calls s)
  kept_all_given_up [] s now = now
  kept_all_given_up (call ∷ calls) s now =
      if_both P (may_pass s) (all_given_up calls (given_up s)) s (kept_all_given_up calls (given_up s) (keeps.giving_up s now)) now
