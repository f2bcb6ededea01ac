-- The directory that a request asked, where all is owned: it is there, and in no other call's hands.
use Rattle.std.proofs.Common.{◌≡◌, ℕ, Bool, true, false, List, Option, Some, None, is_some, Ok, refl, sym, ap, ◌∙◌, subst}
use Rattle.inf_base.specs.declared.access.Access.{Access}
use Rattle.inf_base.specs.declared.caller.CallRef.{CallRef}
use Rattle.inf_base.specs.declared.entry.Entry.{Entry}
use Rattle.inf_base.specs.Checks.{check}
use Rattle.inf_base.specs.Same.{dir_of, is_same_call}
use Rattle.inf_base.proofs.Same.{same_call}
use Rattle.inf_content.specs.Contents.{content_at, seal_of}
use Rattle.inf_message.specs.declared.reply.Reply.TheVariants as reply
use Rattle.inf_message.specs.declared.reply.Spot.TheVariants as spot
use Rattle.inf_server.specs.Chains.{last_of}
use Rattle.inf_server.specs.Checks.{unsealed}
use Rattle.inf_server.specs.State.{Site, State}
use Rattle.inf_laws_server.specs.Passed.{IsAsked}
use Rattle.inf_laws_directory.specs.Objects.{Objects, Service, site_in}
use Rattle.inf_laws_directory.specs.Owned.{AreOwned}
use Rattle.inf_laws_directory.specs.Phases.{IsSealing, Phases}
use Rattle.inf_laws_directory.proofs.Kept.{content_here}
use Rattle.inf_laws_directory.proofs.OwnedFacts.{sealed_by}

-- a chain has one last entry
pub same_last : (chain : List Entry) (first second : Entry) → last_of chain ≡ Some first → last_of chain ≡ Some second → first ≡ second
same_last chain first second is also = let same : Some first ≡ Some second = sym is ∙ also in cc

-- no other call sealed the directory asked
open_to : (by : CallRef) (born : ℕ) (seal : Option CallRef) → unsealed by born seal ≡ Ok tt → (sealer : CallRef) → seal ≡ Some sealer → sealer ≡ by
open_to by born None is sealer sealed = cc
open_to by born (Some kept) is sealer sealed = by_call (is_same_call kept by) refl is
  where
    by_call : (b : Bool) → is_same_call kept by ≡ b → check b (reply.Busy kept spot.Sealed born) ≡ Ok tt → sealer ≡ by
    by_call true same is = let it : sealer ≡ kept = cc in it ∙ same_call kept by same
    by_call false apart is = cc

pub asked_open : {carried : List (List Entry)} (site : Site) (state : State) (by : CallRef) (last : Option Entry) (entry : Entry)
    → IsAsked site state by last carried entry
    → (sealer : CallRef) → seal_of (content_at (dir_of entry.access) state.contents) ≡ Some sealer → sealer ≡ by
asked_open site state by last entry is = open_to by entry.access.born (seal_of (content_at (dir_of entry.access) state.contents)) is.open_to

pub asked_not_sealed : {carried : List (List Entry)} (service : Service) (objects : Objects) (number : ℕ) (root : Access) (phases : Phases) (owned : AreOwned service objects root phases)
    (by : CallRef) (last : Option Entry) (entry : Entry)
    → IsAsked (site_in service number) (objects number) by last carried entry → (IsSealing (phases by) (dir_of entry.access) → ⊥)
    → (call : CallRef) → IsSealing (phases call) (dir_of entry.access) → ⊥
asked_not_sealed service objects number root phases owned by last entry is not_by call sealing =
    let kept = content_here service objects number (objects number) (dir_of entry.access) is.here in
    let same = asked_open (site_in service number) (objects number) by last entry is call
    (sym (ap seal_of kept) ∙ sealed_by service objects root phases owned call (dir_of entry.access) sealing) in
    not_by (subst (λ (c : CallRef). IsSealing (phases c) (dir_of entry.access)) same sealing)

-- what is there
pub record IsThere {A : Type 0} (found : Option A) : Type 0 where
  pub value : A
  pub there : found ≡ Some value

pub is_there : {A : Type 0} (found : Option A) → is_some found ≡ true → IsThere found
is_there None is = absurd cc
is_there (Some value) is = record { value = value; there = refl }
