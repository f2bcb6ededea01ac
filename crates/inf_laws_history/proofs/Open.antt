-- A flow's one message is answered once: what completes its group is what was told just now.
use Rattle.std.proofs.Common.{◌≡◌, ℕ, ◌≤◌, ◌&&◌, ◌||◌, Bool, true, false, eqb, List, [], ◌∷◌, ◌++◌, length, map, Option, None, Some, refl, sym, ap, ◌∙◌, arith, length-append}
use Rattle.inf_base.specs.declared.id.Id.{Id}
use Rattle.std.proofs.lemmas.Bool.Decides.{nat_tests}
use Rattle.std.proofs.lemmas.List.{length-map}
use Rattle.std.specs.List.{list_all}
use Rattle.inf_duty.specs.Duty.{asked, begun}
use Rattle.inf_duty.specs.Start.{starting}
use Rattle.inf_duty.specs.World.{World}
use Rattle.inf_base.specs.declared.setup.ClientLine.{ClientLine}
use Rattle.inf_message.specs.declared.ending.Ending.TheVariants as ending
use Rattle.inf_message.specs.declared.turn.Turn.TheVariants as turn
use Rattle.inf_duty.specs.ClientState.{ClientState, Stage, act, compose, round, winds, wound}
use Rattle.inf_duty.specs.Group.{group}
use Rattle.inf_duty.specs.Turn.{is_complete, learned, recorded, served, told_in, turned}
use Rattle.inf_message.specs.Sent.{Sent, has_place, is_told, told_at}
use Rattle.inf_message.specs.Who.{Who}
use Rattle.inf_message.specs.declared.ending.Ending.{Ending}
use Rattle.inf_message.specs.declared.turn.Turn.{Turn}
use Rattle.inf_message.specs.declared.ask.Ask.{Ask}
use Rattle.inf_message.specs.declared.step.Message.{Message}
use Rattle.inf_message.specs.History.{Told, or_told}
use Rattle.inf_laws_history.proofs.ClientSteps.{by_answer, recorded_in}
use Rattle.inf_duty.proofs.FlowFacts.{one_message}
use Rattle.inf_laws_history.proofs.Turns.{deciding_told}

-- the one message of a flow is not answered yet
abbrev pub IsOpenAt : Stage → List Sent → Type 0
IsOpenAt (act flow) sent = length sent ≡ 1 → deciding_told sent ≡ None
IsOpenAt other_stage sent = Unit {0}

pub record IsOpen (s : ClientState) : Type 0 where
  pub waits : IsOpenAt s.stage s.sent

-- a flow's message was answered just now
abbrev pub TellsFlow : Told → Stage → List Sent → Type 0
TellsFlow told (act flow) sent = deciding_told sent ≡ Some told
TellsFlow told other_stage sent = Unit {0}

none_sent : (stage : Stage) → IsOpenAt stage []
none_sent (act flow) = λ one. refl
none_sent compose = tt
none_sent (round keys) = tt
none_sent (winds end ms later) = tt

pub starting_open : (world : World) (client : ℕ) (line : Option ClientLine) → IsOpen (starting world client line)
starting_open world client None = record { waits = tt }
starting_open world client (Some line) = record { waits = tt }

wound_open : (end : Ending) (more : List (List Message)) (s : ClientState) → IsOpen (wound end more s)
wound_open (ending.Answers given place) [] s = record { waits = tt }
wound_open ending.Retries [] s = record { waits = tt }
wound_open end (ms ∷ later) s = record { waits = tt }

turned_open : (t : Turn Stage) (s : ClientState) → IsOpen (turned t s)
turned_open (turn.GoesOn next) s = record { waits = none_sent next }
turned_open (turn.WindsUp end more) s = wound_open end more s

newly_sent : (sent : List Sent) (new : Sent) → new.told ≡ None → length (sent ++ new ∷ []) ≡ 1 → deciding_told (sent ++ new ∷ []) ≡ None
newly_sent [] new waits same = waits
newly_sent (x ∷ sent) new waits same = absurd (omega (arith, length-append sent (new ∷ [])))

one_more : (stage : Stage) (sent : List Sent) (new : Sent) → new.told ≡ None → IsOpenAt stage (sent ++ new ∷ [])
one_more (act flow) sent new waits = newly_sent sent new waits
one_more compose sent new waits = tt
one_more (round keys) sent new waits = tt
one_more (winds end ms later) sent new waits = tt

pub asked_open : (digest : List ℕ → Id) (place : ℕ) (ask : Ask) (s : ClientState) → IsOpen (asked digest place ask s)
asked_open digest place ask s =
    let now : ClientState = begun digest ask s.sent s in
    record { waits = one_more now.stage now.sent (record { place = place; told = None }) refl }

-- ---- the answer

told_one : (place : ℕ) (told : Told) (x : Sent) → eqb x.place place ≡ true → (told_at place told x).told ≡ Some (or_told x.told told)
told_one place told x same = rw same refl

only : (b : Bool) → (b || false) ≡ true → b ≡ true
only true e = refl
only false e = e

both : (a b : Bool) → a ≡ true → b ≡ true → (a && b) ≡ true
both true true e f = refl
both true false e f = f
both false b e f = e

first_of_both : (a b : Bool) → (a && b) ≡ true → a ≡ true
first_of_both true b e = refl
first_of_both false b e = e

pub counted_same : (a b : ℕ) → eqb a b ≡ true → a ≡ b
counted_same a b e = grind (arith, nat_tests)

same_counted : (a b : ℕ) → a ≡ b → eqb a b ≡ true
same_counted a b e = grind (arith, nat_tests)

all_told : (place : ℕ) (told : Told) (sent : List Sent) → length sent ≤ 1 → has_place place sent ≡ true → list_all is_told (map (told_at place told) sent) ≡ true
all_told place told [] one here = refl
all_told place told (x ∷ y ∷ sent) one here = absurd (omega arith)
all_told place told (x ∷ []) one here = rw (told_one place told x (only _ here)) refl

told_now : (place : ℕ) (told : Told) (sent : List Sent) → length sent ≡ 1 → has_place place sent ≡ true → deciding_told sent ≡ None → deciding_told (map (told_at place told) sent) ≡ Some told
told_now place told [] one here waits = absurd (cc)
told_now place told (x ∷ y ∷ sent) one here waits = absurd (omega arith)
told_now place told (x ∷ []) one here waits = told_one place told x (only _ here) ∙ ap (λ before. Some (or_told before told)) waits

-- once the only Ask was told, the group is complete
complete_now : (place : ℕ) (told : Told) (sent : List Sent) → has_place place sent ≡ true → length (map (told_at place told) sent) ≡ 1
    → (eqb (length (map (told_at place told) sent)) 1 && list_all is_told (map (told_at place told) sent)) ≡ true
complete_now place told sent here same =
    both _ _ (same_counted _ 1 same) (all_told place told sent (omega (arith, length-map sent (told_at place told), same)) here)

tells_flow : (place : ℕ) (told : Told) (who : Who) (stage : Stage) (sent : List Sent) → IsOpenAt stage sent → has_place place sent ≡ true
    → (eqb (length (map (told_at place told) sent)) (length (group who stage)) && list_all is_told (map (told_at place told) sent)) ≡ true
    → TellsFlow told stage (map (told_at place told) sent)
tells_flow place told who (act flow) sent is here complete =
    let same : length (map (told_at place told) sent) ≡ 1 = counted_same _ _ (first_of_both _ _ complete) ∙ one_message who flow in
    let one : length sent ≡ 1 = sym (length-map sent (told_at place told)) ∙ same in
    told_now place told sent one here (is one)
tells_flow place told who compose sent is here complete = tt
tells_flow place told who (round keys) sent is here complete = tt
tells_flow place told who (winds end ms later) sent is here complete = tt

-- the answer that completes the group of a flow's message is the one that was just told
pub told_completes : (place : ℕ) (told : Told) (s : ClientState) → IsOpen s → has_place place s.sent ≡ true → is_complete (recorded place told s) ≡ true
    → TellsFlow told s.stage (recorded place told s).sent
told_completes place told s is here complete = tells_flow place told s.who s.stage s.sent is.waits here complete

still_open : (place : ℕ) (told : Told) (who : Who) (stage : Stage) (sent : List Sent) → has_place place sent ≡ true
    → (eqb (length (map (told_at place told) sent)) (length (group who stage)) && list_all is_told (map (told_at place told) sent)) ≡ false
    → IsOpenAt stage (map (told_at place told) sent)
still_open place told who (act flow) sent here going =
    λ same. absurd (not_both (complete_now place told sent here same)
    (ap (λ (n : ℕ). eqb (length (map (told_at place told) sent)) n && list_all is_told (map (told_at place told) sent)) (sym (one_message who flow)) ∙ going))
  where
    not_both : {b : Bool} → b ≡ true → b ≡ false → ⊥
    not_both is apart = cc
still_open place told who compose sent here going = tt
still_open place told who (round keys) sent here going = tt
still_open place told who (winds end ms later) sent here going = tt

pub served_open : (digest : List ℕ → Id) (place : ℕ) (told : Told) (s : ClientState) → IsOpen s → IsOpen (served digest place told s)
served_open digest place told s is =
    by_answer digest IsOpen place told s
    (λ apart. is)
    (λ here going. record { waits = still_open place (told_in s told) s.who s.stage s.sent here going })
    (λ here complete. turned_open _ (learned s.stage (recorded_in place told s)))
