-- The run in which nothing wants memory is one that the order makes.
use Rattle.std.proofs.Common.{◌≡◌, ℕ, zero, suc, ◌+◌, ◌<◌, Bool, true, false, List, [], ◌∷◌, length, slice_get, Option, Some, None, refl, subst, arith, inl, inr}
use Rattle.std.proofs.lemmas.List.{length-map}
use Rattle.inf_base.specs.declared.setup.ClientLine.{ClientLine}
use Rattle.inf_duty.specs.ClientState.{ClientState}
use Rattle.inf_message.specs.Sent.{is_wanting}
use Rattle.inf_duty.specs.Start.{starting}
use Rattle.inf_duty.specs.World.{World}
use Rattle.inf_order.specs.declared.moves.Move.{Move}
use Rattle.inf_order.specs.declared.moves.Move.TheVariants as move
use Rattle.inf_sched.specs.Laws.{MakesCalmly}
use Rattle.inf_sched.specs.Moves.{ByAlone, ByCall, ByCalls, ByMove, ByRest, ByStep, FollowedBy, GoesOn, IfElse, ServesOldest, ServesOn}
use Rattle.inf_sched.specs.Order.{ByMoves, came_to, results_from, results_in}
use Rattle.inf_sched.specs.Scene.{Scene, calls_left, can_ask, client_in, has_calls, has_ended, is_gone, number_in, opening}
use Rattle.inf_sched.specs.Straight.{alone, ask_on, call, calls, made, only_if, rest, serve_found, serve_on, step, straight, unless, with_next_ask, with_serve}
use Rattle.inf_sched.specs.Waiting.{Posting, is_by, is_for, oldest}
use Rattle.inf_sched.specs.declared.limits.TheConstants.{MOST_EVENTS}
use Rattle.inf_sched.proofs.BuiltFacts.{HasNotGivenUp, none_joined}
use Rattle.inf_sched.proofs.CalmFacts.{ShowsNoWant, plain_after, to_results}
use Rattle.inf_sched.proofs.OrderLaws.{starts_present}
use Rattle.inf_sched.proofs.RunSteps.{Comes, ask_comes, serve_comes}
use Rattle.inf_sched.proofs.StraightSteps.{IsCalm}

-- what follows comes about from wherever the first step leads
abbrev Follows : World → (Scene → Scene → Type 0) → (Scene → Scene) → Type 0
Follows world Later later = (mid : Scene) → IsCalm world mid → Comes world (Later mid) (later mid)

step_comes : (world : World) (client : ℕ) (old : Scene) → IsCalm world old → Comes world (ByStep world client old) (step world client old)
step_comes world client old calm = by (can_ask world old client) refl
  where
    by : (b : Bool) → can_ask world old client ≡ b → Comes world (ByStep world client old) (only_if b (with_next_ask world client) old)
    by true can = let next = ask_comes world client old can calm in record { by = inl (inl next.by); calm = next.calm }
    by false idle = record { by = inr (record { idle = idle }, refl); calm = calm }

found_comes : (world : World) (fits : Posting → Bool) (old : Scene) (found : Option Posting) → oldest fits old.history ≡ found → IsCalm world old → Comes world (ServesOldest world found old) (serve_found world found old)
found_comes world fits old None is calm = record { by = refl; calm = calm }
found_comes world fits old (Some p) is calm = serve_comes world fits old p is calm

serve_on_comes : (world : World) (fits : Posting → Bool) (old : Scene) (found : Option Posting) (Later : Scene → Scene → Type 0) (later : Scene → Scene) → Follows world Later later → oldest fits old.history ≡ found → IsCalm world old → Comes world (λ new. ServesOn world found old new (λ mid. Later mid new)) (serve_on world found later old)
serve_on_comes world fits old None Later later follows is calm = record { by = refl; calm = calm }
serve_on_comes world fits old (Some p) Later later follows is calm =
    let first = serve_comes world fits old p is calm in
    let last = follows (with_serve world p old) first.calm in
    record { by = record { between = with_serve world p old; first = first.by; later = last.by }; calm = last.calm }

goes_on_comes : (world : World) (client : ℕ) (old : Scene) (Later : Scene → Scene → Type 0) (later : Scene → Scene) → Follows world Later later → IsCalm world old → Comes world (λ new. GoesOn world client old new (λ mid. Later mid new)) (ask_on world client (can_ask world old client) later old)
goes_on_comes world client old Later later follows calm = by (can_ask world old client) refl
  where
    by : (b : Bool) → can_ask world old client ≡ b → Comes world (λ new. GoesOn world client old new (λ mid. Later mid new)) (ask_on world client b later old)
    by true can =
        let first = ask_comes world client old can calm in
        let last = follows (with_next_ask world client old) first.calm in
        record { by = inl (record { between = with_next_ask world client old; first = inl first.by; later = last.by }); calm = last.calm }
    by false idle =
        let served = serve_on_comes world (is_by client) old (oldest (is_by client) old.history) Later later follows refl calm in
        record { by = inr (record { idle = idle }, served.by); calm = served.calm }

unless_comes : (world : World) (test : Bool) (Goes : Scene → Type 0) (later : Scene → Scene) (old : Scene) → Comes world Goes (later old) → IsCalm world old → Comes world (λ new. IfElse test (new ≡ old) (Goes new)) (unless test later old)
unless_comes world true Goes later old goes calm = record { by = refl; calm = calm }
unless_comes world false Goes later old goes calm = record { by = goes.by; calm = goes.calm }

only_if_comes : (world : World) (test : Bool) (Goes : Scene → Type 0) (later : Scene → Scene) (old : Scene) → Comes world Goes (later old) → IsCalm world old → Comes world (λ new. IfElse test (Goes new) (new ≡ old)) (only_if test later old)
only_if_comes world true Goes later old goes calm = record { by = goes.by; calm = goes.calm }
only_if_comes world false Goes later old goes calm = record { by = refl; calm = calm }

alone_comes : (world : World) (client number events : ℕ) (old : Scene) → IsCalm world old → Comes world (ByAlone world client number events old) (alone world client number events old)
alone_comes world client number zero old calm = record { by = refl; calm = calm }
alone_comes world client number (suc events) old calm =
    let on = unless_comes world (has_ended world client number old)
    (λ new. GoesOn world client old new (λ mid. ByAlone world client number events mid new))
    (λ now. ask_on world client (can_ask world now client) (λ mid. alone world client number events mid) now)
    old
    (goes_on_comes world client old (λ mid new. ByAlone world client number events mid new) (λ mid. alone world client number events mid)
    (λ mid there. alone_comes world client number events mid there) calm)
    calm in
    record { by = on.by; calm = on.calm }

call_comes : (world : World) (client : ℕ) (old : Scene) → IsCalm world old → Comes world (ByCall world client old) (call world client old)
call_comes world client old calm =
    let on = alone_comes world client (number_in world old client) MOST_EVENTS old calm in
    record { by = on.by; calm = on.calm }

calls_come : (world : World) (client count : ℕ) (old : Scene) → IsCalm world old → Comes world (ByCalls world client count old) (calls world client count old)
calls_come world client zero old calm = record { by = refl; calm = calm }
calls_come world client (suc count) old calm =
    let first = call_comes world client old calm in
    let number : ℕ = number_in world old client in
    let mid : Scene = call world client old in
    let last = only_if_comes world (has_ended world client number mid) (λ new. ByCalls world client count mid new) (λ after. calls world client count after) mid
    (calls_come world client count mid first.calm) first.calm in
    let on = only_if_comes world (has_calls world old client)
    (λ new.
    FollowedBy (λ mid. ByCall world client old mid)
    (λ mid. IfElse (has_ended world client (number_in world old client) mid) (ByCalls world client count mid new) (new ≡ mid)))
    (λ now.
    only_if (has_ended world client (number_in world now client) (call world client now)) (λ mid. calls world client count mid) (call world client now))
    old
    (record { by = record { between = mid; first = first.by; later = last.by }; calm = last.calm })
    calm in
    record { by = on.by; calm = on.calm }

rest_comes : (world : World) (client clients : ℕ) (old : Scene) → IsCalm world old → Comes world (ByRest world client clients old) (rest world client clients old)
rest_comes world client zero old calm = record { by = refl; calm = calm }
rest_comes world client (suc clients) old calm =
    let first = calls_come world client (calls_left world old client) old calm in
    let mid : Scene = calls world client (calls_left world old client) old in
    let last = rest_comes world (client + 1) clients mid first.calm in
    record { by = record { between = mid; first = first.by; later = last.by }; calm = last.calm }

move_comes : (world : World) (next : Move) (old : Scene) → IsCalm world old → Comes world (ByMove world next old) (made world next old)
move_comes world (move.Step client) old calm = let on = step_comes world client old calm in record { by = on.by; calm = on.calm }
move_comes world (move.Alone client) old calm = let on = call_comes world client old calm in record { by = on.by; calm = on.calm }
move_comes world (move.Serve number client) old calm =
    let on = found_comes world (is_for number client) old (oldest (is_for number client) old.history) refl calm in
    record { by = on.by; calm = on.calm }
move_comes world move.Rest old calm =
    let on = rest_comes world 0 (length world.setup.clients) old calm in
    record { by = on.by; calm = on.calm }

moves_come : (world : World) (moves : List Move) (old : Scene) → IsCalm world old → Comes world (ByMoves world moves old) (straight world moves old)
moves_come world [] old calm = record { by = refl; calm = calm }
moves_come world (next ∷ moves) old calm =
    let first = move_comes world next old calm in
    let last = moves_come world moves (made world next old) first.calm in
    record { by = record { between = made world next old; first = first.by; later = last.by }; calm = last.calm }

-- ---- the opening scene, and the results in the end

starting_none : (world : World) (client : ℕ) (line : Option ClientLine) → ShowsNoWant (starting world client line)
starting_none world client None = record { results = refl; stage = tt }
starting_none world client (Some line) = record { results = refl; stage = tt }

opening_calm : (world : World) → IsCalm world (opening world)
opening_calm world = record {
  sized = length-map world.setup.clients (λ (line : ClientLine). false);
  here = λ client within. starts_present world.setup.clients client;
  replies = refl;
  answers = λ client within. starting_none world client (slice_get world.setup.clients client);
}

came_to_none : (gone : Bool) (s : ClientState) → gone ≡ false → is_wanting s.sent ≡ false → ShowsNoWant s
    → HasNotGivenUp (came_to gone s)
came_to_none true s here plain none = absurd (cc)
came_to_none false s here plain none = to_results s plain none

one_on : (first k : ℕ) → first + suc k ≡ first + 1 + k
one_on first k = omega arith

first_of : (first : ℕ) → first + 0 ≡ first
first_of first = omega arith

from_zero : (client : ℕ) → client ≡ 0 + client
from_zero client = omega arith

abbrev CameToNone : World → Scene → ℕ → Type 0
CameToNone world scene client = HasNotGivenUp (came_to (is_gone scene client) (client_in world scene client))

results_none : (world : World) (scene : Scene) (first : ℕ) (lines : List ClientLine) → ((k : ℕ) → k < length lines → CameToNone world scene (first + k)) → HasNotGivenUp (results_from world scene first lines)
results_none world scene first [] each = refl
results_none world scene first (line ∷ lines) each =
    none_joined (came_to (is_gone scene first) (client_in world scene first)) (results_from world scene (first + 1) lines)
    (subst (CameToNone world scene) (first_of first) (each 0 (omega arith)))
    (results_none world scene (first + 1) lines (λ k within. subst (CameToNone world scene) (one_on first k) (each (suc k) (omega arith))))

pub makes_calmly : (world : World) (order : List Move) → MakesCalmly world order (straight world order (opening world)).history (results_in world (straight world order (opening world)))
makes_calmly world order =
    let scene : Scene = straight world order (opening world) in
    let run = moves_come world order (opening world) (opening_calm world) in
    record {
      makes = record { scene = scene; moves = run.by; made = refl; counted = refl };
      calm = record {
        replies = run.calm.replies;
        answers = results_none world scene 0 world.setup.clients (λ k within.
            subst (CameToNone world scene) (from_zero k)
            (came_to_none (is_gone scene k) (client_in world scene k) (run.calm.here k within)
            (plain_after world k scene.history run.calm.replies) (run.calm.answers k within)));
      };
    }
