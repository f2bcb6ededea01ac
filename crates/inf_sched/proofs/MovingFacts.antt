-- How the moves of an order go on, step by step.
use Rattle.std.proofs.Common.{◌≡◌, ℕ, zero, suc, ◌+◌, ◌-◌, ◌≤◌, ◌<◌, Bool, true, false, nat_le, nat_lt, not, ◌&&◌, ◌||◌, List, [], ◌∷◌, ◌++◌, length, take, get_or, Option, None, Some, refl, sym, ap, subst, ◌∙◌, arith, inl, inr}
use Rattle.std.proofs.lemmas.Bool.{leb-true, lt-ltb}
use Rattle.std.proofs.lemmas.List.{take_more}
use Rattle.std.specs.List.{list_all}
use Rattle.inf_base.specs.declared.id.Id.{Id}
use Rattle.inf_core.specs.Core.{IsSameRun, world_in}
use Rattle.inf_duty.specs.World.{World}
use Rattle.inf_order.specs.Order.{is_client_of, is_move_of}
use Rattle.inf_order.specs.declared.moves.Move.{Move}
use Rattle.inf_order.specs.declared.moves.Move.TheVariants as move
use Rattle.inf_sched.specs.Moves.{ByAlone, ByCalls, ByMove, ByRest, ByStep, IfElse, ServesOn}
use Rattle.inf_sched.specs.Order.{ByMoves}
use Rattle.inf_sched.specs.Run.{HasAdvanced, HasCalled, HasCalledOnce, HasNothingLeft, HasStepped, IsAlong, IsMoved, Playing, scene_of}
use Rattle.inf_sched.specs.Scene.{MakesServe, Scene, calls_left, has_calls, has_ended, is_gone, number_in}
use Rattle.inf_sched.specs.Waiting.{Posting, is_by, oldest}
use Rattle.inf_sched.specs.declared.limits.TheConstants.{MOST_EVENTS}
use Rattle.inf_sched.proofs.ServeFacts.{same_world}

pub same_trans : {R : Type 0} (a b c : Playing R) → IsSameRun a.core b.core → IsSameRun b.core c.core → IsSameRun a.core c.core
same_trans a b c first later = record { rule = later.rule ∙ first.rule; setup = later.setup ∙ first.setup }

pub same_self : {R : Type 0} (a : Playing R) → IsSameRun a.core a.core
same_self a = record { rule = refl; setup = refl }

if_true : (b : Bool) (P Q : Type 0) → b ≡ true → P → IfElse b P Q
if_true true P Q is here = here
if_true false P Q is here = absurd (cc)

if_false : (b : Bool) (P Q : Type 0) → b ≡ false → Q → IfElse b P Q
if_false false P Q is here = here
if_false true P Q is here = absurd (cc)

pub stepped : (b : Bool) (world : World) (client : ℕ) (old new : Scene) → HasStepped b world client old new → ByStep world client old new
stepped true world client old new made = inl made
stepped false world client old new idle = inr idle

-- ---- a client alone

pub alone_ended : (world : World) (client number events : ℕ) (now : Scene) → has_ended world client number now ≡ true → ByAlone world client number events now now
alone_ended world client number zero now ended = refl
alone_ended world client number (suc events) now ended = if_true (has_ended world client number now) _ _ ended refl

serves_none : (world : World) (found : Option Posting) (old new : Scene) (Later : Scene → Type 0) → found ≡ None → new ≡ old → ServesOn world found old new Later
serves_none world None old new Later none same = same
serves_none world (Some p) old new Later none same = absurd (cc)

serves_some : (world : World) (found : Option Posting) (p : Posting) (old mid new : Scene) (Later : Scene → Type 0) → found ≡ Some p
    → MakesServe world p.number p.place old mid → Later mid → ServesOn world found old new Later
serves_some world None p old mid new Later some serves later = absurd (cc)
serves_some world (Some q) p old mid new Later some serves later =
    let same : p ≡ q = cc in
    record { between = mid; first = subst (λ (x : Posting). MakesServe world x.number x.place old mid) same serves; later = later }

pub alone_stops : (world : World) (client number events : ℕ) (now after : Scene) → has_ended world client number now ≡ false → HasNothingLeft world client now after
    → ByAlone world client number (suc events) now after
alone_stops world client number events now after going rests =
    if_false (has_ended world client number now) _ _ going
    (inr (rests.idle, serves_none world (oldest (is_by client) now.history) now after _ rests.none rests.same))

pub alone_goes : (world : World) (client number events : ℕ) (now mid last : Scene) → has_ended world client number now ≡ false → HasAdvanced true world client now mid
    → ByAlone world client number events mid last → ByAlone world client number (suc events) now last
alone_goes world client number events now mid last going (inl asks) later =
    if_false (has_ended world client number now) _ _ going (inl (record { between = mid; first = asks; later = later }))
alone_goes world client number events now mid last going (inr served) later =
    if_false (has_ended world client number now) _ _ going
    (inr (served.idle, serves_some world (oldest (is_by client) now.history) served.posting now mid last _ served.found served.serves later))

pub call_gone : (world : World) (client number : ℕ) (now : Scene) → is_gone now client ≡ true → ByAlone world client number MOST_EVENTS now now
call_gone world client number now gone = alone_ended world client number MOST_EVENTS now (ap (λ g. g || nat_lt number (number_in world now client)) gone)

-- ---- call by call

pub calls_none : (world : World) (client calls : ℕ) (now : Scene) → has_calls world now client ≡ false → ByCalls world client calls now now
calls_none world client zero now none = refl
calls_none world client (suc calls) now none = if_false (has_calls world now client) _ _ none refl

pub gone_has_no_calls : (world : World) (client : ℕ) (now : Scene) → is_gone now client ≡ true → has_calls world now client ≡ false
gone_has_no_calls world client now gone = ap (λ g. not g && nat_lt 0 (calls_left world now client)) gone

pub none_has_no_calls : (world : World) (client : ℕ) (now : Scene) → calls_left world now client ≡ 0 → has_calls world now client ≡ false
none_has_no_calls world client now none = ap (λ n. not (is_gone now client) && nat_lt 0 n) none ∙ and_false (not (is_gone now client))
  where
    and_false : (b : Bool) → (b && false) ≡ false
    and_false true = refl
    and_false false = refl

pub some_has_calls : (world : World) (client : ℕ) (now : Scene) → is_gone now client ≡ false → 0 < calls_left world now client → has_calls world now client ≡ true
some_has_calls world client now here some = rw here (lt-ltb 0 (calls_left world now client) some)

pub calls_goes : (world : World) (client calls : ℕ) (now mid last : Scene) → HasCalled true world client now mid → ByCalls world client calls mid last
    → ByCalls world client (suc calls) now last
calls_goes world client calls now mid last once later =
    if_true (has_calls world now client) _ _ once.some
    (record { between = mid; first = once.call; later = if_true (has_ended world client (number_in world now client) mid) _ _ once.ends later })

pub calls_stops : (world : World) (client calls : ℕ) (now mid : Scene) → HasCalled false world client now mid → ByCalls world client (suc calls) now mid
calls_stops world client calls now mid (inl once) =
    if_true (has_calls world now client) _ _ once.some
    (record { between = mid; first = once.call; later = if_false (has_ended world client (number_in world now client) mid) _ _ once.ends refl })
calls_stops world client calls now mid (inr none) = if_false (has_calls world now client) _ _ none.none none.same

-- ---- client by client

pub rest_goes : (world : World) (client clients : ℕ) (now mid last : Scene) → ByCalls world client (calls_left world now client) now mid
    → ByRest world (client + 1) clients mid last → ByRest world client (suc clients) now last
rest_goes world client clients now mid last calls later = record { between = mid; first = calls; later = later }

-- ---- move by move

pub moves_pushed : (world : World) (moves : List Move) (move : Move) (old now new : Scene) → ByMoves world moves old now → ByMove world move now new
    → ByMoves world (moves ++ move ∷ []) old new
moves_pushed world [] move old now new none made =
    record { between = new; first = subst (λ s. ByMove world move s new) none made; later = refl }
moves_pushed world (first ∷ moves) move old now new before made =
    record { between = before.between; first = before.first; later = moves_pushed world moves move before.between now new before.later made }

-- ---- on the way

module _ {R : Type 0} (digest_of : R → List ℕ → Id) where
  in_world : (P : World → Type 0) (entry now : Playing R) → IsSameRun entry.core now.core → P (world_in digest_of now.core) → P (world_in digest_of entry.core)
  in_world P entry now same holds = subst P (same_world digest_of entry.core now.core same) holds

  abbrev of : Playing R → World
  of run = world_in digest_of run.core

  pub alone_along_ended : (client number most counter : ℕ) (entry now : Playing R)
      → IsAlong (ByAlone (world_in digest_of entry.core) client number (most - counter)) (ByAlone (world_in digest_of entry.core) client number most) entry now
      → has_ended (world_in digest_of now.core) client number (scene_of now) ≡ true → ByAlone (world_in digest_of entry.core) client number most (scene_of entry) (scene_of now)
  alone_along_ended client number most counter entry now along ended =
      along.leads (scene_of now) (alone_ended (of entry) client number (most - counter) (scene_of now)
      (in_world (λ w. has_ended w client number (scene_of now) ≡ true) entry now along.same ended))

  pub alone_along_stops : (client number most counter : ℕ) (entry now after : Playing R)
      → IsAlong (ByAlone (world_in digest_of entry.core) client number (most - counter)) (ByAlone (world_in digest_of entry.core) client number most) entry now
      → counter < most → has_ended (world_in digest_of now.core) client number (scene_of now) ≡ false
      → HasAdvanced false (world_in digest_of now.core) client (scene_of now) (scene_of after)
      → ByAlone (world_in digest_of entry.core) client number most (scene_of entry) (scene_of after)
  alone_along_stops client number most counter entry now after along within going rests =
      let next : most - counter ≡ suc (most - (counter + 1)) = omega arith in
      along.leads (scene_of after) (subst (λ n. ByAlone (of entry) client number n (scene_of now) (scene_of after)) (sym next)
      (alone_stops (of entry) client number (most - (counter + 1)) (scene_of now) (scene_of after)
      (in_world (λ w. has_ended w client number (scene_of now) ≡ false) entry now along.same going)
      (in_world (λ w. HasNothingLeft w client (scene_of now) (scene_of after)) entry now along.same rests)))

  pub alone_along_goes : (client number most counter : ℕ) (entry now after : Playing R)
      → IsAlong (ByAlone (world_in digest_of entry.core) client number (most - counter)) (ByAlone (world_in digest_of entry.core) client number most) entry now
      → counter < most → has_ended (world_in digest_of now.core) client number (scene_of now) ≡ false
      → HasAdvanced true (world_in digest_of now.core) client (scene_of now) (scene_of after) → IsSameRun now.core after.core
      → IsAlong (ByAlone (world_in digest_of entry.core) client number (most - (counter + 1))) (ByAlone (world_in digest_of entry.core) client number most) entry after
  alone_along_goes client number most counter entry now after along within going advanced same =
      let next : most - counter ≡ suc (most - (counter + 1)) = omega arith in
      record {
        same = same_trans entry now after along.same same;
        leads = λ last later.
            along.leads last (subst (λ n. ByAlone (of entry) client number n (scene_of now) last) (sym next)
            (alone_goes (of entry) client number (most - (counter + 1)) (scene_of now) (scene_of after) last
            (in_world (λ w. has_ended w client number (scene_of now) ≡ false) entry now along.same going)
            (in_world (λ w. HasAdvanced true w client (scene_of now) (scene_of after)) entry now along.same advanced)
            later));
      }

  pub alone_along_over : (client number most counter : ℕ) (entry now : Playing R)
      → IsAlong (ByAlone (world_in digest_of entry.core) client number (most - counter)) (ByAlone (world_in digest_of entry.core) client number most) entry now
      → most ≤ counter → ByAlone (world_in digest_of entry.core) client number most (scene_of entry) (scene_of now)
  alone_along_over client number most counter entry now along past =
      let none : most - counter ≡ 0 = omega arith in
      along.leads (scene_of now) (subst (λ n. ByAlone (of entry) client number n (scene_of now) (scene_of now)) (sym none) refl)

  pub called : (client number : ℕ) (run after : Playing R) (b : Bool) → is_gone (scene_of run) client ≡ false → 0 < calls_left (world_in digest_of run.core) (scene_of run) client
      → number ≡ number_in (world_in digest_of run.core) (scene_of run) client
      → ByAlone (world_in digest_of run.core) client number MOST_EVENTS (scene_of run) (scene_of after) → IsSameRun run.core after.core
      → b ≡ has_ended (world_in digest_of after.core) client number (scene_of after)
      → HasCalled b (world_in digest_of run.core) client (scene_of run) (scene_of after)
  called client number run after b here some is alone same ended = by b ends
    where
      w : World
      w = of run

      ends : has_ended w client (number_in w (scene_of run) client) (scene_of after) ≡ b
      ends =
          subst (λ n. has_ended w client n (scene_of after) ≡ b) is
          (in_world (λ v. has_ended v client number (scene_of after) ≡ b) run after same (sym ended))

      once : (t : Bool) → has_ended w client (number_in w (scene_of run) client) (scene_of after) ≡ t → HasCalledOnce t w client (scene_of run) (scene_of after)
      once t e = record {
        some = some_has_calls w client (scene_of run) here some;
        call = subst (λ n. ByAlone w client n MOST_EVENTS (scene_of run) (scene_of after)) is alone;
        ends = e;
      }

      by : (t : Bool) → has_ended w client (number_in w (scene_of run) client) (scene_of after) ≡ t → HasCalled t w client (scene_of run) (scene_of after)
      by true e = once true e
      by false e = inl (once false e)

  pub calls_along_stops : (client most counter : ℕ) (entry now after : Playing R)
      → IsAlong (ByCalls (world_in digest_of entry.core) client (most - counter)) (ByCalls (world_in digest_of entry.core) client most) entry now
      → counter < most → HasCalled false (world_in digest_of now.core) client (scene_of now) (scene_of after)
      → ByCalls (world_in digest_of entry.core) client most (scene_of entry) (scene_of after)
  calls_along_stops client most counter entry now after along within once =
      let next : most - counter ≡ suc (most - (counter + 1)) = omega arith in
      along.leads (scene_of after) (subst (λ n. ByCalls (of entry) client n (scene_of now) (scene_of after)) (sym next)
      (calls_stops (of entry) client (most - (counter + 1)) (scene_of now) (scene_of after)
      (in_world (λ w. HasCalled false w client (scene_of now) (scene_of after)) entry now along.same once)))

  pub calls_along_goes : (client most counter : ℕ) (entry now after : Playing R)
      → IsAlong (ByCalls (world_in digest_of entry.core) client (most - counter)) (ByCalls (world_in digest_of entry.core) client most) entry now
      → counter < most → HasCalled true (world_in digest_of now.core) client (scene_of now) (scene_of after) → IsSameRun now.core after.core
      → IsAlong (ByCalls (world_in digest_of entry.core) client (most - (counter + 1))) (ByCalls (world_in digest_of entry.core) client most) entry after
  calls_along_goes client most counter entry now after along within once same =
      let next : most - counter ≡ suc (most - (counter + 1)) = omega arith in
      record {
        same = same_trans entry now after along.same same;
        leads = λ last later.
            along.leads last (subst (λ n. ByCalls (of entry) client n (scene_of now) last) (sym next)
            (calls_goes (of entry) client (most - (counter + 1)) (scene_of now) (scene_of after) last
            (in_world (λ w. HasCalled true w client (scene_of now) (scene_of after)) entry now along.same once) later));
      }

  pub calls_along_over : (client most counter : ℕ) (entry now : Playing R)
      → IsAlong (ByCalls (world_in digest_of entry.core) client (most - counter)) (ByCalls (world_in digest_of entry.core) client most) entry now
      → most ≤ counter → ByCalls (world_in digest_of entry.core) client most (scene_of entry) (scene_of now)
  calls_along_over client most counter entry now along past =
      let none : most - counter ≡ 0 = omega arith in
      along.leads (scene_of now) (subst (λ n. ByCalls (of entry) client n (scene_of now) (scene_of now)) (sym none) refl)

  pub rest_along_goes : (client many : ℕ) (entry now after : Playing R)
      → IsAlong (ByRest (world_in digest_of entry.core) client (many - client)) (ByRest (world_in digest_of entry.core) 0 many) entry now
      → client < many → ByCalls (world_in digest_of now.core) client (calls_left (world_in digest_of now.core) (scene_of now) client) (scene_of now) (scene_of after) → IsSameRun now.core after.core
      → IsAlong (ByRest (world_in digest_of entry.core) (client + 1) (many - (client + 1))) (ByRest (world_in digest_of entry.core) 0 many) entry after
  rest_along_goes client many entry now after along within calls same =
      let next : many - client ≡ suc (many - (client + 1)) = omega arith in
      record {
        same = same_trans entry now after along.same same;
        leads = λ last later.
            along.leads last (subst (λ n. ByRest (of entry) client n (scene_of now) last) (sym next)
            (rest_goes (of entry) client (many - (client + 1)) (scene_of now) (scene_of after) last
            (in_world (λ w. ByCalls w client (calls_left w (scene_of now) client) (scene_of now) (scene_of after)) entry now along.same calls) later));
      }

  pub rest_along_passes : (client many : ℕ) (entry now : Playing R)
      → IsAlong (ByRest (world_in digest_of entry.core) client (many - client)) (ByRest (world_in digest_of entry.core) 0 many) entry now
      → client < many → has_calls (world_in digest_of now.core) (scene_of now) client ≡ false
      → IsAlong (ByRest (world_in digest_of entry.core) (client + 1) (many - (client + 1))) (ByRest (world_in digest_of entry.core) 0 many) entry now
  rest_along_passes client many entry now along within none =
      rest_along_goes client many entry now now along within
      (calls_none (of now) client (calls_left (of now) (scene_of now) client) (scene_of now) none) (same_self now)

  pub rest_along_over : (client many : ℕ) (entry now : Playing R)
      → IsAlong (ByRest (world_in digest_of entry.core) client (many - client)) (ByRest (world_in digest_of entry.core) 0 many) entry now
      → many ≤ client → ByRest (world_in digest_of entry.core) 0 many (scene_of entry) (scene_of now)
  rest_along_over client many entry now along past =
      let none : many - client ≡ 0 = omega arith in
      along.leads (scene_of now) (subst (λ n. ByRest (of entry) client n (scene_of now) (scene_of now)) (sym none) refl)

  pub moved_more : (order : List Move) (index : ℕ) (move : Move) (entry now after : Playing R)
      → IsMoved (ByMoves (world_in digest_of entry.core) (take index order)) entry now → index < length order → move ≡ get_or order index move
      → ByMove (world_in digest_of now.core) move (scene_of now) (scene_of after) → IsSameRun now.core after.core
      → IsMoved (ByMoves (world_in digest_of entry.core) (take (index + 1) order)) entry after
  moved_more order index move entry now after moved within is made same = record {
    same = same_trans entry now after moved.same same;
    made = subst (λ ms. ByMoves (of entry) ms (scene_of entry) (scene_of after))
        (sym (take_more order index move within ∙ ap (λ m. take index order ++ m ∷ []) (sym is)))
        (moves_pushed (of entry) (take index order) move (scene_of entry) (scene_of now) (scene_of after) moved.made
        (in_world (λ w. ByMove w move (scene_of now) (scene_of after)) entry now moved.same made));
  }

pub named_at : (test : Move → Bool) (order : List Move) (index : ℕ) (move : Move) → list_all test order ≡ true → index < length order → move ≡ get_or order index move → test move ≡ true
named_at test [] index move all within is = absurd (omega arith)
named_at test (first ∷ order) zero move all within is = ap test is ∙ first_of (test first) (list_all test order) all
  where
    first_of : (a b : Bool) → (a && b) ≡ true → a ≡ true
    first_of true b both = refl
    first_of false b both = absurd (cc)
named_at test (first ∷ order) (suc index) move all within is = named_at test order index move (later_of (test first) (list_all test order) all) (omega arith) is
  where
    later_of : (a b : Bool) → (a && b) ≡ true → b ≡ true
    later_of true b both = both
    later_of false b both = absurd (cc)

pub got_again : (order : List Move) (index : ℕ) (other : Move) → index < length order → get_or order index other ≡ get_or order index (get_or order index other)
got_again [] index other within = absurd (omega arith)
got_again (first ∷ order) zero other within = refl
got_again (first ∷ order) (suc index) other within = got_again order index other (omega arith)

-- the client that a move names is there
pub named_client : (servers clients number : ℕ) (client : Option ℕ) (next : Move) → move.Serve number client ≡ next → is_move_of servers clients next ≡ true → is_client_of clients client ≡ true
named_client servers clients number client next is named = later (nat_le number servers) (is_client_of clients client) (ap (is_move_of servers clients) is ∙ named)
  where
    later : (a b : Bool) → (a && b) ≡ true → b ≡ true
    later true b both = both
    later false b both = absurd (cc)

-- and so is the server
pub named_server : (servers clients number : ℕ) (client : Option ℕ) (next : Move) → move.Serve number client ≡ next → is_move_of servers clients next ≡ true → number ≤ servers
named_server servers clients number client next is named =
    leb-true number servers (first (nat_le number servers) (is_client_of clients client) (ap (is_move_of servers clients) is ∙ named))
  where
    first : (a b : Bool) → (a && b) ≡ true → a ≡ true
    first true b both = refl
    first false b both = absurd (cc)
