-- Where nothing wants memory, the moves lead to one scene.
use Rattle.std.proofs.Common.{◌≡◌, ℕ, zero, suc, ◌+◌, Bool, true, false, List, [], ◌∷◌, length, Option, Some, None, sym, ap, subst, ◌∙◌, ⊎_elim}
use Rattle.inf_duty.specs.World.{World}
use Rattle.inf_order.specs.declared.moves.Move.{Move}
use Rattle.inf_order.specs.declared.moves.Move.TheVariants as move
use Rattle.inf_sched.specs.Moves.{ByAlone, ByCall, ByCalls, ByMove, ByRest, ByStep, GoesOn, IfElse, ServesOldest, ServesOn}
use Rattle.inf_sched.specs.Order.{ByMoves}
use Rattle.inf_sched.specs.Scene.{Scene, calls_left, can_ask, has_calls, has_ended, number_in}
use Rattle.inf_sched.specs.Straight.{alone, ask_on, call, calls, made, only_if, rest, serve_found, serve_on, step, straight, unless, with_next_ask, with_serve}
use Rattle.inf_sched.specs.Waiting.{Posting, is_by, is_for, oldest}
use Rattle.inf_sched.specs.declared.limits.TheConstants.{MOST_EVENTS}
use Rattle.inf_sched.proofs.StraightSteps.{IsCalm, Leads, asks_lead, serve_leads}

stays : (world : World) (old new : Scene) → new ≡ old → IsCalm world new → Leads world old new old
stays world old new same calm = record { calm = subst (IsCalm world) same calm; same = same }

-- one step, and what follows it
then_leads : (world : World) (old mid new there : Scene) (later : Scene → Scene) → Leads world mid new (later mid) → (IsCalm world mid → Leads world old mid there) → Leads world old new (later there)
then_leads world old mid new there later last first =
    let before : Leads world old mid there = first last.calm in
    record { calm = before.calm; same = last.same ∙ ap later before.same }

step_leads : (world : World) (client : ℕ) (old new : Scene) → ByStep world client old new → IsCalm world new → Leads world old new (step world client old)
step_leads world client old new by calm =
    ⊎_elim
    (λ makes.
    let next = asks_lead world client old new makes calm in
    subst (λ b. Leads world old new (only_if b (with_next_ask world client) old)) (sym next.can) next.leads)
    (λ none. subst (λ b. Leads world old new (only_if b (with_next_ask world client) old)) (sym none.0.idle) (stays world old new none.1 calm))
    by

found_leads : (world : World) (found : Option Posting) (old new : Scene) → ServesOldest world found old new → IsCalm world new → Leads world old new (serve_found world found old)
found_leads world None old new by calm = stays world old new by calm
found_leads world (Some p) old new by calm = serve_leads world p old new by calm

serve_on_leads : (world : World) (found : Option Posting) (old new : Scene) (Later : Scene → Type 0) (later : Scene → Scene) → ((mid : Scene) → Later mid → Leads world mid new (later mid)) → ServesOn world found old new Later → IsCalm world new → Leads world old new (serve_on world found later old)
serve_on_leads world None old new Later later follows by calm = stays world old new by calm
serve_on_leads world (Some p) old new Later later follows by calm =
    then_leads world old by.between new (with_serve world p old) later (follows by.between by.later) (λ mid. serve_leads world p old by.between by.first mid)

goes_on_leads : (world : World) (client : ℕ) (old new : Scene) (Later : Scene → Type 0) (later : Scene → Scene) → ((mid : Scene) → Later mid → Leads world mid new (later mid)) → GoesOn world client old new Later → IsCalm world new → Leads world old new (ask_on world client (can_ask world old client) later old)
goes_on_leads world client old new Later later follows by calm =
    ⊎_elim
    (λ makes.
    let last : Leads world makes.between new (later makes.between) = follows makes.between makes.later in
    let next = asks_lead world client old makes.between makes.first last.calm in
    subst (λ b. Leads world old new (ask_on world client b later old)) (sym next.can)
    (then_leads world old makes.between new (with_next_ask world client old) later last (λ mid. next.leads)))
    (λ none.
    subst (λ b. Leads world old new (ask_on world client b later old)) (sym none.0.idle)
    (serve_on_leads world (oldest (is_by client) old.history) old new Later later follows none.1 calm))
    by

unless_leads : (world : World) (test : Bool) (Goes : Type 0) (later : Scene → Scene) (old new : Scene) → (Goes → Leads world old new (later old)) → IsCalm world new → IfElse test (new ≡ old) Goes → Leads world old new (unless test later old)
unless_leads world true Goes later old new follows calm by = stays world old new by calm
unless_leads world false Goes later old new follows calm by = follows by

only_if_leads : (world : World) (test : Bool) (Goes : Type 0) (later : Scene → Scene) (old new : Scene) → (Goes → Leads world old new (later old)) → IsCalm world new → IfElse test Goes (new ≡ old) → Leads world old new (only_if test later old)
only_if_leads world true Goes later old new follows calm by = follows by
only_if_leads world false Goes later old new follows calm by = stays world old new by calm

alone_leads : (world : World) (client number events : ℕ) (old new : Scene) → ByAlone world client number events old new → IsCalm world new → Leads world old new (alone world client number events old)
alone_leads world client number zero old new by calm = stays world old new by calm
alone_leads world client number (suc events) old new by calm =
    unless_leads world (has_ended world client number old) (GoesOn world client old new (λ mid. ByAlone world client number events mid new))
    (λ now. ask_on world client (can_ask world now client) (λ mid. alone world client number events mid) now)
    old new
    (λ goes.
    goes_on_leads world client old new (λ mid. ByAlone world client number events mid new) (λ mid. alone world client number events mid)
    (λ mid later. alone_leads world client number events mid new later calm) goes calm)
    calm by

call_leads : (world : World) (client : ℕ) (old new : Scene) → ByCall world client old new → IsCalm world new → Leads world old new (call world client old)
call_leads world client old new by calm = alone_leads world client (number_in world old client) MOST_EVENTS old new by calm

calls_lead : (world : World) (client count : ℕ) (old new : Scene) → ByCalls world client count old new → IsCalm world new → Leads world old new (calls world client count old)
calls_lead world client zero old new by calm = stays world old new by calm
calls_lead world client (suc count) old new by calm =
    only_if_leads world (has_calls world old client) _
    (λ now.
    only_if (has_ended world client (number_in world now client) (call world client now)) (λ mid. calls world client count mid) (call world client now))
    old new
    (λ some.
    then_leads world old some.between new (call world client old)
    (λ mid. only_if (has_ended world client (number_in world old client) mid) (λ after. calls world client count after) mid)
    (only_if_leads world (has_ended world client (number_in world old client) some.between) (ByCalls world client count some.between new)
    (λ after. calls world client count after) some.between new
    (λ later. calls_lead world client count some.between new later calm) calm some.later)
    (λ mid. call_leads world client old some.between some.first mid))
    calm by

rest_leads : (world : World) (client clients : ℕ) (old new : Scene) → ByRest world client clients old new → IsCalm world new → Leads world old new (rest world client clients old)
rest_leads world client zero old new by calm = stays world old new by calm
rest_leads world client (suc clients) old new by calm =
    then_leads world old by.between new (calls world client (calls_left world old client) old) (λ mid. rest world (client + 1) clients mid)
    (rest_leads world (client + 1) clients by.between new by.later calm)
    (λ mid. calls_lead world client (calls_left world old client) old by.between by.first mid)

move_leads : (world : World) (next : Move) (old new : Scene) → ByMove world next old new → IsCalm world new → Leads world old new (made world next old)
move_leads world (move.Step client) old new by calm = step_leads world client old new by calm
move_leads world (move.Alone client) old new by calm = call_leads world client old new by calm
move_leads world (move.Serve number client) old new by calm = found_leads world (oldest (is_for number client) old.history) old new by calm
move_leads world move.Rest old new by calm = rest_leads world 0 (length world.setup.clients) old new by calm

pub moves_lead : (world : World) (moves : List Move) (old new : Scene) → ByMoves world moves old new → IsCalm world new → Leads world old new (straight world moves old)
moves_lead world [] old new by calm = stays world old new by calm
moves_lead world (next ∷ moves) old new by calm =
    then_leads world old by.between new (made world next old) (λ mid. straight world moves mid)
    (moves_lead world moves by.between new by.later calm)
    (λ mid. move_leads world next old by.between by.first mid)
