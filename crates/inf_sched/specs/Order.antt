-- The outcomes that an order makes.
use Rattle.std.specs.Prelude.{◌≡◌, ℕ, ◌+◌, Bool, true, false, List, [], ◌∷◌, ◌++◌}
use Rattle.inf_base.specs.declared.setup.ClientLine.{ClientLine}
use Rattle.inf_duty.specs.ClientState.{ClientState}
use Rattle.inf_duty.specs.Outcome.{all_given_up, results_of}
use Rattle.inf_duty.specs.World.{World}
use Rattle.inf_message.specs.declared.call_result.CallResult.{CallResult}
use Rattle.inf_message.specs.declared.event.Event.{Event}
use Rattle.inf_order.specs.declared.moves.Move.{Move}
use Rattle.inf_sched.specs.Moves.{ByMove, FollowedBy}
use Rattle.inf_sched.specs.Scene.{Scene, client_in, is_gone, opening}

-- the moves are made one after another
abbrev pub ByMoves : World → List Move → Scene → Scene → Type 0
ByMoves world [] old new = new ≡ old
ByMoves world (move ∷ moves) old new =
    FollowedBy (λ mid. ByMove world move old mid) (λ mid. ByMoves world moves mid new)

-- what a client's calls came to: where it gave up what was left, these calls wanted memory; else they are unanswered
abbrev pub came_to : Bool → ClientState → List CallResult
came_to true s = results_of (all_given_up s.left s)
came_to false s = results_of s

abbrev pub results_from : World → Scene → ℕ → List ClientLine → List CallResult
results_from world scene client [] = []
results_from world scene client (line ∷ lines) =
    came_to (is_gone scene client) (client_in world scene client) ++ results_from world scene (client + 1) lines

-- one result for each call, in the order of the script
abbrev pub results_in : World → Scene → List CallResult
results_in world scene = results_from world scene 0 world.setup.clients

-- the order's moves made the history and the results. Nothing is free but want of memory: of a client that is to ask
-- between two groups, and of a server that may reply so.
pub record ByOrder (world : World) (order : List Move) (h : List Event) (results : List CallResult) : Type 0 where
  pub scene : Scene
  pub moves : ByMoves world order (opening world) scene
  pub made : scene.history ≡ h
  pub counted : results ≡ results_in world scene
