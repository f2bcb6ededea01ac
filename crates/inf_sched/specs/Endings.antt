-- The calls that an order of moves leaves undecided.
use Rattle.std.specs.Prelude.{◌≡◌, ℕ, ◌+◌, ◌<◌, Bool, true, false, not, List, length}
use Rattle.inf_duty.specs.Outcome.{all_given_up}
use Rattle.inf_duty.specs.World.{World}
use Rattle.inf_message.specs.declared.ending.Ending.TheVariants as ending
use Rattle.inf_duty.specs.ClientState.{ClientState, Stage, round, winds}
use Rattle.inf_message.specs.Sent.{Sent, is_wanting}
use Rattle.inf_message.specs.declared.call_result.CallResult.{CallResult}
use Rattle.inf_sched.specs.Scene.{Scene, client_in, is_gone}

-- a client once it gave up what it had left, where it did
abbrev pub left_by : Bool → ClientState → ClientState
left_by true s = all_given_up s.left s
left_by false s = s

-- where a client stands after the moves: a call that it gave up has ended
abbrev pub standing_in : World → Scene → ℕ → ClientState
standing_in world scene client = left_by (is_gone scene client) (client_in world scene client)

-- no answer has come to the call under way, nor want of memory
abbrev pub is_open : List Sent → Stage → Bool
is_open sent (round keys) = not (is_wanting sent)
is_open sent (winds (ending.Answers given place) ms later) = false
is_open sent other_stage = true

abbrev pub is_undecided : ClientState → Bool
is_undecided s = is_open s.sent s.stage

-- the result is of a call that its client has left, and that nothing has decided
pub record IsLeftOpen (world : World) (scene : Scene) (result : CallResult) : Type 0 where
  -- the calls left before it
  pub before : ℕ
  pub numbered : result.call.number ≡ (standing_in world scene result.call.client).number + before
  pub left : before < length (standing_in world scene result.call.client).left
  pub undecided : before ≡ 0 → is_undecided (standing_in world scene result.call.client) ≡ true
