-- What an order makes where nothing wants memory.
use Rattle.std.specs.Prelude.{◌≡◌, Bool, true, false, List}
use Rattle.std.specs.List.{list_any}
use Rattle.inf_base.specs.declared.answer.Answer.{Answer}
use Rattle.inf_base.specs.declared.answer.Answer.TheVariants as answer
use Rattle.inf_duty.specs.World.{World}
use Rattle.inf_message.specs.declared.call_result.CallResult.{CallResult}
use Rattle.inf_message.specs.declared.event.Event.{Event}
use Rattle.inf_message.specs.declared.event.Event.TheVariants as event
use Rattle.inf_message.specs.declared.reply.Reply.{Reply}
use Rattle.inf_message.specs.declared.reply.Reply.TheVariants as reply
use Rattle.inf_order.specs.declared.moves.Move.{Move}
use Rattle.inf_sched.specs.Order.{ByOrder, results_in}
use Rattle.inf_sched.specs.Scene.{opening}
use Rattle.inf_sched.specs.Straight.{straight}

abbrev pub is_no_mem : Reply → Bool
is_no_mem reply.NoMem = true
is_no_mem any_reply = false

-- a server replied that it wanted memory
abbrev pub wanted : Event → Bool
wanted (event.Ask number ask) = false
wanted (event.Serve number ask_place given) = is_no_mem given

abbrev pub is_no_memory : Answer → Bool
is_no_memory answer.NoMemory = true
is_no_memory any_answer = false

-- a call ended for want of memory
abbrev pub gave_up : CallResult → Bool
gave_up result = is_no_memory result.answer

-- no server replied that it wanted memory, and no call ended for want of it
pub record WantsNoMemory (h : List Event) (results : List CallResult) : Type 0 where
  pub replies : list_any wanted h ≡ false
  pub answers : list_any gave_up results ≡ false

-- the history and the results are those of the run in which nothing wants memory
pub record IsStraight (world : World) (order : List Move) (h : List Event) (results : List CallResult) : Type 0 where
  pub made : h ≡ (straight world order (opening world)).history
  pub counted : results ≡ results_in world (straight world order (opening world))

-- the order makes them, and nothing wants memory on the way
pub record MakesCalmly (world : World) (order : List Move) (h : List Event) (results : List CallResult) : Type 0 where
  pub makes : ByOrder world order h results
  pub calm : WantsNoMemory h results
