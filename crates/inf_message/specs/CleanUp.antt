-- Messages of clean-ups, as code has them.
use Rattle.std.specs.Prelude.{ℕ, List, [], ◌∷◌, map, Option, Some, None}
use Rattle.std.specs.List.{range_with_len}
use Rattle.inf_message.specs.declared.clean_up.Target.{Target}
use Rattle.inf_message.specs.declared.clean_up.Target.TheVariants as target
use Rattle.inf_message.specs.declared.request.Request.{Request}
use Rattle.inf_message.specs.declared.request.Request.TheVariants as request
use Rattle.inf_message.specs.declared.step.Message.{Message}
use Rattle.inf_message.specs.declared.lift.Lift.{Lift}
use Rattle.inf_message.specs.declared.lift.Lift.TheVariants as lift

abbrev pub request_of : Lift → Request
request_of (lift.Cancel dir) = request.Cancel dir
request_of (lift.Drop dir) = request.Drop dir
request_of (lift.Unseal dir) = request.Unseal dir
request_of (lift.Forget parent dir) = request.Forget parent dir

abbrev pub clean_up_message : ℕ → Lift → Message
clean_up_message number lifted = record { number = number; request = request_of lifted }

-- one server, or each of so many
abbrev pub numbers_of : Target → List ℕ
numbers_of (target.One number) = number ∷ []
numbers_of (target.Each servers) = range_with_len 0 servers

-- the messages of a step, which are sent at once: the same to each of its servers
abbrev pub step_of : Target → Lift → List Message
step_of to lifted = map (λ (number : ℕ). clean_up_message number lifted) (numbers_of to)

-- steps of one message each
abbrev pub one_by_one : List Message → List (List Message)
one_by_one [] = []
one_by_one (m ∷ ms) = (m ∷ []) ∷ one_by_one ms

-- at most two, in their order
abbrev pub in_order : {T : Type 0} → Option T → Option T → List T
in_order None None = []
in_order None (Some second) = second ∷ []
in_order (Some first) None = first ∷ []
in_order (Some first) (Some second) = first ∷ second ∷ []
