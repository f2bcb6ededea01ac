-- The state of a client whose calls go by flows: the call under way, what it asked for it and was told, and the
-- results.
use Rattle.std.specs.Prelude.{ℕ, ◌+◌, ◌&&◌, not, Bool, true, false, List, [], ◌∷◌, ◌++◌, Option, Some, None}
use Rattle.inf_base.specs.declared.answer.Answer.{Answer}
use Rattle.inf_base.specs.declared.call.Call.{Call}
use Rattle.inf_base.specs.declared.caller.CallRef.{CallRef}
use Rattle.inf_base.specs.declared.key.LookKey.{LookKey}
use Rattle.inf_duty.specs.declared.flow.Flow.{Flow}
use Rattle.inf_message.specs.declared.call_result.CallResult.{CallResult}
use Rattle.inf_message.specs.declared.ending.Ending.{Ending}
use Rattle.inf_message.specs.declared.ending.Ending.TheVariants as ending
use Rattle.inf_message.specs.declared.step.Message.{Message}
use Rattle.inf_message.specs.Sent.{Sent, is_first, new_sent}
use Rattle.inf_message.specs.Who.{Who}
use Rattle.inf_resolve.specs.declared.known.Known.{Known}

-- where a client stands in the attempt of a call: between two groups, what it asks for next
pub data Stage : Type 0 where
  -- what is asked for next is to be settled, by what the attempt was told so far
  compose : Stage
  -- lookups of these keys, all of which are asked before one is waited for
  round : List LookKey → Stage
  -- the messages of a flow's step
  act : Flow → Stage
  -- messages whose replies do not matter, step after step, and then the end
  winds : Ending → List Message → List (List Message) → Stage

-- what the call under way took so far
pub record Counts : Type 0 where
  pub first : Option ℕ
  pub last : Option ℕ
  pub attempts : ℕ
  pub rounds : ℕ
  pub messages : ℕ
  -- whether this attempt has made an Ask
  pub is_begun : Bool

pub record ClientState : Type 0 where
  pub who : Who
  -- of the call under way, from 1
  pub number : ℕ
  -- the call under way, and those after it
  pub left : List Call
  pub stage : Stage
  -- what the rounds of the attempt were told that are over
  pub known : List Known
  -- the Asks of the present group, in their order
  pub sent : List Sent
  pub counts : Counts
  -- of the calls that ended
  pub results : List CallResult

abbrev pub no_counts : Counts
no_counts = record { first = None; last = None; attempts = 0; rounds = 0; messages = 0; is_begun = false }

abbrev pub idle : Who → List Call → ClientState
idle who calls =
    record {
      who = who;
      number = 1;
      left = calls;
      stage = compose;
      known = [];
      sent = [];
      counts = no_counts;
      results = [];
    }

abbrev pub call_ref : ClientState → CallRef
call_ref s = record { client = s.who.client; number = s.number }

abbrev pub result_of : Answer → Option ℕ → Option ℕ → ClientState → CallResult
result_of given place last s = record {
  call = call_ref s;
  answer = given;
  place = place;
  first = s.counts.first;
  last = last;
  attempts = s.counts.attempts;
  rounds = s.counts.rounds;
  messages = s.counts.messages;
}

abbrev pub rest_of : List Call → List Call
rest_of [] = []
rest_of (call ∷ calls) = calls

-- the call under way has ended, and the next one is under way
abbrev pub ended : Answer → Option ℕ → ClientState → ClientState
ended given place s = record s {
  number = s.number + 1;
  left = rest_of s.left;
  stage = compose;
  known = [];
  sent = [];
  counts = no_counts;
  results = s.results ++ result_of given place s.counts.last s ∷ [];
}

-- a new attempt
abbrev pub begins_again : ClientState → ClientState
begins_again s =
    record s { stage = compose; known = []; sent = []; counts = record s.counts { is_begun = false } }

abbrev pub finished : Ending → ClientState → ClientState
finished (ending.Answers given place) s = ended given place s
finished ending.Retries s = begins_again s

-- the steps that are left, and then the end
abbrev pub wound : Ending → List (List Message) → ClientState → ClientState
wound end [] s = finished end s
wound end (ms ∷ later) s = record s { stage = winds end ms later; sent = [] }

abbrev pub one_if : Bool → ℕ
one_if true = 1
one_if false = 0

abbrev pub is_round : Stage → Bool
is_round (round keys) = true
is_round other = false

abbrev pub first_place : Option ℕ → ℕ → Option ℕ
first_place None place = Some place
first_place (Some place) later = Some place

-- an Ask more: the first of an attempt counts the attempt, the first of a round the round
abbrev pub counted : ℕ → ClientState → Counts
counted place s = record {
  first = first_place s.counts.first place;
  last = s.counts.last;
  attempts = s.counts.attempts + one_if (not s.counts.is_begun);
  rounds = s.counts.rounds + one_if (is_round s.stage && is_first s.sent);
  messages = s.counts.messages + 1;
  is_begun = true;
}

abbrev pub placed : ℕ → ClientState → ClientState
placed place s = record s { sent = s.sent ++ new_sent place ∷ []; counts = counted place s }
