-- What one Serve came to: what is replied, what changed, what passed, what blocked and what refused.
use Rattle.std.specs.Prelude.{◌≡◌, ◌⊎◌, ℕ, true, false}
use Rattle.inf_message.specs.declared.ask.Ask.{Ask}
use Rattle.inf_message.specs.declared.reply.Reply.{Reply}
use Rattle.inf_message.specs.declared.reply.Reply.TheVariants as reply
use Rattle.inf_message.specs.declared.request.Request.{Request}
use Rattle.inf_server.specs.Machine.{may_want}
use Rattle.inf_server.specs.State.{Site, State}
use Rattle.inf_laws_server.specs.Changes.{changed}
use Rattle.inf_laws_server.specs.Done.{answer_of, change_of}
use Rattle.inf_laws_server.specs.Passed.{Passed}
use Rattle.inf_laws_server.specs.Replies.{Fails, Succeeds, is_failure}

-- the checks let the request through; what passed tells what is said and what changes
pub record IsDone (site : Site) (old : State) (place : ℕ) (ask : Ask) (asked : Request) (given : Reply)
    (new : State) : Type 0 where
  pub passed : Passed site old ask asked
  pub said : given ≡ answer_of site old ask asked passed
  pub did : new ≡ changed (change_of site old place ask asked passed) old
  pub succeeds : Succeeds given asked

-- the success of the kind, a failure of the kind, or that memory is wanted
abbrev pub MayReply : Site → State → Ask → Request → Reply → Type 0
MayReply site old ask asked given =
    Succeeds given asked ⊎ Fails site old ask asked given ⊎ ((given ≡ reply.NoMem) × (may_want asked ≡ true))

pub record CameTo (site : Site) (old : State) (place : ℕ) (ask : Ask) (given : Reply) (new : State) : Type 0 where
  pub replies : MayReply site old ask ask.request given
  pub left : is_failure given ≡ true → new ≡ old
  pub done : is_failure given ≡ false → IsDone site old place ask ask.request given new
