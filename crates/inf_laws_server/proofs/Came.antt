-- What came of a request: it failed as requests of its kind do, or was done.
use Rattle.std.proofs.Common.{◌≡◌, ℕ, Result, Ok, Err, subst}
use Rattle.inf_message.specs.declared.ask.Ask.{Ask}
use Rattle.inf_message.specs.declared.reply.Reply.{Reply}
use Rattle.inf_message.specs.declared.request.Request.{Request}
use Rattle.inf_server.specs.Response.{Response}
use Rattle.inf_server.specs.State.{Site, State}
use Rattle.inf_laws_server.specs.CameTo.{IsDone}
use Rattle.inf_laws_server.specs.Replies.{Fails}
use Rattle.inf_laws_server.proofs.Walking.{Comes}

abbrev pub Did : Site → State → ℕ → Ask → Request → Response → Type 0
Did site state place ask asked end = IsDone site state place ask asked end.reply end.state

abbrev pub Came : Site → State → ℕ → Ask → Request → Result Response Reply → Type 0
Came site state place ask asked comes = Comes (Fails site state ask asked) (Did site state place ask asked) comes

module _ (site : Site) (state : State) (place : ℕ) (ask : Ask) (asked : Request) (comes : Result Response Reply)
    (came : Came site state place ask asked comes) where
  pub did : (end : Response) → comes ≡ Ok end → Did site state place ask asked end
  did end is = subst (Came site state place ask asked) is came

  pub failed : (given : Reply) → comes ≡ Err given → Fails site state ask asked given
  failed given is = subst (Came site state place ask asked) is came
