-- What an attempt asks for next, and the messages of a group.
use Rattle.std.specs.Prelude.{ℕ, List, [], map, Option, Some, None}
use Rattle.inf_base.specs.declared.id.Id.{Id}
use Rattle.inf_message.specs.declared.step.Message.{Message}
use Rattle.inf_message.specs.Who.{Who, lookup_of}
use Rattle.inf_resolve.specs.declared.known.Known.{Known}
use Rattle.inf_resolve.specs.declared.resolved.Resolved.{Resolved}
use Rattle.inf_resolve.specs.declared.resolved.Resolved.TheVariants as comes
use Rattle.inf_resolve.specs.Resolved.{resolved}
use Rattle.inf_duty.specs.declared.course.Course.{Course}
use Rattle.inf_duty.specs.declared.course.Deed.{Deed}
use Rattle.inf_duty.specs.ClientState.{ClientState, Stage, act, compose, round, winds}
use Rattle.inf_duty.specs.Course.{flow_at, next_course}
use Rattle.inf_duty.specs.Flow.{messages_of}

-- lookups, or the flow; a change in the way, and want of the root, have ended the attempt before
abbrev pub stage_by : Deed → Resolved → Stage
stage_by what (comes.Asks keys) = round keys
stage_by what (comes.Leads old new) = act (flow_at what old.chain old.left)
stage_by what over = compose

-- what an attempt asks for next, by what it was told so far
abbrev pub next_stage : (List ℕ → Id) → Who → List Known → Option Course → Stage
next_stage digest who known None = compose
next_stage digest who known (Some course) = stage_by course.deed (resolved digest who.root course.looked known)

abbrev pub composed_stage : (List ℕ → Id) → ClientState → Stage → Stage
composed_stage digest s compose = next_stage digest s.who s.known (next_course s.left)
composed_stage digest s other = other

-- what is asked for next is settled; asking is to follow
abbrev pub composed : (List ℕ → Id) → ClientState → ClientState
composed digest s = record s { stage = composed_stage digest s s.stage }

-- the messages that are sent before one of them is waited for
abbrev pub group : Who → Stage → List Message
group who compose = []
group who (round keys) = map (lookup_of who) keys
group who (act step) = messages_of who step
group who (winds ending ms later) = ms
