-- What follows a group has room: it has two messages at most, over all its steps.
use Rattle.std.proofs.Common.{◌≡◌, ℕ, ◌≤◌, Bool, true, false, cond, List, [], ◌∷◌, length, Option, Some, None, refl, sym, subst, arith}
use Rattle.inf_base.specs.declared.id.Id.{Id}
use Rattle.inf_base.specs.declared.answer.Answer.TheVariants as answer
use Rattle.inf_base.specs.declared.entry.Entry.{Entry}
use Rattle.inf_base.specs.declared.triple.Triple.{Triple}
use Rattle.inf_base.specs.declared.triple.Triple.TheVariants as triple
use Rattle.inf_base.specs.Identity.{identity}
use Rattle.inf_base.specs.Same.{dir_of}
use Rattle.inf_client.specs.Room.{asks_in, room_between, room_within}
use Rattle.inf_flow_dir.specs.declared.dir_flow.DirFlow.TheVariants as dir_flow
use Rattle.inf_message.specs.declared.ending.Ending.TheVariants as ending
use Rattle.inf_flow_file.specs.declared.file_flow.FileFlow.TheVariants as file_flow
use Rattle.inf_duty.specs.declared.flow.Flow.TheVariants as flow
use Rattle.inf_message.specs.declared.turn.Turn.TheVariants as turn
use Rattle.inf_duty.specs.ClientState.{ClientState, Stage, act, compose, round, winds, wound}
use Rattle.inf_duty.specs.Flow.{after_act, after_reply, clean_up}
use Rattle.inf_duty.specs.declared.course.Course.{Course}
use Rattle.inf_duty.specs.Course.{next_course}
use Rattle.inf_duty.specs.Turn.{after_group, known_turn, learned, turn_at, turn_by, turned}
use Rattle.inf_duty.specs.declared.flow.Flow.{Flow}
use Rattle.inf_duty.proofs.FlowFacts.{after_is}
use Rattle.inf_flow_dir.specs.DirFlow.{after_unlink, forget_in, lives_at, row_of}
use Rattle.inf_message.specs.Chain.{last_dir, last_entry, way_to}
use Rattle.inf_message.specs.CleanUp.{one_by_one}
use Rattle.inf_message.specs.Sent.{Sent, deciding, is_wanting}
use Rattle.inf_message.specs.Turn.{after_deciding, after_told, fails, turn_as}
use Rattle.inf_message.specs.Who.{Who, birth_of, last_id, lift}
use Rattle.inf_message.specs.declared.ending.Ending.{Ending}
use Rattle.inf_message.specs.declared.turn.Turn.{Turn}
use Rattle.inf_message.specs.declared.step.Message.{Message}
use Rattle.inf_message.specs.declared.op.Op.TheVariants as op
use Rattle.inf_message.specs.declared.reply.Reply.{Reply}
use Rattle.inf_message.specs.declared.reply.Reply.TheVariants as reply
use Rattle.inf_message.specs.declared.request.Request.TheVariants as request
use Rattle.inf_message.specs.History.{Told}
use Rattle.inf_resolve.specs.declared.known.Known.{Known}
use Rattle.inf_resolve.specs.declared.resolved.Resolved.{Resolved}
use Rattle.inf_resolve.specs.declared.resolved.Resolved.TheVariants as comes
use Rattle.inf_resolve.specs.Resolved.{resolved}

-- there is room for so many messages where memory is wanting for what follows
abbrev pub TurnFits : Who → ℕ → Turn Stage → Type 0
TurnFits who room (turn.GoesOn stage) = room_between who stage ≤ room
TurnFits who room (turn.WindsUp end steps) = asks_in steps ≤ room

-- the same of what a message of a flow comes to
abbrev FlowFits : Who → ℕ → Turn Flow → Type 0
FlowFits who room t = TurnFits who room (turn_as act t)

one_each : (messages : List Message) → asks_in (one_by_one messages) ≡ length messages
one_each [] = refl
one_each (m ∷ messages) = let later = one_each messages in omega arith

clean_up_two : (who : Who) (step : Flow) → asks_in (clean_up who step) ≤ 2
clean_up_two who (flow.File (file_flow.Finishes chain asked)) = omega arith
clean_up_two who (flow.Dir (dir_flow.Reserves chain name mode)) = omega arith
clean_up_two who (flow.Dir (dir_flow.Makes chain name mode version id)) = omega arith
clean_up_two who (flow.Dir (dir_flow.Links chain name mode version dir)) = omega arith
clean_up_two who (flow.Dir (dir_flow.Seals chain)) = omega arith
clean_up_two who (flow.Dir (dir_flow.Unlinks chain)) = omega arith

-- ---- after a round

fits_if : (who : Who) (b : Bool) (first second : Turn Stage) → TurnFits who 2 first → TurnFits who 2 second
    → TurnFits who 2 (cond b first second)
fits_if who true first second one other = one
fits_if who false first second one other = other

by_fits : (who : Who) (found : Resolved) → TurnFits who 2 (turn_by found)
by_fits who (comes.Asks keys) = omega arith
by_fits who (comes.Leads old new) = omega arith
by_fits who (comes.IsBusy by place) = omega arith
by_fits who comes.Lacks = omega arith

known_fits : (digest : List ℕ → Id) (who : Who) (known : List Known) (course : Option Course)
    → TurnFits who 2 (known_turn digest who known course)
known_fits digest who known None = omega arith
known_fits digest who known (Some course) = by_fits who (resolved digest who.root course.looked known)

-- ---- after a message of a flow

fails_fits : {F : Type 0} (wrap : F → Flow) (who : Who) (step : Flow) (place : ℕ) (given : Reply) → FlowFits who 2 (turn_as wrap (fails (clean_up who step) place given))
fails_fits wrap who step place (reply.Busy by at born) = clean_up_two who step
fails_fits wrap who step place (reply.Refused error) = clean_up_two who step
fails_fits wrap who step place reply.NoMem = clean_up_two who step
fails_fits wrap who step place any_reply = clean_up_two who step

row_one : (who : Who) (parent : _) (o : Option Entry) → length (row_of who parent o) ≤ 1
row_one who parent None = omega arith
row_one who parent (Some entry) = by (lives_at parent entry.key entry.access.birth) entry.access.birth
  where
    by : (b : Bool) (birth : Triple) → length (cond b [] (forget_in who (dir_of entry.access) birth)) ≤ 1
    by true birth = omega arith
    by false triple.Root = omega arith
    by false (triple.Of parent name version) = omega arith

unlink_two : (who : Who) (chain : List Entry) → asks_in (after_unlink who chain) ≤ 2
unlink_two who chain =
    let one = row_one who (last_id who (way_to chain)) (last_entry chain) in
    let each = one_each (lift who (last_dir chain) request.Drop ∷ row_of who (last_id who (way_to chain)) (last_entry chain)) in
    omega arith

act_fits : (digest : List ℕ → Id) (who : Who) (step : Flow) (ask_place place : ℕ) (given : Reply) → FlowFits who 2 (after_reply digest who step ask_place place given)
act_fits digest who (flow.File (file_flow.Finishes chain (op.Create name mode))) ask_place place reply.Fine = omega arith
act_fits digest who (flow.File (file_flow.Finishes chain (op.Stat name))) ask_place place (reply.Stat kind meta) = omega arith
act_fits digest who (flow.Dir (dir_flow.Reserves chain name mode)) ask_place place (reply.Reserved version) =
    clean_up_two who (flow.Dir (dir_flow.Makes chain name mode version (identity digest (birth_of who chain name version))))
act_fits digest who (flow.Dir (dir_flow.Makes chain name mode version id)) ask_place place reply.Fine = clean_up_two who (flow.Dir (dir_flow.Links chain name mode version (record { id = id; born = ask_place })))
act_fits digest who (flow.Dir (dir_flow.Makes chain name mode version id)) ask_place place (reply.Clash kept) =
    clean_up_two who (flow.Dir (dir_flow.Makes chain name mode version id))
act_fits digest who (flow.Dir (dir_flow.Links chain name mode version dir)) ask_place place reply.Fine = omega arith
act_fits digest who (flow.Dir (dir_flow.Seals chain)) ask_place place reply.Fine = clean_up_two who (flow.Dir (dir_flow.Unlinks chain))
act_fits digest who (flow.Dir (dir_flow.Unlinks chain)) ask_place place reply.Fine = unlink_two who chain
act_fits digest who (flow.File step) ask_place place given = fails_fits flow.File who (flow.File step) place given
act_fits digest who (flow.Dir step) ask_place place given = fails_fits flow.Dir who (flow.Dir step) place given

told_fits : (digest : List ℕ → Id) (who : Who) (step : Flow) (place : ℕ) (told : Option Told)
    → FlowFits who 2 (after_told (after_reply digest who step) place told)
told_fits digest who step place None = omega arith
told_fits digest who step place (Some told) = act_fits digest who step place told.serve_place told.reply

decided_fits : (digest : List ℕ → Id) (who : Who) (step : Flow) (found : Option Sent)
    → FlowFits who 2 (after_deciding (after_reply digest who step) found)
decided_fits digest who step None = omega arith
decided_fits digest who step (Some x) = told_fits digest who step x.place x.told

sent_fits : (digest : List ℕ → Id) (who : Who) (step : Flow) (sent : List Sent) → FlowFits who 2 (after_act digest who step sent)
sent_fits digest who step sent =
    subst (FlowFits who 2) (sym (after_is digest who step sent)) (decided_fits digest who step (deciding sent))

turn_fits : (digest : List ℕ → Id) (s : ClientState) (stage : Stage) → TurnFits s.who (room_within stage) (turn_at digest s stage)
turn_fits digest s compose = omega arith
turn_fits digest s (round keys) =
    fits_if s.who (is_wanting s.sent) (turn.WindsUp (ending.Answers answer.NoMemory None) []) _ (omega arith)
    (known_fits digest s.who s.known (next_course s.left))
turn_fits digest s (act step) = sent_fits digest s.who step s.sent
turn_fits digest s (winds end ms later) = omega arith

wound_fits : (end : Ending) (steps : List (List Message)) (s : ClientState) (room : ℕ) → asks_in steps ≤ room
    → room_between (wound end steps s).who (wound end steps s).stage ≤ room
wound_fits (ending.Answers given place) [] s room fits = omega arith
wound_fits ending.Retries [] s room fits = omega arith
wound_fits end (ms ∷ later) s room fits = omega arith

turned_fits : (t : Turn Stage) (s : ClientState) (room : ℕ) → TurnFits s.who room t → room_between (turned t s).who (turned t s).stage ≤ room
turned_fits (turn.GoesOn stage) s room fits = fits
turned_fits (turn.WindsUp end steps) s room fits = wound_fits end steps s room fits

-- there is room between two groups, where there was within the one before
pub next_fits : (digest : List ℕ → Id) (s : ClientState) (room : ℕ) → room_within s.stage ≤ room
    → room_between (after_group digest s).who (after_group digest s).stage ≤ room
next_fits digest s room fits =
    let knows = learned s.stage s in
    let there = turned_fits (turn_at digest knows s.stage) knows (room_within s.stage) (turn_fits digest knows s.stage) in
    omega arith

wound_between : (end : Ending) (steps : List (List Message)) (s : ClientState) → (wound end steps s).sent ≡ []
wound_between (ending.Answers given place) [] s = refl
wound_between ending.Retries [] s = refl
wound_between end (ms ∷ later) s = refl

turned_between : (t : Turn Stage) (s : ClientState) → (turned t s).sent ≡ []
turned_between (turn.GoesOn stage) s = refl
turned_between (turn.WindsUp end steps) s = wound_between end steps s

pub after_between : (digest : List ℕ → Id) (s : ClientState) → (after_group digest s).sent ≡ []
after_between digest s = turned_between (turn_at digest (learned s.stage s) s.stage) (learned s.stage s)
