-- How the asks of a group find the client, and what giving a call up leaves.
use Rattle.std.proofs.Common.{◌≡◌, ℕ, ◌<◌, ◌≤◌, Bool, true, false, not, ◌&&◌, List, [], ◌∷◌, length, map, slice_get, Option, Some, None, cond, refl, sym, ap, subst, ◌∙◌, arith}
use Rattle.inf_base.specs.declared.id.Id.{Id}
use Rattle.inf_base.specs.declared.answer.Answer.TheVariants as answer
use Rattle.inf_base.specs.declared.entry.Entry.{Entry}
use Rattle.inf_base.specs.declared.key.LookKey.{LookKey}
use Rattle.inf_client.specs.Group.{IsFound, IsPassed}
use Rattle.inf_client.specs.Room.{asks_in, room_between}
use Rattle.inf_client.proofs.GroupFacts.{from_is, request_is, sends}
use Rattle.inf_duty.specs.Duty.{asks, found_at, given_up, given_up_in, has_ask, lifts, may_give_up, next_step}
use Rattle.inf_duty.specs.Messages.{are_none, is_winding}
use Rattle.inf_duty.specs.Outcome.{is_free}
use Rattle.inf_flow_dir.specs.declared.dir_flow.DirFlow.TheVariants as dir_flow
use Rattle.inf_message.specs.declared.ending.Ending.TheVariants as ending
use Rattle.inf_flow_file.specs.declared.file_flow.FileFlow.TheVariants as file_flow
use Rattle.inf_duty.specs.declared.flow.Flow.TheVariants as flow
use Rattle.inf_duty.specs.ClientState.{ClientState, Stage, act, call_ref, compose, round, winds, wound}
use Rattle.inf_duty.specs.Flow.{clean_up}
use Rattle.inf_duty.proofs.FlowFacts.{message_of, messages_are}
use Rattle.inf_duty.specs.Group.{composed, composed_stage, group, next_stage, stage_by}
use Rattle.inf_duty.specs.declared.course.Course.{Course}
use Rattle.inf_duty.specs.declared.course.Deed.{Deed}
use Rattle.inf_duty.specs.declared.course.Deed.TheVariants as deed
use Rattle.inf_duty.specs.Course.{flow_at, next_course}
use Rattle.inf_duty.specs.declared.flow.Flow.{Flow}
use Rattle.inf_message.specs.Who.{Who, lookup_of}
use Rattle.inf_message.specs.declared.ask.Ask.{Ask}
use Rattle.inf_message.specs.declared.request.Request.{Request}
use Rattle.inf_message.specs.declared.step.Message.{Message}
use Rattle.inf_resolve.specs.declared.known.Known.{Known}
use Rattle.inf_resolve.specs.declared.resolved.Resolved.{Resolved}
use Rattle.inf_resolve.specs.declared.resolved.Resolved.TheVariants as comes
use Rattle.inf_resolve.specs.Resolved.{resolved}

same_winding : (digest : List ℕ → Id) (s : ClientState) (stage : Stage) (asked : Request) → s.stage ≡ stage → is_winding stage ≡ true → s ≡ found_at digest asked s
same_winding digest s compose asked at winding = absurd (cc)
same_winding digest s (round keys) asked at winding = absurd (cc)
same_winding digest s (act step) asked at winding = absurd (cc)
same_winding digest s (winds end ms later) asked at winding = by (lifts asked) (may_give_up s)
  where
    by : (b c : Bool) → s ≡ cond b (cond c (given_up s) s) (composed digest s)
    by true true = rw at refl
    by true false = refl
    by false c = ap (λ stage. record s { stage = stage }) (rw at refl)

pub winding_found : (digest : List ℕ → Id) (s : ClientState) (number : ℕ) (ask : Ask) → is_winding s.stage ≡ true → next_step s ≡ asks number ask → IsFound digest ask s s
winding_found digest s number ask winding next = record {
  here = from_is s number ask next;
  state = same_winding digest s s.stage ask.request refl winding;
}

-- a group that does not wind its call up lifts nothing
keys_lift : (who : Who) (keys : List LookKey) (index : ℕ) (message : Message) → index ≡ 0 → slice_get (map (lookup_of who) keys) index ≡ Some message → lifts message.request ≡ false
keys_lift who [] index message first at = absurd (cc)
keys_lift who (key ∷ keys) index message first at =
    let same : Some (lookup_of who key) ≡ Some message = subst (λ n. slice_get (map (lookup_of who) (key ∷ keys)) n ≡ Some message) first at in
    let one : lookup_of who key ≡ message = cc in
    ap (λ (m : Message). lifts m.request) (sym one)

flow_lifts : (who : Who) (step : Flow) → lifts (message_of who step).request ≡ false
flow_lifts who (flow.File (file_flow.Finishes chain asked)) = refl
flow_lifts who (flow.Dir (dir_flow.Reserves chain name mode)) = refl
flow_lifts who (flow.Dir (dir_flow.Makes chain name mode version id)) = refl
flow_lifts who (flow.Dir (dir_flow.Links chain name mode version dir)) = refl
flow_lifts who (flow.Dir (dir_flow.Seals chain)) = refl
flow_lifts who (flow.Dir (dir_flow.Unlinks chain)) = refl

going_lifts : (who : Who) (stage : Stage) (message : Message) → is_winding stage ≡ false → slice_get (group who stage) 0 ≡ Some message
    → lifts message.request ≡ false
going_lifts who compose message going at = absurd (cc)
going_lifts who (round keys) message going at = keys_lift who keys 0 message refl at
going_lifts who (act step) message going at =
    let first : Some (message_of who step) ≡ Some message = ap (λ messages. slice_get messages 0) (sym (messages_are who step)) ∙ at in
    let one : message_of who step ≡ message = cc in
    ap (λ (m : Message). lifts m.request) (sym one) ∙ flow_lifts who step
going_lifts who (winds end ms later) message going at = absurd (cc)

by_goes : (what : Deed) (found : Resolved) → is_winding (stage_by what found) ≡ false
by_goes what (comes.Asks keys) = refl
by_goes what (comes.Leads old new) = refl
by_goes what (comes.IsBusy by place) = refl
by_goes what comes.Lacks = refl

next_goes : (digest : List ℕ → Id) (who : Who) (known : List Known) (course : Option Course)
    → is_winding (next_stage digest who known course) ≡ false
next_goes digest who known None = refl
next_goes digest who known (Some course) = by_goes course.deed (resolved digest who.root course.looked known)

composed_goes_in : (digest : List ℕ → Id) (s : ClientState) (stage : Stage) → is_winding stage ≡ false → is_winding (composed_stage digest s stage) ≡ false
composed_goes_in digest s compose going = next_goes digest s.who s.known (next_course s.left)
composed_goes_in digest s (round keys) going = refl
composed_goes_in digest s (act step) going = refl
composed_goes_in digest s (winds end ms later) going = going

pub composed_goes : (digest : List ℕ → Id) (s : ClientState) → is_winding s.stage ≡ false → is_winding (composed digest s).stage ≡ false
composed_goes digest s going = composed_goes_in digest s s.stage going

pub composed_found : (digest : List ℕ → Id) (s : ClientState) (number : ℕ) (ask : Ask) → is_winding s.stage ≡ false → s.sent ≡ [] → next_step (composed digest s) ≡ asks number ask
    → IsFound digest ask s (composed digest s)
composed_found digest s number ask going between next =
    let sent = sends (composed digest s) number ask next in
    let at : slice_get (group s.who (composed digest s).stage) 0 ≡ Some sent.message =
    ap (λ (index : ℕ). slice_get (group s.who (composed digest s).stage) index) (sym (ap length between)) ∙ sent.at in
    let other : lifts ask.request ≡ false =
    ap lifts (request_is (composed digest s) number ask sent) ∙ going_lifts s.who (composed digest s).stage sent.message (composed_goes digest s going) at in
    record {
      here = from_is (composed digest s) number ask next;
      state = sym (ap (λ b. cond b (cond (may_give_up s) (given_up s) s) (composed digest s)) other);
    }

-- ---- giving a call up

-- nothing is to be cleaned up before the first message of a flow
clean_start : (who : Who) (what : Deed) (chain : List Entry) (left : List (List ℕ)) → clean_up who (flow_at what chain left) ≡ []
clean_start who (deed.Create name mode) chain [] = refl
clean_start who (deed.Stat name) chain [] = refl
clean_start who (deed.Mkdir name mode) chain [] = refl
clean_start who deed.Rmdir chain [] = refl
clean_start who (deed.Create name mode) chain (next ∷ rest) = refl
clean_start who (deed.Stat name) chain (next ∷ rest) = refl
clean_start who (deed.Mkdir name mode) chain (next ∷ rest) = refl
clean_start who deed.Rmdir chain (next ∷ []) = refl
clean_start who deed.Rmdir chain (next ∷ other ∷ rest) = refl

given_by : (digest : List ℕ → Id) (s : ClientState) (what : Deed) (found : Resolved)
    → given_up_in (composed digest s) (stage_by what found) ≡ given_up_in s compose
given_by digest s what (comes.Asks keys) = refl
given_by digest s what (comes.Leads old new) =
    ap (λ steps. wound (ending.Answers answer.NoMemory None) steps (composed digest s))
    (clean_start s.who what old.chain old.left)
given_by digest s what (comes.IsBusy by place) = refl
given_by digest s what comes.Lacks = refl

given_composed_in : (digest : List ℕ → Id) (s : ClientState) (stage : Stage) → s.stage ≡ stage → given_up_in (composed digest s) (composed_stage digest s stage) ≡ given_up_in s stage
given_composed_in digest s compose at = by (next_course s.left)
  where
    by : (course : Option Course)
        → given_up_in (composed digest s) (next_stage digest s.who s.known course) ≡ given_up_in s compose
    by None = refl
    by (Some course) = given_by digest s course.deed (resolved digest s.who.root course.looked s.known)
given_composed_in digest s (round keys) at = refl
given_composed_in digest s (act step) at = by (clean_up s.who step)
  where
    by : (steps : List (List Message)) → wound (ending.Answers answer.NoMemory None) steps (composed digest s) ≡ wound (ending.Answers answer.NoMemory None) steps s
    by [] = refl
    by (ms ∷ later) = refl
given_composed_in digest s (winds end ms later) at = ap (λ stage. record s { stage = stage }) (rw at refl)

-- what is settled does not matter where the call is given up
pub given_composed : (digest : List ℕ → Id) (s : ClientState) → given_up (composed digest s) ≡ given_up s
given_composed digest s = given_composed_in digest s s.stage refl

given_room_in : (s : ClientState) (stage : Stage) → is_winding stage ≡ false
    → room_between (given_up_in s stage).who (given_up_in s stage).stage ≤ room_between s.who stage
given_room_in s compose going = omega arith
given_room_in s (round keys) going = omega arith
given_room_in s (act step) going = by (clean_up s.who step)
  where
    by : (steps : List (List Message)) → room_between (wound (ending.Answers answer.NoMemory None) steps s).who (wound (ending.Answers answer.NoMemory None) steps s).stage ≤ asks_in steps
    by [] = omega arith
    by (ms ∷ later) = omega arith
given_room_in s (winds end ms later) going = absurd (cc)

-- there is room for the clean-up
pub given_room : (s now : ClientState) (room : ℕ) → is_winding s.stage ≡ false → now ≡ given_up s → room_between s.who s.stage ≤ room
    → room_between now.who now.stage ≤ room
given_room s now room going is fits =
    let less = given_room_in s s.stage going in
    subst (λ (t : ClientState). room_between t.who t.stage ≤ room) (sym is) (omega arith)

given_between_in : (s : ClientState) (stage : Stage) → is_winding stage ≡ false → (given_up_in s stage).sent ≡ []
given_between_in s compose going = refl
given_between_in s (round keys) going = refl
given_between_in s (act step) going = by (clean_up s.who step)
  where
    by : (steps : List (List Message)) → (wound (ending.Answers answer.NoMemory None) steps s).sent ≡ []
    by [] = refl
    by (ms ∷ later) = refl
given_between_in s (winds end ms later) going = absurd (cc)

pub given_between : (s : ClientState) → is_winding s.stage ≡ false → (given_up s).sent ≡ []
given_between s going = given_between_in s s.stage going

pub record WindsUp (s : ClientState) (asked : Request) : Type 0 where
  pub here : call_ref (given_up s) ≡ call_ref s
  pub lifted : lifts asked ≡ true

-- the first step of a clean-up has messages, and the first of them lifts something
abbrev Lifts : List (List Message) → Type 0
Lifts [] = Unit {0}
Lifts ([] ∷ later) = ⊥
Lifts ((m ∷ ms) ∷ later) = lifts m.request ≡ true

clean_up_lifts : (who : Who) (step : Flow) → Lifts (clean_up who step)
clean_up_lifts who (flow.File (file_flow.Finishes chain asked)) = tt
clean_up_lifts who (flow.Dir (dir_flow.Reserves chain name mode)) = tt
clean_up_lifts who (flow.Dir (dir_flow.Makes chain name mode version id)) = refl
clean_up_lifts who (flow.Dir (dir_flow.Links chain name mode version dir)) = refl
clean_up_lifts who (flow.Dir (dir_flow.Seals chain)) = tt
clean_up_lifts who (flow.Dir (dir_flow.Unlinks chain)) = refl

given_some_in : (s : ClientState) (stage : Stage) → is_winding stage ≡ false → is_winding (given_up_in s stage).stage ≡ true
    → 0 < length (group (given_up_in s stage).who (given_up_in s stage).stage)
given_some_in s compose going winding = absurd (cc)
given_some_in s (round keys) going winding = absurd (cc)
given_some_in s (act step) going winding = by (clean_up s.who step) (clean_up_lifts s.who step) winding
  where
    by : (steps : List (List Message)) → Lifts steps → is_winding (wound (ending.Answers answer.NoMemory None) steps s).stage ≡ true
        → 0 < length (group (wound (ending.Answers answer.NoMemory None) steps s).who (wound (ending.Answers answer.NoMemory None) steps s).stage)
    by [] lifted winding = absurd (cc)
    by ([] ∷ later) lifted winding = absurd lifted
    by ((m ∷ ms) ∷ later) lifted winding = omega arith
given_some_in s (winds end ms later) going winding = absurd (cc)

-- the clean-up of a call that is given up has messages
pub given_some : (s now : ClientState) → is_winding s.stage ≡ false → now ≡ given_up s → is_winding now.stage ≡ true
    → 0 < length (group now.who now.stage)
given_some s now going is winding =
    subst (λ (t : ClientState). 0 < length (group t.who t.stage)) (sym is)
    (given_some_in s s.stage going (ap (λ (t : ClientState). is_winding t.stage) (sym is) ∙ winding))

winds_in : (s : ClientState) (stage : Stage) (message : Message) → s.stage ≡ stage → is_winding stage ≡ false → is_winding (given_up_in s stage).stage ≡ true
    → slice_get (group s.who (given_up_in s stage).stage) 0 ≡ Some message → WindsUp s message.request
winds_in s compose message at going winding there = absurd (cc)
winds_in s (round keys) message at going winding there = absurd (cc)
winds_in s (act step) message at going winding there = by (clean_up s.who step) refl (clean_up_lifts s.who step) winding there
  where
    by : (steps : List (List Message)) → clean_up s.who step ≡ steps → Lifts steps → is_winding (wound (ending.Answers answer.NoMemory None) steps s).stage ≡ true
        → slice_get (group s.who (wound (ending.Answers answer.NoMemory None) steps s).stage) 0 ≡ Some message → WindsUp s message.request
    by [] is lifted winding there = absurd (cc)
    by ([] ∷ later) is lifted winding there = absurd lifted
    by ((m ∷ ms) ∷ later) is lifted winding there =
        let same : m ≡ message = cc in
        record {
          here = ap call_ref (ap (given_up_in s) at ∙ ap (λ steps. wound (ending.Answers answer.NoMemory None) steps s) is);
          lifted = ap (λ (x : Message). lifts x.request) (sym same) ∙ lifted;
        }
winds_in s (winds end ms later) message at going winding there = absurd (cc)

who_in : (s : ClientState) (stage : Stage) → (given_up_in s stage).who ≡ s.who
who_in s compose = refl
who_in s (round keys) = refl
who_in s (act step) = by (clean_up s.who step)
  where
    by : (steps : List (List Message)) → (wound (ending.Answers answer.NoMemory None) steps s).who ≡ s.who
    by [] = refl
    by (ms ∷ later) = refl
who_in s (winds end ms later) = refl

may_so : (s : ClientState) → has_ask s ≡ true → is_winding s.stage ≡ false → may_give_up s ≡ true
may_so s some going = by (has_ask s) (is_winding s.stage) some going
  where
    by : (b c : Bool) → b ≡ true → c ≡ false → (b && not c) ≡ true
    by true false some going = refl
    by true true some going = absurd (cc)
    by false c some going = absurd (cc)

-- the clean-up of a call that is given up finds it
pub given_up_found : (digest : List ℕ → Id) (s : ClientState) (number : ℕ) (ask : Ask) → has_ask s ≡ true
    → is_winding s.stage ≡ false → is_winding (given_up s).stage ≡ true
    → next_step (given_up s) ≡ asks number ask → IsFound digest ask s (given_up s)
given_up_found digest s number ask some going winding next =
    let sent = sends (given_up s) number ask next in
    let at : slice_get (group s.who (given_up s).stage) 0 ≡ Some sent.message =
    ap (λ (who : Who). slice_get (group who (given_up s).stage) 0) (sym (who_in s s.stage))
    ∙ ap (λ (index : ℕ). slice_get (group (given_up s).who (given_up s).stage) index) (sym (ap length (given_between s going))) ∙ sent.at in
    let up = winds_in s s.stage sent.message refl going winding at in
    let lifted : lifts ask.request ≡ true = ap lifts (request_is (given_up s) number ask sent) ∙ up.lifted in
    record {
      here = from_is (given_up s) number ask next ∙ up.here;
      state = sym (ap (λ b. cond b (cond (may_give_up s) (given_up s) s) (composed digest s)) lifted ∙ ap (λ b. cond b (given_up s) s) (may_so s some going));
    }

passes_in : (s : ClientState) (stage : Stage) → s.stage ≡ stage → is_winding stage ≡ false → is_winding (given_up_in s stage).stage ≡ false → is_free s.who stage ≡ true
passes_in s compose at going passed = refl
passes_in s (round keys) at going passed = refl
passes_in s (act step) at going passed = by (clean_up s.who step) passed
  where
    by : (steps : List (List Message)) → is_winding (wound (ending.Answers answer.NoMemory None) steps s).stage ≡ false → are_none steps ≡ true
    by [] passed = refl
    by (ms ∷ later) passed = absurd (cc)
passes_in s (winds end ms later) at going passed = absurd (cc)

pub passed : (s now : ClientState) → is_winding s.stage ≡ false → has_ask s ≡ true → now ≡ given_up s → is_winding now.stage ≡ false
    → IsPassed s now
passed s now going some is winds_not = record {
  free =
      ap (λ b. b && is_free s.who s.stage) (may_so s some going)
      ∙ passes_in s s.stage refl going (ap (λ (t : ClientState). is_winding t.stage) (sym is) ∙ winds_not);
  state = is;
}
