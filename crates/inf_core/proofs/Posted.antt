-- The Asks of a legal history: servers know their kinds, their chains are short, and the server that is asked is there.
use Rattle.std.proofs.Common.{◌≡◌, ℕ, zero, suc, eqb, List, [], ◌∷◌, length, map, slice_get, Option, None, Some, refl, subst}
use Rattle.inf_base.specs.declared.call.Call.{Call}
use Rattle.inf_base.specs.declared.id.Id.{Id}
use Rattle.inf_base.specs.declared.key.LookKey.{LookKey}
use Rattle.inf_base.specs.declared.setup.ClientLine.{ClientLine}
use Rattle.inf_duty.specs.After.{client_after}
use Rattle.inf_duty.specs.Duty.{asked, asks, begun, given_up, next_in, next_of}
use Rattle.inf_duty.specs.Start.{starting}
use Rattle.inf_duty.specs.World.{World}
use Rattle.inf_duty.specs.ClientState.{ClientState, Stage, act, compose, round, winds}
use Rattle.inf_duty.specs.Group.{composed, group}
use Rattle.inf_duty.specs.Course.{next_course}
use Rattle.inf_duty.specs.Turn.{after_record, is_complete, recorded, served, told_in}
use Rattle.inf_duty.specs.declared.flow.Flow.{Flow}
use Rattle.inf_message.specs.Sent.{Sent, has_place}
use Rattle.inf_message.specs.Who.{Who, asked_id, lookup_of}
use Rattle.inf_laws_history.specs.Legal.{Legal, MayAsk}
use Rattle.inf_duty.proofs.BegunKept.{if_both, kept_begun}
use Rattle.inf_laws_history.proofs.ClientSteps.{Lasts, given_up_lasts, served_lasts}
use Rattle.inf_message.specs.declared.ask.Ask.{Ask}
use Rattle.inf_message.specs.declared.event.Event.{Event}
use Rattle.inf_message.specs.declared.event.Event.TheVariants as event
use Rattle.inf_message.specs.declared.request.Request.{Request}
use Rattle.inf_message.specs.declared.request.Request.TheVariants as request
use Rattle.inf_message.specs.declared.step.Message.{Message}
use Rattle.inf_message.specs.History.{Posted, Told, asked_at, posted_ask, told_reply}
use Rattle.inf_message.proofs.HistoryLaws.{by_test}
use Rattle.inf_resolve.specs.declared.known.Known.{Known}
use Rattle.inf_duty.specs.Keeps.{ClientKeeps}
use Rattle.inf_duty.proofs.KeepsFacts.{composed_fits, given_up_fits, settled_fits}
use Rattle.inf_core.proofs.KnownFlows.{AreKnown, AreKnownSteps, IsKnown, IsKnownFlow, IsKnownMessage, IsKnownStage, flow_known, flows_known, known, next_known, next_stage_known, no_chain}

-- ---- what clients are to send

abbrev FlowIsKnown : Who → List Call → Flow → Type 0
FlowIsKnown who calls step = IsKnownFlow step

abbrev KnowsAny : List Known → Type 0
KnowsAny told = Unit {0}

-- what a client sends stays known, whatever its attempt knows
messages_keep : (digest : List ℕ → Id) → ClientKeeps digest KnowsAny FlowIsKnown AreKnownSteps
messages_keep digest = record {
  begins = λ who calls told any. next_stage_known digest who told (next_course calls) (next_known calls);
  flows = λ who calls. flows_known who digest;
  none = λ who. tt;
  later = λ who ms later are. are.1;
}

-- ---- clients

abbrev HasServers : World → ClientState → Type 0
HasServers world s = s.who.servers ≡ world.setup.servers

servers_last : (world : World) → Lasts world.digest (HasServers world)
servers_last world = record {
  composing = λ s is. is;
  ending = λ given place s is. is;
  again = λ s is. is;
  going_on = λ next s is. is;
  learning = λ told s is. is;
}

-- what a client knows of the servers, and where it stands
record Knows (world : World) (s : ClientState) : Type 0 where
  servers : HasServers world s
  stage : IsKnownStage s.who s.stage

module _ (world : World) where
  composed_knows : (s : ClientState) → Knows world s → Knows world (composed world.digest s)
  composed_knows s knows = record {
    servers = knows.servers;
    stage = composed_fits world.digest KnowsAny FlowIsKnown AreKnownSteps (messages_keep world.digest) s tt knows.stage;
  }

  given_up_knows : (s : ClientState) → Knows world s → Knows world (given_up s)
  given_up_knows s knows = record {
    servers = given_up_lasts world.digest (HasServers world) (servers_last world) s knows.servers;
    stage =
        given_up_fits FlowIsKnown AreKnownSteps (λ who calls step is. (flows_known who world.digest).cleans step is) s
        knows.stage;
  }

  begun_knows : (ask : Ask) (sent : List Sent) (s : ClientState) → Knows world s → Knows world (begun world.digest ask sent s)
  begun_knows ask sent s knows =
      kept_begun world.digest (Knows world) (record { composing = composed_knows; giving_up = given_up_knows }) ask sent s
      knows

  asked_knows : (place : ℕ) (ask : Ask) (s : ClientState) → Knows world s → Knows world (asked world.digest place ask s)
  asked_knows place ask s knows =
      let now = begun_knows ask s.sent s knows in
      record { servers = now.servers; stage = now.stage }

  served_knows : (ask_place : ℕ) (told : Told) (s : ClientState) → Knows world s → Knows world (served world.digest ask_place told s)
  served_knows ask_place told s knows =
      let after : ClientState = recorded ask_place (told_in s told) s in
      record {
        servers =
            served_lasts world.digest (HasServers world) (servers_last world) (λ place told s is. is) ask_place told s
            knows.servers;
        stage =
            if_both (λ (t : ClientState). IsKnownStage t.who t.stage) (has_place ask_place s.sent)
            (after_record world.digest after) s
            (settled_fits world.digest KnowsAny FlowIsKnown AreKnownSteps (messages_keep world.digest) (is_complete after)
            after knows.stage)
            knows.stage;
      }

  starting_knows : (client : ℕ) (line : Option ClientLine) → Knows world (starting world client line)
  starting_knows client None = record { servers = refl; stage = tt }
  starting_knows client (Some line) = record { servers = refl; stage = tt }

  knows_after : (client : ℕ) (h : List Event) → Knows world (client_after world client h)
  knows_after client [] = starting_knows client (slice_get world.setup.clients client)
  knows_after client (event.Ask number ask ∷ h) =
      if_both (Knows world) (eqb ask.from.client client) _ _
      (asked_knows (suc (length h)) ask (client_after world client h) (knows_after client h))
      (knows_after client h)
  knows_after client (event.Serve number ask_place given ∷ h) =
      served_knows ask_place (told_reply (suc (length h)) given) (client_after world client h) (knows_after client h)

-- ---- the messages of a group

lookups_known : (who : Who) (keys : List LookKey) → AreKnown who.servers (map (lookup_of who) keys)
lookups_known who [] = tt
lookups_known who (k ∷ keys) = (known who (asked_id who k) (request.Lookup k) refl no_chain, lookups_known who keys)

group_known : (who : Who) (stage : Stage) → IsKnownStage who stage → AreKnown who.servers (group who stage)
group_known who compose is = tt
group_known who (round keys) is = lookups_known who keys
group_known who (act step) is = flow_known who step is
group_known who (winds end ms later) is = is.0

message_known : (servers index : ℕ) (messages : List Message) (message : Message) → AreKnown servers messages → slice_get messages index ≡ Some message → IsKnownMessage servers message
message_known servers index [] message are found = absurd (cc)
message_known servers zero (first ∷ messages) message are found =
    let same : first ≡ message = cc in
    subst (IsKnownMessage servers) same are.0
message_known servers (suc index) (first ∷ messages) message are found = message_known servers index messages message are.1 found

-- ---- an Ask that is the client's duty

duty_known : (t : ClientState) (number : ℕ) (ask : Ask) → IsKnownStage t.who t.stage → (left : List Call) → next_in t left ≡ asks number ask → IsKnown t.who.servers number ask.request
duty_known t number ask is [] duty = absurd (cc)
duty_known t number ask is (next ∷ left) duty = by (slice_get (group t.who t.stage) (length t.sent)) refl duty
  where
    by : (found : Option Message) → slice_get (group t.who t.stage) (length t.sent) ≡ found → next_of t found ≡ asks number ask → IsKnown t.who.servers number ask.request
    by None at same = absurd (cc)
    by (Some message) at same =
        let to_it : message.number ≡ number = cc in
        let of_it : message.request ≡ ask.request = cc in
        subst (λ n. IsKnown t.who.servers n ask.request) to_it
        (subst (λ (r : Request). IsKnown t.who.servers message.number r) of_it
        (message_known t.who.servers (length t.sent) (group t.who t.stage) message (group_known t.who t.stage is) at))

may_ask_known : (world : World) (h : List Event) (number : ℕ) (ask : Ask) → MayAsk world h number ask → IsKnown world.setup.servers number ask.request
may_ask_known world h number ask may =
    let s : ClientState = client_after world ask.from.client h in
    let t : ClientState = begun world.digest ask s.sent s in
    let knows : Knows world t = begun_knows world ask s.sent s (knows_after world ask.from.client h) in
    subst (λ n. IsKnown n number ask.request) knows.servers (duty_known t number ask knows.stage t.left may.duty)

pub posted_known : (world : World) (place : ℕ) (posted : Posted) (h : List Event) → Legal world h → asked_at place h ≡ Some posted → IsKnown world.setup.servers posted.number posted.ask.request
posted_known world place posted [] legal found = absurd (cc)
posted_known world place posted (event.Serve number ask_place given ∷ h) legal found = posted_known world place posted h legal.0 found
posted_known world place posted (event.Ask number ask ∷ h) legal found =
    by_test (eqb place (suc (length h))) found
    (λ same here.
    let this : posted_ask number ask ≡ posted = cc in
    subst (λ (p : Posted). IsKnown world.setup.servers p.number p.ask.request) this (may_ask_known world h number ask legal.1))
    (λ unlike behind. posted_known world place posted h legal.0 behind)
