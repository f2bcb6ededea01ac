-- A client knows what it was told, whatever is true of that, and sends no more.
use Rattle.std.proofs.Common.{◌≡◌, ℕ, ◌==◌, Bool, true, false, zero, suc, List, [], ◌∷◌, ◌++◌, length, map, slice_get, All, Option, Some, None, refl, sym, ap, ◌∙◌, subst}
use Rattle.inf_base.specs.declared.id.Id.{Id}
use Rattle.std.proofs.lemmas.List.Elements.{All-cons, All-nil}
use Rattle.inf_base.specs.declared.answer.Answer.TheVariants as answer
use Rattle.inf_base.specs.declared.call.Call.{Call}
use Rattle.inf_base.specs.declared.entry.Entry.{Entry}
use Rattle.inf_base.specs.declared.key.LookKey.{LookKey}
use Rattle.inf_message.specs.declared.ask.Ask.{Ask}
use Rattle.inf_message.specs.declared.reply.Reply.{Reply}
use Rattle.inf_message.specs.declared.reply.Reply.TheVariants as reply
use Rattle.inf_message.specs.declared.request.Request.{Request}
use Rattle.inf_message.specs.declared.step.Message.{Message}
use Rattle.inf_message.specs.Heard.{heard, light}
use Rattle.inf_message.specs.History.{Told}
use Rattle.inf_server.specs.Chains.{chains_of}
use Rattle.inf_flow_dir.specs.declared.dir_flow.DirFlow.TheVariants as dir_flow
use Rattle.inf_message.specs.declared.ending.Ending.TheVariants as ending
use Rattle.inf_flow_file.specs.declared.file_flow.FileFlow.TheVariants as file_flow
use Rattle.inf_duty.specs.declared.flow.Flow.TheVariants as flow
use Rattle.inf_message.specs.declared.turn.Turn.TheVariants as turn
use Rattle.inf_duty.specs.ClientState.{ClientState, Stage, act, compose, idle, placed, round, winds, wound}
use Rattle.inf_duty.specs.Flow.{clean_up}
use Rattle.inf_duty.proofs.FlowFacts.{message_of, messages_are}
use Rattle.inf_duty.specs.Group.{composed, group}
use Rattle.inf_duty.specs.Turn.{heard_in, is_complete, learned, recorded, served, settled, told_by, told_in, told_of, turn_at, turned}
use Rattle.inf_duty.specs.declared.flow.Flow.{Flow}
use Rattle.inf_message.specs.Sent.{Sent, has_place, told_at}
use Rattle.inf_message.specs.Who.{Who, lookup_of}
use Rattle.inf_message.specs.declared.ending.Ending.{Ending}
use Rattle.inf_message.specs.declared.turn.Turn.{Turn}
use Rattle.inf_duty.specs.Duty.{asks, begun, given_up, given_up_in, next_step}
use Rattle.inf_resolve.specs.declared.known.Known.{Known}
use Rattle.inf_resolve.specs.Known.{told_entry}
use Rattle.inf_laws_client.specs.Told.{AllKnown, AllPlain, AllTell, AnswersLookup, ArePlain, CarriesOnly, IfTold, IsChainOf, IsToldAsAsked, KnowsOnly, StandsOn, TellsOnly, chain_of}
use Rattle.inf_duty.proofs.BegunKept.{if_both, kept_begun}
use Rattle.inf_laws_client.proofs.ChainFacts.{StepOnChain, WasTold, chain_cleans, chains_keep}
use Rattle.inf_duty.proofs.KeepsFacts.{composed_fits, given_up_fits, settled_fits}
use Rattle.inf_laws_client.proofs.ToldFacts.{asks_next, composed_as_asked, given_up_as_asked, holds_told_in, idle_as_asked, is_sent, lookup_in, placed_as_asked, recorded_as_asked, settled_as_asked, told_one}

-- ---- messages that carry no chain

look_plain : (who : Who) (keys : List LookKey) (n : ℕ) (m : Message) → slice_get (map (lookup_of who) keys) n ≡ Some m → chains_of m.request ≡ []
look_plain who [] n m is = absurd cc
look_plain who (k ∷ keys) zero m is = let same : lookup_of who k ≡ m = cc in ap (λ (message : Message). chains_of message.request) (sym same)
look_plain who (k ∷ keys) (suc n) m is = look_plain who keys n m is

only_one : (one : Message) (n : ℕ) (m : Message) → slice_get (one ∷ []) n ≡ Some m → one ≡ m
only_one one zero m is = cc
only_one one (suc n) m is = absurd cc

-- no message of a plain step does
plain_one : (ms : List Message) (n : ℕ) (m : Message) → ArePlain ms → slice_get ms n ≡ Some m
    → chains_of m.request ≡ []
plain_one [] n m plain is = absurd cc
plain_one (first ∷ ms) zero m plain is =
    let same : first ≡ m = cc in
    subst (λ (message : Message). chains_of message.request ≡ []) same plain.0
plain_one (first ∷ ms) (suc n) m plain is = plain_one ms n m plain.1 is

module _ (T : Entry → Type 0) where
  abbrev Tells : Told → Type 0
  Tells told = TellsOnly T told.serve_place told.reply

  all_told : (place : ℕ) (told : Told) (sent : List Sent) → Tells told → AllTell T sent
      → AllTell T (map (told_at place told) sent)
  all_told place told [] now before = tt
  all_told place told (x ∷ xs) now before =
      (told_one Tells told x.place x.told (x.place == place) (λ is. now) before.0, all_told place told xs now before.1)

  all_more : (sent : List Sent) (x : Sent) → x.told ≡ None → AllTell T sent → AllTell T (sent ++ x ∷ [])
  all_more [] x none told = (subst (λ (o : Option Told). IfTold Tells o) (sym none) tt, tt)
  all_more (first ∷ sent) x none told = (told.0, all_more sent x none told.1)

  heard_tells : (place : ℕ) (given : Reply) → TellsOnly T place given → TellsOnly T place (heard given)
  heard_tells place (reply.Listing items) tells = tt
  heard_tells place given tells = tells

  light_tells : (place : ℕ) (given : Reply) → TellsOnly T place given → TellsOnly T place (light given)
  light_tells place (reply.Found k access) tells = tt
  light_tells place (reply.Clash kept) tells = tt
  light_tells place (reply.Listing items) tells = tt
  light_tells place given tells = tells

  -- what is kept of a reply tells no more than the reply
  kept_tells : (stage : Stage) (place : ℕ) (given : Reply) → TellsOnly T place given
      → TellsOnly T place (heard_in stage given)
  kept_tells (round keys) place given tells = heard_tells place given tells
  kept_tells compose place given tells = light_tells place given tells
  kept_tells (act step) place given tells = light_tells place given tells
  kept_tells (winds end ms later) place given tells = light_tells place given tells

  -- what is known and was told
  record Knows (s : ClientState) : Type 0 where
    known : AllKnown T s.known
    answers : AllTell T s.sent

  knows_so : (s : ClientState) → IsToldAsAsked s → Knows s → StandsOn T s.stage → KnowsOnly T s
  knows_so s as_asked knows stands =
      record { as_asked = as_asked; known = knows.known; answers = knows.answers; stands = stands }

  pub idle_knows : (who : Who) (calls : List Call) → KnowsOnly T (idle who calls)
  idle_knows who calls =
      record { as_asked = idle_as_asked who calls; known = tt; answers = tt; stands = tt }

  wound_knows : (end : Ending) (more : List (List Message)) (s : ClientState) → AllKnown T s.known → Knows (wound end more s)
  wound_knows (ending.Answers given place) [] s known = record { known = tt; answers = tt }
  wound_knows ending.Retries [] s known = record { known = tt; answers = tt }
  wound_knows end (ms ∷ later) s known = record { known = known; answers = tt }

  turned_knows : (t : Turn Stage) (s : ClientState) → AllKnown T s.known → Knows (turned t s)
  turned_knows (turn.GoesOn next) s known = record { known = known; answers = tt }
  turned_knows (turn.WindsUp end more) s known = wound_knows end more s known

  -- ---- before a group

  given_up_at : (s : ClientState) (stage : Stage) → KnowsOnly T s → Knows (given_up_in s stage)
  given_up_at s (act step) knows =
      wound_knows (ending.Answers answer.NoMemory None) (clean_up s.who step) s knows.known
  given_up_at s (winds end ms later) knows = record { known = knows.known; answers = knows.answers }
  given_up_at s compose knows = record { known = tt; answers = tt }
  given_up_at s (round keys) knows = record { known = tt; answers = tt }

  pub placed_knows : (place number : ℕ) (ask : Ask) (s : ClientState) → KnowsOnly T s → next_step s ≡ asks number ask
      → KnowsOnly T (placed place s)
  placed_knows place number ask s knows is =
      let x : Sent = record { place = place; told = None } in
      record {
        as_asked = placed_as_asked place number ask s knows.as_asked is;
        known = knows.known;
        answers = all_more s.sent x refl knows.answers;
        stands = knows.stands;
      }

  -- ---- once an Ask was served

  recorded_knows : (place : ℕ) (told : Told) (s : ClientState) → KnowsOnly T s → Tells told
      → AnswersLookup s.stage s.sent place told.reply → KnowsOnly T (recorded place told s)
  recorded_knows place told s knows tells now = record {
    as_asked = recorded_as_asked place told s knows.as_asked now;
    known = knows.known;
    answers = all_told place told s.sent tells knows.answers;
    stands = knows.stands;
  }

  -- ---- what a round was told joins what is known

  one_known : (k : LookKey) (told : Option Told) (rest : List Known) → IfTold Tells told → AllKnown T rest
      → AllKnown T (told_of k told ++ rest)
  one_known k None rest now more = more
  one_known k (Some told) rest now more = (now, more)

  known_by : (keys : List LookKey) (sent : List Sent) → AllTell T sent → AllKnown T (told_by keys sent)
  known_by [] [] told = tt
  known_by [] (x ∷ xs) told = tt
  known_by (k ∷ keys) [] told = tt
  known_by (k ∷ keys) (x ∷ xs) told = one_known k x.told (told_by keys xs) told.0 (known_by keys xs told.1)

  known_more : (known more : List Known) → AllKnown T known → AllKnown T more → AllKnown T (known ++ more)
  known_more [] more before now = now
  known_more (x ∷ known) more before now = (before.0, known_more known more before.1 now)

  learned_knows : (s : ClientState) (stage : Stage) → AllKnown T s.known → AllTell T s.sent
      → AllKnown T (learned stage s).known
  learned_knows s (round keys) known told = known_more s.known (told_by keys s.sent) known (known_by keys s.sent told)
  learned_knows s compose known told = known
  learned_knows s (act step) known told = known
  learned_knows s (winds end ms later) known told = known

  -- ---- what is sent

  abbrev AreChains : List (List Entry) → Type 0
  AreChains chains = All (λ (chain : List Entry). IsChainOf T chain) chains

  one_chain : (chain : List Entry) → IsChainOf T chain → AreChains (chain ∷ [])
  one_chain chain is = All-cons (λ (es : List Entry). IsChainOf T es) chain [] is (All-nil (λ (es : List Entry). IsChainOf T es))

  no_chain : (chains : List (List Entry)) → chains ≡ [] → AreChains chains
  no_chain chains none = subst (λ (all : List (List Entry)). AreChains all) (sym none) (All-nil (λ (es : List Entry). IsChainOf T es))

  flow_sends : (who : Who) (step : Flow) → IsChainOf T (chain_of step) → AreChains (chains_of (message_of who step).request)
  flow_sends who (flow.File (file_flow.Finishes chain asked)) is = one_chain chain is
  flow_sends who (flow.Dir (dir_flow.Reserves chain name mode)) is = one_chain chain is
  flow_sends who (flow.Dir (dir_flow.Makes chain name mode version id)) is = no_chain [] refl
  flow_sends who (flow.Dir (dir_flow.Links chain name mode version dir)) is = one_chain chain is
  flow_sends who (flow.Dir (dir_flow.Seals chain)) is = one_chain chain is
  flow_sends who (flow.Dir (dir_flow.Unlinks chain)) is = one_chain chain is

  stage_sends : (who : Who) (stage : Stage) (n : ℕ) (m : Message) → StandsOn T stage → slice_get (group who stage) n ≡ Some m → AreChains (chains_of m.request)
  stage_sends who compose n m stands is = absurd cc
  stage_sends who (round keys) n m stands is = no_chain (chains_of m.request) (look_plain who keys n m is)
  stage_sends who (act step) n m stands is =
      let found : slice_get (message_of who step ∷ []) n ≡ Some m =
      sym (ap (λ (ms : List Message). slice_get ms n) (messages_are who step)) ∙ is in
      subst (λ (message : Message). AreChains (chains_of message.request)) (only_one (message_of who step) n m found)
      (flow_sends who step stands)
  stage_sends who (winds end ms later) n m stands is =
      no_chain (chains_of m.request) (plain_one ms n m stands.0 is)

  pub sends : (number : ℕ) (ask : Ask) (s : ClientState) → KnowsOnly T s → next_step s ≡ asks number ask → AreChains (chains_of ask.request)
  sends number ask s knows is =
      let sent = is_sent s number ask _ (asks_next s number ask s.left is) in
      subst (λ (asked : Request). AreChains (chains_of asked)) (sym sent.request)
      (stage_sends s.who s.stage (length s.sent) sent.message knows.stands sent.found_there)

pub given_up_knows : (T : Entry → Type 0) (s : ClientState) → KnowsOnly T s → KnowsOnly T (given_up s)
given_up_knows T s knows =
    knows_so T (given_up s) (given_up_as_asked s knows.as_asked) (given_up_at T s s.stage knows)
    (given_up_fits (λ who. StepOnChain T) (λ who. AllPlain) (chain_cleans T) s knows.stands)

module _ (digest : List ℕ → Id) (T : Entry → Type 0) where
  pub composed_knows : (s : ClientState) → KnowsOnly T s → KnowsOnly T (composed digest s)
  composed_knows s knows = record {
    as_asked = composed_as_asked digest s knows.as_asked;
    known = knows.known;
    answers = knows.answers;
    stands =
        composed_fits digest (WasTold T) (λ who. StepOnChain T) (λ who. AllPlain) (chains_keep digest T) s
        (knows.known, knows.as_asked.known) knows.stands;
  }

  pub begun_knows : (ask : Ask) (s : ClientState) → KnowsOnly T s → KnowsOnly T (begun digest ask s.sent s)
  begun_knows ask s knows =
      kept_begun digest (KnowsOnly T) (record { composing = composed_knows; giving_up = given_up_knows T }) ask s.sent s
      knows

  settled_at : (b : Bool) (s : ClientState) → KnowsOnly T s → Knows T (settled digest b s)
  settled_at true s knows =
      let later = learned s.stage s in
      turned_knows T (turn_at digest later s.stage) later (learned_knows T s s.stage knows.known knows.answers)
  settled_at false s knows = record { known = knows.known; answers = knows.answers }

  settled_knows : (b : Bool) (s : ClientState) → KnowsOnly T s → KnowsOnly T (settled digest b s)
  settled_knows b s knows =
      knows_so T (settled digest b s) (settled_as_asked digest b s knows.as_asked) (settled_at b s knows)
      (settled_fits digest (WasTold T) (λ who. StepOnChain T) (λ who. AllPlain) (chains_keep digest T) b s knows.stands)

  pub served_knows : (place : ℕ) (told : Told) (s : ClientState) → KnowsOnly T s
      → TellsOnly T told.serve_place told.reply → AnswersLookup s.stage s.sent place told.reply
      → KnowsOnly T (served digest place told s)
  served_knows place told s knows tells now =
      let later = recorded place (told_in s told) s in
      let tells_so = holds_told_in (TellsOnly T) s told (kept_tells T s.stage) tells in
      let here = recorded_knows T place (told_in s told) s knows tells_so (lookup_in s place told now) in
      if_both (KnowsOnly T) (has_place place s.sent) _ s (settled_knows (is_complete later) later here) knows

module _ (T U : Entry → Type 0) (weaker : (e : Entry) → T e → U e) where
  weaker_reply : (place : ℕ) (given : Reply) → TellsOnly T place given → TellsOnly U place given
  weaker_reply place (reply.Found k access) tells = weaker (told_entry k access place) tells
  weaker_reply place any_reply tells = tt

  weaker_told : (told : Option Told) → IfTold (Tells T) told → IfTold (Tells U) told
  weaker_told None tells = tt
  weaker_told (Some told) tells = weaker_reply told.serve_place told.reply tells

  weaker_sent : (sent : List Sent) → AllTell T sent → AllTell U sent
  weaker_sent [] tell = tt
  weaker_sent (x ∷ xs) tell = (weaker_told x.told tell.0, weaker_sent xs tell.1)

  weaker_known : (known : List Known) → AllKnown T known → AllKnown U known
  weaker_known [] tell = tt
  weaker_known (x ∷ xs) tell = (weaker_reply x.place x.reply tell.0, weaker_known xs tell.1)

  weaker_chain : (chain : List Entry) → CarriesOnly T chain → CarriesOnly U chain
  weaker_chain [] carries = tt
  weaker_chain (e ∷ es) carries = (weaker e carries.0, weaker_chain es carries.1)

  weaker_stage : (stage : Stage) → StandsOn T stage → StandsOn U stage
  weaker_stage compose stands = tt
  weaker_stage (round keys) stands = tt
  weaker_stage (act step) stands =
      record { carries = weaker_chain (chain_of step) stands.carries; links_up = stands.links_up }
  weaker_stage (winds end ms later) stands = stands

  pub weaker_knows : (s : ClientState) → KnowsOnly T s → KnowsOnly U s
  weaker_knows s knows = record {
    as_asked = knows.as_asked;
    known = weaker_known s.known knows.known;
    answers = weaker_sent s.sent knows.answers;
    stands = weaker_stage s.stage knows.stands;
  }
