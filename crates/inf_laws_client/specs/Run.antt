-- Clients and servers that take turns, to see what the definitions come to.
use Rattle.std.specs.Prelude.{codes, ℕ, zero, suc, List, [], ◌∷◌, ◌++◌, map, replicate, codes, slice_get, Option, Some, None}
use Rattle.inf_base.specs.declared.answer.Answer.{Answer}
use Rattle.inf_base.specs.declared.call.Call.{Call}
use Rattle.inf_base.specs.declared.call.Call.TheVariants as call
use Rattle.inf_base.specs.declared.id.Id.{Id}
use Rattle.inf_message.specs.declared.ask.Ask.{Ask}
use Rattle.inf_message.specs.declared.call_result.CallResult.{CallResult}
use Rattle.inf_message.specs.History.{told_reply}
use Rattle.inf_server.specs.Machine.{machine}
use Rattle.inf_server.specs.State.{Site, State, opening}
use Rattle.inf_duty.specs.ClientState.{ClientState, idle}
use Rattle.inf_duty.specs.Group.{composed}
use Rattle.inf_duty.specs.Turn.{served}
use Rattle.inf_message.specs.Who.{Who}
use Rattle.inf_duty.specs.Duty.{Next, asked, asks, is_over, next_step, waits}

abbrev pub zero_id : Id
zero_id = record { bytes = replicate 32 0 }

-- the root's identifier is of zeros, any other of the last byte of what it is made of
abbrev pub last_byte : List ℕ → ℕ
last_byte [] = 0
last_byte (b ∷ []) = b
last_byte (b ∷ c ∷ bs) = last_byte (c ∷ bs)

abbrev pub digest : List ℕ → Id
digest [] = zero_id
digest (b ∷ bs) = record { bytes = replicate 7 0 ++ last_byte (b ∷ bs) ∷ replicate 24 0 }

-- an ask that waits, and the server that it was sent to
pub record Waiting : Type 0 where
  pub place : ℕ
  pub number : ℕ
  pub ask : Ask

-- how many events were made, the clients, the servers, and what waits in the order of asking
pub record Run : Type 0 where
  pub count : ℕ
  pub clients : List ClientState
  pub servers : List State
  pub waiting : List Waiting

abbrev pub who : ℕ → ℕ → Who
who servers client = record { client = client; caller = record { uid = 0; gid = 0 }; servers = servers; root = zero_id }

abbrev pub site : ℕ → ℕ → Site
site servers number = record { number = number; servers = servers; digest = digest }

abbrev pub change_at : {A : Type 0} → ℕ → (A → A) → List A → List A
change_at n f [] = []
change_at zero f (x ∷ xs) = f x ∷ xs
change_at (suc n) f (x ∷ xs) = x ∷ change_at n f xs

-- the client makes its next ask, if it has one
abbrev pub ask_by : Next → Run → Run
ask_by (asks number ask) r = record r {
  count = suc r.count;
  clients = change_at ask.from.client (λ (s : ClientState). asked digest (suc r.count) ask s) r.clients;
  waiting = r.waiting ++ record { place = suc r.count; number = number; ask = ask } ∷ [];
}
ask_by waits r = r
ask_by is_over r = r

abbrev pub next_in : Option ClientState → Next
next_in None = is_over
next_in (Some s) = next_step (composed digest s)

abbrev pub step : ℕ → Run → Run
step client r = ask_by (next_in (slice_get r.clients client)) r

abbrev pub serve_in : ℕ → Waiting → List Waiting → Run → Option State → Run
serve_in servers w rest r None = r
serve_in servers w rest r (Some state) =
    let done = machine (site servers w.number) state w.place w.ask in
    record r {
      count = suc r.count;
      clients =
          change_at w.ask.from.client
          (λ (s : ClientState). served digest w.place (told_reply (suc r.count) done.reply) s) r.clients;
      servers = change_at w.number (λ (old : State). done.state) r.servers;
      waiting = rest;
    }

-- the oldest waiting ask is served
abbrev pub serve : ℕ → Run → List Waiting → Run
serve servers r [] = r
serve servers r (w ∷ ws) = serve_in servers w ws r (slice_get r.servers w.number)

abbrev pub serve_oldest : ℕ → Run → Run
serve_oldest servers r = serve servers r r.waiting

abbrev pub number_from : ℕ → ℕ → List (List Call) → List ClientState
number_from servers n [] = []
number_from servers n (c ∷ cs) = idle (who servers n) c ∷ number_from servers (suc n) cs

abbrev pub states_from : ℕ → ℕ → ℕ → List State
states_from servers zero n = []
states_from servers (suc more) n = opening (site servers n) ∷ states_from servers more (suc n)

abbrev pub opening_run : ℕ → List (List Call) → Run
opening_run servers calls = record {
  count = 0;
  clients = number_from servers 0 calls;
  servers = states_from servers servers 0;
  waiting = [];
}

-- asks as long as it can, then serves, so many times
abbrev pub turns : ℕ → ℕ → ℕ → Run → Run
turns zero servers client r = r
turns (suc more) servers client r = turns more servers client (serve_oldest servers (step client (step client r)))

-- a result without the number of its call
pub record Shown : Type 0 where
  pub answer : Answer
  pub place : Option ℕ
  pub first : Option ℕ
  pub last : Option ℕ
  pub attempts : ℕ
  pub rounds : ℕ
  pub messages : ℕ

abbrev pub shown : CallResult → Shown
shown r = record {
  answer = r.answer;
  place = r.place;
  first = r.first;
  last = r.last;
  attempts = r.attempts;
  rounds = r.rounds;
  messages = r.messages;
}

abbrev pub results_in : Option ClientState → List Shown
results_in None = []
results_in (Some s) = map shown s.results

abbrev pub results : ℕ → Run → List Shown
results client r = results_in (slice_get r.clients client)

-- a: mkdir /a, rmdir /a; b: create /a/f; order `=a +a +a s0 s0 +a s0 =b =a`
abbrev pub crossing_run : Run
crossing_run =
    let r0 = opening_run 1 ((call.Mkdir (codes "/a") 0o755 ∷ call.Rmdir (codes "/a") ∷ [])
    ∷ (call.Create (codes "/a/f") 0o644 ∷ []) ∷ []) in
    let r1 = turns 4 1 0 r0 in
    let r2 = serve_oldest 1 (serve_oldest 1 (step 0 (step 0 r1))) in
    let r3 = serve_oldest 1 (step 0 r2) in
    let r4 = turns 3 1 1 r3 in
    turns 20 1 0 r4

-- one client alone with one server, for so many turns
abbrev pub alone : ℕ → List Call → Run
alone more calls = turns more 1 0 (opening_run 1 (calls ∷ []))

-- the calls of the one client have ended so
abbrev pub shows : ℕ → List Call → List Shown
shows more calls = results 0 (alone more calls)

abbrev pub ended_at : Answer → ℕ → ℕ → ℕ → ℕ → Shown
ended_at given place first last messages =
    record {
      answer = given;
      place = Some place;
      first = Some first;
      last = Some last;
      attempts = 1;
      rounds = 1;
      messages = messages;
    }
