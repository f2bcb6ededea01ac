-- What the core keeps, as events join.
use Rattle.std.proofs.Common.{Bor, ◌≡◌, ◌≢◌, ℕ, suc, ◌+◌, ◌-◌, ◌<◌, ◌≤◌, ◌||◌, Bool, true, false, eqb, List, [], ◌∷◌, ◌++◌, length, reverse, slice_get, slice_set, get_or, Option, None, Some, IsSome, refl, sym, ap, ap₂, subst, ◌∙◌, arith, length-append}
use Rattle.std.proofs.lemmas.Bool.Decides.{Decides-eqb, nat_tests}
use Rattle.std.proofs.lemmas.List.{length-set, reverse-append, reverse-reverse}
use Rattle.std.proofs.lemmas.Option.{get_or_from_slice_get, slice_get_within}
use Rattle.inf_base.specs.declared.id.Id.{Id}
use Rattle.inf_base.specs.declared.setup.Setup.{Setup}
use Rattle.inf_core.specs.Core.{AreFlags, AreStanding, IsKept, IsServedBy, TellsOfNoChange, standing}
use Rattle.inf_duty.specs.World.{world_by, World}
use Rattle.inf_laws_history.specs.Legal.{Legal, MayAsk, MayServe, server_after}
use Rattle.inf_laws_history.specs.Sites.{site_of}
use Rattle.inf_message.specs.declared.ask.Ask.{Ask}
use Rattle.inf_message.specs.declared.event.Event.{Event}
use Rattle.inf_message.specs.declared.event.Event.TheVariants as event
use Rattle.inf_message.specs.declared.reply.Reply.{Reply}
use Rattle.inf_message.specs.declared.reply.Reply.TheVariants as reply
use Rattle.inf_message.specs.History.{Posted, Served, asked_at, event_at, is_served, served_ask, serves_of}
use Rattle.inf_message.proofs.HistoryLaws.{IsPlaceOf, asked_is_event, asked_within, other, serves_apart, serves_own}
use Rattle.inf_message.proofs.OldestFirst.{event_is_indexed}
use Rattle.inf_laws_history.proofs.ByIndex.{got_apart, got_before, got_pushed, got_set}
use Rattle.inf_laws_server.proofs.Serves.{quiet_leaves}
use Rattle.inf_core.proofs.Posted.{posted_known}
use Rattle.inf_server.specs.Machine.{Serves, state_after}
use Rattle.inf_server.specs.Response.{Response}
use Rattle.inf_server.specs.Server.{IsSameServer, Standing, site}
use Rattle.inf_server.specs.Server.{site_of as digest_site}
use Rattle.inf_server.specs.State.{Site, State, opening}
use Rattle.std.specs.Slice.{IsItemAt}

-- ---- events by index

-- the Ask at a place is the event of the index before it
pub record IsIndexed (events : List Event) (place : ℕ) (posted : Posted) : Type 0 where
  pub counted : 1 ≤ place
  pub within : place - 1 < length events
  pub event : slice_get events (place - 1) ≡ Some (event.Ask posted.number posted.ask)

pub ask_indexed : (events : List Event) (place : ℕ) (posted : Posted) → asked_at place (reverse events) ≡ Some posted → IsIndexed events place posted
ask_indexed events place posted found =
    let at = asked_within place posted (reverse events) found in
    let one : suc (place - 1) ≡ place = omega (arith, at.counted) in
    let is : slice_get events (place - 1) ≡ Some (event.Ask posted.number posted.ask) =
    ap (λ (xs : List Event). slice_get xs (place - 1)) (sym (reverse-reverse events))
    ∙ sym (event_is_indexed (place - 1) (reverse events))
    ∙ ap (λ p. event_at p (reverse events)) one
    ∙ asked_is_event place posted (reverse events) found in
    record { counted = at.counted; within = slice_get_within events (place - 1) _ is; event = is }

pub reversed_push : (events room all : List Event) (e : Event) → room ≡ events → all ≡ room ++ e ∷ [] → reverse all ≡ e ∷ reverse events
reversed_push events room all e same pushed = ap reverse pushed ∙ reverse-append room (e ∷ []) ∙ ap (λ (xs : List Event). e ∷ reverse xs) same

-- the Ask at a place, as it was read from the events in a larger room
pub made_at : (place : ℕ) (events room lent : List Event) (posted : Posted) → lent ≡ room → room ≡ events → asked_at place (reverse lent) ≡ Some posted → asked_at place (reverse events) ≡ Some posted
made_at place events room lent posted same grown found = subst (λ (xs : List Event). asked_at place (reverse xs) ≡ Some posted) (same ∙ grown) found

-- what is lent from an index where something is known to lie
pub item_found : {X : Type 0} (xs : List X) (i : ℕ) (got : Option (Bor X)) (x : X) → IsItemAt xs i got → slice_get xs i ≡ Some x → got ≡ None → ⊥
item_found xs i None x is at none = let some = is.2 (slice_get_within xs i x at) in cc
item_found xs i (Some b) x is at none = cc

pub item_there : {X : Type 0} (xs : List X) (i : ℕ) (got : Option (Bor X)) (x : X) (b : Bor X) → IsItemAt xs i got → slice_get xs i ≡ Some x → got ≡ Some b → b.now ≡ x
item_there xs i (Some b) x d is at same =
    let e : b ≡ d = cc in
    ap (λ (c : Bor _). c.now) (sym e) ∙ is.1 ∙ get_or_from_slice_get xs i x b.now at
item_there xs i None x d is at same = absurd (cc)

pub asked_there : (o : Option Posted) → IsSome o → (posted : Posted) × (o ≡ Some posted)
asked_there (Some posted) is = (posted, refl)
asked_there None is = absurd (cc)

-- ---- flags

-- no Serve names a place that is still to come
none_served : (world : World) (place : ℕ) (h : List Event) → Legal world h → length h < place → is_served place h ≡ false
none_served world place [] legal past = refl
none_served world place (event.Ask number ask ∷ h) legal past = none_served world place h legal.0 (omega arith)
none_served world place (event.Serve number ask_place given ∷ h) legal past =
    let at = asked_within ask_place legal.1.posted h legal.1.made in
    let apart : ask_place ≢ place = λ same. omega (arith, at.within) in
    rw (other ask_place place apart) (none_served world place h legal.0 (omega arith))

-- with a flag for one event more, which no Serve names yet
got_flag : (world : World) (h : List Event) (served : List Bool) → Legal world h → AreFlags h served → (index : ℕ) → index < suc (length h) → slice_get (served ++ false ∷ []) index ≡ Some (is_served (suc index) h)
got_flag world h served legal are index within = by (eqb index (length h)) refl
  where
    by : (b : Bool) → eqb index (length h) ≡ b → slice_get (served ++ false ∷ []) index ≡ Some (is_served (suc index) h)
    by true here =
        let newest : index ≡ length h = (Decides-eqb index (length h)).0 here in
        ap (slice_get (served ++ false ∷ [])) (newest ∙ sym are.count)
        ∙ got_pushed served false
        ∙ ap Some (sym (none_served world (suc index) h legal (omega arith)))
    by false apart =
        let before : index < length h = grind (arith, nat_tests) in
        got_before served false index (omega (arith, are.count)) ∙ are.each index before

flag_count : (h : List Event) (served : List Bool) → AreFlags h served → length (served ++ false ∷ []) ≡ suc (length h)
flag_count h served are = omega (arith, length-append served (false ∷ []), are.count)

asked_flags : (world : World) (h : List Event) (number : ℕ) (ask : Ask) (served : List Bool) → Legal world h → AreFlags h served → AreFlags (event.Ask number ask ∷ h) (served ++ false ∷ [])
asked_flags world h number ask served legal are =
    record { count = flag_count h served are; each = got_flag world h served legal are }

-- the flag of the Ask that is served is set
served_flags : (world : World) (h : List Event) (number ask_place : ℕ) (given : Reply) (served : List Bool) → Legal world h → IsPlaceOf ask_place h → AreFlags h served → AreFlags (event.Serve number ask_place given ∷ h) (slice_set (served ++ false ∷ []) (ask_place - 1) true)
served_flags world h number ask_place given served legal at are = record {
  count = length-set (served ++ false ∷ []) (ask_place - 1) true ∙ flag_count h served are;
  each = each;
}
  where
    one : suc (ask_place - 1) ≡ ask_place
    one = omega (arith, at.counted)

    each : (index : ℕ) → index < suc (length h) → slice_get (slice_set (served ++ false ∷ []) (ask_place - 1) true) index ≡ Some (is_served (suc index) (event.Serve number ask_place given ∷ h))
    each index within = by (eqb ask_place (suc index)) refl
      where
        by : (b : Bool) → eqb ask_place (suc index) ≡ b → slice_get (slice_set (served ++ false ∷ []) (ask_place - 1) true) index ≡ Some (b || is_served (suc index) h)
        by true here =
            let same : index ≡ ask_place - 1 = omega (arith, (Decides-eqb ask_place (suc index)).0 here) in
            ap (slice_get (slice_set (served ++ false ∷ []) (ask_place - 1) true)) same
            ∙ got_set (served ++ false ∷ []) (ask_place - 1) true (omega (arith, flag_count h served are, at.within, at.counted))
        by false apart =
            let unlike : index ≢ ask_place - 1 = λ same. absurd (grind (arith, nat_tests, one)) in
            got_apart (served ++ false ∷ []) (ask_place - 1) index true unlike ∙ got_flag world h served legal are index within

-- ---- one server's own step

pub served_at : {R : Type 0} (digest_of : R → List ℕ → Id) (servers : List (Standing R)) (number ask_place : ℕ) (ask : Ask) (given : Reply) (got server after : Standing R) → got ≡ get_or servers number got → slice_get servers number ≡ Some server → server.number ≡ number → Serves (digest_site digest_of got) got.state ask_place ask given after.state → IsSameServer got after → IsServedBy digest_of servers (slice_set servers number after) server ask_place ask given
served_at {R} digest_of servers number ask_place ask given got server after read found same serves kept =
    let is : got ≡ server = read ∙ get_or_from_slice_get servers number server got found in
    record {
      after = after;
      put = ap (λ n. slice_set servers n after) (sym same);
      serves = subst (λ (s : Standing R). Serves (digest_site digest_of s) s.state ask_place ask given after.state) is serves;
      same = subst (λ (s : Standing R). IsSameServer s after) is kept;
    }

-- ---- the states that follow

pub serve_follows : (site : Site) (earlier : List Served) (place : ℕ) (ask : Ask) (given : Reply) (new : State) → Serves site (state_after site earlier) place ask given new → state_after site (served_ask ask place given ∷ earlier) ≡ new
serve_follows site earlier place ask reply.NoMem new serves = sym serves.1
serve_follows site earlier place ask given new serves = sym (ap (λ (r : Response). r.state) serves)

-- ---- the servers, as events join

pub same_standing : {R : Type 0} (a b : Standing R) → a.rule ≡ b.rule → a.number ≡ b.number → a.servers ≡ b.servers → a.state ≡ b.state → a ≡ b
same_standing {R} a b rule number servers state =
    ap₂ (λ (r : R) (n : ℕ). record { rule = r; number = n; servers = a.servers; state = a.state }) rule number
    ∙ ap₂ (λ (n : ℕ) (s : State). record { rule = b.rule; number = b.number; servers = n; state = s }) servers state

module _ {R : Type 0} (digest_of : R → List ℕ → Id) (setup : Setup) (rule : R) where
  abbrev here : World
  here = world_by (digest_of rule) setup

  pub opened : (server : Standing R) (number : ℕ) → server.rule ≡ rule → server.number ≡ number → server.servers ≡ setup.servers → server.state ≡ opening (digest_site digest_of server) → server ≡ standing here rule [] number
  opened server number of_rule of_number of_servers of_state =
      let whole : Site = site number setup.servers (digest_of rule) in
      let at : digest_site digest_of server ≡ whole =
      ap₂ (λ (n : ℕ) (s : ℕ). site n s (digest_of server.rule)) of_number of_servers
      ∙ ap (λ (r : R). site number setup.servers (digest_of r)) of_rule in
      same_standing server (standing here rule [] number) of_rule of_number of_servers (of_state ∙ ap opening at)

  pub standing_more : (h : List Event) (many : ℕ) (servers : List (Standing R)) (next : Standing R) → next ≡ standing here rule h many → AreStanding here rule h many servers → AreStanding here rule h (many + 1) (servers ++ next ∷ [])
  standing_more h many servers next is are = record { count = omega (arith, length-append servers (next ∷ []), are.count); each = each }
    where
      each : (number : ℕ) → number < many + 1 → slice_get (servers ++ next ∷ []) number ≡ Some (standing here rule h number)
      each number within = by (eqb number many) refl
        where
          by : (b : Bool) → eqb number many ≡ b → slice_get (servers ++ next ∷ []) number ≡ Some (standing here rule h number)
          by true same =
              let last : number ≡ many = (Decides-eqb number many).0 same in
              ap (slice_get (servers ++ next ∷ [])) (last ∙ sym are.count)
              ∙ got_pushed servers next
              ∙ ap Some (is ∙ ap (standing here rule h) (sym last))
          by false apart =
              let before : number < many = grind (arith, nat_tests) in
              got_before servers next number (omega (arith, are.count)) ∙ are.each number before

  -- one server in the place of another
  standing_put : (h next : List Event) (many number : ℕ) (servers : List (Standing R)) (after : Standing R) → number < many → after ≡ standing here rule next number → ((other : ℕ) → number ≢ other → server_after here other next ≡ server_after here other h) → AreStanding here rule h many servers → AreStanding here rule next many (slice_set servers number after)
  standing_put h next many number servers after there is apart are = record { count = length-set servers number after ∙ are.count; each = each }
    where
      each : (other : ℕ) → other < many → slice_get (slice_set servers number after) other ≡ Some (standing here rule next other)
      each other within = by (eqb other number) refl
        where
          by : (b : Bool) → eqb other number ≡ b → slice_get (slice_set servers number after) other ≡ Some (standing here rule next other)
          by true same =
              let this : other ≡ number = (Decides-eqb other number).0 same in
              ap (slice_get (slice_set servers number after)) this
              ∙ got_set servers number after (omega (arith, are.count))
              ∙ ap Some (is ∙ ap (standing here rule next) (sym this))
          by false unlike =
              let not_this : other ≢ number = λ e. absurd (grind (arith, nat_tests)) in
              got_apart servers number other after not_this
              ∙ are.each other within
              ∙ ap (λ (s : State). Some (record { rule = rule; number = other; servers = setup.servers; state = s })) (sym (apart other (λ e. not_this (sym e))))

  abbrev Joined : List Event → ℕ → Posted → Reply → List (Standing R) → List (Standing R) → Type 0
  Joined h ask_place posted given servers after = IsServedBy digest_of servers after (standing here rule h posted.number) ask_place posted.ask given

  -- the server that served is as its Serves say, with the new one
  after_serve : (h : List Event) (ask_place : ℕ) (posted : Posted) (given : Reply) (servers after : List (Standing R)) → asked_at ask_place h ≡ Some posted → (by : Joined h ask_place posted given servers after) → by.after ≡ standing here rule (event.Serve posted.number ask_place given ∷ h) posted.number
  after_serve h ask_place posted given servers after made by =
      let number : ℕ = posted.number in
      let own : serves_of number (event.Serve number ask_place given ∷ h) ≡ served_ask posted.ask ask_place given ∷ serves_of number h = serves_own number ask_place given posted h made in
      let state : server_after here number (event.Serve number ask_place given ∷ h) ≡ by.after.state =
      ap (state_after (site_of here number)) own
      ∙ serve_follows (site_of here number) (serves_of number h) ask_place posted.ask given by.after.state by.serves in
      same_standing by.after (standing here rule (event.Serve number ask_place given ∷ h) number) by.same.rule by.same.number by.same.servers (sym state)

  may_serve : (h : List Event) (ask_place : ℕ) (posted : Posted) (given : Reply) (servers after : List (Standing R)) → asked_at ask_place h ≡ Some posted → is_served ask_place h ≡ false → Joined h ask_place posted given servers after → MayServe here h posted.number ask_place given
  may_serve h ask_place posted given servers after made waits by =
      record { posted = posted; made = made; to = refl; waits = waits; after = by.after.state; reply = by.serves }

  -- what the server of an Ask owes at its place
  served_by : (h : List Event) (ask_place : ℕ) (posted : Posted) (given : Reply) (servers after : List (Standing R)) (served : List Bool) → asked_at ask_place h ≡ Some posted → IsKept here rule servers h served → ((server : Standing R) → slice_get servers posted.number ≡ Some server → server.number ≡ posted.number → IsServedBy digest_of servers after server ask_place posted.ask given) → Joined h ask_place posted given servers after
  served_by h ask_place posted given servers after served made is serves =
      let there : posted.number < setup.servers = (posted_known here ask_place posted h is.legal made).there is.some_servers in
      serves (standing here rule h posted.number) (is.standing.each posted.number (omega arith)) refl

  -- ---- what the core keeps

  pub ask_kept : (h : List Event) (number : ℕ) (ask : Ask) (servers : List (Standing R)) (served : List Bool) → MayAsk here h number ask → IsKept here rule servers h served → IsKept here rule servers (event.Ask number ask ∷ h) (served ++ false ∷ [])
  ask_kept h number ask servers served may is = record {
    some_servers = is.some_servers;
    legal = (is.legal, may);
    standing = record { count = is.standing.count; each = is.standing.each };
    flags = asked_flags here h number ask served is.legal is.flags;
  }

  serve_kept : (h : List Event) (ask_place : ℕ) (posted : Posted) (given : Reply) (servers after : List (Standing R)) (served : List Bool) → asked_at ask_place h ≡ Some posted → is_served ask_place h ≡ false → Joined h ask_place posted given servers after → IsKept here rule servers h served → IsKept here rule after (event.Serve posted.number ask_place given ∷ h) (slice_set (served ++ false ∷ []) (ask_place - 1) true)
  serve_kept h ask_place posted given servers after served made waits by is =
      let next : List Event = event.Serve posted.number ask_place given ∷ h in
      let there : posted.number < setup.servers = (posted_known here ask_place posted h is.legal made).there is.some_servers in
      let put : AreStanding here rule next (setup.servers + 1) (slice_set servers posted.number by.after) =
      standing_put h next (setup.servers + 1) posted.number servers by.after (omega arith)
      (after_serve h ask_place posted given servers after made by)
      (λ other apart. ap (state_after (site_of here other)) (serves_apart posted.number other ask_place given h apart))
      is.standing in
      record {
        some_servers = is.some_servers;
        legal = (is.legal, may_serve h ask_place posted given servers after made waits by);
        standing = subst (AreStanding here rule next (setup.servers + 1)) (sym by.put) put;
        flags = served_flags here h posted.number ask_place given served is.legal (asked_within ask_place posted h made) is.flags;
      }

  -- where the reply cannot be told, nothing has changed
  untold_kept : (h : List Event) (ask_place : ℕ) (posted : Posted) (given : Reply) (servers after : List (Standing R)) (served : List Bool) → asked_at ask_place h ≡ Some posted → TellsOfNoChange given → Joined h ask_place posted given servers after → IsKept here rule servers h served → IsKept here rule after h served
  untold_kept h ask_place posted given servers after served made tells by is =
      let there : posted.number < setup.servers = (posted_known here ask_place posted h is.legal made).there is.some_servers in
      let state : by.after.state ≡ server_after here posted.number h = quiet_leaves (site_of here posted.number) (server_after here posted.number h) ask_place posted.ask given by.after.state by.serves tells in
      let same : by.after ≡ standing here rule h posted.number = same_standing by.after (standing here rule h posted.number) by.same.rule by.same.number by.same.servers state in
      let put : AreStanding here rule h (setup.servers + 1) (slice_set servers posted.number by.after) =
      standing_put h h (setup.servers + 1) posted.number servers by.after (omega arith) same (λ other apart. refl) is.standing in
      record {
        some_servers = is.some_servers;
        legal = is.legal;
        flags = is.flags;
        standing = subst (AreStanding here rule h (setup.servers + 1)) (sym by.put) put;
      }

  -- the same history, and the same flags
  pub kept_so : (servers : List (Standing R)) (h all : List Event) (served flags : List Bool) → all ≡ h → flags ≡ served → IsKept here rule servers h served → IsKept here rule servers all flags
  kept_so servers h all served flags same same_flags is =
      subst (λ (xs : List Event). IsKept here rule servers xs flags) (sym same)
      (subst (λ (fs : List Bool). IsKept here rule servers h fs) (sym same_flags) is)

  -- what is known once the server of an Ask has replied
  pub record Serving (events : List Event) (ask_place : ℕ) (posted : Posted) (given : Reply) (servers after : List (Standing R)) (served : List Bool) : Type 0 where
    pub untold : TellsOfNoChange given → IsKept here rule after (reverse events) served
    pub may : is_served ask_place (reverse events) ≡ false → MayServe here (reverse events) posted.number ask_place given
    pub kept : is_served ask_place (reverse events) ≡ false → IsKept here rule after (event.Serve posted.number ask_place given ∷ reverse events) (slice_set (served ++ false ∷ []) (ask_place - 1) true)

  pub serving : (events room lent : List Event) (ask_place : ℕ) (posted : Posted) (given : Reply) (servers after : List (Standing R)) (served : List Bool) → lent ≡ room → room ≡ events → asked_at ask_place (reverse lent) ≡ Some posted → IsKept here rule servers (reverse events) served → ((server : Standing R) → slice_get servers posted.number ≡ Some server → server.number ≡ posted.number → IsServedBy digest_of servers after server ask_place posted.ask given) → Serving events ask_place posted given servers after served
  serving events room lent ask_place posted given servers after served same grown found is serves =
      let h : List Event = reverse events in
      let made : asked_at ask_place h ≡ Some posted = made_at ask_place events room lent posted same grown found in
      let by : Joined h ask_place posted given servers after = served_by h ask_place posted given servers after served made is serves in
      record {
        untold = λ tells. untold_kept h ask_place posted given servers after served made tells by is;
        may = λ waits. may_serve h ask_place posted given servers after made waits by;
        kept = λ waits. serve_kept h ask_place posted given servers after served made waits by is;
      }
