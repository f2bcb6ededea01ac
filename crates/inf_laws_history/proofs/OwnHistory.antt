-- In a legal history a client's own Asks, each with its answer at once, show its state: an Ask that waits is one of the
-- present group, and the answers to a group may come in any order.
use Rattle.std.proofs.Common.{◌≡◌, ◌≢◌, ◌⊎◌, inl, inr, ℕ, suc, Bool, true, false, cond, eqb, List, [], ◌∷◌, ◌++◌, length, map, fold, reverse, Option, Some, None, All, refl, sym, ap, ◌∙◌, subst, arith}
use Rattle.std.proofs.lemmas.Bool.Decides.{Decides-eqb}
use Rattle.std.proofs.lemmas.List.Elements.{All-head, All-tail}
use Rattle.std.proofs.lemmas.List.Sums.{fold-append}
use Rattle.std.proofs.lemmas.List.{map-append}
use mathlib.Core.List.{reverse-cons}
use Rattle.std.proofs.lemmas.Option.{slice_get_within}
use Rattle.inf_duty.specs.After.{client_after}
use Rattle.inf_duty.specs.Duty.{Duty, asked, asks, next_step}
use Rattle.inf_duty.specs.Own.{after_own, client_of, own_asks, own_of}
use Rattle.inf_duty.specs.Start.{start}
use Rattle.inf_duty.specs.World.{World}
use Rattle.inf_duty.specs.ClientState.{ClientState}
use Rattle.inf_duty.specs.Group.{group}
use Rattle.inf_duty.specs.Turn.{served}
use Rattle.inf_laws_history.proofs.AnswerOrder.{IsOpenIn, differing, hear, kept_of, open_recorded, open_stays, over_one}
use Rattle.inf_laws_history.proofs.DrivenFacts.{others_stay}
use Rattle.inf_laws_history.proofs.PendingFacts.{begun_stays, flipped, goes, pending_after, unserved_before, waiting_at}
use Rattle.inf_laws_history.specs.Legal.{Legal, MayAsk, MayServe}
use Rattle.inf_laws_history.specs.Pending.{ArePending, Waits}
use Rattle.inf_message.specs.declared.ask.Ask.{Ask}
use Rattle.inf_message.specs.declared.event.Event.{Event}
use Rattle.inf_message.specs.declared.event.Event.TheVariants as event
use Rattle.inf_message.specs.declared.reply.Reply.{Reply}
use Rattle.inf_message.specs.History.{Made, Own, Posted, Told, asked_at, asks_of, is_served, or_told, own_ask, served_at, told_reply}
use Rattle.inf_message.specs.Shown.{IsOwn}
use Rattle.inf_message.proofs.ClientLaws.{asks_are_own, serve_apart}
use Rattle.inf_message.proofs.HistoryLaws.{asked_within, by_test, itself, other}

some_in : {X : Type 0} (a b : X) → Some a ≡ Some b → a ≡ b
some_in a b same = cc

-- ---- the newest first

client_from : World → ℕ → List Own → ClientState
client_from world client [] = start world client
client_from world client (own ∷ owns) = after_own world.digest (client_from world client owns) (own_of own)

oldest_first : (world : World) (client : ℕ) (owns : List Own) → client_of world client (map own_of (reverse owns)) ≡ client_from world client owns
unfolding client_from
oldest_first world client [] = refl
oldest_first world client (own ∷ owns) =
    let cut : map own_of (reverse (own ∷ owns)) ≡ map own_of (reverse owns) ++ own_of own ∷ [] = simp (reverse-cons, map-append) refl in
    ap (fold (after_own world.digest) (start world client)) cut
    ∙ fold-append (after_own world.digest) (start world client) (map own_of (reverse owns)) (own_of own ∷ [])
    ∙ ap (λ s. after_own world.digest s (own_of own)) (oldest_first world client owns)

-- ---- Asks that wait

-- none of these Asks stands at the place
abbrev AreApart : ℕ → List Own → Type 0
AreApart at [] = Unit {0}
AreApart at (own ∷ owns) = (eqb own.made.ask_place at ≡ false) × AreApart at owns

-- the newest Ask waits
record IsNewest (at : ℕ) (own : Own) (owns : List Own) : Type 0 where
  pub place : own.made.ask_place ≡ at
  pub untold : own.told ≡ None
  pub apart : AreApart at owns

-- one before it waits, and the newest was made in its group
record IsBehind (at : ℕ) (own : Own) (Before : Type 0) (s : ClientState) : Type 0 where
  pub apart : eqb own.made.ask_place at ≡ false
  pub before : Before
  pub waits : IsOpenIn at s

apart_stay : (at place : ℕ) (told : Told) (owns : List Own) → AreApart at owns → AreApart at (map (served_at place told) owns)
apart_stay at place told [] apart = tt
apart_stay at place told (own ∷ owns) apart = (by (eqb own.made.ask_place place), apart_stay at place told owns apart.1)
  where
    by : (b : Bool) → eqb (cond b (own_ask own.made (Some (or_told own.told told))) own).made.ask_place at ≡ false
    by true = apart.0
    by false = apart.0

apart_untouched : (at : ℕ) (told : Told) (owns : List Own) → AreApart at owns → map (served_at at told) owns ≡ owns
apart_untouched at told [] apart = refl
apart_untouched at told (own ∷ owns) apart = rw (apart.0, apart_untouched at told owns apart.1) refl

newest_told : (made : Made) (before : Option Told) (told : Told) → before ≡ None → Some (or_told before told) ≡ Some told
newest_told made before told none = ap (λ (o : Option Told). Some (or_told o told)) none

module _ (world : World) (client : ℕ) where
  abbrev IsOpen : ℕ → List Own → Type 0
  IsOpen at [] = ⊥
  IsOpen at (own ∷ owns) = IsNewest at own owns ⊎ IsBehind at own (IsOpen at owns) (client_from world client owns)

  newest_shown : (at : ℕ) (told : Told) (own : Own) (owns : List Own) → IsNewest at own owns
      → served world.digest at (hear told) (client_from world client (own ∷ owns)) ≡ client_from world client (map (served_at at told) (own ∷ owns))
  unfolding client_from
  newest_shown at told own owns is =
      subst (λ p. served world.digest p (hear told) (client_from world client (own ∷ owns)) ≡ client_from world client (map (served_at p told) (own ∷ owns))) is.place
      (at_own (subst (λ p. AreApart p owns) (sym is.place) is.apart))
    where
      at_own : AreApart own.made.ask_place owns
          → served world.digest own.made.ask_place (hear told) (client_from world client (own ∷ owns)) ≡ client_from world client (map (served_at own.made.ask_place told) (own ∷ owns))
      at_own apart = rw (itself own.made.ask_place, apart_untouched own.made.ask_place told owns apart, is.untold) refl

  -- the answer may as well be known when the Ask is made
  served_shown : (at : ℕ) (told : Told) (owns : List Own) → IsOpen at owns
      → served world.digest at (hear told) (client_from world client owns) ≡ client_from world client (map (served_at at told) owns)
  unfolding client_from
  served_shown at told [] is = absurd is
  served_shown at told (own ∷ owns) (inl is) = newest_shown at told own owns is
  served_shown at told (own ∷ owns) (inr is) =
      let same : served_at at told own ≡ own = rw is.apart refl in
      over_one world.digest at own.made.ask_place (hear told) own.made.ask (client_from world client owns) is.apart (flipped own.made.ask_place at is.apart) is.waits own.told
      ∙ ap (λ s. after_own world.digest s (own_of own)) (served_shown at told owns is.before)
      ∙ ap (λ o. after_own world.digest (client_from world client (map (served_at at told) owns)) (own_of o)) (sym same)

  -- the others wait on
  open_on : (at place : ℕ) (told : Told) (owns : List Own) → eqb at place ≡ false → IsOpen at owns → IsOpen place owns → IsOpen place (map (served_at at told) owns)
  open_on at place told [] unlike is waits = absurd is
  open_on at place told (own ∷ owns) unlike (inl is) (inl waits) = absurd (differing at place (sym is.place ∙ waits.place) unlike)
  open_on at place told (own ∷ owns) unlike (inl is) (inr waits) =
      let stay = apart_untouched at told owns is.apart in
      let here : eqb own.made.ask_place at ≡ true = (Decides-eqb own.made.ask_place at).1 is.place in
      rw (stay, here) (inr (record { apart = waits.apart; before = waits.before; waits = waits.waits }))
  open_on at place told (own ∷ owns) unlike (inr is) (inl waits) =
      rw is.apart (inl (record { place = waits.place; untold = waits.untold; apart = apart_stay place at told owns waits.apart }))
  open_on at place told (own ∷ owns) unlike (inr is) (inr waits) =
      let shown = sym (open_recorded world.digest at (hear told) (client_from world client owns) is.waits) ∙ served_shown at told owns is.before in
      rw is.apart (inr (record {
        apart = waits.apart;
        before = open_on at place told owns unlike is.before waits.before;
        waits = subst (IsOpenIn place) shown (open_stays at place (kept_of (client_from world client owns).stage (hear told)) (client_from world client owns) (flipped at place unlike) waits.waits);
      }))

  -- ---- histories

  record FollowsAs (h : List Event) (owns : List Own) (s : ClientState) : Type 0 where
    pub same : client_from world client owns ≡ s
    pub waiting : (place : ℕ) (posted : Posted) → asked_at place h ≡ Some posted → posted.ask.from.client ≡ client → is_served place h ≡ false → IsOpen place owns

  -- its Asks show its state, and those that wait are of its present group
  abbrev Follows : List Event → Type 0
  Follows h = FollowsAs h (asks_of client h) (client_after world client h)

  -- ---- an Ask

  apart_from_new : (h : List Event) (owns : List Own) → All (IsOwn client h) owns → AreApart (suc (length h)) owns
  apart_from_new h [] are = tt
  apart_from_new h (own ∷ owns) are =
      let own_is = All-head (IsOwn client h) own owns are in
      let within = (asked_within own.made.ask_place _ h own_is.made.asked).within in
      (other own.made.ask_place (suc (length h)) (λ e. absurd (omega arith)), apart_from_new h owns (All-tail (IsOwn client h) own owns are))

  another_asks : (number : ℕ) (ask : Ask) (h : List Event) → eqb ask.from.client client ≡ false → Follows h → Follows (event.Ask number ask ∷ h)
  another_asks number ask h unlike is = rw unlike (record {
    same = is.same;
    waiting = λ place posted found by_client unserved.
        by_test (eqb place (suc (length h))) found
        (λ newest here.
        let own : ask.from.client ≡ client = ap (λ (p : Posted). p.ask.from.client) (some_in _ _ here) ∙ by_client in
        absurd (differing _ _ own unlike))
        (λ older behind. is.waiting place posted behind by_client unserved);
  })

  -- one that waits has a group that goes on
  open_in : (place : ℕ) (posted : Posted) (number : ℕ) (ask : Ask) (s : ClientState) → Duty world.digest s number ask → Waits s place posted.number posted.ask → IsOpenIn place s
  open_in place posted number ask s duty waits =
      let stays = begun_stays world.digest ask s.sent s waits.index (waiting_at place) waits.sent in
      let next : next_step s ≡ asks number ask = subst (λ (t : ClientState). next_step t ≡ asks number ask) stays duty in
      record {
        index = waits.index;
        waits = waits.sent;
        room = slice_get_within (group s.who s.stage) (length s.sent) _ (goes s number ask next).message;
      }

  it_asks : (number : ℕ) (ask : Ask) (h : List Event) → eqb ask.from.client client ≡ true → Duty world.digest (client_after world client h) number ask
      → ArePending world h → Follows h → Follows (event.Ask number ask ∷ h)
  unfolding client_from
  it_asks number ask h own duty pending is = rw own (record {
    same = ap (asked world.digest (suc (length h)) ask) is.same;
    waiting = λ place posted found by_client unserved.
        by_test (eqb place (suc (length h))) found
        (λ newest here.
        let at : place ≡ suc (length h) = (Decides-eqb place (suc (length h))).0 newest in
        inl (record {
          place = sym at;
          untold = refl;
          apart = subst (λ p. AreApart p (asks_of client h)) (sym at) (apart_from_new h (asks_of client h) (asks_are_own client h));
        }))
        (λ older behind.
        let waits : Waits (client_after world client h) place posted.number posted.ask =
        subst (λ c. Waits (client_after world c h) place posted.number posted.ask) by_client (pending place posted behind unserved) in
        inr (record {
          apart = flipped place (suc (length h)) older;
          before = is.waiting place posted behind by_client unserved;
          waits = subst (IsOpenIn place) (sym is.same) (open_in place posted number ask (client_after world client h) duty waits);
        }));
  })

  -- ---- a Serve

  another_is_served : (number at : ℕ) (given : Reply) (posted : Posted) (h : List Event) → asked_at at h ≡ Some posted → posted.ask.from.client ≢ client
      → Follows h → Follows (event.Serve number at given ∷ h)
  another_is_served number at given posted h made another is =
      let asks_stay = serve_apart client number at given posted h made another in
      let stays = others_stay world h client number at given posted made another in
      record {
        same = ap (client_from world client) asks_stay ∙ is.same ∙ sym stays;
        waiting = λ place p found by_client unserved.
            subst (IsOpen place) (sym asks_stay)
            (is.waiting place p found by_client (unserved_before number at place given h unserved).1);
      }

  it_is_served : (number at : ℕ) (given : Reply) (posted : Posted) (h : List Event) → asked_at at h ≡ Some posted → posted.ask.from.client ≡ client
      → is_served at h ≡ false → Follows h → Follows (event.Serve number at given ∷ h)
  it_is_served number at given posted h made own unserved is =
      let told : Told = told_reply (suc (length h)) given in
      let waits : IsOpen at (asks_of client h) = is.waiting at posted made own unserved in
      record {
        same = sym (served_shown at told (asks_of client h) waits) ∙ ap (served world.digest at (hear told)) is.same;
        waiting = λ place p found by_client later.
            let before = unserved_before number at place given h later in
            open_on at place told (asks_of client h) before.0 waits (is.waiting place p found by_client before.1);
      }

  -- ---- every legal history

  asked_follows : (number : ℕ) (ask : Ask) (h : List Event) → MayAsk world h number ask → ArePending world h → Follows h → Follows (event.Ask number ask ∷ h)
  asked_follows number ask h may pending is = by_client (eqb ask.from.client client) refl
    where
      by_client : (b : Bool) → eqb ask.from.client client ≡ b → Follows (event.Ask number ask ∷ h)
      by_client true own =
          it_asks number ask h own
          (subst (λ c. Duty world.digest (client_after world c h) number ask) ((Decides-eqb ask.from.client client).0 own) may.duty) pending is
      by_client false another = another_asks number ask h another is

  served_follows : (number at : ℕ) (given : Reply) (h : List Event) → MayServe world h number at given → Follows h → Follows (event.Serve number at given ∷ h)
  served_follows number at given h may is = by_client (eqb may.posted.ask.from.client client) refl
    where
      by_client : (b : Bool) → eqb may.posted.ask.from.client client ≡ b → Follows (event.Serve number at given ∷ h)
      by_client true own = it_is_served number at given may.posted h may.made ((Decides-eqb may.posted.ask.from.client client).0 own) may.waits is
      by_client false another = another_is_served number at given may.posted h may.made (λ own. differing _ _ own another) is

  follows : (h : List Event) → Legal world h → Follows h
  unfolding client_from
  follows [] legal = record { same = refl; waiting = λ place posted found by_client unserved. absurd cc }
  follows (event.Ask number ask ∷ h) legal = asked_follows number ask h legal.1 (pending_after world h legal.0) (follows h legal.0)
  follows (event.Serve number at given ∷ h) legal = served_follows number at given h legal.1 (follows h legal.0)

pub shows_state : (world : World) (client : ℕ) (h : List Event) → Legal world h → client_of world client (own_asks client h) ≡ client_after world client h
shows_state world client h legal = oldest_first world client (asks_of client h) ∙ (follows world client h legal).same
