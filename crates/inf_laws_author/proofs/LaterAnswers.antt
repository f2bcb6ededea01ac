-- A client that knows more answers to its Asks is where it was, or an Ask of its group waits; and what it asks next is
-- the same.
use Rattle.std.proofs.Common.{◌≡◌, ◌⊎◌, inl, inr, ℕ, ◌+◌, ◌<◌, ◌≤◌, ◌&&◌, Bool, true, false, eqb, nat_lt, List, [], ◌∷◌, ◌++◌, length, map, fold, slice_get, Option, Some, None, is_some, refl, sym, ap, ap₂, ◌∙◌, subst, length-append, arith}
use Rattle.std.specs.List.{list_all}
use Rattle.std.proofs.lemmas.Bool.Decides.{Decides-eqb, nat_tests}
use Rattle.std.proofs.lemmas.List.{length-map}
use Rattle.std.proofs.lemmas.Option.{slice_get_within}
use Rattle.inf_base.specs.declared.call.Call.{Call}
use Rattle.inf_base.specs.declared.id.Id.{Id}
use Rattle.inf_duty.specs.Duty.{Duty, asked, asks, begun, next_in, next_of, next_step}
use Rattle.inf_duty.specs.Own.{after_answer, after_own, client_of, rises_from}
use Rattle.inf_duty.specs.Start.{start}
use Rattle.inf_duty.specs.World.{World}
use Rattle.inf_duty.specs.declared.own.OwnAsk.{OwnAsk}
use Rattle.inf_duty.specs.ClientState.{ClientState, is_round, one_if, placed}
use Rattle.inf_duty.specs.Group.{group}
use Rattle.inf_duty.specs.Turn.{recorded, served, told_in}
use Rattle.inf_message.specs.Sent.{Sent, is_first, is_told, told_at}
use Rattle.inf_laws_author.proofs.Tests.{and_false, both_true}
use Rattle.inf_laws_author.specs.LessTold.{HasWaiting, IsSameAsk, LessTold}
use Rattle.inf_laws_history.proofs.ClientSteps.{by_answer}
use Rattle.inf_laws_history.proofs.PendingFacts.{goes, waiting_at}
use Rattle.inf_message.specs.declared.ask.Ask.{Ask}
use Rattle.inf_message.specs.declared.reply.Reply.{Reply}
use Rattle.inf_message.specs.declared.step.Message.{Message}
use Rattle.inf_message.specs.History.{Told, told_reply}

-- ---- Asks that wait

-- an Ask at a place up to this one waits
abbrev WaitsBy : ℕ → List Sent → Type 0
WaitsBy last [] = ⊥
WaitsBy last (x ∷ sent) = ((x.place ≤ last) × (x.told ≡ None)) ⊎ WaitsBy last sent

waits_later : (last place : ℕ) (sent : List Sent) → last ≤ place → WaitsBy last sent → WaitsBy place sent
waits_later last place [] later waits = absurd waits
waits_later last place (x ∷ sent) later (inl is) = let within = is.0 in inl (omega arith, is.1)
waits_later last place (x ∷ sent) later (inr behind) = inr (waits_later last place sent later behind)

waits_placed : (last place : ℕ) (sent : List Sent) → WaitsBy last sent → WaitsBy last (sent ++ waiting_at place ∷ [])
waits_placed last place [] waits = absurd waits
waits_placed last place (x ∷ sent) (inl is) = inl is
waits_placed last place (x ∷ sent) (inr behind) = inr (waits_placed last place sent behind)

newest_waits : (place : ℕ) (sent : List Sent) → WaitsBy place (sent ++ waiting_at place ∷ [])
newest_waits place [] = inl (omega arith, refl)
newest_waits place (x ∷ sent) = inr (newest_waits place sent)

unlike : (a b c : ℕ) → a ≤ b → b < c → eqb a c ≡ false
unlike a b c within later = grind (arith, nat_tests)

-- a later Ask's answer leaves it waiting
waits_on : (last place : ℕ) (told : Told) (sent : List Sent) → last < place → WaitsBy last sent
    → WaitsBy last (map (told_at place told) sent)
waits_on last place told [] later waits = absurd waits
waits_on last place told (x ∷ sent) later (inl is) =
    let same : told_at place told x ≡ x = rw (unlike x.place last place is.0 later) refl in
    subst (λ (y : Sent). WaitsBy last (y ∷ map (told_at place told) sent)) (sym same) (inl is)
waits_on last place told (x ∷ sent) later (inr behind) = inr (waits_on last place told sent later behind)

not_all_told : (last : ℕ) (sent : List Sent) → WaitsBy last sent → list_all is_told sent ≡ false
not_all_told last [] waits = absurd waits
not_all_told last (x ∷ sent) (inl is) = ap (λ (told : Option Told). is_some told && list_all is_told sent) is.1
not_all_told last (x ∷ sent) (inr behind) =
    ap (λ b. is_told x && b) (not_all_told last sent behind) ∙ and_false (is_told x)

-- a client that waits asks within its group, however much it knows
begun_within : (digest : List ℕ → Id) (ask : Ask) (last : ℕ) (sent as_many : List Sent) (s : ClientState)
    → WaitsBy last sent → length as_many ≡ length sent → begun digest ask as_many s ≡ s
begun_within digest ask last [] as_many s waits same = absurd waits
begun_within digest ask last (x ∷ sent) [] s waits same = absurd (let never : ⊥ = omega arith in never)
begun_within digest ask last (x ∷ sent) (y ∷ as_many) s waits same = refl

-- ---- a client that knows more

-- the same client, with these Asks and this last Serve
abbrev told_so : List Sent → Option ℕ → ClientState → ClientState
told_so sent last s = record s { sent = sent; counts = record s.counts { last = last } }

-- within the same group
record Knows (s t : ClientState) : Type 0 where
  sent : List Sent
  last : Option ℕ
  same : t ≡ told_so sent last s
  as_many : length sent ≡ length s.sent

as_many_in : (s t : ClientState) → Knows s t → length t.sent ≡ length s.sent
as_many_in s t knows = ap (λ (x : ClientState). length x.sent) knows.same ∙ knows.as_many

-- the group is wholly asked
abbrev IsFull : ClientState → Type 0
IsFull s = length (group s.who s.stage) ≤ length s.sent

-- the second knows more answers of the group that the first is in; or it may be past that, and the first waits in vain
abbrev KnowsMore : ClientState → ClientState → Type 0
KnowsMore s t = Knows s t ⊎ IsFull s

abbrev Behind : ℕ → ClientState → ClientState → Type 0
Behind last s t = (s ≡ t) ⊎ (WaitsBy last s.sent × KnowsMore s t)

-- the same, once both have made an Ask at this place
abbrev BehindAt : ℕ → ℕ → ClientState → ClientState → Type 0
BehindAt last place s t = ((s ≡ t) × WaitsBy place s.sent) ⊎ (WaitsBy last s.sent × KnowsMore s t)

-- ---- an Ask more

first_alike : (sent others : List Sent) → length sent ≡ length others → is_first sent ≡ is_first others
first_alike [] [] same = refl
first_alike [] (y ∷ others) same = absurd (let never : ⊥ = omega arith in never)
first_alike (x ∷ sent) [] same = absurd (let never : ⊥ = omega arith in never)
first_alike (x ∷ sent) (y ∷ others) same = refl

abbrev placed_so : ℕ → List Sent → Option ℕ → ClientState → Bool → ClientState
placed_so place sent last s first =
    let before = placed place s in
    record before {
      sent = sent ++ waiting_at place ∷ [];
      counts = record before.counts { last = last; rounds = s.counts.rounds + one_if (is_round s.stage && first) };
    }

placed_alike : (place : ℕ) (sent : List Sent) (last : Option ℕ) (s : ClientState) → length sent ≡ length s.sent
    → placed place (told_so sent last s) ≡ told_so (sent ++ waiting_at place ∷ []) last (placed place s)
placed_alike place sent last s same = ap (placed_so place sent last s) (first_alike sent s.sent same)

module _ (digest : List ℕ → Id) (last place : ℕ) (ask : Ask) where
  asked_within : (s t : ClientState) → WaitsBy last s.sent → length t.sent ≡ length s.sent
      → asked digest place ask t ≡ placed place t
  asked_within s t waits same = ap (placed place) (begun_within digest ask last s.sent t.sent t waits same)

  knows_asked : (s t : ClientState) → WaitsBy last s.sent → Knows s t
      → Knows (placed place s) (asked digest place ask t)
  knows_asked s t waits knows =
      let new : List Sent = waiting_at place ∷ [] in
      record {
        sent = knows.sent ++ new;
        last = knows.last;
        same =
            asked_within s t waits (as_many_in s t knows) ∙ ap (placed place) knows.same
            ∙ placed_alike place knows.sent knows.last s knows.as_many;
        as_many = length-append knows.sent new ∙ ap (λ n. n + 1) knows.as_many ∙ sym (length-append s.sent new);
      }

  full_asked : (s : ClientState) → IsFull s → IsFull (placed place s)
  full_asked s full = let longer = length-append s.sent (waiting_at place ∷ []) in omega arith

  asked_behind : (s t : ClientState) → Behind last s t
      → BehindAt last place (asked digest place ask s) (asked digest place ask t)
  asked_behind s t (inl same) =
      inl (ap (asked digest place ask) same, newest_waits place (begun digest ask s.sent s).sent)
  asked_behind s t (inr (waits, more)) =
      subst (λ (x : ClientState). BehindAt last place x (asked digest place ask t)) (sym (asked_within s s waits refl))
      (inr (waits_placed last place s.sent waits, by more))
    where
      by : KnowsMore s t → KnowsMore (placed place s) (asked digest place ask t)
      by (inl knows) = inl (knows_asked s t waits knows)
      by (inr full) = inr (full_asked s full)

-- ---- an answer more

module _ (digest : List ℕ → Id) (place : ℕ) (told : Told) where
  -- only the second is told: it may be past the group, which is wholly asked then
  told_so_more : (s : ClientState) (sent : List Sent) (last : Option ℕ) → length sent ≡ length s.sent
      → KnowsMore s (served digest place told (told_so sent last s))
  told_so_more s sent last as_many =
      let before = told_so sent last s in
      let kept = told_in before told in
      by_answer digest (KnowsMore s) place told before
      (λ apart. inl (record { sent = sent; last = last; same = refl; as_many = as_many }))
      (λ here going. inl (record {
        sent = map (told_at place kept) sent;
        last = (recorded place kept before).counts.last;
        same = refl;
        as_many = length-map sent (told_at place kept) ∙ as_many;
      }))
      (λ here over.
      let all : length (map (told_at place kept) sent) ≡ length (group s.who s.stage) =
      (Decides-eqb (length (map (told_at place kept) sent)) (length (group s.who s.stage))).0
      (both_true _ (list_all is_told (map (told_at place kept) sent)) over).0 in
      let as_before = length-map sent (told_at place kept) in
      inr (omega arith))

  knows_told : (s t : ClientState) → Knows s t → KnowsMore s (served digest place told t)
  knows_told s t knows =
      subst (λ (x : ClientState). KnowsMore s (served digest place told x)) (sym knows.same)
      (told_so_more s knows.sent knows.last knows.as_many)

  more_told : (s t : ClientState) → KnowsMore s t → KnowsMore s (served digest place told t)
  more_told s t (inl knows) = knows_told s t knows
  more_told s t (inr full) = inr full

  -- the first is told as well
  more_recorded : (kept : Told) (s t : ClientState) → KnowsMore s t → KnowsMore (recorded place kept s) t
  more_recorded kept s t (inl knows) = inl (record {
    sent = knows.sent;
    last = knows.last;
    same = knows.same;
    as_many = knows.as_many ∙ sym (length-map s.sent (told_at place kept));
  })
  more_recorded kept s t (inr full) = inr (let as_many = length-map s.sent (told_at place kept) in omega arith)

  both_told : (last : ℕ) (s t : ClientState) → last < place → WaitsBy last s.sent → KnowsMore s t
      → WaitsBy last (served digest place told s).sent × KnowsMore (served digest place told s) t
  both_told last s t later waits more =
      let kept = told_in s told in
      let still = waits_on last place kept s.sent later waits in
      by_answer digest (λ (x : ClientState). WaitsBy last x.sent × KnowsMore x t) place told s
      (λ apart. (waits, more))
      (λ here going. (still, more_recorded kept s t more))
      (λ here over.
      let not_over = not_all_told last (map (told_at place kept) s.sent) still in
      let all = (both_true _ (list_all is_told (map (told_at place kept) s.sent)) over).1 in
      absurd (let never : ⊥ = cc in never))

knows_itself : (s : ClientState) → Knows s s
knows_itself s = record { sent = s.sent; last = s.counts.last; same = refl; as_many = refl }

abbrev told_as : ℕ × Reply → Told
told_as told = told_reply told.0 told.1

module _ (digest : List ℕ → Id) (last place : ℕ) (later : last < place) where
  waits_here : (s t : ClientState) → WaitsBy last s.sent → KnowsMore s t → Behind place s t
  waits_here s t waits more = inr (waits_later last place s.sent (omega arith) waits, more)

  told_same : (told : Option (ℕ × Reply)) (s t : ClientState) → BehindAt last place s t
      → Behind place (after_answer digest place told s) (after_answer digest place told t)
  told_same told s t (inl (same, waits)) = inl (ap (after_answer digest place told) same)
  told_same None s t (inr (waits, more)) = waits_here s t waits more
  told_same (Some told) s t (inr (waits, more)) =
      let both = both_told digest place (told_as told) last s t later waits more in
      waits_here (served digest place (told_as told) s) (served digest place (told_as told) t) both.0
      (more_told digest place (told_as told) (served digest place (told_as told) s) t both.1)

  told_later : (told : Option (ℕ × Reply)) (s t : ClientState) → BehindAt last place s t
      → Behind place s (after_answer digest place told t)
  told_later None s t (inl (same, waits)) = inl same
  told_later None s t (inr (waits, more)) = waits_here s t waits more
  told_later (Some told) s t (inl (same, waits)) =
      subst (λ (x : ClientState). Behind place s (served digest place (told_as told) x)) same
      (inr (waits, knows_told digest place (told_as told) s s (knows_itself s)))
  told_later (Some told) s t (inr (waits, more)) =
      waits_here s (served digest place (told_as told) t) waits (more_told digest place (told_as told) s t more)

  answers : (before now : Option (ℕ × Reply)) (s t : ClientState) → (before ≡ None) ⊎ (before ≡ now)
      → BehindAt last place s t → Behind place (after_answer digest place before s) (after_answer digest place now t)
  answers before now s t (inl none) is =
      subst (λ o. Behind place (after_answer digest place o s) (after_answer digest place now t)) (sym none)
      (told_later now s t is)
  answers before now s t (inr same) is =
      subst (λ o. Behind place (after_answer digest place before s) (after_answer digest place o t)) same
      (told_same before s t is)

-- ---- one Ask after another

own_behind : (digest : List ℕ → Id) (last : ℕ) (x y : OwnAsk) (s t : ClientState) → last < x.ask_place → IsSameAsk x y
    → Behind last s t → Behind x.ask_place (after_own digest s x) (after_own digest t y)
own_behind digest last x y s t later same is =
    let after : ℕ → Ask → ClientState = λ place ask. after_answer digest place y.told (asked digest place ask t) in
    subst (Behind x.ask_place (after_own digest s x)) (ap₂ after same.ask_place same.ask)
    (answers digest last x.ask_place later x.told y.told (asked digest x.ask_place x.ask s)
    (asked digest x.ask_place x.ask t) same.told (asked_behind digest last x.ask_place x.ask s t is))

-- they rise from a place on
rising : (last place : ℕ) (b : Bool) → (nat_lt last place && b) ≡ true → (last < place) × (b ≡ true)
rising last place b rises =
    let both = both_true (nat_lt last place) b rises in
    let before = both.0 in
    (grind (arith, nat_tests), both.1)

all_behind : (digest : List ℕ → Id) (last : ℕ) (known told : List OwnAsk) (s t : ClientState)
    → rises_from last known ≡ true → LessTold known told → Behind last s t
    → (end : ℕ) × Behind end (fold (after_own digest) s known) (fold (after_own digest) t told)
all_behind digest last [] [] s t rises less is = (last, is)
all_behind digest last [] (y ∷ told) s t rises less is = absurd less
all_behind digest last (x ∷ known) [] s t rises less is = absurd less
all_behind digest last (x ∷ known) (y ∷ told) s t rises less is =
    let on = rising last x.ask_place (rises_from x.ask_place known) rises in
    all_behind digest x.ask_place known told (after_own digest s x) (after_own digest t y) on.1 less.1
    (own_behind digest last x y s t on.0 less.0 is)

clients_behind : (world : World) (client : ℕ) (known told : List OwnAsk) → rises_from 0 known ≡ true
    → LessTold known told → (end : ℕ) × Behind end (client_of world client known) (client_of world client told)
clients_behind world client known told rises less =
    all_behind world.digest 0 known told (start world client) (start world client) rises less (inl refl)

pub stays_or_waits : (world : World) (client : ℕ) (known told : List OwnAsk) → rises_from 0 known ≡ true
    → LessTold known told
    → (client_of world client known ≡ client_of world client told) ⊎ HasWaiting (client_of world client known)
stays_or_waits world client known told rises less = by (clients_behind world client known told rises less)
  where
    by : ((end : ℕ) × Behind end (client_of world client known) (client_of world client told))
        → (client_of world client known ≡ client_of world client told) ⊎ HasWaiting (client_of world client known)
    by (end, inl same) = inl same
    by (end, inr (waits, more)) = inr (not_all_told end (client_of world client known).sent waits)

-- ---- what is asked next

next_of_alike : (s : ClientState) (sent : List Sent) (last : Option ℕ) (found : Option Message)
    → next_of (told_so sent last s) found ≡ next_of s found
next_of_alike s sent last None = refl
next_of_alike s sent last (Some message) = refl

next_alike : (s : ClientState) (sent : List Sent) (last : Option ℕ) → length sent ≡ length s.sent
    → next_step (told_so sent last s) ≡ next_step s
next_alike s sent last as_many = by s.left
  where
    by : (calls : List Call) → next_in (told_so sent last s) calls ≡ next_in s calls
    by [] = refl
    by (call ∷ calls) =
        next_of_alike s sent last (slice_get (group s.who s.stage) (length sent))
        ∙ ap (λ n. next_of s (slice_get (group s.who s.stage) n)) as_many

duty_behind : (digest : List ℕ → Id) (last : ℕ) (s t : ClientState) (number : ℕ) (ask : Ask) → Behind last s t
    → Duty digest s number ask → Duty digest t number ask
duty_behind digest last s t number ask (inl same) duty =
    subst (λ (x : ClientState). Duty digest x number ask) same duty
duty_behind digest last s t number ask (inr (waits, more)) duty = by more
  where
    next : next_step s ≡ asks number ask
    next =
        subst (λ (x : ClientState). next_step x ≡ asks number ask)
        (begun_within digest ask last s.sent s.sent s waits refl) duty

    by : KnowsMore s t → Duty digest t number ask
    by (inl knows) =
        let within = begun_within digest ask last s.sent t.sent t waits (as_many_in s t knows) in
        subst (λ (x : ClientState). next_step x ≡ asks number ask) (sym within)
        (ap next_step knows.same ∙ next_alike s knows.sent knows.last knows.as_many ∙ next)
    by (inr full) =
        let room = slice_get_within (group s.who s.stage) (length s.sent) _ (goes s number ask next).message in
        absurd (let never : ⊥ = omega arith in never)

pub duty_stays : (world : World) (client : ℕ) (known told : List OwnAsk) → rises_from 0 known ≡ true
    → LessTold known told → (number : ℕ) (ask : Ask) → Duty world.digest (client_of world client known) number ask
    → Duty world.digest (client_of world client told) number ask
duty_stays world client known told rises less number ask duty =
    let is = clients_behind world client known told rises less in
    duty_behind world.digest is.0 (client_of world client known) (client_of world client told) number ask is.1 duty
