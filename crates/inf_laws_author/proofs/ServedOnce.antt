-- Which Asks of a legal history wait: what a server served shows it of the Asks made to it, and each is served once at
-- most.
use Rattle.std.proofs.Common.{◌≡◌, ℕ, suc, ◌+◌, ◌<◌, ◌≤◌, ◌||◌, Bool, true, false, cond, eqb, List, [], ◌∷◌, length, Option, Some, None, refl, sym, ap, ◌∙◌, subst, arith}
use Rattle.std.specs.List.{list_any}
use Rattle.std.proofs.lemmas.Bool.Decides.{Decides-eqb, nat_tests}
use Rattle.inf_duty.specs.World.{World}
use Rattle.inf_laws_author.proofs.Tests.{both_ways, either_true, or_true, unless_true}
use Rattle.inf_laws_author.specs.Counts.{asks_in, serves_in}
use Rattle.inf_laws_author.specs.OwnEvents.{names}
use Rattle.inf_laws_history.proofs.PendingFacts.{unserved_before}
use Rattle.inf_laws_history.specs.Legal.{Legal, MayServe, server_after}
use Rattle.inf_laws_history.specs.Sites.{site_of}
use Rattle.inf_message.proofs.HistoryLaws.{asked_within, by_test, itself, serves_own}
use Rattle.inf_message.specs.declared.event.Event.{Event}
use Rattle.inf_message.specs.declared.event.Event.TheVariants as event
use Rattle.inf_message.specs.declared.reply.Reply.{Reply}
use Rattle.inf_message.specs.History.{Posted, Served, asked_at, event_at, is_served, serves_of, with_served}
use Rattle.inf_server.specs.Machine.{Serves, state_after}
use Rattle.inf_server.specs.State.{State}

-- the server has served the Ask at this place
abbrev has_served : ℕ → ℕ → List Event → Bool
has_served ask_place server h = names ask_place (serves_of server h)

some_same : {X : Type 0} {x y : X} → Some x ≡ Some y → x ≡ y
some_same e = cc

-- ---- what a server served is served, and stays so

named_is : (ask_place place : ℕ) (found : Option Posted) (given : Reply) (h : List Event) (before : List Served)
    → (names ask_place before ≡ true → is_served ask_place h ≡ true)
    → names ask_place (with_served found place given before) ≡ true
    → (eqb place ask_place || is_served ask_place h) ≡ true
named_is ask_place place None given h before earlier is =
    ap (λ b. eqb place ask_place || b) (earlier is) ∙ or_true (eqb place ask_place)
named_is ask_place place (Some posted) given h before earlier is =
    either_true (eqb place ask_place) (names ask_place before) is
    (λ here. ap (λ b. b || is_served ask_place h) here)
    (λ there. ap (λ b. eqb place ask_place || b) (earlier there) ∙ or_true (eqb place ask_place))

served_is_served : (ask_place server : ℕ) (h : List Event) → has_served ask_place server h ≡ true
    → is_served ask_place h ≡ true
served_is_served ask_place server [] is = absurd cc
served_is_served ask_place server (event.Ask number ask ∷ h) is = served_is_served ask_place server h is
served_is_served ask_place server (event.Serve number place given ∷ h) is =
    by (served_is_served ask_place server h) (eqb number server) is
  where
    now : List Served
    now = with_served (asked_at place h) place given (serves_of server h)

    by : (has_served ask_place server h ≡ true → is_served ask_place h ≡ true) → (b : Bool)
        → names ask_place (cond b now (serves_of server h)) ≡ true
        → (eqb place ask_place || is_served ask_place h) ≡ true
    by before true at = named_is ask_place place (asked_at place h) given h (serves_of server h) before at
    by before false at = ap (λ b. eqb place ask_place || b) (before at) ∙ or_true (eqb place ask_place)

served_stays : (ask_place server number place : ℕ) (given : Reply) (h : List Event)
    → has_served ask_place server h ≡ true → has_served ask_place server (event.Serve number place given ∷ h) ≡ true
served_stays ask_place server number place given h is = by (eqb number server)
  where
    more : (found : Option Posted)
        → names ask_place (with_served found place given (serves_of server h)) ≡ true
    more None = is
    more (Some posted) = ap (λ b. eqb place ask_place || b) is ∙ or_true (eqb place ask_place)

    now : List Served
    now = with_served (asked_at place h) place given (serves_of server h)

    by : (b : Bool) → names ask_place (cond b now (serves_of server h)) ≡ true
    by true = more (asked_at place h)
    by false = is

-- ---- in a legal history

-- no Serve names a place that is still to come
nothing_past : (world : World) (h : List Event) → Legal world h → (place : ℕ) → length h < place
    → is_served place h ≡ false
nothing_past world [] legal place past = refl
nothing_past world (event.Ask number ask ∷ h) legal place past = nothing_past world h legal.0 place (omega arith)
nothing_past world (event.Serve number ask_place given ∷ h) legal place past =
    let within = (asked_within ask_place legal.1.posted h legal.1.made).within in
    let unlike : eqb ask_place place ≡ false = grind (arith, nat_tests) in
    ap (λ b. b || is_served place h) unlike ∙ nothing_past world h legal.0 place (omega arith)

served_by_it : (world : World) (h : List Event) → Legal world h → (place : ℕ) (posted : Posted)
    → asked_at place h ≡ Some posted → is_served place h ≡ true → has_served place posted.number h ≡ true
served_by_it world [] legal place posted found is = absurd cc
served_by_it world (event.Ask number ask ∷ h) legal place posted found is =
    by_test (eqb place (suc (length h))) found
    (λ newest here.
    let at : place ≡ suc (length h) = (Decides-eqb place (suc (length h))).0 newest in
    let waits = nothing_past world h legal.0 place (omega arith) in
    absurd (let never : ⊥ = cc in never))
    (λ older behind. served_by_it world h legal.0 place posted behind is)
served_by_it world (event.Serve number ask_place given ∷ h) legal place posted found is =
    either_true (eqb ask_place place) (is_served place h) is
    (λ here. just_now here)
    (λ before.
    served_stays place posted.number number ask_place given h (served_by_it world h legal.0 place posted found before))
  where
    just_now : eqb ask_place place ≡ true
        → has_served place posted.number (event.Serve number ask_place given ∷ h) ≡ true
    just_now here =
        let at : ask_place ≡ place = (Decides-eqb ask_place place).0 here in
        let this : legal.1.posted ≡ posted = some_same (sym legal.1.made ∙ ap (λ p. asked_at p h) at ∙ found) in
        let by_it : number ≡ posted.number = sym legal.1.to ∙ ap (λ (p : Posted). p.number) this in
        subst (λ n. has_served place posted.number (event.Serve n ask_place given ∷ h) ≡ true) (sym by_it)
        (ap (names place) (serves_own posted.number ask_place given legal.1.posted h legal.1.made)
        ∙ ap (λ b. b || has_served place posted.number h) here)

pub shown_by_its_server : (world : World) (h : List Event) → Legal world h → (place : ℕ) (posted : Posted)
    → asked_at place h ≡ Some posted → is_served place h ≡ has_served place posted.number h
shown_by_its_server world h legal place posted found =
    both_ways (is_served place h) (has_served place posted.number h) (served_by_it world h legal place posted found)
    (served_is_served place posted.number h)

-- ---- the next Serve

pub same_server : (world : World) (number : ℕ) (h g : List Event) → serves_of number h ≡ serves_of number g
    → server_after world number h ≡ server_after world number g
same_server world number h g same = ap (state_after (site_of world number)) same

pub may_serve_too : (world : World) (number : ℕ) (h g : List Event) → Legal world g
    → serves_of number h ≡ serves_of number g → (ask_place : ℕ) (given : Reply)
    → asked_at ask_place h ≡ asked_at ask_place g → MayServe world h number ask_place given
    → MayServe world g number ask_place given
may_serve_too world number h g legal same ask_place given alike may =
    let made : asked_at ask_place g ≡ Some may.posted = sym alike ∙ may.made in
    let shown : is_served ask_place g ≡ has_served ask_place number g =
    subst (λ n. is_served ask_place g ≡ has_served ask_place n g) may.to
    (shown_by_its_server world g legal ask_place may.posted made) in
    let waits_here : has_served ask_place number h ≡ false =
    unless_true _ (λ is.
    let served = served_is_served ask_place number h is in
    let waits = may.waits in
    let never : ⊥ = cc in
    never) in
    record {
      posted = may.posted;
      made = made;
      to = may.to;
      waits = shown ∙ ap (names ask_place) (sym same) ∙ waits_here;
      after = may.after;
      reply =
          subst (λ (state : State). Serves (site_of world number) state ask_place may.posted.ask given may.after)
          (same_server world number h g same) may.reply;
    }

pub may_serve_known : (world : World) (h : List Event) → Legal world h → (ask_place : ℕ) (posted : Posted)
    → asked_at ask_place h ≡ Some posted → (known : List Served) → known ≡ serves_of posted.number h
    → names ask_place known ≡ false → (given : Reply) (after : State)
    → Serves (site_of world posted.number) (state_after (site_of world posted.number) known) ask_place posted.ask
    given after
    → MayServe world h posted.number ask_place given
may_serve_known world h legal ask_place posted found known same waits given after serves =
    let site = site_of world posted.number in
    record {
      posted = posted;
      made = found;
      to = refl;
      waits = shown_by_its_server world h legal ask_place posted found ∙ sym (ap (names ask_place) same) ∙ waits;
      after = after;
      reply = subst (λ served. Serves site (state_after site served) ask_place posted.ask given after) same serves;
    }

-- ---- once at most

names_a_served : (place number ask_place : ℕ) (given : Reply) (h : List Event)
    → event_at place h ≡ Some (event.Serve number ask_place given) → is_served ask_place h ≡ true
names_a_served place number ask_place given [] found = absurd cc
names_a_served place number ask_place given (event.Ask n a ∷ h) found =
    by_test (eqb place (suc (length h))) found
    (λ newest here. absurd cc)
    (λ older behind. names_a_served place number ask_place given h behind)
names_a_served place number ask_place given (event.Serve n p r ∷ h) found =
    by_test (eqb place (suc (length h))) found
    (λ newest here.
    let same : p ≡ ask_place = cc in
    ap (λ q. eqb q ask_place || is_served ask_place h) same ∙ ap (λ b. b || is_served ask_place h) (itself ask_place))
    (λ older behind.
    ap (λ b. eqb p ask_place || b) (names_a_served place number ask_place given h behind) ∙ or_true (eqb p ask_place))

-- the newest Serve names an Ask that none before it names
not_again : (world : World) (h : List Event) (n p : ℕ) (r : Reply) → MayServe world h n p r
    → (place number ask_place : ℕ) (given told : Reply) (another : ℕ)
    → event.Serve n p r ≡ event.Serve number ask_place given
    → event_at place h ≡ Some (event.Serve another ask_place told) → ⊥
not_again world h n p r may place number ask_place given told another here behind =
    let at : p ≡ ask_place = cc in
    let served = names_a_served place another ask_place told h behind in
    let before : is_served p h ≡ true = subst (λ q. is_served q h ≡ true) (sym at) served in
    let waits = may.waits in
    let never : ⊥ = cc in
    never

pub served_once : (world : World) (h : List Event) → Legal world h
    → (place other number another ask_place : ℕ) (given told : Reply)
    → event_at place h ≡ Some (event.Serve number ask_place given)
    → event_at other h ≡ Some (event.Serve another ask_place told) → place ≡ other
served_once world [] legal place other number another ask_place given told one two = absurd cc
served_once world (event.Ask n a ∷ h) legal place other number another ask_place given told one two =
    by_test (eqb place (suc (length h))) one (λ newest here. absurd cc)
    (λ older behind. by_test (eqb other (suc (length h))) two (λ newest here. absurd cc)
    (λ too far. served_once world h legal.0 place other number another ask_place given told behind far))
served_once world (event.Serve n p r ∷ h) legal place other number another ask_place given told one two =
    by_test (eqb place (suc (length h))) one
    (λ newest here. by_test (eqb other (suc (length h))) two
    (λ too there. (Decides-eqb place (suc (length h))).0 newest ∙ sym ((Decides-eqb other (suc (length h))).0 too))
    (λ older far.
    absurd (not_again world h n p r legal.1 other number ask_place given told another (some_same here) far)))
    (λ older behind. by_test (eqb other (suc (length h))) two
    (λ newest there.
    absurd (not_again world h n p r legal.1 place another ask_place told given number (some_same there) behind))
    (λ too far. served_once world h legal.0 place other number another ask_place given told behind far))

-- ---- how many there are

-- without the first of these
abbrev without : ℕ → List ℕ → List ℕ
without place [] = []
without place (x ∷ xs) = cond (eqb x place) xs (x ∷ without place xs)

abbrev holds : ℕ → List ℕ → Bool
holds place places = list_any (λ x. eqb x place) places

-- the places of the Asks that wait
abbrev waiting_places : List Event → List ℕ
waiting_places [] = []
waiting_places (event.Ask number ask ∷ h) = suc (length h) ∷ waiting_places h
waiting_places (event.Serve number ask_place given ∷ h) = without ask_place (waiting_places h)

one_fewer : (place : ℕ) (places : List ℕ) → holds place places ≡ true
    → suc (length (without place places)) ≡ length places
one_fewer place [] is = absurd cc
one_fewer place (x ∷ places) is = by (one_fewer place places) (eqb x place) is
  where
    by : (holds place places ≡ true → suc (length (without place places)) ≡ length places) → (b : Bool)
        → (b || holds place places) ≡ true
        → suc (length (cond b places (x ∷ without place places))) ≡ suc (length places)
    by fewer true at = refl
    by fewer false at = ap suc (fewer at)

others_stay : (gone place : ℕ) (places : List ℕ) → eqb gone place ≡ false → holds place places ≡ true
    → holds place (without gone places) ≡ true
others_stay gone place [] unlike is = absurd cc
others_stay gone place (x ∷ places) unlike is = by (others_stay gone place places unlike) (eqb x gone) refl
  where
    by : (holds place places ≡ true → holds place (without gone places) ≡ true) → (b : Bool) → eqb x gone ≡ b
        → holds place (cond b places (x ∷ without gone places)) ≡ true
    by stay true here =
        let at : x ≡ gone = (Decides-eqb x gone).0 here in
        let apart : eqb x place ≡ false = ap (λ n. eqb n place) at ∙ unlike in
        sym (ap (λ b. b || holds place places) apart) ∙ is
    by stay false there =
        either_true (eqb x place) (holds place places) is
        (λ here. ap (λ b. b || holds place (without gone places)) here)
        (λ later. ap (λ b. eqb x place || b) (stay later) ∙ or_true (eqb x place))

waits_there : (h : List Event) (place : ℕ) (posted : Posted) → asked_at place h ≡ Some posted
    → is_served place h ≡ false → holds place (waiting_places h) ≡ true
waits_there [] place posted found waits = absurd cc
waits_there (event.Ask number ask ∷ h) place posted found waits =
    by_test (eqb place (suc (length h))) found
    (λ newest here.
    let at : place ≡ suc (length h) = (Decides-eqb place (suc (length h))).0 newest in
    ap (λ b. b || holds place (waiting_places h)) ((Decides-eqb (suc (length h)) place).1 (sym at)))
    (λ older behind.
    ap (λ b. eqb (suc (length h)) place || b) (waits_there h place posted behind waits)
    ∙ or_true (eqb (suc (length h)) place))
waits_there (event.Serve number ask_place given ∷ h) place posted found waits =
    let before = unserved_before number ask_place place given h waits in
    others_stay ask_place place (waiting_places h) before.0 (waits_there h place posted found before.1)

-- an Ask waits, or was served
all_counted : (world : World) (h : List Event) → Legal world h → serves_in h + length (waiting_places h) ≡ asks_in h
all_counted world [] legal = refl
all_counted world (event.Ask number ask ∷ h) legal = let before = all_counted world h legal.0 in omega arith
all_counted world (event.Serve number ask_place given ∷ h) legal =
    let before = all_counted world h legal.0 in
    let may = legal.1 in
    let fewer = one_fewer ask_place (waiting_places h) (waits_there h ask_place may.posted may.made may.waits) in
    omega arith

pub no_more_serves : (world : World) (h : List Event) → Legal world h → serves_in h ≤ asks_in h
no_more_serves world h legal = let all = all_counted world h legal in omega arith
