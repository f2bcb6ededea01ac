-- What comes of the answers to a group.
use Rattle.std.proofs.Common.{◌≡◌, ℕ, ◌<◌, ◌&&◌, ◌||◌, if◌then◌else◌, eqb, Bool, true, false, cond, not, List, [], ◌∷◌, ◌++◌, length, map, Option, None, Some, is_some, refl, sym, ap, ◌∙◌, subst, arith}
use Rattle.std.proofs.lemmas.Bool.Decides.{nat_tests}
use Rattle.std.proofs.lemmas.List.{length-map}
use Rattle.std.specs.List.{list_all}
use Rattle.inf_base.specs.declared.answer.Answer.TheVariants as answer
use Rattle.inf_base.specs.declared.id.Id.{Id}
use Rattle.inf_base.specs.declared.key.LookKey.{LookKey}
use Rattle.inf_duty.specs.Kept.{IsOpenAlone}
use Rattle.inf_duty.proofs.FlowFacts.{after_is}
use Rattle.inf_duty.specs.Messages.{has_one_message}
use Rattle.inf_duty.specs.Tally.{with_serve}
use Rattle.inf_message.specs.declared.ending.Ending.TheVariants as ending
use Rattle.inf_message.specs.declared.turn.Turn.TheVariants as turn
use Rattle.inf_duty.specs.ClientState.{ClientState, Stage, act, compose, is_round, round, winds}
use Rattle.inf_duty.specs.Flow.{after_act, after_reply}
use Rattle.inf_duty.specs.Group.{group}
use Rattle.inf_duty.specs.Course.{next_course}
use Rattle.inf_duty.specs.Turn.{after_group, after_record, heard_in, is_complete, is_lone, known_turn, learned, recorded, round_turn, served, settled, told_by, told_in, turn_at, turn_by, turned}
use Rattle.inf_duty.specs.declared.course.Course.{Course}
use Rattle.inf_duty.specs.declared.flow.Flow.{Flow}
use Rattle.inf_message.specs.declared.reply.Reply.{Reply}
use Rattle.inf_message.specs.Heard.{heard, light}
use Rattle.inf_message.specs.Sent.{Sent, deciding, has_place, is_told, is_wanting, told_at}
use Rattle.inf_message.specs.Turn.{after_deciding, again, ends}
use Rattle.inf_message.specs.Who.{Who}
use Rattle.inf_message.specs.declared.turn.Turn.{Turn}
use Rattle.inf_message.specs.History.{Told, or_told}
use Rattle.inf_resolve.specs.declared.known.Known.{Known}
use Rattle.inf_resolve.specs.declared.resolved.Resolved.{Resolved}
use Rattle.inf_resolve.specs.declared.resolved.Resolved.TheVariants as comes
use Rattle.inf_resolve.specs.declared.resolved.Verdict.{Verdict}
use Rattle.inf_resolve.specs.declared.resolved.Verdict.TheVariants as verdict
use Rattle.inf_resolve.specs.Resolved.{resolved, verdict_of}

-- what a turn leaves does not rest on the group that is over
pub turned_afresh : (t : Turn Stage) (s : ClientState) (x y : Stage) (xs ys : List Sent)
    → turned t (record s { stage = x; sent = xs }) ≡ turned t (record s { stage = y; sent = ys })
turned_afresh (turn.GoesOn next) s x y xs ys = refl
turned_afresh (turn.WindsUp (ending.Answers given place) []) s x y xs ys = refl
turned_afresh (turn.WindsUp ending.Retries []) s x y xs ys = refl
turned_afresh (turn.WindsUp end (ms ∷ later)) s x y xs ys = refl

-- ---- a group of one message

turn_at_one : (after : ℕ → ℕ → Reply → Turn Flow) (p place : ℕ) (told : Told) (b : Bool) → eqb p place ≡ b → b || false ≡ true
    → after_deciding after (deciding (cond b (record { place = p; told = Some told }) (record { place = p; told = None }) ∷ [])) ≡ after place told.serve_place told.reply
turn_at_one after p place told true same here =
    let is : p ≡ place = grind (arith, nat_tests) in
    ap (λ at. after at told.serve_place told.reply) is
turn_at_one after p place told false same here = absurd (cc)

lone_turn : (after : ℕ → ℕ → Reply → Turn Flow) (place : ℕ) (told : Told) (sent : List Sent) → length sent ≡ 1 → has_place place sent ≡ true
    → ((x : Sent) → sent ≡ x ∷ [] → x.told ≡ None) → after_deciding after (deciding (map (told_at place told) sent)) ≡ after place told.serve_place told.reply
lone_turn after place told [] one here untold = absurd (omega (arith, one))
lone_turn after place told (x ∷ []) one here untold =
    subst (λ t. after_deciding after (deciding ((if eqb x.place place then record { place = x.place; told = Some (or_told t told) } else record { place = x.place; told = t }) ∷ [])) ≡ after place told.serve_place told.reply)
    (sym (untold x refl)) (turn_at_one after x.place place told (eqb x.place place) refl here)
lone_turn after place told (x ∷ y ∷ sent) one here untold = absurd (omega (arith, one))

-- its one answer decides
pub alone_turn : (digest : List ℕ → Id) (who : Who) (stage : Stage) (step : Flow) (place : ℕ) (told : Told) (sent : List Sent) → length sent ≡ 1 → has_place place sent ≡ true
    → has_one_message who stage ≡ true → IsOpenAlone who stage sent
    → after_act digest who step (map (told_at place told) sent) ≡ after_reply digest who step place told.serve_place told.reply
alone_turn digest who stage step place told sent one here single alone =
    after_is digest who step (map (told_at place told) sent)
    ∙ lone_turn (after_reply digest who step) place told sent one here (λ x is. alone.untold x is single)

first_of : (a b : Bool) → a && b ≡ true → a ≡ true
first_of true b is = refl
first_of false b is = absurd (cc)

second_of : (a b : Bool) → a && b ≡ true → b ≡ true
second_of true b is = is
second_of false b is = absurd (cc)

told_one : (x : Sent) (place : ℕ) (told : Told) (b : Bool) → b || false ≡ true → is_told (cond b (record x { told = Some (or_told x.told told) }) x) ≡ true
told_one x place told true here = refl
told_one x place told false here = absurd (cc)

one_told : (place : ℕ) (told : Told) (sent : List Sent) → length sent ≡ 1 → has_place place sent ≡ true → list_all is_told (map (told_at place told) sent) ≡ true
one_told place told [] one here = absurd (omega arith)
one_told place told (x ∷ []) one here = rw (told_one x place told (eqb x.place place) here) refl
one_told place told (x ∷ y ∷ sent) one here = absurd (omega arith)

size_one : (who : Who) (next : Stage) → has_one_message who next ≡ true → length (group who next) ≡ 1
size_one who next one =
    let same : eqb (length (group who next)) 1 ≡ true = second_of (not (is_round next)) (eqb (length (group who next)) 1) one in
    grind (arith, nat_tests)

both : (a b : Bool) → a ≡ true → b ≡ true → a && b ≡ true
both a b first second = rw (first, second) refl

same_nat : (n m : ℕ) → n ≡ m → eqb n m ≡ true
same_nat n m same = grind (arith, nat_tests)

-- and ends the group
pub alone_complete : (place : ℕ) (told : Told) (s : ClientState) → length s.sent ≡ 1 → has_place place s.sent ≡ true → has_one_message s.who s.stage ≡ true → is_complete (recorded place told s) ≡ true
alone_complete place told s alone here one =
    both (eqb (length (map (told_at place told) s.sent)) (length (group s.who s.stage))) (list_all is_told (map (told_at place told) s.sent))
    (same_nat _ _ (length-map s.sent (told_at place told) ∙ alone ∙ sym (size_one s.who s.stage one)))
    (one_told place told s.sent alone here)

-- a group that is no round tells no key
one_learned : (x : Stage) (s : ClientState) → has_one_message s.who x ≡ true → learned x s ≡ s
one_learned compose s one = refl
one_learned (round keys) s one = absurd cc
one_learned (act step) s one = refl
one_learned (winds end ms later) s one = refl

lone : (s : ClientState) → length s.sent ≡ 1 → has_one_message s.who s.stage ≡ true → is_lone s ≡ true
lone s alone one = both (has_one_message s.who s.stage) (eqb (length s.sent) 1) one (same_nat (length s.sent) 1 alone)

lone_told : (s : ClientState) (told : Told) (b : Bool) → b ≡ true → (if b then told else record told { reply = heard_in s.stage told.reply }) ≡ told
lone_told s told true is = refl
lone_told s told false is = absurd cc

pub served_alone : (digest : List ℕ → Id) (place : ℕ) (told : Told) (s : ClientState) → length s.sent ≡ 1 → has_place place s.sent ≡ true → has_one_message s.who s.stage ≡ true
    → served digest place told s ≡ turned (turn_at digest (recorded place told s) s.stage) (recorded place told s)
served_alone digest place told s alone here one =
    ap (λ (t : Told). if has_place place s.sent then after_record digest (recorded place t s) else s) (lone_told s told (is_lone s) (lone s alone one))
    ∙ ap (λ b. if b then settled digest (is_complete (recorded place told s)) (recorded place told s) else s) here
    ∙ ap (λ b. settled digest b (recorded place told s)) (alone_complete place told s alone here one)
    ∙ ap (λ (u : ClientState). turned (turn_at digest u s.stage) u) (one_learned s.stage (recorded place told s) one)

pub alone_ends : (digest : List ℕ → Id) (s mid new : ClientState) (t : Turn Stage) (place : ℕ) (told : Told) → length s.sent ≡ 1 → has_place place s.sent ≡ true → has_one_message s.who s.stage ≡ true
    → t ≡ turn_at digest (recorded place told s) s.stage → mid ≡ record s { stage = compose; sent = []; counts = with_serve told.serve_place s.counts }
    → new ≡ turned t mid → new ≡ served digest place told s
alone_ends digest s mid new t place told alone here one comes between after =
    after ∙ ap (turned t) between
    ∙ turned_afresh t (record s { counts = with_serve told.serve_place s.counts }) compose s.stage [] (map (told_at place told) s.sent)
    ∙ ap (λ (u : Turn Stage). turned u (recorded place told s)) comes
    ∙ sym (served_alone digest place told s alone here one)

-- ---- a round

no_group : (sent : List Sent) → (0 < length sent) → eqb (length sent) 0 ≡ true → ⊥
no_group sent some none = let is : length sent ≡ 0 = grind (arith, nat_tests) in omega arith

-- between two groups none is over
pub over_is_settled : (s : ClientState) → is_complete s ≡ true → 0 < length s.sent → s.stage ≡ compose → ⊥
over_is_settled s complete some between =
    no_group s.sent some
    (ap (λ (x : Stage). eqb (length s.sent) (length (group s.who x))) (sym between)
    ∙ first_of (eqb (length s.sent) (length (group s.who s.stage))) (list_all is_told s.sent) complete)

pub some_sent : (place : ℕ) (sent : List Sent) → has_place place sent ≡ true → 0 < length sent
some_sent place [] here = absurd (cc)
some_sent place (x ∷ sent) here = omega arith

-- what comes of a round that is over, by the verdict on what is known then
abbrev pub turn_of : Verdict → Turn Stage
turn_of verdict.GoesOn = turn.GoesOn compose
turn_of (verdict.IsBusy by place) = ends (answer.Again by) place
turn_of verdict.Lacks = again

turn_is : (r : Resolved) → turn_by r ≡ turn_of (verdict_of r)
turn_is (comes.Asks keys) = refl
turn_is (comes.Leads old names) = refl
turn_is (comes.IsBusy by place) = refl
turn_is comes.Lacks = refl

course_turn : (digest : List ℕ → Id) (who : Who) (known : List Known) (course : Option Course) (v : Verdict) → is_some course ≡ true
    → ((d : List ℕ → Id) (root : Id) (way : Course) → course ≡ Some way → v ≡ verdict_of (resolved d root way.looked known))
    → known_turn digest who known course ≡ turn_of v
course_turn digest who known None v some tells = absurd cc
course_turn digest who known (Some way) v some tells = turn_is (resolved digest who.root way.looked known) ∙ ap turn_of (sym (tells digest who.root way refl))

pub round_over : (digest : List ℕ → Id) (s : ClientState) (keys : List LookKey) (known : List Known) (course : Option Course) (v : Verdict) → s.stage ≡ round keys
    → is_wanting s.sent ≡ false → known ≡ s.known ++ told_by keys s.sent → is_some course ≡ true → course ≡ next_course s.left
    → ((d : List ℕ → Id) (root : Id) (way : Course) → course ≡ Some way → v ≡ verdict_of (resolved d root way.looked known))
    → after_group digest s ≡ turned (turn_of v) (record s { known = known })
round_over digest s keys known course v at calm is some fits tells =
    ap (λ (x : Stage). turned (turn_at digest (learned x s) x) (learned x s)) at
    ∙ ap (λ (ks : List Known). turned (round_turn digest (record s { known = ks })) (record s { known = ks })) (sym is)
    ∙ ap (λ b. turned (if b then turn.WindsUp (ending.Answers answer.NoMemory None) [] else known_turn digest s.who known (next_course s.left)) (record s { known = known })) calm
    ∙ ap (λ (c : Option Course). turned (known_turn digest s.who known c) (record s { known = known })) (sym fits)
    ∙ ap (λ (t : Turn Stage). turned t (record s { known = known })) (course_turn digest s.who known course v some tells)

-- ---- answers that are kept

served_as : (digest : List ℕ → Id) (place : ℕ) (told kept : Told) (s : ClientState) → has_place place s.sent ≡ true → told_in s told ≡ kept
    → served digest place told s ≡ after_record digest (recorded place kept s)
served_as digest place told kept s here is =
    ap (λ b. if b then after_record digest (recorded place (told_in s told) s) else s) here
    ∙ ap (λ (t : Told). after_record digest (recorded place t s)) is

told_in_round : (s : ClientState) (told : Told) (x : Stage) → is_round x ≡ true
    → (if has_one_message s.who x && eqb (length s.sent) 1 then told else record told { reply = heard_in x told.reply }) ≡ record told { reply = heard told.reply }
told_in_round s told compose is = absurd cc
told_in_round s told (round keys) is = refl
told_in_round s told (act step) is = absurd cc
told_in_round s told (winds end ms later) is = absurd cc

-- of a lookup
pub lookup_told : (digest : List ℕ → Id) (place : ℕ) (told : Told) (s : ClientState) → has_place place s.sent ≡ true → is_round s.stage ≡ true
    → served digest place told s ≡ after_record digest (recorded place (record told { reply = heard told.reply }) s)
lookup_told digest place told s here is = served_as digest place told _ s here (told_in_round s told s.stage is)

light_heard : (x : Stage) (given : Reply) → is_round x ≡ false → heard_in x given ≡ light given
light_heard compose given is = refl
light_heard (round keys) given is = absurd cc
light_heard (act step) given is = refl
light_heard (winds end ms later) given is = refl

told_unless : (b : Bool) (told kept : Told) → b ≡ false → (if b then told else kept) ≡ kept
told_unless true told kept is = absurd cc
told_unless false told kept is = refl

-- of a message that was sent with others
pub other_told : (digest : List ℕ → Id) (place : ℕ) (told : Told) (s : ClientState) → has_place place s.sent ≡ true → is_round s.stage ≡ false → is_lone s ≡ false
    → served digest place told s ≡ after_record digest (recorded place (record told { reply = light told.reply }) s)
other_told digest place told s here is others =
    served_as digest place told _ s here
    (told_unless (is_lone s) told (record told { reply = heard_in s.stage told.reply }) others
    ∙ ap (λ (given : Reply). record told { reply = given }) (light_heard s.stage told.reply is))
