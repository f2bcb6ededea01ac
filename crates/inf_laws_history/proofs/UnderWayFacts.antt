-- A call that has something in hand at a place began before it, and ends behind it: its result tells so.
use Rattle.std.proofs.Common.{◌≡◌, ◌≢◌, ◌⊎◌, inl, inr, ℕ, zero, suc, ◌+◌, ◌<◌, ◌≤◌, nat_lt, Bool, true, false, cond, eqb, List, [], ◌∷◌, ◌++◌, length, Option, Some, None, IfSome, refl, sym, subst, ◌∙◌, ⊎_elim, arith}
use Rattle.std.specs.List.{Contains}
use Rattle.std.proofs.lemmas.Bool.{cases_eq}
use Rattle.std.proofs.lemmas.Bool.Decides.{nat_tests}
use Rattle.std.proofs.lemmas.List.Elements.{Contains-append_left, Contains-append_right, Contains-push}
use Rattle.inf_base.specs.declared.id.Id.{Id}
use Rattle.inf_base.specs.declared.answer.Answer.{Answer}
use Rattle.inf_base.specs.declared.answer.Answer.TheVariants as answer
use Rattle.inf_base.specs.declared.call.Call.{Call}
use Rattle.inf_base.specs.declared.caller.CallRef.{CallRef}
use Rattle.inf_base.specs.declared.entry.Entry.{Entry}
use Rattle.inf_base.specs.declared.setup.ClientLine.{ClientLine}
use Rattle.inf_duty.specs.After.{client_after}
use Rattle.inf_duty.specs.Duty.{asked, begun, given_up_in}
use Rattle.inf_duty.specs.Messages.{are_none}
use Rattle.inf_duty.specs.Outcome.{Agrees, OutcomeFrom, all_given_up, is_free, results_of, so_far, unanswered}
use Rattle.inf_duty.specs.World.{World}
use Rattle.inf_duty.proofs.BegunKept.{IsKept, if_both, kept_all_given_up, kept_begun}
use Rattle.inf_message.specs.declared.ending.Ending.TheVariants as ending
use Rattle.inf_message.specs.declared.turn.Turn.TheVariants as turn
use Rattle.inf_duty.specs.ClientState.{ClientState, Counts, Stage, act, call_ref, compose, ended, first_place, placed, result_of, round, winds, wound}
use Rattle.inf_duty.specs.Flow.{clean_up}
use Rattle.inf_duty.specs.Group.{composed_stage}
use Rattle.inf_duty.specs.declared.course.Deed.{Deed}
use Rattle.inf_duty.specs.declared.course.Deed.TheVariants as deed
use Rattle.inf_duty.specs.Course.{flow_at, next_course}
use Rattle.inf_duty.specs.Turn.{later_place, learned, served, told_in, turn_at, turned}
use Rattle.inf_message.specs.Who.{Who}
use Rattle.inf_message.specs.declared.ending.Ending.{Ending}
use Rattle.inf_message.specs.declared.turn.Turn.{Turn}
use Rattle.inf_laws_history.specs.Causes.{before}
use Rattle.inf_laws_history.specs.UnderWay.{IsAround}
use Rattle.inf_laws_history.proofs.ClientSteps.{Lasts, by_answer, lasts_kept, recorded_in, served_lasts}
use Rattle.inf_laws_history.proofs.DrivenFacts.{others_stay}
use Rattle.inf_laws_history.proofs.Numbered.{so_far_call}
use Rattle.inf_laws_history.proofs.ResultCauses.{before_all, before_stays}
use Rattle.inf_laws_history.proofs.Turns.{by_next, kept_place}
use Rattle.inf_message.specs.declared.ask.Ask.{Ask}
use Rattle.inf_message.specs.declared.call_result.CallResult.{CallResult}
use Rattle.inf_message.specs.declared.event.Event.{Event}
use Rattle.inf_message.specs.declared.event.Event.TheVariants as event
use Rattle.inf_message.specs.declared.reply.Reply.{Reply}
use Rattle.inf_message.specs.declared.step.Message.{Message}
use Rattle.inf_message.specs.History.{Posted, Told, asked_at, event_at, told_reply}
use Rattle.inf_message.proofs.HistoryLaws.{event_within}

-- ---- a client from the place on

-- the call is over, and was so around the place
pub record IsPast (call : CallRef) (place : ℕ) (s : ClientState) : Type 0 where
  pub result : CallResult
  pub inside : Contains s.results result
  pub own : result.call ≡ call
  pub around : IsAround place result

-- the first Ask of the call under way stands before the place
pub record BeganBefore (place : ℕ) (counts : Counts) : Type 0 where
  pub first : ℕ
  pub is : counts.first ≡ Some first
  pub less : first < place

-- its last Serve behind it
pub record ServedBehind (place : ℕ) (counts : Counts) : Type 0 where
  pub last : ℕ
  pub is : counts.last ≡ Some last
  pub less : place < last

-- the call is under way; it does not end without a Serve more, or had one
pub record IsGoing (call : CallRef) (place : ℕ) (s : ClientState) : Type 0 where
  pub is : call_ref s ≡ call
  pub left : 0 < length s.left
  pub began : BeganBefore place s.counts
  pub holds : (is_free s.who s.stage ≡ false) ⊎ ServedBehind place s.counts

abbrev pub IsMet : CallRef → ℕ → ClientState → Type 0
IsMet call place s = IsPast call place s ⊎ IsGoing call place s

module _ (digest : List ℕ → Id) (call : CallRef) (place : ℕ) where
  abbrev pub Met : ClientState → Type 0
  Met s = IsMet call place s

  later_if : (last : Option ℕ) (at : ℕ) → last ≡ Some at → place < at → IfSome last (λ l. place < l)
  later_if None at is less = tt
  later_if (Some other) at is less = let same : other ≡ at = cc in omega (arith, same, less)

  ends_around : (given : Answer) (at : Option ℕ) (s : ClientState) → call_ref s ≡ call → BeganBefore place s.counts → ServedBehind place s.counts → Met (ended given at s)
  ends_around given at s is began served_it = inl (record {
    result = result_of given at s.counts.last s;
    inside = Contains-push s.results (result_of given at s.counts.last s);
    own = is;
    around = record { first = began.first; began = began.is; earlier = began.less; later = later_if s.counts.last served_it.last served_it.is served_it.less };
  })

  past_lasts : Lasts digest (λ s. IsPast call place s)
  past_lasts = record {
    composing = λ s is. record { result = is.result; inside = is.inside; own = is.own; around = is.around };
    ending = λ given at s is. record {
      result = is.result;
      inside = Contains-append_left s.results (result_of given at s.counts.last s ∷ []) is.result is.inside;
      own = is.own;
      around = is.around;
    };
    again = λ s is. record { result = is.result; inside = is.inside; own = is.own; around = is.around };
    going_on = λ next s is. record { result = is.result; inside = is.inside; own = is.own; around = is.around };
    learning = λ known s is. record { result = is.result; inside = is.inside; own = is.own; around = is.around };
  }

  -- ---- before a group

  -- a flow begins with nothing to clean up
  flow_free : (who : Who) (what : Deed) (chain : List Entry) (left : List (List ℕ)) → is_free who (act (flow_at what chain left)) ≡ true
  flow_free who (deed.Create name mode) chain [] = refl
  flow_free who (deed.Stat name) chain [] = refl
  flow_free who (deed.Mkdir name mode) chain [] = refl
  flow_free who deed.Rmdir chain [] = refl
  flow_free who deed.Rmdir chain (name ∷ []) = refl
  flow_free who deed.Rmdir chain (name ∷ next ∷ rest) = refl
  flow_free who (deed.Create last mode) chain (name ∷ rest) = refl
  flow_free who (deed.Stat last) chain (name ∷ rest) = refl
  flow_free who (deed.Mkdir last mode) chain (name ∷ rest) = refl

  composed_free : (s : ClientState) (stage : Stage) → is_free s.who (composed_stage digest s stage) ≡ is_free s.who stage
  composed_free s compose =
      by_next (λ (next : Stage). is_free s.who next ≡ true) digest s.who s.known (next_course s.left) refl (λ keys. refl)
      (λ course old new leads. flow_free s.who course.deed old.chain old.left)
  composed_free s (round keys) = refl
  composed_free s (act flow) = refl
  composed_free s (winds end ms later) = refl

  composed_met : (s : ClientState) → Met s → Met (record s { stage = composed_stage digest s s.stage })
  composed_met s (inl past) = inl (past_lasts.composing s past)
  composed_met s (inr going) = inr (record {
    is = going.is;
    left = going.left;
    began = going.began;
    holds = ⊎_elim (λ holds. inl (composed_free s s.stage ∙ holds)) (λ behind. inr behind) going.holds;
  })

  -- where nothing has to be cleaned up, a Serve came behind the place
  behind_if : (s : ClientState) (free : Bool) → free ≡ true → (free ≡ false) ⊎ ServedBehind place s.counts → ServedBehind place s.counts
  behind_if s free is (inl holds) = absurd cc
  behind_if s free is (inr behind) = behind

  cleans_up : (s : ClientState) (more : List (List Message)) → IsGoing call place s → (are_none more ≡ false) ⊎ ServedBehind place s.counts
      → Met (wound (ending.Answers answer.NoMemory None) more s)
  cleans_up s [] going holds = ends_around answer.NoMemory None s going.is going.began (behind_if s true refl holds)
  cleans_up s (m ∷ ms) going holds = inr (record { is = going.is; left = going.left; began = going.began; holds = inl refl })

  given_up_going : (s : ClientState) (stage : Stage) → IsGoing call place s → (is_free s.who stage ≡ false) ⊎ ServedBehind place s.counts → Met (given_up_in s stage)
  given_up_going s (act flow) going holds = cleans_up s (clean_up s.who flow) going holds
  given_up_going s (winds end ms later) going holds = inr going
  given_up_going s compose going holds = ends_around answer.NoMemory None s going.is going.began (behind_if s true refl holds)
  given_up_going s (round keys) going holds = ends_around answer.NoMemory None s going.is going.began (behind_if s true refl holds)

  given_up_met : (s : ClientState) → Met s → Met (given_up_in s s.stage)
  given_up_met s (inl past) = inl ((lasts_kept digest (λ (t : ClientState). IsPast call place t) past_lasts).giving_up s past)
  given_up_met s (inr going) = given_up_going s s.stage going going.holds

  kept : IsKept digest Met
  kept = record { composing = composed_met; giving_up = given_up_met }

  began_still : (first : Option ℕ) (at now : ℕ) → first ≡ Some at → first_place first now ≡ Some at
  began_still None at now is = absurd cc
  began_still (Some first) at now is = is

  placed_met : (now : ℕ) (s : ClientState) → Met s → Met (placed now s)
  placed_met now s (inl past) = inl (record { result = past.result; inside = past.inside; own = past.own; around = past.around })
  placed_met now s (inr going) = inr (record {
    is = going.is;
    left = going.left;
    began = record { first = going.began.first; is = began_still s.counts.first going.began.first now going.began.is; less = going.began.less };
    holds = ⊎_elim (λ holds. inl holds) (λ behind. inr (record { last = behind.last; is = behind.is; less = behind.less })) going.holds;
  })

  asked_met : (now : ℕ) (ask : Ask) (s : ClientState) → Met s → Met (asked digest now ask s)
  asked_met now ask s met = placed_met now (begun digest ask s.sent s) (kept_begun digest Met kept ask s.sent s met)

  -- ---- after a group

  wound_met : (end : Ending) (more : List (List Message)) (s : ClientState) → call_ref s ≡ call → 0 < length s.left → BeganBefore place s.counts
      → ServedBehind place s.counts → Met (wound end more s)
  wound_met (ending.Answers given at) [] s is left began behind = ends_around given at s is began behind
  wound_met ending.Retries [] s is left began behind = inr (record {
    is = is;
    left = left;
    began = record { first = began.first; is = began.is; less = began.less };
    holds = inr (record { last = behind.last; is = behind.is; less = behind.less });
  })
  wound_met end (ms ∷ later) s is left began behind = inr (record { is = is; left = left; began = began; holds = inl refl })

  turned_met : (t : Turn Stage) (s : ClientState) → call_ref s ≡ call → 0 < length s.left → BeganBefore place s.counts → ServedBehind place s.counts → Met (turned t s)
  turned_met (turn.GoesOn next) s is left began behind = inr (record { is = is; left = left; began = began; holds = inr behind })
  turned_met (turn.WindsUp end more) s is left began behind = wound_met end more s is left began behind

  over_met : (stage : Stage) (s : ClientState) → call_ref s ≡ call → 0 < length s.left → BeganBefore place s.counts → ServedBehind place s.counts
      → Met (turned (turn_at digest (learned stage s) stage) (learned stage s))
  over_met compose s is left began behind = turned_met (turn_at digest s compose) s is left began behind
  over_met (round keys) s is left began behind =
      let t : ClientState = learned (round keys) s in turned_met (turn_at digest t (round keys)) t is left began behind
  over_met (act flow) s is left began behind = turned_met (turn_at digest s (act flow)) s is left began behind
  over_met (winds end ms later) s is left began behind = turned_met (turn_at digest s (winds end ms later)) s is left began behind

  later_one : (last : Option ℕ) (at : ℕ) → place < at → (l : ℕ) × (later_place last at ≡ Some l) × (place < l)
  later_one None at less = (at, refl, less)
  later_one (Some earlier) at less = by (nat_lt earlier at) refl
    where
      by : (b : Bool) → nat_lt earlier at ≡ b → (l : ℕ) × (Some (cond b at earlier) ≡ Some l) × (place < l)
      by true is = (at, refl, less)
      by false is = (earlier, refl, grind (arith, nat_tests))

  behind_now : (ask_place : ℕ) (told : Told) (s : ClientState) → place < told.serve_place → ServedBehind place (recorded_in ask_place told s).counts
  behind_now ask_place told s less =
      let one = later_one s.counts.last (told_in s told).serve_place (omega (arith, less, kept_place s told)) in
      record { last = one.0; is = one.1; less = one.2 }

  served_met : (ask_place : ℕ) (told : Told) (s : ClientState) → place < told.serve_place → Met s → Met (served digest ask_place told s)
  served_met ask_place told s less (inl past) =
      inl (served_lasts digest (λ (t : ClientState). IsPast call place t) past_lasts
      (λ at answer t is. record { result = is.result; inside = is.inside; own = is.own; around = is.around }) ask_place told s past)
  served_met ask_place told s less (inr going) =
      let began : BeganBefore place (recorded_in ask_place told s).counts = record { first = going.began.first; is = going.began.is; less = going.began.less } in
      by_answer digest Met ask_place told s
      (λ apart. inr going)
      (λ here on. inr (record { is = going.is; left = going.left; began = began; holds = inr (behind_now ask_place told s less) }))
      (λ here over. over_met s.stage (recorded_in ask_place told s) going.is going.left began (behind_now ask_place told s less))

  -- ---- its result

  pub record HasResult (results : List CallResult) : Type 0 where
    pub result : CallResult
    pub inside : Contains results result
    pub own : result.call ≡ call
    pub around : IsAround place result

  so_far_around : (stage : Stage) (s : ClientState) → BeganBefore place s.counts → IsAround place (so_far stage s)
  so_far_around (winds (ending.Answers given at) m ms) s began = record { first = began.first; began = began.is; earlier = began.less; later = tt }
  so_far_around (winds ending.Retries m ms) s began = record { first = began.first; began = began.is; earlier = began.less; later = tt }
  so_far_around compose s began = record { first = began.first; began = began.is; earlier = began.less; later = tt }
  so_far_around (round keys) s began = record { first = began.first; began = began.is; earlier = began.less; later = tt }
  so_far_around (act flow) s began = record { first = began.first; began = began.is; earlier = began.less; later = tt }

  going_result : (left : List Call) (s : ClientState) → 0 < length left → call_ref s ≡ call → BeganBefore place s.counts → HasResult (unanswered left s)
  going_result [] s some is began = absurd (omega (arith, some))
  going_result (next ∷ calls) s some is began = record {
    result = so_far s.stage s;
    inside = (zero, omega arith, refl);
    own = so_far_call s.stage s ∙ is;
    around = so_far_around s.stage s began;
  }

  results_have : (s : ClientState) → Met s → HasResult (results_of s)
  results_have s (inl past) =
      record { result = past.result; inside = Contains-append_left s.results (unanswered s.left s) past.result past.inside; own = past.own; around = past.around }
  results_have s (inr going) =
      let one = going_result s.left s going.left going.is going.began in
      record { result = one.result; inside = Contains-append_right s.results (unanswered s.left s) one.result one.inside; own = one.own; around = one.around }

  agreeing_have : (s : ClientState) (mine : List CallResult) → Met s → Agrees s mine → HasResult mine
  agreeing_have s mine met agrees =
      ⊎_elim
      (λ (same : mine ≡ results_of s). subst HasResult (sym same) (results_have s met))
      (λ (gave : (s.sent ≡ []) × (mine ≡ results_of (all_given_up s.left s))).
      subst HasResult (sym gave.1) (results_have (all_given_up s.left s) (kept_all_given_up digest Met kept s.left s met)))
      agrees

  in_first : (first later : List CallResult) → HasResult first → HasResult (first ++ later)
  in_first first later has = record { result = has.result; inside = Contains-append_left first later has.result has.inside; own = has.own; around = has.around }

  in_later : (first later : List CallResult) → HasResult later → HasResult (first ++ later)
  in_later first later has = record { result = has.result; inside = Contains-append_right first later has.result has.inside; own = has.own; around = has.around }

  pub outcome_has : (world : World) (h : List Event) (client at : ℕ) (lines : List ClientLine) (results : List CallResult) → OutcomeFrom world h at lines results
      → at ≤ client → client < at + length lines → Met (client_after world client h) → HasResult results
  outcome_has world h client at [] results out from within met = absurd (omega (arith, from, within))
  outcome_has world h client at (line ∷ lines) results out from within met =
      subst HasResult (sym out.all)
      (⊎_elim
      (λ (same : client ≡ at). in_first out.mine out.others (agreeing_have (client_after world at h) out.mine (subst (λ c. Met (client_after world c h)) same met) out.agrees))
      (λ (unlike : client ≢ at).
      in_later out.mine out.others (outcome_has world h client (at + 1) lines out.others out.later (omega (arith, from, unlike)) (omega (arith, within)) met))
      (cases_eq client at))

-- ---- histories

pub before_shorter : (place : ℕ) (h : List Event) → 1 ≤ place → length (before place h) < place
before_shorter place [] counted = counted
before_shorter place (e ∷ h) counted = by (nat_lt (suc (length h)) place) refl (before_shorter place h counted)
  where
    by : (b : Bool) → nat_lt (suc (length h)) place ≡ b → length (before place h) < place → length (cond b (e ∷ h) (before place h)) < place
    by true is shorter = grind (arith, nat_tests)
    by false is shorter = shorter

module _ (world : World) (call : CallRef) (place number ask_place : ℕ) (given : Reply) (posted : Posted) (unlike : posted.ask.from.client ≢ call.client) where
  abbrev pub IsAt : List Event → Type 0
  IsAt h = event_at place h ≡ Some (event.Serve number ask_place given)

  one_more : (e : Event) (h : List Event) → place ≤ length h → IsMet call place (client_after world call.client h)
      → IsMet call place (client_after world call.client (e ∷ h))
  one_more (event.Ask n ask) h within met =
      if_both (IsMet call place) (eqb ask.from.client call.client) _ _ (asked_met world.digest call place (suc (length h)) ask (client_after world call.client h) met) met
  one_more (event.Serve n p r) h within met =
      served_met world.digest call place p (told_reply (suc (length h)) r) (client_after world call.client h) (omega (arith, within)) met

  newest : (e : Event) (h : List Event) → IsAt (e ∷ h) → place ≡ suc (length h) → e ≡ event.Serve number ask_place given
  newest e h at same = by (eqb place (suc (length h))) (grind (arith, nat_tests, same)) at
    where
      by : (b : Bool) → b ≡ true → cond b (Some e) (event_at place h) ≡ Some (event.Serve number ask_place given) → e ≡ event.Serve number ask_place given
      by true is found = cc
      by false is found = absurd cc

  -- a client that is met just before the place is met from then on
  pub met_after : (h : List Event) → 1 ≤ place → IsAt h → asked_at ask_place (before place h) ≡ Some posted
      → IsMet call place (client_after world call.client (before place h)) → IsMet call place (client_after world call.client h)
  met_after [] counted at asked_it met = absurd cc
  met_after (e ∷ h) counted at asked_it met =
      ⊎_elim
      (λ (same : place ≡ suc (length h)).
      let is : e ≡ event.Serve number ask_place given = newest e h at same in
      let all : before place (e ∷ h) ≡ h = before_stays place e h (omega (arith, same)) ∙ before_all place h (omega (arith, same)) in
      let there : asked_at ask_place h ≡ Some posted = subst (λ g. asked_at ask_place g ≡ Some posted) all asked_it in
      subst (λ (x : Event). IsMet call place (client_after world call.client (x ∷ h))) (sym is)
      (subst (IsMet call place) (sym (others_stay world h call.client number ask_place given posted there unlike))
      (subst (λ g. IsMet call place (client_after world call.client g)) all met)))
      (λ (apart : place ≢ suc (length h)).
      let within = (event_within place (event.Serve number ask_place given) (e ∷ h) at).within in
      let less : place ≤ length h = omega (arith, within, apart) in
      let stays : before place (e ∷ h) ≡ before place h = before_stays place e h (omega (arith, less)) in
      one_more e h less
      (met_after h counted (older e h at apart) (subst (λ g. asked_at ask_place g ≡ Some posted) stays asked_it)
      (subst (λ g. IsMet call place (client_after world call.client g)) stays met)))
      (cases_eq place (suc (length h)))
    where
      older : (e : Event) (h : List Event) → IsAt (e ∷ h) → place ≢ suc (length h) → IsAt h
      older e h at apart = by (eqb place (suc (length h))) (grind (arith, nat_tests, apart)) at
        where
          by : (b : Bool) → b ≡ false → cond b (Some e) (event_at place h) ≡ Some (event.Serve number ask_place given) → IsAt h
          by true is found = cc
          by false is found = found
