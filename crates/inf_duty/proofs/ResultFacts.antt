-- What the results of a client are in the end.
use Rattle.std.proofs.Common.{◌≡◌, ℕ, ◌<◌, List, [], ◌∷◌, ◌++◌, length, Option, None, refl, sym, ap, ◌∙◌, arith}
use Rattle.std.proofs.lemmas.List.{append_assoc, append-nil}
use Rattle.inf_base.specs.declared.answer.Answer.{Answer}
use Rattle.inf_base.specs.declared.answer.Answer.TheVariants as answer
use Rattle.inf_base.specs.declared.call.Call.{Call}
use Rattle.inf_duty.specs.Kept.{unserved}
use Rattle.inf_duty.specs.Outcome.{results_of, so_far, unanswered}
use Rattle.inf_message.specs.declared.ending.Ending.TheVariants as ending
use Rattle.inf_duty.specs.ClientState.{ClientState, Stage, act, compose, ended, rest_of, result_of, round, winds}
use Rattle.inf_message.specs.declared.call_result.CallResult.{CallResult}

so_far_apart : (x : Stage) (s : ClientState) (results : List CallResult) → so_far x (record s { results = results }) ≡ so_far x s
so_far_apart compose s results = refl
so_far_apart (round keys) s results = refl
so_far_apart (act flow) s results = refl
so_far_apart (winds (ending.Answers given place) m ms) s results = refl
so_far_apart (winds ending.Retries m ms) s results = refl

-- they rest on no result that there is already
unanswered_apart : (calls : List Call) (s : ClientState) (results : List CallResult) → unanswered calls (record s { results = results }) ≡ unanswered calls s
unanswered_apart [] s results = refl
unanswered_apart (next ∷ calls) s results =
    ap (λ one. one ∷ unanswered calls (ended answer.Unanswered None (record s { results = results }))) (so_far_apart s.stage s results)
    ∙ ap (λ more. so_far s.stage s ∷ more)
    (unanswered_apart calls (ended answer.Unanswered None s) (results ++ result_of answer.Unanswered None s.counts.last s ∷ []))

so_far_unserved : (x : Stage) (s : ClientState) → so_far x (unserved s) ≡ so_far x s
so_far_unserved compose s = refl
so_far_unserved (round keys) s = refl
so_far_unserved (act flow) s = refl
so_far_unserved (winds (ending.Answers given place) m ms) s = refl
so_far_unserved (winds ending.Retries m ms) s = refl

unanswered_unserved : (calls : List Call) (s : ClientState) → unanswered calls (unserved s) ≡ unanswered calls s
unanswered_unserved [] s = refl
unanswered_unserved (next ∷ calls) s =
    ap (λ one. one ∷ unanswered calls (ended answer.Unanswered None (unserved s))) (so_far_unserved s.stage s)
    ∙ ap (λ more. so_far s.stage s ∷ more)
    (unanswered_apart calls (ended answer.Unanswered None s) (s.results ++ result_of answer.Unanswered None None s ∷ []))

pub unserved_results : (s : ClientState) → results_of (unserved s) ≡ results_of s
unserved_results s = ap (λ more. s.results ++ more) (unanswered_unserved s.left s)

first_unanswered : (calls : List Call) (s : ClientState) → 0 < length calls → unanswered calls s ≡ so_far s.stage s ∷ unanswered (rest_of calls) (ended answer.Unanswered None s)
first_unanswered [] s some = absurd (omega arith)
first_unanswered (next ∷ calls) s some = refl

-- a call that ends with the answer that it has come to is the first of those that are left
pub ended_one : (s : ClientState) (given : Answer) (place : Option ℕ) → 0 < length s.left → s.counts.last ≡ None → so_far s.stage s ≡ result_of given place None s
    → results_of (ended given place s) ≡ results_of s
ended_one s given place some none come =
    ap (λ last. (s.results ++ result_of given place last s ∷ []) ++ unanswered (rest_of s.left) (ended given place s)) none
    ∙ ap (λ one. (s.results ++ one ∷ []) ++ unanswered (rest_of s.left) (ended given place s)) (sym come)
    ∙ ap (λ more. (s.results ++ so_far s.stage s ∷ []) ++ more)
    (unanswered_apart (rest_of s.left) (ended answer.Unanswered None s) (s.results ++ result_of given place s.counts.last s ∷ []))
    ∙ append_assoc s.results (so_far s.stage s ∷ []) (unanswered (rest_of s.left) (ended answer.Unanswered None s))
    ∙ ap (λ more. s.results ++ more) (sym (first_unanswered s.left s some))

pub ended_next : (s : ClientState) → 0 < length s.left → s.counts.last ≡ None → s.stage ≡ compose → results_of (ended answer.Unanswered None s) ≡ results_of s
ended_next s some none idle = ended_one s answer.Unanswered None some none (ap (λ x. so_far x s) idle)

-- where no call is left they are all there
pub all_results : (s : ClientState) → s.left ≡ [] → results_of s ≡ s.results
all_results s over = ap (λ calls. s.results ++ unanswered calls s) over ∙ append-nil s.results
