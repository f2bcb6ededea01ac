-- The course of a call whose deed is done at its last name.
use Rattle.std.proofs.Common.{◌≡◌, ℕ, List, [], ◌∷◌, ◌++◌, Option, Some, None, Ok, refl, sym, ap, ◌∙◌}
use Rattle.inf_base.specs.declared.call.Call.{Call}
use Rattle.inf_base.specs.declared.call.Call.TheVariants as call
use Rattle.inf_duty.specs.declared.course.Course.{Course}
use Rattle.inf_duty.specs.declared.course.Deed.{Deed}
use Rattle.inf_duty.specs.Course.{course, course_at, course_in, split}
use Rattle.inf_duty.specs.Kept.{IsAtLast, deed_at}

split_last : (first : List ℕ) (way : List (List ℕ)) (last : List ℕ) → split first (way ++ last ∷ []) ≡ (first ∷ way, last)
split_last first [] last = refl
split_last first (next ∷ way) last = ap (λ (p : List (List ℕ) × List ℕ). (first ∷ p.0, p.1)) (split_last next way last)

at_last : (asked : Call) (way : List (List ℕ)) (last : List ℕ) → IsAtLast asked → course_at asked (Ok (way ++ last ∷ [])) ≡ course_in asked (way, last)
at_last (call.Rmdir path) way last is = absurd is
at_last asked [] last is = refl
at_last asked (first ∷ way) last is = ap (course_in asked) (split_last first way last)

abbrev by_deed : List (List ℕ) → Option Deed → Option Course
by_deed way None = None
by_deed way (Some what) = course way what

in_by_deed : (asked : Call) (way : List (List ℕ)) (last : List ℕ) → course_in asked (way, last) ≡ by_deed way (deed_at asked last)
in_by_deed (call.Create path mode) way last = refl
in_by_deed (call.Stat path) way last = refl
in_by_deed (call.Mkdir path mode) way last = refl
in_by_deed asked way last = refl

pub coursed : (asked : Call) (names way : List (List ℕ)) (last : List ℕ) (what : Deed) → IsAtLast asked → names ≡ way ++ last ∷ [] → deed_at asked last ≡ Some what → course way what ≡ course_at asked (Ok names)
coursed asked names way last what is split_is deed_is =
    sym (ap (λ ns. course_at asked (Ok ns)) split_is ∙ at_last asked way last is ∙ in_by_deed asked way last ∙ ap (by_deed way) deed_is)

-- nothing is done there
pub no_deed : (asked : Call) (names way : List (List ℕ)) (last : List ℕ) → IsAtLast asked → names ≡ way ++ last ∷ [] → deed_at asked last ≡ None → None ≡ course_at asked (Ok names)
no_deed asked names way last is split_is deed_is =
    sym (ap (λ ns. course_at asked (Ok ns)) split_is ∙ at_last asked way last is ∙ in_by_deed asked way last ∙ ap (by_deed way) deed_is)
