-- Lists of decided calls, one that replays and one that does not.
use Rattle.std.specs.Prelude.{List, [], ◌∷◌, codes}
use Rattle.inf_base.specs.declared.answer.Answer.{Answer}
use Rattle.inf_base.specs.declared.answer.Answer.TheVariants as answer
use Rattle.inf_base.specs.declared.call.Call.{Call}
use Rattle.inf_base.specs.declared.call.Call.TheVariants as call
use Rattle.inf_base.specs.declared.item.Kind.TheVariants as kind
use Rattle.inf_tree.specs.Replay.{Decided}
use Rattle.inf_tree.specs.Examples.{super}

abbrev pub so : Call → Answer → Decided
so c given = record { caller = super; call = c; answer = given }

-- a create that gave up leaves the name free, for a directory that is then there
abbrev pub given_up : List Decided
given_up =
    so (call.Create (codes "/a") 0o644) (answer.Again (record { client = 1; number = 1 }))
    ∷ so (call.Mkdir (codes "/a") 0o700) answer.Done
    ∷ so (call.Create (codes "/a") 0o644) answer.NoMemory
    ∷ so (call.Stat (codes "/a")) (answer.Stat kind.Dir (record { mode = 0o700; owner = 0; group = 0; length = 0 }))
    ∷ []

-- two calls cannot both make one name
abbrev pub made_twice : List Decided
made_twice = so (call.Mkdir (codes "/a") 0o700) answer.Done ∷ so (call.Create (codes "/a") 0o644) answer.Done ∷ []

-- a call that was left undecided is not one that gave up
abbrev pub undecided : List Decided
undecided = so (call.Stat (codes "/a")) answer.Unanswered ∷ []
