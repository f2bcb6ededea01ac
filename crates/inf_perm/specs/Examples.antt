-- Who may do what, by example.
use Rattle.std.specs.Prelude.{ℕ, Bool, List, [], ◌∷◌}
use Rattle.inf_perm.specs.declared.want.Want.{Want}
use Rattle.inf_perm.specs.declared.want.Want.TheVariants as want
use Rattle.inf_perm.specs.Classes.{may}

-- an object of user 7 and group 70
abbrev pub may_here : ℕ → ℕ → ℕ → Want → Bool
may_here mode uid gid want = may mode 7 70 (record { uid = uid; gid = gid }) want

abbrev pub answers : List Bool
answers =
    may_here 0o077 7 70 want.Read
    ∷ may_here 0o707 8 70 want.Write
    ∷ may_here 0o770 8 80 want.Search
    ∷ may_here 0o400 7 80 want.Read
    ∷ may_here 0o020 8 70 want.Write
    ∷ may_here 0o001 8 80 want.Search
    ∷ may_here 0o000 0 80 want.Write
    ∷ []
