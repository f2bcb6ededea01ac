-- Who may do what: a mode has three bits for each of three classes of callers.
use Rattle.std.specs.Prelude.{ℕ, ◌/◌, ◌%◌, Bool, ◌||◌, ◌==◌, if◌then◌else◌}
use Rattle.inf_base.specs.declared.caller.Caller.{Caller}
use Rattle.inf_perm.specs.declared.want.Want.{Want}
use Rattle.inf_perm.specs.declared.want.Want.TheVariants as want

-- the bits of the caller's class alone: the owner's, else the group's, else the others'
abbrev pub class_bits : ℕ → ℕ → ℕ → Caller → ℕ
class_bits mode owner group caller =
    if caller.uid == owner then mode / 64 % 8 else (if caller.gid == group then mode / 8 % 8 else mode % 8)

-- read is the first of the three bits, write the second, search the third, which is execute
abbrev pub grants : ℕ → Want → Bool
grants bits want.Read = bits / 4 % 2 == 1
grants bits want.Write = bits / 2 % 2 == 1
grants bits want.Search = bits % 2 == 1

-- user 0 passes every check
abbrev pub may : ℕ → ℕ → ℕ → Caller → Want → Bool
may mode owner group caller want = caller.uid == 0 || grants (class_bits mode owner group caller) want
