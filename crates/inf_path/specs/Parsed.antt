-- What is read of a path's text, beside its names or its refusal as `path_of` gives them.
use Rattle.std.specs.Prelude.{ℕ, Bool, true, false, List, [], ◌∷◌, length, Option, Some, None, Result, Ok, Err}
use Rattle.inf_base.specs.declared.errno.Errno.{Errno}
use Rattle.inf_path.specs.declared.fault.PathFault.{PathFault}
use Rattle.inf_path.specs.declared.fault.PathFault.TheVariants as fault
use Rattle.inf_path.specs.declared.path.Path.{Path}

-- why a text is refused, where that is the fault
abbrev pub path_cause : PathFault → Option Errno
path_cause (fault.Refused error) = Some error
path_cause fault.NoMemory = None

abbrev pub parsed : Result (List (List ℕ)) Errno → Result Path Errno
parsed (Ok names) = Ok (record { names = names })
parsed (Err error) = Err error

-- how many names there are
abbrev pub counted : Result (List (List ℕ)) Errno → Result ℕ Errno
counted (Ok names) = Ok (length names)
counted (Err error) = Err error

-- a path that is not refused, and is not the root
abbrev pub has_names : Result (List (List ℕ)) Errno → Bool
has_names (Ok (name ∷ names)) = true
has_names (Ok []) = false
has_names (Err error) = false
