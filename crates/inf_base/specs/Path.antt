-- Path texts: the names of a path, or why its text is refused.
use Rattle.std.specs.Prelude.{ℕ, ◌+◌, Bool, true, false, ◌||◌, ◌==◌, nat_lt, nat_le, if◌then◌else◌, List, [], ◌∷◌, length, filter, Option, None, Some, Result, Ok, Err, codes}
use Rattle.std.specs.List.{list_any, slice_split}
use Rattle.std.specs.Str.{bytes_eq}
use Rattle.inf_base.specs.declared.errno.Errno.{Errno}
use Rattle.inf_base.specs.declared.errno.Errno.TheVariants as errno
use Rattle.inf_base.specs.declared.limits.TheConstants.{MOST_NAME_BYTES, MOST_PATH_NAMES}

abbrev pub is_slash : ℕ → Bool
is_slash byte = byte == 47

abbrev pub is_absolute : List ℕ → Bool
is_absolute [] = false
is_absolute (byte ∷ bytes) = is_slash byte

abbrev pub is_piece : List ℕ → Bool
is_piece [] = false
is_piece (byte ∷ bytes) = true

-- the pieces between slashes; empty ones are dropped, so several slashes count as one
abbrev pub pieces_of : List ℕ → List (List ℕ)
pieces_of text = filter is_piece (slice_split is_slash text)

-- what no entry of a directory is called: `.`, `..`, or a name with a NUL byte
abbrev pub is_reserved : List ℕ → Bool
is_reserved name = bytes_eq name (codes ".") || bytes_eq name (codes "..") || list_any (λ byte. byte == 0) name

-- the fault of a name that stands behind so many others
abbrev pub name_fault : ℕ → List ℕ → Option Errno
name_fault before name =
    if nat_le MOST_PATH_NAMES before then Some errno.ENAMETOOLONG
    else (if nat_lt MOST_NAME_BYTES (length name) then Some errno.ENAMETOOLONG
    else (if is_reserved name then Some errno.EINVAL else None))

abbrev pub or_later : Option Errno → Option Errno → Option Errno
or_later (Some error) later = Some error
or_later None later = later

-- the names are taken in turn, and the first that is at fault decides
abbrev pub first_fault : ℕ → List (List ℕ) → Option Errno
first_fault before [] = None
first_fault before (name ∷ names) = or_later (name_fault before name) (first_fault (before + 1) names)

abbrev pub unless_at_fault : List (List ℕ) → Option Errno → Result (List (List ℕ)) Errno
unless_at_fault names None = Ok names
unless_at_fault names (Some error) = Err error

-- the names of a path in path order, none for `/`
abbrev pub path_of : List ℕ → Result (List (List ℕ)) Errno
path_of text =
    if is_absolute text then unless_at_fault (pieces_of text) (first_fault 0 (pieces_of text)) else Err errno.EINVAL
