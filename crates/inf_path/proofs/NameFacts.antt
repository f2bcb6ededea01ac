-- The names of a path, as they are read one after another.
use Rattle.std.proofs.Common.{◌≡◌, ℕ, ◌+◌, true, false, cond, List, [], ◌∷◌, length, Some, None, Ok, Err, sym, ap, ◌∙◌, arith}
use Rattle.inf_base.specs.declared.errno.Errno.{Errno}
use Rattle.inf_base.specs.declared.errno.Errno.TheVariants as errno
use Rattle.inf_base.specs.Path.{first_fault, is_absolute, name_fault, or_later, path_of, pieces_of, unless_at_fault}

-- so many names were read, and these are left of all
pub record IsRead (before : ℕ) (left all : List (List ℕ)) : Type 0 where
  pub count : before + length left ≡ length all
  pub faults : first_fault before left ≡ first_fault 0 all

absolute_path : (path : List ℕ) → is_absolute path ≡ true → path_of path ≡ unless_at_fault (pieces_of path) (first_fault 0 (pieces_of path))
absolute_path path absolute = ap (λ b. cond b (unless_at_fault (pieces_of path) (first_fault 0 (pieces_of path))) (Err errno.EINVAL)) absolute

pub other_path : (path : List ℕ) → is_absolute path ≡ false → path_of path ≡ Err errno.EINVAL
other_path path absolute = ap (λ b. cond b (unless_at_fault (pieces_of path) (first_fault 0 (pieces_of path))) (Err errno.EINVAL)) absolute

module _ (path piece : List ℕ) (before : ℕ) (behind : List (List ℕ)) (read : IsRead before (piece ∷ behind) (pieces_of path)) where
  -- the next name is not at fault
  pub read_more : name_fault before piece ≡ None → IsRead (before + 1) behind (pieces_of path)
  read_more good = record {
    count = omega (arith, read.count);
    faults = ap (λ fault. or_later fault (first_fault (before + 1) behind)) (sym good) ∙ read.faults;
  }

  -- the next name is at fault
  pub refused_path : (error : Errno) → is_absolute path ≡ true → name_fault before piece ≡ Some error → path_of path ≡ Err error
  refused_path error absolute bad =
      absolute_path path absolute
      ∙ ap (unless_at_fault (pieces_of path)) (sym read.faults ∙ ap (λ fault. or_later fault (first_fault (before + 1) behind)) bad)

-- none was at fault
pub all_names : (path : List ℕ) (before : ℕ) → is_absolute path ≡ true → IsRead before [] (pieces_of path) → path_of path ≡ Ok (pieces_of path)
all_names path before absolute read = absolute_path path absolute ∙ ap (unless_at_fault (pieces_of path)) (sym read.faults)
