-- How far the names of a path lead.
use Rattle.std.specs.Prelude.{ℕ, List, [], ◌∷◌, Option, Some, None}
use Rattle.inf_base.specs.declared.caller.CallRef.{CallRef}
use Rattle.inf_base.specs.declared.directory.DirRef.{DirRef}
use Rattle.inf_base.specs.declared.entry.Entry.{Entry}
use Rattle.inf_base.specs.Same.{dir_of}
use Rattle.inf_resolve.specs.declared.known.Known.{Known}
use Rattle.inf_resolve.specs.declared.walked.Walked.{Walked}
use Rattle.inf_resolve.specs.Known.{busy_behind, entry_behind, told_at}

-- where a path comes to a halt: the directory that its chain leads to, and the names that are left, none at its end
pub record Halt : Type 0 where
  pub dir : DirRef
  pub left : List (List ℕ)

abbrev pub halts : DirRef → List (List ℕ) → Halt
halts dir left = record { dir = dir; left = left }

-- the entry that links, of the next name
abbrev pub next_entry : List Known → DirRef → List ℕ → Option Entry
next_entry known dir name = entry_behind dir (told_at known dir.id name)

abbrev pub on_entry : {A : Type 0} → Option Entry → A → (Entry → A) → A
on_entry None stop go = stop
on_entry (Some entry) stop go = go entry

-- the names lead on from a directory as far as their entries link
abbrev pub halt_of : List Known → DirRef → List (List ℕ) → Halt
halt_of known dir [] = halts dir []
halt_of known dir (name ∷ names) =
    on_entry (next_entry known dir name) (halts dir (name ∷ names)) (λ next. halt_of known (dir_of next.access) names)

-- the entries on the way there
abbrev pub way : List Known → DirRef → List (List ℕ) → List Entry
way known dir [] = []
way known dir (name ∷ names) =
    on_entry (next_entry known dir name) [] (λ next. next ∷ way known (dir_of next.access) names)

-- a path from the root's entry on: its chain, and the names that are left
abbrev pub walk : List Known → Entry → List (List ℕ) → Walked
walk known root names =
    let dir = dir_of root.access in
    record { chain = root ∷ way known dir names; left = (halt_of known dir names).left }

-- the change that is in the way where a path halts
abbrev pub busy_at : List Known → Halt → Option (CallRef × ℕ)
busy_at known h = of h.left
  where
    of : List (List ℕ) → Option (CallRef × ℕ)
    of [] = None
    of (name ∷ names) = busy_behind h.dir (told_at known h.dir.id name)
