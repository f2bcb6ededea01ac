-- What paths come to in the servers' directories.
use Rattle.std.proofs.Common.{◌≡◌, ℕ, List, [], ◌∷◌, ◌++◌, Option, Some, None, refl, ap, ◌∙◌, append_assoc}
use Rattle.inf_base.specs.declared.access.Access.{Access}
use Rattle.inf_base.specs.Same.{dir_of}
use Rattle.inf_laws_directory.specs.Changes.{LooksSame}
use Rattle.inf_laws_directory.specs.Things.{Directories, Reaches, Thing, a_dir, a_file, inside, thing_at, thing_under}

pub thing_at-here : (dirs : Directories) (here : Option Thing) → thing_at dirs [] here ≡ here
thing_at-here dirs None = refl
thing_at-here dirs (Some here) = refl

pub thing_at-append : (dirs : Directories) (path rest : List (List ℕ)) (here : Option Thing)
    → thing_at dirs (path ++ rest) here ≡ thing_at dirs rest (thing_at dirs path here)
thing_at-append dirs path rest None = refl
thing_at-append dirs [] rest (Some here) = refl
thing_at-append dirs (name ∷ path) rest (Some here) = thing_at-append dirs path rest (inside dirs name here)

-- one name further than a directory that is reached
pub thing_at-next : (dirs : Directories) (root access : Access) (path : List (List ℕ)) (name : List ℕ) → Reaches dirs root path access
    → thing_at dirs (path ++ name ∷ []) (Some (a_dir root)) ≡ thing_under name (dir_of access) dirs
thing_at-next dirs root access path name at =
    thing_at-append dirs path (name ∷ []) (Some (a_dir root)) ∙ ap (thing_at dirs (name ∷ [])) at ∙ thing_at-here dirs (thing_under name (dir_of access) dirs)

module _ (old new : Directories) (root : Access) where
  -- wherever the path goes on from a directory, what stood there leads on to what stands there now
  abbrev pub LeadsAlike : List (List ℕ) → Type 0
  LeadsAlike path = (before rest : List (List ℕ)) (name : List ℕ) (access : Access) → before ++ name ∷ rest ≡ path → Reaches old root before access
      → thing_at new rest (thing_under name (dir_of access) new) ≡ thing_at new rest (thing_under name (dir_of access) old)

  same_from : (path before rest : List (List ℕ)) (here : Option Thing) → LeadsAlike path → before ++ rest ≡ path → thing_at old before (Some (a_dir root)) ≡ here
      → thing_at new rest here ≡ thing_at old rest here
  same_from path before rest None alike split at = refl
  same_from path before [] (Some here) alike split at = refl
  same_from path before (name ∷ rest) (Some (a_file meta)) alike split at = refl
  same_from path before (name ∷ rest) (Some (a_dir access)) alike split at =
      alike before rest name access split at
      ∙ same_from path (before ++ name ∷ []) rest (thing_under name (dir_of access) old) alike (append_assoc before (name ∷ []) rest ∙ split) (thing_at-next old root access before name at)

  pub same_at : (path : List (List ℕ)) → LeadsAlike path → thing_at new path (Some (a_dir root)) ≡ thing_at old path (Some (a_dir root))
  same_at path alike = same_from path [] path (Some (a_dir root)) alike refl refl

  pub looks_same_at : LooksSame old new root → (path : List (List ℕ)) → thing_at new path (Some (a_dir root)) ≡ thing_at old path (Some (a_dir root))
  looks_same_at looks path = same_at path (λ before rest name access split at. ap (thing_at new rest) ((looks before access at).things name))
