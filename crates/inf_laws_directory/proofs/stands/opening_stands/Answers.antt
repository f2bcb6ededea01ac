use Rattle.std.proofs.Common.{◌≡◌, ℕ, List, [], ◌∷◌, Option, Some, None, is_some, refl, sym, ap, ◌∙◌, subst}
use Rattle.std.specs.Option.{option_map}
use Rattle.inf_base.specs.declared.access.Access.{Access}
use Rattle.inf_base.specs.declared.directory.DirRef.{DirRef}
use Rattle.inf_base.specs.Same.{dir_of}
use Rattle.inf_server.specs.State.{root_access}
use Rattle.inf_tree.specs.Tree.{opening_tree}
use Rattle.inf_laws_directory.specs.Objects.{Service, content_in, site_in}
use Rattle.inf_laws_directory.specs.Stands.{AreThere, Shows, shown_thing}
use Rattle.inf_laws_directory.specs.Things.{Directories, HasContent, Reaches, StandOnce, Thing, a_dir, thing_at, thing_in}
use Rattle.inf_laws_directory.proofs.Opened.{no_slot, opened, opened_top, top}
use Rattle.inf_laws_directory.proofs.stands.opening_stands.Goals as goal

module _ (service : Service) where
  abbrev dirs : Directories
  dirs = content_in service (opened service)

  abbrev root : Access
  root = root_access (site_in service 0)

  -- no name leads on from the root
  nothing : (name : List ℕ) (path : List (List ℕ)) → thing_at dirs (name ∷ path) (Some (a_dir root)) ≡ None
  nothing name path = ap (λ (here : Option Thing). thing_at dirs path here) (ap thing_in (no_slot service (top service) name))

  reaches_none : (name : List ℕ) (path : List (List ℕ)) (access : Access) → Reaches dirs root (name ∷ path) access → ⊥
  reaches_none name path access at = let none = nothing name path in cc (none, at)

  shows : Shows dirs root opening_tree
  shows [] = refl
  shows (name ∷ path) = ap (option_map shown_thing) (nothing name path)

  once : StandOnce dirs root
  once [] [] access same at other_at is = refl
  once [] (name ∷ path) access same at other_at is = absurd (reaches_none name path same other_at)
  once (name ∷ path) other access same at other_at is = absurd (reaches_none name path access at)

  there : AreThere dirs root
  there [] access at = subst (λ (a : Access). HasContent dirs (dir_of a)) (let same : root ≡ access = cc at in same) (ap is_some (opened_top service))
  there (name ∷ path) access at = absurd (reaches_none name path access at)

pub returns : goal.returns
returns c = λ service phases. record { shows = shows service; once = once service; there = there service }
