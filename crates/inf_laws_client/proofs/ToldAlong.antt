-- A chain that carries only what was told, and links up, is one that was told along its names.
use Rattle.std.proofs.Common.{◌≡◌, List, [], ◌∷◌, ap}
use Rattle.inf_base.specs.declared.access.Access.{Access}
use Rattle.inf_base.specs.declared.directory.DirRef.{DirRef}
use Rattle.inf_base.specs.declared.entry.Entry.{Entry}
use Rattle.inf_base.specs.declared.key.Key.{Key}
use Rattle.inf_base.specs.declared.key.Key.TheVariants as key
use Rattle.inf_base.specs.Same.{dir_of}
use Rattle.inf_laws_client.specs.Paths.{names_in, names_of}
use Rattle.inf_laws_client.specs.Told.{CarriesOnly, IsIn, LinksFrom, LinksUp, name_of}
use Rattle.inf_laws_directory.specs.Objects.{Objects, Service}
use Rattle.inf_laws_directory.specs.Phases.{Phases}
use Rattle.inf_laws_directory.specs.Standing.{IsToldAlong}
use Rattle.inf_laws_directory.specs.Told.{AreTold, IsToldAs, LinkAlong, LinkFrom}

key_in : (dir : DirRef) (k : Key) → IsIn dir k → k ≡ key.At dir (name_of k)
key_in dir key.Top is = absurd is
key_in dir (key.At other name) is = ap (λ d. key.At d name) is

links_on : (here : Access) (chain : List Entry) → LinksFrom here chain → LinkFrom here (names_in chain) chain
links_on here [] links = tt
links_on here (e ∷ es) links = (key_in (dir_of here) e.key links.0, links_on e.access es links.1)

links_along : (chain : List Entry) → LinksUp chain → LinkAlong (names_of chain) chain
links_along [] links = absurd links
links_along (e ∷ es) links = (links.0, links_on e.access es links.1)

module _ (service : Service) (objects : Objects) (root : Access) (phases : Phases) where
  abbrev IsTrue : Entry → Type 0
  IsTrue e = IsToldAs service objects root phases e.key e.access

  are_told : (chain : List Entry) → CarriesOnly IsTrue chain → AreTold service objects root phases chain
  are_told [] carries = tt
  are_told (e ∷ es) carries = (carries.0, are_told es carries.1)

  pub told_along : (chain : List Entry)
      → CarriesOnly (λ (e : Entry). IsToldAs service objects root phases e.key e.access) chain → LinksUp chain
      → IsToldAlong service objects root phases (names_of chain) chain
  told_along chain carries links = record { told = are_told chain carries; links = links_along chain links }
