-- The state of one server, and what it knows of itself.
use Rattle.std.specs.Prelude.{ℕ, ◌==◌, Bool, if◌then◌else◌, List, [], ◌∷◌, Option, Some, None}
use Rattle.inf_base.specs.declared.access.Access.{Access}
use Rattle.inf_base.specs.declared.caller.CallRef.{CallRef}
use Rattle.inf_base.specs.declared.directory.DirRef.{DirRef}
use Rattle.inf_base.specs.declared.id.Id.{Id}
use Rattle.inf_base.specs.declared.triple.Triple.TheVariants as triple
use Rattle.inf_base.specs.Changes.{AdmittedChange}
use Rattle.inf_base.specs.Content.{Content, TopAccess}
use Rattle.inf_base.specs.Identity.{identity, server_of}
use Rattle.inf_base.specs.Marks.{Mark}
use Rattle.inf_content.specs.Contents.{empty_content}
use Rattle.inf_renames.specs.Kept.{Kept}

-- which server it is, of how many beside the coordinator, whose number is that number; and the digest of identifiers
pub record Site : Type 0 where
  pub number : ℕ
  pub servers : ℕ
  pub digest : List ℕ → Id

pub record State : Type 0 where
  -- in the order of the identifiers
  pub contents : List Content
  -- by the parent, in the order of the identifiers
  pub renames : List (Id × Kept)
  -- in the order of marking
  pub marks : List Mark
  -- in the order of admitting
  pub changes : List AdmittedChange
  -- at the root's server alone
  pub top : Option TopAccess

abbrev pub root_id : Site → Id
root_id site = identity site.digest triple.Root

abbrev pub root_dir : Site → DirRef
root_dir site = record { id = root_id site; born = 0 }

-- whether a directory of this identifier is kept here
abbrev pub is_here : Site → Id → Bool
is_here site id = site.number == server_of id site.servers

-- no call has this number
abbrev pub nobody : CallRef
nobody = record { client = 0; number = 0 }

abbrev pub root_content : Site → Content
root_content site = empty_content (root_id site) 0 triple.Root nobody

abbrev pub root_access : Site → Access
root_access site = record { id = root_id site; born = 0; mode = 0o755; owner = 0; group = 0; birth = triple.Root }

-- before its first Serve a server has the root's objects, if it is the root's server, and nothing else
abbrev pub opening : Site → State
opening site = if is_here site (root_id site)
    then record {
      contents = root_content site ∷ [];
      renames = [];
      marks = [];
      changes = [];
      top = Some (record { access = root_access site; held = None });
    }
    else record { contents = []; renames = []; marks = []; changes = []; top = None }

-- the state with these content objects
abbrev pub with_contents : List Content → State → State
with_contents contents state = record state { contents = contents }
