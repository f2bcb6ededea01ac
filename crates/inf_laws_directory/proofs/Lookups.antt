-- What a lookup is told stands where it is told to stand.
use Rattle.std.proofs.Common.{List, None, Ok, Option, Some, ap, inl, subst, sym, true, ℕ, ◌∙◌, ◌≡◌}
use Rattle.inf_base.specs.declared.access.Access.{Access}
use Rattle.inf_base.specs.declared.directory.DirRef.{DirRef}
use Rattle.inf_base.specs.declared.id.Id.{Id}
use Rattle.inf_base.specs.declared.key.Key.{Key}
use Rattle.inf_base.specs.declared.key.Key.TheVariants as key
use Rattle.inf_base.specs.Content.{Slot, reserved, file, directory}
use Rattle.inf_content.specs.Contents.{slots_at}
use Rattle.inf_content.specs.Slots.{slot_in}
use Rattle.inf_message.specs.declared.reply.Reply.{Reply}
use Rattle.inf_message.specs.declared.reply.Reply.TheVariants as reply
use Rattle.inf_server.specs.Lookups.{told_of}
use Rattle.inf_server.specs.State.{Site, State, is_here}
use Rattle.inf_laws_server.specs.CameTo.{IsDone}
use Rattle.inf_laws_directory.specs.Objects.{Objects, Service, content_in, site_in}
use Rattle.inf_laws_directory.specs.Owned.{Links}
use Rattle.inf_laws_directory.specs.Phases.{Phases}
use Rattle.inf_laws_directory.specs.Root.{NoOtherRoot}
use Rattle.inf_laws_directory.specs.Things.{a_dir, thing_in}
use Rattle.inf_laws_directory.specs.Told.{IsToldAs}
use Rattle.inf_laws_directory.proofs.ServiceFacts.{slots_here}
use Rattle.inf_message.specs.declared.ask.Ask.{Ask}
use Rattle.inf_message.specs.declared.request.Request.TheVariants as request
use Rattle.inf_base.specs.declared.key.LookKey.TheVariants as look

-- the directory that is told of stands in the slot, and its key names it
record IsFound (dir : DirRef) (name : List ℕ) (slot : Option Slot) (told : Key) (access : Access) : Type 0 where
  as_key : told ≡ key.At dir name
  stands : thing_in slot ≡ Some (a_dir access)

found_in : (dir : DirRef) (name : List ℕ) (slot : Option Slot) (told : Key) (access : Access) → told_of dir name slot ≡ Ok (reply.Found told access) → IsFound dir name slot told access
found_in dir name None told access is = cc
found_in dir name (Some (reserved by kept)) told access is = cc
found_in dir name (Some (file meta None)) told access is = cc
found_in dir name (Some (file meta (Some hold))) told access is = cc
found_in dir name (Some (directory kept None)) told access is =
    let same_key : key.At dir name ≡ told = cc is in
    let same : kept ≡ access = cc is in
    record { as_key = sym same_key; stands = ap (λ (a : Access). Some (a_dir a)) same }
found_in dir name (Some (directory kept (Some hold))) told access is = cc

-- the root's access object under the root's key, and any other where it stands
abbrev pub IsThere : Service → Objects → Access → Key → Access → Type 0
IsThere service objects root key.Top access = access ≡ root
IsThere service objects root (key.At dir name) access = Links (content_in service objects) dir name access

-- a lookup that was done tells of what is there
module _ (service : Service) (objects : Objects) (number place : ℕ) (root : Access) (ask : Ask) (told : Key) (access : Access) (given : Reply) (new : State)
    (found : given ≡ reply.Found told access) where
  abbrev site : Site
  site = site_in service number

  pub there_by_name : (id : Id) (name : List ℕ) → IsDone site (objects number) place ask (request.Lookup (look.At id name)) given new
      → IsThere service objects root told access
  there_by_name id name is =
      let state = objects number in
      let tells = is.passed in
      let here : is_here site tells.dir.id ≡ true = subst (λ (i : Id). is_here site i ≡ true) (sym tells.of_id) tells.here in
      let is_found = found_in tells.dir name (slot_in name (slots_at tells.dir state.contents)) told access (tells.is_told ∙ ap (λ (r : Reply). Ok r) (sym is.said ∙ found)) in
      let linked = ap (λ (slots : List (List ℕ × Slot)). thing_in (slot_in name slots)) (slots_here service objects number state tells.dir here) ∙ is_found.stands in
      subst (λ (k : Key). IsThere service objects root k access) (sym is_found.as_key) linked

  pub there_at_top : NoOtherRoot service objects root
      → IsDone site (objects number) place ask (request.Lookup look.Top) given new → IsThere service objects root told access
  there_at_top stands is =
      let at_top : is.passed.top.access ≡ root = stands number is.passed.top is.passed.is_top in
      let same : reply.Found key.Top is.passed.top.access ≡ reply.Found told access = sym is.said ∙ found in
      let as_key : key.Top ≡ told = cc same in
      let as_access : is.passed.top.access ≡ access = cc same in
      subst (λ (k : Key). IsThere service objects root k access) as_key (sym as_access ∙ at_top)

-- what is there is told truly
pub there_is_told : (service : Service) (objects : Objects) (root : Access) (phases : Phases) (told : Key) (access : Access)
    → IsThere service objects root told access → IsToldAs service objects root phases told access
there_is_told service objects root phases key.Top access there = there
there_is_told service objects root phases (key.At dir name) access there = inl there
