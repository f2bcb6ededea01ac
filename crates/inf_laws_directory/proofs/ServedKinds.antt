-- What each kind of request did that its checks let through, and what it did to the slots of a directory.
use Rattle.std.proofs.Common.{◌≡◌, ℕ, true, List, Option, Some, None, is_some, Ok, refl, sym, ap, ◌∙◌, subst}
use Rattle.inf_base.specs.declared.caller.CallRef.{CallRef}
use Rattle.inf_base.specs.declared.directory.DirRef.{DirRef}
use Rattle.inf_base.specs.declared.entry.Entry.{Entry}
use Rattle.inf_base.specs.declared.id.Id.{Id}
use Rattle.inf_base.specs.declared.key.Key.TheVariants as key
use Rattle.inf_base.specs.declared.triple.Triple.{Triple}
use Rattle.inf_base.specs.Content.{Content}
use Rattle.inf_base.specs.Same.{dir_of}
use Rattle.inf_content.specs.Contents.{content_at, slots_at}
use Rattle.inf_content.specs.Slots.{slot_in}
use Rattle.inf_message.specs.declared.ask.Ask.{Ask}
use Rattle.inf_message.specs.declared.op.Op.TheVariants as op
use Rattle.inf_message.specs.declared.request.Request.{Request}
use Rattle.inf_message.specs.declared.request.Request.TheVariants as request
use Rattle.inf_server.specs.Births.{cancel, link, make, reserve}
use Rattle.inf_server.specs.Files.{create, stat}
use Rattle.inf_server.specs.Removals.{drop_dir, forget, name_in, seal, unlink, unseal}
use Rattle.inf_server.specs.Response.{Response}
use Rattle.inf_server.specs.State.{Site, State, is_here}
use Rattle.inf_laws_server.specs.Changes as change
use Rattle.inf_laws_server.specs.Changes.{changed}
use Rattle.inf_laws_server.specs.Edits as edit
use Rattle.inf_laws_server.specs.Edits.{Edit, edited}
use Rattle.inf_laws_server.specs.Passed.{IsAsked, MayUnlink}
use Rattle.inf_laws_server.proofs.Births.{cancel_comes, link_comes, make_comes, reserve_comes}
use Rattle.inf_laws_server.proofs.Came.{Did, did}
use Rattle.inf_laws_server.proofs.Files.{create_comes, stat_comes}
use Rattle.inf_laws_server.proofs.Removals.{drop_comes, forget_comes, seal_comes, unlink_comes, unseal_comes}
use Rattle.inf_laws_directory.specs.Serves.{StandsAs}
use Rattle.inf_laws_directory.specs.Things.{thing_in}
use Rattle.inf_laws_directory.proofs.Kept.{HasChanged}

-- the place of the Ask counts for a Make alone
module _ (site : Site) (state : State) (ask : Ask) (end : Response) where
  abbrev HasDone : Request → Type 0
  HasDone asked = Did site state 0 ask asked end

  pub created : (chain : List Entry) (name : List ℕ) (mode : ℕ) → create site state ask chain name mode ≡ Ok end
      → HasDone (request.Finish chain (op.Create name mode))
  created chain name mode is = did site state 0 ask _ _ (create_comes site state 0 ask chain name mode) end is

  pub looked : (chain : List Entry) (name : List ℕ) → stat site state ask chain name ≡ Ok end → HasDone (request.Finish chain (op.Stat name))
  looked chain name is = did site state 0 ask _ _ (stat_comes site state 0 ask chain name) end is

  pub reserved_name : (chain : List Entry) (name : List ℕ) → reserve site state ask chain name ≡ Ok end → HasDone (request.Reserve chain name)
  reserved_name chain name is = did site state 0 ask _ _ (reserve_comes site state 0 ask chain name) end is

  pub made : (place : ℕ) (birth : Triple) → make site state place ask birth ≡ Ok end → Did site state place ask (request.Make birth) end
  made place birth is = did site state place ask _ _ (make_comes site state place ask birth) end is

  pub linked_so : (chain : List Entry) (name : List ℕ) (dir : DirRef) (mode : ℕ) → link site state ask chain dir mode ≡ Ok end
      → HasDone (request.Link chain name dir mode)
  linked_so chain name dir mode is = did site state 0 ask _ _ (link_comes site state 0 ask chain name dir mode) end is

  pub cancelled : (dir : DirRef) → cancel site state ask dir ≡ Ok end → HasDone (request.Cancel dir)
  cancelled dir is = did site state 0 ask _ _ (cancel_comes site state 0 ask dir) end is

  pub dropped : (dir : DirRef) → drop_dir site state ask dir ≡ Ok end → HasDone (request.Drop dir)
  dropped dir is = did site state 0 ask _ _ (drop_comes site state 0 ask dir) end is

  pub sealed_so : (chain : List Entry) → seal site state ask chain ≡ Ok end → HasDone (request.Seal chain)
  sealed_so chain is = did site state 0 ask _ _ (seal_comes site state 0 ask chain) end is

  pub unsealed : (dir : DirRef) → unseal site state ask dir ≡ Ok end → HasDone (request.Unseal dir)
  unsealed dir is = did site state 0 ask _ _ (unseal_comes site state 0 ask dir) end is

  pub unlinked_so : (chain : List Entry) → unlink site state ask chain ≡ Ok end → HasDone (request.Unlink chain)
  unlinked_so chain is = did site state 0 ask _ _ (unlink_comes site state 0 ask chain) end is

  pub forgot : (parent : Id) (dir : DirRef) → forget site state parent dir ≡ Ok end → HasDone (request.Forget parent dir)
  forgot parent dir is = did site state 0 ask _ _ (forget_comes site state 0 ask parent dir) end is

-- ---- slots

-- a directory that is asked is there, so that any change of its slots is made
there_absurd : {P : Type 0} (found : Option Content) → is_some found ≡ true → found ≡ None → P
there_absurd None there is = cc
there_absurd (Some c) there is = cc

pub has_edited : {carried : List (List Entry)} (site : Site) (old new : State) (by : CallRef) (asked : Option Entry) (entry : Entry) (with : Edit)
    → IsAsked site old by asked carried entry → new ≡ changed (change.slots (dir_of entry.access) with) old
    → HasChanged site old new (dir_of entry.access) (edited with)
has_edited site old new by asked entry with is_asked did = record {
  here = is_asked.here;
  nothing = there_absurd (content_at (dir_of entry.access) old.contents) is_asked.there;
  contents = ap (λ (s : State). s.contents) did;
}

pub has_lifted : (site : Site) (old new : State) (by : CallRef) (dir : DirRef) → is_here site dir.id ≡ true → new ≡ changed (change.slots dir (edit.lifts by)) old
    → HasChanged site old new dir (edited (edit.lifts by))
has_lifted site old new by dir here did = record { here = here; nothing = λ none. refl; contents = ap (λ (s : State). s.contents) did }

-- a directory that stood under its name in the directory asked
pub unlinked_stood : (site : Site) (state : State) (ask : Ask) (chain : List Entry) (passed : MayUnlink site state ask chain)
    → StandsAs (dir_of passed.target.access) (thing_in (slot_in passed.name (slots_at (dir_of passed.entry.access) state.contents)))
unlinked_stood site state ask chain passed =
    subst (StandsAs (dir_of passed.target.access)) (sym (ap thing_in passed.stands)) passed.same

-- the name by which the directory was unlinked
pub named_so : (was target : Entry) (dir : DirRef) (found name : List ℕ) → name_in was.key ≡ Some found → was ≡ target → target.key ≡ key.At dir name → found ≡ name
named_so was target dir found name named same at = let is : Some found ≡ Some name = sym named ∙ ap (λ (e : Entry). name_in e.key) same ∙ ap name_in at in cc
