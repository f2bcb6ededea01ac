-- What the servers keep before the first Serve: the root alone has a content object, with nothing in it.
use Rattle.std.proofs.Common.{◌≡◌, ℕ, ◌==◌, Bool, true, false, cond, List, [], Option, Some, None, refl, ap, ◌∙◌}
use Rattle.std.proofs.lemmas.Bool.Decides.{Decides-eqb}
use Rattle.inf_base.specs.declared.directory.DirRef.{DirRef}
use Rattle.inf_base.specs.Content.{Content}
use Rattle.inf_base.specs.Identity.{server_of}
use Rattle.inf_base.specs.Same.{is_same_dir, is_same_id}
use Rattle.inf_base.proofs.Same.{same_id_self}
use Rattle.inf_content.specs.Contents.{content_at, slots_found}
use Rattle.inf_content.specs.Slots.{slot_in}
use Rattle.inf_server.specs.State.{State, opening, root_content, root_dir}
use Rattle.inf_laws_directory.specs.Objects.{Objects, Service, content_in, site_in, slots_kept}
use Rattle.inf_laws_directory.proofs.ContentFacts.{passed_over}
use Rattle.inf_laws_directory.proofs.Kept.{each_dir}

either_none : (other : DirRef) (b : Bool) (here elsewhere : State) → content_at other here.contents ≡ None → content_at other elsewhere.contents ≡ None
    → content_at other (cond {A = State} b here elsewhere).contents ≡ None
either_none other true here elsewhere none_here none_elsewhere = none_here
either_none other false here elsewhere none_here none_elsewhere = none_elsewhere

either_here : (dir : DirRef) (content : Content) (b : Bool) (here elsewhere : State) → b ≡ true → content_at dir here.contents ≡ Some content
    → content_at dir (cond {A = State} b here elsewhere).contents ≡ Some content
either_here dir content true here elsewhere is found = found
either_here dir content false here elsewhere is found = absurd cc

always_none : (b : Bool) → ◌≡◌ {A = Option Content} (cond b None None) None
always_none true = refl
always_none false = refl

module _ (service : Service) where
  abbrev pub opened : Objects
  opened = λ number. opening (site_in service number)

  abbrev pub top : DirRef
  top = root_dir (site_in service 0)

  pub opened_top : content_in service opened top ≡ Some (root_content (site_in service 0))
  opened_top =
      either_here top (root_content (site_in service 0)) (server_of top.id service.servers == server_of top.id service.servers) _ _ ((Decides-eqb _ _).1 refl) (let ids = same_id_self top.id in rw ids refl)

  pub opened_others : (other : DirRef) → is_same_dir top other ≡ false → content_in service opened other ≡ None
  opened_others other apart =
      either_none other (server_of other.id service.servers == server_of top.id service.servers) _ _
      (passed_over other (root_content (site_in service 0)) [] apart ∙ always_none (is_same_id other.id top.id)) refl

  pub no_slot : (dir : DirRef) (name : List ℕ) → slot_in name (slots_kept service opened dir) ≡ None
  no_slot dir name =
      each_dir top (λ (d : DirRef). slot_in name (slots_kept service opened d) ≡ None)
      (ap (λ (o : Option Content). slot_in name (slots_found o)) opened_top)
      (λ other apart. ap (λ (o : Option Content). slot_in name (slots_found o)) (opened_others other apart)) dir
