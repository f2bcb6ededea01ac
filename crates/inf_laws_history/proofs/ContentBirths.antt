-- Where the content objects of servers come from: each keeps the birth and the maker that it came with.
use Rattle.std.proofs.Common.{◌≡◌, ◌⊎◌, inl, inr, ℕ, ◌==◌, ◌&&◌, if◌then◌else◌, Bool, true, false, cond, eqb, List, [], ◌∷◌, Option, Some, None, refl, sym, ◌∙◌, subst}
use Rattle.std.specs.Ordering.{match_ordering}
use Rattle.std.specs.declared.cmp.Ordering.{Ordering}
use Rattle.std.specs.declared.cmp.Ordering.TheVariants.{Less, Equal, Greater}
use Rattle.std.proofs.lemmas.Bool.Decides.{Decides-eqb}
use Rattle.inf_base.specs.declared.caller.CallRef.{CallRef}
use Rattle.inf_base.specs.declared.directory.DirRef.{DirRef}
use Rattle.inf_base.specs.declared.id.Id.{Id}
use Rattle.inf_base.specs.declared.triple.Triple.{Triple}
use Rattle.inf_base.specs.declared.triple.Triple.TheVariants as triple
use Rattle.inf_base.specs.Content.{Content, TopAccess}
use Rattle.inf_base.specs.Identity.{identity}
use Rattle.inf_base.specs.Same.{is_same_id}
use Rattle.inf_content.specs.Contents.{changed_at, content_of_id, dropped_at, empty_content, id_cmp, may_drop, placed, with_new}
use Rattle.inf_duty.specs.World.{World}
use Rattle.inf_laws_server.specs.CameTo.{IsDone}
use Rattle.inf_laws_server.specs.Changes as change
use Rattle.inf_laws_server.specs.Changes.{Change, changed}
use Rattle.inf_laws_server.specs.Done.{change_of}
use Rattle.inf_laws_server.proofs.ChangeFacts.{IsOf, change_is_of}
use Rattle.inf_laws_server.proofs.Serves.{left_or_done, top_kept}
use Rattle.inf_laws_history.specs.Legal.{Legal, MayServe, server_after}
use Rattle.inf_laws_history.specs.Sites.{site_of}
use Rattle.inf_message.specs.declared.ask.Ask.{Ask}
use Rattle.inf_message.specs.declared.event.Event.{Event}
use Rattle.inf_message.specs.declared.event.Event.TheVariants as event
use Rattle.inf_message.specs.declared.reply.Reply.{Reply}
use Rattle.inf_message.specs.declared.request.Request.TheVariants as request
use Rattle.inf_message.specs.History.{Posted, asked_at}
use Rattle.inf_message.proofs.HistoryLaws.{asked_stays, asked_within}
use Rattle.inf_server.specs.Machine.{Serves}
use Rattle.inf_server.specs.State.{Site, State, is_here, opening, root_id}
use Rattle.inf_duty.proofs.BegunKept.{if_both}
use Rattle.inf_laws_history.proofs.StepFacts.{states_served}

-- ---- a property of contents by what they come with

module _ (P : DirRef → Triple → CallRef → Type 0) where
  abbrev pub IsSo : Content → Type 0
  IsSo c = P c.dir c.triple c.maker

  abbrev pub AreSo : List Content → Type 0
  AreSo [] = Unit {0}
  AreSo (c ∷ cs) = IsSo c × AreSo cs

  -- what is found is so
  pub so_found : (id : Id) (contents : List Content) (content : Content) → AreSo contents → content_of_id id contents ≡ Some content → IsSo content
  so_found id [] content all is = cc
  so_found id (c ∷ cs) content all is = by (is_same_id id c.dir.id) is (so_found id cs content all.1)
    where
      by : (b : Bool) → cond b (Some c) (content_of_id id cs) ≡ Some content → (content_of_id id cs ≡ Some content → IsSo content) → IsSo content
      by true here later = let same : c ≡ content = cc in subst IsSo same all.0
      by false here later = later here

  changed_so : (dir : DirRef) (change : Content → Content) → ((c : Content) → IsSo c → IsSo (change c)) → (contents : List Content)
      → AreSo contents → AreSo (changed_at dir change contents)
  changed_so dir change keeps [] all = tt
  changed_so dir change keeps (c ∷ cs) all =
      if_both AreSo (is_same_id dir.id c.dir.id) ((if c.dir.born == dir.born then change c else c) ∷ cs) (c ∷ changed_at dir change cs)
      (if_both IsSo (c.dir.born == dir.born) (change c) c (keeps c all.0) all.0, all.1) (all.0, changed_so dir change keeps cs all.1)

  dropped_so : (dir : DirRef) (by : CallRef) (contents : List Content) → AreSo contents → AreSo (dropped_at dir by contents)
  dropped_so dir by [] all = tt
  dropped_so dir by (c ∷ cs) all =
      if_both AreSo (is_same_id dir.id c.dir.id) (if c.dir.born == dir.born && may_drop by c then cs else c ∷ cs) (c ∷ dropped_at dir by cs)
      (if_both AreSo (c.dir.born == dir.born && may_drop by c) cs (c ∷ cs) all.1 all) (all.0, dropped_so dir by cs all.1)

  placed_so : (content : Content) (contents : List Content) → IsSo content → AreSo contents → AreSo (placed content contents)
  placed_so content [] is all = (is, tt)
  placed_so content (c ∷ cs) is all = by (id_cmp content.dir.id c.dir.id) (placed_so content cs is all.1)
    where
      by : (o : Ordering) → AreSo (placed content cs) → AreSo (match_ordering o (content ∷ c ∷ cs) (content ∷ cs) (c ∷ placed content cs))
      by Less later = (is, all)
      by Equal later = (is, all.1)
      by Greater later = (all.0, later)

  new_so : (content : Content) (found : Option Content) (contents : List Content) → IsSo content → AreSo contents → AreSo (with_new content found contents)
  new_so content None contents is all = placed_so content contents is all
  new_so content (Some kept) contents is all = all

  -- ---- a Serve

  module _ (site : Site) (state : State) (place : ℕ) (ask : Ask) (all : AreSo state.contents)
      (fresh : (birth : Triple) → ask.request ≡ request.Make birth → P (record { id = identity site.digest birth; born = place }) birth ask.from) where
    change_so : (with : Change) → IsOf site state place ask ask.request with → AreSo (changed with state).contents
    change_so change.none is = all
    change_so (change.slots dir with) is = changed_so dir _ (λ c so. so) state.contents all
    change_so (change.comes id born birth by) is =
        new_so (empty_content id born birth by) (content_of_id id state.contents) state.contents
        (rw (is.identifies, is.at_place, is.own) (fresh birth is.is_make)) all
    change_so (change.goes dir by) is = dropped_so dir by state.contents all
    change_so (change.seals dir by) is = changed_so dir _ (λ c so. so) state.contents all
    change_so (change.unseals dir by) is = changed_so dir _ (λ c so. so) state.contents all
    change_so (change.forgets parent dir) is = all

    served_so : (given : Reply) (new : State) → Serves site state place ask given new → AreSo new.contents
    served_so given new serves = by (left_or_done site state place ask given new serves)
      where
        by : (new ≡ state) ⊎ IsDone site state place ask ask.request given new → AreSo new.contents
        by (inl same) = subst (λ (s : State). AreSo s.contents) (sym same) all
        by (inr is) =
            let with = change_of site state place ask ask.request is.passed in
            subst (λ (s : State). AreSo s.contents) (sym is.did) (change_so with (change_is_of site state place ask ask.request is.passed))

-- ---- histories

-- what holds of each server's state from the first on, and is kept by what it serves, holds after each history
module _ (world : World) (Q : ℕ → List Event → State → Type 0) (opens : (number : ℕ) → Q number [] (opening (site_of world number)))
    (more : (number : ℕ) (e : Event) (h : List Event) (state : State) → Q number h state → Q number (e ∷ h) state)
    (serves : (number : ℕ) (h : List Event) → Legal world h → (place : ℕ) (given : Reply) (may : MayServe world h number place given)
    → Q number h (server_after world number h) → Q number (event.Serve number place given ∷ h) may.after) where
  pub each_server : (h : List Event) → Legal world h → (number : ℕ) → Q number h (server_after world number h)
  each_server [] legal number = opens number
  each_server (event.Ask n ask ∷ h) legal number = more number (event.Ask n ask) h (server_after world number h) (each_server h legal.0 number)
  each_server (event.Serve n place given ∷ h) legal number =
      subst (Q number (event.Serve n place given ∷ h))
      (states_served world h (λ server. server_after world server h) (λ server. refl) n place given legal.1.posted legal.1.made legal.1.after legal.1.reply number)
      (by (eqb number n) refl (each_server h legal.0 number) (serves n h legal.0 place given legal.1 (each_server h legal.0 n)))
    where
      by : (b : Bool) → eqb number n ≡ b → Q number h (server_after world number h) → Q n (event.Serve n place given ∷ h) legal.1.after
          → Q number (event.Serve n place given ∷ h) (if b then legal.1.after else server_after world number h)
      by true same elsewhere here = subst (λ m. Q m (event.Serve n place given ∷ h) legal.1.after) (sym ((Decides-eqb number n).0 same)) here
      by false apart elsewhere here = more number (event.Serve n place given) h (server_after world number h) elsewhere

-- ---- births

-- an Ask made the directory of this birth, and another one of no other
pub record WasMade (h : List Event) (born : ℕ) (birth : Triple) (maker : CallRef) : Type 0 where
  pub posted : Posted
  pub asked : asked_at born h ≡ Some posted
  pub makes : posted.ask.request ≡ request.Make birth
  pub own : posted.ask.from ≡ maker

pub record IsBirth (digest : List ℕ → Id) (h : List Event) (dir : DirRef) (birth : Triple) (maker : CallRef) : Type 0 where
  pub identifies : dir.id ≡ identity digest birth
  pub origin : ((dir.born ≡ 0) × (birth ≡ triple.Root)) ⊎ WasMade h dir.born birth maker

pub made_stays : (e : Event) (h : List Event) (born : ℕ) (birth : Triple) (maker : CallRef) → WasMade h born birth maker → WasMade (e ∷ h) born birth maker
made_stays e h born birth maker was = record {
  posted = was.posted;
  asked = asked_stays born e h (asked_within born was.posted h was.asked).within ∙ was.asked;
  makes = was.makes;
  own = was.own;
}

birth_stays : (digest : List ℕ → Id) (e : Event) (h : List Event) (dir : DirRef) (birth : Triple) (maker : CallRef) → IsBirth digest h dir birth maker
    → IsBirth digest (e ∷ h) dir birth maker
birth_stays digest e h dir birth maker is = record { identifies = is.identifies; origin = by is.origin }
  where
    by : ((dir.born ≡ 0) × (birth ≡ triple.Root)) ⊎ WasMade h dir.born birth maker → ((dir.born ≡ 0) × (birth ≡ triple.Root)) ⊎ WasMade (e ∷ h) dir.born birth maker
    by (inl first) = inl first
    by (inr was) = inr (made_stays e h dir.born birth maker was)

births_stay : (digest : List ℕ → Id) (e : Event) (h : List Event) (contents : List Content) → AreSo (IsBirth digest h) contents → AreSo (IsBirth digest (e ∷ h)) contents
births_stay digest e h [] all = tt
births_stay digest e h (c ∷ cs) all = (birth_stays digest e h c.dir c.triple c.maker all.0, births_stay digest e h cs all.1)

module _ (world : World) where
  abbrev HasBirths : ℕ → List Event → State → Type 0
  HasBirths number h state = AreSo (IsBirth world.digest h) state.contents

  served_births : (number : ℕ) (h : List Event) (place : ℕ) (given : Reply) (may : MayServe world h number place given)
      → HasBirths number h (server_after world number h) → HasBirths number (event.Serve number place given ∷ h) may.after
  served_births number h place given may all =
      births_stay world.digest (event.Serve number place given) h may.after.contents
      (served_so (IsBirth world.digest h) (site_of world number) (server_after world number h) place may.posted.ask all
      (λ birth makes. record {
        identifies = refl;
        origin = inr (record { posted = may.posted; asked = may.made; makes = makes; own = refl });
      })
      given may.after may.reply)

  -- each content object is of a birth
  pub births_after : (h : List Event) → Legal world h → (number : ℕ) → AreSo (IsBirth world.digest h) (server_after world number h).contents
  births_after =
      each_server world HasBirths
      (λ number. if_both (HasBirths number []) (is_here (site_of world number) (root_id (site_of world number))) _ _
      (record { identifies = refl; origin = inl (refl, refl) }, tt) tt)
      (λ number e h state all. births_stay world.digest e h state.contents all)
      (λ number h legal place given may all. served_births number h place given may all)

  abbrev HasFreeTop : ℕ → List Event → State → Type 0
  HasFreeTop number h state = (top : TopAccess) → state.top ≡ Some top → top.held ≡ None

  -- no call holds the root's access object
  pub top_free : (h : List Event) → Legal world h → (number : ℕ) (top : TopAccess) → (server_after world number h).top ≡ Some top → top.held ≡ None
  top_free =
      each_server world HasFreeTop
      (λ number. if_both (HasFreeTop number []) (is_here (site_of world number) (root_id (site_of world number))) _ _ (λ top is. cc) (λ top is. cc))
      (λ number e h state free. free)
      (λ number h legal place given may free top is. free top
      (sym (top_kept (site_of world number) (server_after world number h) place may.posted.ask given may.after may.reply) ∙ is))
