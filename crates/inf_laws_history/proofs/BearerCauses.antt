-- Who bears a directory that is to be made and is there already: another client, which has not linked it yet, or sealed it.
use Rattle.std.proofs.Common.{◌≡◌, bytes_eq, ◌≢◌, ◌⊎◌, inl, inr, ℕ, ◌==◌, ◌&&◌, Bool, true, false, not, cond, List, [], ◌∷◌, Option, Some, None, is_some, refl, sym, ap, ap₂, ◌∙◌, subst, arith}
use Rattle.std.specs.List.{list_any}
use Rattle.std.proofs.lemmas.Bool.Decides.{Decides-eqb}
use Rattle.std.proofs.lemmas.Slice.Eq.{bytes_eq-Decides}
use Rattle.inf_base.specs.declared.access.Access.{Access}
use Rattle.inf_base.specs.declared.caller.CallRef.{CallRef}
use Rattle.inf_base.specs.declared.directory.DirRef.{DirRef}
use Rattle.inf_base.specs.declared.entry.Entry.{Entry}
use Rattle.inf_base.specs.declared.id.Id.{Id}
use Rattle.inf_base.specs.declared.triple.Triple.{Triple}
use Rattle.inf_base.specs.declared.triple.Triple.TheVariants as triple
use Rattle.inf_base.specs.Content.{Content, Slot, reserved, file, directory}
use Rattle.inf_base.specs.Identity.{identity, server_of}
use Rattle.inf_base.specs.Same.{dir_of, is_same_call, is_same_id, is_same_triple}
use Rattle.inf_base.proofs.Same.{same_call, same_call_self, same_id}
use Rattle.inf_content.specs.Contents.{bearer, bearer_or, content_at, content_of_id, empty_content, if_born, slots_found}
use Rattle.inf_content.specs.Slot.{filled, reserves}
use Rattle.inf_content.specs.Slots.{first, slot_in}
use Rattle.inf_duty.specs.World.{World}
use Rattle.inf_laws_history.specs.Flight.{InFlight, bears, is_of, is_taken, is_unlinked, was_linked}
use Rattle.inf_laws_history.specs.Kept.{Kept}
use Rattle.inf_laws_history.specs.Legal.{Legal, MayServe, server_after}
use Rattle.inf_laws_history.specs.Objects.{service_of}
use Rattle.inf_laws_history.specs.Sites.{site_of}
use Rattle.inf_message.specs.declared.event.Event.{Event}
use Rattle.inf_message.specs.declared.event.Event.TheVariants as event
use Rattle.inf_message.specs.declared.reply.Reply.{Reply}
use Rattle.inf_message.specs.declared.request.Request.TheVariants as request
use Rattle.inf_message.specs.History.{Posted}
use Rattle.inf_message.proofs.HistoryLaws.{asked_within}
use Rattle.inf_server.specs.State.{State, is_here, root_id}
use Rattle.inf_laws_directory.specs.Objects.{content_in, slots_kept}
use Rattle.inf_laws_directory.specs.Owned.{Has, HasPlace, IsLinkedSomewhere, Links}
use Rattle.inf_laws_directory.specs.Phases.{IsLoose, IsReserving, IsSealing, Phase, has_made, has_reserved, has_sealed, has_unlinked, idle}
use Rattle.inf_laws_directory.specs.Things.{a_dir, thing_in}
use Rattle.inf_laws_server.specs.Passed.{IsAsked}
use Rattle.inf_laws_directory.proofs.ServedSlots.{slots_in_order}
use Rattle.inf_laws_directory.proofs.SlotFacts.{first_is_changed, first_passes}
use Rattle.inf_laws_history.proofs.AgainCauses.{acts, content_there, flies, found_at, last_of_three, same_client, sealing}
use Rattle.inf_laws_history.proofs.BlockedRequests.{is_of_self}
use Rattle.inf_laws_history.proofs.ClashCauses.{found_id, same_triple_self}
use Rattle.inf_duty.proofs.BegunKept.{if_both}
use Rattle.inf_laws_history.proofs.ContentBirths.{IsBirth, WasMade, births_after, each_server, so_found}
use Rattle.inf_laws_history.proofs.LinkBirths.{AllMade, IsMadeAt, StandsAsMade, found_made, made_still, served_made}
use Rattle.inf_laws_history.proofs.PastLinks.{asker_links, asker_makes, made_by, never_linked}
use Rattle.inf_server.specs.Chains.{last_of}

-- ---- links

dir_is : (dir : DirRef) (contents : List Content) (content : Content) → content_at dir contents ≡ Some content → content.dir ≡ dir
dir_is dir contents content is =
    let id_is : dir.id ≡ content.dir.id = found_id dir.id contents content (found_at dir contents content is) in
    ap₂ (λ i b. record { id = i; born = b }) (sym id_is) (by (content_of_id dir.id contents) is)
  where
    by_birth : (c : Content) (b : Bool) → (c.dir.born == dir.born) ≡ b → cond b (Some c) None ≡ Some content → content.dir.born ≡ dir.born
    by_birth c true same it = let one : c ≡ content = cc in sym (ap (λ (x : Content). x.dir.born) one) ∙ (Decides-eqb c.dir.born dir.born).0 same
    by_birth c false apart it = cc

    by : (found : Option Content) → if_born dir.born found ≡ Some content → content.dir.born ≡ dir.born
    by None it = cc
    by (Some c) it = by_birth c (c.dir.born == dir.born) refl it

module _ (world : World) (h : List Event) (kept : Kept world h) (legal : Legal world h) (number place : ℕ) (given : Reply) (may : MayServe world h number place given) where
  abbrev from : CallRef
  from = may.posted.ask.from

  -- what a call links is of the name that it keeps
  links_made : (chain : List Entry) (name : List ℕ) (dir : DirRef) (mode : ℕ) → may.posted.ask.request ≡ request.Link chain name dir mode
      → (entry : Entry) → IsAsked (site_of world number) (server_after world number h) may.posted.ask.from (last_of chain) (chain ∷ []) entry → (content : Content)
      → content_at (dir_of entry.access) (server_after world number h).contents ≡ Some content
      → (found : List ℕ × Slot) → first (reserves may.posted.ask.from) content.slots ≡ Some found
      → StandsAsMade h content.dir found.0 (filled (Some (dir, mode, may.posted.ask.caller)) found.1)
  links_made chain name dir mode is entry is_asked content at found first_is =
      let there = content_there world h kept number (dir_of entry.access) content is_asked.here at in
      let sorted = slots_in_order (service_of world) kept.objects kept.standing.owned.order (dir_of entry.access) content there in
      by_slot (ap (λ (o : Option Content). slot_in found.0 (slots_found o)) there) found.1
      (first_is_changed (reserves from) (λ slot. slot) content.slots found sorted first_is).old (first_passes (reserves from) content.slots found first_is)
    where
      by_slot : slot_in found.0 (slots_kept (service_of world) kept.objects (dir_of entry.access)) ≡ slot_in found.0 content.slots → (slot : Slot)
          → slot_in found.0 content.slots ≡ Some slot → reserves from slot ≡ true
          → StandsAsMade h content.dir found.0 (filled (Some (dir, mode, may.posted.ask.caller)) slot)
      by_slot same_slots (reserved other access) stands own =
          let has = asker_links world h kept legal number place given may chain name dir mode is in
          let was = made_by world h kept legal from has.parent has.name (triple.Of has.parent.id has.name has.version) dir has.phase_is in
          let own_slot : slot_in found.0 (slots_kept (service_of world) kept.objects (dir_of entry.access)) ≡ Some (reserved from access) =
          same_slots ∙ stands ∙ ap (λ (c : CallRef). Some (reserved c access)) (same_call other from own) in
          let keeps = subst (λ (p : Phase). IsReserving p (dir_of entry.access) found.0) has.phase_is
          (kept.standing.owned.reservations (dir_of entry.access) found.0 from access own_slot) in
          let parent_is : has.parent ≡ content.dir = keeps.0 ∙ sym (dir_is (dir_of entry.access) (server_after world number h).contents content at) in
          record {
            version = has.version;
            posted = was.posted;
            asked = was.asked;
            makes = was.makes ∙ ap₂ (λ (d : DirRef) n. request.Make (triple.Of d.id n has.version)) parent_is keeps.1;
          }
      by_slot same_slots (file meta held) stands own = cc
      by_slot same_slots (directory access held) stands own = cc

module _ (world : World) (keeps : (h : List Event) → Legal world h → Kept world h) where
  abbrev HasLinks : ℕ → List Event → State → Type 0
  HasLinks number h state = AllMade h state.contents

  -- each directory stands where it was born
  pub links_after : (h : List Event) → Legal world h → (number : ℕ) → AllMade h (server_after world number h).contents
  links_after =
      each_server world HasLinks
      (λ number. if_both (HasLinks number []) (is_here (site_of world number) (root_id (site_of world number))) _ _ (tt, tt) tt)
      (λ number e h state all. made_still e h state.contents all)
      (λ number h legal place given may all.
      made_still (event.Serve number place given) h may.after.contents
      (served_made h (site_of world number) (server_after world number h) place may.posted.ask all
      (links_made world h (keeps h legal) legal number place given may) given may.after may.reply))

-- ---- where a directory stands

-- a slot that stands in a directory stands in its content object
record InContent (world : World) (h : List Event) (kept : Kept world h) (dir : DirRef) (name : List ℕ) (slot : Slot) : Type 0 where
  content : Content
  there : content_in (service_of world) kept.objects dir ≡ Some content
  stands : slot_in name content.slots ≡ Some slot

in_content : (world : World) (h : List Event) (kept : Kept world h) (dir : DirRef) (name : List ℕ) (slot : Slot) (found : Option Content)
    → content_in (service_of world) kept.objects dir ≡ found → slot_in name (slots_found found) ≡ Some slot → InContent world h kept dir name slot
in_content world h kept dir name slot None there is = cc
in_content world h kept dir name slot (Some content) there is = record { content = content; there = there; stands = is }

record HasLink (slot : Option Slot) (access : Access) : Type 0 where
  held : Option _
  is : slot ≡ Some (directory access held)

has_link : (slot : Option Slot) (access : Access) → thing_in slot ≡ Some (a_dir access) → HasLink slot access
has_link None access is = cc
has_link (Some (reserved by other)) access is = cc
has_link (Some (file meta held)) access is = cc
has_link (Some (directory other held)) access is =
    let same : other ≡ access = cc in
    record { held = held; is = ap (λ (a : Access). Some (directory a held)) same }

pub same_triple : (a b : Triple) → is_same_triple a b ≡ true → a ≡ b
same_triple triple.Root triple.Root is = refl
same_triple triple.Root (triple.Of parent name version) is = cc
same_triple (triple.Of parent name version) triple.Root is = cc
same_triple (triple.Of parent name version) (triple.Of p n v) is = by (is_same_id parent p) (bytes_eq name n) (version == v) refl refl refl is
  where
    by : (a b c : Bool) → is_same_id parent p ≡ a → bytes_eq name n ≡ b → (version == v) ≡ c → (a && b && c) ≡ true → triple.Of parent name version ≡ triple.Of p n v
    by true true true one two three all =
        let i : parent ≡ p = same_id parent p one in
        let j : name ≡ n = (bytes_eq-Decides name n).0 two in
        let k : version ≡ v = (Decides-eqb version v).0 three in
        cc
    by true true false one two three all = cc
    by true false c one two three all = cc
    by false b c one two three all = cc

module _ (world : World) (keeps : (h : List Event) → Legal world h → Kept world h) (h : List Event) (legal : Legal world h) where
  abbrev kept : Kept world h
  kept = keeps h legal

  -- a link is of a directory of that place
  link_made : (parent : DirRef) (name : List ℕ) (access : Access) → Links (content_in (service_of world) kept.objects) parent name access
      → IsMadeAt h access.born parent.id name
  link_made parent name access linked =
      let link = has_link (slot_in name (slots_kept (service_of world) kept.objects parent)) access linked in
      let inside = in_content world h kept parent name (directory access link.held) (content_in (service_of world) kept.objects parent) refl link.is in
      let number : ℕ = server_of parent.id world.setup.servers in
      let there : content_at parent (server_after world number h).contents ≡ Some inside.content =
      ap (λ (s : State). content_at parent s.contents) (sym (kept.states number)) ∙ inside.there in
      let made : IsMadeAt h access.born inside.content.dir.id name =
      found_made h parent.id (server_after world number h).contents inside.content (links_after world keeps h legal number)
      (found_at parent (server_after world number h).contents inside.content there) name (directory access link.held) inside.stands in
      subst (λ (d : DirRef). IsMadeAt h access.born d.id name) (dir_is parent (server_after world number h).contents inside.content there) made

  -- two directories of one identifier, in both of which something stands, are one
  same_parent : (one two : DirRef) (name : List ℕ) (first second : Slot) → one.id ≡ two.id
      → slot_in name (slots_kept (service_of world) kept.objects one) ≡ Some first → slot_in name (slots_kept (service_of world) kept.objects two) ≡ Some second
      → one ≡ two
  same_parent one two name first second ids is it =
      let a = in_content world h kept one name first (content_in (service_of world) kept.objects one) refl is in
      let b = in_content world h kept two name second (content_in (service_of world) kept.objects two) refl it in
      let found : content_of_id one.id (kept.objects (server_of one.id world.setup.servers)).contents ≡ Some a.content =
      found_at one (kept.objects (server_of one.id world.setup.servers)).contents a.content a.there in
      let other : content_of_id two.id (kept.objects (server_of two.id world.setup.servers)).contents ≡ Some b.content =
      found_at two (kept.objects (server_of two.id world.setup.servers)).contents b.content b.there in
      let again : content_of_id two.id (kept.objects (server_of two.id world.setup.servers)).contents ≡ Some a.content =
      subst (λ (i : Id). content_of_id i (kept.objects (server_of i world.setup.servers)).contents ≡ Some a.content) ids found in
      let same : a.content ≡ b.content = cc in
      sym (dir_is one (kept.objects (server_of one.id world.setup.servers)).contents a.content a.there)
      ∙ (ap (λ (c : Content). c.dir) same ∙ dir_is two (kept.objects (server_of two.id world.setup.servers)).contents b.content b.there)

  -- the maker of a directory that it has not linked yet
  record IsMaker (by : CallRef) (dir : DirRef) : Type 0 where
    parent : DirRef
    name : List ℕ
    birth : Triple
    phase_is : kept.phases by ≡ has_made parent name birth dir

  module _ (number place : ℕ) (given : Reply) (may : MayServe world h number place given) (birth : Triple)
      (makes : may.posted.ask.request ≡ request.Make birth) (content : Content)
      (here : is_here (site_of world number) (identity world.digest birth) ≡ true)
      (there : content_of_id (identity world.digest birth) (server_after world number h).contents ≡ Some content)
      (same : content.triple ≡ birth) where
    abbrev asker : CallRef
    asker = may.posted.ask.from

    id_is : identity world.digest birth ≡ content.dir.id
    id_is = found_id (identity world.digest birth) (server_after world number h).contents content there

    is_birth : IsBirth world.digest h content.dir content.triple content.maker
    is_birth = so_found (IsBirth world.digest h) (identity world.digest birth) (server_after world number h).contents content (births_after world h legal number) there

    here_too : is_here (site_of world number) content.dir.id ≡ true
    here_too = subst (λ (i : Id). is_here (site_of world number) i ≡ true) id_is here

    at_dir : content_at content.dir (server_after world number h).contents ≡ Some content
    at_dir =
        let self = (Decides-eqb content.dir.born content.dir.born).1 refl in
        ap (if_born content.dir.born) (subst (λ (i : Id). content_of_id i (server_after world number h).contents ≡ Some content) id_is there)
        ∙ ap (λ (b : Bool). cond b (Some content) None) self

    in_service : content_in (service_of world) kept.objects content.dir ≡ Some content
    in_service = content_there world h kept number content.dir content here_too at_dir

    -- it was made, and is no root
    was_made : WasMade h content.dir.born content.triple content.maker
    was_made = by is_birth.origin
      where
        by : ((content.dir.born ≡ 0) × (content.triple ≡ triple.Root)) ⊎ WasMade h content.dir.born content.triple content.maker
            → WasMade h content.dir.born content.triple content.maker
        by (inl first) =
            let keeps_name = asker_makes world h kept legal number place given may birth makes in
            absurd (let unlike : triple.Of keeps_name.parent.id keeps_name.name keeps_name.version ≡ triple.Root =
            sym keeps_name.birth_is ∙ (sym same ∙ first.1) in cc)
        by (inr was) = was

    no_root : content.dir ≡ dir_of kept.root → ⊥
    no_root is =
        let within = asked_within content.dir.born was_made.posted h was_made.asked in
        let zero_is : content.dir.born ≡ 0 = ap (λ (d : DirRef). d.born) (is ∙ kept.root_stands.of_root) in
        absurd (omega (arith, within.counted, zero_is))

    -- it is linked nowhere, for its place is kept for the asking call
    no_link : IsLinkedSomewhere (content_in (service_of world) kept.objects) content.dir → ⊥
    no_link link =
        let keeps_name = asker_makes world h kept legal number place given may birth makes in
        let has = subst (λ (p : Phase). Has (service_of world) kept.objects asker p) keeps_name.phase_is (kept.standing.owned.has asker) in
        let made : IsMadeAt h content.dir.born link.parent.id link.name =
        subst (λ (d : DirRef). IsMadeAt h d.born link.parent.id link.name) link.same (link_made link.parent link.name link.access link.linked) in
        let one : made.posted ≡ was_made.posted = let a = made.asked in let b = was_made.asked in cc in
        let births : request.Make (triple.Of link.parent.id link.name made.version) ≡ request.Make (triple.Of keeps_name.parent.id keeps_name.name keeps_name.version) =
        sym made.makes ∙ (ap (λ (p : Posted). p.ask.request) one ∙ (was_made.makes ∙ ap request.Make (same ∙ keeps_name.birth_is))) in
        let ids : link.parent.id ≡ keeps_name.parent.id = cc in
        let names : link.name ≡ keeps_name.name = cc in
        let slot = has_link (slot_in link.name (slots_kept (service_of world) kept.objects link.parent)) link.access link.linked in
        let there_too : slot_in keeps_name.name (slots_kept (service_of world) kept.objects link.parent) ≡ Some (directory link.access slot.held) =
        subst (λ n. slot_in n (slots_kept (service_of world) kept.objects link.parent) ≡ Some (directory link.access slot.held)) names slot.is in
        let parents : link.parent ≡ keeps_name.parent =
        same_parent link.parent keeps_name.parent keeps_name.name (directory link.access slot.held) (reserved asker has.access) ids there_too has.slot in
        let both : slot_in keeps_name.name (slots_kept (service_of world) kept.objects keeps_name.parent) ≡ Some (directory link.access slot.held) =
        subst (λ (d : DirRef). slot_in keeps_name.name (slots_kept (service_of world) kept.objects d) ≡ Some (directory link.access slot.held)) parents there_too in
        let kept_slot = has.slot in
        absurd cc

    -- so that it is in the hands of the call that made it, where it is not sealed
    maker_of : (call : CallRef) (phase : Phase) → kept.phases call ≡ phase → IsLoose phase content.dir → content.seal ≡ None → IsMaker content.maker content.dir
    maker_of call idle is loose free = absurd loose
    maker_of call (has_reserved parent name kept_birth) is loose free = absurd loose
    maker_of call (has_made parent name kept_birth made) is loose free =
        let has = subst (λ (p : Phase). Has (service_of world) kept.objects call p) is (kept.standing.owned.has call) in
        let found : content_in (service_of world) kept.objects content.dir ≡ Some (empty_content made.id made.born kept_birth call) =
        subst (λ (d : DirRef). content_in (service_of world) kept.objects d ≡ Some (empty_content made.id made.born kept_birth call)) loose has.1 in
        let one : content ≡ empty_content made.id made.born kept_birth call = let two = in_service in cc in
        let maker_is : content.maker ≡ call = ap (λ (c : Content). c.maker) one in
        record { parent = parent; name = name; birth = kept_birth; phase_is = ap kept.phases maker_is ∙ (is ∙ ap (has_made parent name kept_birth) loose) }
    maker_of call (has_sealed parent name target) is loose free = absurd loose
    maker_of call (has_unlinked target) is loose free =
        let has = subst (λ (p : Phase). Has (service_of world) kept.objects call p) is (kept.standing.owned.has call) in
        let found : content_in (service_of world) kept.objects content.dir ≡ Some has.0.content =
        subst (λ (d : DirRef). content_in (service_of world) kept.objects d ≡ Some has.0.content) loose has.0.there in
        let one : content ≡ has.0.content = let two = in_service in cc in
        let sealed : content.seal ≡ Some call = ap (λ (c : Content). c.seal) one ∙ has.0.seal in
        absurd cc

    maker_in : content.seal ≡ None → HasPlace (content_in (service_of world) kept.objects) kept.root kept.phases content.dir → IsMaker content.maker content.dir
    maker_in free (inl root) = absurd (no_root root)
    maker_in free (inr (inl link)) = absurd (no_link link)
    maker_in free (inr (inr loose)) = maker_of loose.call (kept.phases loose.call) refl loose.loose free

    is_maker : content.seal ≡ None → IsMaker content.maker content.dir
    is_maker free = maker_in free (kept.standing.owned.placed content.dir (ap is_some in_service))

    -- ---- the call in the way

    -- what bears it: the call sealed it, or made it
    pub record IsBearing (by : CallRef) : Type 0 where
      pub acts : kept.phases by ≢ idle
      pub flies_now : InFlight world h by
      pub is_other : by.client ≢ may.posted.ask.from.client
      pub touched : bears by birth content ≡ true

    not_asker : (by : CallRef) → kept.phases by ≢ idle → ((parent : DirRef) (name : List ℕ) (b : Triple) → kept.phases by ≡ has_reserved parent name b → ⊥)
        → by.client ≢ may.posted.ask.from.client
    not_asker by acts unlike clients =
        let is : by ≡ asker = same_client world h kept number place given may by acts clients in
        let keeps_name = asker_makes world h kept legal number place given may birth makes in
        unlike keeps_name.parent keeps_name.name birth (ap kept.phases is ∙ keeps_name.phase_is)

    and_true : (a b : Bool) → a ≡ true → b ≡ true → (a && b) ≡ true
    and_true true b one two = two
    and_true false b one two = one

    self_triple : is_same_triple birth content.triple ≡ true
    self_triple = subst (λ (t : Triple). is_same_triple birth t ≡ true) (sym same) (same_triple_self birth)

    by_sealer : (sealer : CallRef) → content.seal ≡ Some sealer → IsBearing sealer
    by_sealer sealer sealed =
        let it = sealing world h kept number content.dir sealer (record { content = content; here = here_too; there = at_dir; seal = sealed }) in
        let seals : is_of sealer content.seal ≡ true = ap (is_of sealer) sealed ∙ is_of_self sealer in
        record {
          acts = λ none. subst (λ (p : Phase). IsSealing p content.dir) none it;
          flies_now = flies world h number sealer content.dir.id (identity world.digest birth) content here_too there
              (let others = seals in rw others refl);
          is_other = not_asker sealer (λ none. subst (λ (p : Phase). IsSealing p content.dir) none it)
              (λ parent name b is. subst (λ (p : Phase). IsSealing p content.dir) is it);
          touched = and_true (is_same_triple birth content.triple) _ self_triple (let others = seals in rw others refl);
        }

    by_maker : content.seal ≡ None → IsBearing content.maker
    by_maker free =
        let maker = is_maker free in
        let acts : kept.phases content.maker ≢ idle = λ none. (let unlike : has_made maker.parent maker.name maker.birth content.dir ≡ idle = sym maker.phase_is ∙ none in cc) in
        let unlinked : was_linked content.dir h ≡ false = never_linked world keeps h legal content.maker content.triple content.dir acts was_made in
        let self = same_call_self content.maker in
        record {
          acts = acts;
          flies_now = flies world h number content.maker content.dir.id (identity world.digest birth) content here_too there
              (last_of_three (is_of content.maker content.seal) (list_any (λ (e : List ℕ × Slot). is_taken content.maker e.1) content.slots)
              (is_unlinked content.maker h content) (and_true (is_same_call content.maker content.maker) _ self (ap not unlinked)));
          is_other = not_asker content.maker acts (λ parent name b is.
              (let unlike : has_made maker.parent maker.name maker.birth content.dir ≡ has_reserved parent name b = sym maker.phase_is ∙ is in cc));
          touched = and_true (is_same_triple birth content.triple) _ self_triple (rw free self);
        }

    by_bearer : (by : CallRef) (seal : Option CallRef) → content.seal ≡ seal → bearer_or content.maker seal ≡ by → IsBearing by
    by_bearer by None free is = subst IsBearing is (by_maker free)
    by_bearer by (Some sealer) sealed is = subst IsBearing is (by_sealer sealer sealed)

    pub bearing : (by : CallRef) → bearer content ≡ by → IsBearing by
    bearing by is = by_bearer by content.seal refl is
