-- What makes a directory, gone through.
use Rattle.std.proofs.Common.{◌≡◌, inl, inr, ℕ, Bool, true, false, cond, List, [], ◌∷◌, Option, Some, None, is_some, Result, Ok, Err, refl, subst}
use Rattle.inf_base.specs.declared.caller.CallRef.{CallRef}
use Rattle.inf_base.specs.declared.directory.DirRef.{DirRef}
use Rattle.inf_base.specs.declared.entry.Entry.{Entry}
use Rattle.inf_base.specs.declared.id.Id.{Id}
use Rattle.inf_base.specs.declared.triple.Triple.{Triple}
use Rattle.inf_base.specs.Checks.{check}
use Rattle.inf_base.specs.Content.{Content}
use Rattle.inf_base.specs.Identity.{identity}
use Rattle.inf_base.specs.Same.{dir_of, is_same_triple}
use Rattle.inf_content.specs.Contents.{bearer, content_of_id, made_of, slots_at}
use Rattle.inf_content.specs.Slot.{reserves}
use Rattle.inf_content.specs.Slots.{first}
use Rattle.inf_content.specs.declared.made.Made.{Made}
use Rattle.inf_content.specs.declared.made.Made.TheVariants as made
use Rattle.inf_message.specs.declared.ask.Ask.{Ask}
use Rattle.inf_message.specs.declared.reply.Reply.{Reply}
use Rattle.inf_message.specs.declared.reply.Reply.TheVariants as reply
use Rattle.inf_message.specs.declared.reply.Spot.TheVariants as spot
use Rattle.inf_message.specs.declared.request.Request.{Request}
use Rattle.inf_message.specs.declared.request.Request.TheVariants as request
use Rattle.inf_server.specs.Chains.{last_of}
use Rattle.inf_server.specs.Births.{cancel, link, make, reserve, unless_there}
use Rattle.inf_server.specs.State.{Site, State, is_here}
use Rattle.inf_laws_server.specs.Replies.{Fails}
use Rattle.inf_laws_server.proofs.Asked.{at_directory}
use Rattle.inf_laws_server.proofs.Files.{new_name_comes}
use Rattle.inf_laws_server.proofs.Came.{Came, Did}
use Rattle.inf_laws_server.proofs.Walking.{behind_check, behind_unit}

-- nothing of the identifier is there where a directory can be made
pub is_new : (birth : Triple) (found : Option Content) → unless_there (made_of birth found) ≡ Ok tt → found ≡ None
is_new birth None is = refl
is_new birth (Some c) is = absurd (by (is_same_triple c.triple birth) is)
  where
    by : (b : Bool) → unless_there (cond b (made.Bearer (bearer c)) (made.Clash c.triple)) ≡ Ok tt → ⊥
    by true is = cc
    by false is = cc

module _ (site : Site) (state : State) (place : ℕ) (ask : Ask) where
  pub reserve_comes : (chain : List Entry) (name : List ℕ) → Came site state place ask (request.Reserve chain name)
      (reserve site state ask chain name)
  reserve_comes chain name =
      new_name_comes site state place ask (request.Reserve chain name) refl tt chain name (λ by at blocks. blocks)
      (λ error denies. denies) _
      (λ may. record { passed = may; said = refl; did = refl; succeeds = refl })

  -- ---- the content object

  module _ (birth : Triple) (here : is_here site (identity site.digest birth) ≡ true) where
    abbrev why : Reply → Type 0
    why = Fails site state ask (request.Make birth)

    abbrev id : Id
    id = identity site.digest birth

    kept_fails : (content : Content) → content_of_id id state.contents ≡ Some content → (b : Bool)
        → is_same_triple content.triple birth ≡ b
        → (given : Reply) → unless_there (cond b (made.Bearer (bearer content)) (made.Clash content.triple)) ≡ Err given
        → why given
    kept_fails content there true same given refused =
        let told : reply.Busy (bearer content) spot.Bearer 0 ≡ given = cc in
        subst why told (record {
          content = content;
          here = here;
          there = there;
          same = same;
          bearer_is = refl;
          spot_is = refl;
        })
    kept_fails content there false apart given refused =
        let told : reply.Clash content.triple ≡ given = cc in
        subst why told (record { content = content; here = here; there = there; apart = apart; kept_is = refl })

    there_fails : (found : Option Content) → content_of_id id state.contents ≡ found → (given : Reply)
        → unless_there (made_of birth found) ≡ Err given → why given
    there_fails None none given refused = cc
    there_fails (Some content) there given refused =
        kept_fails content there (is_same_triple content.triple birth) refl given refused

  pub make_comes : (birth : Triple) → Came site state place ask (request.Make birth) (make site state place ask birth)
  make_comes birth =
      let wanted = request.Make birth in
      let holds = Did site state place ask wanted in
      let found = content_of_id (identity site.digest birth) state.contents in
      behind_check (Fails site state ask wanted) holds (is_here site (identity site.digest birth)) reply.Other _
      (λ elsewhere. tt) (λ here.
      behind_unit (Fails site state ask wanted) holds (unless_there (made_of birth found)) _
      (there_fails birth here found refl) (λ is.
      record {
        passed = record { here = here; is_new = is_new birth found is };
        said = refl;
        did = refl;
        succeeds = refl;
      }))

  -- ---- the link

  pub link_comes : (chain : List Entry) (name : List ℕ) (dir : DirRef) (mode : ℕ)
      → Came site state place ask (request.Link chain name dir mode) (link site state ask chain dir mode)
  link_comes chain name dir mode =
      let wanted = request.Link chain name dir mode in
      let holds = Did site state place ask wanted in
      at_directory site state ask wanted refl tt holds (last_of chain) (chain ∷ []) _ (λ by at stops. stops)
      (λ entry is_asked.
      behind_check (Fails site state ask wanted) holds (is_some
      (first (reserves ask.from) (slots_at (dir_of entry.access) state.contents)))
      reply.Other _ (λ none. tt) (λ kept.
      record {
        passed = record { entry = entry; is_asked = is_asked; kept = kept };
        said = refl;
        did = refl;
        succeeds = refl;
      }))

  -- ---- and what undoes it

  pub cancel_comes : (dir : DirRef) → Came site state place ask (request.Cancel dir) (cancel site state ask dir)
  cancel_comes dir =
      behind_check (Fails site state ask (request.Cancel dir)) (Did site state place ask (request.Cancel dir))
      (is_here site dir.id) reply.Other _
      (λ elsewhere. elsewhere) (λ here. record {
        passed = record { here = here };
        said = refl;
        did = refl;
        succeeds = refl;
      })
