-- Why a directory is not made: another one is kept that has its identifier.
use Rattle.std.proofs.Common.{◌≡◌, ◌≢◌, ℕ, Bool, true, false, cond, List, [], ◌∷◌, Some, refl, sym, ap, ◌∙◌, subst}
use Rattle.std.proofs.lemmas.Bool.Decides.{Decides-eqb}
use Rattle.inf_base.specs.declared.id.Id.{Id}
use Rattle.inf_base.specs.declared.triple.Triple.{Triple}
use Rattle.inf_base.specs.declared.triple.Triple.TheVariants as triple
use Rattle.inf_base.specs.Content.{Content}
use Rattle.inf_base.specs.Identity.{identity}
use Rattle.inf_base.specs.Same.{is_same_id, is_same_triple}
use Rattle.inf_base.proofs.Same.{same_id, same_id_self, same_name_self}
use Rattle.inf_content.specs.Contents.{content_of_id}
use Rattle.inf_duty.specs.World.{World}
use Rattle.inf_laws_server.specs.Replies.{IsOther}
use Rattle.inf_laws_server.proofs.Serves.{clashed, may_reply}
use Rattle.inf_laws_history.specs.Causes.{IsClashBecause, KeepsBirth, before}
use Rattle.inf_laws_history.specs.Legal.{Legal, MayServe, server_after}
use Rattle.inf_laws_history.specs.Sites.{site_of}
use Rattle.inf_message.specs.declared.call_result.CallResult.{CallResult}
use Rattle.inf_message.specs.declared.event.Event.{Event}
use Rattle.inf_message.specs.declared.reply.Reply.TheVariants as reply
use Rattle.inf_message.specs.declared.request.Request.TheVariants as request
use Rattle.inf_message.specs.History.{Posted}
use Rattle.inf_laws_history.proofs.ContentBirths.{IsBirth, births_after, so_found}
use Rattle.inf_laws_history.proofs.ResultCauses.{IsClashFor, serve_may}

pub found_id : (id : Id) (contents : List Content) (content : Content) → content_of_id id contents ≡ Some content → id ≡ content.dir.id
found_id id [] content is = cc
found_id id (c ∷ cs) content is = by (is_same_id id c.dir.id) refl is (found_id id cs content)
  where
    by : (b : Bool) → is_same_id id c.dir.id ≡ b → cond b (Some c) (content_of_id id cs) ≡ Some content
        → (content_of_id id cs ≡ Some content → id ≡ content.dir.id) → id ≡ content.dir.id
    by true same here later = let one : c ≡ content = cc in same_id id c.dir.id same ∙ ap (λ (x : Content). x.dir.id) one
    by false apart here later = later here

pub same_triple_self : (t : Triple) → is_same_triple t t ≡ true
same_triple_self triple.Root = refl
same_triple_self (triple.Of parent name version) =
    let one = same_id_self parent in
    let two = same_name_self name in
    let three = (Decides-eqb version version).1 refl in
    rw (one, two, three) refl

unlike_by : (own kept found : Triple) → own ≡ kept → found ≡ kept → is_same_triple found own ≡ false → ⊥
unlike_by own kept found equal is unlike =
    let self = same_triple_self own in
    let one : is_same_triple own own ≡ false = subst (λ (t : Triple). is_same_triple t own ≡ false) (is ∙ sym equal) unlike in
    cc

-- where another directory of the identifier is kept, both births have it
module _ (world : World) (h : List Event) (legal : Legal world h) (number ask_place : ℕ) (own kept : Triple)
    (may : MayServe world h number ask_place (reply.Clash kept)) (makes : may.posted.ask.request ≡ request.Make own) where
  other : IsOther (site_of world number) (server_after world number h) own kept
  other =
      clashed (site_of world number) (server_after world number h) may.posted.ask (request.Make own) kept
      (may_reply (site_of world number) (server_after world number h) ask_place may.posted.ask (reply.Clash kept) may.after may.reply
      (request.Make own) (reply.Clash kept) makes refl)

  keeps_birth : KeepsBirth (server_after world number h) (identity world.digest own) kept
  keeps_birth = record { content = other.content; found = other.there; is_born = other.kept_is }

  clash_unlike : own ≢ kept
  clash_unlike equal = unlike_by own kept other.content.triple equal other.kept_is other.apart

  is_birth : IsBirth world.digest h other.content.dir other.content.triple other.content.maker
  is_birth =
      so_found (IsBirth world.digest h) (identity world.digest own) (server_after world number h).contents other.content (births_after world h legal number)
      other.there

  same_identity : identity world.digest own ≡ identity world.digest kept
  same_identity =
      let found : identity world.digest own ≡ other.content.dir.id =
      found_id (identity world.digest own) (server_after world number h).contents other.content other.there in
      let identifies : other.content.dir.id ≡ identity world.digest other.content.triple = is_birth.identifies in
      found ∙ (identifies ∙ ap (identity world.digest) other.kept_is)

-- a result that was told of a clash is of two births
pub clash_is_of_two_births : (world : World) (h : List Event) → Legal world h → (result : CallResult) (own kept : Triple)
    → IsClashFor h result.call own kept result.place → IsClashBecause world h result own kept
clash_is_of_two_births world h legal result own kept is =
    let legally = serve_may world h legal is.place is.number is.ask_place (reply.Clash kept) is.told in
    let same : legally.1.posted ≡ is.posted = let one = legally.1.made in let two = is.asked in cc in
    let makes : legally.1.posted.ask.request ≡ request.Make own = ap (λ (p : Posted). p.ask.request) same ∙ is.makes in
    record {
      at = record { number = is.number; ask_place = is.ask_place; serve_place = is.place };
      placed = is.placed;
      posted = is.posted;
      served = record { told = is.told; asked = is.asked };
      caller = is.caller;
      makes = is.makes;
      unlike = clash_unlike world (before is.place h) legally.0 is.number is.ask_place own kept legally.1 makes;
      clash = same_identity world (before is.place h) legally.0 is.number is.ask_place own kept legally.1 makes;
      keeps = keeps_birth world (before is.place h) legally.0 is.number is.ask_place own kept legally.1 makes;
    }
