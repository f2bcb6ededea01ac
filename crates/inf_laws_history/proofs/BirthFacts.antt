-- Where directories come from: the Ask of each was served, so that nothing is of the place of an Ask that waits.
use Rattle.std.proofs.Common.{◌≡◌, ◌⊎◌, inl, inr, ℕ, true, false, List, ◌∷◌, Option, Some, None, is_some, refl, sym, ap, ◌∙◌, subst}
use Rattle.std.proofs.lemmas.Bool.{both_ways, or_right}
use Rattle.inf_base.specs.declared.access.Access.{Access}
use Rattle.inf_base.specs.declared.directory.DirRef.{DirRef}
use Rattle.inf_base.specs.Content.{Content}
use Rattle.inf_base.specs.Same.{dir_of}
use Rattle.inf_content.specs.Order.{AreInOrder}
use Rattle.inf_duty.specs.World.{World}
use Rattle.inf_message.specs.declared.ask.Ask.{Ask}
use Rattle.inf_message.specs.declared.event.Event.{Event}
use Rattle.inf_message.specs.declared.event.Event.TheVariants as event
use Rattle.inf_message.specs.declared.reply.Reply.{Reply}
use Rattle.inf_message.specs.History.{is_served, serves}
use Rattle.inf_message.proofs.HistoryLaws.{itself}
use Rattle.inf_server.specs.Machine.{Serves}
use Rattle.inf_server.specs.State.{State}
use Rattle.inf_laws_directory.specs.Born.{IsBornBy}
use Rattle.inf_laws_directory.specs.Objects.{Objects, content_in, site_in, with_state}
use Rattle.inf_laws_directory.specs.Owned.{AreOwned}
use Rattle.inf_laws_directory.specs.Phases.{Phases}
use Rattle.inf_laws_directory.specs.Told.{IsUnborn}
use Rattle.inf_laws_directory.proofs.BornContents.{born_at_the_ask}
use Rattle.inf_laws_history.specs.Objects.{AreBorn, IsBorn, service_of}

-- what was born stays born
pub born_more : (e : Event) (h : List Event) (born : ℕ) → IsBorn h born → IsBorn (e ∷ h) born
born_more e h born (inl none) = inl none
born_more e h born (inr served) = inr (or_right (serves born e) (is_served born h) served)

-- the place of an Ask is one once that is served
pub born_now : (number place : ℕ) (given : Reply) (h : List Event) → IsBorn (event.Serve number place given ∷ h) place
born_now number place given h = inr (let here = itself place in rw here refl)

-- no Ask that waits is the birth of anything
pub not_born : (h : List Event) (born place : ℕ) → is_served place h ≡ false → (place ≡ 0 → ⊥) → IsBorn h born → born ≡ place → ⊥
not_born h born place waits counted (inl none) same = counted (sym same ∙ none)
not_born h born place waits counted (inr served) same = both_ways (is_served place h) waits (subst (λ (b : ℕ). is_served b h ≡ true) same served)

module _ (world : World) (h : List Event) (objects : Objects) (place : ℕ) (waits : is_served place h ≡ false) (counted : place ≡ 0 → ⊥)
    (born : AreBorn world objects h) where
  not_there : (dir : DirRef) (found : Option Content) → content_in (service_of world) objects dir ≡ found → dir.born ≡ place → found ≡ None
  not_there dir None is same = refl
  not_there dir (Some content) is same = absurd (not_born h dir.born place waits counted (born dir (ap is_some is)) same)

  pub unborn : (root : Access) (phases : Phases) → AreOwned (service_of world) objects root phases → IsUnborn (service_of world) objects place
  unborn root phases owned = record {
    contents = λ dir same. not_there dir (content_in (service_of world) objects dir) refl same;
    links = λ parent name access linked same.
        not_born h access.born place waits counted (born (dir_of access) (owned.linked_kept parent name access linked)) same;
  }

-- what a Serve leaves was there before, or is born at its Ask
pub born_served : (world : World) (h : List Event) (objects : Objects) (number place : ℕ) (ask : Ask) (given : Reply) (new : State)
    → AreInOrder (objects number).contents → Serves (site_in (service_of world) number) (objects number) place ask given new
    → AreBorn world objects h → AreBorn world (with_state number new objects) (event.Serve number place given ∷ h)
born_served world h objects number place ask given new ordered replies born = λ dir there.
    by dir (born_at_the_ask (service_of world) objects number place ask given new ordered replies dir there)
  where
    by : (dir : DirRef) → (is_some (content_in (service_of world) objects dir) ≡ true) ⊎ ((dir.born ≡ place) × IsBornBy ask.request given)
        → IsBorn (event.Serve number place given ∷ h) dir.born
    by dir (inl before) = born_more (event.Serve number place given) h dir.born (born dir before)
    by dir (inr now) = subst (λ (b : ℕ). IsBorn (event.Serve number place given ∷ h) b) (sym now.0) (born_now number place given h)
