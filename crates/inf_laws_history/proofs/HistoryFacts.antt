-- Every legal history keeps what the first keeps.
use Rattle.std.proofs.Common.{◌≡◌, inl, ℕ, ◌==◌, Bool, true, false, if◌then◌else◌, List, [], ◌∷◌, Option, Some, None, slice_get, is_some, refl, sym}
use Rattle.std.proofs.lemmas.Bool.Decides.{Decides-eqb}
use Rattle.inf_base.specs.declared.access.Access.{Access}
use Rattle.inf_base.specs.declared.caller.CallRef.{CallRef}
use Rattle.inf_base.specs.declared.directory.DirRef.{DirRef}
use Rattle.inf_base.specs.declared.setup.ClientLine.{ClientLine}
use Rattle.inf_base.specs.Content.{Content}
use Rattle.inf_base.specs.Identity.{server_of}
use Rattle.inf_base.specs.Same.{is_same_id}
use Rattle.inf_content.specs.Contents.{content_at, if_born}
use Rattle.inf_duty.specs.Start.{nobody, starting, who_in}
use Rattle.inf_duty.specs.World.{World}
use Rattle.inf_duty.specs.ClientState.{ClientState}
use Rattle.inf_laws_client.specs.Paths.{KeepsToPath}
use Rattle.inf_laws_client.specs.Told.{KnowsOnly}
use Rattle.inf_laws_client.proofs.KnowsFacts.{idle_knows}
use Rattle.inf_laws_client.proofs.PathClients.{idle_keeps}
use Rattle.inf_laws_directory.specs.Objects.{Objects, Service, site_in}
use Rattle.inf_laws_directory.specs.Phases.{Phases, idle}
use Rattle.inf_laws_directory.specs.Standing.{IsStanding}
use Rattle.inf_laws_directory.specs.Root.{RootStands}
use Rattle.inf_laws_history.specs.Kept.{IsTrue, Kept}
use Rattle.inf_laws_history.specs.Legal.{Legal}
use Rattle.inf_laws_history.specs.Objects.{AreBorn, service_of}
use Rattle.inf_laws_history.proofs.AskSteps.{kept_ask}
use Rattle.inf_laws_history.proofs.AskedGroups.{group_starts}
use Rattle.inf_laws_history.proofs.PendingFacts.{pending_nothing}
use Rattle.inf_laws_history.proofs.PhaseFacts.{InHand, idle_in_hand}
use Rattle.inf_laws_history.proofs.ServeSteps.{kept_serve}
use Rattle.inf_laws_history.proofs.StepFacts.{ServedStands, is_kept}
use Rattle.inf_message.specs.declared.event.Event.{Event}
use Rattle.inf_message.specs.declared.event.Event.TheVariants as event
use Rattle.inf_server.specs.State.{Site, State, is_here, opening, root_access, root_content, root_id}
use Rattle.inf_tree.specs.Tree.{opening_tree}

abbrev opened : Service → Objects
opened service = λ number. opening (site_in service number)

abbrev none_in_hand : Phases
none_in_hand = λ call. idle

abbrev pub OpeningStands : Type 0
OpeningStands = (service : Service) (phases : Phases) → ((call : CallRef) → phases call ≡ idle)
    → IsStanding service (opened service) (root_access (site_in service 0)) opening_tree phases

abbrev pub RootOpens : Type 0
RootOpens = (service : Service) → RootStands service (opened service) (root_access (site_in service 0))

-- ---- the servers keep nothing but the root at first

born_as_content : (content : Content) (born : ℕ) (b : Bool) → (content.dir.born == born) ≡ b → is_some (if b then Some content else None) ≡ true
    → born ≡ content.dir.born
born_as_content content born true same there = sym ((Decides-eqb content.dir.born born).0 same)
born_as_content content born false same there = absurd cc

born_as_found : (content : Content) (born : ℕ) (b : Bool) → is_some (if_born born (if b then Some content else None)) ≡ true → born ≡ content.dir.born
born_as_found content born true there = born_as_content content born (content.dir.born == born) refl there
born_as_found content born false there = absurd cc

born_in_either : (dir : DirRef) (b : Bool) (here elsewhere : State) → (is_some (content_at dir here.contents) ≡ true → dir.born ≡ 0)
    → (is_some (content_at dir elsewhere.contents) ≡ true → dir.born ≡ 0)
    → is_some (content_at dir (if b then here else elsewhere).contents) ≡ true → dir.born ≡ 0
born_in_either dir true here elsewhere one other there = one there
born_in_either dir false here elsewhere one other there = other there

born_in_opening : (site : Site) (dir : DirRef) → is_some (content_at dir (opening site).contents) ≡ true → dir.born ≡ 0
born_in_opening site dir there =
    born_in_either dir (is_here site (root_id site)) _ _ (λ here. born_as_found (root_content site) dir.born (is_same_id dir.id (root_id site)) here)
    (λ nothing. absurd cc) there

module _ (opens : OpeningStands) (roots : RootOpens) (world : World) where
  abbrev objects : Objects
  objects = opened (service_of world)

  abbrev root : Access
  root = root_access (site_in (service_of world) 0)

  standing : IsStanding (service_of world) objects root opening_tree none_in_hand
  standing = opens (service_of world) none_in_hand (λ call. refl)

  born_nothing : AreBorn world objects []
  born_nothing dir there = inl (born_in_opening (site_in (service_of world) (server_of dir.id world.setup.servers)) dir there)

  abbrev Knows : ClientState → Type 0
  Knows = KnowsOnly (IsTrue world [] objects root none_in_hand)

  starts_knowing : (client : ℕ) (line : Option ClientLine) → Knows (starting world client line)
  starts_knowing client None = idle_knows (IsTrue world [] objects root none_in_hand) (who_in world client nobody) []
  starts_knowing client (Some line) = idle_knows (IsTrue world [] objects root none_in_hand) (who_in world client line.caller) line.calls

  starts_on_path : (client : ℕ) (line : Option ClientLine) → KeepsToPath (starting world client line)
  starts_on_path client None = idle_keeps (who_in world client nobody) []
  starts_on_path client (Some line) = idle_keeps (who_in world client line.caller) line.calls

  starts_in_hand : (client : ℕ) (line : Option ClientLine) → InHand world.digest none_in_hand (starting world client line)
  starts_in_hand client None = idle_in_hand world.digest none_in_hand (who_in world client nobody) [] (λ number. refl)
  starts_in_hand client (Some line) = idle_in_hand world.digest none_in_hand (who_in world client line.caller) line.calls (λ number. refl)

  kept_nothing : Kept world []
  kept_nothing = record {
    objects = objects;
    states = λ number. refl;
    tree = opening_tree;
    phases = none_in_hand;
    standing = standing;
    root = root;
    root_stands = roots (service_of world);
    born = born_nothing;
    replayed = refl;
    replays = tt;
    clients = λ client.
        is_kept world [] objects root none_in_hand client (starts_knowing client (slice_get world.setup.clients client))
        (starts_on_path client (slice_get world.setup.clients client)) (group_starts world client (slice_get world.setup.clients client))
        (starts_in_hand client (slice_get world.setup.clients client));
    others = λ call apart. refl;
    pending = pending_nothing world;
  }

  pub every_history : (stands : ServedStands) (h : List Event) → Legal world h → Kept world h
  every_history stands [] legal = kept_nothing
  every_history stands (event.Ask number ask ∷ h) legal = kept_ask world h number ask (every_history stands h legal.0) legal.1
  every_history stands (event.Serve number place given ∷ h) legal = kept_serve stands world h number place given (every_history stands h legal.0) legal.1
