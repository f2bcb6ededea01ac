-- Once a directory was linked, the call that made it is over.
use Rattle.std.proofs.Common.{◌≡◌, ◌≢◌, ◌⊎◌, inl, inr, ℕ, suc, ◌<◌, ◌≤◌, ◌||◌, Bool, true, false, eqb, List, [], ◌∷◌, length, slice_get, Option, Some, None, refl, sym, ap, ap₂, ◌∙◌, subst, arith}
use Rattle.inf_base.specs.declared.caller.CallRef.{CallRef}
use Rattle.inf_base.specs.declared.directory.DirRef.{DirRef}
use Rattle.inf_base.specs.declared.entry.Entry.{Entry}
use Rattle.inf_base.specs.declared.id.Id.{Id}
use Rattle.inf_base.specs.declared.triple.Triple.{Triple}
use Rattle.inf_base.specs.declared.triple.Triple.TheVariants as triple
use Rattle.inf_base.specs.Content.{Content}
use Rattle.inf_base.specs.Identity.{identity, server_of}
use Rattle.inf_base.specs.Same.{dir_of}
use Rattle.inf_base.proofs.Same.{same_dir}
use Rattle.inf_content.specs.Contents.{content_at, empty_content}
use Rattle.inf_duty.specs.After.{client_after}
use Rattle.inf_duty.specs.World.{World}
use Rattle.inf_flow_dir.specs.declared.dir_flow.DirFlow.TheVariants as dir_flow
use Rattle.inf_flow_file.specs.declared.file_flow.FileFlow.TheVariants as file_flow
use Rattle.inf_duty.specs.declared.flow.Flow.TheVariants as flow
use Rattle.inf_duty.specs.ClientState.{ClientState, Stage, act, compose, round, winds}
use Rattle.inf_duty.proofs.FlowFacts.{message_of}
use Rattle.inf_duty.specs.Group.{group}
use Rattle.inf_duty.specs.Turn.{served}
use Rattle.inf_duty.specs.declared.flow.Flow.{Flow}
use Rattle.inf_message.specs.Chain.{dir_in, last_dir, last_entry}
use Rattle.inf_message.specs.Sent.{Sent}
use Rattle.inf_message.specs.Who.{Who, birth_of, id_or_root}
use Rattle.inf_laws_client.specs.Asked.{AreAskedFor}
use Rattle.inf_laws_history.specs.Flight.{links_by, was_linked}
use Rattle.inf_laws_history.specs.Flight.{links as links_to}
use Rattle.inf_laws_history.specs.Kept.{Kept}
use Rattle.inf_laws_history.specs.Legal.{Legal, MayServe, server_after}
use Rattle.inf_laws_history.specs.Objects.{WasAskedIn, service_of}
use Rattle.inf_laws_history.specs.Pending.{Waits}
use Rattle.inf_laws_history.specs.Phases.{FlowHas, FlowMay, HasPhase, IsLiftedBy, StageMay}
use Rattle.inf_message.specs.declared.ask.Ask.{Ask}
use Rattle.inf_message.specs.declared.event.Event.{Event}
use Rattle.inf_message.specs.declared.event.Event.TheVariants as event
use Rattle.inf_message.specs.declared.reply.Reply.{Reply}
use Rattle.inf_message.specs.declared.reply.Reply.TheVariants as reply
use Rattle.inf_message.specs.declared.request.Request.{Request}
use Rattle.inf_message.specs.declared.request.Request.TheVariants as request
use Rattle.inf_message.specs.declared.step.Message.{Message}
use Rattle.inf_message.specs.History.{Posted, Told, asked_at, told_reply}
use Rattle.inf_message.proofs.HistoryLaws.{asked_stays, asked_within}
use Rattle.inf_server.specs.State.{State}
use Rattle.inf_laws_directory.specs.Owned.{Has}
use Rattle.inf_laws_directory.specs.Phases.{IsLoose, Phase, has_made, has_reserved, has_sealed, has_unlinked, idle}
use Rattle.inf_laws_history.proofs.AgainCauses.{found_at, under_way, waits}
use Rattle.inf_duty.proofs.BegunKept.{if_both}
use Rattle.inf_laws_history.proofs.ClientSteps.{Lasts, begun_lasts, served_lasts}
use Rattle.inf_laws_history.proofs.ContentBirths.{IsBirth, WasMade, births_after, so_found}
use Rattle.inf_laws_history.proofs.GroupMessages.{lift_message, look_in, step_alone, step_message}
use Rattle.inf_laws_history.proofs.PhaseFacts.{one_ask, served_one, staged}

-- ---- the numbers of calls grow

number_lasts : (digest : List ℕ → Id) (n : ℕ) → Lasts digest (λ (s : ClientState). n ≤ s.number)
number_lasts digest n = record {
  composing = λ s less. less;
  ending = λ given place s less. omega (arith, less);
  again = λ s less. less;
  going_on = λ next s less. less;
  learning = λ known s less. less;
}

pub numbers_grow : (world : World) (e : Event) (h : List Event) (client : ℕ) → (client_after world client h).number ≤ (client_after world client (e ∷ h)).number
numbers_grow world (event.Ask number ask) h client =
    let s : ClientState = client_after world client h in
    if_both (λ (t : ClientState). s.number ≤ t.number) (eqb ask.from.client client) _ s
    (begun_lasts world.digest (λ (t : ClientState). s.number ≤ t.number) (number_lasts world.digest s.number) ask s.sent s (omega arith)) (omega arith)
numbers_grow world (event.Serve number ask_place given) h client =
    let s : ClientState = client_after world client h in
    served_lasts world.digest (λ (t : ClientState). s.number ≤ t.number) (number_lasts world.digest s.number) (λ place told t less. less) ask_place (told_reply (suc (length h)) given) s (omega arith)

-- ---- where a call stands that is to make or link a directory

-- it keeps the name at which the birth is
pub record MakesAt (phase : Phase) (birth : Triple) : Type 0 where
  pub parent : DirRef
  pub name : List ℕ
  pub version : ℕ
  pub phase_is : phase ≡ has_reserved parent name birth
  pub birth_is : birth ≡ triple.Of parent.id name version

pub record LinksAt (phase : Phase) (dir : DirRef) : Type 0 where
  pub parent : DirRef
  pub name : List ℕ
  pub version : ℕ
  pub phase_is : phase ≡ has_made parent name (triple.Of parent.id name version) dir

id_of_last : (who : Who) (found : Option Entry) (last : Entry) → found ≡ Some last → id_or_root who found ≡ (dir_in found).id
id_of_last who None last is = cc
id_of_last who (Some entry) last is = refl

lifts_none : (servers : ℕ) (phase : Phase) (m : Message) (P : Request → Type 0) → ((dir : DirRef) → P (request.Cancel dir)) → ((dir : DirRef) → P (request.Drop dir))
    → ((dir : DirRef) → P (request.Unseal dir)) → ((id : _) (dir : DirRef) → P (request.Forget id dir)) → IsLiftedBy servers phase m → P m.request
lifts_none servers idle m P cancels drops unseals forgets is = subst (λ (x : Message). P x.request) (sym is.is) (forgets is.parent is.dir)
lifts_none servers (has_reserved parent name birth) m P cancels drops unseals forgets is = subst (λ (x : Message). P x.request) (sym is) (cancels parent)
lifts_none servers (has_made parent name birth made) m P cancels drops unseals forgets is = subst (λ (x : Message). P x.request) (sym is) (drops made)
lifts_none servers (has_sealed parent name target) m P cancels drops unseals forgets is = subst (λ (x : Message). P x.request) (sym is) (unseals target)
lifts_none servers (has_unlinked target) m P cancels drops unseals forgets is = subst (λ (x : Message). P x.request) (sym is) (drops target)

module _ (who : Who) (phase : Phase) where
  flow_makes : (step : Flow) (birth : Triple) → (message_of who step).request ≡ request.Make birth → FlowHas who step phase → FlowMay who.caller step → MakesAt phase birth
  flow_makes (flow.Dir (dir_flow.Makes chain name mode version id)) birth is has may =
      let same : birth_of who chain name version ≡ birth = cc in
      record {
        parent = last_dir chain;
        name = name;
        version = version;
        phase_is = has ∙ ap (has_reserved (last_dir chain) name) same;
        birth_is = sym same ∙ ap (λ i. triple.Of i name version) (id_of_last who (last_entry chain) may.last may.ends);
      }
  flow_makes (flow.File (file_flow.Finishes chain asked)) birth is has may = absurd cc
  flow_makes (flow.Dir (dir_flow.Reserves chain name mode)) birth is has may = absurd cc
  flow_makes (flow.Dir (dir_flow.Links chain name mode version dir)) birth is has may = absurd cc
  flow_makes (flow.Dir (dir_flow.Seals chain)) birth is has may = absurd cc
  flow_makes (flow.Dir (dir_flow.Unlinks chain)) birth is has may = absurd cc

  flow_links : (step : Flow) (way : List Entry) (under : List ℕ) (dir : DirRef) (bits : ℕ) → (message_of who step).request ≡ request.Link way under dir bits
      → FlowHas who step phase → FlowMay who.caller step → LinksAt phase dir
  flow_links (flow.Dir (dir_flow.Links chain name mode version made)) way under dir bits is has may =
      let same : made ≡ dir = cc in
      record {
        parent = last_dir chain;
        name = name;
        version = version;
        phase_is = has ∙ ap₂ (λ i d. has_made (last_dir chain) name (triple.Of i name version) d) (id_of_last who (last_entry chain) may.last may.ends) same;
      }
  flow_links (flow.File (file_flow.Finishes chain asked)) way under dir bits is has may = absurd cc
  flow_links (flow.Dir (dir_flow.Reserves chain name mode)) way under dir bits is has may = absurd cc
  flow_links (flow.Dir (dir_flow.Makes chain name mode version id)) way under dir bits is has may = absurd cc
  flow_links (flow.Dir (dir_flow.Seals chain)) way under dir bits is has may = absurd cc
  flow_links (flow.Dir (dir_flow.Unlinks chain)) way under dir bits is has may = absurd cc

module _ (digest : List ℕ → Id) (who : Who) (phase : Phase) where
  stage_makes : (stage : Stage) (index number : ℕ) (asked : Request) (birth : Triple) → slice_get (group who stage) index ≡ Some (record { number = number; request = asked })
      → asked ≡ request.Make birth → HasPhase digest who stage phase → StageMay who.caller stage → MakesAt phase birth
  stage_makes compose index number asked birth is makes_it has may = absurd cc
  stage_makes (round keys) index number asked birth is makes_it has may =
      let look = look_in who keys index number asked is in
      absurd (let unlike : request.Lookup look.k ≡ request.Make birth = sym look.is ∙ makes_it in cc)
  stage_makes (act step) index number asked birth is makes_it has may =
      flow_makes who phase step birth (ap (λ (m : Message). m.request) (step_message who step index number asked is) ∙ makes_it) has.0 may
  stage_makes (winds ending ms later) index number asked birth is makes_it has may =
      absurd (lifts_none who.servers phase (record { number = number; request = asked }) (λ (r : Request). r ≡ request.Make birth → ⊥)
      (λ dir it. cc) (λ dir it. cc) (λ dir it. cc) (λ id dir it. cc)
      (lift_message who.servers phase ms later index number asked has is) makes_it)

  stage_links : (stage : Stage) (index number : ℕ) (asked : Request) (way : List Entry) (under : List ℕ) (dir : DirRef) (bits : ℕ)
      → slice_get (group who stage) index ≡ Some (record { number = number; request = asked })
      → asked ≡ request.Link way under dir bits → HasPhase digest who stage phase → StageMay who.caller stage → LinksAt phase dir
  stage_links compose index number asked way under dir bits is links_it has may = absurd cc
  stage_links (round keys) index number asked way under dir bits is links_it has may =
      let look = look_in who keys index number asked is in
      absurd (let unlike : request.Lookup look.k ≡ request.Link way under dir bits = sym look.is ∙ links_it in cc)
  stage_links (act step) index number asked way under dir bits is links_it has may =
      flow_links who phase step way under dir bits (ap (λ (m : Message). m.request) (step_message who step index number asked is) ∙ links_it) has.0 may
  stage_links (winds ending ms later) index number asked way under dir bits is links_it has may =
      absurd (lifts_none who.servers phase (record { number = number; request = asked }) (λ (r : Request). r ≡ request.Link way under dir bits → ⊥)
      (λ d it. cc) (λ d it. cc) (λ d it. cc) (λ id d it. cc)
      (lift_message who.servers phase ms later index number asked has is) links_it)

-- ---- a link that is done ends its call

module _ (digest : List ℕ → Id) (A : ℕ → Request → Type 0) (s : ClientState) (place number serve_place : ℕ) (ask : Ask) (way : List Entry) (under : List ℕ) (dir : DirRef) (bits : ℕ)
    (links_it : ask.request ≡ request.Link way under dir bits) where
  abbrev told : Told
  told = told_reply serve_place reply.Fine

  flow_ends : (step : Flow) → (message_of s.who step).request ≡ request.Link way under dir bits
      → s.number < (served digest place told (staged s (act step) (one_ask place None))).number
  flow_ends (flow.Dir (dir_flow.Links chain name mode version dir)) is =
      served_one digest (λ (t : ClientState). s.number < t.number) s (act (flow.Dir (dir_flow.Links chain name mode version dir))) place told refl (omega arith)
  flow_ends (flow.File (file_flow.Finishes chain asked)) is = absurd cc
  flow_ends (flow.Dir (dir_flow.Reserves chain name mode)) is = absurd cc
  flow_ends (flow.Dir (dir_flow.Makes chain name mode version id)) is = absurd cc
  flow_ends (flow.Dir (dir_flow.Seals chain)) is = absurd cc
  flow_ends (flow.Dir (dir_flow.Unlinks chain)) is = absurd cc

  stage_ends : (stage : Stage) (sent : List Sent) (phase : Phase) → Waits (staged s stage sent) place number ask → AreAskedFor A (group s.who stage) sent
      → HasPhase digest s.who stage phase → s.number < (served digest place told (staged s stage sent)).number
  stage_ends compose sent phase waits_it asks has = let none = waits_it.message in absurd cc
  stage_ends (round keys) sent phase waits_it asks has =
      let look = look_in s.who keys waits_it.index number ask.request waits_it.message in
      absurd (let unlike : request.Lookup look.k ≡ request.Link way under dir bits = sym look.is ∙ links_it in cc)
  stage_ends (act step) sent phase waits_it asks has =
      let lone = step_alone A s.who step sent waits_it.index place number ask.request waits_it.sent waits_it.message asks in
      subst (λ (xs : List Sent). s.number < (served digest place told (staged s (act step) xs)).number) (sym lone.sent_alone)
      (flow_ends step (ap (λ (m : Message). m.request) lone.message ∙ links_it))
  stage_ends (winds ending ms later) sent phase waits_it asks has =
      absurd (lifts_none s.who.servers phase (record { number = number; request = ask.request }) (λ (r : Request). r ≡ request.Link way under dir bits → ⊥)
      (λ d it. cc) (λ d it. cc) (λ d it. cc) (λ id d it. cc)
      (lift_message s.who.servers phase ms later waits_it.index number ask.request has waits_it.message) links_it)

-- ---- what was linked

record IsLinkTo (dir : DirRef) (asked : Request) : Type 0 where
  chain : List Entry
  name : List ℕ
  mode : ℕ
  is : asked ≡ request.Link chain name dir mode

link_to : (dir : DirRef) (asked : Request) → links_to dir asked ≡ true → IsLinkTo dir asked
link_to dir (request.Link chain name linked mode) is =
    record { chain = chain; name = name; mode = mode; is = ap (λ (d : DirRef). request.Link chain name d mode) (sym (same_dir dir linked is)) }
link_to dir other_request is = absurd cc

-- the directory was made by a call that is over
pub record IsPast (world : World) (h : List Event) (dir : DirRef) : Type 0 where
  pub posted : Posted
  pub asked : asked_at dir.born h ≡ Some posted
  pub past : posted.ask.from.number < (client_after world posted.ask.from.client h).number

past_stays : (world : World) (e : Event) (h : List Event) (dir : DirRef) → IsPast world h dir → IsPast world (e ∷ h) dir
past_stays world e h dir is =
    let grows = numbers_grow world e h is.posted.ask.from.client in
    record {
      posted = is.posted;
      asked = asked_stays dir.born e h (asked_within dir.born is.posted h is.asked).within ∙ is.asked;
      past = omega (arith, is.past, grows);
    }

module _ (world : World) (h : List Event) (kept : Kept world h) (legal : Legal world h) where
  -- a directory that a call has made and not linked is of the Ask of that call
  pub made_by : (by : CallRef) (parent : DirRef) (name : List ℕ) (birth : Triple) (made : DirRef) → kept.phases by ≡ has_made parent name birth made
      → WasMade h made.born birth by
  made_by by parent name birth made is =
      let has = subst (λ (p : Phase). Has (service_of world) kept.objects by p) is (kept.standing.owned.has by) in
      let number : ℕ = server_of made.id world.setup.servers in
      let content : Content = empty_content made.id made.born birth by in
      let there : content_at made (server_after world number h).contents ≡ Some content =
      ap (λ (s : State). content_at made s.contents) (sym (kept.states number)) ∙ has.1 in
      let is_birth : IsBirth world.digest h made birth by =
      so_found (IsBirth world.digest h) made.id (server_after world number h).contents content (births_after world h legal number)
      (found_at made (server_after world number h).contents content there) in
      by_origin is_birth.identifies is_birth.origin
    where
      by_origin : made.id ≡ identity world.digest birth → ((made.born ≡ 0) × (birth ≡ triple.Root)) ⊎ WasMade h made.born birth by → WasMade h made.born birth by
      by_origin identifies (inl first) =
          let root : made ≡ dir_of kept.root =
          ap₂ (λ i b. record { id = i; born = b }) (identifies ∙ ap (identity world.digest) first.1) first.0 ∙ sym kept.root_stands.of_root in
          absurd (kept.standing.owned.root_apart by (subst (λ (p : Phase). IsLoose p (dir_of kept.root)) (sym is) root))
      by_origin identifies (inr was) = was

  module _ (number place : ℕ) (given : Reply) (may : MayServe world h number place given) where
    abbrev asker : ClientState
    asker = client_after world may.posted.ask.from.client h

    abbrev asker_waits : Waits asker place number may.posted.ask
    asker_waits = waits world h kept number place given may

    asker_phase : HasPhase world.digest asker.who asker.stage (kept.phases may.posted.ask.from)
    asker_phase =
        subst (λ (c : CallRef). HasPhase world.digest asker.who asker.stage (kept.phases c)) (sym asker_waits.from) (kept.clients may.posted.ask.from.client).phase

    pub asker_makes : (birth : Triple) → may.posted.ask.request ≡ request.Make birth → MakesAt (kept.phases may.posted.ask.from) birth
    asker_makes birth is =
        stage_makes world.digest asker.who (kept.phases may.posted.ask.from) asker.stage asker_waits.index number may.posted.ask.request birth asker_waits.message is asker_phase
        (kept.clients may.posted.ask.from.client).may

    pub asker_links : (chain : List Entry) (name : List ℕ) (dir : DirRef) (mode : ℕ) → may.posted.ask.request ≡ request.Link chain name dir mode
        → LinksAt (kept.phases may.posted.ask.from) dir
    asker_links chain name dir mode is =
        stage_links world.digest asker.who (kept.phases may.posted.ask.from) asker.stage asker_waits.index number may.posted.ask.request chain name dir mode asker_waits.message is
        asker_phase (kept.clients may.posted.ask.from.client).may

  link_passes : (number place : ℕ) (may : MayServe world h number place reply.Fine) (dir : DirRef) → links_to dir may.posted.ask.request ≡ true
      → IsPast world (event.Serve number place reply.Fine ∷ h) dir
  link_passes number place may dir is =
      let link = link_to dir may.posted.ask.request is in
      let s : ClientState = client_after world may.posted.ask.from.client h in
      let waits_it = waits world h kept number place reply.Fine may in
      let has = asker_links number place reply.Fine may link.chain link.name dir link.mode link.is in
      let was = made_by may.posted.ask.from has.parent has.name (triple.Of has.parent.id has.name has.version) dir has.phase_is in
      let less : s.number < (client_after world may.posted.ask.from.client (event.Serve number place reply.Fine ∷ h)).number =
      stage_ends world.digest (WasAskedIn h) s place number (suc (length h)) may.posted.ask link.chain link.name dir link.mode link.is s.stage s.sent (kept.phases may.posted.ask.from)
      waits_it (kept.clients may.posted.ask.from.client).asks.asked (asker_phase number place reply.Fine may) in
      let number_is : may.posted.ask.from.number ≡ s.number = ap (λ (c : CallRef). c.number) waits_it.from in
      record {
        posted = was.posted;
        asked = asked_stays dir.born (event.Serve number place reply.Fine) h (asked_within dir.born was.posted h was.asked).within ∙ was.asked;
        past = subst (λ (c : CallRef). c.number < (client_after world c.client (event.Serve number place reply.Fine ∷ h)).number) (sym was.own)
            (omega (arith, less, number_is));
      }

either : (a b : Bool) → (a || b) ≡ true → (a ≡ true) ⊎ (b ≡ true)
either true b is = inl refl
either false b is = inr is

module _ (world : World) (keeps : (h : List Event) → Legal world h → Kept world h) where
  serve_past : (h : List Event) (legal : Legal world h) (number place : ℕ) (given : Reply) (may : MayServe world h number place given) (dir : DirRef)
      → (was_linked dir h ≡ true → IsPast world h dir)
      → was_linked dir (event.Serve number place given ∷ h) ≡ true → IsPast world (event.Serve number place given ∷ h) dir
  serve_past h legal number place reply.Fine may dir before is = by (either (links_by dir (asked_at place h)) (was_linked dir h) is)
    where
      by : (links_by dir (asked_at place h) ≡ true) ⊎ (was_linked dir h ≡ true) → IsPast world (event.Serve number place reply.Fine ∷ h) dir
      by (inl now) = link_passes world h (keeps h legal) legal number place may dir (sym (ap (links_by dir) may.made) ∙ now)
      by (inr earlier) = past_stays world (event.Serve number place reply.Fine) h dir (before earlier)
  serve_past h legal number place other_reply may dir before is = past_stays world (event.Serve number place other_reply) h dir (before is)

  linked_past : (h : List Event) → Legal world h → (dir : DirRef) → was_linked dir h ≡ true → IsPast world h dir
  linked_past [] legal dir is = absurd cc
  linked_past (event.Ask number ask ∷ h) legal dir is = past_stays world (event.Ask number ask) h dir (linked_past h legal.0 dir is)
  linked_past (event.Serve number place given ∷ h) legal dir is = serve_past h legal.0 number place given legal.1 dir (linked_past h legal.0 dir) is

  -- what a call that is under way made was never linked
  pub never_linked : (h : List Event) (legal : Legal world h) (by : CallRef) (birth : Triple) (dir : DirRef) → (keeps h legal).phases by ≢ idle
      → WasMade h dir.born birth by → was_linked dir h ≡ false
  never_linked h legal by birth dir acts was = by_test (was_linked dir h) refl
    where
      by_test : (b : Bool) → was_linked dir h ≡ b → b ≡ false
      by_test false is = refl
      by_test true is =
          let past = linked_past h legal dir is in
          let same : past.posted ≡ was.posted = let one = past.asked in let two = was.asked in cc in
          let less : by.number < (client_after world by.client h).number =
          subst (λ (c : CallRef). c.number < (client_after world c.client h).number) (ap (λ (p : Posted). p.ask.from) same ∙ was.own) past.past in
          absurd (omega (arith, less, under_way world h (keeps h legal) by acts))
