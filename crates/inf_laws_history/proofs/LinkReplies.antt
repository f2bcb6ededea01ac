-- A server that is asked to link a directory finds what the call reserved: it keeps the parent, and no other reply but this
-- would say that it was not asked for.
use Rattle.std.proofs.Common.{◌≡◌, ◌≢◌, ℕ, Bool, true, false, cond, List, [], ◌∷◌, slice_get, Option, Some, None, is_some, Result, Ok, refl, sym, ap, ◌∙◌, subst}
use Rattle.std.specs.Option.{ok_or}
use Rattle.std.proofs.lemmas.Bool.Decides.{Decides-eqb}
use Rattle.std.specs.List.{list_all}
use Rattle.inf_base.specs.declared.id.Id.{Id}
use Rattle.inf_base.specs.declared.caller.CallRef.{CallRef}
use Rattle.inf_base.specs.declared.directory.DirRef.{DirRef}
use Rattle.inf_base.specs.declared.entry.Entry.{Entry}
use Rattle.inf_base.specs.declared.triple.Triple.TheVariants as triple
use Rattle.inf_base.specs.Checks.{◌>>=◌, ◌>>◌, check}
use Rattle.inf_base.specs.Content.{Slot, reserved}
use Rattle.inf_base.specs.Identity.{server_of}
use Rattle.inf_base.specs.Same.{dir_of, is_same_call}
use Rattle.inf_base.proofs.Same.{same_call_self}
use Rattle.inf_content.specs.Contents.{content_at, filled_at, seal_of, slots_at}
use Rattle.inf_content.specs.Slot.{reserves}
use Rattle.inf_content.specs.Slots.{first, slot_in}
use Rattle.inf_duty.specs.After.{client_after}
use Rattle.inf_duty.specs.World.{World}
use Rattle.inf_flow_dir.specs.declared.dir_flow.DirFlow.TheVariants as dir_flow
use Rattle.inf_flow_file.specs.declared.file_flow.FileFlow.TheVariants as file_flow
use Rattle.inf_duty.specs.declared.flow.Flow.TheVariants as flow
use Rattle.inf_duty.specs.ClientState.{ClientState, Stage, act, call_ref, compose, round, winds}
use Rattle.inf_duty.proofs.FlowFacts.{message_of}
use Rattle.inf_duty.specs.Group.{group}
use Rattle.inf_duty.specs.declared.flow.Flow.{Flow}
use Rattle.inf_message.specs.Who.{Who, id_or_root, last_id}
use Rattle.inf_laws_directory.specs.At.{At}
use Rattle.inf_laws_directory.specs.Fits.{EndsIn, Fits}
use Rattle.inf_laws_directory.specs.Owned.{Has}
use Rattle.inf_laws_directory.specs.Phases.{Phase, Phases, has_made}
use Rattle.inf_laws_history.specs.Causes.{before}
use Rattle.inf_laws_history.specs.Kept.{Kept}
use Rattle.inf_laws_history.specs.Legal.{Legal, MayServe, server_after}
use Rattle.inf_laws_history.specs.Objects.{service_of}
use Rattle.inf_laws_history.specs.Pending.{Waits}
use Rattle.inf_laws_history.specs.Phases.{HasPhase}
use Rattle.inf_laws_history.specs.Sites.{site_of}
use Rattle.inf_laws_history.proofs.AgainCauses.{asker_fits, waits}
use Rattle.inf_laws_history.proofs.GroupMessages.{look_in, step_message}
use Rattle.inf_laws_history.proofs.PastLinks.{LinksAt, asker_links}
use Rattle.inf_laws_history.proofs.PhaseFacts.{IsCleanUp}
use Rattle.inf_laws_history.proofs.PhaseFits.{IsSentHome, sent_home}
use Rattle.inf_laws_history.proofs.StepFacts.{next_serve}
use Rattle.inf_laws_history.proofs.ResultCauses.{asked_before, serve_may}
use Rattle.inf_message.specs.declared.ask.Ask.{Ask}
use Rattle.inf_message.specs.declared.event.Event.{Event}
use Rattle.inf_message.specs.declared.event.Event.TheVariants as event
use Rattle.inf_message.specs.declared.reply.Reply.{Reply}
use Rattle.inf_message.specs.declared.reply.Reply.TheVariants as reply
use Rattle.inf_message.specs.declared.reply.Spot.TheVariants as spot
use Rattle.inf_message.specs.declared.request.Request.{Request}
use Rattle.inf_message.specs.declared.request.Request.TheVariants as request
use Rattle.inf_message.specs.declared.step.Message.{Message}
use Rattle.inf_message.specs.History.{Posted, asked_at, event_at}
use Rattle.inf_server.specs.Births.{link}
use Rattle.inf_server.specs.Machine.{on_request}
use Rattle.inf_server.specs.Chains.{has_entry, last_of}
use Rattle.inf_server.specs.Checks.{have_entries, unsealed}
use Rattle.inf_server.specs.Response.{Response, done, response}
use Rattle.inf_server.specs.State.{Site, State, is_here, with_contents}

-- ---- the server that is asked

-- where a chain ends
record HasEnd (found : Option Entry) (dir : DirRef) : Type 0 where
  last : Entry
  is : found ≡ Some last
  same : dir_of last.access ≡ dir

has_end : (found : Option Entry) (dir : DirRef) → EndsIn found dir → HasEnd found dir
has_end None dir ends = absurd ends
has_end (Some last) dir ends = record { last = last; is = refl; same = ends }

module _ (digest : List ℕ → Id) (s : ClientState) (place number : ℕ) (ask : Ask) (phases : Phases) (has : HasPhase digest s.who s.stage (phases (call_ref s))) (it : Waits s place number ask)
    (chain : List Entry) (name : List ℕ) (dir : DirRef) (mode : ℕ) (is_link : ask.request ≡ request.Link chain name dir mode) where
  abbrev IsSentTo : Type 0
  IsSentTo = number ≡ server_of (last_id s.who chain) s.who.servers

  flow_to : (step : Flow) → message_of s.who step ≡ record { number = number; request = ask.request } → IsSentTo
  flow_to (flow.Dir (dir_flow.Links way under bits version made)) is =
      let same : request.Link way under made bits ≡ request.Link chain name dir mode =
      ap (λ (m : Message). m.request) is ∙ is_link in
      let chains : way ≡ chain = cc in
      sym (ap (λ (m : Message). m.number) is) ∙ ap (λ c. server_of (last_id s.who c) s.who.servers) chains
  flow_to (flow.File (file_flow.Finishes way with)) is = absurd (let same = ap (λ (m : Message). m.request) is ∙ is_link in cc)
  flow_to (flow.Dir (dir_flow.Reserves way under bits)) is = absurd (let same = ap (λ (m : Message). m.request) is ∙ is_link in cc)
  flow_to (flow.Dir (dir_flow.Makes way under bits version id)) is = absurd (let same = ap (λ (m : Message). m.request) is ∙ is_link in cc)
  flow_to (flow.Dir (dir_flow.Seals way)) is = absurd (let same = ap (λ (m : Message). m.request) is ∙ is_link in cc)
  flow_to (flow.Dir (dir_flow.Unlinks way)) is = absurd (let same = ap (λ (m : Message). m.request) is ∙ is_link in cc)

  stage_to : (stage : Stage) → s.stage ≡ stage → slice_get (group s.who stage) it.index ≡ Some (record { number = number; request = ask.request }) → IsSentTo
  stage_to compose at is = absurd cc
  stage_to (round keys) at is =
      let look = look_in s.who keys it.index number ask.request is in
      absurd (let unlike : request.Lookup look.k ≡ request.Link chain name dir mode = sym look.is ∙ is_link in cc)
  stage_to (act step) at is = flow_to step (step_message s.who step it.index number ask.request is)
  stage_to (winds ending ms later) at is =
      absurd (subst (λ (r : Request). IsSentHome s.who.servers number r) is_link (sent_home digest s place number ask phases has it (subst IsCleanUp (sym at) tt)))

  sent_to : IsSentTo
  sent_to = stage_to s.stage refl it.message

-- ---- what it finds

reserved_first : (by : CallRef) (name : List ℕ) (slot : Slot) (slots : List (List ℕ × Slot)) → slot_in name slots ≡ Some slot → reserves by slot ≡ true
    → is_some (first (reserves by) slots) ≡ true
reserved_first by name slot [] found own = absurd cc
reserved_first by name slot (e ∷ es) found own = any (reserves by e.1) refl (λ behind. reserved_first by name slot es behind own)
  where
    by_name : (b : Bool) → reserves by e.1 ≡ false → cond b (Some e.1) (slot_in name es) ≡ Some slot
        → (slot_in name es ≡ Some slot → is_some (first (reserves by) es) ≡ true) → is_some (first (reserves by) es) ≡ true
    by_name true apart here later = absurd (let same : e.1 ≡ slot = cc in let other : reserves by e.1 ≡ true = ap (reserves by) same ∙ own in cc)
    by_name false apart here later = later here

    any : (b : Bool) → reserves by e.1 ≡ b → (slot_in name es ≡ Some slot → is_some (first (reserves by) es) ≡ true)
        → is_some (cond b (Some e) (first (reserves by) es)) ≡ true
    any true is later = refl
    any false is later = by_name _ is found later

-- the checks before it reply something else
passes : (old : State) (entry : Entry) (by : CallRef) (here carries there : Bool) (seal : Option CallRef) (more : Entry → Result Response Reply)
    → here ≡ true → carries ≡ true → (response old (more entry)).reply ≢ reply.Other
    → (response old ((check here reply.Other >> (check carries reply.Other >> (check there reply.Gone
    >> (unsealed by entry.access.born seal >> Ok entry)))) >>= more)).reply ≢ reply.Other
passes old entry by true true true None more at all fine = fine
passes old entry by true true true (Some sealer) more at all fine = by_seal (is_same_call sealer by)
  where
    by_seal : (b : Bool) → (response old ((check b (reply.Busy sealer spot.Sealed entry.access.born) >> Ok entry) >>= more)).reply ≢ reply.Other
    by_seal true = fine
    by_seal false = λ it. cc
passes old entry by true true false seal more at all fine = λ it. cc
passes old entry by true false there seal more at all fine = λ it. cc
passes old entry by false carries there seal more at all fine = λ it. cc

-- a chain that ends in an entry has one
ending_carries : (chain : List Entry) (last : Entry) → last_of chain ≡ Some last → list_all has_entry (chain ∷ []) ≡ true
ending_carries [] last ends = cc
ending_carries (entry ∷ entries) last ends = refl

-- and it finds what was reserved
fine : (old next : State) (found : Bool) → found ≡ true → (response old (check found reply.Other >> done reply.Fine next)).reply ≢ reply.Other
fine old next true is = λ it. cc
fine old next false is = λ it. cc

-- where the chain ends in a directory that is kept here, and in which the call reserved a name
module _ (site : Site) (old : State) (ask : Ask) (chain : List Entry) (dir : DirRef) (mode : ℕ) (last : Entry) (ends : last_of chain ≡ Some last)
    (here : is_here site last.access.id ≡ true) (kept : is_some (first (reserves ask.from) (slots_at (dir_of last.access) old.contents)) ≡ true) where
  abbrev fills : Entry → Result Response Reply
  fills entry =
      check (is_some (first (reserves ask.from) (slots_at (dir_of entry.access) old.contents))) reply.Other
      >> done reply.Fine (with_contents (filled_at (dir_of entry.access) ask.from (Some (dir, mode, ask.caller)) old.contents) old)

  abbrev comes : Option Entry → Result Response Reply
  comes found =
      (ok_or found reply.Other
      >>= (λ (entry : Entry). check (is_here site entry.access.id) reply.Other
      >> (have_entries (chain ∷ [])
      >> (check (is_some (content_at (dir_of entry.access) old.contents)) reply.Gone
      >> (unsealed ask.from entry.access.born (seal_of (content_at (dir_of entry.access) old.contents)) >> Ok entry)))))
      >>= fills

  not_other : (response old (link site old ask chain dir mode)).reply ≢ reply.Other
  not_other =
      subst (λ (found : Option Entry). (response old (comes found)).reply ≢ reply.Other) (sym ends)
      (passes old last ask.from (is_here site last.access.id) (list_all has_entry (chain ∷ [])) (is_some (content_at (dir_of last.access) old.contents))
      (seal_of (content_at (dir_of last.access) old.contents)) fills here (ending_carries chain last ends)
      (fine old _ (is_some (first (reserves ask.from) (slots_at (dir_of last.access) old.contents))) kept))

-- ---- so in a legal history

id_of_end : (who : Who) (found : Option Entry) (last : Entry) → found ≡ Some last → id_or_root who found ≡ last.access.id
id_of_end who None last is = cc
id_of_end who (Some entry) last is = let one : entry ≡ last = cc in ap (λ (e : Entry). e.access.id) one

module _ (world : World) (h : List Event) (kept : Kept world h) (legal : Legal world h) (number place : ℕ) (may : MayServe world h number place reply.Other)
    (chain : List Entry) (name : List ℕ) (dir : DirRef) (mode : ℕ) (is : may.posted.ask.request ≡ request.Link chain name dir mode) where
  abbrev from : CallRef
  from = may.posted.ask.from

  abbrev asker : ClientState
  asker = client_after world may.posted.ask.from.client h

  it : Waits asker place number may.posted.ask
  it = waits world h kept number place reply.Other may

  has : LinksAt (kept.phases may.posted.ask.from) dir
  has = asker_links world h kept legal number place reply.Other may chain name dir mode is

  end : HasEnd (last_of chain) has.parent
  end =
      let fits = asker_fits world h kept number place reply.Other may in
      let at = next_serve h number place in
      let of_phase = subst (λ (p : Phase). Fits at p may.posted.ask.request) has.phase_is fits in
      let made = has_made has.parent has.name (triple.Of has.parent.id has.name has.version) dir in
      has_end (last_of chain) has.parent (subst (λ (r : Request). Fits at made r) is of_phase).0

  server_is : number ≡ server_of has.parent.id world.setup.servers
  server_is =
      let own = (kept.clients may.posted.ask.from.client) in
      sent_to world.digest asker place number may.posted.ask kept.phases own.phase it chain name dir mode is
      ∙ ap (λ i. server_of i asker.who.servers) (id_of_end asker.who (last_of chain) end.last end.is ∙ ap (λ (d : DirRef). d.id) end.same)
      ∙ ap (λ (w : Who). server_of has.parent.id w.servers) own.who

  here : is_here (site_of world number) end.last.access.id ≡ true
  here =
      (Decides-eqb number (server_of end.last.access.id world.setup.servers)).1
      (server_is ∙ ap (λ (d : DirRef). server_of d.id world.setup.servers) (sym end.same))

  finds : is_some (first (reserves may.posted.ask.from) (slots_at (dir_of end.last.access) (server_after world number h).contents)) ≡ true
  finds =
      let keeps = (subst (λ (p : Phase). Has (service_of world) kept.objects may.posted.ask.from p) has.phase_is (kept.standing.owned.has may.posted.ask.from)).0 in
      let there : slot_in has.name (slots_at has.parent (server_after world number h).contents) ≡ Some (reserved may.posted.ask.from keeps.access) =
      ap (λ (s : State). slot_in has.name (slots_at has.parent s.contents)) (sym (kept.states number))
      ∙ ap (λ n. slot_in has.name (slots_at has.parent (kept.objects n).contents)) server_is
      ∙ keeps.slot in
      subst (λ (d : DirRef). is_some (first (reserves may.posted.ask.from) (slots_at d (server_after world number h).contents)) ≡ true) (sym end.same)
      (reserved_first may.posted.ask.from has.name (reserved may.posted.ask.from keeps.access) (slots_at has.parent (server_after world number h).contents) there
      (same_call_self may.posted.ask.from))

  never : ⊥
  never =
      let site : Site = site_of world number in
      let old : State = server_after world number h in
      let told : reply.Other ≡ (response old (on_request site old place may.posted.ask may.posted.ask.request)).reply = ap (λ (r : Response). r.reply) may.reply in
      not_other site old may.posted.ask chain dir mode end.last end.is here finds
      (ap (λ (r : Request). (response old (on_request site old place may.posted.ask r)).reply) (sym is) ∙ sym told)

-- a server that is asked to link a directory never replies that this was not asked of it
pub links_are_not_other : (world : World) → ((h : List Event) → Legal world h → Kept world h) → (h : List Event) → Legal world h
    → (at : At) (given : Reply) (posted : Posted)
    → event_at at.serve_place h ≡ Some (event.Serve at.number at.ask_place given)
    → asked_at at.ask_place h ≡ Some posted → (chain : List Entry) (name : List ℕ) (dir : DirRef) (mode : ℕ)
    → posted.ask.request ≡ request.Link chain name dir mode → given ≢ reply.Other
links_are_not_other world keeps h legal at given posted told asked chain name dir mode is_link other =
    let there : event_at at.serve_place h ≡ Some (event.Serve at.number at.ask_place reply.Other) =
    told ∙ ap (λ (r : Reply). Some (event.Serve at.number at.ask_place r)) other in
    let legally = serve_may world h legal at.serve_place at.number at.ask_place reply.Other there in
    let found = asked_before at.serve_place at.ask_place legally.1.posted h legally.1.made in
    let same : legally.1.posted ≡ posted = cc in
    let earlier : List Event = before at.serve_place h in
    never world earlier (keeps earlier legally.0) legally.0 at.number at.ask_place legally.1 chain name dir mode
    (ap (λ (p : Posted). p.ask.request) same ∙ is_link)
