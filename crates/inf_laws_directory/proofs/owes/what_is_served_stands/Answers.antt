use Rattle.std.proofs.Common.{◌≡◌, ℕ, List, Option, Some, Ok, refl, sym, ap, ◌∙◌, subst}
use Rattle.inf_base.specs.declared.access.Access.{Access}
use Rattle.inf_base.specs.declared.answer.Answer.TheVariants as answer
use Rattle.inf_base.specs.declared.call.Call.{Call}
use Rattle.inf_base.specs.declared.call.Call.TheVariants as call
use Rattle.inf_base.specs.declared.directory.DirRef.{DirRef}
use Rattle.inf_base.specs.declared.entry.Entry.{Entry}
use Rattle.inf_base.specs.declared.id.Id.{Id}
use Rattle.inf_base.specs.declared.key.Key.{Key}
use Rattle.inf_base.specs.declared.key.Key.TheVariants as key
use Rattle.inf_base.specs.declared.key.LookKey.{LookKey}
use Rattle.inf_base.specs.declared.triple.Triple.{Triple}
use Rattle.inf_base.specs.declared.triple.Triple.TheVariants as triple
use Rattle.inf_base.specs.Same.{dir_of}
use Rattle.inf_message.specs.declared.ask.Ask.{Ask}
use Rattle.inf_message.specs.declared.op.Op.{Op}
use Rattle.inf_message.specs.declared.op.Op.TheVariants as op
use Rattle.inf_message.specs.declared.reply.Reply.{Reply}
use Rattle.inf_message.specs.declared.request.Request.{Request}
use Rattle.inf_message.specs.declared.request.Request.TheVariants as request
use Rattle.inf_server.specs.Chains.{before_last, last_of}
use Rattle.inf_server.specs.Machine.{on_request}
use Rattle.inf_server.specs.Response.{Response}
use Rattle.inf_server.specs.State.{Site, State}
use Rattle.inf_tree.specs.Tree.{Node}
use Rattle.inf_laws_directory.specs.At.{At}
use Rattle.inf_laws_directory.specs.Fits.{EndsIn, Fits, reserved_at_end, sealed_at_end, sealed_under, unlinked_at_end}
use Rattle.inf_laws_directory.specs.Objects.{Objects, Service, content_in, site_in, with_state}
use Rattle.inf_laws_directory.specs.Owes.{Aims, AimsWith, IsStopped}
use Rattle.inf_laws_directory.specs.Phases.{Phase, Phases, has_made, has_reserved, has_sealed, has_unlinked, idle, with_phase}
use Rattle.inf_laws_directory.specs.Replays.{IsRefused}
use Rattle.inf_laws_directory.specs.Standing.{Decides, GoesOn, GoesOnOlder, IsStanding}
use Rattle.inf_laws_directory.specs.Stands.{Stands}
use Rattle.inf_laws_directory.specs.Told.{IsUnborn}
use Rattle.inf_laws_directory.proofs.CallFacts.{same_phases}
use Rattle.inf_laws_directory.proofs.ChainEnds.{last_key}
use Rattle.inf_laws_directory.proofs.Owing.{IsOwed, WasServed, older, only_tells, settles, settles_fine, settles_fine_always, was_served}
use Rattle.inf_laws_directory.proofs.SameContents.{nothing_seen}
use Rattle.inf_laws_directory.proofs.StandingFacts.{looks_same, sealed_by_name}
use Rattle.inf_laws_server.proofs.Births.{cancel_comes, link_comes, make_comes, reserve_comes}
use Rattle.inf_laws_server.proofs.Files.{create_comes, rmdir_name_comes, stat_comes, walk_comes}
use Rattle.inf_laws_server.proofs.Removals.{drop_comes, forget_comes, seal_comes, unlink_comes, unseal_comes}
use Rattle.inf_laws_server.proofs.Lookups.{lookup_comes}
use Rattle.inf_renames.specs.Renames.{least_version}
use Rattle.inf_laws_directory.proofs.owes.what_is_served_stands.Goals as goal

module _ (c : goal.After-served_clean_ups_stand) (service : Service) (objects : Objects) (at : At) (root : Access)
    (tree : Node) (phases : Phases) (ask : Ask) (given : Reply) (new : State)
    (standing : IsStanding service objects root tree phases) where
  abbrev site : Site
  site = site_in service at.number

  abbrev state : State
  state = objects at.number

  abbrev next : Objects
  next = with_state at.number new objects

  unseen : new.contents ≡ state.contents → Stands (content_in service next) root tree
  unseen same =
      c.unseen_changes_stand.ensures (content_in service objects)
      (content_in service next) root tree standing.stands
      (looks_same service objects next root (nothing_seen service objects at.number new same))

  abbrev Served : Request → Type 0
  Served requested = WasServed state (on_request site state at.ask_place ask requested) given new

  abbrev Owed : Phase → Request → Call → Reply → Type 0
  Owed = IsOwed service objects at root tree phases ask given new standing unseen

  abbrev end : Response
  end = record { reply = given; state = new }

  abbrev Passes : Request → Type 0
  Passes requested = on_request site state at.ask_place ask requested ≡ Ok end

  -- all goes on, once the call is in this phase
  goes : (phase : Phase) → GoesOn service objects next root tree phases (with_phase ask.from phase phases)
      → GoesOnOlder service at.ask_place objects next root tree phases (with_phase ask.from phase phases)
  goes phase goes_on =
      older service at.ask_place objects next root tree phases (with_phase ask.from phase phases) goes_on

  -- a call that stays idle
  stays_idle : (P : Phases → Type 0) → phases ask.from ≡ idle → P phases → P (with_phase ask.from idle phases)
  stays_idle P in_hand holds =
      subst P (sym (ap (λ (p : Phase). with_phase ask.from p phases) (sym in_hand)
      ∙ same_phases ask.from phases)) holds

  creates : (asked : Call) (chain : List Entry) (name : List ℕ) (mode : ℕ) → phases ask.from ≡ idle
      → AimsWith service objects root phases asked chain (op.Create name mode) → Served (request.Finish chain (op.Create name mode))
      → Owed idle (request.Finish chain (op.Create name mode)) asked given
  creates (call.Create text mode) chain name with_mode in_hand aims served =
      settles_fine service objects at root tree phases ask given new standing unseen idle in_hand
      (request.Finish chain (op.Create name with_mode)) (call.Create text mode) served
      (create_comes site state at.ask_place ask chain name with_mode) (λ done. done.said)
      (λ error is. subst (λ (m : ℕ). IsRefused tree ask.caller (call.Create text m) error) aims.0
      (c.served_creations_stand.ensures.refused service objects at.number root tree phases ask text aims.1.path name
      with_mode chain error standing in_hand aims.1.told aims.1.names is))
      (λ is done. stays_idle
      (λ (after : Phases). Decides service objects next root tree phases after ask.caller
      (call.Create text mode) answer.Done) in_hand
      (subst (λ (m : ℕ). Decides service objects next root tree phases phases ask.caller (call.Create text m) answer.Done) aims.0
      (c.served_creations_stand.ensures.done service objects at.number root tree phases ask text aims.1.path name
      with_mode chain end standing in_hand aims.1.told aims.1.names is)))
  creates other_call chain name with_mode in_hand aims served = absurd aims

  stats : (asked : Call) (chain : List Entry) (name : List ℕ) → phases ask.from ≡ idle
      → AimsWith service objects root phases asked chain (op.Stat name) → Served (request.Finish chain (op.Stat name))
      → Owed idle (request.Finish chain (op.Stat name)) asked given
  stats (call.Stat text) chain name in_hand aims served =
      settles service objects at root tree phases ask given new standing unseen idle in_hand
      (request.Finish chain (op.Stat name)) (call.Stat text) served
      (stat_comes site state at.ask_place ask chain name)
      (λ error is. c.served_looks_stand.ensures.not_told service objects at.number root tree phases ask text aims.path
      name chain error standing in_hand aims.told aims.names is)
      (λ is done.
      let kind = done.passed.kind in
      let meta = done.passed.meta in
      subst (Owed idle (request.Finish chain (op.Stat name)) (call.Stat text)) (sym done.said)
      (stays_idle (λ (after : Phases). Decides service objects next root tree phases after ask.caller (call.Stat text)
      (answer.Stat kind meta)) in_hand
      (c.served_looks_stand.ensures.told service objects at.number root tree phases ask text aims.path name chain end
      kind meta standing in_hand aims.told aims.names is done.said)))
  stats other_call chain name in_hand aims served = absurd aims

  -- a walk that stops may be any call's
  stopped : (asked : Call) (chain : List Entry) (name : List ℕ) → AimsWith service objects root phases asked chain (op.Walk name)
      → IsStopped service objects root phases asked name chain
  stopped (call.Create text mode) chain name aims = aims
  stopped (call.Stat text) chain name aims = aims
  stopped (call.Rmdir text) chain name aims = aims
  stopped other_call chain name aims = aims

  walks : (asked : Call) (chain : List Entry) (name : List ℕ) → phases ask.from ≡ idle
      → AimsWith service objects root phases asked chain (op.Walk name) → Served (request.Finish chain (op.Walk name))
      → Owed idle (request.Finish chain (op.Walk name)) asked given
  walks asked chain name in_hand aims served =
      let stop = stopped asked chain name aims in
      settles service objects at root tree phases ask given new standing unseen idle in_hand
      (request.Finish chain (op.Walk name)) asked served
      (walk_comes site state at.ask_place ask chain name)
      (λ error is. c.served_looks_stand.ensures.stopped service objects at.number root tree phases ask asked stop.text
      stop.path stop.rest name stop.next chain error standing in_hand stop.told stop.on stop.names is)
      (λ is done. absurd done.passed)

  removes_none : (asked : Call) (chain : List Entry) (name : List ℕ) → phases ask.from ≡ idle
      → AimsWith service objects root phases asked chain (op.RmdirName name) → Served (request.Finish chain (op.RmdirName name))
      → Owed idle (request.Finish chain (op.RmdirName name)) asked given
  removes_none (call.Rmdir text) chain name in_hand aims served =
      settles service objects at root tree phases ask given new standing unseen idle in_hand
      (request.Finish chain (op.RmdirName name)) (call.Rmdir text) served
      (rmdir_name_comes site state at.ask_place ask chain name)
      (λ error is. c.served_looks_stand.ensures.no_directory service objects at.number root tree phases ask text
      aims.path name chain error standing in_hand aims.told aims.names is)
      (λ is done. absurd done.passed)
  removes_none other_call chain name in_hand aims served = absurd aims

  finishes : (asked : Call) (chain : List Entry) (with : Op) → phases ask.from ≡ idle
      → AimsWith service objects root phases asked chain with → Served (request.Finish chain with) → Owed idle (request.Finish chain with) asked given
  finishes asked chain (op.Create name mode) in_hand aims served = creates asked chain name mode in_hand aims served
  finishes asked chain (op.Stat name) in_hand aims served = stats asked chain name in_hand aims served
  finishes asked chain (op.Walk name) in_hand aims served = walks asked chain name in_hand aims served
  finishes asked chain (op.RmdirName name) in_hand aims served = removes_none asked chain name in_hand aims served
  finishes (call.Create text mode) chain other_op in_hand aims served = absurd aims
  finishes (call.Stat text) chain other_op in_hand aims served = absurd aims
  finishes (call.Rmdir text) chain other_op in_hand aims served = absurd aims
  finishes other_call chain other_op in_hand aims served = absurd aims

  looks_up : (asked : Call) (key : LookKey) → phases ask.from ≡ idle → Served (request.Lookup key) → Owed idle (request.Lookup key) asked given
  looks_up asked key in_hand served =
      only_tells service objects at root tree phases ask given new standing unseen idle in_hand key asked served
      (lookup_comes site state at.ask_place ask key)

  reserves : (asked : Call) (chain : List Entry) (name : List ℕ) → phases ask.from ≡ idle
      → Aims service objects root phases ask.caller asked (request.Reserve chain name) → Served (request.Reserve chain name)
      → Owed idle (request.Reserve chain name) asked given
  reserves (call.Mkdir text mode) chain name in_hand aims served =
      settles service objects at root tree phases ask given new standing unseen idle in_hand
      (request.Reserve chain name) (call.Mkdir text mode) served
      (reserve_comes site state at.ask_place ask chain name)
      (λ error is. c.served_reservations_stand.ensures.refused service objects at.number root tree phases ask text
      aims.path name mode chain error standing in_hand aims.told aims.names is)
      (λ is done.
      let last : Entry = done.passed.entry in
      let ends : last_of chain ≡ Some last = done.passed.is_asked.last in
      let version = least_version last.access.id name state.renames in
      subst (Owed idle (request.Reserve chain name) (call.Mkdir text mode)) (sym done.said)
      (subst (λ (o : Option Entry). GoesOnOlder service at.ask_place objects next root tree phases
      (with_phase ask.from (reserved_at_end o idle name version) phases)) (sym ends)
      (goes (has_reserved (dir_of last.access) name (triple.Of last.access.id name version))
      (c.served_reservations_stand.ensures.done service objects at.number version root tree phases ask aims.path name
      chain last end standing in_hand aims.told ends is done.said))))
  reserves other_call chain name in_hand aims served = absurd aims

  makes : (asked : Call) (parent : DirRef) (name : List ℕ) (birth wanted : Triple) → phases ask.from ≡ has_reserved parent name birth
      → wanted ≡ birth → IsUnborn service objects at.ask_place → Served (request.Make wanted)
      → Owed (has_reserved parent name birth) (request.Make wanted) asked given
  makes asked parent name birth wanted in_hand fits unborn served =
      settles_fine_always service objects at root tree phases ask given new standing unseen
      (has_reserved parent name birth) in_hand (request.Make wanted) asked served
      (make_comes site state at.ask_place ask wanted) (λ done. done.said) (λ error denies. denies)
      (λ is done. c.served_makes_stand.ensures service objects at root tree phases ask parent name birth end
      standing in_hand unborn
      (subst (λ (b : Triple). Passes (request.Make b)) fits is))

  cancels : (asked : Call) (parent dir : DirRef) (name : List ℕ) (birth : Triple) → phases ask.from ≡ has_reserved parent name birth
      → dir ≡ parent → Served (request.Cancel dir) → Owed (has_reserved parent name birth) (request.Cancel dir) asked given
  cancels asked parent dir name birth in_hand fits served =
      settles_fine_always service objects at root tree phases ask given new standing unseen
      (has_reserved parent name birth) in_hand (request.Cancel dir) asked served
      (cancel_comes site state at.ask_place ask dir) (λ done. done.said) (λ error denies. denies)
      (λ is done. goes idle
      (c.served_clean_ups_stand.ensures.cancelled service objects at.number root tree phases ask parent name
      birth end standing in_hand
      (subst (λ (d : DirRef). Passes (request.Cancel d)) fits is)))

  drops_made : (asked : Call) (parent made dir : DirRef) (name : List ℕ) (birth : Triple) → phases ask.from ≡ has_made parent name birth made
      → dir ≡ made → Served (request.Drop dir) → Owed (has_made parent name birth made) (request.Drop dir) asked given
  drops_made asked parent made dir name birth in_hand fits served =
      settles_fine_always service objects at root tree phases ask given new standing unseen
      (has_made parent name birth made) in_hand (request.Drop dir) asked served
      (drop_comes site state at.ask_place ask dir) (λ done. done.said) (λ error denies. denies)
      (λ is done. goes (has_reserved parent name birth)
      (c.served_clean_ups_stand.ensures.made_dropped service objects at.number root tree phases ask parent made name
      birth end standing in_hand
      (subst (λ (d : DirRef). Passes (request.Drop d)) fits is)))

  drops_unlinked : (asked : Call) (target dir : DirRef) → phases ask.from ≡ has_unlinked target
      → dir ≡ target → Served (request.Drop dir) → Owed (has_unlinked target) (request.Drop dir) asked given
  drops_unlinked asked target dir in_hand fits served =
      settles_fine_always service objects at root tree phases ask given new standing unseen
      (has_unlinked target) in_hand (request.Drop dir) asked served
      (drop_comes site state at.ask_place ask dir) (λ done. done.said) (λ error denies. denies)
      (λ is done. goes idle
      (c.served_clean_ups_stand.ensures.dropped service objects at.number root tree phases ask
      target end standing in_hand
      (subst (λ (d : DirRef). Passes (request.Drop d)) fits is)))

  unseals : (asked : Call) (parent target dir : DirRef) (name : List ℕ) → phases ask.from ≡ has_sealed parent name target
      → dir ≡ target → Served (request.Unseal dir) → Owed (has_sealed parent name target) (request.Unseal dir) asked given
  unseals asked parent target dir name in_hand fits served =
      settles_fine_always service objects at root tree phases ask given new standing unseen
      (has_sealed parent name target) in_hand (request.Unseal dir) asked served
      (unseal_comes site state at.ask_place ask dir) (λ done. done.said) (λ error denies. denies)
      (λ is done. goes idle
      (c.served_clean_ups_stand.ensures.unsealed service objects at.number root tree phases ask parent target
      name end standing in_hand
      (subst (λ (d : DirRef). Passes (request.Unseal d)) fits is)))

  forgets : (asked : Call) (parent : Id) (dir : DirRef) → phases ask.from ≡ idle → Served (request.Forget parent dir) → Owed idle (request.Forget parent dir) asked given
  forgets asked parent dir in_hand served =
      settles_fine_always service objects at root tree phases ask given new standing unseen idle in_hand
      (request.Forget parent dir) asked served
      (forget_comes site state at.ask_place ask parent dir) (λ done. done.said) (λ error denies. denies)
      (λ is done. goes idle (stays_idle (λ (after : Phases). GoesOn service objects next root tree phases after) in_hand
      (c.served_clean_ups_stand.ensures.forgotten service objects at.number root tree phases ask parent
      dir end standing is)))

  links : (asked : Call) (parent made dir : DirRef) (kept name : List ℕ) (birth : Triple) (chain : List Entry) (mode : ℕ) → phases ask.from ≡ has_made parent kept birth made
      → EndsIn (last_of chain) parent × (name ≡ kept) × (dir ≡ made)
      → Aims service objects root phases ask.caller asked (request.Link chain name dir mode) → Served (request.Link chain name dir mode)
      → Owed (has_made parent kept birth made) (request.Link chain name dir mode) asked given
  links (call.Mkdir text mode) parent made dir kept name birth chain with_mode in_hand fits aims served =
      settles_fine_always service objects at root tree phases ask given new standing unseen
      (has_made parent kept birth made) in_hand (request.Link chain name dir with_mode) (call.Mkdir text mode) served
      (link_comes site state at.ask_place ask chain name dir with_mode) (λ done. done.said) (λ error denies. denies)
      (λ is done.
      let aimed = aims.1 in
      let may = aims.2 in
      let last : Entry = may.last in
      let ends_in : dir_of last.access ≡ parent = subst (λ (o : Option Entry). EndsIn o parent) may.ends fits.0 in
      let at_made : phases ask.from ≡ has_made (dir_of last.access) name birth dir =
      in_hand ∙ ap (λ (d : DirRef). has_made d kept birth made) (sym ends_in)
      ∙ ap (λ (n : List ℕ). has_made (dir_of last.access) n birth made) (sym fits.1)
      ∙ ap (λ (d : DirRef). has_made (dir_of last.access) name birth d) (sym fits.2) in
      subst (λ (m : ℕ). Decides service objects next root tree phases (with_phase ask.from idle phases) ask.caller (call.Mkdir text m) answer.Done) aims.0
      (c.served_links_stand.ensures service objects at.number root tree phases ask text aimed.path name with_mode
      chain last birth dir end standing may.ends at_made aimed.told aimed.names may.may is))
  links other_call parent made dir kept name birth chain with_mode in_hand fits aims served = absurd aims

  -- the phase of a call that sealed what ends the chain
  sealed_is : (phase : Phase) (chain : List Entry) (parent target : Entry) (dir : DirRef) (name : List ℕ) → last_of (before_last chain) ≡ Some parent → last_of chain ≡ Some target
      → target.key ≡ key.At dir name → sealed_at_end (last_of (before_last chain)) (last_of chain) phase ≡ has_sealed (dir_of parent.access) name (dir_of target.access)
  sealed_is phase chain parent target dir name at_parent at_last keyed =
      ap (λ (o : Option Entry). sealed_at_end o (last_of chain) phase) at_parent ∙ ap (λ (o : Option Entry). sealed_at_end (Some parent) o phase) at_last
      ∙ ap (λ (k : Key). sealed_under (Some parent) phase k target.access) keyed

  seals : (asked : Call) (chain : List Entry) → phases ask.from ≡ idle
      → Aims service objects root phases ask.caller asked (request.Seal chain) → Served (request.Seal chain) → Owed idle (request.Seal chain) asked given
  seals (call.Rmdir text) chain in_hand aims served =
      settles_fine service objects at root tree phases ask given new standing unseen idle in_hand (request.Seal chain)
      (call.Rmdir text) served
      (seal_comes site state at.ask_place ask chain) (λ done. done.said)
      (λ error is. c.served_seals_stand.ensures.refused service objects at.number root tree phases ask text aims.path
      aims.name chain error standing in_hand aims.told aims.names is)
      (λ is done.
      let parent : Entry = done.passed.parent in
      let target : Entry = done.passed.entry in
      let at_parent : last_of (before_last chain) ≡ Some parent = done.passed.above in
      let at_last : last_of chain ≡ Some target = done.passed.is_asked.last in
      let keyed = last_key aims.name target parent aims.path chain aims.told.links at_last at_parent in
      subst (λ (p : Phase). GoesOnOlder service at.ask_place objects next root tree phases
      (with_phase ask.from p phases))
      (sym (sealed_is idle chain parent target (dir_of parent.access) aims.name at_parent at_last keyed))
      (goes (has_sealed (dir_of parent.access) aims.name (dir_of target.access))
      (c.served_seals_stand.ensures.done service objects at.number root tree phases ask aims.path aims.name chain
      parent target end standing in_hand aims.told at_last at_parent is)))
  seals other_call chain in_hand aims served = absurd aims

  unlinks : (asked : Call) (above removed : DirRef) (kept : List ℕ) (chain : List Entry) → phases ask.from ≡ has_sealed above kept removed
      → EndsIn (last_of (before_last chain)) above × EndsIn (last_of chain) removed
      → Aims service objects root phases ask.caller asked (request.Unlink chain) → Served (request.Unlink chain)
      → Owed (has_sealed above kept removed) (request.Unlink chain) asked given
  unlinks (call.Rmdir text) above removed kept chain in_hand fits aims served =
      settles_fine_always service objects at root tree phases ask given new standing unseen
      (has_sealed above kept removed) in_hand (request.Unlink chain) (call.Rmdir text) served
      (unlink_comes site state at.ask_place ask chain) (λ done. done.said) (λ error denies. denies)
      (λ is done.
      let aimed = aims.0 in
      let may = aims.1 in
      let parent : Entry = may.last in
      let target : Entry = done.passed.target in
      let at_last : last_of chain ≡ Some target = done.passed.last in
      let ends_above : dir_of parent.access ≡ above = subst (λ (o : Option Entry). EndsIn o above) may.ends fits.0 in
      let ends_in : dir_of target.access ≡ removed = subst (λ (o : Option Entry). EndsIn o removed) at_last fits.1 in
      let at_kept : phases ask.from ≡ has_sealed (dir_of parent.access) kept (dir_of target.access) =
      in_hand ∙ ap (λ (d : DirRef). has_sealed d kept removed) (sym ends_above)
      ∙ ap (λ (d : DirRef). has_sealed (dir_of parent.access) kept d) (sym ends_in) in
      let named : kept ≡ aimed.name =
      sealed_by_name service objects root tree phases ask.from aimed.path aimed.name kept chain parent target standing at_kept aimed.told at_last may.ends in
      let at_sealed : phases ask.from ≡ has_sealed (dir_of parent.access) aimed.name (dir_of target.access) =
      at_kept ∙ ap (λ (n : List ℕ). has_sealed (dir_of parent.access) n (dir_of target.access)) named in
      subst (λ (o : Option Entry). Decides service objects next root tree phases (with_phase ask.from (unlinked_at_end o (has_sealed above kept removed)) phases) ask.caller (call.Rmdir text) answer.Done) (sym at_last)
      (c.served_unlinks_stand.ensures service objects at.number root tree phases ask text aimed.path aimed.name chain
      parent target end standing at_sealed at_last may.ends
      aimed.told aimed.names may.may is))
  unlinks other_call above removed kept chain in_hand fits aims served = absurd aims

  owes : (asked : Call) (phase : Phase) (requested : Request) → phases ask.from ≡ phase → Fits at phase requested
      → Aims service objects root phases ask.caller asked requested → IsUnborn service objects at.ask_place
      → Served requested → Owed phase requested asked given
  owes asked idle (request.Lookup key) in_hand fits aims unborn served = looks_up asked key in_hand served
  owes asked idle (request.Finish chain with) in_hand fits aims unborn served =
      finishes asked chain with in_hand aims served
  owes asked idle (request.Reserve chain name) in_hand fits aims unborn served =
      reserves asked chain name in_hand aims served
  owes asked idle (request.Seal chain) in_hand fits aims unborn served = seals asked chain in_hand aims served
  owes asked idle (request.Forget parent dir) in_hand fits aims unborn served = forgets asked parent dir in_hand served
  owes asked (has_reserved parent name birth) (request.Make wanted) in_hand fits aims unborn served =
      makes asked parent name birth wanted in_hand fits unborn served
  owes asked (has_reserved parent name birth) (request.Cancel dir) in_hand fits aims unborn served =
      cancels asked parent dir name birth in_hand fits served
  owes asked (has_made parent kept birth made) (request.Link chain name dir mode) in_hand fits aims unborn served =
      links asked parent made dir kept name birth chain mode in_hand fits aims served
  owes asked (has_made parent name birth made) (request.Drop dir) in_hand fits aims unborn served =
      drops_made asked parent made dir name birth in_hand fits served
  owes asked (has_sealed parent name target) (request.Unlink chain) in_hand fits aims unborn served =
      unlinks asked parent target name chain in_hand fits aims served
  owes asked (has_sealed parent name target) (request.Unseal dir) in_hand fits aims unborn served =
      unseals asked parent target dir name in_hand fits served
  owes asked (has_unlinked target) (request.Drop dir) in_hand fits aims unborn served =
      drops_unlinked asked target dir in_hand fits served
  owes asked any_phase any_request in_hand fits aims unborn served = absurd fits

pub returns : goal.returns
returns c = λ service objects at root tree phases ask asked given new standing fits aims unborn serves.
    owes c service objects at root tree phases ask given new standing asked
    (phases ask.from) ask.request refl fits aims unborn
    (was_served service objects at ask given new serves)
