-- What follows a group stands on chains of what was told, whatever is true of that.
use Rattle.std.proofs.Common.{◌≡◌, ℕ, Bool, true, false, if◌then◌else◌, List, [], ◌∷◌, Option, Some, None, refl, sym, subst}
use Rattle.inf_base.specs.declared.call.Call.{Call}
use Rattle.inf_base.specs.declared.directory.DirRef.{DirRef}
use Rattle.inf_base.specs.declared.entry.Entry.{Entry}
use Rattle.inf_base.specs.declared.id.Id.{Id}
use Rattle.inf_base.specs.declared.triple.Triple.{Triple}
use Rattle.inf_base.specs.declared.triple.Triple.TheVariants as triple
use Rattle.inf_base.specs.Same.{dir_of}
use Rattle.inf_message.specs.declared.reply.Reply.{Reply}
use Rattle.inf_message.specs.declared.reply.Reply.TheVariants as reply
use Rattle.inf_message.specs.declared.step.Message.{Message}
use Rattle.inf_message.specs.Chain.{last_entry, way_to}
use Rattle.inf_message.specs.CleanUp.{one_by_one}
use Rattle.inf_message.specs.Who.{Who, last_id}
use Rattle.inf_flow_dir.specs.declared.dir_flow.DirFlow.TheVariants as dir_flow
use Rattle.inf_flow_dir.specs.declared.dir_flow.DirFlow.{DirFlow}
use Rattle.inf_flow_dir.specs.DirFlow.{after as after_dir, after_reply as dir_reply, clean_up as dir_clean_up, forget_in, lives_at, row_of}
use Rattle.inf_resolve.specs.declared.known.Known.{Known}
use Rattle.inf_resolve.specs.declared.resolved.Resolved.{Resolved}
use Rattle.inf_resolve.specs.declared.resolved.Resolved.TheVariants as comes
use Rattle.inf_resolve.specs.Resolved.{resolved}
use Rattle.inf_resolve.proofs.LedFacts.{old_is_chain}
use Rattle.inf_duty.specs.declared.course.Course.{Course}
use Rattle.inf_duty.specs.declared.course.Deed.{Deed}
use Rattle.inf_duty.specs.declared.course.Deed.TheVariants as deed
use Rattle.inf_duty.specs.declared.flow.Flow.{Flow}
use Rattle.inf_duty.specs.declared.flow.Flow.TheVariants as flow
use Rattle.inf_duty.specs.Course.{flow_at, next_course}
use Rattle.inf_duty.specs.Flow.{clean_up}
use Rattle.inf_duty.specs.Group.{next_stage, stage_by}
use Rattle.inf_duty.specs.Keeps.{ClientKeeps, FlowKeeps, TurnFits}
use Rattle.inf_laws_client.specs.Told.{AllKnown, AllPlain, AreKnownFor, ArePlain, IsChainOf, StandsOn, chain_of}
use Rattle.inf_laws_client.proofs.LedChain.{chain_is}
use Rattle.inf_duty.proofs.KeepsFacts.{either_keeps, fails_fits, keeps_by}

-- ---- what winds a call up

plain_in : (who : Who) (dir : DirRef) (birth : Triple) (b : Bool) → ArePlain (if b then [] else forget_in who dir birth)
plain_in who dir triple.Root true = tt
plain_in who dir triple.Root false = tt
plain_in who dir (triple.Of parent name version) true = tt
plain_in who dir (triple.Of parent name version) false = (refl, tt)

plain_row : (who : Who) (parent : Id) (last : Option Entry) → ArePlain (row_of who parent last)
plain_row who parent None = tt
plain_row who parent (Some entry) = plain_in who (dir_of entry.access) entry.access.birth (lives_at parent entry.key entry.access.birth)

-- messages are no less plain one by one
plain_steps : (ms : List Message) → ArePlain ms → AllPlain (one_by_one ms)
plain_steps [] plain = tt
plain_steps (m ∷ ms) plain = ((plain.0, tt), plain_steps ms plain.1)

plain_clean_up : (who : Who) (step : DirFlow) → AllPlain (dir_clean_up who step)
plain_clean_up who (dir_flow.Reserves chain name mode) = tt
plain_clean_up who (dir_flow.Makes chain name mode version id) = ((refl, tt), tt)
plain_clean_up who (dir_flow.Links chain name mode version dir) = ((refl, tt), ((refl, tt), tt))
plain_clean_up who (dir_flow.Seals chain) = tt
plain_clean_up who (dir_flow.Unlinks chain) = ((refl, tt), tt)

-- ---- where a path has led

flow_chain : (what : Deed) (chain : List Entry) (left : List (List ℕ)) → chain_of (flow_at what chain left) ≡ chain
flow_chain (deed.Create name mode) chain [] = refl
flow_chain (deed.Create name mode) chain (next ∷ rest) = refl
flow_chain (deed.Stat name) chain [] = refl
flow_chain (deed.Stat name) chain (next ∷ rest) = refl
flow_chain (deed.Mkdir name mode) chain [] = refl
flow_chain (deed.Mkdir name mode) chain (next ∷ rest) = refl
flow_chain deed.Rmdir chain [] = refl
flow_chain deed.Rmdir chain (name ∷ []) = refl
flow_chain deed.Rmdir chain (name ∷ next ∷ rest) = refl

module _ (digest : List ℕ → Id) (T : Entry → Type 0) (who : Who) (known : List Known) (tells : AllKnown T known)
    (fits : AreKnownFor known) where
  led_stands : (course : Course) (r : Resolved) → resolved digest who.root course.looked known ≡ r
      → StandsOn T (stage_by course.deed r)
  led_stands course (comes.Leads old new) is =
      subst (λ (chain : List Entry). IsChainOf T chain) (sym (flow_chain course.deed old.chain old.left))
      (chain_is T known course.looked.old old.chain tells fits
      (old_is_chain digest who.root course.looked known old new is))
  led_stands course (comes.Asks keys) is = tt
  led_stands course (comes.IsBusy by place) is = tt
  led_stands course comes.Lacks is = tt

  next_stands : (found : Option Course) → StandsOn T (next_stage digest who known found)
  next_stands None = tt
  next_stands (Some course) = led_stands course (resolved digest who.root course.looked known) refl

-- ---- after a message of a flow

-- what an attempt knows was told, and to the lookup of it
abbrev pub WasTold : (Entry → Type 0) → List Known → Type 0
WasTold T known = AllKnown T known × AreKnownFor known

abbrev pub StepOnChain : (Entry → Type 0) → List Call → Flow → Type 0
StepOnChain T calls step = IsChainOf T (chain_of step)

pub chain_cleans : (T : Entry → Type 0) (who : Who) (calls : List Call) (step : Flow) → StepOnChain T calls step
    → AllPlain (clean_up who step)
chain_cleans T who calls (flow.File step) is = tt
chain_cleans T who calls (flow.Dir step) is = plain_clean_up who step

module _ (digest : List ℕ → Id) (T : Entry → Type 0) where
  abbrev OnChain : DirFlow → Type 0
  OnChain step = IsChainOf T (chain_of (flow.Dir step))

  dir_turns : (who : Who) (step : DirFlow) (asked place : ℕ) (given : Reply) → OnChain step
      → TurnFits DirFlow OnChain AllPlain (dir_reply digest who step asked place given)
  dir_turns who (dir_flow.Reserves chain name mode) asked place (reply.Reserved version) is = is
  dir_turns who (dir_flow.Makes chain name mode version id) asked place reply.Fine is = is
  dir_turns who (dir_flow.Makes chain name mode version id) asked place (reply.Clash kept) is =
      plain_clean_up who (dir_flow.Makes chain name mode version id)
  dir_turns who (dir_flow.Links chain name mode version dir) asked place reply.Fine is = tt
  dir_turns who (dir_flow.Seals chain) asked place reply.Fine is = is
  dir_turns who (dir_flow.Unlinks chain) asked place reply.Fine is =
      let parent = last_id who (way_to chain) in
      ((refl, tt), plain_steps (row_of who parent (last_entry chain)) (plain_row who parent (last_entry chain)))
  dir_turns who step asked place given is =
      fails_fits AllPlain DirFlow OnChain (dir_clean_up who step) place given (plain_clean_up who step)

  dirs_keep : (who : Who) → FlowKeeps DirFlow (after_dir digest who) (dir_clean_up who) OnChain AllPlain
  dirs_keep who =
      keeps_by DirFlow (after_dir digest who) (dir_reply digest who) (dir_clean_up who) OnChain AllPlain
      (λ step sent. refl) tt (dir_turns who) (λ step is. plain_clean_up who step)

  pub chains_keep : ClientKeeps digest (WasTold T) (λ who. StepOnChain T) (λ who. AllPlain)
  chains_keep = record {
    begins = λ who calls known told. next_stands digest T who known told.0 told.1 (next_course calls);
    flows = λ who calls. either_keeps AllPlain digest who (StepOnChain T calls) tt (dirs_keep who);
    none = λ who. tt;
    later = λ who ms later plain. plain.1;
  }
