-- What a Serve decides is the tree's: the calls that it decides replay on the tree, and what stands then stands for the
-- tree that they leave.
use Rattle.std.proofs.Common.{◌≡◌, ℕ, true, false, List, [], ◌∷◌, Option, Some, None, refl, sym, ap, subst}
use Rattle.inf_base.specs.declared.access.Access.{Access}
use Rattle.inf_base.specs.declared.answer.Answer.{Answer}
use Rattle.inf_base.specs.declared.answer.Answer.TheVariants as answer
use Rattle.inf_base.specs.declared.call.Call.{Call}
use Rattle.inf_base.specs.declared.caller.Caller.{Caller}
use Rattle.inf_base.specs.declared.errno.Errno.{Errno}
use Rattle.inf_base.specs.declared.file.FileMeta.{FileMeta}
use Rattle.inf_base.specs.declared.id.Id.{Id}
use Rattle.inf_base.specs.declared.item.Kind.{Kind}
use Rattle.inf_base.specs.declared.key.Key.{Key}
use Rattle.inf_flow_dir.specs.declared.dir_flow.DirFlow.TheVariants as dir_flow
use Rattle.inf_message.specs.declared.ending.Ending.TheVariants as ending
use Rattle.inf_flow_file.specs.declared.file_flow.FileFlow.TheVariants as file_flow
use Rattle.inf_duty.specs.declared.flow.Flow.TheVariants as flow
use Rattle.inf_message.specs.declared.turn.Turn.TheVariants as turn
use Rattle.inf_duty.specs.ClientState.{ClientState, Stage, act}
use Rattle.inf_duty.specs.Flow.{after_reply, clean_up}
use Rattle.inf_duty.proofs.FlowFacts.{message_of}
use Rattle.inf_duty.specs.declared.course.Course.{Course}
use Rattle.inf_duty.proofs.BegunKept.{if_both}
use Rattle.inf_duty.specs.Course.{next_course}
use Rattle.inf_duty.specs.Turn.{known_turn, round_turn, turn_by}
use Rattle.inf_duty.specs.declared.flow.Flow.{Flow}
use Rattle.inf_message.specs.Sent.{is_wanting}
use Rattle.inf_message.specs.Turn.{fails, turn_as}
use Rattle.inf_message.specs.Who.{Who, birth_of}
use Rattle.inf_message.specs.declared.turn.Turn.{Turn}
use Rattle.inf_laws_directory.specs.Owes.{Goes, Moment, Owes, Settles}
use Rattle.inf_laws_directory.specs.Replays.{IsRefused}
use Rattle.inf_laws_directory.specs.Standing.{IsStanding}
use Rattle.inf_laws_directory.specs.Told.{IsToldAs}
use Rattle.inf_laws_history.specs.Decisions.{decided_by_turn, decided_call, is_of_tree, of_tree}
use Rattle.inf_message.specs.declared.op.Op.TheVariants as op
use Rattle.inf_message.specs.declared.reply.Reply.{Reply}
use Rattle.inf_message.specs.declared.reply.Reply.TheVariants as reply
use Rattle.inf_resolve.specs.declared.known.Known.{Known}
use Rattle.inf_resolve.specs.declared.resolved.Resolved.{Resolved}
use Rattle.inf_resolve.specs.declared.resolved.Resolved.TheVariants as comes
use Rattle.inf_resolve.specs.Resolved.{resolved}
use Rattle.inf_tree.specs.Apply.{Applied, apply}
use Rattle.inf_tree.specs.Replay.{Decided, Replays, replayed}
use Rattle.inf_tree.specs.Tree.{Node}

-- ---- what comes of a moment, by what it decides

pub record Comes (m : Moment) (decided : List Decided) : Type 0 where
  pub tree : Node
  pub standing : IsStanding m.service m.new m.root tree m.after
  pub told : (key : Key) (access : Access) → (access.born ≡ m.at.ask_place → ⊥)
      → IsToldAs m.service m.old m.root m.before key access → IsToldAs m.service m.new m.root m.after key access
  pub replays : Replays m.tree decided
  pub leaves : replayed m.tree decided ≡ tree

abbrev pub one_decided : Caller → Call → Answer → List Decided
one_decided caller asked given = record { caller = caller; call = asked; answer = given } ∷ []

pub comes_on : (m : Moment) → Goes m → Comes m []
comes_on m goes = record { tree = m.tree; standing = goes.standing; told = goes.keeps.told; replays = tt; leaves = refl }

comes_refused : (m : Moment) (caller : Caller) (asked : Call) (error : Errno) → IsRefused m.tree caller asked error → Goes m
    → Comes m (one_decided caller asked (answer.Refused error))
comes_refused m caller asked error is goes = record {
  tree = m.tree;
  standing = goes.standing;
  told = goes.keeps.told;
  replays = (sym (ap (λ (a : Applied). a.answer) is), tt);
  leaves = ap (λ (a : Applied). a.tree) is;
}

comes_done : (m : Moment) (caller : Caller) (asked : Call) → Settles m caller asked answer.Done → Comes m (one_decided caller asked answer.Done)
comes_done m caller asked is = record {
  tree = (apply m.tree caller asked).tree;
  standing = is.goes_on.standing;
  told = λ key access older. is.goes_on.keeps.told key access;
  replays = (sym is.answered, tt);
  leaves = refl;
}

comes_told : (m : Moment) (caller : Caller) (asked : Call) (kind : Kind) (meta : FileMeta) → Settles m caller asked (answer.Stat kind meta)
    → Comes m (one_decided caller asked (answer.Stat kind meta))
comes_told m caller asked kind meta is = record {
  tree = (apply m.tree caller asked).tree;
  standing = is.goes_on.standing;
  told = λ key access older. is.goes_on.keeps.told key access;
  replays = (sym is.answered, tt);
  leaves = refl;
}

-- ---- calls that are given up

none_given_up : (s : ClientState) (calls : List Call) (given : Answer) → is_of_tree given ≡ false → of_tree (decided_call s calls given) ≡ []
none_given_up s [] given is = refl
none_given_up s (asked ∷ calls) given is = rw is refl

-- ---- after a round

abbrev Undecided : ClientState → Turn Stage → Type 0
Undecided s t = decided_by_turn s t ≡ []

resolved_undecided : (s : ClientState) (r : Resolved) → Undecided s (turn_by r)
resolved_undecided s (comes.Asks keys) = refl
resolved_undecided s (comes.Leads old new) = refl
resolved_undecided s (comes.IsBusy by place) = none_given_up s s.left (answer.Again by) refl
resolved_undecided s comes.Lacks = refl

known_undecided : (digest : List ℕ → Id) (s : ClientState) (who : Who) (known : List Known) (found : Option Course)
    → Undecided s (known_turn digest who known found)
known_undecided digest s who known None = refl
known_undecided digest s who known (Some course) = resolved_undecided s (resolved digest who.root course.looked known)

-- a round decides nothing
pub round_undecided : (digest : List ℕ → Id) (s now : ClientState) → decided_by_turn s (round_turn digest now) ≡ []
round_undecided digest s now =
    if_both (Undecided s) (is_wanting now.sent) (turn.WindsUp (ending.Answers answer.NoMemory None) [])
    (known_turn digest now.who now.known (next_course now.left)) refl
    (known_undecided digest s now.who now.known (next_course now.left))

-- ---- after a message of a flow

module _ (digest : List ℕ → Id) (m : Moment) (s : ClientState) (asked : Call) (calls : List Call) (left : s.left ≡ asked ∷ calls) where
  abbrev ComesTo : Turn Flow → Type 0
  ComesTo t = Comes m (decided_by_turn s (turn_as act t))

  -- with an answer that is the tree's
  one_comes : (given : Answer) → is_of_tree given ≡ true → Comes m (one_decided s.who.caller asked given)
      → Comes m (of_tree (decided_call s s.left given))
  one_comes given is here =
      subst (λ (cs : List Call). Comes m (of_tree (decided_call s cs given))) (sym left)
      (rw is here)

  given_up_comes : (given : Answer) → is_of_tree given ≡ false → Goes m → Comes m (of_tree (decided_call s s.left given))
  given_up_comes given is goes = subst (λ (ds : List Decided). Comes m ds) (sym (none_given_up s s.left given is)) (comes_on m goes)

  abbrev Failing : Reply → Type 0
  Failing (reply.Refused error) = IsRefused m.tree s.who.caller asked error × Goes m
  Failing other_reply = Goes m

  fails_comes : {F : Type 0} (wrap : F → Flow) (step : Flow) (place : ℕ) (given : Reply) → Failing given → ComesTo (turn_as wrap (fails (clean_up s.who step) place given))
  fails_comes wrap step place (reply.Refused error) owes = one_comes (answer.Refused error) refl (comes_refused m s.who.caller asked error owes.0 owes.1)
  fails_comes wrap step place (reply.Busy by at born) owes = given_up_comes (answer.Again by) refl owes
  fails_comes wrap step place reply.NoMem owes = comes_on m owes
  fails_comes wrap step place other_reply owes = comes_on m owes

  -- what is owed for the message is what comes of it
  pub act_comes : (step : Flow) (ask_place place : ℕ) (given : Reply) → Owes m s.who.caller asked (message_of s.who step).request given
      → ComesTo (after_reply digest s.who step ask_place place given)
  act_comes (flow.File (file_flow.Finishes chain (op.Create name mode))) ask_place place reply.Fine owes = one_comes answer.Done refl (comes_done m s.who.caller asked owes)
  act_comes (flow.File (file_flow.Finishes chain (op.Stat name))) ask_place place (reply.Stat kind meta) owes =
      one_comes (answer.Stat kind meta) refl (comes_told m s.who.caller asked kind meta owes)
  act_comes (flow.Dir (dir_flow.Reserves chain name mode)) ask_place place (reply.Reserved version) owes = comes_on m owes
  act_comes (flow.Dir (dir_flow.Makes chain name mode version id)) ask_place place reply.Fine owes = comes_on m owes
  act_comes (flow.Dir (dir_flow.Makes chain name mode version id)) ask_place place (reply.Clash kept) owes =
      given_up_comes (answer.IdClash (birth_of s.who chain name version) kept) refl owes
  act_comes (flow.Dir (dir_flow.Links chain name mode version dir)) ask_place place reply.Fine owes = one_comes answer.Done refl (comes_done m s.who.caller asked owes)
  act_comes (flow.Dir (dir_flow.Seals chain)) ask_place place reply.Fine owes = comes_on m owes
  act_comes (flow.Dir (dir_flow.Unlinks chain)) ask_place place reply.Fine owes = one_comes answer.Done refl (comes_done m s.who.caller asked owes)
  act_comes (flow.File step) ask_place place given owes = fails_comes flow.File (flow.File step) place given owes
  act_comes (flow.Dir step) ask_place place given owes = fails_comes flow.Dir (flow.Dir step) place given owes
