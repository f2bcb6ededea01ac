-- Flows follow the path of their call.
use Rattle.std.proofs.Common.{◌≡◌, ℕ, List, [], ◌∷◌, ◌++◌, Option, Some, None, Result, Ok, refl, sym, ap, ◌∙◌, subst, append_assoc}
use Rattle.std.proofs.lemmas.List.{append-nil}
use Rattle.inf_base.specs.declared.call.Call.{Call}
use Rattle.inf_base.specs.declared.call.Call.TheVariants as call
use Rattle.inf_base.specs.declared.entry.Entry.{Entry}
use Rattle.inf_base.specs.declared.errno.Errno.{Errno}
use Rattle.inf_base.specs.declared.id.Id.{Id}
use Rattle.inf_base.specs.Path.{path_of}
use Rattle.inf_message.specs.declared.reply.Reply.{Reply}
use Rattle.inf_message.specs.declared.reply.Reply.TheVariants as reply
use Rattle.inf_message.specs.declared.turn.Turn.{Turn}
use Rattle.inf_message.specs.declared.turn.Turn.TheVariants as turn
use Rattle.inf_message.specs.Sent.{Sent}
use Rattle.inf_message.specs.Who.{Who}
use Rattle.inf_flow_dir.specs.declared.dir_flow.DirFlow.TheVariants as dir_flow
use Rattle.inf_flow_dir.specs.declared.dir_flow.DirFlow.{DirFlow}
use Rattle.inf_flow_dir.specs.DirFlow.{after as after_dir, after_reply as dir_reply, clean_up as dir_clean_up}
use Rattle.inf_resolve.specs.declared.known.Known.{Known}
use Rattle.inf_resolve.specs.declared.resolved.Resolved.{Resolved}
use Rattle.inf_resolve.specs.declared.resolved.Resolved.TheVariants as comes
use Rattle.inf_resolve.specs.Resolved.{resolved}
use Rattle.inf_resolve.proofs.LedFacts.{old_is_chain, old_leaves}
use Rattle.inf_duty.specs.declared.course.Course.{Course}
use Rattle.inf_duty.specs.declared.course.Deed.TheVariants as deed
use Rattle.inf_duty.specs.declared.flow.Flow.{Flow}
use Rattle.inf_duty.specs.declared.flow.Flow.TheVariants as flow
use Rattle.inf_duty.specs.Course.{course_at, course_in, course_of, flow_at, split, text_of}
use Rattle.inf_duty.specs.Flow.{after_act, clean_up}
use Rattle.inf_duty.specs.Group.{stage_by}
use Rattle.inf_duty.specs.Keeps.{AnySteps, FlowKeeps, TurnFits}
use Rattle.inf_laws_client.specs.Paths.{Follows, StageFollows, StopsBefore, TurnFollows, names_of}
use Rattle.inf_laws_client.specs.Told.{AreKnownFor}
use Rattle.inf_duty.proofs.KeepsFacts.{either_keeps, fails_fits, keeps_by, turn_fits}
use Rattle.inf_laws_client.proofs.LedChain.{chain_names}

abbrev ok : List (List ℕ) → Result (List (List ℕ)) Errno
ok names = Ok names

-- ---- courses

-- wherever the path leads, the flow that follows is on it
record IsCourse (asked : Call) (course : Course) : Type 0 where
  on_path : (chain : List Entry) (left : List (List ℕ)) → names_of chain ++ left ≡ course.looked.old
      → Follows asked (flow_at course.deed chain left)

abbrev IfCourse : Call → Option Course → Type 0
IfCourse asked None = Unit {0}
IfCourse asked (Some course) = IsCourse asked course

split_joins : (name : List ℕ) (rest : List (List ℕ)) → (split name rest).0 ++ (split name rest).1 ∷ [] ≡ name ∷ rest
split_joins name [] = refl
split_joins name (next ∷ rest) = ap (λ (names : List (List ℕ)). name ∷ names) (split_joins next rest)

stopped : (asked : Call) (chain : List Entry) (way : List (List ℕ)) (last name : List ℕ) (rest : List (List ℕ)) → path_of (text_of asked) ≡ ok (way ++ last ∷ [])
    → names_of chain ++ name ∷ rest ≡ way → StopsBefore asked chain name
stopped asked chain way last name [] is along = record {
  next = last;
  rest = [];
  names = is ∙ ap ok (ap (λ (names : List (List ℕ)). names ++ last ∷ []) (sym along) ∙ append_assoc (names_of chain) (name ∷ []) (last ∷ []));
}
stopped asked chain way last name (r ∷ rs) is along = record {
  next = r;
  rest = rs ++ last ∷ [];
  names = is ∙ ap ok (ap (λ (names : List (List ℕ)). names ++ last ∷ []) (sym along) ∙ append_assoc (names_of chain) (name ∷ r ∷ rs) (last ∷ []));
}

-- a path that has led to its end leaves its last name
to_last : (path : List ℕ) (chain : List Entry) (way : List (List ℕ)) (last : List ℕ)
    → path_of path ≡ ok (way ++ last ∷ []) → names_of chain ++ [] ≡ way
    → path_of path ≡ ok (names_of chain ++ last ∷ [])
to_last path chain way last is along =
    is ∙ ap ok (ap (λ (names : List (List ℕ)). names ++ last ∷ []) (sym along ∙ append-nil (names_of chain)))

create_on_path : (path : List ℕ) (mode : ℕ) (way : List (List ℕ)) (last : List ℕ)
    → path_of path ≡ ok (way ++ last ∷ []) → (chain : List Entry) (left : List (List ℕ))
    → names_of chain ++ left ≡ way → Follows (call.Create path mode) (flow_at (deed.Create last mode) chain left)
create_on_path path mode way last is chain [] along =
    record { text = path; is = refl; names = to_last path chain way last is along }
create_on_path path mode way last is chain (name ∷ rest) along =
    stopped (call.Create path mode) chain way last name rest is along

stat_on_path : (path : List ℕ) (way : List (List ℕ)) (last : List ℕ)
    → path_of path ≡ ok (way ++ last ∷ []) → (chain : List Entry) (left : List (List ℕ))
    → names_of chain ++ left ≡ way → Follows (call.Stat path) (flow_at (deed.Stat last) chain left)
stat_on_path path way last is chain [] along =
    record { text = path; is = refl; names = to_last path chain way last is along }
stat_on_path path way last is chain (name ∷ rest) along =
    stopped (call.Stat path) chain way last name rest is along

mkdir_on_path : (path : List ℕ) (mode : ℕ) (way : List (List ℕ)) (last : List ℕ)
    → path_of path ≡ ok (way ++ last ∷ []) → (chain : List Entry) (left : List (List ℕ))
    → names_of chain ++ left ≡ way → Follows (call.Mkdir path mode) (flow_at (deed.Mkdir last mode) chain left)
mkdir_on_path path mode way last is chain [] along =
    record { text = path; is = refl; names = to_last path chain way last is along }
mkdir_on_path path mode way last is chain (name ∷ rest) along =
    stopped (call.Mkdir path mode) chain way last name rest is along

rmdir_on_path : (path : List ℕ) (names : List (List ℕ)) → path_of path ≡ ok names
    → (chain : List Entry) (left : List (List ℕ)) → names_of chain ++ left ≡ names
    → Follows (call.Rmdir path) (flow_at deed.Rmdir chain left)
rmdir_on_path path names is chain [] along =
    record { text = path; is = refl; names = is ∙ ap ok (sym along ∙ append-nil (names_of chain)) }
rmdir_on_path path names is chain (name ∷ []) along =
    record { text = path; is = refl; names = is ∙ ap ok (sym along) }
rmdir_on_path path names is chain (name ∷ next ∷ rest) along =
    record { next = next; rest = rest; names = is ∙ ap ok (sym along) }

course_in_is : (asked : Call) (names : List (List ℕ) × List ℕ)
    → path_of (text_of asked) ≡ ok (names.0 ++ names.1 ∷ []) → IfCourse asked (course_in asked names)
course_in_is (call.Create path mode) (way, name) is = record { on_path = create_on_path path mode way name is }
course_in_is (call.Stat path) (way, name) is = record { on_path = stat_on_path path way name is }
course_in_is (call.Mkdir path mode) (way, name) is = record { on_path = mkdir_on_path path mode way name is }
course_in_is other names is = tt

course_at_is : (asked : Call) (path : Result (List (List ℕ)) Errno) → path_of (text_of asked) ≡ path → IfCourse asked (course_at asked path)
course_at_is (call.Rmdir path) (Ok (name ∷ names)) is = record { on_path = rmdir_on_path path (name ∷ names) is }
course_at_is asked (Ok (name ∷ names)) is = course_in_is asked (split name names) (is ∙ ap ok (sym (split_joins name names)))
course_at_is asked other is = tt

is_course : (asked : Call) → IfCourse asked (course_of asked)
is_course asked = course_at_is asked (path_of (text_of asked)) refl

-- ---- where a path has led

module _ (digest : List ℕ → Id) (root : Id) (asked : Call) (course : Course) (known : List Known)
    (is : IsCourse asked course) (fits : AreKnownFor known) where
  led_follows : (r : Resolved) → resolved digest root course.looked known ≡ r
      → StageFollows asked (stage_by course.deed r)
  led_follows (comes.Leads old new) led =
      is.on_path old.chain old.left
      (chain_names known course.looked.old old.chain old.left fits
      (old_is_chain digest root course.looked known old new led)
      (old_leaves digest root course.looked known old new led))
  led_follows (comes.Asks keys) led = tt
  led_follows (comes.IsBusy by place) led = tt
  led_follows comes.Lacks led = tt

pub begins_on_path : (digest : List ℕ → Id) (root : Id) (asked : Call) (course : Course) (known : List Known)
    → course_of asked ≡ Some course → AreKnownFor known
    → StageFollows asked (stage_by course.deed (resolved digest root course.looked known))
begins_on_path digest root asked course known found fits =
    led_follows digest root asked course known
    (subst (λ (c : Option Course). IfCourse asked c) found (is_course asked)) fits
    (resolved digest root course.looked known) refl

-- ---- after a message of a flow

module _ (digest : List ℕ → Id) (asked : Call) where
  abbrev OnPath : DirFlow → Type 0
  OnPath step = Follows asked (flow.Dir step)

  dir_turns : (who : Who) (step : DirFlow) (ask_place place : ℕ) (given : Reply) → OnPath step
      → TurnFits DirFlow OnPath AnySteps (dir_reply digest who step ask_place place given)
  dir_turns who (dir_flow.Reserves chain name mode) ask_place place (reply.Reserved version) is = is
  dir_turns who (dir_flow.Makes chain name mode version id) ask_place place reply.Fine is = is
  dir_turns who (dir_flow.Makes chain name mode version id) ask_place place (reply.Clash kept) is = tt
  dir_turns who (dir_flow.Links chain name mode version dir) ask_place place reply.Fine is = tt
  dir_turns who (dir_flow.Seals chain) ask_place place reply.Fine is = is
  dir_turns who (dir_flow.Unlinks chain) ask_place place reply.Fine is = tt
  dir_turns who step ask_place place given is =
      fails_fits AnySteps DirFlow OnPath (dir_clean_up who step) place given tt

  dirs_keep : (who : Who) → FlowKeeps DirFlow (after_dir digest who) (dir_clean_up who) OnPath AnySteps
  dirs_keep who =
      keeps_by DirFlow (after_dir digest who) (dir_reply digest who) (dir_clean_up who) OnPath AnySteps
      (λ step sent. refl) tt (dir_turns who) (λ step is. tt)

  pub flows_follow : (who : Who)
      → FlowKeeps Flow (after_act digest who) (clean_up who) (Follows asked) AnySteps
  flows_follow who = either_keeps AnySteps digest who (Follows asked) tt (dirs_keep who)

  turn_follows : (t : Turn Flow) → TurnFits Flow (Follows asked) AnySteps t → TurnFollows asked t
  turn_follows (turn.GoesOn next) follows = follows
  turn_follows (turn.WindsUp end more) follows = tt

  pub after_act_follows : (who : Who) (step : Flow) (sent : List Sent) → Follows asked step
      → TurnFollows asked (after_act digest who step sent)
  after_act_follows who step sent is =
      turn_follows (after_act digest who step sent)
      (turn_fits Flow (after_act digest who) (clean_up who) (Follows asked) AnySteps (flows_follow who) step sent is)
