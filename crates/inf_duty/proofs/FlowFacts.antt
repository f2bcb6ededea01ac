-- What comes of a step, by the answer that decides it.
use Rattle.std.proofs.Common.{◌≡◌, if◌then◌else◌, ℕ, List, [], ◌∷◌, length, Bool, true, false, Option, Some, None, refl, sym, subst, ap, ◌∙◌}
use Rattle.std.specs.List.{list_any}
use Rattle.std.proofs.lemmas.Bool.{or_left, or_right}
use Rattle.inf_base.specs.declared.id.Id.{Id}
use Rattle.inf_message.specs.declared.reply.Reply.{Reply}
use Rattle.inf_message.specs.declared.step.Message.{Message}
use Rattle.inf_message.specs.declared.turn.Turn.{Turn}
use Rattle.inf_message.specs.History.{Told}
use Rattle.inf_message.specs.Sent.{Sent, deciding, deciding_of, is_fine}
use Rattle.inf_message.specs.Turn.{after_deciding, after_told, again, turn_as}
use Rattle.inf_message.specs.Who.{Who}
use Rattle.inf_flow_dir.specs.declared.dir_flow.DirFlow.{DirFlow}
use Rattle.inf_flow_dir.specs.DirFlow.{after_reply as dir_reply, group as dir_group, message_of as dir_message}
use Rattle.inf_flow_file.specs.declared.file_flow.FileFlow.{FileFlow}
use Rattle.inf_flow_file.specs.FileFlow.{after_reply as file_reply, group as file_group, message_of as file_message}
use Rattle.inf_duty.specs.declared.flow.Flow.{Flow}
use Rattle.inf_duty.specs.declared.flow.Flow.TheVariants as flow
use Rattle.inf_duty.specs.Flow.{after_act, after_reply, messages_of}

as_told : {F G : Type 0} (wrap : F → G) (after : ℕ → ℕ → Reply → Turn F) (place : ℕ) (told : Option Told)
    → turn_as wrap (after_told after place told)
    ≡ after_told (λ ask_place serve_place given. turn_as wrap (after ask_place serve_place given)) place told
as_told wrap after place None = refl
as_told wrap after place (Some told) = refl

as_deciding : {F G : Type 0} (wrap : F → G) (after : ℕ → ℕ → Reply → Turn F) (found : Option Sent)
    → turn_as wrap (after_deciding after found)
    ≡ after_deciding (λ ask_place serve_place given. turn_as wrap (after ask_place serve_place given)) found
as_deciding wrap after None = refl
as_deciding wrap after (Some x) = as_told wrap after x.place x.told

-- a step is decided as by one answer
pub after_is : (digest : List ℕ → Id) (who : Who) (step : Flow) (sent : List Sent)
    → after_act digest who step sent ≡ after_deciding (after_reply digest who step) (deciding sent)
after_is digest who (flow.File step) sent = as_deciding flow.File (file_reply step) (deciding sent)
after_is digest who (flow.Dir step) sent = as_deciding flow.Dir (dir_reply digest who step) (deciding sent)

pub after_none : (digest : List ℕ → Id) (who : Who) (step : Flow) (sent : List Sent) → deciding sent ≡ None
    → after_act digest who step sent ≡ again
after_none digest who step sent is =
    after_is digest who step sent ∙ ap (after_deciding (after_reply digest who step)) is

decided_as : (digest : List ℕ → Id) (who : Who) (step : Flow) (sent : List Sent) (x : Sent) (told : Option Told)
    → deciding sent ≡ Some x → x.told ≡ told
    → after_act digest who step sent ≡ after_told (after_reply digest who step) x.place told
decided_as digest who step sent x told is as_told =
    after_is digest who step sent ∙ ap (after_deciding (after_reply digest who step)) is
    ∙ ap (after_told (after_reply digest who step) x.place) as_told

pub after_untold : (digest : List ℕ → Id) (who : Who) (step : Flow) (sent : List Sent) (x : Sent)
    → deciding sent ≡ Some x → x.told ≡ None → after_act digest who step sent ≡ again
after_untold digest who step sent x is untold = decided_as digest who step sent x None is untold

pub after_decided : (digest : List ℕ → Id) (who : Who) (step : Flow) (sent : List Sent) (x : Sent) (told : Told)
    → deciding sent ≡ Some x → x.told ≡ Some told
    → after_act digest who step sent ≡ after_reply digest who step x.place told.serve_place told.reply
after_decided digest who step sent x told is as_told = decided_as digest who step sent x (Some told) is as_told

by_told : (P : Turn Flow → Type 0) (after : ℕ → ℕ → Reply → Turn Flow) (place : ℕ) (told : Option Told) → P again
    → ((is : Told) → told ≡ Some is → P (after place is.serve_place is.reply)) → P (after_told after place told)
by_told P after place None untold by_reply = untold
by_told P after place (Some told) untold by_reply = by_reply told refl

by_deciding : (P : Turn Flow → Type 0) (after : ℕ → ℕ → Reply → Turn Flow) (found : Option Sent) → P again
    → ((x : Sent) (told : Told) → found ≡ Some x → x.told ≡ Some told → P (after x.place told.serve_place told.reply))
    → P (after_deciding after found)
by_deciding P after None untold by_reply = untold
by_deciding P after (Some x) untold by_reply = by_told P after x.place x.told untold (λ told is. by_reply x told refl is)

-- what holds of a new attempt, and of what comes of the answer that decides, holds of what comes of a step
pub act_by : (P : Turn Flow → Type 0) (digest : List ℕ → Id) (who : Who) (step : Flow) (sent : List Sent) → P again
    → ((x : Sent) (told : Told) → deciding sent ≡ Some x → x.told ≡ Some told
    → P (after_reply digest who step x.place told.serve_place told.reply)) → P (after_act digest who step sent)
act_by P digest who step sent untold by_reply =
    subst P (sym (after_is digest who step sent)) (by_deciding P (after_reply digest who step) (deciding sent) untold by_reply)

in_either : (p : Sent → Bool) (x y : Sent) (ys : List Sent) (b : Bool) → (p (deciding_of y ys) ≡ true → list_any p (y ∷ ys) ≡ true)
    → p (if b then deciding_of y ys else x) ≡ true → list_any p (x ∷ y ∷ ys) ≡ true
in_either p x y ys true rest later = or_right (p x) (list_any p (y ∷ ys)) (rest later)
in_either p x y ys false rest here = or_left (p x) (list_any p (y ∷ ys)) here

in_rest : (p : Sent → Bool) (x : Sent) (xs : List Sent) → p (deciding_of x xs) ≡ true → list_any p (x ∷ xs) ≡ true
in_rest p x [] is = or_left (p x) false is
in_rest p x (y ∷ ys) is = in_either p x y ys (is_fine x.told) (in_rest p y ys) is

-- the Ask that decides is one of the group
pub deciding_in : (p : Sent → Bool) (sent : List Sent) (x : Sent) → deciding sent ≡ Some x → p x ≡ true
    → list_any p sent ≡ true
deciding_in p [] x is holds = absurd cc
deciding_in p (y ∷ ys) x is holds =
    let same : deciding_of y ys ≡ x = cc in
    in_rest p y ys (ap p same ∙ holds)

-- the one message of a step
abbrev pub message_of : Who → Flow → Message
message_of who (flow.File step) = file_message who step
message_of who (flow.Dir step) = dir_message who step

pub messages_are : (who : Who) (step : Flow) → messages_of who step ≡ message_of who step ∷ []
messages_are who (flow.File step) = refl
messages_are who (flow.Dir step) = refl

pub one_message : (who : Who) (step : Flow) → length (messages_of who step) ≡ 1
one_message who step = ap length (messages_are who step)

pub file_sized : (step : Flow) (of : FileFlow) (size : ℕ) → step ≡ flow.File of
    → ((who : Who) → length (file_group who of) ≡ size) → (who : Who) → length (messages_of who step) ≡ size
file_sized step of size is all who = ap (λ (s : Flow). length (messages_of who s)) is ∙ all who

pub dir_sized : (step : Flow) (of : DirFlow) (size : ℕ) → step ≡ flow.Dir of
    → ((who : Who) → length (dir_group who of) ≡ size) → (who : Who) → length (messages_of who step) ≡ size
dir_sized step of size is all who = ap (λ (s : Flow). length (messages_of who s)) is ∙ all who
