-- The messages of a group: one, or lookups.
use Rattle.std.proofs.Common.{◌≡◌, ℕ, zero, suc, List, [], ◌∷◌, map, slice_get, Some, None, refl, sym, ap, subst}
use Rattle.inf_base.specs.declared.key.LookKey.{LookKey}
use Rattle.inf_duty.specs.Flow.{messages_of}
use Rattle.inf_duty.specs.declared.flow.Flow.{Flow}
use Rattle.inf_duty.proofs.FlowFacts.{message_of, messages_are}
use Rattle.inf_message.specs.Sent.{Sent}
use Rattle.inf_message.specs.Who.{Who, lookup_of}
use Rattle.inf_laws_client.specs.Asked.{AreAskedFor}
use Rattle.inf_laws_directory.specs.Phases.{Phase}
use Rattle.inf_laws_history.specs.Phases.{IsLiftedBy, Lifts, lifted}
use Rattle.inf_message.specs.declared.request.Request.{Request}
use Rattle.inf_message.specs.declared.request.Request.TheVariants as request
use Rattle.inf_message.specs.declared.step.Message.{Message}

-- the message of a group of one
only_one : (one : Message) (index number : ℕ) (asked : Request) → slice_get (one ∷ []) index ≡ Some (record { number = number; request = asked })
    → one ≡ record { number = number; request = asked }
only_one one zero number asked is = cc
only_one one (suc index) number asked is = absurd cc

-- the one Ask of a group of one message
pub record IsAlone (m : Message) (sent : List Sent) (place number : ℕ) (asked : Request) : Type 0 where
  pub sent_alone : sent ≡ record { place = place; told = None } ∷ []
  pub message : m ≡ record { number = number; request = asked }

alone : (A : ℕ → Request → Type 0) (m : Message) (sent : List Sent) (index place number : ℕ) (asked : Request)
    → slice_get sent index ≡ Some (record { place = place; told = None }) → slice_get (m ∷ []) index ≡ Some (record { number = number; request = asked })
    → AreAskedFor A (m ∷ []) sent → IsAlone m sent place number asked
alone A m [] index place number asked there is asks = absurd cc
alone A m (x ∷ []) zero place number asked there is asks =
    let same : x ≡ record { place = place; told = None } = cc in
    record { sent_alone = ap (λ (y : Sent). y ∷ []) same; message = only_one m zero number asked is }
alone A m (x ∷ []) (suc index) place number asked there is asks = absurd cc
alone A m (x ∷ y ∷ ys) index place number asked there is asks = absurd asks.1

-- ---- a flow's step is one message

pub step_message : (who : Who) (step : Flow) (index number : ℕ) (asked : Request)
    → slice_get (messages_of who step) index ≡ Some (record { number = number; request = asked })
    → message_of who step ≡ record { number = number; request = asked }
step_message who step index number asked is =
    only_one (message_of who step) index number asked
    (subst (λ (ms : List Message). slice_get ms index ≡ Some (record { number = number; request = asked }))
    (messages_are who step) is)

-- and so its group has one Ask
pub step_alone : (A : ℕ → Request → Type 0) (who : Who) (step : Flow) (sent : List Sent) (index place number : ℕ)
    (asked : Request) → slice_get sent index ≡ Some (record { place = place; told = None })
    → slice_get (messages_of who step) index ≡ Some (record { number = number; request = asked })
    → AreAskedFor A (messages_of who step) sent → IsAlone (message_of who step) sent place number asked
step_alone A who step sent index place number asked there is asks =
    alone A (message_of who step) sent index place number asked there
    (subst (λ (ms : List Message). slice_get ms index ≡ Some (record { number = number; request = asked }))
    (messages_are who step) is)
    (subst (λ (ms : List Message). AreAskedFor A ms sent) (messages_are who step) asks)

-- ---- a step of a clean-up is one message

-- it lifts what is in hand, or the newest of it, and what follows it lifts the rest
pub record IsOneLift (servers : ℕ) (phase : Phase) (ms : List Message) (later : List (List Message)) : Type 0 where
  pub message : Message
  pub is : ms ≡ message ∷ []
  pub lifts : IsLiftedBy servers phase message
  pub rest : Lifts servers (lifted phase) later

pub one_lift : (servers : ℕ) (phase : Phase) (ms : List Message) (later : List (List Message))
    → Lifts servers phase (ms ∷ later) → IsOneLift servers phase ms later
one_lift servers phase [] later lifts = absurd lifts
one_lift servers phase (m ∷ []) later lifts =
    record { message = m; is = refl; lifts = lifts.0; rest = lifts.1 }
one_lift servers phase (m ∷ next ∷ ms) later lifts = absurd lifts

-- what a step of a clean-up sends lifts what is in hand
pub lift_message : (servers : ℕ) (phase : Phase) (ms : List Message) (later : List (List Message))
    (index number : ℕ) (asked : Request) → Lifts servers phase (ms ∷ later)
    → slice_get ms index ≡ Some (record { number = number; request = asked })
    → IsLiftedBy servers phase (record { number = number; request = asked })
lift_message servers phase ms later index number asked lifts is =
    let one = one_lift servers phase ms later lifts in
    subst (λ (m : Message). IsLiftedBy servers phase m)
    (only_one one.message index number asked
    (subst (λ (xs : List Message). slice_get xs index ≡ Some (record { number = number; request = asked })) one.is is))
    one.lifts

-- and so its group has one Ask
pub lift_alone : (A : ℕ → Request → Type 0) (servers : ℕ) (phase : Phase) (ms : List Message)
    (later : List (List Message)) (one : IsOneLift servers phase ms later) (sent : List Sent)
    (index place number : ℕ) (asked : Request) → slice_get sent index ≡ Some (record { place = place; told = None })
    → slice_get ms index ≡ Some (record { number = number; request = asked }) → AreAskedFor A ms sent
    → IsAlone one.message sent place number asked
lift_alone A servers phase ms later one sent index place number asked there is asks =
    alone A one.message sent index place number asked there
    (subst (λ (xs : List Message). slice_get xs index ≡ Some (record { number = number; request = asked })) one.is is)
    (subst (λ (xs : List Message). AreAskedFor A xs sent) one.is asks)

-- ---- a message of a round is a lookup

pub record IsLookupIn (asked : Request) : Type 0 where
  pub k : LookKey
  pub is : asked ≡ request.Lookup k

pub look_in : (who : Who) (keys : List LookKey) (index number : ℕ) (asked : Request)
    → slice_get (map (lookup_of who) keys) index ≡ Some (record { number = number; request = asked }) → IsLookupIn asked
look_in who [] index number asked is = absurd cc
look_in who (k ∷ keys) zero number asked is =
    let same : lookup_of who k ≡ record { number = number; request = asked } = cc in
    record { k = k; is = sym (ap (λ (m : Message). m.request) same) }
look_in who (k ∷ keys) (suc index) number asked is = look_in who keys index number asked is
