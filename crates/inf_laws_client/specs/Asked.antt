-- What was asked at the places of a group.
use Rattle.std.specs.Prelude.{ℕ, List, [], ◌∷◌}
use Rattle.std.specs.List.{Contains}
use Rattle.inf_base.specs.declared.key.LookKey.{LookKey}
use Rattle.inf_message.specs.declared.reply.Reply.{Reply}
use Rattle.inf_message.specs.declared.request.Request.{Request}
use Rattle.inf_message.specs.declared.request.Request.TheVariants as request
use Rattle.inf_message.specs.declared.step.Message.{Message}
use Rattle.inf_duty.specs.ClientState.{ClientState}
use Rattle.inf_duty.specs.Group.{group}
use Rattle.inf_message.specs.Sent.{Sent}
use Rattle.inf_laws_client.specs.Told.{IsToldFor}

-- the Asks of a group are of its messages, in their order
abbrev pub AreAskedFor : (ℕ → Request → Type 0) → List Message → List Sent → Type 0
AreAskedFor A ms [] = Unit {0}
AreAskedFor A [] (x ∷ xs) = ⊥
AreAskedFor A (m ∷ ms) (x ∷ xs) = A x.place m.request × AreAskedFor A ms xs

pub record AsksItsGroup (A : ℕ → Request → Type 0) (s : ClientState) : Type 0 where
  pub asked : AreAskedFor A (group s.who s.stage) s.sent

-- what is told of a place is an answer to each lookup that was asked there
abbrev pub AnswersAsked : (ℕ → Request → Type 0) → ℕ → Reply → Type 0
AnswersAsked A place given = (k : LookKey) → A place (request.Lookup k) → IsToldFor k given

-- ---- what was asked, as it was

pub record Posting : Type 0 where
  pub place : ℕ
  pub request : Request

abbrev pub posting : ℕ → Request → Posting
posting place asked = record { place = place; request = asked }

abbrev pub WasAsked : List Posting → ℕ → Request → Type 0
WasAsked postings place asked = Contains postings (posting place asked)
