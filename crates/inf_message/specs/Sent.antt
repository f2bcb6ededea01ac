-- The Asks of a group.
use Rattle.std.specs.Prelude.{ℕ, ◌==◌, Bool, true, false, if◌then◌else◌, List, [], ◌∷◌, Option, Some, None, is_some}
use Rattle.std.specs.List.{list_any}
use Rattle.inf_message.specs.declared.reply.Reply.{Reply}
use Rattle.inf_message.specs.declared.reply.Reply.TheVariants as reply
use Rattle.inf_message.specs.History.{Told, or_told}

-- an Ask of the present group: its place, and its answer, if it was served
pub record Sent : Type 0 where
  pub place : ℕ
  pub told : Option Told

-- an Ask that was just made
abbrev pub new_sent : ℕ → Sent
new_sent place = record { place = place; told = None }

-- the same Ask once it was served
abbrev pub told_more : Told → Sent → Sent
told_more told x = record x { told = Some (or_told x.told told) }

abbrev pub is_told : Sent → Bool
is_told x = is_some x.told

abbrev pub has_place : ℕ → List Sent → Bool
has_place place sent = list_any (λ (x : Sent). x.place == place) sent

abbrev pub told_at : ℕ → Told → Sent → Sent
told_at place told x = if x.place == place then record x { told = Some (or_told x.told told) } else x

abbrev pub is_first : List Sent → Bool
is_first [] = true
is_first (x ∷ xs) = false

-- whether a reply says that memory is wanting
abbrev pub wants_memory : Option Told → Bool
wants_memory None = false
wants_memory (Some told) = is_no_mem told.reply
  where
    is_no_mem : Reply → Bool
    is_no_mem reply.NoMem = true
    is_no_mem any_reply = false

-- one answer of a group says so
abbrev pub is_wanting : List Sent → Bool
is_wanting sent = list_any (λ (x : Sent). wants_memory x.told) sent

-- whether a reply is the success of each message that is sent with others
abbrev pub is_fine : Option Told → Bool
is_fine None = false
is_fine (Some told) = is_success told.reply
  where
    is_success : Reply → Bool
    is_success reply.Fine = true
    is_success any_reply = false

abbrev pub deciding_of : Sent → List Sent → Sent
deciding_of x [] = x
deciding_of x (y ∷ ys) = if is_fine x.told then deciding_of y ys else x

-- the Ask that decides a group: the first, in the order of asking, that did not succeed; or the last
abbrev pub deciding : List Sent → Option Sent
deciding [] = None
deciding (x ∷ xs) = Some (deciding_of x xs)
