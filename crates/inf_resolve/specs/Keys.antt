-- The keys that are to be asked.
use Rattle.std.specs.Prelude.{ℕ, ◌||◌, Bool, if◌then◌else◌, List, [], ◌∷◌, ◌++◌, Option, Some, None, is_some}
use Rattle.std.specs.List.{fold, list_any}
use Rattle.inf_base.specs.declared.id.Id.{Id}
use Rattle.inf_base.specs.declared.key.LookKey.{LookKey}
use Rattle.inf_base.specs.declared.key.LookKey.TheVariants as look
use Rattle.inf_base.specs.declared.triple.Triple.TheVariants as triple
use Rattle.inf_base.specs.Identity.{identity}
use Rattle.inf_message.specs.declared.reply.Reply.{Reply}
use Rattle.inf_message.specs.declared.reply.Reply.TheVariants as reply
use Rattle.inf_resolve.specs.declared.known.Known.{Known}
use Rattle.inf_resolve.specs.Known.{is_same_key, told_at, told_under}
use Rattle.inf_resolve.specs.Walk.{Halt}

-- what is made under a name for the first time has version 0
abbrev pub predicted : (List ℕ → Id) → Id → List ℕ → Id
predicted digest id name = identity digest (triple.Of id name 0)

-- the identifier that a name leads to: the one that was told, or else the prediction
abbrev pub leads_to : (List ℕ → Id) → Id → List ℕ → Option Known → Id
leads_to digest id name None = predicted digest id name
leads_to digest id name (Some told) = of told.reply
  where
    of : Reply → Id
    of (reply.Found k access) = access.id
    of any_reply = predicted digest id name

-- the keys of names from the directory of an identifier on
abbrev pub keys_from : (List ℕ → Id) → List Known → Id → List (List ℕ) → List LookKey
keys_from digest known id [] = []
keys_from digest known id (name ∷ names) =
    look.At id name ∷ keys_from digest known (leads_to digest id name (told_at known id name)) names

abbrev pub unless_told : Option Known → List LookKey → List LookKey
unless_told None keys = keys
unless_told (Some told) keys = []

-- the keys that a path still needs: none behind a name whose reply does not lead on
abbrev pub keys_at : (List ℕ → Id) → List Known → Halt → List LookKey
keys_at digest known h = of h.left
  where
    of : List (List ℕ) → List LookKey
    of [] = []
    of (name ∷ names) = unless_told (told_at known h.dir.id name) (keys_from digest known h.dir.id (name ∷ names))

abbrev pub is_among : LookKey → List LookKey → Bool
is_among wanted keys = list_any (is_same_key wanted) keys

-- a key is asked once, and not where it is known
abbrev pub with_key : List Known → List LookKey → LookKey → List LookKey
with_key known keys k = if is_some (told_under k known) || is_among k keys then keys else keys ++ k ∷ []

abbrev pub to_ask : List Known → List LookKey → List LookKey
to_ask known keys = fold (with_key known) [] keys
