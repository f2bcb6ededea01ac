-- The chains of a request.
use Rattle.std.specs.Prelude.{◌+◌, ◌-◌, ◌≤◌, Bool, true, false, List, [], ◌∷◌, length, take, slice_get, Option, All}
use Rattle.inf_base.specs.declared.entry.Entry.{Entry}
use Rattle.inf_base.specs.declared.limits.TheConstants.{MOST_PATH_NAMES}
use Rattle.inf_message.specs.declared.request.Request.{Request}
use Rattle.inf_message.specs.declared.request.Request.TheVariants as request

abbrev pub chains_of : Request → List (List Entry)
chains_of (request.Finish chain op) = chain ∷ []
chains_of (request.Reserve chain name) = chain ∷ []
chains_of (request.Link chain name dir mode) = chain ∷ []
chains_of (request.Seal chain) = chain ∷ []
chains_of (request.Unlink chain) = chain ∷ []
chains_of (request.Hold chain what) = chain ∷ []
chains_of (request.Prepare old new aim) = old ∷ new ∷ []
chains_of (request.Put old new aim meta) = old ∷ new ∷ []
chains_of (request.Admit dir old new) = old ∷ new ∷ []
chains_of other_request = []

-- no chain is longer than those of paths: an entry for the root, and one for each name
abbrev pub HasShortChains : Request → Type 0
HasShortChains asked = All (λ chain. length chain ≤ MOST_PATH_NAMES + 1) (chains_of asked)

abbrev pub has_entry : List Entry → Bool
has_entry [] = false
has_entry (entry ∷ entries) = true

abbrev pub last_of : List Entry → Option Entry
last_of chain = slice_get chain (length chain - 1)

-- the entries before the last: where a chain ends in the directory that is to be changed, those of the way to it
abbrev pub before_last : List Entry → List Entry
before_last chain = take (length chain - 1) chain
