-- Identifiers of directories: what they are the digest of, and which server keeps them.
use Rattle.std.specs.Prelude.{ℕ, ◌%◌, List, [], ◌++◌, take}
use Rattle.std.specs.Int.{to_be_bytes, from_be_bytes, w64}
use Rattle.inf_base.specs.declared.id.Id.{Id}
use Rattle.inf_base.specs.declared.triple.Triple.{Triple}
use Rattle.inf_base.specs.declared.triple.Triple.TheVariants as triple

-- the empty message for the root; for another directory the birth parent's identifier, the version in 8 bytes, the
-- highest first, and the name
abbrev pub message_of : Triple → List ℕ
message_of triple.Root = []
message_of (triple.Of parent name version) = parent.bytes ++ to_be_bytes w64 version ++ name

-- the identifier of a triple, where `digest` is the rule's digest of a message
abbrev pub identity : (List ℕ → Id) → Triple → Id
identity digest t = digest (message_of t)

-- which of so many servers keeps an identifier: its first 8 bytes as a number, the highest first, modulo their number
abbrev pub server_of : Id → ℕ → ℕ
server_of id servers = from_be_bytes w64 (take 8 id.bytes) % servers
