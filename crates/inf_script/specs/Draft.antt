-- What was read of a script so far.
use Rattle.std.specs.Prelude.{ℕ, Bool, ◌&&◌, nat_le, List, [], ◌∷◌, Option, None, position, unwrap_or}
use Rattle.std.specs.Str.{bytes_eq}
use Rattle.inf_base.specs.declared.limits.TheConstants.{MOST_DIGEST_BYTES}
use Rattle.inf_base.specs.declared.setup.ClientLine.{ClientLine}
use Rattle.inf_base.specs.Setup.{names_of}
use Rattle.inf_order.specs.declared.moves.Move.{Move}
use Rattle.inf_order.specs.declared.moves.Move.TheVariants as move
use Rattle.inf_script.specs.declared.section.Section.{Section}
use Rattle.inf_script.specs.declared.section.Section.TheVariants as section
use Rattle.inf_script.specs.declared.draft.Draft.{Draft}

-- the sections in the order in which they stand
abbrev pub rank : Section → ℕ
rank section.Start = 0
rank section.Settings = 1
rank section.Clients = 2
rank section.Calls = 3
rank section.Order = 4
rank section.Ended = 5

-- the first line was read, and no line of a section behind this one
abbrev pub may_stand : Section → Section → Bool
may_stand line reached = nat_le 1 (rank reached) && nat_le (rank reached) (rank line)

-- nothing was read yet
abbrev pub start : Draft
start = record { reached = section.Start; servers = None; digest_bytes = None; clients = []; moves = [] }

-- the number of servers: one unless a line tells it
abbrev pub servers_of : Draft → ℕ
servers_of draft = unwrap_or draft.servers 1

-- how many bytes of a digest an identifier keeps: all of them unless a line tells it
abbrev pub digest_bytes_of : Draft → ℕ
digest_bytes_of draft = unwrap_or draft.digest_bytes MOST_DIGEST_BYTES

-- the number of the client that has this name
abbrev pub place_of : List ℕ → List ClientLine → Option ℕ
place_of name clients = position (bytes_eq name) (names_of clients)

-- without order lines, each client in turn goes on alone
abbrev pub order_of : List Move → List Move
order_of [] = move.Rest ∷ []
order_of (first ∷ moves) = first ∷ moves
