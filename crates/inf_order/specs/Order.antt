-- Which moves name what there is.
use Rattle.std.specs.Prelude.{ℕ, Bool, true, nat_lt, nat_le, ◌&&◌, Option, Some, None}
use Rattle.inf_order.specs.declared.moves.Move.{Move}
use Rattle.inf_order.specs.declared.moves.Move.TheVariants as move

-- no client, or one of so many
abbrev pub is_client_of : ℕ → Option ℕ → Bool
is_client_of clients None = true
is_client_of clients (Some client) = nat_lt client clients

-- the move names one of so many servers, or the coordinator, and one of so many clients
abbrev pub is_move_of : ℕ → ℕ → Move → Bool
is_move_of servers clients (move.Step client) = nat_lt client clients
is_move_of servers clients (move.Alone client) = nat_lt client clients
is_move_of servers clients (move.Serve number client) = nat_le number servers && is_client_of clients client
is_move_of servers clients move.Rest = true
