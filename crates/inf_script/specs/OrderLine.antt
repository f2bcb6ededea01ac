-- The words of an order line, each a move.
use Rattle.std.specs.Prelude.{ℕ, ◌==◌, nat_le, if◌then◌else◌, Bool, List, [], ◌∷◌, ◌++◌, length, Option, Some, None, position, Result, Ok, Err}
use Rattle.inf_base.specs.declared.setup.ClientLine.{ClientLine}
use Rattle.inf_order.specs.declared.moves.Move.{Move}
use Rattle.inf_order.specs.declared.moves.Move.TheVariants as move
use Rattle.inf_order.specs.declared.moves.TheConstants.{MOST_MOVES}
use Rattle.inf_script.specs.declared.refusal.Why.{Why}
use Rattle.inf_script.specs.declared.refusal.Why.TheVariants as why
use Rattle.inf_script.specs.declared.section.Section.TheVariants as section
use Rattle.inf_script.specs.declared.draft.Draft.{Draft}
use Rattle.inf_script.specs.Cuts.{before, behind}
use Rattle.inf_script.specs.Draft.{may_stand, place_of, servers_of}
use Rattle.inf_script.specs.Faults.{bad_word}
use Rattle.inf_script.specs.Names.{number_below}

abbrev pub is_colon : ℕ → Bool
is_colon byte = byte == 58

abbrev pub step_move : Option ℕ → Result Move Why
step_move None = Err why.UnknownClient
step_move (Some client) = Ok (move.Step client)

abbrev pub alone_move : Option ℕ → Result Move Why
alone_move None = Err why.UnknownClient
alone_move (Some client) = Ok (move.Alone client)

abbrev pub serve_client : ℕ → Option ℕ → Result Move Why
serve_client number None = Err why.UnknownClient
serve_client number (Some client) = Ok (move.Serve number (Some client))

-- a server's turn, for the client of the name that stands behind a colon if there is one
abbrev pub serve_move : List ClientLine → ℕ → Option (List ℕ) → Result Move Why
serve_move clients number None = Ok (move.Serve number None)
serve_move clients number (Some name) = serve_client number (place_of name clients)

abbrev pub server_move : List ClientLine → Result ℕ Why → Option (List ℕ) → Result Move Why
server_move clients (Err reason) name = Err reason
server_move clients (Ok number) name = serve_move clients number name

-- what stands behind the letter of a server: its number up to a colon, and a name behind that
abbrev pub server_text : ℕ → List ClientLine → List ℕ → Result Move Why
server_text servers clients text =
    server_move clients (number_below servers (before (position is_colon text) text))
    (behind (position is_colon text) text)

-- what stands behind the letter of the coordinator
abbrev pub coordinator_move : ℕ → List ClientLine → List ℕ → Result Move Why
coordinator_move servers clients [] = serve_move clients servers None
coordinator_move servers clients (byte ∷ name) =
    if is_colon byte then serve_move clients servers (Some name) else bad_word

abbrev pub rest_move : List ℕ → Result Move Why
rest_move [] = Ok move.Rest
rest_move (byte ∷ bytes) = bad_word

-- the move that a word spells: `+a`, `=a`, `sN`, `sN:a`, `c`, `c:a` or `*`
abbrev pub move_of : ℕ → List ClientLine → List ℕ → Result Move Why
move_of servers clients [] = bad_word
move_of servers clients (sign ∷ text) =
    if sign == 43 then step_move (place_of text clients)
    else (if sign == 61 then alone_move (place_of text clients)
    else (if sign == 115 then server_text servers clients text
    else (if sign == 99 then coordinator_move servers clients text
    else (if sign == 42 then rest_move text else bad_word))))

abbrev pub with_move : Result (List Move) Why → Result Move Why → Result (List Move) Why
with_move (Err reason) next = Err reason
with_move (Ok moves) (Err reason) = Err reason
with_move (Ok moves) (Ok next) = Ok (moves ++ next ∷ [])

-- the words are taken in order, and the first that spells no move decides
abbrev pub moves_from : ℕ → List ClientLine → Result (List Move) Why → List (List ℕ) → Result (List Move) Why
moves_from servers clients so_far [] = so_far
moves_from servers clients so_far (word ∷ words) =
    moves_from servers clients (with_move so_far (move_of servers clients word)) words

-- these are the moves of all order lines so far, of which there may be so many
abbrev pub with_moves : Draft → Result (List Move) Why → Result Draft Why
with_moves draft (Err reason) = Err reason
with_moves draft (Ok moves) =
    if nat_le (length moves) MOST_MOVES then Ok (record draft { reached = section.Order; moves = moves })
    else Err why.TooMany

abbrev pub order_moves : Draft → List (List ℕ) → Result Draft Why
order_moves draft [] = bad_word
order_moves draft (word ∷ words) =
    with_moves draft (moves_from (servers_of draft) draft.clients (Ok draft.moves) (word ∷ words))

-- `order MOVE ..`
abbrev pub order_line : Draft → List (List ℕ) → Result Draft Why
order_line draft words = if may_stand section.Order draft.reached then order_moves draft words else bad_word
