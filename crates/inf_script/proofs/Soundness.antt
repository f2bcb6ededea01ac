-- What is read is valid, and of the form that is built.
use Rattle.std.proofs.Common.{◌≡◌, ℕ, ◌+◌, ◌≤◌, ◌<◌, Bool, true, false, nat_eq, nat_lt, nat_le, codes, if◌then◌else◌, List, [], ◌∷◌, length, position, Option, Some, None, IfSome, Result, Ok, Err, IfOk, refl, ◌∙◌, subst, arith}
use Rattle.std.specs.List.{list_all, IsDistinct}
use Rattle.std.specs.Str.{bytes_eq, is_utf8}
use Rattle.std.proofs.lemmas.Bool.{le-leb}
use Rattle.std.proofs.lemmas.List.Elements.{All-nil}
use Rattle.std.proofs.lemmas.List.Folds.{list_all-append}
use Rattle.inf_base.specs.declared.setup.ClientLine.{ClientLine}
use Rattle.inf_base.specs.Setup.{is_word}
use Rattle.inf_order.specs.declared.moves.Move.{Move}
use Rattle.inf_order.specs.declared.moves.TheConstants.{MOST_MOVES}
use Rattle.inf_order.specs.Order.{is_move_of}
use Rattle.inf_script.specs.declared.refusal.Why.{Why}
use Rattle.inf_script.specs.declared.refusal.Why.TheVariants as why
use Rattle.inf_script.specs.declared.refusal.ScriptRefusal.{ScriptRefusal}
use Rattle.inf_script.specs.declared.script.Script.{Script}
use Rattle.inf_script.specs.declared.script.TheConstants.{MOST_LINE_BYTES}
use Rattle.inf_script.specs.declared.fault.ScriptFault.{ScriptFault}
use Rattle.inf_script.specs.declared.section.Section.TheVariants as section
use Rattle.inf_script.specs.declared.draft.Draft.{Draft}
use Rattle.inf_base.specs.Memory.{Gives}
use Rattle.inf_script.specs.Faults.{cause}
use Rattle.inf_script.specs.Names.{number_below}
use Rattle.inf_script.specs.Words.{words_of, without_return, is_comment}
use Rattle.inf_script.specs.Cuts.{before, behind}
use Rattle.inf_script.specs.Draft.{rank, may_stand, start, servers_of, place_of, order_of}
use Rattle.inf_script.specs.Settings.{no_more, first_line, servers_line, digest_bytes_line}
use Rattle.inf_script.specs.ClientLine.{client_line}
use Rattle.inf_script.specs.CallLine.{call_line}
use Rattle.inf_script.specs.OrderLine.{is_colon, step_move, alone_move, serve_client, serve_move, server_move, server_text, coordinator_move, rest_move, move_of, with_move, moves_from, with_moves, order_moves, order_line}
use Rattle.inf_script.specs.Sections.{end_line, word_line, after_words, after_line}
use Rattle.inf_script.specs.Lines.{lines_of}
use Rattle.inf_script.specs.Reading.{at_line, script_of, ended, at_end, read_line, read_from, reading}
use Rattle.inf_script.specs.Built.{IsBuiltClient}
use Rattle.inf_script.proofs.NameFacts.{and_left, and_right, if_both, if_read, number_below-good}
use Rattle.inf_script.proofs.WordFacts.{is_line, lines_of-lines, words_of-words}
use Rattle.inf_script.proofs.GoodLines.{IsGoodDraft, IsGoodScript, no_more-good, first_line-good, servers_line-good, digest_bytes_line-good, client_line-good, place-within, call_line-good}

-- an order line

module _ (servers : ℕ) (clients : List ClientLine) where
  abbrev IsGoodMove : Move → Type 0
  IsGoodMove m = is_move_of servers (length clients) m ≡ true

  step_move-good : (client : Option ℕ) → IfSome client (λ place. nat_lt place (length clients) ≡ true) → IfOk (step_move client) IsGoodMove
  step_move-good None within = tt
  step_move-good (Some client) within = within

  alone_move-good : (client : Option ℕ) → IfSome client (λ place. nat_lt place (length clients) ≡ true) → IfOk (alone_move client) IsGoodMove
  alone_move-good None within = tt
  alone_move-good (Some client) within = within

  serve_client-good : (number : ℕ) → number ≤ servers → (client : Option ℕ) → IfSome client (λ place. nat_lt place (length clients) ≡ true) → IfOk (serve_client number client) IsGoodMove
  serve_client-good number fits None within = tt
  serve_client-good number fits (Some client) within = rw (le-leb number servers fits, within) refl

  serve_move-good : (number : ℕ) → number ≤ servers → (name : Option (List ℕ)) → IfOk (serve_move clients number name) IsGoodMove
  serve_move-good number fits None = rw (le-leb number servers fits) refl
  serve_move-good number fits (Some name) = serve_client-good number fits (place_of name clients) (place-within name clients)

  server_move-good : (r : Result ℕ Why) → IfOk r (λ number. number < servers) → (name : Option (List ℕ)) → IfOk (server_move clients r name) IsGoodMove
  server_move-good (Err reason) below name = tt
  server_move-good (Ok number) below name = serve_move-good number (omega arith) name

  coordinator_move-good : (text : List ℕ) → IfOk (coordinator_move servers clients text) IsGoodMove
  coordinator_move-good [] = serve_move-good servers (omega arith) None
  coordinator_move-good (byte ∷ name) = if_read IsGoodMove (is_colon byte) (serve_move clients servers (Some name)) why.BadWord (λ _. serve_move-good servers (omega arith) (Some name))

  rest_move-good : (text : List ℕ) → IfOk (rest_move text) IsGoodMove
  rest_move-good [] = refl
  rest_move-good (byte ∷ bytes) = tt

  move_of-good : (word : List ℕ) → IfOk (move_of servers clients word) IsGoodMove
  move_of-good [] = tt
  move_of-good (sign ∷ text) =
      if_both (λ r. IfOk r IsGoodMove) (nat_eq sign 43) (step_move (place_of text clients)) _ (λ _. step_move-good (place_of text clients) (place-within text clients)) (λ _.
      if_both (λ r. IfOk r IsGoodMove) (nat_eq sign 61) (alone_move (place_of text clients)) _ (λ _. alone_move-good (place_of text clients) (place-within text clients)) (λ _.
      if_both (λ r. IfOk r IsGoodMove) (nat_eq sign 115) (server_text servers clients text) _ (λ _. server_move-good (number_below servers (before (position is_colon text) text)) (number_below-good servers (before (position is_colon text) text)) (behind (position is_colon text) text)) (λ _.
      if_both (λ r. IfOk r IsGoodMove) (nat_eq sign 99) (coordinator_move servers clients text) _ (λ _. coordinator_move-good text) (λ _.
      if_read IsGoodMove (nat_eq sign 42) (rest_move text) why.BadWord (λ _. rest_move-good text)))))

  abbrev AreGoodMoves : List Move → Type 0
  AreGoodMoves moves = list_all (is_move_of servers (length clients)) moves ≡ true

  with_move-good : (so_far : Result (List Move) Why) → IfOk so_far AreGoodMoves → (next : Result Move Why) → IfOk next IsGoodMove → IfOk (with_move so_far next) AreGoodMoves
  with_move-good (Err reason) all next fits = tt
  with_move-good (Ok moves) all (Err reason) fits = tt
  with_move-good (Ok moves) all (Ok next) fits = list_all-append (is_move_of servers (length clients)) moves (next ∷ []) ∙ rw (all, fits) refl

  moves_from-good : (so_far : Result (List Move) Why) → IfOk so_far AreGoodMoves → (words : List (List ℕ)) → IfOk (moves_from servers clients so_far words) AreGoodMoves
  moves_from-good so_far all [] = all
  moves_from-good so_far all (word ∷ words) = moves_from-good (with_move so_far (move_of servers clients word)) (with_move-good so_far all (move_of servers clients word) (move_of-good word)) words

with_moves-good : (draft : Draft) → IsGoodDraft draft → (r : Result (List Move) Why) → IfOk r (λ moves. list_all (is_move_of (servers_of draft) (length draft.clients)) moves ≡ true) → IfOk (with_moves draft r) IsGoodDraft
with_moves-good draft good (Err reason) all = tt
with_moves-good draft good (Ok moves) all = if_read IsGoodDraft (nat_le (length moves) MOST_MOVES) (Ok (record draft { reached = section.Order; moves = moves })) why.TooMany (λ _.
    record {
      servers = good.servers;
      digest_bytes = good.digest_bytes;
      clients = good.clients;
      calls = good.calls;
      names = good.names;
      lines = good.lines;
      built = good.built;
      moves = all;
      none_yet = λ early. absurd (omega arith);
    })

order_moves-good : (draft : Draft) → IsGoodDraft draft → (words : List (List ℕ)) → IfOk (order_moves draft words) IsGoodDraft
order_moves-good draft good [] = tt
order_moves-good draft good (word ∷ words) =
    with_moves-good draft good (moves_from (servers_of draft) draft.clients (Ok draft.moves) (word ∷ words)) (moves_from-good (servers_of draft) draft.clients (Ok draft.moves) good.moves (word ∷ words))

order_line-good : (draft : Draft) → IsGoodDraft draft → (words : List (List ℕ)) → IfOk (order_line draft words) IsGoodDraft
order_line-good draft good words = if_read IsGoodDraft (may_stand section.Order draft.reached) (order_moves draft words) why.BadWord (λ _. order_moves-good draft good words)

-- any line

end_line-good : (draft : Draft) → IsGoodDraft draft → (words : List (List ℕ)) → IfOk (end_line draft words) IsGoodDraft
end_line-good draft good words = if_read IsGoodDraft (may_stand section.Order draft.reached) (no_more (record draft { reached = section.Ended }) words) why.BadWord (λ _.
    no_more-good IsGoodDraft (record draft { reached = section.Ended }) (record {
      servers = good.servers;
      digest_bytes = good.digest_bytes;
      clients = good.clients;
      calls = good.calls;
      names = good.names;
      lines = good.lines;
      built = good.built;
      moves = good.moves;
      none_yet = λ early. absurd (omega arith);
    }) words)

word_line-good : (draft : Draft) → IsGoodDraft draft → (word : List ℕ) (words : List (List ℕ)) → list_all is_word words ≡ true → IfOk (word_line draft word words) IsGoodDraft
word_line-good draft good word words all =
    if_both (λ r. IfOk r IsGoodDraft) (bytes_eq word (codes "infinifs")) (first_line draft words) _ (λ _. first_line-good draft good words) (λ _.
    if_both (λ r. IfOk r IsGoodDraft) (bytes_eq word (codes "servers")) (servers_line draft words) _ (λ _. servers_line-good draft good words) (λ _.
    if_both (λ r. IfOk r IsGoodDraft) (bytes_eq word (codes "digest-bytes")) (digest_bytes_line draft words) _ (λ _. digest_bytes_line-good draft good words) (λ _.
    if_both (λ r. IfOk r IsGoodDraft) (bytes_eq word (codes "client")) (client_line draft words) _ (λ _. client_line-good draft good words) (λ _.
    if_both (λ r. IfOk r IsGoodDraft) (bytes_eq word (codes "call")) (call_line draft words) _ (λ _. call_line-good draft good words all) (λ _.
    if_both (λ r. IfOk r IsGoodDraft) (bytes_eq word (codes "order")) (order_line draft words) _ (λ _. order_line-good draft good words) (λ _.
    if_read IsGoodDraft (bytes_eq word (codes "end")) (end_line draft words) why.BadWord (λ _. end_line-good draft good words)))))))

after_words-good : (draft : Draft) → IsGoodDraft draft → (words : List (List ℕ)) → list_all is_word words ≡ true → IfOk (after_words draft words) IsGoodDraft
after_words-good draft good [] all = good
after_words-good draft good (word ∷ words) all =
    if_both (λ r. IfOk r IsGoodDraft) (is_comment word) (Ok draft) (word_line draft word words) (λ _. good) (λ _. word_line-good draft good word words (and_right _ _ all))

after_line-good : (draft : Draft) → IsGoodDraft draft → (line : List ℕ) → is_line line ≡ true → IfOk (after_line draft line) IsGoodDraft
after_line-good draft good line whole =
    if_both (λ r. IfOk r IsGoodDraft) (nat_lt MOST_LINE_BYTES (length line)) (Err why.TooLong) (if is_utf8 line then after_words draft (words_of (without_return line)) else Err why.NotUtf8) (λ _. tt) (λ _.
    if_read IsGoodDraft (is_utf8 line) (after_words draft (words_of (without_return line))) why.NotUtf8 (λ _. after_words-good draft good (words_of (without_return line)) (words_of-words line whole)))

-- the whole text

at_line-good : {X : Type 0} (P : X → Type 0) (number : ℕ) (r : Result X Why) → IfOk r P → IfOk (at_line number r) P
at_line-good P number (Ok value) good = good
at_line-good P number (Err reason) good = tt

read_line-good : (number : ℕ) (so_far : Result Draft ScriptRefusal) → IfOk so_far IsGoodDraft → (line : List ℕ) → is_line line ≡ true → IfOk (read_line number so_far line) IsGoodDraft
read_line-good number (Err refusal) good line whole = tt
read_line-good number (Ok draft) good line whole = at_line-good IsGoodDraft number (after_line draft line) (after_line-good draft good line whole)

order_of-good : (servers clients : ℕ) (moves : List Move) → list_all (is_move_of servers clients) moves ≡ true → list_all (is_move_of servers clients) (order_of moves) ≡ true
order_of-good servers clients [] all = refl
order_of-good servers clients (first ∷ moves) all = all

script_of-good : (draft : Draft) → IsGoodDraft draft → IsGoodScript (script_of draft)
script_of-good draft good = record {
  valid = record {
    servers = good.servers;
    digest_bytes = good.digest_bytes;
    cache = record { at_least = omega arith; at_most = omega arith };
    clients = good.clients;
    calls = good.calls;
    names = good.names;
    lines = good.lines;
  };
  order = order_of-good (servers_of draft) (length draft.clients) draft.moves good.moves;
  built = good.built;
}

at_end-good : (more : Bool) (number : ℕ) (so_far : Result Draft ScriptRefusal) → IfOk so_far IsGoodDraft → IfOk (at_end more number so_far) IsGoodScript
at_end-good more number (Err refusal) good = tt
at_end-good true number (Ok draft) good = tt
at_end-good false number (Ok draft) good = at_line-good IsGoodScript number (ended draft) (if_read IsGoodScript (nat_eq (rank draft.reached) 5) (Ok (script_of draft)) why.BadWord (λ _. script_of-good draft good))

read_from-good : (more : Bool) (number : ℕ) (so_far : Result Draft ScriptRefusal) → IfOk so_far IsGoodDraft → (lines : List (List ℕ)) → list_all is_line lines ≡ true → IfOk (read_from more number so_far lines) IsGoodScript
read_from-good more number so_far good [] all = at_end-good more number so_far good
read_from-good more number so_far good (line ∷ lines) all = read_from-good more (number + 1) (read_line number so_far line) (read_line-good number so_far good line (and_left _ _ all)) lines (and_right _ _ all)

start-good : IsGoodDraft start
unfolding IsDistinct
start-good = record {
  servers = record { at_least = omega arith; at_most = omega arith };
  digest_bytes = record { at_least = omega arith; at_most = omega arith };
  clients = omega arith;
  calls = omega arith;
  names = tt;
  lines = refl;
  built = All-nil IsBuiltClient;
  moves = refl;
  none_yet = λ _. refl;
}

reading-good : (bytes : List ℕ) (more : Bool) → IfOk (reading bytes more) IsGoodScript
reading-good bytes more = read_from-good more 1 (Ok start) start-good (lines_of more bytes) (lines_of-lines more bytes)

-- what follows of a good script holds of each that is read
pub read-good : (P : Script → Type 0) → ((script : Script) → IsGoodScript script → P script) → (bytes : List ℕ) (more : Bool) (r : Result Script ScriptFault) → Gives cause r (reading bytes more) → IfOk r P
read-good P holds bytes more (Ok script) read = holds script (subst (λ (r : Result Script ScriptRefusal). IfOk r IsGoodScript) read (reading-good bytes more))
read-good P holds bytes more (Err fault) read = tt
