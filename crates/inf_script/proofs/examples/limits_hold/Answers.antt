use Rattle.std.proofs.Common.{length, refl}
use Rattle.std.proofs.lemmas.Bool.{lt-ltb, le-leb}
use Rattle.std.proofs.lemmas.List.{take_all}
use Rattle.inf_base.specs.declared.limits.TheConstants.{MOST_CLIENTS, MOST_CALLS}
use Rattle.inf_base.specs.Setup.{call_count}
use Rattle.inf_order.specs.declared.moves.TheConstants.{MOST_MOVES}
use Rattle.inf_script.specs.declared.script.TheConstants.{MOST_LINE_BYTES, MOST_SCRIPT_BYTES}
use Rattle.inf_script.proofs.NameFacts.{not_above, not_above_le}
use Rattle.inf_script.proofs.examples.limits_hold.Goals as goal

pub returns : goal.returns
returns c = record {
  long_line = λ draft line long. rw (lt-ltb MOST_LINE_BYTES (length line) long) refl;
  longest_line = λ draft line short utf8. rw (not_above (length line) MOST_LINE_BYTES short, utf8) refl;
  more_clients = λ draft name full. rw (not_above MOST_CLIENTS (length draft.clients) full) refl;
  most_clients = λ draft name room. rw (lt-ltb (length draft.clients) MOST_CLIENTS room) refl;
  more_calls = λ draft client called full. rw (not_above MOST_CALLS (call_count draft.clients) full) refl;
  most_calls = λ draft client called room. rw (lt-ltb (call_count draft.clients) MOST_CALLS room) refl;
  more_moves = λ draft moves over. rw (not_above_le (length moves) MOST_MOVES over) refl;
  most_moves = λ draft moves within. rw (le-leb (length moves) MOST_MOVES within) refl;
  longest_text = λ text short. rw (not_above (length text) MOST_SCRIPT_BYTES short, take_all MOST_SCRIPT_BYTES text short) refl;
}
