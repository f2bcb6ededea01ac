use Rattle.std.proofs.Common.{◌≡◌, length, Ok}
use Rattle.inf_script.specs.OrderLine.{moves_from}
use Rattle.inf_script.proofs.order_line.moves_from.Given as goal

abbrev pub invariant-loop-word : goal.invariant-loop-word
invariant-loop-word l = moves_from l.servers l.clients (Ok l.made.items) l.left ≡ moves_from l.servers l.clients (Ok l.fn.moves) l.fn.words

abbrev pub decreases-loop-word : goal.decreases-loop-word
decreases-loop-word l = length l.left
