use Rattle.std.proofs.Common.{◌≡◌, Some, drop}
use Rattle.inf_message.specs.Sent.{deciding, deciding_of}
use Rattle.inf_message.proofs.sending.deciding.Given as goal

abbrev pub invariant-loop-next : goal.invariant-loop-next
invariant-loop-next l = deciding l.fn.sent ≡ Some (deciding_of l.decides (drop l.next-index l.rest))
