use Rattle.inf_sched.proofs.QueueFacts.{front_leaves}
use Rattle.std.proofs.Common.{rules}
use Rattle.inf_sched.proofs.queue.Queue.oldest.Goals as goal

pub loop-posting-preserved : goal.loop-posting-preserved
loop-posting-preserved g c =
    front_leaves c.args.core.now.history c.args.self.now c.loop-posting.self c.in-Some.posting _ c.loop-posting.invariant
    (search rules) (search rules) (search rules)
