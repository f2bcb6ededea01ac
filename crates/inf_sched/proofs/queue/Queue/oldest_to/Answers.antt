use Rattle.inf_sched.proofs.QueueFacts.{found_left}
use Rattle.inf_sched.proofs.queue.Queue.oldest_to.Goals as goal

pub returns-clause-oldest : goal.returns-clause-oldest
returns-clause-oldest g c =
    found_left c.args.number c.args.core.now.history c.args.self.now c.oldest.new.self c.find_to.result c.oldest.ensures.left c.find_to.ensures
