use Rattle.std.proofs.Common.{rules}
use Rattle.inf_sched.proofs.QueueFacts.{found_at, none_at, passed_served, passed_server}
use Rattle.inf_sched.proofs.queue.Queue.find_to.Goals as goal

pub loop-posting-preserved-then-posting-number : goal.loop-posting-preserved-then-posting-number
loop-posting-preserved-then-posting-number g c =
    passed_server c.args.number c.loop-posting.index c.args.core.now.history c.args.self.now c.in-Some.posting c.loop-posting.invariant
    (search rules) (search rules)

pub returns-then-not-is_served : goal.returns-then-not-is_served
returns-then-not-is_served g c =
    found_at c.args.number c.loop-posting.index c.args.core.now.history c.args.self.now c.in-Some.posting c.loop-posting.invariant
    (search rules) (search rules) (search rules)

pub loop-posting-preserved : goal.loop-posting-preserved
loop-posting-preserved g c =
    passed_served c.args.number c.loop-posting.index c.args.core.now.history c.args.self.now c.in-Some.posting c.loop-posting.invariant
    (search rules) (search rules) (search rules)

pub returns : goal.returns
returns g c = none_at c.args.number c.loop-posting.index c.args.core.now.history c.args.self.now c.loop-posting.invariant (search rules)
