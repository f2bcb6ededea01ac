use Rattle.std.proofs.Common.{◌≡◌, refl, reverse, rules}
use Rattle.inf_duty.specs.World.{world_of}
use Rattle.inf_sched.proofs.OrderLaws.{is_outcome}
use Rattle.inf_sched.proofs.ScheduleFacts.{made_by_order, made_legal, sha_digest, sha_opening, sha_world}
use Rattle.inf_sched.proofs.scheduler.schedule.Goals as goal

pub returns-clause-by_order : goal.returns-clause-by_order
returns-clause-by_order c =
    let copied : c.in_ok-try_clone.field-0 ≡ c.args.setup.now = search rules in
    made_by_order sha_digest (world_of c.args.setup.now) c.args.order.now c.in_ok-run.run' c.in_ok-run-2.run' c.in_ok-outcome.outcome.history c.in_ok-outcome.outcome.results
    (sha_world _ c.args.setup.now c.in_ok-try_clone.field-0 c.in_ok-run.run'.core c.in_ok-run.ensures.core copied refl)
    (sha_opening c.args.setup.now c.in_ok-try_clone.field-0 _ c.in_ok-run.ensures.opening copied)
    c.in_ok-run-2.ensures.moves c.in_ok-run-2.ensures.same c.in_ok-outcome.ensures.history c.in_ok-outcome.ensures.results

pub returns-clause-legal : goal.returns-clause-legal
returns-clause-legal c =
    let copied : c.in_ok-try_clone.field-0 ≡ c.args.setup.now = search rules in
    made_legal sha_digest (world_of c.args.setup.now) c.in_ok-run.run' c.in_ok-run-2.run' (reverse c.in_ok-outcome.outcome.history)
    (sha_world _ c.args.setup.now c.in_ok-try_clone.field-0 c.in_ok-run.run'.core c.in_ok-run.ensures.core copied refl)
    c.in_ok-run-2.ensures.same c.in_ok-outcome.ensures.legal

pub returns-clause-outcome : goal.returns-clause-outcome
returns-clause-outcome c =
    is_outcome (world_of c.args.setup.now) c.args.order.now (reverse c.in_ok-outcome.outcome.history) c.in_ok-outcome.outcome.results (returns-clause-by_order c)

pub returns-clause-replays : goal.returns-clause-replays
returns-clause-replays c =
    c.every_legal_history_replays.ensures (world_of c.args.setup.now) (reverse c.in_ok-outcome.outcome.history) (returns-clause-legal c) c.in_ok-outcome.outcome.results (returns-clause-outcome c)
