use Rattle.std.proofs.Common.{◌≡◌, ◌<◌, true, length, slice_index_or, subst, sym, rules, arith}
use Rattle.inf_base.specs.declared.setup.Setup.{Setup}
use Rattle.inf_order.specs.Order.{is_move_of}
use Rattle.inf_order.specs.declared.moves.Move.TheVariants as move
use Rattle.inf_sched.proofs.MovingFacts.{got_again, moved_more, named_at}
use Rattle.inf_sched.proofs.moving.all.Goals as goal

pub loop-index-preserved : goal.loop-index-preserved
loop-index-preserved g c =
    let within : c.loop-index.index < length c.args.order.now = search (rules, arith) in
    moved_more g.R.IdRule.digest_of c.args.order.now c.loop-index.index _ c.args.run c.loop-index.now c.in_ok-now.now c.loop-index.invariant
    within (got_again c.args.order.now c.loop-index.index _ within) c.in_ok-now.ensures.made c.in_ok-now.ensures.same

pub one-requires-clause-named : goal.one-requires-clause-named
one-requires-clause-named g c =
    let within : c.loop-index.index < length c.args.order.now = search (rules, arith) in
    subst (λ (s : Setup). is_move_of s.servers (length s.clients) (slice_index_or c.args.order.now c.loop-index.index (move.Step 0)) ≡ true)
    (sym c.loop-index.invariant.same.setup)
    (named_at (is_move_of c.args.run.core.setup.servers (length c.args.run.core.setup.clients)) c.args.order.now c.loop-index.index _ c.requires.named within
    (got_again c.args.order.now c.loop-index.index (move.Step 0) within))
