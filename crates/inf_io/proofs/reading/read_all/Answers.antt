use Rattle.std.proofs.Common.{arith}
use Rattle.inf_io.proofs.Pieces.{LosesAtMost-more, TookOneMore-from_all}
use Rattle.inf_io.proofs.reading.read_all.Goals as goal

pub returns-in_err-take_more-clause-lost : goal.returns-in_err-take_more-clause-lost
returns-in_err-take_more-clause-lost g c = LosesAtMost-more _ _ _ c.loop-all.all.items c.args.limit _ c.loop-all.invariant.consumed (omega (arith, c.loop-all.all.ok.0)) c.in_err-take_more.ensures.err

pub returns-clause-one_more : goal.returns-clause-one_more
returns-clause-one_more g c = TookOneMore-from_all _ _ c.loop-all.all.items _ c.args.limit c.loop-all.invariant.consumed (omega (arith, c.loop-all.all.ok.0)) c.truncate.ensures.items
