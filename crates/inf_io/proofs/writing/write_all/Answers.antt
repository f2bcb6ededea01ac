use Rattle.std.proofs.Common.{arith, ◌<◌, ◌∙◌, length}
use Rattle.std.proofs.lemmas.Grind.{common_steps}
use Rattle.inf_io.proofs.Written.{AppendsPrefix-from_written, WrittenTo-more, WrittenTo-none}
use Rattle.inf_io.proofs.writing.write_all.Goals as goal

pub loop-rest-preserved : goal.loop-rest-preserved
loop-rest-preserved g c =
    let some_left : 0 < length c.loop-rest.rest.now = grind (arith, common_steps) in
    record {
      written = WrittenTo-more _ _ _ c.args.bytes.now c.loop-rest.rest.now c.in-Gave.n c.loop-rest.invariant.written c.in-Gave.ensures.bytes;
      count = c.in-Gave.ensures.stays ∙ c.loop-rest.invariant.count;
      untouched = λ none. absurd (WrittenTo-none _ _ c.args.bytes.now c.loop-rest.rest.now c.loop-rest.invariant.written some_left none);
    }

pub returns-in-Failed-clause-prefix : goal.returns-in-Failed-clause-prefix
returns-in-Failed-clause-prefix g c =
    let some_left : 0 < length c.loop-rest.rest.now = grind (arith, common_steps) in
    AppendsPrefix-from_written _ _ _ c.args.bytes.now c.loop-rest.rest.now c.loop-rest.invariant.written c.in-Failed.ensures.bytes some_left
