use Rattle.std.proofs.Common.{refl}
use Rattle.std.specs.Option.{option_copied}
use Rattle.inf_script.specs.Words.{is_blank}
use Rattle.inf_script.proofs.PartFacts.{parts_of_cut, piece_of, word_found}
use Rattle.inf_script.proofs.words.Words.split_first.Goals as goal

pub returns-then-not-is_empty : goal.returns-then-not-is_empty
returns-then-not-is_empty c =
    word_found (option_copied c.loop-left.left) c.in-Some.bytes.now c.cut_at.result.0.now (option_copied c.cut_at.result.1) c.args.self.now c.loop-left.invariant (rw c.in-Some.is refl)
    (parts_of_cut is_blank c.in-Some.bytes.now c.cut_at.result.0.now c.blank_in.result (option_copied c.cut_at.result.1) c.blank_in.ensures.value c.cut_at.ensures.front c.cut_at.ensures.back)
    (piece_of c.cut_at.result.0.now c.if-not-is_empty.ensures)
