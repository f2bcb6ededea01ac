use Rattle.std.proofs.Common.{◌∙◌}
use Rattle.inf_script.proofs.ReadingFacts.{tested_utf8}
use Rattle.inf_script.proofs.sections.is_utf8.Goals as goal

pub returns : goal.returns
returns c = c.is_ok.ensures.value ∙ tested_utf8 c.args.bytes.now c.from_utf8.result c.from_utf8.ensures.cases
