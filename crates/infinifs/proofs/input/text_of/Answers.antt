use Rattle.std.proofs.Common.{arith}
use Rattle.infinifs.proofs.CommandFacts.{whole_text}
use Rattle.infinifs.proofs.input.text_of.Goals as goal

pub returns-in-Ok : goal.returns-in-Ok
returns-in-Ok g c =
    let bytes = c.in-Ok.bytes in
    (c.in-Ok.ensures.stays, whole_text bytes.items (g.S.Source.left c.args.source.now) c.in-Ok.ensures.whole (omega (arith, bytes.ok.0, c.in-Ok.ensures.within)), λ e. absurd (cc))
