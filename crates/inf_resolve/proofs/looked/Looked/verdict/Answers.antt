use Rattle.std.proofs.Common.{sym, ap, ◌∙◌}
use Rattle.std.specs.Option.{option_copied}
use Rattle.inf_base.specs.Same.{dir_of}
use Rattle.inf_resolve.proofs.VerdictFacts.{found_verdict}
use Rattle.inf_resolve.proofs.looked.Looked.verdict.Goals as goal

pub returns-in-Found : goal.returns-in-Found
returns-in-Found c = λ digest root.
    found_verdict digest root c.args.self.now c.args.known.now c.in-Some.told.now c.in-Found.key c.in-Found.access
    c.verdict_behind.result
    (sym c.told_under.ensures ∙ ap option_copied c.in-Some.is) c.in-Found.is
    (λ by top same. c.verdict_behind.ensures by top (same ∙ sym (c.dir_of.ensures ∙ ap dir_of c.deref.ensures)))
