use Rattle.std.proofs.Common.{subst, ◌∙◌}
use Rattle.infinifs.specs.Command.{ScriptDid}
use Rattle.infinifs.proofs.CommandFacts.{sched_ran}
use Rattle.infinifs.proofs.sched.run_text.Goals as goal

pub returns-in-Ok : goal.returns-in-Ok
returns-in-Ok g c =
    let ran = subst (λ script. ScriptDid script c.run_script.result (g.K.Sink.faults c.args.sink.now) (g.K.Sink.faults c.run_script.new.sink) (g.K.Sink.held c.args.sink.now) (g.K.Sink.held c.run_script.new.sink)) (c.deref.ensures ∙ c.new-script.ensures) c.run_script.ensures in
    sched_ran _ c.in-Ok.script c.run_script.result c.in-Ok.ensures.0 c.in-Ok.ensures.1.read ran
