-- Where a client in code stands.
use Rattle.inf_duty.specs.ClientState.{Stage, act, compose, round, winds}
use Rattle.inf_duty.specs.declared.standing.Standing.{Standing}
use Rattle.inf_duty.specs.declared.standing.Standing.TheVariants as standing

abbrev pub stage_of : Standing → Stage
stage_of standing.Compose = compose
stage_of (standing.Round keys) = round keys
stage_of (standing.Act flow) = act flow
stage_of (standing.Winds ending first rest) = winds ending first rest
