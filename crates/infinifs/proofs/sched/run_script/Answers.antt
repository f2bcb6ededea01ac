use Rattle.std.proofs.Common.{inl, refl, reverse, subst, ◌∙◌}
use Rattle.std.proofs.KnownBytes.{Keeps-refl}
use Rattle.inf_duty.specs.World.{world_of}
use Rattle.inf_report.specs.Report.{report}
use Rattle.inf_sched.specs.Order.{ByOrder}
use Rattle.infinifs.specs.Command.{WriteDid}
use Rattle.infinifs.specs.declared.status.Status.TheVariants as status
use Rattle.infinifs.proofs.CommandFacts.{outcome_did}
use Rattle.infinifs.proofs.PlacesFacts.{own_places-reverse}
use Rattle.infinifs.proofs.sched.run_script.Goals as goal

pub write_outcome-requires : goal.write_outcome-requires
write_outcome-requires g c =
    let made = c.in-Ok.outcome in
    rw (c.deref.ensures ∙ c.new-outcome.ensures) (own_places-reverse (world_of c.args.script.now.setup) made.history made.results c.in-Ok.ensures.legal c.in-Ok.ensures.outcome)

pub returns-in-Ok : goal.returns-in-Ok
returns-in-Ok g c =
    let setup = c.args.script.now.setup in
    let made = c.in-Ok.outcome in
    let is_made = c.in-Ok.ensures in
    let by_order = subst (λ order. ByOrder (world_of setup) order (reverse made.history) made.results) c.as_slice.ensures is_made.by_order in
    let did = outcome_did c.answers_are_replayed.ensures c.again_names_a_change_in_flight.ensures c.clashes_are_of_two_births.ensures c.unanswered_calls_are_left.ensures c.calls_left_open_are_unanswered.ensures c.args.script.now made.history made.results c.requires.valid is_made.legal is_made.outcome by_order is_made.replays in
    let written = subst (λ outcome. WriteDid status.Done (report setup outcome.history outcome.results) c.write_outcome.result (g.K.Sink.faults c.args.sink.now) (g.K.Sink.faults c.write_outcome.new.sink) (g.K.Sink.held c.args.sink.now) (g.K.Sink.held c.write_outcome.new.sink)) (c.deref.ensures ∙ c.new-outcome.ensures) c.write_outcome.ensures in
    did c.write_outcome.result _ _ _ _ written

pub returns-in-Err : goal.returns-in-Err
returns-in-Err g c = (refl, inl (Keeps-refl _))
