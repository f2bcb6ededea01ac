use Rattle.std.proofs.Common.{List, ap, sym, position, subst, ◌∙◌, arith, rules}
use Rattle.inf_message.specs.declared.trip.Trip.{Trip}
use Rattle.inf_message.specs.History.{told_reply}
use Rattle.inf_client.specs.AskLog.{Rise, is_at, trip_places}
use Rattle.inf_client.proofs.LogFacts.{told_rise, told_shown, waits_somewhere}
use Rattle.inf_client.proofs.Places.{trips_rise}
use Rattle.inf_client.proofs.ask_log.AskLog.told.Goals as goal

pub unreachable-requires : goal.unreachable-requires
unreachable-requires c =
    waits_somewhere c.self.inside.trips.items c.self.inside.waiting.items c.self.inside.room c.args.self.now c.self.view_is c.args.ask_place c.requires.waits
    (ap (position (is_at c.args.ask_place)) (sym c.as_slice.ensures.value) ∙ sym c.index_of.ensures ∙ c.in_default.is)

pub index_for-at-requires : goal.index_for-at-requires
index_for-at-requires c =
    subst (λ (trips : List Trip). Rise (trip_places trips)) (sym c.as_slice-2.ensures.value)
    (trips_rise c.self.inside.trips.items c.self.inside.waiting.items c.self.invariant.places)

pub invariant_of-self : goal.invariant_of-self
invariant_of-self c = record {
  places = told_rise c.self.inside.trips.items c.insert.new.self.items c.self.inside.waiting.items c.remove.new.self.items
      c.args.ask_place (told_reply c.args.serve_place c.args.reply) c.remove.result c.in-Some.index c.index_for-at.result
      (ap (position (is_at c.args.ask_place)) (sym c.as_slice.ensures.value) ∙ sym c.index_of.ensures ∙ c.in-Some.is)
      c.remove.ensures.value c.remove.ensures.items (search rules) (search rules) (search rules) (search rules) c.self.invariant.places;
  answers = omega (arith, c.in-Ok.ensures.len, c.in-Ok.ensures.capacity);
  asks = omega arith;
}

pub returns : goal.returns
returns c =
    told_shown c.self.inside.trips.items c.insert.new.self.items c.self.inside.waiting.items c.remove.new.self.items
    c.args.ask_place (told_reply c.args.serve_place c.args.reply) c.remove.result c.in-Some.index c.index_for-at.result
    (ap (position (is_at c.args.ask_place)) (sym c.as_slice.ensures.value) ∙ sym c.index_of.ensures ∙ c.in-Some.is)
    c.remove.ensures.value c.remove.ensures.items (search rules) (search rules) (search rules) (search rules) c.self.invariant.places
    c.self.inside.room c.args.self.now c.self.view_is
