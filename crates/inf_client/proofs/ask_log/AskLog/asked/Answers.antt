use Rattle.std.proofs.Common.{◌<◌, subst, sym, arith, rules}
use Rattle.inf_client.specs.AskLog.{AskLog}
use Rattle.inf_client.proofs.LogFacts.{asked_rise, asked_shown}
use Rattle.inf_message.specs.History.{posted_ask}
use Rattle.inf_client.proofs.ask_log.AskLog.asked.Goals as goal

pub invariant_of-self : goal.invariant_of-self
invariant_of-self c =
    let some : 0 < c.self.inside.room = subst (λ (log : AskLog). 0 < log.room) (sym c.self.view_is) c.requires.room in
    record {
      places = asked_rise c.self.inside.trips.items c.self.inside.waiting.items c.self.inside.room _ c.self.view_is c.args.place c.at.result _
          c.requires.later (search rules) c.push_reserved.ensures.items c.self.invariant.places;
      answers = omega (arith, some);
      asks = omega (arith, some);
    }

pub returns : goal.returns
returns c =
    asked_shown c.self.inside.trips.items c.self.inside.waiting.items c.self.inside.room _ c.self.view_is c.args.place (posted_ask c.args.number c.args.ask)
    c.push_reserved.new.self.items c.requires.later (search rules)
