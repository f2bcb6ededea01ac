use Rattle.std.proofs.Common.{rules, subst}
use Rattle.inf_core.specs.Core.{world_in}
use Rattle.inf_laws_history.specs.Legal.{Legal}
use Rattle.inf_sched.proofs.ServeFacts.{same_world}
use Rattle.inf_sched.proofs.StepFacts.{asked_did, first_made, may_ask, ready_later, ready_room}
use Rattle.inf_sched.proofs.stepping.let_ask.Goals as goal

pub ask-requires : goal.ask-requires
ask-requires g c = record {
  may = may_ask (world_in g.R.IdRule.digest_of c.args.core.now) c.args.number c.in-Ask.server c.args.core.now.history c.in-Ask.ask
      c.args.client.now c.step.new.self c.requires.there c.requires.is_client (search rules);
}

pub asked-requires-clause-first : goal.asked-requires-clause-first
asked-requires-clause-first g c =
    first_made (g.R.IdRule.digest_of c.args.core.now.rule) c.in-Ask.server c.in-Ask.ask c.in_ok-place-in-Ask.made
    c.args.client.now c.step.new.self (search rules) (search rules)

pub asked-requires-clause-later : goal.asked-requires-clause-later
asked-requires-clause-later g c =
    ready_later (g.R.IdRule.digest_of c.args.core.now.rule) c.args.number c.in-Ask.server c.in_ok-place-in-Ask.place c.args.core.now.history c.in-Ask.ask
    c.args.client.now c.step.new.self c.requires.asks (search rules) (search rules)

pub asked-requires-clause-room : goal.asked-requires-clause-room
asked-requires-clause-room g c =
    ready_room (world_in g.R.IdRule.digest_of c.args.core.now) c.args.number c.in-Ask.server c.args.core.now.history c.in-Ask.ask
    c.args.client.now c.step.new.self c.requires.is_client (search rules) c.in_ok-place-in-Ask.place (search rules) (search rules)

pub returns-in_ok-place-in-Ask-clause-did : goal.returns-in_ok-place-in-Ask-clause-did
returns-in_ok-place-in-Ask-clause-did g c =
    asked_did (world_in g.R.IdRule.digest_of c.args.core.now) c.args.number c.in-Ask.server c.in_ok-place-in-Ask.place c.args.core.now.history c.ask.new.self.history c.in-Ask.ask c.in_ok-place-in-Ask.made
    c.args.client.now c.step.new.self c.asked.new.self c.requires.there
    (subst (λ w. Legal w c.ask.new.self.history) (same_world g.R.IdRule.digest_of c.args.core.now c.ask.new.self (search rules)) (search rules))
    c.requires.is_client (search rules) (search rules) (search rules) (search rules) (search rules)
