use Rattle.std.proofs.Common.{arith}
use Rattle.inf_client.proofs.TestFacts.{asks_few, asks_later, placed_few, placed_later}
use Rattle.inf_client.proofs.tests.make.Goals as goal

pub asked-requires-clause-room : goal.asked-requires-clause-room
asked-requires-clause-room c =
    let few = asks_few _ _ _ _ _ c.in-Ask.ensures in
    omega (arith, c.requires.few, c.requires.early)

pub returns-clause-later : goal.returns-clause-later
returns-clause-later c =
    placed_later c.args.place _ c.step.new.self.log _ _ c.asked.ensures (asks_later _ c.args.place _ _ _ _ c.in-Ask.ensures c.requires.later)

pub returns-clause-few : goal.returns-clause-few
returns-clause-few c =
    let few = asks_few _ _ _ _ _ c.in-Ask.ensures in
    let one = placed_few _ _ _ _ c.asked.ensures in
    omega (arith, c.requires.few)
