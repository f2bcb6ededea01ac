use Rattle.std.proofs.Common.{◌≡◌, ℕ, ◌-◌, Some, ap₂, sym, ◌∙◌}
use Rattle.inf_message.specs.declared.ask.Ask.{Ask}
use Rattle.inf_message.specs.History.{posted_ask}
use Rattle.inf_core.proofs.CoreFacts.{ask_indexed, asked_there, item_found, item_there}
use Rattle.inf_core.proofs.history.ask_at.Goals as goal

pub overflow_sub-ask_place : goal.overflow_sub-ask_place
overflow_sub-ask_place c =
    let there = asked_there _ c.requires in
    (ask_indexed c.args.events.now c.args.ask_place there.0 there.1).counted

pub unreachable-requires : goal.unreachable-requires
unreachable-requires c =
    let there = asked_there _ c.requires in
    let is = ask_indexed c.args.events.now c.args.ask_place there.0 there.1 in
    item_found c.args.events.now (c.args.ask_place - 1) c.get.result _ c.get.ensures.lookup is.event c.in_default.is

pub unreachable-requires-in_default-event : goal.unreachable-requires-in_default-event
unreachable-requires-in_default-event c =
    let there = asked_there _ c.requires in
    let is = ask_indexed c.args.events.now c.args.ask_place there.0 there.1 in
    let this = item_there c.args.events.now (c.args.ask_place - 1) c.get.result _ c.in-Some.event c.get.ensures.lookup is.event c.in-Some.is in
    cc (this, c.in_default-event.is)

pub returns : goal.returns
returns c =
    let there = asked_there _ c.requires in
    let is = ask_indexed c.args.events.now c.args.ask_place there.0 there.1 in
    let this = item_there c.args.events.now (c.args.ask_place - 1) c.get.result _ c.in-Some.event c.get.ensures.lookup is.event c.in-Some.is in
    let number : there.0.number ≡ c.in-Ask.number = cc (this, c.in-Ask.is) in
    let ask : there.0.ask ≡ c.in-Ask.ask = cc (this, c.in-Ask.is) in
    there.1 ∙ ap₂ (λ (n : ℕ) (a : Ask). Some (posted_ask n a)) number (ask ∙ sym c.deref.ensures)
