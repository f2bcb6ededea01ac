use Rattle.std.proofs.Common.{◌≡◌, ◌∷◌, [], ap, sym, subst, ◌∙◌}
use Rattle.inf_message.specs.declared.reply.Reply.{Reply}
use Rattle.inf_message.specs.declared.request.Request.TheVariants as request
use Rattle.inf_message.specs.Chain.{last_dir}
use Rattle.inf_message.specs.Turn.{fails}
use Rattle.inf_message.specs.Who.{lift}
use Rattle.inf_flow_dir.specs.declared.dir_flow.DirFlow.TheVariants as step
use Rattle.inf_flow_dir.specs.DirFlow.{after_reply}
use Rattle.inf_flow_dir.proofs.ReplyFacts.{at_clash, at_step, unless_made}
use Rattle.inf_flow_dir.proofs.dir_flow.DirFlow.next.Goals as goal

pub returns-in-Reserves : goal.returns-in-Reserves
returns-in-Reserves g c =
    at_step (g.R.IdRule.digest_of c.args.rule.now) c.args.who.now c.args.self (step.Reserves c.in-Reserves.chain c.in-Reserves.name c.in-Reserves.mode) c.args.ask_place c.args.serve_place c.args.reply.now c.after_reserve.result
    c.in-Reserves.is (c.after_reserve.ensures c.args.ask_place)

pub returns-in-Clash : goal.returns-in-Clash
returns-in-Clash g c =
    at_clash (g.R.IdRule.digest_of c.args.rule.now) c.args.who.now c.args.self c.in-Makes.chain c.in-Makes.name c.in-Makes.mode c.in-Makes.version c.in-Makes.id
    c.args.ask_place c.args.serve_place c.args.reply.now c.in-Clash.kept c.clash.result c.in-Makes.is c.in-Clash.is c.clash.ensures

pub returns-in-Makes : goal.returns-in-Makes
returns-in-Makes g c =
    let digest = g.R.IdRule.digest_of c.args.rule.now in
    let who = c.args.who.now in
    let made = step.Makes c.in-Makes.chain c.in-Makes.name c.in-Makes.mode c.in-Makes.version c.in-Makes.id in
    let slice = c.as_slice.ensures ∙ c.deref.ensures in
    let cancel = c.cancel.ensures ∙ ap (λ chain. lift who (last_dir chain) request.Cancel ∷ []) slice in
    let one = c.one.ensures ∙ ap (λ a. a ∷ []) cancel in
    at_step (g.R.IdRule.digest_of c.args.rule.now) c.args.who.now c.args.self (made) c.args.ask_place c.args.serve_place c.args.reply.now c.failed.result c.in-Makes.is
    (c.failed.ensures ∙ ap (λ clean_ups. fails clean_ups c.args.serve_place c.args.reply.now) one
    ∙ unless_made digest who c.in-Makes.chain c.in-Makes.name c.in-Makes.mode c.in-Makes.version c.in-Makes.id c.args.ask_place c.args.serve_place c.args.reply.now
    c.in_default.not-Fine c.in_default.not-Clash)

pub returns-in-Links : goal.returns-in-Links
returns-in-Links g c =
    at_step (g.R.IdRule.digest_of c.args.rule.now) c.args.who.now c.args.self (step.Links c.in-Links.chain c.in-Links.name c.in-Links.mode c.in-Links.version c.in-Links.dir) c.args.ask_place c.args.serve_place c.args.reply.now c.after_link.result c.in-Links.is
    (c.after_link.ensures (g.R.IdRule.digest_of c.args.rule.now) c.in-Links.name c.in-Links.mode c.in-Links.version c.args.ask_place)

pub returns-in-Seals : goal.returns-in-Seals
returns-in-Seals g c =
    at_step (g.R.IdRule.digest_of c.args.rule.now) c.args.who.now c.args.self (step.Seals c.in-Seals.chain) c.args.ask_place c.args.serve_place c.args.reply.now c.after_seal.result c.in-Seals.is
    (c.after_seal.ensures (g.R.IdRule.digest_of c.args.rule.now) c.args.who.now c.args.ask_place)

pub returns : goal.returns
returns g c =
    at_step (g.R.IdRule.digest_of c.args.rule.now) c.args.who.now c.args.self (step.Unlinks c.in-Unlinks.chain) c.args.ask_place c.args.serve_place c.args.reply.now c.after_unlinking.result c.in-Unlinks.is
    (c.after_unlinking.ensures (g.R.IdRule.digest_of c.args.rule.now) c.args.ask_place)
