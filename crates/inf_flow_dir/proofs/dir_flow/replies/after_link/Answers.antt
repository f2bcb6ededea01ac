use Rattle.std.proofs.Common.{◌∷◌, [], ap, ap₂, ◌∙◌}
use Rattle.inf_message.specs.declared.request.Request.TheVariants as request
use Rattle.inf_message.specs.Chain.{last_dir}
use Rattle.inf_message.specs.Turn.{fails}
use Rattle.inf_message.specs.Who.{lift}
use Rattle.inf_flow_dir.proofs.ReplyFacts.{unless_linked}
use Rattle.inf_flow_dir.proofs.dir_flow.replies.after_link.Goals as goal

pub returns : goal.returns
returns c digest name mode version asked =
    let who = c.args.who.now in
    let slice = c.as_slice.ensures ∙ c.deref.ensures in
    let cancel = c.cancel.ensures ∙ ap (λ chain. lift who (last_dir chain) request.Cancel ∷ []) slice in
    let two = c.two-clean_ups.ensures ∙ ap₂ (λ a b. a ∷ b ∷ []) c.drops.ensures cancel in
    c.failed.ensures ∙ ap (λ clean_ups. fails clean_ups c.args.place c.args.reply.now) two
    ∙ unless_linked digest who c.args.chain name mode version c.args.dir asked c.args.place c.args.reply.now c.in_default.not-Fine
