use Rattle.std.proofs.Common.{◌∷◌, [], ap, ◌∙◌}
use Rattle.inf_message.specs.declared.request.Request.TheVariants as request
use Rattle.inf_message.specs.Chain.{last_dir}
use Rattle.inf_message.specs.Turn.{fails}
use Rattle.inf_message.specs.Who.{lift}
use Rattle.inf_flow_dir.proofs.ReplyFacts.{unless_unlinked}
use Rattle.inf_flow_dir.proofs.dir_flow.replies.after_unlinking.Goals as goal

pub returns : goal.returns
returns c digest asked =
    let who = c.args.who.now in
    let slice = c.as_slice-in_default.ensures ∙ c.deref-in_default.ensures in
    let unseal = c.unseal.ensures ∙ ap (λ chain. lift who (last_dir chain) request.Unseal ∷ []) slice in
    let one = c.one-clean_ups.ensures ∙ ap (λ a. a ∷ []) unseal in
    c.failed.ensures ∙ ap (λ clean_ups. fails clean_ups c.args.place c.args.reply.now) one
    ∙ unless_unlinked digest who c.args.chain asked c.args.place c.args.reply.now c.in_default.not-Fine
