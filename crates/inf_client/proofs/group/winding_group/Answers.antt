use Rattle.inf_client.proofs.GroupFacts.{winding_readied}
use Rattle.inf_client.proofs.group.winding_group.Goals as goal

pub returns : goal.returns
returns c log fits =
    let post = c.winding_ask-number.result in
    winding_readied c.args.state.now post.0 post.1 c.new.result.items c.requires.winding c.requires.between
    c.winding_ask-number.ensures.posts c.winding_ask-number.ensures.next c.new.ensures.items log fits
