use Rattle.inf_laws_history.proofs.LinkReplies.{links_are_not_other}
use Rattle.inf_laws_history.proofs.replies.links_are_never_replied_other.Goals as goal

pub returns : goal.returns
returns c world h legal = links_are_not_other world (c.every_legal_history_keeps.ensures world) h legal
