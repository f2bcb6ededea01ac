-- What a refusal replies.
use Rattle.inf_message.specs.declared.reply.Reply.{Reply}
use Rattle.inf_message.specs.declared.reply.Reply.TheVariants as reply
use Rattle.inf_server.specs.declared.refusal.Refusal.{Refusal}
use Rattle.inf_server.specs.declared.refusal.Refusal.TheVariants as refusal

abbrev pub reply_of : Refusal → Reply
reply_of refusal.Other = reply.Other
reply_of refusal.Gone = reply.Gone
reply_of refusal.NoDir = reply.NoDir
reply_of (refusal.Denied error) = reply.Refused error
reply_of (refusal.Busy by spot born) = reply.Busy by spot born
reply_of (refusal.Clash triple) = reply.Clash triple
