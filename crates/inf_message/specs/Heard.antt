-- What a client makes of a reply.
use Rattle.inf_message.specs.declared.reply.Reply.{Reply}
use Rattle.inf_message.specs.declared.reply.Reply.TheVariants as reply

-- no call asks for a listing so far, so that one is like any that was not asked for
abbrev pub heard : Reply → Reply
heard (reply.Listing items) = reply.Other
heard given = given

-- of a reply to a message that is sent with others, and is no lookup, nothing is kept that takes memory: none of these
-- is a success
abbrev pub light : Reply → Reply
light (reply.Found k access) = reply.Other
light (reply.Clash kept) = reply.Other
light (reply.Listing items) = reply.Other
light given = given
