-- Where content objects come from.
use Rattle.std.specs.Prelude.{◌≡◌}
use Rattle.inf_base.specs.declared.triple.Triple.{Triple}
use Rattle.inf_message.specs.declared.reply.Reply.{Reply}
use Rattle.inf_message.specs.declared.reply.Reply.TheVariants as reply
use Rattle.inf_message.specs.declared.request.Request.{Request}
use Rattle.inf_message.specs.declared.request.Request.TheVariants as request

-- the request was to make a directory, and was done
pub record IsBornBy (asked : Request) (given : Reply) : Type 0 where
  pub birth : Triple
  pub is_make : asked ≡ request.Make birth
  pub is_done : given ≡ reply.Fine
