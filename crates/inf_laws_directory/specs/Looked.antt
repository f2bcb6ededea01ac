-- What lookups ask for, and under which key they are told of it.
use Rattle.std.specs.Prelude.{◌≡◌}
use Rattle.inf_base.specs.declared.key.LookKey.{LookKey}
use Rattle.inf_message.specs.declared.request.Request.{Request}
use Rattle.inf_message.specs.declared.request.Request.TheVariants as request
pub use Rattle.inf_laws_server.specs.Replies.{IsKeyIn, IsKeyOf}

-- the request is a lookup
pub record IsLookup (asked : Request) : Type 0 where
  pub sought : LookKey
  pub is_lookup : asked ≡ request.Lookup sought
