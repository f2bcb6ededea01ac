-- A client, and where its messages go.
use Rattle.std.specs.Prelude.{ℕ, List, map, Option, Some, None}
use Rattle.std.specs.List.{range_with_len}
use Rattle.inf_base.specs.declared.caller.Caller.{Caller}
use Rattle.inf_base.specs.declared.directory.DirRef.{DirRef}
use Rattle.inf_base.specs.declared.entry.Entry.{Entry}
use Rattle.inf_base.specs.declared.id.Id.{Id}
use Rattle.inf_base.specs.declared.key.LookKey.{LookKey}
use Rattle.inf_base.specs.declared.key.LookKey.TheVariants as look
use Rattle.inf_base.specs.declared.triple.Triple.{Triple}
use Rattle.inf_base.specs.declared.triple.Triple.TheVariants as triple
use Rattle.inf_base.specs.Identity.{server_of}
use Rattle.inf_message.specs.declared.request.Request.{Request}
use Rattle.inf_message.specs.declared.request.Request.TheVariants as request
use Rattle.inf_message.specs.declared.step.Message.{Message}
use Rattle.inf_message.specs.Chain.{last_entry}

-- which client it is, whom it calls for, and what it knows of the servers: how many there are, and the root's
-- identifier
pub record Who : Type 0 where
  pub client : ℕ
  pub caller : Caller
  pub servers : ℕ
  pub root : Id

abbrev pub id_or_root : Who → Option Entry → Id
id_or_root who (Some entry) = entry.access.id
id_or_root who None = who.root

-- the directory that a chain leads to
abbrev pub last_id : Who → List Entry → Id
last_id who chain = id_or_root who (last_entry chain)

-- the triple of a directory that is made at the end of a chain
abbrev pub birth_of : Who → List Entry → List ℕ → ℕ → Triple
birth_of who chain name version = triple.Of (last_id who chain) name version

-- the message to the server of a directory
abbrev pub to : Who → Id → Request → Message
to who id asked = record { number = server_of id who.servers; request = asked }

-- the same message to each server
abbrev pub to_each : Who → Request → List Message
to_each who asked = map (λ (number : ℕ). record { number = number; request = asked }) (range_with_len 0 who.servers)

abbrev pub lift : Who → DirRef → (DirRef → Request) → Message
lift who dir asked = to who dir.id (asked dir)

abbrev pub asked_id : Who → LookKey → Id
asked_id who look.Top = who.root
asked_id who (look.At dir name) = dir

abbrev pub lookup_of : Who → LookKey → Message
lookup_of who k = to who (asked_id who k) (request.Lookup k)
