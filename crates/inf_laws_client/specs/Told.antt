-- What a client was told, and the chains that it makes of it.
use Rattle.std.specs.Prelude.{◌≡◌, ℕ, List, [], ◌∷◌, Option, Some, None}
use Rattle.std.specs.List.{Contains}
use Rattle.inf_base.specs.declared.access.Access.{Access}
use Rattle.inf_base.specs.declared.directory.DirRef.{DirRef}
use Rattle.inf_base.specs.declared.entry.Entry.{Entry}
use Rattle.inf_base.specs.declared.key.Key.{Key}
use Rattle.inf_base.specs.declared.key.Key.TheVariants as key
use Rattle.inf_base.specs.declared.key.LookKey.{LookKey}
use Rattle.inf_base.specs.declared.key.LookKey.TheVariants as look
use Rattle.inf_base.specs.Same.{dir_of}
use Rattle.inf_message.specs.declared.reply.Reply.{Reply}
use Rattle.inf_message.specs.declared.reply.Reply.TheVariants as reply
use Rattle.inf_message.specs.declared.step.Message.{Message}
use Rattle.inf_message.specs.History.{Told}
use Rattle.inf_server.specs.Chains.{chains_of}
use Rattle.inf_flow_dir.specs.declared.dir_flow.DirFlow.TheVariants as dir_flow
use Rattle.inf_flow_file.specs.declared.file_flow.FileFlow.TheVariants as file_flow
use Rattle.inf_duty.specs.declared.flow.Flow.TheVariants as flow
use Rattle.inf_duty.specs.ClientState.{ClientState, Stage, act, compose, round, winds}
use Rattle.inf_duty.specs.declared.flow.Flow.{Flow}
use Rattle.inf_message.specs.Sent.{Sent}
use Rattle.inf_resolve.specs.declared.known.Known.{Known}
use Rattle.inf_resolve.specs.Known.{told_entry}
use Rattle.inf_duty.specs.Keeps.{StageFits}

-- ---- answers

abbrev pub name_of : Key → List ℕ
name_of key.Top = []
name_of (key.At dir name) = name

-- what is told to a lookup of a name is told under that name, and the root's access object under none
abbrev pub IsToldFor : LookKey → Reply → Type 0
IsToldFor look.Top (reply.Found k access) = k ≡ key.Top
IsToldFor (look.At dir name) (reply.Found k access) = name_of k ≡ name
IsToldFor any_key any_reply = Unit {0}

-- by what is true of an entry: the access object that was told, with the place of its Serve as its stamp
abbrev pub TellsOnly : (Entry → Type 0) → ℕ → Reply → Type 0
TellsOnly T place (reply.Found k access) = T (told_entry k access place)
TellsOnly T place any_reply = Unit {0}

abbrev pub IfTold : (Told → Type 0) → Option Told → Type 0
IfTold P None = Unit {0}
IfTold P (Some told) = P told

abbrev pub AllTell : (Entry → Type 0) → List Sent → Type 0
AllTell T [] = Unit {0}
AllTell T (x ∷ xs) = IfTold (λ (told : Told). TellsOnly T told.serve_place told.reply) x.told × AllTell T xs

-- each lookup of a round was told what is told to it
abbrev pub AreToldFor : List LookKey → List Sent → Type 0
AreToldFor (k ∷ keys) (x ∷ xs) = IfTold (λ (told : Told). IsToldFor k told.reply) x.told × AreToldFor keys xs
AreToldFor any_keys any_sent = Unit {0}

-- so was each that the attempt knows
abbrev pub AreKnownFor : List Known → Type 0
AreKnownFor [] = Unit {0}
AreKnownFor (x ∷ xs) = IsToldFor x.key x.reply × AreKnownFor xs

-- nothing is asked before a round is composed
abbrev pub RoundIsToldFor : Stage → List Sent → Type 0
RoundIsToldFor compose sent = sent ≡ []
RoundIsToldFor (round keys) sent = AreToldFor keys sent
RoundIsToldFor (act step) sent = Unit {0}
RoundIsToldFor (winds ending ms later) sent = Unit {0}

-- what a client was told answers what it asked
pub record IsToldAsAsked (s : ClientState) : Type 0 where
  pub known : AreKnownFor s.known
  pub sent : RoundIsToldFor s.stage s.sent

abbrev pub AllKnown : (Entry → Type 0) → List Known → Type 0
AllKnown T [] = Unit {0}
AllKnown T (x ∷ xs) = TellsOnly T x.place x.reply × AllKnown T xs

-- where the Ask at a place is one of these lookups, this is an answer to it
abbrev pub AnswersKeys : List LookKey → List Sent → ℕ → Reply → Type 0
AnswersKeys (k ∷ keys) (x ∷ xs) place given = (x.place ≡ place → IsToldFor k given) × AnswersKeys keys xs place given
AnswersKeys any_keys any_sent place given = Unit {0}

abbrev pub AnswersLookup : Stage → List Sent → ℕ → Reply → Type 0
AnswersLookup (round keys) sent place given = AnswersKeys keys sent place given
AnswersLookup other sent place given = Unit {0}

-- ---- chains

abbrev pub CarriesOnly : (Entry → Type 0) → List Entry → Type 0
CarriesOnly T [] = Unit {0}
CarriesOnly T (e ∷ es) = T e × CarriesOnly T es

abbrev pub IsIn : DirRef → Key → Type 0
IsIn dir key.Top = ⊥
IsIn dir (key.At other name) = other ≡ dir

-- each entry stands in the directory of the entry before it
abbrev pub LinksFrom : Access → List Entry → Type 0
LinksFrom before [] = Unit {0}
LinksFrom before (e ∷ es) = IsIn (dir_of before) e.key × LinksFrom e.access es

-- the first entry is the root's
abbrev pub LinksUp : List Entry → Type 0
LinksUp [] = ⊥
LinksUp (e ∷ es) = (e.key ≡ key.Top) × LinksFrom e.access es

pub record IsChainOf (T : Entry → Type 0) (chain : List Entry) : Type 0 where
  pub carries : CarriesOnly T chain
  pub links_up : LinksUp chain

-- ---- clients

abbrev pub chain_of : Flow → List Entry
chain_of (flow.File (file_flow.Finishes chain op)) = chain
chain_of (flow.Dir (dir_flow.Reserves chain name mode)) = chain
chain_of (flow.Dir (dir_flow.Makes chain name mode version id)) = chain
chain_of (flow.Dir (dir_flow.Links chain name mode version dir)) = chain
chain_of (flow.Dir (dir_flow.Seals chain)) = chain
chain_of (flow.Dir (dir_flow.Unlinks chain)) = chain

-- no chain is sent by what winds a call up
abbrev pub ArePlain : List Message → Type 0
ArePlain [] = Unit {0}
ArePlain (m ∷ ms) = (chains_of m.request ≡ []) × ArePlain ms

abbrev pub AllPlain : List (List Message) → Type 0
AllPlain [] = Unit {0}
AllPlain (ms ∷ later) = ArePlain ms × AllPlain later

abbrev pub StandsOn : (Entry → Type 0) → Stage → Type 0
StandsOn T stage = StageFits (λ (step : Flow). IsChainOf T (chain_of step)) AllPlain stage

pub record KnowsOnly (T : Entry → Type 0) (s : ClientState) : Type 0 where
  pub as_asked : IsToldAsAsked s
  pub known : AllKnown T s.known
  pub answers : AllTell T s.sent
  pub stands : StandsOn T s.stage

-- ---- what was told, as it was

abbrev pub IsAmong : List Entry → Entry → Type 0
IsAmong told entry = Contains told entry
