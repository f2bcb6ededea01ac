-- What an attempt asks next, or where its paths lead, by what it was told.
use Rattle.std.specs.Prelude.{ℕ, List, [], ◌∷◌, ◌++◌, Option, Some, None}
use Rattle.std.specs.Option.{option_or}
use Rattle.inf_base.specs.declared.caller.CallRef.{CallRef}
use Rattle.inf_base.specs.declared.entry.Entry.{Entry}
use Rattle.inf_base.specs.declared.id.Id.{Id}
use Rattle.inf_base.specs.declared.key.LookKey.{LookKey}
use Rattle.inf_base.specs.declared.key.LookKey.TheVariants as look
use Rattle.inf_base.specs.Same.{dir_of}
use Rattle.inf_message.specs.declared.reply.Reply.{Reply}
use Rattle.inf_message.specs.declared.reply.Reply.TheVariants as reply
use Rattle.inf_resolve.specs.declared.known.Known.{Known}
use Rattle.inf_resolve.specs.declared.looked.Looked.{Looked}
use Rattle.inf_resolve.specs.declared.resolved.Resolved.{Resolved}
use Rattle.inf_resolve.specs.declared.resolved.Resolved.TheVariants as comes
use Rattle.inf_resolve.specs.declared.resolved.Verdict.{Verdict}
use Rattle.inf_resolve.specs.declared.resolved.Verdict.TheVariants as verdict
use Rattle.inf_resolve.specs.Keys.{keys_at, keys_from, to_ask}
use Rattle.inf_resolve.specs.Known.{told_entry, told_under}
use Rattle.inf_resolve.specs.Walk.{Halt, busy_at, halt_of, walk}

-- the first round: the root, and the names of the old path before those of the new
abbrev pub first_round : (List ℕ → Id) → Id → Looked → List Known → Resolved
first_round digest root looked known =
    comes.Asks
    (to_ask known (look.Top ∷ keys_from digest known root looked.old ++ keys_from digest known root looked.new))

abbrev pub unless_busy : Option (CallRef × ℕ) → Resolved → Resolved
unless_busy (Some (by, place)) rest = comes.IsBusy by place
unless_busy None rest = rest

abbrev pub unless_asked : List LookKey → Resolved → Resolved
unless_asked [] rest = rest
unless_asked (k ∷ keys) rest = comes.Asks (k ∷ keys)

-- what comes of the halts of both paths behind the root's entry: a change in the way of the old path counts first, and
-- any change before a further round
abbrev pub after_halts : (List ℕ → Id) → Looked → List Known → Entry → Halt → Halt → Resolved
after_halts digest looked known root old new =
    unless_busy (option_or (busy_at known old) (busy_at known new))
    (unless_asked (to_ask known (keys_at digest known old ++ keys_at digest known new))
    (comes.Leads (walk known root looked.old) (walk known root looked.new)))

abbrev pub behind_root : (List ℕ → Id) → Looked → List Known → Entry → Resolved
behind_root digest looked known root =
    after_halts digest looked known root (halt_of known (dir_of root.access) looked.old)
    (halt_of known (dir_of root.access) looked.new)

-- by the reply for the root: a Busy of it counts whatever its birth, and without its entry the attempt is made again
abbrev pub by_root : (List ℕ → Id) → Looked → List Known → ℕ → Reply → Resolved
by_root digest looked known place (reply.Found k access) = behind_root digest looked known (told_entry k access place)
by_root digest looked known place (reply.Busy by at born) = comes.IsBusy by place
by_root digest looked known place any_reply = comes.Lacks

abbrev pub by_told : (List ℕ → Id) → Id → Looked → List Known → Option Known → Resolved
by_told digest root looked known None = first_round digest root looked known
by_told digest root looked known (Some told) = by_root digest looked known told.place told.reply

-- By the digest, the root's identifier, the names that are looked up, and what the attempt was told so far. That
-- memory is wanting ends a call whatever else was told: who asks looks at that before. A cache has its place in
-- `known`: an entry of it that the attempt uses is a Found at its stamp.
abbrev pub resolved : (List ℕ → Id) → Id → Looked → List Known → Resolved
resolved digest root looked known = by_told digest root looked known (told_under look.Top known)

-- whether the attempt is over by it
abbrev pub verdict_of : Resolved → Verdict
verdict_of (comes.IsBusy by place) = verdict.IsBusy by place
verdict_of comes.Lacks = verdict.Lacks
verdict_of other = verdict.GoesOn
