-- The flows of calls that make and remove directories: their messages one after another, what comes of the replies, and
-- what is cleaned up where a message does not succeed.
use Rattle.std.specs.Prelude.{ℕ, ◌&&◌, Bool, false, if◌then◌else◌, List, [], ◌∷◌, Option, Some, None}
use Rattle.std.specs.Str.{bytes_eq}
use Rattle.inf_base.specs.declared.answer.Answer.TheVariants as answer
use Rattle.inf_base.specs.declared.directory.DirRef.{DirRef}
use Rattle.inf_base.specs.declared.entry.Entry.{Entry}
use Rattle.inf_base.specs.declared.id.Id.{Id}
use Rattle.inf_base.specs.declared.key.Key.{Key}
use Rattle.inf_base.specs.declared.key.Key.TheVariants as key
use Rattle.inf_base.specs.declared.triple.Triple.{Triple}
use Rattle.inf_base.specs.declared.triple.Triple.TheVariants as triple
use Rattle.inf_base.specs.Identity.{identity}
use Rattle.inf_base.specs.Same.{dir_of, is_same_id}
use Rattle.inf_flow_dir.specs.declared.dir_flow.DirFlow.{DirFlow}
use Rattle.inf_flow_dir.specs.declared.dir_flow.DirFlow.TheVariants as dir_flow
use Rattle.inf_message.specs.declared.ending.Ending.TheVariants as ending
use Rattle.inf_message.specs.declared.reply.Reply.{Reply}
use Rattle.inf_message.specs.declared.reply.Reply.TheVariants as reply
use Rattle.inf_message.specs.declared.request.Request.TheVariants as request
use Rattle.inf_message.specs.declared.step.Message.{Message}
use Rattle.inf_message.specs.declared.turn.Turn.{Turn}
use Rattle.inf_message.specs.declared.turn.Turn.TheVariants as turn
use Rattle.inf_message.specs.Chain.{last_dir, last_entry, way_to}
use Rattle.inf_message.specs.CleanUp.{one_by_one}
use Rattle.inf_message.specs.Sent.{Sent, deciding}
use Rattle.inf_message.specs.Turn.{after_deciding, done, fails}
use Rattle.inf_message.specs.Who.{Who, birth_of, last_id, lift, to}

abbrev pub message_of : Who → DirFlow → Message
message_of who (dir_flow.Reserves chain name mode) = to who (last_id who chain) (request.Reserve chain name)
message_of who (dir_flow.Makes chain name mode version id) = to who id (request.Make (birth_of who chain name version))
message_of who (dir_flow.Links chain name mode version made) =
    to who (last_id who chain) (request.Link chain name made mode)
message_of who (dir_flow.Seals chain) = to who (last_id who chain) (request.Seal chain)
message_of who (dir_flow.Unlinks chain) = to who (last_id who (way_to chain)) (request.Unlink chain)

abbrev pub group : Who → DirFlow → List Message
group who flow = message_of who flow ∷ []

-- what is cleaned up, one step after another, where a message does not succeed, or is not sent for want of memory
abbrev pub clean_up : Who → DirFlow → List (List Message)
clean_up who (dir_flow.Reserves chain name mode) = []
clean_up who (dir_flow.Makes chain name mode version id) = one_by_one (lift who (last_dir chain) request.Cancel ∷ [])
clean_up who (dir_flow.Links chain name mode version made) =
    one_by_one (lift who made request.Drop ∷ lift who (last_dir chain) request.Cancel ∷ [])
clean_up who (dir_flow.Seals chain) = []
clean_up who (dir_flow.Unlinks chain) = one_by_one (lift who (last_dir chain) request.Unseal ∷ [])

-- whether a directory lives where it was born, by the entry that ends its chain, and the directory before
abbrev pub lives_at : Id → Key → Triple → Bool
lives_at id k triple.Root = false
lives_at id key.Top (triple.Of parent name version) = false
lives_at id (key.At above here) (triple.Of parent name version) = is_same_id id parent && bytes_eq here name

abbrev pub forget_in : Who → DirRef → Triple → List Message
forget_in who gone triple.Root = []
forget_in who gone (triple.Of parent name version) = to who parent (request.Forget parent gone) ∷ []

abbrev pub row_of : Who → Id → Option Entry → List Message
row_of who parent None = []
row_of who parent (Some entry) =
    if lives_at parent entry.key entry.access.birth then [] else forget_in who (dir_of entry.access) entry.access.birth

-- what follows the unlinking: the content goes, and the row at the place of birth where the directory had left that
abbrev pub after_unlink : Who → List Entry → List (List Message)
after_unlink who chain =
    one_by_one (lift who (last_dir chain) request.Drop ∷ row_of who (last_id who (way_to chain)) (last_entry chain))

-- by the place of the Ask, that of its Serve, and the reply
abbrev pub after_reply : (List ℕ → Id) → Who → DirFlow → ℕ → ℕ → Reply → Turn DirFlow
after_reply digest who (dir_flow.Reserves chain name mode) asked place (reply.Reserved version) =
    turn.GoesOn (dir_flow.Makes chain name mode version (identity digest (birth_of who chain name version)))
after_reply digest who (dir_flow.Makes chain name mode version id) asked place reply.Fine =
    turn.GoesOn (dir_flow.Links chain name mode version (record { id = id; born = asked }))
after_reply digest who (dir_flow.Makes chain name mode version id) asked place (reply.Clash kept) =
    turn.WindsUp (ending.Answers (answer.IdClash (birth_of who chain name version) kept) (Some place))
    (clean_up who (dir_flow.Makes chain name mode version id))
after_reply digest who (dir_flow.Links chain name mode version made) asked place reply.Fine = done place []
after_reply digest who (dir_flow.Seals chain) asked place reply.Fine = turn.GoesOn (dir_flow.Unlinks chain)
after_reply digest who (dir_flow.Unlinks chain) asked place reply.Fine = done place (after_unlink who chain)
after_reply digest who flow asked place given = fails (clean_up who flow) place given

-- what comes of the group, once it was answered
abbrev pub after : (List ℕ → Id) → Who → DirFlow → List Sent → Turn DirFlow
after digest who flow sent = after_deciding (after_reply digest who flow) (deciding sent)
