-- The `==` of requests tells exactly whether two of them are equal: one lemma a kind.
use Rattle.std.proofs.Common.{◌≡◌, ℕ, List, Decides, rules, refl, ap}
use Rattle.std.proofs.lemmas.Bool.Decides.{Decides-like, Decides-and, Decides-eqb}
use Rattle.std.proofs.lemmas.Slice.Eq.{bytes_eq-Decides}
use Rattle.inf_base.specs.declared.directory.DirRef.{DirRef}
use Rattle.inf_base.specs.declared.directory.Home.{Home}
use Rattle.inf_base.specs.declared.entry.Entry.{Entry}
use Rattle.inf_base.specs.declared.file.FileMeta.{FileMeta}
use Rattle.inf_base.specs.declared.id.Id.{Id}
use Rattle.inf_base.specs.declared.key.Key.{Key}
use Rattle.inf_base.specs.declared.key.LookKey.{LookKey}
use Rattle.inf_base.specs.declared.triple.Triple.{Triple}
use Rattle.inf_base.proofs.Decides.{different, chain_decides, directory_decides, file_decides, home_decides, id_decides, key_decides, look_key_decides, triple_decides}
use Rattle.inf_message.specs.declared.aim.Aim.{Aim}
use Rattle.inf_message.specs.declared.aim.What.{What}
use Rattle.inf_message.specs.declared.op.Op.{Op}
use Rattle.inf_message.specs.declared.request.Request.{Request}
use Rattle.inf_message.specs.declared.request.Request.TheVariants as request
use Rattle.inf_message.specs.contracts.request.RequestPartialEq.TheImpl as request_eq
use Rattle.inf_message.proofs.PartDecides.{aim_decides, op_decides, what_decides}

abbrev SameRequest : Request → Request → Type 0
SameRequest a b = Decides (request_eq.eq-value.it a b) (a ≡ b)

lookup_decides : (key : LookKey) (b : Request) → SameRequest (request.Lookup key) b
lookup_decides key (request.Lookup k) = Decides-like _ (λ e. ap request.Lookup e) (λ e. cc) (look_key_decides key k)
lookup_decides key b = different (λ e. cc)

finish_decides : (chain : List Entry) (op : Op) (b : Request) → SameRequest (request.Finish chain op) b
finish_decides chain op (request.Finish c o) =
    Decides-like _ (λ p. rw (p.0, p.1) refl) (λ e. (cc, cc))
    (Decides-and _ _ (chain_decides chain c) (op_decides op o))
finish_decides chain op b = different (λ e. cc)

reserve_decides : (chain : List Entry) (name : List ℕ) (b : Request) → SameRequest (request.Reserve chain name) b
reserve_decides chain name (request.Reserve c n) =
    Decides-like _ (λ p. rw (p.0, p.1) refl) (λ e. (cc, cc))
    (Decides-and _ _ (chain_decides chain c) (bytes_eq-Decides name n))
reserve_decides chain name b = different (λ e. cc)

make_decides : (triple : Triple) (b : Request) → SameRequest (request.Make triple) b
make_decides triple (request.Make t) = Decides-like _ (λ e. ap request.Make e) (λ e. cc) (triple_decides triple t)
make_decides triple b = different (λ e. cc)

link_decides : (chain : List Entry) (name : List ℕ) (dir : DirRef) (mode : ℕ) (b : Request) → SameRequest (request.Link chain name dir mode) b
link_decides chain name dir mode (request.Link c n d m) =
    Decides-like _ (λ p. rw (p.0, p.1.0, p.1.1.0, p.1.1.1) refl) (λ e. (cc, (cc, (cc, cc))))
    (Decides-and _ _ (chain_decides chain c) (Decides-and _ _ (bytes_eq-Decides name n) (Decides-and _ _ (directory_decides dir d) (Decides-eqb mode m))))
link_decides chain name dir mode b = different (λ e. cc)

cancel_decides : (dir : DirRef) (b : Request) → SameRequest (request.Cancel dir) b
cancel_decides dir (request.Cancel d) = Decides-like _ (λ e. ap request.Cancel e) (λ e. cc) (directory_decides dir d)
cancel_decides dir b = different (λ e. cc)

drop_decides : (dir : DirRef) (b : Request) → SameRequest (request.Drop dir) b
drop_decides dir (request.Drop d) = Decides-like _ (λ e. ap request.Drop e) (λ e. cc) (directory_decides dir d)
drop_decides dir b = different (λ e. cc)

seal_decides : (chain : List Entry) (b : Request) → SameRequest (request.Seal chain) b
seal_decides chain (request.Seal c) = Decides-like _ (λ e. ap request.Seal e) (λ e. cc) (chain_decides chain c)
seal_decides chain b = different (λ e. cc)

unseal_decides : (dir : DirRef) (b : Request) → SameRequest (request.Unseal dir) b
unseal_decides dir (request.Unseal d) = Decides-like _ (λ e. ap request.Unseal e) (λ e. cc) (directory_decides dir d)
unseal_decides dir b = different (λ e. cc)

unlink_decides : (chain : List Entry) (b : Request) → SameRequest (request.Unlink chain) b
unlink_decides chain (request.Unlink c) = Decides-like _ (λ e. ap request.Unlink e) (λ e. cc) (chain_decides chain c)
unlink_decides chain b = different (λ e. cc)

forget_decides : (parent : Id) (dir : DirRef) (b : Request) → SameRequest (request.Forget parent dir) b
forget_decides parent dir (request.Forget p d) =
    Decides-like _ (λ p. rw (p.0, p.1) refl) (λ e. (cc, cc))
    (Decides-and _ _ (id_decides parent p) (directory_decides dir d))
forget_decides parent dir b = different (λ e. cc)

hold_decides : (chain : List Entry) (what : What) (b : Request) → SameRequest (request.Hold chain what) b
hold_decides chain what (request.Hold c w) =
    Decides-like _ (λ p. rw (p.0, p.1) refl) (λ e. (cc, cc))
    (Decides-and _ _ (chain_decides chain c) (what_decides what w))
hold_decides chain what b = different (λ e. cc)

unhold_decides : (home : Home) (b : Request) → SameRequest (request.Unhold home) b
unhold_decides home (request.Unhold h) = Decides-like _ (λ e. ap request.Unhold e) (λ e. cc) (home_decides home h)
unhold_decides home b = different (λ e. cc)

prepare_decides : (old : List Entry) (new : List Entry) (aim : Aim) (b : Request) → SameRequest (request.Prepare old new aim) b
prepare_decides old new aim (request.Prepare o n a) =
    Decides-like _ (λ p. rw (p.0, p.1.0, p.1.1) refl) (λ e. (cc, (cc, cc)))
    (Decides-and _ _ (chain_decides old o) (Decides-and _ _ (chain_decides new n) (aim_decides aim a)))
prepare_decides old new aim b = different (λ e. cc)

put_decides : (old : List Entry) (new : List Entry) (aim : Aim) (meta : FileMeta) (b : Request) → SameRequest (request.Put old new aim meta) b
put_decides old new aim meta (request.Put o n a m) =
    Decides-like _ (λ p. rw (p.0, p.1.0, p.1.1.0, p.1.1.1) refl) (λ e. (cc, (cc, (cc, cc))))
    (Decides-and _ _ (chain_decides old o) (Decides-and _ _ (chain_decides new n) (Decides-and _ _ (aim_decides aim a) (file_decides meta m))))
put_decides old new aim meta b = different (λ e. cc)

commit_decides : (home : Home) (b : Request) → SameRequest (request.Commit home) b
commit_decides home (request.Commit h) = Decides-like _ (λ e. ap request.Commit e) (λ e. cc) (home_decides home h)
commit_decides home b = different (λ e. cc)

erase_decides : (dir : DirRef) (b : Request) → SameRequest (request.Erase dir) b
erase_decides dir (request.Erase d) = Decides-like _ (λ e. ap request.Erase e) (λ e. cc) (directory_decides dir d)
erase_decides dir b = different (λ e. cc)

mark_decides : (key : Key) (hold : ℕ) (b : Request) → SameRequest (request.Mark key hold) b
mark_decides key hold (request.Mark k p) =
    Decides-like _ (λ p. rw (p.0, p.1) refl) (λ e. (cc, cc))
    (Decides-and _ _ (key_decides key k) (Decides-eqb hold p))
mark_decides key hold b = different (λ e. cc)

release_decides : (b : Request) → SameRequest request.Release b
release_decides request.Release = search rules
release_decides b = different (λ e. cc)

unmark_decides : (b : Request) → SameRequest request.Unmark b
unmark_decides request.Unmark = search rules
unmark_decides b = different (λ e. cc)

admit_decides : (dir : DirRef) (old : List Entry) (new : List Entry) (b : Request) → SameRequest (request.Admit dir old new) b
admit_decides dir old new (request.Admit d o n) =
    Decides-like _ (λ p. rw (p.0, p.1.0, p.1.1) refl) (λ e. (cc, (cc, cc)))
    (Decides-and _ _ (directory_decides dir d) (Decides-and _ _ (chain_decides old o) (chain_decides new n)))
admit_decides dir old new b = different (λ e. cc)

quit_decides : (b : Request) → SameRequest request.Quit b
quit_decides request.Quit = search rules
quit_decides b = different (λ e. cc)

pub request_decides : (a b : Request) → Decides (request_eq.eq-value.it a b) (a ≡ b)
request_decides (request.Lookup key) b = lookup_decides key b
request_decides (request.Finish chain op) b = finish_decides chain op b
request_decides (request.Reserve chain name) b = reserve_decides chain name b
request_decides (request.Make triple) b = make_decides triple b
request_decides (request.Link chain name dir mode) b = link_decides chain name dir mode b
request_decides (request.Cancel dir) b = cancel_decides dir b
request_decides (request.Drop dir) b = drop_decides dir b
request_decides (request.Seal chain) b = seal_decides chain b
request_decides (request.Unseal dir) b = unseal_decides dir b
request_decides (request.Unlink chain) b = unlink_decides chain b
request_decides (request.Forget parent dir) b = forget_decides parent dir b
request_decides (request.Hold chain what) b = hold_decides chain what b
request_decides (request.Unhold home) b = unhold_decides home b
request_decides (request.Prepare old new aim) b = prepare_decides old new aim b
request_decides (request.Put old new aim meta) b = put_decides old new aim meta b
request_decides (request.Commit home) b = commit_decides home b
request_decides (request.Erase dir) b = erase_decides dir b
request_decides (request.Mark key hold) b = mark_decides key hold b
request_decides request.Release b = release_decides b
request_decides request.Unmark b = unmark_decides b
request_decides (request.Admit dir old new) b = admit_decides dir old new b
request_decides request.Quit b = quit_decides b
