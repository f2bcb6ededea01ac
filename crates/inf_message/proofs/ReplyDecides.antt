-- The `==` of replies tells exactly whether two of them are equal: one lemma a kind.
use Rattle.std.proofs.Common.{◌≡◌, ℕ, List, Decides, rules, refl, ap}
use Rattle.std.proofs.lemmas.Bool.Decides.{Decides-like, Decides-and, Decides-eqb}
use Rattle.inf_base.specs.declared.access.Access.{Access}
use Rattle.inf_base.specs.declared.caller.CallRef.{CallRef}
use Rattle.inf_base.specs.declared.errno.Errno.{Errno}
use Rattle.inf_base.specs.declared.file.FileMeta.{FileMeta}
use Rattle.inf_base.specs.declared.item.Item.{Item}
use Rattle.inf_base.specs.declared.item.Kind.{Kind}
use Rattle.inf_base.specs.declared.key.Key.{Key}
use Rattle.inf_base.specs.declared.triple.Triple.{Triple}
use Rattle.inf_base.proofs.Decides.{different, access_decides, call_decides, errno_decides, file_decides, items_decides, key_decides, kind_decides, triple_decides}
use Rattle.inf_message.specs.declared.reply.Reply.{Reply}
use Rattle.inf_message.specs.declared.reply.Reply.TheVariants as reply
use Rattle.inf_message.specs.declared.reply.Spot.{Spot}
use Rattle.inf_message.specs.Heard.{heard, light}
use Rattle.inf_message.specs.contracts.reply.ReplyPartialEq.TheImpl as reply_eq
use Rattle.inf_message.specs.contracts.reply.SpotPartialEq.TheImpl as spot_eq

pub spot_decides : (a b : Spot) → Decides (spot_eq.eq-value.it a b) (a ≡ b)
spot_decides a b = search rules

abbrev SameReply : Reply → Reply → Type 0
SameReply a b = Decides (reply_eq.eq-value.it a b) (a ≡ b)

found_decides : (key : Key) (access : Access) (b : Reply) → SameReply (reply.Found key access) b
found_decides key access (reply.Found k a) =
    Decides-like _ (λ p. rw (p.0, p.1) refl) (λ e. (cc, cc))
    (Decides-and _ _ (key_decides key k) (access_decides access a))
found_decides key access b = different (λ e. cc)

absent_decides : (born : ℕ) (b : Reply) → SameReply (reply.Absent born) b
absent_decides born (reply.Absent n) = Decides-like _ (λ e. ap reply.Absent e) (λ e. cc) (Decides-eqb born n)
absent_decides born b = different (λ e. cc)

is_file_decides : (born : ℕ) (b : Reply) → SameReply (reply.IsFile born) b
is_file_decides born (reply.IsFile n) = Decides-like _ (λ e. ap reply.IsFile e) (λ e. cc) (Decides-eqb born n)
is_file_decides born b = different (λ e. cc)

no_dir_decides : (b : Reply) → SameReply reply.NoDir b
no_dir_decides reply.NoDir = search rules
no_dir_decides b = different (λ e. cc)

gone_decides : (b : Reply) → SameReply reply.Gone b
gone_decides reply.Gone = search rules
gone_decides b = different (λ e. cc)

stale_decides : (hits : ℕ) (b : Reply) → SameReply (reply.Stale hits) b
stale_decides hits (reply.Stale n) = Decides-like _ (λ e. ap reply.Stale e) (λ e. cc) (Decides-eqb hits n)
stale_decides hits b = different (λ e. cc)

busy_decides : (by : CallRef) (at : Spot) (born : ℕ) (b : Reply) → SameReply (reply.Busy by at born) b
busy_decides by at born (reply.Busy x s n) =
    Decides-like _ (λ p. rw (p.0, p.1.0, p.1.1) refl) (λ e. (cc, (cc, cc)))
    (Decides-and _ _ (call_decides by x) (Decides-and _ _ (spot_decides at s) (Decides-eqb born n)))
busy_decides by at born b = different (λ e. cc)

other_decides : (b : Reply) → SameReply reply.Other b
other_decides reply.Other = search rules
other_decides b = different (λ e. cc)

no_mem_decides : (b : Reply) → SameReply reply.NoMem b
no_mem_decides reply.NoMem = search rules
no_mem_decides b = different (λ e. cc)

reserved_decides : (version : ℕ) (b : Reply) → SameReply (reply.Reserved version) b
reserved_decides version (reply.Reserved n) = Decides-like _ (λ e. ap reply.Reserved e) (λ e. cc) (Decides-eqb version n)
reserved_decides version b = different (λ e. cc)

held_decides : (meta : FileMeta) (b : Reply) → SameReply (reply.Held meta) b
held_decides meta (reply.Held m) = Decides-like _ (λ e. ap reply.Held e) (λ e. cc) (file_decides meta m)
held_decides meta b = different (λ e. cc)

clash_decides : (kept : Triple) (b : Reply) → SameReply (reply.Clash kept) b
clash_decides kept (reply.Clash t) = Decides-like _ (λ e. ap reply.Clash e) (λ e. cc) (triple_decides kept t)
clash_decides kept b = different (λ e. cc)

fine_decides : (b : Reply) → SameReply reply.Fine b
fine_decides reply.Fine = search rules
fine_decides b = different (λ e. cc)

refused_decides : (error : Errno) (b : Reply) → SameReply (reply.Refused error) b
refused_decides error (reply.Refused x) = Decides-like _ (λ e. ap reply.Refused e) (λ e. cc) (errno_decides error x)
refused_decides error b = different (λ e. cc)

stat_decides : (kind : Kind) (meta : FileMeta) (b : Reply) → SameReply (reply.Stat kind meta) b
stat_decides kind meta (reply.Stat k m) =
    Decides-like _ (λ p. rw (p.0, p.1) refl) (λ e. (cc, cc))
    (Decides-and _ _ (kind_decides kind k) (file_decides meta m))
stat_decides kind meta b = different (λ e. cc)

listing_decides : (items : List Item) (b : Reply) → SameReply (reply.Listing items) b
listing_decides items (reply.Listing others) = Decides-like _ (λ e. ap reply.Listing e) (λ e. cc) (items_decides items others)
listing_decides items b = different (λ e. cc)

pub reply_decides : (a b : Reply) → Decides (reply_eq.eq-value.it a b) (a ≡ b)
reply_decides (reply.Found key access) b = found_decides key access b
reply_decides (reply.Absent born) b = absent_decides born b
reply_decides (reply.IsFile born) b = is_file_decides born b
reply_decides reply.NoDir b = no_dir_decides b
reply_decides reply.Gone b = gone_decides b
reply_decides (reply.Stale hits) b = stale_decides hits b
reply_decides (reply.Busy by at born) b = busy_decides by at born b
reply_decides reply.Other b = other_decides b
reply_decides reply.NoMem b = no_mem_decides b
reply_decides (reply.Reserved version) b = reserved_decides version b
reply_decides (reply.Held meta) b = held_decides meta b
reply_decides (reply.Clash kept) b = clash_decides kept b
reply_decides reply.Fine b = fine_decides b
reply_decides (reply.Refused error) b = refused_decides error b
reply_decides (reply.Stat kind meta) b = stat_decides kind meta b
reply_decides (reply.Listing items) b = listing_decides items b

-- all is kept of a reply that owns no memory
pub light_same : (given : Reply) → ((key : Key) (access : Access) → given ≡ reply.Found key access → ⊥)
    → ((kept : Triple) → given ≡ reply.Clash kept → ⊥) → ((items : List Item) → given ≡ reply.Listing items → ⊥)
    → light given ≡ given
light_same (reply.Found key access) found clash listing = absurd (found key access refl)
light_same (reply.Clash kept) found clash listing = absurd (clash kept refl)
light_same (reply.Listing items) found clash listing = absurd (listing items refl)
light_same given found clash listing = refl

pub light_heard : (given : Reply) → ((key : Key) (access : Access) → given ≡ reply.Found key access → ⊥)
    → ((kept : Triple) → given ≡ reply.Clash kept → ⊥) → light given ≡ heard given
light_heard (reply.Found key access) found clash = absurd (found key access refl)
light_heard (reply.Clash kept) found clash = absurd (clash kept refl)
light_heard given found clash = refl
