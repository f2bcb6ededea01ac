-- What is asked next is what is to be asked of some keys.
use Rattle.std.proofs.Common.{◌≡◌, ℕ, ◌<◌, true, List, [], ◌∷◌, ◌++◌, length, Option, Some, None, is_some, false, refl, sym, ap, subst, ◌∙◌, arith}
use Rattle.std.specs.List.{AllByRecursion, IsDistinct}
use Rattle.std.specs.Option.{option_or}
use Rattle.inf_base.specs.declared.caller.CallRef.{CallRef}
use Rattle.inf_base.specs.declared.entry.Entry.{Entry}
use Rattle.inf_base.specs.declared.id.Id.{Id}
use Rattle.inf_base.specs.declared.key.LookKey.{LookKey}
use Rattle.inf_base.specs.declared.key.LookKey.TheVariants as look
use Rattle.inf_base.specs.Same.{dir_of}
use Rattle.inf_message.specs.declared.reply.Reply.{Reply}
use Rattle.inf_message.specs.declared.reply.Reply.TheVariants as reply
use Rattle.inf_resolve.specs.declared.known.Known.{Known}
use Rattle.inf_resolve.specs.declared.looked.Looked.{Looked}
use Rattle.inf_resolve.specs.declared.resolved.Resolved.TheVariants as comes
use Rattle.inf_resolve.specs.declared.walked.Walked.{Walked}
use Rattle.inf_resolve.specs.Keys.{is_among, keys_at, keys_from, to_ask}
use Rattle.inf_resolve.specs.Known.{is_same_key, told_entry, told_under}
use Rattle.inf_resolve.specs.Resolved.{behind_root, by_root, by_told, resolved, unless_asked, unless_busy}
use Rattle.inf_resolve.specs.Walk.{busy_at, halt_of, walk}
use Rattle.inf_resolve.proofs.KeyFacts.{asked_once, asked_unknown}
use Rattle.inf_resolve.proofs.RoundFacts.{unknown_asked}

record HasAsked (known : List Known) (keys : List LookKey) : Type 0 where
  all : List LookKey
  is_asked : keys ≡ to_ask known all
  some : 0 < length keys

-- the keys that are asked behind the root, of which there are some
pub record AreAsked (all keys : List LookKey) : Type 0 where
  pub first : LookKey
  pub others : List LookKey
  pub some : all ≡ first ∷ others
  pub same : keys ≡ all

asked : (all : List LookKey) (old new : Walked) (keys : List LookKey)
    → unless_asked all (comes.Leads old new) ≡ comes.Asks keys → AreAsked all keys
asked [] old new keys is = absurd cc
asked (k ∷ ks) old new keys is =
    let same : k ∷ ks ≡ keys = cc in
    record { first = k; others = ks; some = refl; same = sym same }

pub asked_unless_busy : (busy : Option (CallRef × ℕ)) (all : List LookKey) (old new : Walked) (keys : List LookKey)
    → unless_busy busy (unless_asked all (comes.Leads old new)) ≡ comes.Asks keys → AreAsked all keys
asked_unless_busy None all old new keys is = asked all old new keys is
asked_unless_busy (Some (by, place)) all old new keys is = absurd cc

behind : (digest : List ℕ → Id) (looked : Looked) (known : List Known) (root : Entry) (keys : List LookKey)
    → behind_root digest looked known root ≡ comes.Asks keys → HasAsked known keys
behind digest looked known root keys is =
    let one = halt_of known (dir_of root.access) looked.old in
    let other = halt_of known (dir_of root.access) looked.new in
    let all = keys_at digest known one ++ keys_at digest known other in
    let now = asked_unless_busy (option_or (busy_at known one) (busy_at known other)) (to_ask known all)
    (walk known root looked.old) (walk known root looked.new) keys is in
    record {
      all = all;
      is_asked = now.same;
      some = subst (λ (ks : List LookKey). 0 < length ks) (sym (now.same ∙ now.some)) (omega arith);
    }

after_root : (digest : List ℕ → Id) (looked : Looked) (known : List Known) (given : Reply) (place : ℕ)
    (keys : List LookKey)
    → by_root digest looked known place given ≡ comes.Asks keys → HasAsked known keys
after_root digest looked known (reply.Found k access) place keys is =
    behind digest looked known (told_entry k access place) keys is
after_root digest looked known any_reply place keys is = absurd cc

has_some : (k : LookKey) (keys : List LookKey) → is_among k keys ≡ true → 0 < length keys
has_some k [] among = absurd cc
has_some k (x ∷ keys) among = omega arith

-- the first round asks for the root
top_is_asked : (digest : List ℕ → Id) (root : Id) (looked : Looked) (known : List Known)
    → told_under look.Top known ≡ None
    → 0 < length
    (to_ask known (look.Top ∷ keys_from digest known root looked.old ++ keys_from digest known root looked.new))
top_is_asked digest root looked known unknown =
    let names = keys_from digest known root looked.old ++ keys_from digest known root looked.new in
    has_some look.Top (to_ask known (look.Top ∷ names))
    (unknown_asked known look.Top [] [] names (ap is_some unknown))

after_told : (digest : List ℕ → Id) (root : Id) (looked : Looked) (known : List Known) (found : Option Known)
    (keys : List LookKey) → told_under look.Top known ≡ found
    → by_told digest root looked known found ≡ comes.Asks keys → HasAsked known keys
after_told digest root looked known None keys unknown is =
    let all = look.Top ∷ keys_from digest known root looked.old ++ keys_from digest known root looked.new in
    let same : to_ask known all ≡ keys = cc in
    record {
      all = all;
      is_asked = sym same;
      some = subst (λ (ks : List LookKey). 0 < length ks) same (top_is_asked digest root looked known unknown);
    }
after_told digest root looked known (Some x) keys there is =
    after_root digest looked known x.reply x.place keys is

has_asked : (digest : List ℕ → Id) (root : Id) (looked : Looked) (known : List Known) (keys : List LookKey)
    → resolved digest root looked known ≡ comes.Asks keys → HasAsked known keys
has_asked digest root looked known keys is =
    after_told digest root looked known (told_under look.Top known) keys refl is

pub keys_differ : (digest : List ℕ → Id) (root : Id) (looked : Looked) (known : List Known) (keys : List LookKey)
    → resolved digest root looked known ≡ comes.Asks keys → IsDistinct is_same_key keys
keys_differ digest root looked known keys is =
    let asked = has_asked digest root looked known keys is in
    subst (λ (ks : List LookKey). IsDistinct is_same_key ks) (sym asked.is_asked) (asked_once known asked.all)

pub keys_are_new : (digest : List ℕ → Id) (root : Id) (looked : Looked) (known : List Known) (keys : List LookKey)
    → resolved digest root looked known ≡ comes.Asks keys
    → AllByRecursion (λ (k : LookKey). is_some (told_under k known) ≡ false) keys
keys_are_new digest root looked known keys is =
    let asked = has_asked digest root looked known keys is in
    subst (λ (ks : List LookKey). AllByRecursion (λ (k : LookKey). is_some (told_under k known) ≡ false) ks)
    (sym asked.is_asked)
    (asked_unknown known asked.all)

pub rounds_ask : (digest : List ℕ → Id) (root : Id) (looked : Looked) (known : List Known) (keys : List LookKey)
    → resolved digest root looked known ≡ comes.Asks keys → 0 < length keys
rounds_ask digest root looked known keys is = (has_asked digest root looked known keys is).some
