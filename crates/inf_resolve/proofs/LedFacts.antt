-- Where the paths lead: each by the root's entry, along its own names.
use Rattle.std.proofs.Common.{◌≡◌, ℕ, ◌-◌, List, [], ◌∷◌, ◌++◌, length, drop, Option, Some, None, refl, sym, ap, subst, ◌∙◌, arith}
use Rattle.std.specs.Option.{option_or}
use Rattle.std.proofs.lemmas.List.{append-nil}
use Rattle.inf_base.specs.declared.caller.CallRef.{CallRef}
use Rattle.inf_base.specs.declared.directory.DirRef.{DirRef}
use Rattle.inf_base.specs.declared.entry.Entry.{Entry}
use Rattle.inf_base.specs.declared.id.Id.{Id}
use Rattle.inf_base.specs.declared.key.LookKey.{LookKey}
use Rattle.inf_base.specs.declared.key.LookKey.TheVariants as look
use Rattle.inf_base.specs.Same.{dir_of}
use Rattle.inf_message.specs.declared.reply.Reply.{Reply}
use Rattle.inf_message.specs.declared.reply.Reply.TheVariants as reply
use Rattle.inf_resolve.specs.declared.known.Known.{Known}
use Rattle.inf_resolve.specs.declared.looked.Looked.{Looked}
use Rattle.inf_resolve.specs.declared.resolved.Resolved.TheVariants as comes
use Rattle.inf_resolve.specs.declared.walked.Walked.{Walked}
use Rattle.inf_resolve.specs.Chain.{IsChain, IsTold}
use Rattle.inf_resolve.specs.Keys.{keys_at, to_ask}
use Rattle.inf_resolve.specs.Known.{told_entry, told_under}
use Rattle.inf_resolve.specs.Resolved.{behind_root, by_root, by_told, resolved, unless_asked, unless_busy}
use Rattle.inf_resolve.specs.Walk.{busy_at, halt_of, walk, way}
use Rattle.inf_resolve.proofs.ChainFacts.{IsToldAtHalt, known_of, left_is, way_leads}
use Rattle.inf_resolve.proofs.RoundFacts.{told_at_halt}

abbrev left_to_ask : (List ℕ → Id) → Looked → List Known → DirRef → List LookKey
left_to_ask digest looked known dir =
    to_ask known
    (keys_at digest known (halt_of known dir looked.old) ++ keys_at digest known (halt_of known dir looked.new))

-- both paths were followed from the root's entry on
record HasLed (digest : List ℕ → Id) (looked : Looked) (known : List Known) (old new : Walked) : Type 0 where
  root : Entry
  none : left_to_ask digest looked known (dir_of root.access) ≡ []
  is_told : IsTold known look.Top root
  old_is : old ≡ walk known root looked.old
  new_is : new ≡ walk known root looked.new

leads : (digest : List ℕ → Id) (looked : Looked) (known : List Known) (root : Entry) (old new : Walked)
    (keys : List LookKey) → IsTold known look.Top root
    → left_to_ask digest looked known (dir_of root.access) ≡ keys
    → unless_asked keys (comes.Leads (walk known root looked.old) (walk known root looked.new)) ≡ comes.Leads old new
    → HasLed digest looked known old new
leads digest looked known root old new [] top none is =
    let old_is : walk known root looked.old ≡ old = cc in
    let new_is : walk known root looked.new ≡ new = cc in
    record { root = root; none = none; is_told = top; old_is = sym old_is; new_is = sym new_is }
leads digest looked known root old new (k ∷ keys) top asked is = absurd cc

not_busy : (digest : List ℕ → Id) (looked : Looked) (known : List Known) (root : Entry) (old new : Walked)
    (busy : Option (CallRef × ℕ))
    → IsTold known look.Top root
    → unless_busy busy
    (unless_asked (left_to_ask digest looked known (dir_of root.access))
    (comes.Leads (walk known root looked.old) (walk known root looked.new))) ≡ comes.Leads old new
    → HasLed digest looked known old new
not_busy digest looked known root old new None top is =
    leads digest looked known root old new (left_to_ask digest looked known (dir_of root.access)) top refl is
not_busy digest looked known root old new (Some (by, place)) top is = absurd cc

behind : (digest : List ℕ → Id) (looked : Looked) (known : List Known) (root : Entry) (old new : Walked)
    → IsTold known look.Top root
    → behind_root digest looked known root ≡ comes.Leads old new → HasLed digest looked known old new
behind digest looked known root old new top is =
    not_busy digest looked known root old new
    (option_or (busy_at known (halt_of known (dir_of root.access) looked.old))
    (busy_at known (halt_of known (dir_of root.access) looked.new))) top is

after_root : (digest : List ℕ → Id) (looked : Looked) (known : List Known) (asked : LookKey) (given : Reply)
    (place : ℕ) (old new : Walked)
    → told_under look.Top known ≡ Some (known_of asked given place)
    → by_root digest looked known place given ≡ comes.Leads old new → HasLed digest looked known old new
after_root digest looked known asked (reply.Found k access) place old new at is =
    behind digest looked known (told_entry k access place) old new
    (record { told = known_of asked (reply.Found k access) place; is_known = at; is_found = refl; stamp = refl }) is
after_root digest looked known asked any_reply place old new at is = absurd cc

after_told : (digest : List ℕ → Id) (root : Id) (looked : Looked) (known : List Known) (found : Option Known)
    (old new : Walked)
    → told_under look.Top known ≡ found → by_told digest root looked known found ≡ comes.Leads old new
    → HasLed digest looked known old new
after_told digest root looked known None old new at is = absurd cc
after_told digest root looked known (Some x) old new at is =
    after_root digest looked known x.key x.reply x.place old new at is

has_led : (digest : List ℕ → Id) (root : Id) (looked : Looked) (known : List Known) (old new : Walked)
    → resolved digest root looked known ≡ comes.Leads old new → HasLed digest looked known old new
has_led digest root looked known old new is =
    after_told digest root looked known (told_under look.Top known) old new refl is

walk_is_chain : (known : List Known) (names : List (List ℕ)) (root : Entry) (w : Walked) → IsTold known look.Top root
    → IsToldAtHalt known (halt_of known (dir_of root.access) names) → w ≡ walk known root names
    → IsChain known names w.chain
walk_is_chain known names root w top at_halt is =
    subst (λ (x : Walked). IsChain known names x.chain) (sym is)
    (top, way_leads known (dir_of root.access) names at_halt)

pub old_is_chain : (digest : List ℕ → Id) (root : Id) (looked : Looked) (known : List Known) (old new : Walked)
    → resolved digest root looked known ≡ comes.Leads old new → IsChain known looked.old old.chain
old_is_chain digest root looked known old new is =
    let led = has_led digest root looked known old new is in
    let dir = dir_of led.root.access in
    walk_is_chain known looked.old led.root old led.is_told
    (told_at_halt digest known (halt_of known dir looked.old) []
    (keys_at digest known (halt_of known dir looked.new)) led.none) led.old_is

pub new_is_chain : (digest : List ℕ → Id) (root : Id) (looked : Looked) (known : List Known) (old new : Walked)
    → resolved digest root looked known ≡ comes.Leads old new → IsChain known looked.new new.chain
new_is_chain digest root looked known old new is =
    let led = has_led digest root looked known old new is in
    let dir = dir_of led.root.access in
    let old_keys = keys_at digest known (halt_of known dir looked.old) in
    let new_keys = keys_at digest known (halt_of known dir looked.new) in
    let none : to_ask known (old_keys ++ (new_keys ++ [])) ≡ [] =
    ap (λ (ks : List LookKey). to_ask known (old_keys ++ ks)) (append-nil new_keys) ∙ led.none in
    walk_is_chain known looked.new led.root new led.is_told
    (told_at_halt digest known (halt_of known dir looked.new) old_keys [] none) led.new_is

walk_leaves : (known : List Known) (names : List (List ℕ)) (root : Entry) (w : Walked) → w ≡ walk known root names
    → w.left ≡ drop (length w.chain - 1) names
walk_leaves known names root w is =
    let entries = way known (dir_of root.access) names in
    let count : length (root ∷ entries) - 1 ≡ length entries = omega arith in
    subst (λ (x : Walked). x.left ≡ drop (length x.chain - 1) names) (sym is)
    (left_is known (dir_of root.access) names ∙ ap (λ (n : ℕ). drop n names) (sym count))

pub old_leaves : (digest : List ℕ → Id) (root : Id) (looked : Looked) (known : List Known) (old new : Walked)
    → resolved digest root looked known ≡ comes.Leads old new → old.left ≡ drop (length old.chain - 1) looked.old
old_leaves digest root looked known old new is =
    let led = has_led digest root looked known old new is in
    walk_leaves known looked.old led.root old led.old_is

pub new_leaves : (digest : List ℕ → Id) (root : Id) (looked : Looked) (known : List Known) (old new : Walked)
    → resolved digest root looked known ≡ comes.Leads old new → new.left ≡ drop (length new.chain - 1) looked.new
new_leaves digest root looked known old new is =
    let led = has_led digest root looked known old new is in
    walk_leaves known looked.new led.root new led.new_is
