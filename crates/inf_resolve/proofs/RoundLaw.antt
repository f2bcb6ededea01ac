-- Behind the root, each further round leads further along one of the paths.
use Rattle.std.proofs.Common.{◌≡◌, ℕ, ◌<◌, List, [], ◌∷◌, ◌++◌, refl, sym, ap, ◌∙◌, arith}
use Rattle.std.specs.Option.{option_or}
use Rattle.std.proofs.lemmas.List.{append-nil}
use Rattle.inf_base.specs.declared.directory.DirRef.{DirRef}
use Rattle.inf_base.specs.declared.entry.Entry.{Entry}
use Rattle.inf_base.specs.declared.id.Id.{Id}
use Rattle.inf_base.specs.declared.key.LookKey.{LookKey}
use Rattle.inf_base.specs.declared.key.LookKey.TheVariants as look
use Rattle.inf_base.specs.Same.{dir_of}
use Rattle.inf_resolve.specs.declared.known.Known.{Known}
use Rattle.inf_resolve.specs.declared.looked.Looked.{Looked}
use Rattle.inf_resolve.specs.declared.resolved.Resolved.TheVariants as comes
use Rattle.inf_resolve.specs.Chain.{IsTold}
use Rattle.inf_resolve.specs.Keys.{keys_at, to_ask}
use Rattle.inf_resolve.specs.Known.{told_entry}
use Rattle.inf_resolve.specs.Resolved.{by_root, by_told, resolved}
use Rattle.inf_resolve.specs.Rounds.{IsAnswered, names_left}
use Rattle.inf_resolve.specs.Walk.{busy_at, halt_of, walk}
use Rattle.inf_resolve.proofs.AskedFacts.{AreAsked, asked_unless_busy}
use Rattle.inf_resolve.proofs.RoundFacts.{no_further, path_leads_on}

abbrev all_keys : (List ℕ → Id) → Looked → List Known → DirRef → List LookKey
all_keys digest looked known root =
    to_ask known
    (keys_at digest known (halt_of known root looked.old) ++ keys_at digest known (halt_of known root looked.new))

behind : (digest : List ℕ → Id) (id : Id) (looked : Looked) (known : List Known) (root : Entry)
    (keys : List LookKey) → IsTold known look.Top root
    → resolved digest id looked known ≡ comes.Asks keys
    → AreAsked (all_keys digest looked known (dir_of root.access)) keys
behind digest id looked known root keys top is =
    let told_is =
    ap (by_told digest id looked known) top.is_known ∙ ap (by_root digest looked known top.told.place) top.is_found in
    let entry = told_entry root.key root.access top.told.place in
    asked_unless_busy (option_or (busy_at known (halt_of known (dir_of root.access) looked.old))
    (busy_at known (halt_of known (dir_of root.access) looked.new)))
    (all_keys digest looked known (dir_of root.access)) (walk known entry looked.old)
    (walk known entry looked.new) keys (sym told_is ∙ is)

still_told : (known later : List Known) (keys : List LookKey) (root : Entry) → IsAnswered known keys later
    → IsTold known look.Top root → IsTold later look.Top root
still_told known later keys root answered top =
    let stays = answered.stays look.Top top.told top.is_known in
    record { told = top.told; is_known = stays; is_found = top.is_found; stamp = top.stamp }

module _ (digest : List ℕ → Id) (looked : Looked) (known later : List Known) (keys : List LookKey)
    (answered : IsAnswered known keys later) (root : DirRef)
    (keys_are : keys ≡ all_keys digest looked known root) where
  one_leads_on : (old new : List LookKey) (k : LookKey) (ks : List LookKey)
      → keys_at digest later (halt_of later root looked.old) ≡ old
      → keys_at digest later (halt_of later root looked.new) ≡ new → to_ask later (old ++ new) ≡ k ∷ ks
      → names_left root looked later < names_left root looked known
  one_leads_on (o ∷ os) new k ks old_is new_is is =
      let less = path_leads_on digest known later keys answered root looked.old o os []
      (keys_at digest known (halt_of known root looked.new)) keys_are old_is in
      let least = no_further known later answered.stays root looked.new in
      omega (arith, less, least)
  one_leads_on [] (n ∷ ns) k ks old_is new_is is =
      let new_keys = keys_at digest known (halt_of known root looked.new) in
      let old_keys = keys_at digest known (halt_of known root looked.old) in
      let same : keys ≡ to_ask known (old_keys ++ (new_keys ++ [])) =
      keys_are ∙ ap (λ (x : List LookKey). to_ask known (old_keys ++ x)) (sym (append-nil new_keys)) in
      let less = path_leads_on digest known later keys answered root looked.new n ns old_keys [] same new_is in
      let least = no_further known later answered.stays root looked.old in
      omega (arith, less, least)
  one_leads_on [] [] k ks old_is new_is is = absurd cc

pub rounds_lead_on : (digest : List ℕ → Id) (id : Id) (looked : Looked) (known later : List Known) (root : Entry)
    (keys more : List LookKey)
    → IsTold known look.Top root → resolved digest id looked known ≡ comes.Asks keys → IsAnswered known keys later
    → resolved digest id looked later ≡ comes.Asks more
    → names_left (dir_of root.access) looked later < names_left (dir_of root.access) looked known
rounds_lead_on digest id looked known later root keys more top is answered then =
    let now = behind digest id looked known root keys top is in
    let next = behind digest id looked later root more (still_told known later keys root answered top) then in
    one_leads_on digest looked known later keys answered (dir_of root.access) now.same
    (keys_at digest later (halt_of later (dir_of root.access) looked.old))
    (keys_at digest later (halt_of later (dir_of root.access) looked.new))
    next.first next.others refl refl next.some
