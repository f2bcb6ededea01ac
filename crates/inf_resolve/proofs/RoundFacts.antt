-- A further round leads further.
use Rattle.std.proofs.Common.{◌≡◌, ℕ, suc, ◌<◌, ◌≤◌, ◌||◌, Bool, true, false, if◌then◌else◌, List, [], ◌∷◌, ◌++◌, length, Option, Some, None, is_some, refl, sym, ap, subst, ◌∙◌, arith}
use Rattle.std.specs.List.{fold}
use Rattle.std.proofs.lemmas.Bool.{or_left, or_right}
use Rattle.std.proofs.lemmas.List.Folds.{list_any-append}
use Rattle.inf_base.specs.declared.directory.DirRef.{DirRef}
use Rattle.inf_base.specs.declared.entry.Entry.{Entry}
use Rattle.inf_base.specs.declared.id.Id.{Id}
use Rattle.inf_base.specs.declared.key.LookKey.{LookKey}
use Rattle.inf_base.specs.declared.key.LookKey.TheVariants as look
use Rattle.inf_base.specs.Same.{dir_of}
use Rattle.inf_resolve.specs.declared.known.Known.{Known}
use Rattle.inf_resolve.specs.Keys.{is_among, keys_at, keys_from, to_ask, unless_told, with_key}
use Rattle.inf_resolve.specs.Known.{entry_behind, is_same_key, told_at, told_under}
use Rattle.inf_resolve.specs.Rounds.{IsAnswered}
use Rattle.inf_resolve.specs.Walk.{Halt, halt_of, halts, next_entry, on_entry}
use Rattle.inf_resolve.proofs.KnownFacts.{same_key_self}

-- ---- an unknown key is among those that are to be asked

among_last : (k : LookKey) (keys : List LookKey) → is_among k (keys ++ k ∷ []) ≡ true
among_last k keys =
    list_any-append (is_same_key k) keys (k ∷ [])
    ∙ or_right (is_among k keys) _ (or_left (is_same_key k k) false (same_key_self k))

among_more : (k other : LookKey) (keys : List LookKey) → is_among k keys ≡ true
    → is_among k (keys ++ other ∷ []) ≡ true
among_more k other keys is = list_any-append (is_same_key k) keys (other ∷ []) ∙ or_left (is_among k keys) _ is

kept : (k other : LookKey) (keys : List LookKey) (skips : Bool) → is_among k keys ≡ true
    → is_among k (if skips then keys else keys ++ other ∷ []) ≡ true
kept k other keys true is = is
kept k other keys false is = among_more k other keys is

stays_among : (known : List Known) (k : LookKey) (keys more : List LookKey) → is_among k keys ≡ true
    → is_among k (fold (with_key known) keys more) ≡ true
stays_among known k keys [] is = is
stays_among known k keys (x ∷ more) is =
    stays_among known k (with_key known keys x) more
    (kept k x keys (is_some (told_under x known) || is_among x keys) is)

taken : (k : LookKey) (keys : List LookKey) (is_known is_there : Bool) → is_known ≡ false → is_among k keys ≡ is_there
    → is_among k (if is_known || is_there then keys else keys ++ k ∷ []) ≡ true
taken k keys true there unknown is = cc
taken k keys false true unknown is = is
taken k keys false false unknown is = among_last k keys

pub unknown_asked : (known : List Known) (k : LookKey) (keys before behind : List LookKey)
    → is_some (told_under k known) ≡ false
    → is_among k (fold (with_key known) keys (before ++ k ∷ behind)) ≡ true
unknown_asked known k keys [] behind unknown =
    stays_among known k (with_key known keys k) behind
    (taken k keys (is_some (told_under k known)) (is_among k keys) unknown refl)
unknown_asked known k keys (x ∷ before) behind unknown =
    unknown_asked known k (with_key known keys x) before behind unknown

-- the first key that a path needs is asked
pub first_asked : (digest : List ℕ → Id) (known : List Known) (dir : DirRef) (left : List (List ℕ)) (name : List ℕ)
    (rest : List (List ℕ))
    → left ≡ name ∷ rest → told_at known dir.id name ≡ None → (before behind : List LookKey)
    → is_among (look.At dir.id name) (to_ask known (before ++ (keys_at digest known (halts dir left) ++ behind)))
    ≡ true
first_asked digest known dir left name rest left_is unknown before behind =
    let first = keys_from digest known dir.id (name ∷ rest) in
    let keys_are : keys_at digest known (halts dir (name ∷ rest)) ≡ first =
    ap (λ (t : Option Known). unless_told t first) unknown in
    subst (λ (l : List (List ℕ)). is_among (look.At dir.id name)
    (to_ask known (before ++ (keys_at digest known (halts dir l) ++ behind))) ≡ true) (sym left_is)
    (subst (λ (ks : List LookKey). is_among (look.At dir.id name) (to_ask known (before ++ (ks ++ behind))) ≡ true)
    (sym keys_are)
    (unknown_asked known (look.At dir.id name) [] before _ (ap is_some unknown)))

told_case : (digest : List ℕ → Id) (known : List Known) (dir : DirRef) (left : List (List ℕ)) (name : List ℕ)
    (rest : List (List ℕ)) (found : Option Known)
    → told_at known dir.id name ≡ found → left ≡ name ∷ rest → (before behind : List LookKey)
    → to_ask known (before ++ (keys_at digest known (halts dir left) ++ behind)) ≡ [] → is_some found ≡ true
told_case digest known dir left name rest (Some x) at left_is before behind none = refl
told_case digest known dir left name rest None at left_is before behind none =
    let clash : false ≡ true =
    sym (ap (is_among (look.At dir.id name)) none)
    ∙ first_asked digest known dir left name rest left_is at before behind in
    absurd cc

-- where nothing is asked, the name that a path halts at was told
pub told_at_halt : (digest : List ℕ → Id) (known : List Known) (h : Halt) (before behind : List LookKey)
    → to_ask known (before ++ (keys_at digest known h ++ behind)) ≡ []
    → (name : List ℕ) (rest : List (List ℕ)) → h.left ≡ name ∷ rest → is_some (told_at known h.dir.id name) ≡ true
told_at_halt digest known h before behind none name rest left_is =
    told_case digest known h.dir h.left name rest (told_at known h.dir.id name) refl left_is before behind none

-- ---- what is told later leads from where a path halted

module _ (known later : List Known)
    (stays : (k : LookKey) (told : Known) → told_under k known ≡ Some told → told_under k later ≡ Some told) where
  told_stays : (dir : DirRef) (name : List ℕ) (e : Entry) (found : Option Known) → told_at known dir.id name ≡ found
      → entry_behind dir found ≡ Some e → next_entry later dir name ≡ Some e
  told_stays dir name e None at is = absurd cc
  told_stays dir name e (Some x) at is = ap (entry_behind dir) (stays (look.At dir.id name) x at) ∙ is

  resumes_at : (dir : DirRef) (name : List ℕ) (names : List (List ℕ)) (next : Option Entry)
      → next_entry known dir name ≡ next
      → ((d : DirRef) → halt_of later d names ≡ halt_of later (halt_of known d names).dir (halt_of known d names).left)
      → halt_of later dir (name ∷ names)
      ≡ halt_of later
      (on_entry next (halts dir (name ∷ names)) (λ (e : Entry). halt_of known (dir_of e.access) names)).dir
      (on_entry next (halts dir (name ∷ names)) (λ (e : Entry). halt_of known (dir_of e.access) names)).left
  resumes_at dir name names None is rest = refl
  resumes_at dir name names (Some e) is rest =
      ap (λ (next : Option Entry). on_entry next (halts dir (name ∷ names))
      (λ (e : Entry). halt_of later (dir_of e.access) names))
      (told_stays dir name e (told_at known dir.id name) refl is)
      ∙ rest (dir_of e.access)

  resumes : (dir : DirRef) (names : List (List ℕ))
      → halt_of later dir names ≡ halt_of later (halt_of known dir names).dir (halt_of known dir names).left
  resumes dir [] = refl
  resumes dir (name ∷ names) = resumes_at dir name names (next_entry known dir name) refl (λ d. resumes d names)

shorter : (known : List Known) (dir : DirRef) (name : List ℕ) (names : List (List ℕ)) (next : Option Entry)
    → ((d : DirRef) → length (halt_of known d names).left ≤ length names)
    → length (on_entry next (halts dir (name ∷ names))
    (λ (e : Entry). halt_of known (dir_of e.access) names)).left ≤ suc (length names)
shorter known dir name names None rest = omega arith
shorter known dir name names (Some e) rest = omega (arith, rest (dir_of e.access))

no_longer : (known : List Known) (dir : DirRef) (names : List (List ℕ))
    → length (halt_of known dir names).left ≤ length names
no_longer known dir [] = omega arith
no_longer known dir (name ∷ names) =
    shorter known dir name names (next_entry known dir name) (λ d. no_longer known d names)

-- what is told later leaves no more names
pub no_further : (known later : List Known)
    → ((k : LookKey) (told : Known) → told_under k known ≡ Some told → told_under k later ≡ Some told)
    → (root : DirRef) (names : List (List ℕ))
    → length (halt_of later root names).left ≤ length (halt_of known root names).left
no_further known later stays root names =
    let h = halt_of known root names in
    subst (λ (x : Halt). length x.left ≤ length h.left) (sym (resumes known later stays root names))
    (no_longer later h.dir h.left)

-- ---- a path that needs keys once more has come further

module _ (digest : List ℕ → Id) (known later : List Known) (keys : List LookKey)
    (answered : IsAnswered known keys later) where
  none_left : {P : Type 0} (dir : DirRef) (name : List ℕ) (found : Option Known) → told_at known dir.id name ≡ found
      → told_at later dir.id name ≡ None
      → (told_at known dir.id name ≡ None → is_among (look.At dir.id name) keys ≡ true) → P
  none_left dir name (Some x) at open_later asked =
      let clash : Some x ≡ None = sym (answered.stays (look.At dir.id name) x at) ∙ open_later in
      absurd cc
  none_left dir name None at open_later asked =
      let is_told = answered.told (look.At dir.id name) (asked at) in
      let clash : false ≡ true = sym (ap is_some open_later) ∙ is_told in
      absurd cc

  -- the name that it halts at was asked
  needs : {P : Type 0} (dir : DirRef) (name : List ℕ) (all : List LookKey) (k : LookKey) (ks : List LookKey)
      (found : Option Known)
      → told_at later dir.id name ≡ found → unless_told found all ≡ k ∷ ks
      → (told_at known dir.id name ≡ None → is_among (look.At dir.id name) keys ≡ true) → P
  needs dir name all k ks (Some x) at is asked = absurd cc
  needs dir name all k ks None at is asked = none_left dir name (told_at known dir.id name) refl at asked

  further : (dir : DirRef) (name : List ℕ) (names : List (List ℕ)) (k : LookKey) (ks : List LookKey)
      (next : Option Entry)
      → keys_at digest later
      (on_entry next (halts dir (name ∷ names)) (λ (e : Entry). halt_of later (dir_of e.access) names)) ≡ k ∷ ks
      → (told_at known dir.id name ≡ None → is_among (look.At dir.id name) keys ≡ true)
      → length (on_entry next (halts dir (name ∷ names))
      (λ (e : Entry). halt_of later (dir_of e.access) names)).left < suc (length names)
  further dir name names k ks None is asked =
      needs dir name (keys_from digest later dir.id (name ∷ names)) k ks (told_at later dir.id name) refl is asked
  further dir name names k ks (Some e) is asked = omega (arith, no_longer later (dir_of e.access) names)

  leads_on : (dir : DirRef) (left : List (List ℕ)) (k : LookKey) (ks : List LookKey)
      → keys_at digest later (halt_of later dir left) ≡ k ∷ ks
      → ((name : List ℕ) (names : List (List ℕ)) → left ≡ name ∷ names
      → told_at known dir.id name ≡ None → is_among (look.At dir.id name) keys ≡ true)
      → length (halt_of later dir left).left < length left
  leads_on dir [] k ks is asked = absurd cc
  leads_on dir (name ∷ names) k ks is asked =
      further dir name names k ks (next_entry later dir name) is (asked name names refl)

  pub path_leads_on : (root : DirRef) (names : List (List ℕ)) (k : LookKey) (ks before behind : List LookKey)
      → keys ≡ to_ask known (before ++ (keys_at digest known (halt_of known root names) ++ behind))
      → keys_at digest later (halt_of later root names) ≡ k ∷ ks
      → length (halt_of later root names).left < length (halt_of known root names).left
  path_leads_on root names k ks before behind keys_are is =
      let h = halt_of known root names in
      let goes = resumes known later answered.stays root names in
      subst (λ (x : Halt). length x.left < length h.left) (sym goes)
      (leads_on h.dir h.left k ks (subst (λ (x : Halt). keys_at digest later x ≡ k ∷ ks) goes is)
      (λ name rest left_is unknown. subst
      (λ (asked : List LookKey). is_among (look.At h.dir.id name) asked ≡ true) (sym keys_are)
      (first_asked digest known h.dir h.left name rest left_is unknown before behind)))
