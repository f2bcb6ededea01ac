-- A change that is in the way was told: of the root, or in a directory that was told.
use Rattle.std.proofs.Common.{◌≡◌, ℕ, ◌==◌, Bool, true, false, if◌then◌else◌, List, [], ◌∷◌, ◌++◌, Option, Some, None, inl, inr, refl, ap, ◌∙◌}
use Rattle.std.specs.Option.{option_or}
use Rattle.std.proofs.lemmas.Bool.Decides.{Decides-eqb}
use Rattle.inf_base.specs.declared.caller.CallRef.{CallRef}
use Rattle.inf_base.specs.declared.directory.DirRef.{DirRef}
use Rattle.inf_base.specs.declared.entry.Entry.{Entry}
use Rattle.inf_base.specs.declared.id.Id.{Id}
use Rattle.inf_base.specs.declared.key.LookKey.{LookKey}
use Rattle.inf_base.specs.declared.key.LookKey.TheVariants as look
use Rattle.inf_base.specs.Same.{dir_of}
use Rattle.inf_message.specs.declared.reply.Reply.{Reply}
use Rattle.inf_message.specs.declared.reply.Reply.TheVariants as reply
use Rattle.inf_message.specs.declared.reply.Spot.{Spot}
use Rattle.inf_resolve.specs.declared.known.Known.{Known}
use Rattle.inf_resolve.specs.declared.looked.Looked.{Looked}
use Rattle.inf_resolve.specs.declared.resolved.Resolved.TheVariants as comes
use Rattle.inf_resolve.specs.declared.walked.Walked.{Walked}
use Rattle.inf_resolve.specs.Chain.{IsTold}
use Rattle.inf_resolve.specs.InTheWay.{IsBusyInside, IsInTheWay, IsToldBusy, IsToldDir}
use Rattle.inf_resolve.specs.Keys.{keys_at, to_ask}
use Rattle.inf_resolve.specs.Known.{busy_behind, told_at, told_entry, told_under}
use Rattle.inf_resolve.specs.Resolved.{behind_root, by_root, by_told, resolved, unless_asked, unless_busy}
use Rattle.inf_resolve.specs.Walk.{busy_at, halt_of, halts, next_entry, on_entry, walk}
use Rattle.inf_resolve.proofs.ChainFacts.{is_told_as, known_of, next_is_told}

told_dir : (known : List Known) (asked : LookKey) (e : Entry) → IsTold known asked e
    → IsToldDir known (dir_of e.access)
told_dir known asked e is = record {
  asked = asked;
  told = is.told;
  is_known = is.is_known;
  key = e.key;
  access = e.access;
  is_found = is.is_found;
  same = refl;
}

-- ---- the directory that a path halts in was told

halts_in : (known : List Known) (dir : DirRef) (name : List ℕ) (names : List (List ℕ)) (next : Option Entry)
    → next_entry known dir name ≡ next → IsToldDir known dir
    → ((d : DirRef) → IsToldDir known d → IsToldDir known (halt_of known d names).dir)
    → IsToldDir known
    (on_entry next (halts dir (name ∷ names)) (λ (e : Entry). halt_of known (dir_of e.access) names)).dir
halts_in known dir name names None is told rest = told
halts_in known dir name names (Some e) is told rest =
    rest (dir_of e.access) (told_dir known (look.At dir.id name) e (next_is_told known dir name e is).0)

halt_is_told : (known : List Known) (dir : DirRef) (names : List (List ℕ)) → IsToldDir known dir
    → IsToldDir known (halt_of known dir names).dir
halt_is_told known dir [] told = told
halt_is_told known dir (name ∷ names) told =
    halts_in known dir name names (next_entry known dir name) refl told (λ d. halt_is_told known d names)

-- ---- what is busy there was told of its birth

abbrev if_counts : Bool → CallRef × ℕ → Option (CallRef × ℕ)
if_counts counts change = if counts then Some change else None

told_busy_of : (known : List Known) (wanted asked : LookKey) (other by : CallRef) (at : Spot)
    (born of_dir from place : ℕ) (counts : Bool) → (born == of_dir) ≡ counts
    → told_under wanted known ≡ Some (known_of asked (reply.Busy other at born) from)
    → if_counts counts (other, from) ≡ Some (by, place) → IsToldBusy known wanted by of_dir place
told_busy_of known wanted asked other by at born of_dir from place true counts there is =
    let same : (other, from) ≡ (by, place) = cc in
    record {
      told = known_of asked (reply.Busy other at born) from;
      is_known = there;
      at = at;
      is_busy =
          ap (λ (call : CallRef). reply.Busy call at born) (ap (λ (p : CallRef × ℕ). p.0) same)
          ∙ ap (λ (b : ℕ). reply.Busy by at b) ((Decides-eqb born of_dir).0 counts);
      is_place = ap (λ (p : CallRef × ℕ). p.1) same;
    }
told_busy_of known wanted asked other by at born of_dir from place false counts there is = absurd cc

told_busy_by : (known : List Known) (wanted asked : LookKey) (dir : DirRef) (by : CallRef) (given : Reply)
    (from place : ℕ) → told_under wanted known ≡ Some (known_of asked given from)
    → busy_behind dir (Some (known_of asked given from)) ≡ Some (by, place) → IsToldBusy known wanted by dir.born place
told_busy_by known wanted asked dir by (reply.Busy other at born) from place there is =
    told_busy_of known wanted asked other by at born dir.born from place (born == dir.born) refl there is
told_busy_by known wanted asked dir by any_reply from place there is = absurd cc

told_busy : (known : List Known) (wanted : LookKey) (dir : DirRef) (by : CallRef) (place : ℕ) (found : Option Known)
    → told_under wanted known ≡ found → busy_behind dir found ≡ Some (by, place)
    → IsToldBusy known wanted by dir.born place
told_busy known wanted dir by place None there is = absurd cc
told_busy known wanted dir by place (Some x) there is =
    told_busy_by known wanted x.key dir by x.reply x.place place there is

busy_left : (known : List Known) (dir : DirRef) (left : List (List ℕ)) (by : CallRef) (place : ℕ)
    → IsToldDir known dir → busy_at known (halts dir left) ≡ Some (by, place) → IsBusyInside known by place
busy_left known dir [] by place told is = absurd cc
busy_left known dir (name ∷ names) by place told is =
    let busy = told_busy known (look.At dir.id name) dir by place (told_at known dir.id name) refl is in
    record { dir = dir; name = name; busy = busy; is_told = told }

-- ---- the change that decides is one where a path halts

one_of_both : (known : List Known) (by : CallRef) (place : ℕ) (old new : Option (CallRef × ℕ))
    → (old ≡ Some (by, place) → IsBusyInside known by place) → (new ≡ Some (by, place) → IsBusyInside known by place)
    → option_or old new ≡ Some (by, place) → IsBusyInside known by place
one_of_both known by place None new of_old of_new is = of_new is
one_of_both known by place (Some busy) new of_old of_new is = of_old is

-- whatever else were to come, only a change in the way is told as one
not_asked : {P : Type 0} (keys : List LookKey) (old new : Walked) (by : CallRef) (place : ℕ)
    → unless_asked keys (comes.Leads old new) ≡ comes.IsBusy by place → P
not_asked [] old new by place is = absurd cc
not_asked (k ∷ keys) old new by place is = absurd cc

is_busy : (busy : Option (CallRef × ℕ)) (keys : List LookKey) (old new : Walked) (by : CallRef) (place : ℕ)
    → unless_busy busy (unless_asked keys (comes.Leads old new)) ≡ comes.IsBusy by place → busy ≡ Some (by, place)
is_busy None keys old new by place is = not_asked keys old new by place is
is_busy (Some (other, from)) keys old new by place is =
    let call : other ≡ by = cc in
    let same : from ≡ place = cc in
    ap (λ (c : CallRef). Some (c, from)) call ∙ ap (λ (p : ℕ). Some (by, p)) same

behind : (digest : List ℕ → Id) (looked : Looked) (known : List Known) (root : Entry) (by : CallRef) (place : ℕ)
    → IsTold known look.Top root → behind_root digest looked known root ≡ comes.IsBusy by place
    → IsBusyInside known by place
behind digest looked known root by place top is =
    let dir = dir_of root.access in
    let old = halt_of known dir looked.old in
    let new = halt_of known dir looked.new in
    let told = told_dir known look.Top root top in
    one_of_both known by place (busy_at known old) (busy_at known new)
    (busy_left known old.dir old.left by place (halt_is_told known dir looked.old told))
    (busy_left known new.dir new.left by place (halt_is_told known dir looked.new told))
    (is_busy (option_or (busy_at known old) (busy_at known new))
    (to_ask known (keys_at digest known old ++ keys_at digest known new))
    (walk known root looked.old) (walk known root looked.new) by place is)

at_root : (digest : List ℕ → Id) (looked : Looked) (known : List Known) (asked : LookKey) (given : Reply)
    (from : ℕ) (by : CallRef) (place : ℕ) → told_under look.Top known ≡ Some (known_of asked given from)
    → by_root digest looked known from given ≡ comes.IsBusy by place → IsInTheWay known by place
at_root digest looked known asked (reply.Found k access) from by place there is =
    inr (behind digest looked known (told_entry k access from) by place
    (is_told_as known look.Top asked k access from there) is)
at_root digest looked known asked (reply.Busy other at born) from by place there is =
    let call : other ≡ by = cc in
    let same : from ≡ place = cc in
    let told = known_of asked (reply.Busy other at born) from in
    let busy : IsToldBusy known look.Top by born place = record {
      told = told;
      is_known = there;
      at = at;
      is_busy = ap (λ (c : CallRef). reply.Busy c at born) call;
      is_place = same;
    } in
    inl (record { born = born; busy = busy })
at_root digest looked known asked any_reply from by place there is = absurd cc

by_what_was_told : (digest : List ℕ → Id) (root : Id) (looked : Looked) (known : List Known) (by : CallRef) (place : ℕ)
    (found : Option Known) → told_under look.Top known ≡ found
    → by_told digest root looked known found ≡ comes.IsBusy by place → IsInTheWay known by place
by_what_was_told digest root looked known by place None there is = absurd cc
by_what_was_told digest root looked known by place (Some x) there is =
    at_root digest looked known x.key x.reply x.place by place there is

pub change_was_told : (digest : List ℕ → Id) (root : Id) (looked : Looked) (known : List Known) (by : CallRef)
    (place : ℕ) → resolved digest root looked known ≡ comes.IsBusy by place → IsInTheWay known by place
change_was_told digest root looked known by place is =
    by_what_was_told digest root looked known by place (told_under look.Top known) refl is
