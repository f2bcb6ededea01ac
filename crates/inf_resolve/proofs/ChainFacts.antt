-- Chains are what was told along the names of their paths.
use Rattle.std.proofs.Common.{◌≡◌, ℕ, Bool, true, false, if◌then◌else◌, List, [], ◌∷◌, length, drop, Option, Some, None, is_some, refl, subst}
use Rattle.inf_base.specs.declared.access.Access.{Access}
use Rattle.inf_base.specs.declared.directory.DirRef.{DirRef}
use Rattle.inf_base.specs.declared.entry.Entry.{Entry}
use Rattle.inf_base.specs.declared.key.Key.{Key}
use Rattle.inf_base.specs.declared.key.LookKey.{LookKey}
use Rattle.inf_base.specs.declared.key.LookKey.TheVariants as look
use Rattle.inf_base.specs.Same.{dir_of}
use Rattle.inf_message.specs.declared.reply.Reply.{Reply}
use Rattle.inf_message.specs.declared.reply.Reply.TheVariants as reply
use Rattle.inf_resolve.specs.declared.known.Known.{Known}
use Rattle.inf_resolve.specs.Chain.{IsStop, IsTold, LeadsAlong}
use Rattle.inf_resolve.specs.Known.{entry_behind, links_to, told_at, told_entry, told_under}
use Rattle.inf_resolve.specs.Walk.{Halt, halt_of, halts, next_entry, on_entry, way}

abbrev pub known_of : LookKey → Reply → ℕ → Known
known_of asked given place = record { key = asked; reply = given; place = place }

no_entry : {P : Type 0} (e : Entry) → None ≡ Some e → P
no_entry e is = absurd cc

pub is_told_as : (known : List Known) (wanted asked : LookKey) (k : Key) (access : Access) (place : ℕ)
    → told_under wanted known ≡ Some (known_of asked (reply.Found k access) place)
    → IsTold known wanted (told_entry k access place)
is_told_as known wanted asked k access place at =
    record { told = known_of asked (reply.Found k access) place; is_known = at; is_found = refl; stamp = refl }

linked : (known : List Known) (wanted asked : LookKey) (dir : DirRef) (k : Key) (access : Access) (place : ℕ)
    (e : Entry) (b : Bool)
    → links_to dir k ≡ b → told_under wanted known ≡ Some (known_of asked (reply.Found k access) place)
    → (if b then Some (told_entry k access place) else None) ≡ Some e
    → IsTold known wanted e × (links_to dir e.key ≡ true)
linked known wanted asked dir k access place e true links at is =
    let same : told_entry k access place ≡ e = cc in
    subst (λ (x : Entry). IsTold known wanted x × (links_to dir x.key ≡ true)) same
    (is_told_as known wanted asked k access place at, links)
linked known wanted asked dir k access place e false links at is = no_entry e is

replied : (known : List Known) (wanted asked : LookKey) (dir : DirRef) (given : Reply) (place : ℕ) (e : Entry)
    → told_under wanted known ≡ Some (known_of asked given place)
    → entry_behind dir (Some (known_of asked given place)) ≡ Some e
    → IsTold known wanted e × (links_to dir e.key ≡ true)
replied known wanted asked dir (reply.Found k access) place e at is =
    linked known wanted asked dir k access place e (links_to dir k) refl at is
replied known wanted asked dir any_reply place e at is = no_entry e is

told : (known : List Known) (wanted : LookKey) (dir : DirRef) (e : Entry) (found : Option Known)
    → told_under wanted known ≡ found → entry_behind dir found ≡ Some e
    → IsTold known wanted e × (links_to dir e.key ≡ true)
told known wanted dir e None at is = no_entry e is
told known wanted dir e (Some x) at is = replied known wanted x.key dir x.reply x.place e at is

-- the entry of the next name was told, and links
pub next_is_told : (known : List Known) (dir : DirRef) (name : List ℕ) (e : Entry) → next_entry known dir name ≡ Some e
    → IsTold known (look.At dir.id name) e × (links_to dir e.key ≡ true)
next_is_told known dir name e is =
    told known (look.At dir.id name) dir e (told_under (look.At dir.id name) known) refl is

-- what was told of the name that a path halts at
abbrev pub IsToldAtHalt : List Known → Halt → Type 0
IsToldAtHalt known h =
    (name : List ℕ) (names : List (List ℕ)) → h.left ≡ name ∷ names → is_some (told_at known h.dir.id name) ≡ true

stops : (known : List Known) (dir : DirRef) (name : List ℕ) (found : Option Known) → told_at known dir.id name ≡ found
    → entry_behind dir found ≡ None → is_some found ≡ true → IsStop known dir name
stops known dir name None at is some = absurd cc
stops known dir name (Some x) at is some = record { told = x; is_known = at; no_entry = is }

step : (known : List Known) (dir : DirRef) (name : List ℕ) (names : List (List ℕ)) (next : Option Entry)
    → next_entry known dir name ≡ next
    → IsToldAtHalt known
    (on_entry next (halts dir (name ∷ names)) (λ (e : Entry). halt_of known (dir_of e.access) names))
    → ((d : DirRef) → IsToldAtHalt known (halt_of known d names) → LeadsAlong known d names (way known d names))
    → LeadsAlong known dir (name ∷ names) (on_entry next [] (λ (e : Entry). e ∷ way known (dir_of e.access) names))
step known dir name names None is at_halt rest =
    stops known dir name (told_at known dir.id name) refl is (at_halt name names refl)
step known dir name names (Some e) is at_halt rest =
    let link = next_is_told known dir name e is in
    (link.0, link.1, rest (dir_of e.access) at_halt)

pub way_leads : (known : List Known) (dir : DirRef) (names : List (List ℕ))
    → IsToldAtHalt known (halt_of known dir names)
    → LeadsAlong known dir names (way known dir names)
way_leads known dir [] at_halt = tt
way_leads known dir (name ∷ names) at_halt =
    step known dir name names (next_entry known dir name) refl at_halt (λ d. way_leads known d names)

left_at : (known : List Known) (dir : DirRef) (name : List ℕ) (names : List (List ℕ)) (next : Option Entry)
    → ((d : DirRef) → (halt_of known d names).left ≡ drop (length (way known d names)) names)
    → (on_entry next (halts dir (name ∷ names)) (λ (e : Entry). halt_of known (dir_of e.access) names)).left
    ≡ drop (length (on_entry next [] (λ (e : Entry). e ∷ way known (dir_of e.access) names))) (name ∷ names)
left_at known dir name names None rest = refl
left_at known dir name names (Some e) rest = rest (dir_of e.access)

-- as many names are gone as there are entries
pub left_is : (known : List Known) (dir : DirRef) (names : List (List ℕ))
    → (halt_of known dir names).left ≡ drop (length (way known dir names)) names
left_is known dir [] = refl
left_is known dir (name ∷ names) =
    left_at known dir name names (next_entry known dir name) (λ d. left_is known d names)
