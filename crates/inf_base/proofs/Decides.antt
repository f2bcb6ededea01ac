-- The `==` of the base types tells exactly whether two values are equal.
use Rattle.std.proofs.Common.{◌≡◌, ℕ, false, List, Decides, rules, refl, ap}
use Rattle.std.proofs.lemmas.Bool.{false≢true}
use Rattle.std.proofs.lemmas.Bool.Decides.{Decides-like, Decides-and, Decides-eqb}
use Rattle.std.proofs.lemmas.Slice.Eq.{slice_eq-Decides}
use Rattle.std.specs.Cmp.Lexicographic.{pointwise}
use Rattle.inf_base.specs.declared.access.Access.{Access}
use Rattle.inf_base.specs.declared.caller.Caller.{Caller}
use Rattle.inf_base.specs.declared.caller.CallRef.{CallRef}
use Rattle.inf_base.specs.declared.directory.DirRef.{DirRef}
use Rattle.inf_base.specs.declared.directory.Home.{Home}
use Rattle.inf_base.specs.declared.entry.Entry.{Entry}
use Rattle.inf_base.specs.declared.errno.Errno.{Errno}
use Rattle.inf_base.specs.declared.file.FileMeta.{FileMeta}
use Rattle.inf_base.specs.declared.id.Id.{Id}
use Rattle.inf_base.specs.declared.item.Item.{Item}
use Rattle.inf_base.specs.declared.item.Kind.{Kind}
use Rattle.inf_base.specs.declared.key.Key.{Key}
use Rattle.inf_base.specs.declared.key.LookKey.{LookKey}
use Rattle.inf_base.specs.declared.triple.Triple.{Triple}
use Rattle.inf_base.specs.contracts.access.AccessPartialEq.TheImpl as access_eq
use Rattle.inf_base.specs.contracts.caller.CallerPartialEq.TheImpl as caller_eq
use Rattle.inf_base.specs.contracts.caller.CallRefPartialEq.TheImpl as call_eq
use Rattle.inf_base.specs.contracts.directory.DirRefPartialEq.TheImpl as directory_eq
use Rattle.inf_base.specs.contracts.directory.HomePartialEq.TheImpl as home_eq
use Rattle.inf_base.specs.contracts.entry.EntryPartialEq.TheImpl as entry_eq
use Rattle.inf_base.specs.contracts.errno.ErrnoPartialEq.TheImpl as errno_eq
use Rattle.inf_base.specs.contracts.file.FileMetaPartialEq.TheImpl as file_eq
use Rattle.inf_base.specs.contracts.id.IdPartialEq.TheImpl as id_eq
use Rattle.inf_base.specs.contracts.item.ItemPartialEq.TheImpl as item_eq
use Rattle.inf_base.specs.contracts.item.KindPartialEq.TheImpl as kind_eq
use Rattle.inf_base.specs.contracts.key.KeyPartialEq.TheImpl as key_eq
use Rattle.inf_base.specs.contracts.key.LookKeyPartialEq.TheImpl as look_key_eq
use Rattle.inf_base.specs.contracts.triple.TriplePartialEq.TheImpl as triple_eq

-- a test that answers false, of two values that differ
pub different : {P : Type 0} → (P → ⊥) → Decides false P
different unlike = (λ e. absurd (false≢true e), λ p. absurd (unlike p))

pub caller_decides : (a b : Caller) → Decides (caller_eq.eq-value.it a b) (a ≡ b)
caller_decides a b = search rules

pub call_decides : (a b : CallRef) → Decides (call_eq.eq-value.it a b) (a ≡ b)
call_decides a b = search rules

pub errno_decides : (a b : Errno) → Decides (errno_eq.eq-value.it a b) (a ≡ b)
errno_decides a b = search rules

pub file_decides : (a b : FileMeta) → Decides (file_eq.eq-value.it a b) (a ≡ b)
file_decides a b = search rules

pub kind_decides : (a b : Kind) → Decides (kind_eq.eq-value.it a b) (a ≡ b)
kind_decides a b = search rules

pub id_decides : (a b : Id) → Decides (id_eq.eq-value.it a b) (a ≡ b)
id_decides a b = search rules

pub directory_decides : (a b : DirRef) → Decides (directory_eq.eq-value.it a b) (a ≡ b)
directory_decides a b = search rules

pub home_decides : (a b : Home) → Decides (home_eq.eq-value.it a b) (a ≡ b)
home_decides a b = search rules

pub triple_decides : (a b : Triple) → Decides (triple_eq.eq-value.it a b) (a ≡ b)
triple_decides a b = search rules

pub key_decides : (a b : Key) → Decides (key_eq.eq-value.it a b) (a ≡ b)
key_decides a b = search rules

pub look_key_decides : (a b : LookKey) → Decides (look_key_eq.eq-value.it a b) (a ≡ b)
look_key_decides a b = search rules

pub access_decides : (a b : Access) → Decides (access_eq.eq-value.it a b) (a ≡ b)
access_decides a b = search rules

abbrev entry_of : Key → Access → ℕ → Entry
entry_of k x s = record { key = k; access = x; stamp = s }

same_entry : (k l : Key) (x y : Access) (s t : ℕ) → k ≡ l → x ≡ y → s ≡ t → entry_of k x s ≡ entry_of l y t
same_entry k l x y s t e f g = rw (e, f, g) refl

pub entry_decides : (a b : Entry) → Decides (entry_eq.eq-value.it a b) (a ≡ b)
entry_decides a b =
    Decides-like _
    (λ p. same_entry a.key b.key a.access b.access a.stamp b.stamp p.0 p.1.0 p.1.1)
    (λ e. (ap (λ (x : Entry). x.key) e, (ap (λ (x : Entry). x.access) e, ap (λ (x : Entry). x.stamp) e)))
    (Decides-and _ _ (key_decides a.key b.key) (Decides-and _ _ (access_decides a.access b.access) (Decides-eqb a.stamp b.stamp)))

pub item_decides : (a b : Item) → Decides (item_eq.eq-value.it a b) (a ≡ b)
item_decides a b = search rules

-- the chains of two requests, compared by their entries in turn
pub chain_decides : (a b : List Entry) → Decides (pointwise entry_eq.eq-value.it a b) (a ≡ b)
chain_decides a b = slice_eq-Decides entry_decides a b _ refl

-- two listings
pub items_decides : (a b : List Item) → Decides (pointwise item_eq.eq-value.it a b) (a ≡ b)
items_decides a b = slice_eq-Decides item_decides a b _ refl
