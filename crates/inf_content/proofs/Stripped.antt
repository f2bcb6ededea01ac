-- The slots of a directory, with and without the copies of their names.
use Rattle.std.proofs.Common.{◌≡◌, ℕ, Bool, true, false, cond, List, [], ◌∷◌, Option, Some, length, refl, sym, ap, ◌∙◌, arith}
use Rattle.std.specs.BTreeMap.{insert_entry, is_at}
use Rattle.std.specs.Map.{keys_of, lookup, remove_entry, set_value}
use Rattle.std.specs.Option.{option_map}
use Rattle.std.specs.Ordering.{match_ordering}
use Rattle.std.specs.declared.cmp.Ordering.{Ordering}
use Rattle.std.specs.declared.cmp.Ordering.TheVariants.{Less, Equal, Greater}
use Rattle.inf_base.specs.Content.{Slot}
use Rattle.inf_content.specs.declared.named.Named.{Named}
use Rattle.inf_content.specs.Named.{slots_of}
use Rattle.inf_content.specs.Slots.{slot_in}
use Rattle.inf_content.proofs.Listed.{name_cmp}

abbrev pub slot_only : Named → Slot
slot_only named = named.kept

pub keys_of-slots_of : (es : List (List ℕ × Named)) → keys_of (slots_of es) ≡ keys_of es
keys_of-slots_of [] = refl
keys_of-slots_of (e ∷ es) = ap (λ ks. e.0 ∷ ks) (keys_of-slots_of es)

pub length-slots_of : (es : List (List ℕ × Named)) → length (slots_of es) ≡ length es
length-slots_of [] = refl
length-slots_of (e ∷ es) = omega (arith, length-slots_of es)

pub lookup-slots_of : (test : List ℕ → Bool) (es : List (List ℕ × Named)) → lookup test (slots_of es) ≡ option_map slot_only (lookup test es)
lookup-slots_of test [] = refl
lookup-slots_of test (e ∷ es) = by (test e.0) (lookup-slots_of test es)
  where
    by : (b : Bool) → lookup test (slots_of es) ≡ option_map slot_only (lookup test es)
        → cond b (Some e.1.kept) (lookup test (slots_of es)) ≡ option_map slot_only (cond b (Some e.1) (lookup test es))
    by true later = refl
    by false later = later

pub slots_of-set_value : (test : List ℕ → Bool) (es : List (List ℕ × Named)) (w : Named)
    → slots_of (set_value test es w) ≡ set_value test (slots_of es) w.kept
slots_of-set_value test [] w = refl
slots_of-set_value test (e ∷ es) w = by (test e.0) (slots_of-set_value test es w)
  where
    by : (b : Bool) → slots_of (set_value test es w) ≡ set_value test (slots_of es) w.kept
        → slots_of (cond b ((e.0, w) ∷ es) (e ∷ set_value test es w))
        ≡ cond b ((e.0, w.kept) ∷ slots_of es) ((e.0, e.1.kept) ∷ set_value test (slots_of es) w.kept)
    by true later = refl
    by false later = ap (λ xs. (e.0, e.1.kept) ∷ xs) later

pub slots_of-remove_entry : (test : List ℕ → Bool) (es : List (List ℕ × Named)) → slots_of (remove_entry test es) ≡ remove_entry test (slots_of es)
slots_of-remove_entry test [] = refl
slots_of-remove_entry test (e ∷ es) = by (test e.0) (slots_of-remove_entry test es)
  where
    by : (b : Bool) → slots_of (remove_entry test es) ≡ remove_entry test (slots_of es)
        → slots_of (cond b es (e ∷ remove_entry test es)) ≡ cond b (slots_of es) ((e.0, e.1.kept) ∷ remove_entry test (slots_of es))
    by true later = refl
    by false later = ap (λ xs. (e.0, e.1.kept) ∷ xs) later

pub slots_of-insert_entry : (es : List (List ℕ × Named)) (name : List ℕ) (w : Named)
    → slots_of (insert_entry name_cmp es name w) ≡ insert_entry name_cmp (slots_of es) name w.kept
slots_of-insert_entry [] name w = refl
slots_of-insert_entry (e ∷ es) name w = by (name_cmp name e.0) (slots_of-insert_entry es name w)
  where
    by : (o : Ordering) → slots_of (insert_entry name_cmp es name w) ≡ insert_entry name_cmp (slots_of es) name w.kept
        → slots_of (match_ordering o ((name, w) ∷ e ∷ es) ((e.0, w) ∷ es) (e ∷ insert_entry name_cmp es name w))
        ≡ match_ordering o ((name, w.kept) ∷ (e.0, e.1.kept) ∷ slots_of es) ((e.0, w.kept) ∷ slots_of es) ((e.0, e.1.kept) ∷ insert_entry name_cmp (slots_of es) name w.kept)
    by Less later = refl
    by Equal later = refl
    by Greater later = ap (λ xs. (e.0, e.1.kept) ∷ xs) later

-- what the map finds under a name
pub slot_found : (name : List ℕ) (es : List (List ℕ × Named)) (found : Option Named) → found ≡ lookup (is_at (name_cmp name)) es
    → slot_in name (slots_of es) ≡ option_map slot_only found
slot_found name es found is = lookup-slots_of (is_at (name_cmp name)) es ∙ ap (option_map slot_only) (sym is)
