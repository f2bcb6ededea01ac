-- The files of the root, as the map keeps them and as the plain tree shows them.
use Rattle.std.proofs.Common.{◌≡◌, ℕ, Bool, true, false, cond, List, [], ◌∷◌, Some, refl, ap}
use Rattle.std.specs.BTreeMap.{insert_entry, is_at}
use Rattle.std.specs.Cmp.Lexicographic.{slice_cmp}
use Rattle.std.specs.Map.{lookup}
use Rattle.std.specs.Option.{option_map}
use Rattle.std.specs.Ordering.{nat_cmp, match_ordering}
use Rattle.std.specs.Str.{bytes_eq}
use Rattle.std.specs.declared.cmp.Ordering.{Ordering}
use Rattle.std.specs.declared.cmp.Ordering.TheVariants.{Less, Equal, Greater}
use Rattle.std.proofs.lemmas.Map.Text.{is_eq-slice_cmp}
use Rattle.inf_base.specs.declared.file.FileMeta.{FileMeta}
use Rattle.inf_tree.specs.Flat.{entries_of}
use Rattle.inf_tree.specs.Tree.{Entries, file, entry, found, placed}

pub found-entries_of : (name : List ℕ) (files : List (List ℕ × FileMeta)) → found name (entries_of files) ≡ option_map file (lookup (is_at (slice_cmp nat_cmp name)) files)
found-entries_of name [] = refl
found-entries_of name (f ∷ files) = rw (is_eq-slice_cmp name f.0) (by (bytes_eq name f.0) (found-entries_of name files))
  where
    by : (b : Bool) → found name (entries_of files) ≡ option_map file (lookup (is_at (slice_cmp nat_cmp name)) files) → cond b (Some (file f.1)) (found name (entries_of files)) ≡ option_map file (cond b (Some f.1) (lookup (is_at (slice_cmp nat_cmp name)) files))
    by true rest = refl
    by false rest = rest

pub entries_of-insert_entry : (files : List (List ℕ × FileMeta)) (name : List ℕ) (meta : FileMeta) → entries_of (insert_entry (slice_cmp nat_cmp) files name meta) ≡ placed name (file meta) (entries_of files)
entries_of-insert_entry [] name meta = refl
entries_of-insert_entry (f ∷ files) name meta = by (slice_cmp nat_cmp name f.0) (entries_of-insert_entry files name meta)
  where
    by : (o : Ordering) → entries_of (insert_entry (slice_cmp nat_cmp) files name meta) ≡ placed name (file meta) (entries_of files) → entries_of (match_ordering o ((name, meta) ∷ f ∷ files) ((f.0, meta) ∷ files) (f ∷ insert_entry (slice_cmp nat_cmp) files name meta)) ≡ match_ordering o (entry name (file meta) (entry f.0 (file f.1) (entries_of files))) (entry f.0 (file meta) (entries_of files)) (entry f.0 (file f.1) (placed name (file meta) (entries_of files)))
    by Less rest = refl
    by Equal rest = refl
    by Greater rest = ap (λ (es : Entries). entry f.0 (file f.1) es) rest
