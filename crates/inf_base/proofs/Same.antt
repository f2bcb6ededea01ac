-- Names, identifiers, directories and calls that are the same are equal.
use Rattle.std.proofs.Common.{◌≡◌, ℕ, ◌==◌, ◌&&◌, Bool, true, false, List, refl, ap, ◌∙◌}
use Rattle.std.specs.Str.{bytes_eq}
use Rattle.std.proofs.lemmas.Bool.Decides.{Decides-eqb}
use Rattle.std.proofs.lemmas.Slice.Eq.{bytes_eq-Decides}
use Rattle.inf_base.specs.declared.caller.CallRef.{CallRef}
use Rattle.inf_base.specs.declared.directory.DirRef.{DirRef}
use Rattle.inf_base.specs.declared.id.Id.{Id}
use Rattle.inf_base.specs.Same.{is_same_call, is_same_dir, is_same_id}

pub same_name : (a b : List ℕ) → bytes_eq a b ≡ true → a ≡ b
same_name a b = (bytes_eq-Decides a b).0

pub same_name_self : (a : List ℕ) → bytes_eq a a ≡ true
same_name_self a = (bytes_eq-Decides a a).1 refl

pub same_id : (a b : Id) → is_same_id a b ≡ true → a ≡ b
same_id a b same = ap (λ (bytes : List ℕ). record { bytes = bytes }) (same_name a.bytes b.bytes same)

pub same_id_self : (a : Id) → is_same_id a a ≡ true
same_id_self a = same_name_self a.bytes

abbrev dir_from : Id → ℕ → DirRef
dir_from id born = record { id = id; born = born }

same_dirs : (a b : DirRef) (ids births : Bool) → is_same_id a.id b.id ≡ ids → (a.born == b.born) ≡ births → (ids && births) ≡ true → a ≡ b
same_dirs a b true true ids births same =
    ap (λ (id : Id). dir_from id a.born) (same_id a.id b.id ids) ∙ ap (λ (born : ℕ). dir_from b.id born) ((Decides-eqb a.born b.born).0 births)
same_dirs a b true false ids births same = cc
same_dirs a b false births_same ids births same = cc

pub same_dir : (a b : DirRef) → is_same_dir a b ≡ true → a ≡ b
same_dir a b same = same_dirs a b (is_same_id a.id b.id) (a.born == b.born) refl refl same

pub same_dir_self : (a : DirRef) → is_same_dir a a ≡ true
same_dir_self a = rw (same_id_self a.id) ((Decides-eqb a.born a.born).1 refl)

abbrev call_from : ℕ → ℕ → CallRef
call_from client number = record { client = client; number = number }

same_calls : (a b : CallRef) (clients numbers : Bool) → (a.client == b.client) ≡ clients → (a.number == b.number) ≡ numbers
    → (clients && numbers) ≡ true → a ≡ b
same_calls a b true true clients numbers same =
    ap (λ (c : ℕ). call_from c a.number) ((Decides-eqb a.client b.client).0 clients)
    ∙ ap (λ (n : ℕ). call_from b.client n) ((Decides-eqb a.number b.number).0 numbers)
same_calls a b true false clients numbers same = cc
same_calls a b false numbers_same clients numbers same = cc

pub same_call : (a b : CallRef) → is_same_call a b ≡ true → a ≡ b
same_call a b same = same_calls a b (a.client == b.client) (a.number == b.number) refl refl same

pub same_call_self : (a : CallRef) → is_same_call a a ≡ true
same_call_self a =
    let client = (Decides-eqb a.client a.client).1 refl in
    let number = (Decides-eqb a.number a.number).1 refl in
    rw (client, number) refl
