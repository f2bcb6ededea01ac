-- Lines have no newline, and the words of a line have no blank either.
use Rattle.std.proofs.Common.{◌≡◌, ℕ, ◌-◌, Bool, true, false, ◌||◌, not, nat_eq, List, [], ◌∷◌, length, take, filter, refl}
use Rattle.std.specs.List.{list_all, slice_split, onto_first, ends_with}
use Rattle.std.proofs.lemmas.Bool.{not-true}
use Rattle.std.proofs.lemmas.List.Elements.{All-take}
use Rattle.std.proofs.lemmas.List.Sums.{AllPass-from_list_all, list_all-from_AllPass}
use Rattle.inf_base.specs.Path.{is_piece}
use Rattle.inf_base.specs.Setup.{ends_word, is_word}
use Rattle.inf_script.specs.Lines.{is_newline, whole_parts, lines_of}
use Rattle.inf_script.specs.Words.{is_blank, without_return, words_of}
use Rattle.inf_script.proofs.NameFacts.{and_both, and_left, and_right, if_both}

-- no byte of it ends a line
abbrev pub is_line : List ℕ → Bool
is_line bytes = list_all (λ byte. not (is_newline byte)) bytes

-- no byte of it ends a word
abbrev is_part : List ℕ → Bool
is_part bytes = list_all (λ byte. not (ends_word byte)) bytes

all_onto : (r : ℕ → Bool) (byte : ℕ) (parts : List (List ℕ)) → r byte ≡ true → list_all (λ part. list_all r part) parts ≡ true → list_all (λ part. list_all r part) (onto_first byte parts) ≡ true
all_onto r byte [] fits all = rw fits refl
all_onto r byte (part ∷ parts) fits all = and_both _ _ (and_both _ _ fits (and_left _ _ all)) (and_right _ _ all)

-- what holds of each byte but the separators holds of each byte of the parts
all_parts : (p q r : ℕ → Bool) → ((byte : ℕ) → p byte ≡ false → q byte ≡ true → r byte ≡ true) → (bytes : List ℕ) → list_all q bytes ≡ true → list_all (λ part. list_all r part) (slice_split p bytes) ≡ true
all_parts p q r keeps [] all = refl
all_parts p q r keeps (byte ∷ bytes) all =
    let rest = all_parts p q r keeps bytes (and_right _ _ all) in
    if_both (λ parts. list_all (λ part. list_all r part) parts ≡ true) (p byte) ([] ∷ slice_split p bytes) (onto_first byte (slice_split p bytes)) (λ _. rest) (λ inside. all_onto r byte (slice_split p bytes) (keeps byte inside (and_left _ _ all)) rest)

whole_parts-all : (p : List ℕ → Bool) (more : Bool) (parts : List (List ℕ)) → list_all p parts ≡ true → list_all p (whole_parts more parts) ≡ true
whole_parts-all p more (part ∷ next ∷ parts) all = and_both _ _ (and_left _ _ all) (whole_parts-all p more (next ∷ parts) (and_right _ _ all))
whole_parts-all p more (part ∷ []) all = if_both (λ kept. list_all p kept ≡ true) (more || not (is_piece part)) [] (part ∷ []) (λ _. refl) (λ _. all)
whole_parts-all p more [] all = refl

every_byte : (bytes : List ℕ) → list_all (λ byte. true) bytes ≡ true
every_byte [] = refl
every_byte (byte ∷ bytes) = every_byte bytes

pub lines_of-lines : (more : Bool) (text : List ℕ) → list_all is_line (lines_of more text) ≡ true
lines_of-lines more text =
    whole_parts-all is_line more (slice_split is_newline text) (all_parts is_newline (λ byte. true) (λ byte. not (is_newline byte)) (λ byte inside _. rw inside refl) text (every_byte text))

pieces-words : (parts : List (List ℕ)) → list_all is_part parts ≡ true → list_all is_word (filter is_piece parts) ≡ true
pieces-words [] all = refl
pieces-words ([] ∷ parts) all = pieces-words parts all
pieces-words ((byte ∷ bytes) ∷ parts) all = and_both _ _ (and_left _ _ all) (pieces-words parts (and_right _ _ all))

without_return-line : (line : List ℕ) → is_line line ≡ true → is_line (without_return line) ≡ true
without_return-line line all = if_both (λ kept. is_line kept ≡ true) (ends_with nat_eq line (13 ∷ [])) (take (length line - 1) line) line
    (λ _. list_all-from_AllPass (λ byte. not (is_newline byte)) _ (All-take (λ byte. not (is_newline byte) ≡ true) (length line - 1) line (AllPass-from_list_all (λ byte. not (is_newline byte)) line all))) (λ _. all)

inside_word : (byte : ℕ) → is_blank byte ≡ false → not (is_newline byte) ≡ true → not (ends_word byte) ≡ true
inside_word byte blank newline = let other : is_newline byte ≡ false = not-true _ newline in rw (blank, other) refl

pub words_of-words : (line : List ℕ) → is_line line ≡ true → list_all is_word (words_of (without_return line)) ≡ true
words_of-words line all =
    pieces-words (slice_split is_blank (without_return line)) (all_parts is_blank (λ byte. not (is_newline byte)) (λ byte. not (ends_word byte)) inside_word (without_return line) (without_return-line line all))
