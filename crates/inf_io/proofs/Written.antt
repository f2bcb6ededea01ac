-- What a sink holds while bytes are written to it piece by piece.
use Rattle.std.proofs.Common.{◌≡◌, ℕ, ◌-◌, ◌<◌, List, [], ◌++◌, length, take, drop, Option, sym, ap, ◌∙◌, subst, arith, append_assoc, take-append-drop, length-append}
use Rattle.std.proofs.lemmas.List.{take_rest}
use Rattle.std.proofs.Math.Seq.{take-append_seam}
use Rattle.std.specs.Io.KnownBytes.{Appends, Keeps}
use Rattle.std.proofs.KnownBytes.{Appends-trans, Appends-kept}
use Rattle.inf_io.specs.Writing.{AppendsPrefix}

-- a front of the bytes is written, and these are the rest
pub record WrittenTo (old new : Option (List ℕ)) (bytes rest : List ℕ) : Type 0 where
  pub written : List ℕ
  pub parts : bytes ≡ written ++ rest
  pub appended : Appends old new written

-- one put more
pub WrittenTo-more : (a b c : Option (List ℕ)) (bytes rest : List ℕ) (n : ℕ) → WrittenTo a b bytes rest → Appends b c (take n rest) → WrittenTo a c bytes (take (length rest - n) (drop n rest))
WrittenTo-more a b c bytes rest n so_far put = record {
  written = so_far.written ++ take n rest;
  parts = so_far.parts ∙ ap (λ l. so_far.written ++ l) (sym (take-append-drop n rest) ∙ ap (λ l. take n rest ++ l) (sym (take_rest rest n))) ∙ sym (append_assoc so_far.written (take n rest) _);
  appended = Appends-trans a b c so_far.written (take n rest) so_far.appended put;
}

-- a put failed while some were left
pub AppendsPrefix-from_written : (a b c : Option (List ℕ)) (bytes rest : List ℕ) → WrittenTo a b bytes rest → Keeps b c → 0 < length rest → AppendsPrefix a c bytes
AppendsPrefix-from_written a b c bytes rest so_far kept some_left = record {
  count = length so_far.written;
  not_all = omega (arith, ap length so_far.parts, length-append so_far.written rest);
  front = subst (Appends a c) (sym (ap (take (length so_far.written)) so_far.parts ∙ take-append_seam so_far.written rest)) (Appends-kept a b c so_far.written so_far.appended kept);
}

-- of no bytes none is left
pub WrittenTo-none : (a b : Option (List ℕ)) (bytes rest : List ℕ) → WrittenTo a b bytes rest → 0 < length rest → bytes ≡ [] → ⊥
WrittenTo-none a b bytes rest so_far some_left none = omega (arith, ap length so_far.parts, ap length none, length-append so_far.written rest)
