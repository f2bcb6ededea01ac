-- The moves of order lines: the first word that spells no move decides.
use Rattle.std.proofs.Common.{◌≡◌, ℕ, List, [], ◌∷◌, Ok, Err, IfSome, refl}
use Rattle.inf_base.specs.declared.setup.ClientLine.{ClientLine}
use Rattle.inf_order.specs.declared.moves.Move.{Move}
use Rattle.inf_script.specs.declared.refusal.Why.{Why}
use Rattle.inf_script.specs.declared.fault.LineFault.{LineFault}
use Rattle.inf_script.specs.declared.fault.LineFault.TheVariants as line_fault
use Rattle.inf_script.specs.Faults.{line_cause}
use Rattle.inf_script.specs.OrderLine.{move_of, moves_from}

pub moves_from-refused : (servers : ℕ) (clients : List ClientLine) (reason : Why) (words : List (List ℕ)) → moves_from servers clients (Err reason) words ≡ Err reason
moves_from-refused servers clients reason [] = refl
moves_from-refused servers clients reason (word ∷ words) = moves_from-refused servers clients reason words

-- a word that spells no move behind those that were read refuses the line
pub refused_word : (fault : LineFault) (servers : ℕ) (clients : List ClientLine) (moves : List Move) (word : List ℕ) (words : List (List ℕ)) → IfSome (line_cause fault) (λ f. move_of servers clients word ≡ Err f)
    → IfSome (line_cause fault) (λ f. moves_from servers clients (Ok moves) (word ∷ words) ≡ Err f)
refused_word (line_fault.Refused reason) servers clients moves word words refused = rw refused (moves_from-refused servers clients reason words)
refused_word line_fault.NoMemory servers clients moves word words refused = tt
