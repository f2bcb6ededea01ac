-- The chains that a request carries, as the code reads them.
use Rattle.std.proofs.Common.{◌≡◌, List, map}
use Rattle.std.specs.Borrow.{Bor}
use Rattle.std.specs.List.{list_all}
use Rattle.std.proofs.lemmas.List.Folds.{list_all-map}
use Rattle.inf_base.specs.declared.entry.Entry.{Entry}
use Rattle.inf_server.specs.Chains.{has_entry}

pub all_read : (chains : List (Bor (List Entry)))
    → list_all has_entry (map (λ (chain : Bor (List Entry)). chain.now) chains)
    ≡ list_all (λ (chain : Bor (List Entry)). has_entry chain.now) chains
all_read chains = list_all-map has_entry (λ (chain : Bor (List Entry)). chain.now) chains
