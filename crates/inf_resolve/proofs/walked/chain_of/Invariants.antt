use Rattle.std.proofs.Common.{◌≡◌, ◌∷◌, ◌++◌, drop}
use Rattle.inf_base.specs.Same.{dir_of}
use Rattle.inf_resolve.specs.Walk.{way}
use Rattle.inf_resolve.proofs.walked.chain_of.Given as goal

abbrev pub invariant-loop-name : goal.invariant-loop-name
invariant-loop-name l =
    l.chain.items ++ way l.known l.dir (drop l.name-index l.names)
    ≡ l.fn.root ∷ way l.known (dir_of l.fn.root.access) l.names
