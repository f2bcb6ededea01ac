-- What a client starts with.
use Rattle.std.proofs.Common.{◌≡◌, ℕ, ◌≤◌, List, length, slice_get, Some, ap, arith}
use Rattle.std.proofs.lemmas.List.Sums.{get_or-le-sum_by}
use Rattle.std.proofs.lemmas.Option.{get_or_from_slice_get, slice_get_within}
use Rattle.inf_base.specs.declared.setup.ClientLine.{ClientLine}
use Rattle.inf_base.specs.Setup.{call_count}

-- a client has at most all calls of a script
pub calls_within : (clients : List ClientLine) (client : ℕ) (line : ClientLine) → slice_get clients client ≡ Some line → length line.calls ≤ call_count clients
calls_within clients client line at =
    let one = get_or-le-sum_by (λ (l : ClientLine). length l.calls) clients client line (slice_get_within clients client line at) in
    let same = ap (λ (l : ClientLine). length l.calls) (get_or_from_slice_get clients client line line at) in
    omega arith
