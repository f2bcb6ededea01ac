use Rattle.std.proofs.Common.{◌≡◌, false, length, sym, ap, subst, ◌∙◌, arith}
use Rattle.inf_renames.specs.Kept.{Kept, has_version}
use Rattle.inf_renames.proofs.KeptFacts.{least_found, taken_within}
use Rattle.inf_renames.proofs.kept_rows.KeptRows.least_version.Goals as goal

pub returns-then-next-version : goal.returns-then-next-version
returns-then-next-version c =
    let same = c.as_slice.ensures.value ∙ ap (λ (k : Kept). k.rows) c.self.view_is in
    let free = subst (λ rows. has_version c.args.name.now c.loop-version.version rows ≡ false) same (c.next_version-next.ensures.free c.if-next-version.true) in
    sym (least_found c.args.name.now c.args.self.now c.loop-version.version c.loop-version.invariant free)

pub loop-version-smaller : goal.loop-version-smaller
loop-version-smaller c =
    let same = ap length (c.as_slice.ensures.value ∙ ap (λ (k : Kept). k.rows) c.self.view_is) in
    let within = taken_within c.args.name.now c.as_slice.result.now c.next_version-next.result c.next_version-next.ensures.taken in
    let not_less = c.next_version-next.ensures.not_less in
    let more = c.if-next-version.false in
    omega (arith, same, within, not_less, more)
