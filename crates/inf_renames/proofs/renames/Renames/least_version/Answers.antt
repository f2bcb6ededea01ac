use Rattle.std.proofs.Common.{sym, ap, ◌∙◌}
use Rattle.inf_renames.specs.Kept.{kept_least_version}
use Rattle.inf_renames.proofs.Entries.{kept_found}
use Rattle.inf_renames.proofs.RenamesFacts.{least_version_found}
use Rattle.inf_renames.proofs.renames.Renames.least_version.Goals as goal

pub returns-in-Some : goal.returns-in-Some
returns-in-Some c =
    let here = kept_found c.args.parent.now c.self.inside.lists _ _ c.self.view_is c.in-Some.ensures.value in
    let is = c.least_version.ensures ∙ ap (kept_least_version c.args.name.now) (sym here) in
    let least = least_version_found c.args.parent.now c.args.name.now c.args.self.now _ is in
    record { value = is; free = least.free; least = least.least }

pub returns-in-None : goal.returns-in-None
returns-in-None c =
    let none = kept_found c.args.parent.now c.self.inside.lists _ _ c.self.view_is c.in-None.ensures.value in
    let is = ap (kept_least_version c.args.name.now) (sym none) in
    let least = least_version_found c.args.parent.now c.args.name.now c.args.self.now 0 is in
    record { value = is; free = least.free; least = least.least }
