use Rattle.std.proofs.Common.{Some, None, ap, ◌∙◌}
use Rattle.inf_content.proofs.Found.{shown_of_id}
use Rattle.inf_content.proofs.contents.Contents.directory_of_id.Goals as goal

pub returns-in-None-clause-found : goal.returns-in-None-clause-found
returns-in-None-clause-found c =
    shown_of_id c.args.id.now c.self.inside.by_id.entries c.args.self.now None c.self.view_is c.in-None.ensures.value

pub returns-in-Some-clause-found : goal.returns-in-Some-clause-found
returns-in-Some-clause-found c =
    ap Some c.new.ensures
    ∙ shown_of_id c.args.id.now c.self.inside.by_id.entries c.args.self.now (Some c.in-Some.object.now) c.self.view_is
    c.in-Some.ensures.value
