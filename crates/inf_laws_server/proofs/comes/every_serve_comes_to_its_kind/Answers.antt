use Rattle.inf_laws_server.proofs.Serves.{came_to}
use Rattle.inf_laws_server.proofs.comes.every_serve_comes_to_its_kind.Goals as goal

pub returns : goal.returns
returns c = λ site old place ask given new serves. came_to site old place ask given new serves
