use Rattle.inf_laws_client.proofs.ToldAlong.{told_along}
use Rattle.inf_laws_client.proofs.laws.chains_are_told_along.Goals as goal

pub returns : goal.returns
returns c = λ service objects root phases chain carries links. told_along service objects root phases chain carries links
