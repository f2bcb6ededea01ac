use Rattle.inf_laws_directory.proofs.BornContents.{born_at_the_ask}
use Rattle.inf_laws_directory.proofs.born.contents_are_born_at_an_ask.Goals as goal

pub returns : goal.returns
returns c = λ service objects at ask given new ordered serves dir there.
    born_at_the_ask service objects at.number at.ask_place ask given new ordered serves dir there
