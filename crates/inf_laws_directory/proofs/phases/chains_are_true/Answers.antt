use Rattle.std.proofs.Common.{[], ◌∷◌}
use Rattle.inf_server.specs.Chains.{last_of}
use Rattle.inf_laws_directory.proofs.OpenDirectories.{is_open}
use Rattle.inf_laws_directory.proofs.ToldChains.{chain_is_true}
use Rattle.inf_laws_server.proofs.Asked.{asked}
use Rattle.inf_laws_directory.specs.Objects.{site_in}
use Rattle.inf_laws_directory.proofs.phases.chains_are_true.Goals as goal

pub returns : goal.returns
returns c = λ service objects number root phases by path chain last owned told link is_asked not_own.
    chain_is_true service objects root phases by owned path chain last told link (is_open service objects number by chain last (asked (site_in service number) (objects number) by (last_of chain) (chain ∷ []) last is_asked)) not_own
