use Rattle.std.specs.List.Sorted.{IsStrictlySortedBy}
use Rattle.inf_laws_directory.proofs.served.the_opening_stands.Goals as goal

pub returns : goal.returns
unfolding IsStrictlySortedBy
returns c = λ service phases idle. record {
  sorted = (tt, tt);
  stands = c.opening_stands.ensures service phases;
  owned = c.opening_is_owned.ensures service phases idle;
}
