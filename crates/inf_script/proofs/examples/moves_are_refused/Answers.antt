use Rattle.std.proofs.Common.{refl}
use Rattle.std.specs.Str.{chars, is_utf8}
use Rattle.inf_script.proofs.examples.moves_are_refused.Goals as goal

pub returns : goal.returns
unfolding chars is_utf8 lib.Utf8.encode
returns c = record { none = refl; unknown_step = refl; empty_step = refl; unknown_alone = refl; no_number = refl; no_number_before_a_colon = refl; step = refl; one_server = refl; unknown_behind_a_server = refl; two_colons = refl; empty_behind_a_server = refl; unknown_behind_the_coordinator = refl; not_the_coordinator = refl; two_stars = refl; other_word = refl; first_fault = refl }
