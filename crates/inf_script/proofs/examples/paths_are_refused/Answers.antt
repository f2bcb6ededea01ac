use Rattle.std.proofs.Common.{refl}
use Rattle.std.specs.Str.{chars, is_utf8}
use Rattle.inf_script.proofs.examples.paths_are_refused.Goals as goal

pub returns : goal.returns
unfolding chars is_utf8 lib.Utf8.encode
returns c = record { root = refl; root_as_a_file = refl; root_made = refl; root_removed = refl; no_slash = refl; no_slash_in_front = refl; too_many_names = refl; too_many_names_made = refl; path_before_mode = refl; dot = refl; dot_dot = refl; dot_below = refl; below_dot_dot = refl; dot_made = refl; nul = refl; nul_below = refl; long_name = refl; long_name_below = refl; long_directory = refl }
