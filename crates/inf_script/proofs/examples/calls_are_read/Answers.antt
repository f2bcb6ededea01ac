use Rattle.std.proofs.Common.{refl}
use Rattle.std.specs.Str.{chars, is_utf8}
use Rattle.inf_script.proofs.examples.calls_are_read.Goals as goal

pub returns : goal.returns
unfolding chars is_utf8 lib.Utf8.encode
returns c = record { mkdir = refl; create = refl; rmdir = refl; stat = refl; create_below = refl; stat_below = refl; slashes = refl; slashes_of_a_file = refl; slash_behind_a_directory = refl; slashes_of_a_directory = refl; dots_in_a_name = refl; any_bytes = refl; least_mode = refl; greatest_mode = refl; longest_name = refl; longest_name_below = refl }
