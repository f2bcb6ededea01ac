use Rattle.std.proofs.Common.{refl}
use Rattle.std.specs.Str.{chars, is_utf8}
use Rattle.inf_script.proofs.examples.scripts_are_read.Goals as goal

pub returns : goal.returns
unfolding chars is_utf8 lib.Utf8.encode
returns c = record { shortest = refl; all_lines = refl; one_byte = refl; all_bytes = refl; bytes_behind_servers = refl; blanks = refl; returns = refl; most_servers = refl }
