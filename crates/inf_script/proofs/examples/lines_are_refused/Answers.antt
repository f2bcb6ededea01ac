use Rattle.std.proofs.Common.{refl}
use Rattle.std.specs.Str.{chars, is_utf8}
use Rattle.inf_script.proofs.examples.lines_are_refused.Goals as goal

pub returns : goal.returns
unfolding chars is_utf8 lib.Utf8.encode
returns c = record { empty = refl; no_first_line = refl; other_version = refl; zero_in_front = refl; no_end = refl; no_end_behind_comments = refl; behind_a_comment = refl; first_line_again = refl; end_again = refl; behind_the_end = refl; servers_again = refl; servers_late = refl; client_late = refl; call_late = refl; digest_bytes_again = refl; digest_bytes_late = refl; digest_bytes_first = refl; digest_bytes_misspelt = refl; cache = refl; return_before_blank = refl; two_returns = refl; not_utf8 = refl; goes_on = refl; goes_on_behind_a_newline = refl; fault_before_it_goes_on = refl }
