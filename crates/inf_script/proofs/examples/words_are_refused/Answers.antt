use Rattle.std.proofs.Common.{refl}
use Rattle.std.specs.Str.{chars, is_utf8}
use Rattle.inf_script.proofs.examples.words_are_refused.Goals as goal

pub returns : goal.returns
unfolding chars is_utf8 lib.Utf8.encode
returns c = record { no_servers = refl; servers_65 = refl; servers_100 = refl; servers_past_32_bits = refl; servers_past_64_bits = refl; zero_in_front = refl; sign_in_front = refl; no_number = refl; two_numbers = refl; no_bytes = refl; bytes_33 = refl; bytes_past_8_bits = refl; zero_before_bytes = refl; word_for_bytes = refl; no_number_of_bytes = refl; two_numbers_of_bytes = refl; no_name = refl; capital = refl; digit_first = refl; long_client_name = refl; double_client = refl; bad_user = refl; other_user = refl; other_group = refl; no_group = refl; word_too_many = refl; no_caller = refl; unknown_caller = refl; misspelt_caller = refl; no_call = refl; capital_call = refl; unlink = refl; list = refl; truncate = refl; chmod = refl; rename = refl; no_mode = refl; mode_of_two_digits = refl; mode_of_four_digits = refl; mode_with_an_eight = refl; mode_of_a_stat = refl; word_behind_a_file = refl; no_directory = refl; no_mode_of_a_directory = refl; mode_800 = refl; mode_with_letters = refl; short_mode_of_a_directory = refl; long_mode_of_a_directory = refl; word_behind_a_directory = refl; nothing_to_remove = refl; mode_of_a_removal = refl }
