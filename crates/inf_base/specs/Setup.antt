-- Which setups are valid: those that a script can spell.
use Rattle.std.specs.Prelude.{◌≡◌, ℕ, ◌≤◌, Bool, true, false, ◌&&◌, ◌||◌, not, ◌==◌, nat_lt, nat_le, List, [], ◌∷◌, length, map, sum_by}
use Rattle.std.specs.List.{list_all, IsDistinct}
use Rattle.std.specs.Str.{bytes_eq}
use Rattle.inf_base.specs.declared.call.Call.{Call}
use Rattle.inf_base.specs.declared.call.Call.TheVariants as call
use Rattle.inf_base.specs.declared.setup.ClientLine.{ClientLine}
use Rattle.inf_base.specs.declared.setup.Setup.{Setup}
use Rattle.inf_base.specs.declared.limits.TheConstants.{MOST_SERVERS, MOST_CLIENTS, MOST_CALLS, MOST_DIGEST_BYTES, MOST_CACHE, MOST_MODE}

abbrev pub is_letter : ℕ → Bool
is_letter byte = nat_le 97 byte && nat_le byte 122

abbrev pub is_digit : ℕ → Bool
is_digit byte = nat_le 48 byte && nat_le byte 57

-- 1 to 16 of `a` to `z` and `0` to `9`, the first of them a letter
abbrev pub is_client_name : List ℕ → Bool
is_client_name [] = false
is_client_name (first ∷ others) =
    is_letter first && list_all (λ byte. is_letter byte || is_digit byte) others && nat_lt (length others) 16

-- what parts the words of a line, and ends it: space, tab and newline
abbrev pub ends_word : ℕ → Bool
ends_word byte = byte == 32 || byte == 9 || byte == 10

abbrev pub is_word : List ℕ → Bool
is_word [] = false
is_word (byte ∷ bytes) = list_all (λ b. not (ends_word b)) (byte ∷ bytes)

abbrev pub is_mode : ℕ → Bool
is_mode mode = nat_le mode MOST_MODE

-- its paths are words, and its mode has permission bits alone
abbrev pub is_valid_call : Call → Bool
is_valid_call (call.Mkdir path mode) = is_word path && is_mode mode
is_valid_call (call.Create path mode) = is_word path && is_mode mode
is_valid_call (call.Rmdir path) = is_word path
is_valid_call (call.Unlink path) = is_word path
is_valid_call (call.Stat path) = is_word path
is_valid_call (call.List path) = is_word path
is_valid_call (call.Truncate path length) = is_word path
is_valid_call (call.Chmod path mode) = is_word path && is_mode mode
is_valid_call (call.Rename old new) = is_word old && is_word new

abbrev pub is_valid_client : ClientLine → Bool
is_valid_client client = is_client_name client.name && list_all is_valid_call client.calls

abbrev pub names_of : List ClientLine → List (List ℕ)
names_of clients = map (λ (c : ClientLine). c.name) clients

abbrev pub call_count : List ClientLine → ℕ
call_count clients = sum_by (λ (c : ClientLine). length c.calls) clients

pub record IsWithin (low high n : ℕ) : Type 0 where
  pub at_least : low ≤ n
  pub at_most : n ≤ high

pub record IsValid (s : Setup) : Type 0 where
  pub servers : IsWithin 1 MOST_SERVERS s.servers
  pub digest_bytes : IsWithin 1 MOST_DIGEST_BYTES s.digest_bytes
  pub cache : IsWithin 1 MOST_CACHE s.cache
  pub clients : length s.clients ≤ MOST_CLIENTS
  pub calls : call_count s.clients ≤ MOST_CALLS
  pub names : IsDistinct bytes_eq (names_of s.clients)
  pub lines : list_all is_valid_client s.clients ≡ true
