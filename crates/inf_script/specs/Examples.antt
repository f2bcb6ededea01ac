-- Texts and what they say, and what holds of every text.
use Rattle.std.specs.Prelude.{◌≡◌, ℕ, zero, suc, ◌+◌, ◌<◌, ◌≤◌, true, false, List, [], ◌∷◌, ◌++◌, length, take, replicate, codes, Some, None, Ok, Err, IsErrAnd, IsOk}
use Rattle.std.specs.List.{flat_map}
use Rattle.std.specs.Str.{is_utf8}
use Rattle.inf_base.specs.declared.call.Call.{Call}
use Rattle.inf_base.specs.declared.call.Call.TheVariants as call
use Rattle.inf_base.specs.declared.setup.ClientLine.{ClientLine}
use Rattle.inf_base.specs.Setup.{call_count}
use Rattle.inf_order.specs.declared.moves.Move.{Move}
use Rattle.inf_order.specs.declared.moves.Move.TheVariants as move
use Rattle.inf_script.specs.declared.draft.Draft.{Draft}
use Rattle.inf_script.specs.declared.refusal.Why.{Why}
use Rattle.inf_script.specs.declared.refusal.Why.TheVariants as why
use Rattle.inf_script.specs.declared.refusal.ScriptRefusal.{ScriptRefusal}
use Rattle.inf_script.specs.declared.script.Script.{Script}
use Rattle.inf_script.specs.CallLine.{with_call}
use Rattle.inf_script.specs.ClientLine.{with_client}
use Rattle.inf_script.specs.Lines.{lines_of}
use Rattle.inf_script.specs.OrderLine.{with_moves}
use Rattle.inf_script.specs.Reading.{reading, meaning}
use Rattle.inf_script.specs.Sections.{after_words, after_line}
use Rattle.inf_script.specs.Words.{without_return, words_of}

-- these lines, each with the newline that ends it
abbrev pub text_of : List (List ℕ) → List ℕ
text_of lines = flat_map (λ line. line ++ 10 ∷ []) lines

-- the same, but each line ends with a carriage return before its newline
abbrev pub returns_of : List (List ℕ) → List ℕ
returns_of lines = flat_map (λ line. line ++ 13 ∷ 10 ∷ []) lines

-- a client of user 0 and group 0, with these calls
abbrev pub client_with : List ℕ → List Call → ClientLine
client_with name calls = record { name = name; caller = record { uid = 0; gid = 0 }; calls = calls }

abbrev pub script_with : ℕ → ℕ → List ClientLine → List Move → Script
script_with servers digest_bytes clients moves = record {
  setup = record { servers = servers; digest_bytes = digest_bytes; cache = 256; clients = clients };
  order = moves;
}

abbrev pub Says : List ℕ → ℕ → List ClientLine → List Move → Type 0
Says text servers clients moves = reading text false ≡ Ok (script_with servers 32 clients moves)

-- a script without clients, of so many servers, whose identifiers keep so many bytes
abbrev pub Sets : List ℕ → ℕ → ℕ → Type 0
Sets text servers digest_bytes = reading text false ≡ Ok (script_with servers digest_bytes [] (move.Rest ∷ []))

abbrev pub IsRefused : ℕ → Why → List ℕ → Type 0
IsRefused number reason text = reading text false ≡ Err (record { line = number; why = reason })

-- a script with these lines behind its first
abbrev pub with_lines : List (List ℕ) → List ℕ
with_lines lines = text_of (codes "infinifs 1" ∷ lines)

-- a script of the client `a` whose third line is this one
abbrev pub with_line : List ℕ → List ℕ
with_line line = with_lines (codes "client a 0 0" ∷ line ∷ codes "end" ∷ [])

pub record ScriptsAreRead : Type 0 where
  pub shortest : Says (codes "infinifs 1" ++ 10 ∷ codes "end") 1 [] (move.Rest ∷ [])
  pub all_lines : Says
      (text_of (codes "# a comment" ∷ [] ∷ codes "infinifs 1" ∷ codes "servers 3" ∷ codes "client b 0 0"
      ∷ codes "client a1 0 0" ∷ codes "call a1 create /f 644" ∷ codes "call b stat /..f"
      ∷ codes "  # another" ∷ codes "call a1 stat /f" ∷ codes "order +a1 =b s2 s0:a1" ∷ codes "order c c:b *"
      ∷ codes "end" ∷ codes "#" ∷ []))
      3 (client_with (codes "b") (call.Stat (codes "/..f") ∷ [])
      ∷ client_with (codes "a1") (call.Create (codes "/f") 420 ∷ call.Stat (codes "/f") ∷ []) ∷ [])
      (move.Step 1 ∷ move.Alone 0 ∷ move.Serve 2 None ∷ move.Serve 0 (Some 1) ∷ move.Serve 3 None
      ∷ move.Serve 3 (Some 0) ∷ move.Rest ∷ [])
  pub one_byte : Sets (with_lines (codes "digest-bytes 1" ∷ codes "end" ∷ [])) 1 1
  pub all_bytes : Sets (with_lines (codes "digest-bytes 32" ∷ codes "servers 64" ∷ codes "end" ∷ [])) 64 32
  pub bytes_behind_servers : Sets (with_lines (codes "servers 2" ∷ [] ∷ codes "digest-bytes 8" ∷ codes "end" ∷ [])) 2 8
  pub blanks : Says (text_of ((9 ∷ codes " infinifs" ++ 32 ∷ 9 ∷ codes "1 " ++ 13 ∷ []) ∷ (13 ∷ []) ∷ codes "end  "
      ∷ [])) 1 [] (move.Rest ∷ [])
  pub returns : Says (returns_of (codes "infinifs 1" ∷ codes "client a 0 0" ∷ [] ∷ codes "call a stat /f"
      ∷ codes "order +a" ∷ codes "end" ∷ [])) 1 (client_with (codes "a") (call.Stat (codes "/f") ∷ [])
      ∷ []) (move.Step 0 ∷ [])
  pub most_servers : Says (with_lines (codes "servers 64" ∷ codes "client abcdefghijklmn09 0 0"
      ∷ codes "order s63:abcdefghijklmn09" ∷ codes "end" ∷ [])) 64 (client_with (codes "abcdefghijklmn09") []
      ∷ []) (move.Serve 63 (Some 0) ∷ [])

-- a script with one call, of the client `a`
abbrev pub Calls : List ℕ → Call → Type 0
Calls line called = Says (with_line line) 1 (client_with (codes "a") (called ∷ []) ∷ []) (move.Rest ∷ [])

pub record CallsAreRead : Type 0 where
  pub mkdir : Calls (codes "call a mkdir /d 755") (call.Mkdir (codes "/d") 493)
  pub create : Calls (codes "call a create /f 644") (call.Create (codes "/f") 420)
  pub rmdir : Calls (codes "call a rmdir /d") (call.Rmdir (codes "/d"))
  pub stat : Calls (codes "call a stat /f") (call.Stat (codes "/f"))
  pub create_below : Calls (codes "call a create /d/f 644") (call.Create (codes "/d/f") 420)
  pub stat_below : Calls (codes "call a stat /d/f") (call.Stat (codes "/d/f"))
  pub slashes : Calls (codes "call a stat //a//b/") (call.Stat (codes "//a//b/"))
  pub slashes_of_a_file : Calls (codes "call a create //a//b/ 600") (call.Create (codes "//a//b/") 384)
  pub slash_behind_a_directory : Calls (codes "call a mkdir /d/ 700") (call.Mkdir (codes "/d/") 448)
  pub slashes_of_a_directory : Calls (codes "call a rmdir //d//") (call.Rmdir (codes "//d//"))
  pub dots_in_a_name : Calls (codes "call a stat /...") (call.Stat (codes "/..."))
  pub any_bytes : Calls (codes "call a stat /" ++ 195 ∷ 164 ∷ 13 ∷ 1 ∷ []) (call.Stat (47 ∷ 195 ∷ 164 ∷ 13 ∷ 1 ∷ []))
  pub least_mode : Calls (codes "call a create /f 000") (call.Create (codes "/f") 0)
  pub greatest_mode : Calls (codes "call a mkdir /d 777") (call.Mkdir (codes "/d") 511)
  pub longest_name : Calls (codes "call a stat /" ++ replicate 255 120) (call.Stat (47 ∷ replicate 255 120))
  pub longest_name_below : Calls (codes "call a stat /d/"
      ++ replicate 255 120) (call.Stat (codes "/d/" ++ replicate 255 120))

pub record LinesAreRefused : Type 0 where
  pub empty : IsRefused 1 why.BadWord []
  pub no_first_line : IsRefused 1 why.BadWord (text_of (codes "end" ∷ []))
  pub other_version : IsRefused 1 why.BadWord (text_of (codes "infinifs 2" ∷ codes "end" ∷ []))
  pub zero_in_front : IsRefused 1 why.BadWord (text_of (codes "infinifs 01" ∷ codes "end" ∷ []))
  pub no_end : IsRefused 2 why.BadWord (codes "infinifs 1")
  pub no_end_behind_comments : IsRefused 4 why.BadWord (with_lines ([] ∷ codes "# end" ∷ []))
  pub behind_a_comment : IsRefused 3 why.BadWord (text_of (codes "#" ∷ codes "infinifs 1" ∷ codes "x" ∷ codes "y" ∷ []))
  pub first_line_again : IsRefused 2 why.BadWord (with_lines (codes "infinifs 1" ∷ codes "end" ∷ []))
  pub end_again : IsRefused 3 why.BadWord (with_lines (codes "end" ∷ codes "end" ∷ []))
  pub behind_the_end : IsRefused 4 why.BadWord (with_lines (codes "end" ∷ [] ∷ codes "client a 0 0" ∷ []))
  pub servers_again : IsRefused 3 why.BadWord (with_lines (codes "servers 2" ∷ codes "servers x" ∷ codes "end" ∷ []))
  pub servers_late : IsRefused 3 why.BadWord (with_line (codes "servers 2"))
  pub client_late : IsRefused 4 why.BadWord (with_lines (codes "client a 0 0" ∷ codes "call a stat /f"
      ∷ codes "client b 0 0" ∷ codes "end" ∷ []))
  pub call_late : IsRefused 4 why.BadWord (with_lines (codes "client a 0 0" ∷ codes "order *" ∷ codes "call a stat /f"
      ∷ codes "end" ∷ []))
  pub digest_bytes_again : IsRefused 3 why.BadWord (with_lines (codes "digest-bytes 8" ∷ codes "digest-bytes 0"
      ∷ codes "end" ∷ []))
  pub digest_bytes_late : IsRefused 3 why.BadWord (with_line (codes "digest-bytes 8"))
  pub digest_bytes_first : IsRefused 1 why.BadWord (text_of (codes "digest-bytes 8" ∷ codes "infinifs 1"
      ∷ codes "end" ∷ []))
  pub digest_bytes_misspelt : IsRefused 2 why.BadWord (with_lines (codes "digest_bytes 8" ∷ codes "end" ∷ []))
  pub cache : IsRefused 2 why.BadWord (with_lines (codes "cache 8" ∷ codes "end" ∷ []))
  pub return_before_blank : IsRefused 1 why.BadWord (text_of ((codes "infinifs 1" ++ 13 ∷ 32 ∷ []) ∷ codes "end" ∷ []))
  pub two_returns : IsRefused 1 why.BadWord (text_of ((codes "infinifs 1" ++ 13 ∷ 13 ∷ []) ∷ codes "end" ∷ []))
  pub not_utf8 : IsRefused 2 why.NotUtf8 (with_lines ((codes "# " ++ 255 ∷ []) ∷ codes "x" ∷ []))
  pub goes_on : reading (codes "infinifs 1" ++ 10 ∷ codes "end") true ≡ Err (record { line = 2; why = why.TooLong })
  pub goes_on_behind_a_newline :
      reading (with_lines (codes "end" ∷ [])) true ≡ Err (record { line = 3; why = why.TooLong })
  pub fault_before_it_goes_on :
      reading (with_lines (codes "x" ∷ [])) true ≡ Err (record { line = 2; why = why.BadWord })

pub record WordsAreRefused : Type 0 where
  pub no_servers : IsRefused 2 why.BadNumber (with_lines (codes "servers 0" ∷ []))
  pub servers_65 : IsRefused 2 why.BadNumber (with_lines (codes "servers 65" ∷ []))
  pub servers_100 : IsRefused 2 why.BadNumber (with_lines (codes "servers 100" ∷ []))
  pub servers_past_32_bits : IsRefused 2 why.BadNumber (with_lines (codes "servers 4294967298" ∷ []))
  pub servers_past_64_bits : IsRefused 2 why.BadNumber (with_lines (codes "servers 18446744073709551618" ∷ []))
  pub zero_in_front : IsRefused 2 why.BadNumber (with_lines (codes "servers 02" ∷ []))
  pub sign_in_front : IsRefused 2 why.BadNumber (with_lines (codes "servers +2" ∷ []))
  pub no_number : IsRefused 2 why.BadWord (with_lines (codes "servers" ∷ []))
  pub two_numbers : IsRefused 2 why.BadWord (with_lines (codes "servers 2 2" ∷ []))
  pub no_bytes : IsRefused 2 why.BadNumber (with_lines (codes "digest-bytes 0" ∷ []))
  pub bytes_33 : IsRefused 2 why.BadNumber (with_lines (codes "digest-bytes 33" ∷ []))
  pub bytes_past_8_bits : IsRefused 2 why.BadNumber (with_lines (codes "digest-bytes 264" ∷ []))
  pub zero_before_bytes : IsRefused 2 why.BadNumber (with_lines (codes "digest-bytes 01" ∷ []))
  pub word_for_bytes : IsRefused 2 why.BadNumber (with_lines (codes "digest-bytes all 8" ∷ []))
  pub no_number_of_bytes : IsRefused 2 why.BadWord (with_lines (codes "digest-bytes" ∷ []))
  pub two_numbers_of_bytes : IsRefused 2 why.BadWord (with_lines (codes "digest-bytes 8 8" ∷ []))
  pub no_name : IsRefused 3 why.BadWord (with_line (codes "client"))
  pub capital : IsRefused 3 why.BadWord (with_line (codes "client B x"))
  pub digit_first : IsRefused 3 why.BadWord (with_line (codes "client 1b 0 0"))
  pub long_client_name : IsRefused 3 why.BadWord (with_line (codes "client abcdefghijklmnopq 0 0"))
  pub double_client : IsRefused 3 why.DoubleClient (with_line (codes "client a 0 x"))
  pub bad_user : IsRefused 3 why.BadNumber (with_line (codes "client b x"))
  pub other_user : IsRefused 3 why.BadNumber (with_line (codes "client b 1 0"))
  pub other_group : IsRefused 3 why.BadNumber (with_line (codes "client b 0 1"))
  pub no_group : IsRefused 3 why.BadWord (with_line (codes "client b 0"))
  pub word_too_many : IsRefused 3 why.BadWord (with_line (codes "client b 0 0 0"))
  pub no_caller : IsRefused 3 why.BadWord (with_line (codes "call"))
  pub unknown_caller : IsRefused 3 why.UnknownClient (with_line (codes "call b fly"))
  pub misspelt_caller : IsRefused 3 why.UnknownClient (with_line (codes "call A stat /f"))
  pub no_call : IsRefused 3 why.BadWord (with_line (codes "call a"))
  pub capital_call : IsRefused 3 why.BadWord (with_line (codes "call a MKDIR /d 755"))
  pub unlink : IsRefused 3 why.BadWord (with_line (codes "call a unlink /f"))
  pub list : IsRefused 3 why.BadWord (with_line (codes "call a list /d"))
  pub truncate : IsRefused 3 why.BadWord (with_line (codes "call a truncate /f 0"))
  pub chmod : IsRefused 3 why.BadWord (with_line (codes "call a chmod /f 644"))
  pub rename : IsRefused 3 why.BadWord (with_line (codes "call a rename /f /g"))
  pub no_mode : IsRefused 3 why.BadWord (with_line (codes "call a create /f"))
  pub mode_of_two_digits : IsRefused 3 why.BadNumber (with_line (codes "call a create /f 77"))
  pub mode_of_four_digits : IsRefused 3 why.BadNumber (with_line (codes "call a create /f 0644"))
  pub mode_with_an_eight : IsRefused 3 why.BadNumber (with_line (codes "call a create /f 648 x"))
  pub mode_of_a_stat : IsRefused 3 why.BadWord (with_line (codes "call a stat /f 644"))
  pub word_behind_a_file : IsRefused 3 why.BadWord (with_line (codes "call a create /f 644 644"))
  pub no_directory : IsRefused 3 why.BadWord (with_line (codes "call a mkdir"))
  pub no_mode_of_a_directory : IsRefused 3 why.BadWord (with_line (codes "call a mkdir /d"))
  pub mode_800 : IsRefused 3 why.BadNumber (with_line (codes "call a mkdir /d 800"))
  pub mode_with_letters : IsRefused 3 why.BadNumber (with_line (codes "call a mkdir /d rwx"))
  pub short_mode_of_a_directory : IsRefused 3 why.BadNumber (with_line (codes "call a mkdir /d 75"))
  pub long_mode_of_a_directory : IsRefused 3 why.BadNumber (with_line (codes "call a mkdir /d 0755"))
  pub word_behind_a_directory : IsRefused 3 why.BadWord (with_line (codes "call a mkdir /d 755 x"))
  pub nothing_to_remove : IsRefused 3 why.BadWord (with_line (codes "call a rmdir"))
  pub mode_of_a_removal : IsRefused 3 why.BadWord (with_line (codes "call a rmdir /d 755"))

-- a path of so many names, each of one byte
abbrev names_of_a_byte : ℕ → List ℕ
names_of_a_byte zero = []
names_of_a_byte (suc count) = codes "/a" ++ names_of_a_byte count

pub record PathsAreRefused : Type 0 where
  pub root : IsRefused 3 why.BadWord (with_line (codes "call a stat /"))
  pub root_as_a_file : IsRefused 3 why.BadWord (with_line (codes "call a create // 644"))
  pub root_made : IsRefused 3 why.BadWord (with_line (codes "call a mkdir / 755"))
  pub root_removed : IsRefused 3 why.BadWord (with_line (codes "call a rmdir /"))
  pub no_slash : IsRefused 3 why.BadWord (with_line (codes "call a stat f"))
  pub no_slash_in_front : IsRefused 3 why.BadWord (with_line (codes "call a stat d/f"))
  pub too_many_names : IsRefused 3 why.BadWord (with_line (codes "call a stat " ++ names_of_a_byte 33))
  pub too_many_names_made : IsRefused 3 why.BadWord (with_line (codes "call a mkdir " ++ names_of_a_byte 33 ++ codes " 755"))
  pub path_before_mode : IsRefused 3 why.BadWord (with_line (codes "call a mkdir / 800"))
  pub dot : IsRefused 3 why.BadWord (with_line (codes "call a stat /."))
  pub dot_dot : IsRefused 3 why.BadWord (with_line (codes "call a stat /.."))
  pub dot_below : IsRefused 3 why.BadWord (with_line (codes "call a create /d/. 644"))
  pub below_dot_dot : IsRefused 3 why.BadWord (with_line (codes "call a stat /../f"))
  pub dot_made : IsRefused 3 why.BadWord (with_line (codes "call a mkdir /. 755"))
  pub nul : IsRefused 3 why.BadWord (with_line (codes "call a stat /f" ++ 0 ∷ []))
  pub nul_below : IsRefused 3 why.BadWord (with_line (codes "call a stat /d/f" ++ 0 ∷ []))
  pub long_name : IsRefused 3 why.BadWord (with_line (codes "call a stat /" ++ replicate 256 120))
  pub long_name_below : IsRefused 3 why.BadWord (with_line (codes "call a stat /d/" ++ replicate 256 120))
  pub long_directory : IsRefused 3 why.BadWord (with_line (codes "call a rmdir /" ++ replicate 256 120))

pub record MovesAreRefused : Type 0 where
  pub none : IsRefused 3 why.BadWord (with_line (codes "order"))
  pub unknown_step : IsRefused 3 why.UnknownClient (with_line (codes "order +a +b"))
  pub empty_step : IsRefused 3 why.UnknownClient (with_line (codes "order +"))
  pub unknown_alone : IsRefused 3 why.UnknownClient (with_line (codes "order =A"))
  pub no_number : IsRefused 3 why.BadNumber (with_line (codes "order s"))
  pub no_number_before_a_colon : IsRefused 3 why.BadNumber (with_line (codes "order s:a"))
  pub step : IsRefused 3 why.BadNumber (with_line (codes "order step"))
  pub one_server : IsRefused 3 why.BadNumber (with_line (codes "order s1:b"))
  pub unknown_behind_a_server : IsRefused 3 why.UnknownClient (with_line (codes "order s0:b"))
  pub two_colons : IsRefused 3 why.UnknownClient (with_line (codes "order s0:a:a"))
  pub empty_behind_a_server : IsRefused 3 why.UnknownClient (with_line (codes "order s0:"))
  pub unknown_behind_the_coordinator : IsRefused 3 why.UnknownClient (with_line (codes "order c:b"))
  pub not_the_coordinator : IsRefused 3 why.BadWord (with_line (codes "order ca"))
  pub two_stars : IsRefused 3 why.BadWord (with_line (codes "order **"))
  pub other_word : IsRefused 3 why.BadWord (with_line (codes "order a"))
  pub first_fault : IsRefused 3 why.BadNumber (with_line (codes "order +a s1 +b x"))

-- refused in this line as too long, or in an earlier line
pub record IsRefusedBy (last : ℕ) (refusal : ScriptRefusal) : Type 0 where
  pub at_latest : refusal.line ≤ last
  pub too_long : refusal.line ≡ last → refusal.why ≡ why.TooLong

-- the limits as numbers: what keeps them is read on, and one more is refused
pub record LimitsHold : Type 0 where
  pub long_line : (draft : Draft) (line : List ℕ) → 32768 < length line → after_line draft line ≡ Err why.TooLong
  pub longest_line : (draft : Draft) (line : List ℕ) → length line ≤ 32768 → is_utf8 line ≡ true
      → after_line draft line ≡ after_words draft (words_of (without_return line))
  pub more_clients : (draft : Draft) (name : List ℕ) → 64 ≤ length draft.clients
      → with_client draft name ≡ Err why.TooMany
  pub most_clients : (draft : Draft) (name : List ℕ) → length draft.clients < 64 → IsOk (with_client draft name)
  pub more_calls : (draft : Draft) (client : ℕ) (called : Call) → 20000 ≤ call_count draft.clients
      → with_call draft client (Ok called) ≡ Err why.TooMany
  pub most_calls : (draft : Draft) (client : ℕ) (called : Call) → call_count draft.clients < 20000
      → IsOk (with_call draft client (Ok called))
  pub more_moves : (draft : Draft) (moves : List Move) → 1000000 < length moves
      → with_moves draft (Ok moves) ≡ Err why.TooMany
  pub most_moves : (draft : Draft) (moves : List Move) → length moves ≤ 1000000 → IsOk (with_moves draft (Ok moves))
  pub longest_text : (text : List ℕ) → length text ≤ 67108864 → meaning text ≡ reading text false

-- a text of more bytes than a script may have is refused in the line that holds the byte behind them, or before
abbrev pub TooLongIsRefused : Type 0
TooLongIsRefused = (text : List ℕ) → 67108864 < length text
    → IsErrAnd (meaning text) (IsRefusedBy (length (lines_of true (take 67108864 text)) + 1))
