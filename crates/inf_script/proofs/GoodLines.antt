-- A line of the settings, of a client or of a call leaves what was read good.
use Rattle.std.proofs.Common.{◌≡◌, ℕ, zero, suc, ◌≤◌, ◌<◌, Bool, true, false, ◌&&◌, ◌||◌, cond, nat_eq, nat_lt, codes, if◌then◌else◌, List, [], ◌∷◌, ◌++◌, length, Option, Some, None, is_some, is_none, IfSome, Result, Ok, Err, IfOk, All, refl, sym, ◌∙◌, subst, arith}
use Rattle.std.specs.List.{list_all, list_any, IsDistinct, AllByRecursion, position_or_len}
use Rattle.std.specs.Str.{bytes_eq}
use Rattle.std.proofs.lemmas.Bool.{eqb-true, ltb-true, leb-true}
use Rattle.std.proofs.lemmas.Cmp.{nat_list_eq_equiv}
use Rattle.std.proofs.lemmas.List.{length-append, length-map, map-append}
use Rattle.std.proofs.lemmas.List.Elements.{All-nil, All-push, All-cons, All-head, All-tail}
use Rattle.std.proofs.lemmas.List.Folds.{list_all-append}
use Rattle.std.proofs.lemmas.List.Sums.{sum_by-append}
use Rattle.inf_base.specs.Checks.{◌>>=◌}
use Rattle.inf_base.specs.declared.call.Call.{Call}
use Rattle.inf_base.specs.Path.{path_of}
use Rattle.inf_base.specs.declared.call.Call.TheVariants as call
use Rattle.inf_base.specs.declared.setup.ClientLine.{ClientLine}
use Rattle.inf_base.specs.declared.limits.TheConstants.{MOST_SERVERS, MOST_DIGEST_BYTES, MOST_CLIENTS, MOST_CALLS}
use Rattle.inf_base.specs.Setup.{is_mode, is_word, is_valid_call, is_valid_client, is_client_name, names_of, call_count, IsWithin, IsValid}
use Rattle.inf_order.specs.Order.{is_move_of}
use Rattle.inf_script.specs.declared.refusal.Why.{Why}
use Rattle.inf_script.specs.declared.refusal.Why.TheVariants as why
use Rattle.inf_script.specs.declared.script.Script.{Script}
use Rattle.inf_script.specs.declared.section.Section.{Section}
use Rattle.inf_script.specs.declared.section.Section.TheVariants as section
use Rattle.inf_script.specs.declared.draft.Draft.{Draft}
use Rattle.inf_path.specs.Parsed.{has_names}
use Rattle.inf_script.specs.Names.{mode_of, number_within}
use Rattle.inf_script.specs.Draft.{rank, may_stand, servers_of, digest_bytes_of, place_of}
use Rattle.inf_script.specs.Settings.{no_more, version, first_line, servers_end, servers_number, servers_line, digest_bytes_end, digest_bytes_number, digest_bytes_line}
use Rattle.inf_script.specs.ClientLine.{new_client, with_client, client_end, client_group, client_user, client_name, client_line}
use Rattle.inf_script.specs.CallLine.{path_alone, mode_behind, path_and_mode, mkdir_call, create_call, rmdir_call, stat_call, call_kind, calling, with_call, call_of, call_client, call_line}
use Rattle.inf_script.specs.Built.{HasNames, IsBuiltCall, IsBuiltClient, IsBuilt}
use Rattle.inf_script.proofs.NameFacts.{and_both, and_left, and_right, if_both, if_read, mode_of-is_mode, number_within-good}
use Rattle.inf_script.proofs.PathFacts.{names_there}
use Rattle.inf_script.proofs.TableFacts.{none_at, names_of-calling, length-calling, call_count-calling}

pub record IsGoodCall (call : Call) : Type 0 where
  pub valid : is_valid_call call ≡ true
  pub built : IsBuiltCall call

pub record IsGoodDraft (draft : Draft) : Type 0 where
  pub servers : IsWithin 1 MOST_SERVERS (servers_of draft)
  pub digest_bytes : IsWithin 1 MOST_DIGEST_BYTES (digest_bytes_of draft)
  pub clients : length draft.clients ≤ MOST_CLIENTS
  pub calls : call_count draft.clients ≤ MOST_CALLS
  pub names : IsDistinct bytes_eq (names_of draft.clients)
  pub lines : list_all is_valid_client draft.clients ≡ true
  pub built : All IsBuiltClient draft.clients
  pub moves : list_all (is_move_of (servers_of draft) (length draft.clients)) draft.moves ≡ true
  pub none_yet : rank draft.reached ≤ 3 → draft.moves ≡ []

pub record IsGoodScript (script : Script) : Type 0 where
  pub valid : IsValid script.setup
  pub order : list_all (is_move_of script.setup.servers (length script.setup.clients)) script.order ≡ true
  pub built : IsBuilt script.setup

pub no_more-good : {X : Type 0} (P : X → Type 0) (value : X) → P value → (words : List (List ℕ)) → IfOk (no_more value words) P
no_more-good P value good [] = good
no_more-good P value good (word ∷ words) = tt

-- a line that may stand is of no earlier section than the reading has come to
stands : (line reached : Section) → may_stand line reached ≡ true → rank reached ≤ rank line
stands line reached may = leb-true _ _ (and_right _ _ may)

-- the first line and the settings

version-good : (draft : Draft) → IsGoodDraft draft → rank draft.reached ≤ 3 → (words : List (List ℕ)) → IfOk (version draft words) IsGoodDraft
version-good draft good early [] = tt
version-good draft good early (word ∷ words) =
    if_read IsGoodDraft (bytes_eq word (codes "1")) (no_more (record draft { reached = section.Settings }) words) why.BadWord
    (λ _. no_more-good IsGoodDraft (record draft { reached = section.Settings }) (record {
      servers = good.servers;
      digest_bytes = good.digest_bytes;
      clients = good.clients;
      calls = good.calls;
      names = good.names;
      lines = good.lines;
      built = good.built;
      moves = good.moves;
      none_yet = λ _. good.none_yet early;
    }) words)

pub first_line-good : (draft : Draft) → IsGoodDraft draft → (words : List (List ℕ)) → IfOk (first_line draft words) IsGoodDraft
first_line-good draft good words = if_read IsGoodDraft (nat_eq (rank draft.reached) 0) (version draft words) why.BadWord (λ first.
    let at_start = eqb-true (rank draft.reached) 0 first in version-good draft good (omega arith) words)

servers_end-good : (draft : Draft) → IsGoodDraft draft → draft.moves ≡ [] → (r : Result ℕ Why) → IfOk r (λ number. IsWithin 1 MOST_SERVERS number) → (words : List (List ℕ)) → IfOk (servers_end draft r words) IsGoodDraft
servers_end-good draft good none (Err reason) within words = tt
servers_end-good draft good none (Ok number) within words = no_more-good IsGoodDraft (record draft { servers = Some number }) (record {
  servers = within;
  digest_bytes = good.digest_bytes;
  clients = good.clients;
  calls = good.calls;
  names = good.names;
  lines = good.lines;
  built = good.built;
  moves = rw none refl;
  none_yet = good.none_yet;
}) words

servers_number-good : (draft : Draft) → IsGoodDraft draft → draft.moves ≡ [] → (words : List (List ℕ)) → IfOk (servers_number draft words) IsGoodDraft
servers_number-good draft good none [] = tt
servers_number-good draft good none (word ∷ words) = servers_end-good draft good none (number_within 1 MOST_SERVERS word) (number_within-good 1 MOST_SERVERS word) words

pub servers_line-good : (draft : Draft) → IsGoodDraft draft → (words : List (List ℕ)) → IfOk (servers_line draft words) IsGoodDraft
servers_line-good draft good words = if_read IsGoodDraft (may_stand section.Settings draft.reached && is_none draft.servers) (servers_number draft words) why.BadWord (λ may.
    let early = stands section.Settings draft.reached (and_left _ _ may) in servers_number-good draft good (good.none_yet (omega arith)) words)

digest_bytes_end-good : (draft : Draft) → IsGoodDraft draft → (r : Result ℕ Why) → IfOk r (λ number. IsWithin 1 MOST_DIGEST_BYTES number) → (words : List (List ℕ)) → IfOk (digest_bytes_end draft r words) IsGoodDraft
digest_bytes_end-good draft good (Err reason) within words = tt
digest_bytes_end-good draft good (Ok number) within words = no_more-good IsGoodDraft (record draft { digest_bytes = Some number }) (record {
  servers = good.servers;
  digest_bytes = within;
  clients = good.clients;
  calls = good.calls;
  names = good.names;
  lines = good.lines;
  built = good.built;
  moves = good.moves;
  none_yet = good.none_yet;
}) words

digest_bytes_number-good : (draft : Draft) → IsGoodDraft draft → (words : List (List ℕ)) → IfOk (digest_bytes_number draft words) IsGoodDraft
digest_bytes_number-good draft good [] = tt
digest_bytes_number-good draft good (word ∷ words) = digest_bytes_end-good draft good (number_within 1 MOST_DIGEST_BYTES word) (number_within-good 1 MOST_DIGEST_BYTES word) words

pub digest_bytes_line-good : (draft : Draft) → IsGoodDraft draft → (words : List (List ℕ)) → IfOk (digest_bytes_line draft words) IsGoodDraft
digest_bytes_line-good draft good words =
    if_read IsGoodDraft (may_stand section.Settings draft.reached && is_none draft.digest_bytes) (digest_bytes_number draft words) why.BadWord (λ _. digest_bytes_number-good draft good words)

-- a client line

all_push : (name : List ℕ) (names : List (List ℕ)) (n : List ℕ) → bytes_eq n name ≡ false → AllByRecursion (λ other. bytes_eq n other ≡ false) names → AllByRecursion (λ other. bytes_eq n other ≡ false) (names ++ name ∷ [])
all_push name [] n new all = (new, tt)
all_push name (first ∷ names) n new all = (all.0, all_push name names n new all.1)

or_first : (a b : Bool) → (a || b) ≡ false → a ≡ false
or_first true b neither = neither
or_first false b neither = refl

or_later : (a b : Bool) → (a || b) ≡ false → b ≡ false
or_later true b neither = cc
or_later false b neither = neither

distinct_push : (name : List ℕ) (names : List (List ℕ)) → list_any (bytes_eq name) names ≡ false → IsDistinct bytes_eq names → IsDistinct bytes_eq (names ++ name ∷ [])
unfolding IsDistinct
distinct_push name [] none distinct = (tt, tt)
distinct_push name (first ∷ names) none distinct =
    (all_push name names first (nat_list_eq_equiv.symm first name ∙ or_first _ _ none) distinct.0, distinct_push name names (or_later _ _ none) distinct.1)

with_client-good : (draft : Draft) → IsGoodDraft draft → draft.moves ≡ [] → (name : List ℕ) → is_client_name name ≡ true → place_of name draft.clients ≡ None → IfOk (with_client draft name) IsGoodDraft
with_client-good draft good none name named unknown =
    if_read IsGoodDraft (nat_lt (length draft.clients) MOST_CLIENTS) (Ok (record draft { reached = section.Clients; clients = draft.clients ++ new_client name ∷ [] })) why.TooMany (λ room.
    let below = ltb-true (length draft.clients) MOST_CLIENTS room in
    let longer = length-append draft.clients (new_client name ∷ []) in
    let total = sum_by-append (λ (c : ClientLine). length c.calls) draft.clients (new_client name ∷ []) in
    let counts : call_count (draft.clients ++ new_client name ∷ []) ≡ call_count draft.clients = omega arith in
    record {
      servers = good.servers;
      digest_bytes = good.digest_bytes;
      clients = omega arith;
      calls = rw counts good.calls;
      names = subst (IsDistinct bytes_eq) (sym (map-append (λ (c : ClientLine). c.name) draft.clients (new_client name ∷ []))) (distinct_push name (names_of draft.clients) (none_at (bytes_eq name) (names_of draft.clients) unknown) good.names);
      lines = list_all-append is_valid_client draft.clients (new_client name ∷ []) ∙ rw (good.lines, named) refl;
      built = All-push IsBuiltClient draft.clients (new_client name) good.built (record { user = refl; group = refl; calls = All-nil IsBuiltCall });
      moves = rw none refl;
      none_yet = λ _. none;
    })

client_end-good : (draft : Draft) → IsGoodDraft draft → draft.moves ≡ [] → (name : List ℕ) → is_client_name name ≡ true → place_of name draft.clients ≡ None → (words : List (List ℕ)) → IfOk (client_end draft name words) IsGoodDraft
client_end-good draft good none name named unknown [] = with_client-good draft good none name named unknown
client_end-good draft good none name named unknown (word ∷ words) = tt

client_group-good : (draft : Draft) → IsGoodDraft draft → draft.moves ≡ [] → (name : List ℕ) → is_client_name name ≡ true → place_of name draft.clients ≡ None → (words : List (List ℕ)) → IfOk (client_group draft name words) IsGoodDraft
client_group-good draft good none name named unknown [] = tt
client_group-good draft good none name named unknown (word ∷ words) =
    if_read IsGoodDraft (bytes_eq word (codes "0")) (client_end draft name words) why.BadNumber (λ _. client_end-good draft good none name named unknown words)

client_user-good : (draft : Draft) → IsGoodDraft draft → draft.moves ≡ [] → (name : List ℕ) → is_client_name name ≡ true → place_of name draft.clients ≡ None → (words : List (List ℕ)) → IfOk (client_user draft name words) IsGoodDraft
client_user-good draft good none name named unknown [] = tt
client_user-good draft good none name named unknown (word ∷ words) =
    if_read IsGoodDraft (bytes_eq word (codes "0")) (client_group draft name words) why.BadNumber (λ _. client_group-good draft good none name named unknown words)

is_none_of : {X : Type 0} (o : Option X) → is_some o ≡ false → o ≡ None
is_none_of None missing = refl
is_none_of (Some x) missing = cc

client_name-good : (draft : Draft) → IsGoodDraft draft → draft.moves ≡ [] → (words : List (List ℕ)) → IfOk (client_name draft words) IsGoodDraft
client_name-good draft good none [] = tt
client_name-good draft good none (name ∷ words) =
    if_read IsGoodDraft (is_client_name name) (if is_some (place_of name draft.clients) then Err why.DoubleClient else client_user draft name words) why.BadWord (λ named.
    if_both (λ r. IfOk r IsGoodDraft) (is_some (place_of name draft.clients)) (Err why.DoubleClient) (client_user draft name words) (λ _. tt) (λ unknown. client_user-good draft good none name named (is_none_of _ unknown) words))

pub client_line-good : (draft : Draft) → IsGoodDraft draft → (words : List (List ℕ)) → IfOk (client_line draft words) IsGoodDraft
client_line-good draft good words = if_read IsGoodDraft (may_stand section.Clients draft.reached) (client_name draft words) why.BadWord (λ may.
    let early = stands section.Clients draft.reached may in client_name-good draft good (good.none_yet (omega arith)) words)

-- a call line

-- a word that is a path with names
record IsGoodPath (path : List ℕ) : Type 0 where
  word : is_word path ≡ true
  names : HasNames path

record IsGoodPair (taken : List ℕ × ℕ) : Type 0 where
  path : IsGoodPath taken.0
  mode : is_mode taken.1 ≡ true

-- what follows of a value that was read holds of what is read behind it
read_next : {A B : Type 0} (P : A → Type 0) (Q : B → Type 0) (r : Result A Why) (next : A → Result B Why) → IfOk r P → ((a : A) → P a → IfOk (next a) Q) → IfOk (r >>= next) Q
read_next P Q (Ok a) next holds follows = follows a holds
read_next P Q (Err reason) next holds follows = tt

path_alone-good : (words : List (List ℕ)) → list_all is_word words ≡ true → IfOk (path_alone words) IsGoodPath
path_alone-good [] all = tt
path_alone-good (path ∷ words) all = if_read IsGoodPath (has_names (path_of path)) (no_more path words) why.BadWord (λ within.
    no_more-good IsGoodPath path (record { word = and_left _ _ all; names = names_there path within }) words)

mode_behind-good : (path : List ℕ) → IsGoodPath path → (words : List (List ℕ)) → IfOk (mode_behind path words) IsGoodPair
mode_behind-good path good [] = tt
mode_behind-good path good (word ∷ words) =
    read_next (λ mode. is_mode mode ≡ true) IsGoodPair (mode_of word) (λ mode. no_more (path, mode) words) (mode_of-is_mode word) (λ mode fits. no_more-good IsGoodPair (path, mode) (record { path = good; mode = fits }) words)

path_and_mode-good : (words : List (List ℕ)) → list_all is_word words ≡ true → IfOk (path_and_mode words) IsGoodPair
path_and_mode-good [] all = tt
path_and_mode-good (path ∷ words) all = if_read IsGoodPair (has_names (path_of path)) (mode_behind path words) why.BadWord (λ within.
    mode_behind-good path (record { word = and_left _ _ all; names = names_there path within }) words)

mkdir_call-good : (words : List (List ℕ)) → list_all is_word words ≡ true → IfOk (mkdir_call words) IsGoodCall
mkdir_call-good words all = read_next IsGoodPair IsGoodCall (path_and_mode words) (λ taken. Ok (call.Mkdir taken.0 taken.1)) (path_and_mode-good words all) (λ taken good. record {
  valid = and_both _ _ good.path.word good.mode;
  built = good.path.names;
})

create_call-good : (words : List (List ℕ)) → list_all is_word words ≡ true → IfOk (create_call words) IsGoodCall
create_call-good words all = read_next IsGoodPair IsGoodCall (path_and_mode words) (λ taken. Ok (call.Create taken.0 taken.1)) (path_and_mode-good words all) (λ taken good. record {
  valid = and_both _ _ good.path.word good.mode;
  built = good.path.names;
})

rmdir_call-good : (words : List (List ℕ)) → list_all is_word words ≡ true → IfOk (rmdir_call words) IsGoodCall
rmdir_call-good words all = read_next IsGoodPath IsGoodCall (path_alone words) (λ path. Ok (call.Rmdir path)) (path_alone-good words all) (λ path good. record { valid = good.word; built = good.names })

stat_call-good : (words : List (List ℕ)) → list_all is_word words ≡ true → IfOk (stat_call words) IsGoodCall
stat_call-good words all = read_next IsGoodPath IsGoodCall (path_alone words) (λ path. Ok (call.Stat path)) (path_alone-good words all) (λ path good. record { valid = good.word; built = good.names })

call_kind-good : (words : List (List ℕ)) → list_all is_word words ≡ true → IfOk (call_kind words) IsGoodCall
call_kind-good [] all = tt
call_kind-good (word ∷ words) all =
    let behind = and_right _ _ all in
    if_both (λ r. IfOk r IsGoodCall) (bytes_eq word (codes "mkdir")) (mkdir_call words) _ (λ _. mkdir_call-good words behind) (λ _.
    if_both (λ r. IfOk r IsGoodCall) (bytes_eq word (codes "create")) (create_call words) _ (λ _. create_call-good words behind) (λ _.
    if_both (λ r. IfOk r IsGoodCall) (bytes_eq word (codes "rmdir")) (rmdir_call words) _ (λ _. rmdir_call-good words behind) (λ _.
    if_read IsGoodCall (bytes_eq word (codes "stat")) (stat_call words) why.BadWord (λ _. stat_call-good words behind))))

calling-valid : (place : ℕ) (call : Call) → is_valid_call call ≡ true → (xs : List ClientLine) → list_all is_valid_client xs ≡ true → list_all is_valid_client (calling place call xs) ≡ true
calling-valid place call fits [] all = refl
calling-valid zero call fits (x ∷ xs) all =
    let first : is_valid_client x ≡ true = and_left _ _ all in
    let named : is_client_name x.name ≡ true = and_left _ _ first in
    let more : list_all is_valid_call (x.calls ++ call ∷ []) ≡ true = list_all-append is_valid_call x.calls (call ∷ []) ∙ rw (and_right (is_client_name x.name) (list_all is_valid_call x.calls) first, fits) refl in
    rw (named, more, and_right (is_valid_client x) (list_all is_valid_client xs) all) refl
calling-valid (suc place) call fits (x ∷ xs) all =
    rw (and_left (is_valid_client x) (list_all is_valid_client xs) all, calling-valid place call fits xs (and_right (is_valid_client x) (list_all is_valid_client xs) all)) refl

calling-built : (place : ℕ) (call : Call) → IsBuiltCall call → (xs : List ClientLine) → All IsBuiltClient xs → All IsBuiltClient (calling place call xs)
calling-built place call fits [] all = all
calling-built zero call fits (x ∷ xs) all =
    let first : IsBuiltClient x = All-head IsBuiltClient x xs all in
    All-cons IsBuiltClient (record x { calls = x.calls ++ call ∷ [] }) xs (record { user = first.user; group = first.group; calls = All-push IsBuiltCall x.calls call first.calls fits }) (All-tail IsBuiltClient x xs all)
calling-built (suc place) call fits (x ∷ xs) all =
    All-cons IsBuiltClient x (calling place call xs) (All-head IsBuiltClient x xs all) (calling-built place call fits xs (All-tail IsBuiltClient x xs all))

-- a client's number is below how many there are
pub place-within : (name : List ℕ) (clients : List ClientLine) → IfSome (place_of name clients) (λ place. nat_lt place (length clients) ≡ true)
place-within name clients = by_test (nat_lt (position_or_len (bytes_eq name) (names_of clients)) (length (names_of clients))) refl where
  by_test : (b : Bool) → nat_lt (position_or_len (bytes_eq name) (names_of clients)) (length (names_of clients)) ≡ b → IfSome (cond b (Some (position_or_len (bytes_eq name) (names_of clients))) None) (λ place. nat_lt place (length clients) ≡ true)
  by_test true within = subst (λ (n : ℕ). nat_lt (position_or_len (bytes_eq name) (names_of clients)) n ≡ true) (length-map clients (λ (c : ClientLine). c.name)) within
  by_test false past = tt

with_call-good : (draft : Draft) → IsGoodDraft draft → draft.moves ≡ [] → (client : ℕ) → client < length draft.clients → (r : Result Call Why) → IfOk r IsGoodCall → IfOk (with_call draft client r) IsGoodDraft
with_call-good draft good none client known (Err reason) read = tt
with_call-good draft good none client known (Ok call) read =
    if_read IsGoodDraft (nat_lt (call_count draft.clients) MOST_CALLS) (Ok (record draft { reached = section.Calls; clients = calling client call draft.clients })) why.TooMany (λ room.
    let below = ltb-true (call_count draft.clients) MOST_CALLS room in
    let counted = call_count-calling client call draft.clients known in
    record {
      servers = good.servers;
      digest_bytes = good.digest_bytes;
      clients = rw (length-calling client call draft.clients) good.clients;
      calls = omega arith;
      names = subst (IsDistinct bytes_eq) (sym (names_of-calling client call draft.clients)) good.names;
      lines = calling-valid client call read.valid draft.clients good.lines;
      built = calling-built client call read.built draft.clients good.built;
      moves = rw none refl;
      none_yet = λ _. none;
    })

call_of-good : (draft : Draft) → IsGoodDraft draft → draft.moves ≡ [] → (client : Option ℕ) → IfSome client (λ place. nat_lt place (length draft.clients) ≡ true) → (words : List (List ℕ)) → list_all is_word words ≡ true → IfOk (call_of draft client words) IsGoodDraft
call_of-good draft good none None within words all = tt
call_of-good draft good none (Some client) within words all = with_call-good draft good none client (ltb-true _ _ within) (call_kind words) (call_kind-good words all)

call_client-good : (draft : Draft) → IsGoodDraft draft → draft.moves ≡ [] → (words : List (List ℕ)) → list_all is_word words ≡ true → IfOk (call_client draft words) IsGoodDraft
call_client-good draft good none [] all = tt
call_client-good draft good none (name ∷ words) all = call_of-good draft good none (place_of name draft.clients) (place-within name draft.clients) words (and_right _ _ all)

pub call_line-good : (draft : Draft) → IsGoodDraft draft → (words : List (List ℕ)) → list_all is_word words ≡ true → IfOk (call_line draft words) IsGoodDraft
call_line-good draft good words all = if_read IsGoodDraft (may_stand section.Calls draft.reached) (call_client draft words) why.BadWord (λ may.
    let early = stands section.Calls draft.reached may in call_client-good draft good (good.none_yet (omega arith)) words all)
