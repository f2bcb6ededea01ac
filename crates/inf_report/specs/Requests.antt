-- How requests are printed.
use Rattle.std.specs.Prelude.{ℕ, List, ◌++◌, codes}
use Rattle.std.specs.Fmt.{decimal}
use Rattle.inf_message.specs.declared.aim.Aim.{Aim}
use Rattle.inf_message.specs.declared.aim.Aim.TheVariants as aim
use Rattle.inf_message.specs.declared.aim.What.{What}
use Rattle.inf_message.specs.declared.aim.What.TheVariants as what
use Rattle.inf_message.specs.declared.op.Op.{Op}
use Rattle.inf_message.specs.declared.op.Op.TheVariants as op
use Rattle.inf_message.specs.declared.request.Request.{Request}
use Rattle.inf_message.specs.declared.request.Request.TheVariants as request
use Rattle.inf_report.specs.Calls.{errno_text}
use Rattle.inf_report.specs.Identifiers.{chain_text, dir_text, home_text, id_text, key_text, look_key_text, triple_text}
use Rattle.inf_report.specs.Numbers.{meta_text, mode_text}

abbrev pub op_text : Op → List ℕ
op_text (op.Refuse error) = codes "refuse " ++ errno_text error
op_text op.StatTop = codes "stat-top"
op_text (op.Walk name) = codes "walk " ++ name
op_text (op.Create name mode) = codes "create " ++ name ++ codes " " ++ mode_text mode
op_text (op.Stat name) = codes "stat " ++ name
op_text (op.Unlink name) = codes "unlink " ++ name
op_text (op.Truncate name length) = codes "truncate " ++ name ++ codes " " ++ decimal length
op_text (op.Chmod name mode) = codes "chmod " ++ name ++ codes " " ++ mode_text mode
op_text (op.Move old new) = codes "move " ++ old ++ codes " " ++ new
op_text (op.ListName name) = codes "list-name " ++ name
op_text (op.RmdirName name) = codes "rmdir-name " ++ name
op_text op.List = codes "list"

-- what a slot is held for
abbrev pub what_text : What → List ℕ
what_text (what.File name) = codes "file " ++ name
what_text what.Leave = codes "leave"
what_text (what.Mode mode) = codes "mode " ++ mode_text mode

-- where the new path of a rename leads
abbrev pub aim_text : Aim → List ℕ
aim_text (aim.Stop name) = codes "stop " ++ name
aim_text (aim.At name) = codes "at " ++ name

abbrev pub request_text : Request → List ℕ
request_text (request.Lookup key) = codes "lookup " ++ look_key_text key
request_text (request.Finish chain op) = codes "finish " ++ chain_text chain ++ codes " " ++ op_text op
request_text (request.Reserve chain name) = codes "reserve " ++ chain_text chain ++ codes " " ++ name
request_text (request.Make triple) = codes "make " ++ triple_text triple
request_text (request.Link chain name dir mode) =
    codes "link " ++ chain_text chain ++ codes " " ++ name ++ codes " " ++ dir_text dir ++ codes " " ++ mode_text mode
request_text (request.Cancel dir) = codes "cancel " ++ dir_text dir
request_text (request.Drop dir) = codes "drop " ++ dir_text dir
request_text (request.Seal chain) = codes "seal " ++ chain_text chain
request_text (request.Unseal dir) = codes "unseal " ++ dir_text dir
request_text (request.Unlink chain) = codes "unlink " ++ chain_text chain
request_text (request.Forget parent dir) = codes "forget " ++ id_text parent ++ codes " " ++ dir_text dir
request_text (request.Hold chain what) = codes "hold " ++ chain_text chain ++ codes " " ++ what_text what
request_text (request.Unhold home) = codes "unhold " ++ home_text home
request_text (request.Prepare old new aim) =
    codes "prepare " ++ chain_text old ++ codes " " ++ chain_text new ++ codes " " ++ aim_text aim
request_text (request.Put old new aim meta) =
    codes "put " ++ chain_text old ++ codes " " ++ chain_text new ++ codes " " ++ aim_text aim
    ++ codes " " ++ meta_text meta
request_text (request.Commit home) = codes "commit " ++ home_text home
request_text (request.Erase dir) = codes "erase " ++ dir_text dir
request_text (request.Mark key hold) = codes "mark " ++ key_text key ++ codes " " ++ decimal hold
request_text request.Release = codes "release"
request_text request.Unmark = codes "unmark"
request_text (request.Admit dir old new) =
    codes "admit " ++ dir_text dir ++ codes " " ++ chain_text old ++ codes " " ++ chain_text new
request_text request.Quit = codes "quit"
