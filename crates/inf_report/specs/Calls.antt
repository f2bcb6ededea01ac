-- How calls, answers and what they hold are printed.
use Rattle.std.specs.Prelude.{ℕ, ◌-◌, List, [], ◌++◌, length, Option, None, Some, slice_get, codes}
use Rattle.std.specs.List.{flat_map}
use Rattle.std.specs.Fmt.{decimal}
use Rattle.inf_base.specs.declared.answer.Answer.{Answer}
use Rattle.inf_base.specs.declared.answer.Answer.TheVariants as answer
use Rattle.inf_base.specs.declared.call.Call.{Call}
use Rattle.inf_base.specs.declared.call.Call.TheVariants as call
use Rattle.inf_base.specs.declared.caller.CallRef.{CallRef}
use Rattle.inf_base.specs.declared.errno.Errno.{Errno}
use Rattle.inf_base.specs.declared.errno.Errno.TheVariants as errno
use Rattle.inf_base.specs.declared.file.FileMeta.{FileMeta}
use Rattle.inf_base.specs.declared.item.Item.{Item}
use Rattle.inf_base.specs.declared.item.Kind.{Kind}
use Rattle.inf_base.specs.declared.item.Kind.TheVariants as kind
use Rattle.inf_base.specs.declared.setup.ClientLine.{ClientLine}
use Rattle.inf_report.specs.Identifiers.{triple_text}
use Rattle.inf_report.specs.Numbers.{mode_text, meta_text}

abbrev pub kind_text : Kind → List ℕ
kind_text kind.File = codes "file"
kind_text kind.Dir = codes "dir"

abbrev pub errno_text : Errno → List ℕ
errno_text errno.ENOENT = codes "ENOENT"
errno_text errno.ENOTDIR = codes "ENOTDIR"
errno_text errno.EACCES = codes "EACCES"
errno_text errno.EEXIST = codes "EEXIST"
errno_text errno.ENOTEMPTY = codes "ENOTEMPTY"
errno_text errno.EINVAL = codes "EINVAL"
errno_text errno.EPERM = codes "EPERM"
errno_text errno.EISDIR = codes "EISDIR"
errno_text errno.EBUSY = codes "EBUSY"
errno_text errno.ENAMETOOLONG = codes "ENAMETOOLONG"

-- a slash behind a directory's name
abbrev pub kind_mark : Kind → List ℕ
kind_mark kind.File = []
kind_mark kind.Dir = codes "/"

abbrev pub item_text : Item → List ℕ
item_text item = codes " " ++ item.name ++ kind_mark item.kind

-- `list N`, and each item behind a space
abbrev pub listing_text : List Item → List ℕ
listing_text items = codes "list " ++ decimal (length items) ++ flat_map item_text items

-- `stat KIND META`
abbrev pub stat_text : Kind → FileMeta → List ℕ
stat_text kind meta = codes "stat " ++ kind_text kind ++ codes " " ++ meta_text meta

-- `refused ERROR`
abbrev pub refused_text : Errno → List ℕ
refused_text error = codes "refused " ++ errno_text error

abbrev pub client_name : Option ClientLine → List ℕ
client_name None = []
client_name (Some client) = client.name

-- the client's name, a point and the number of the call
abbrev pub ref_text : List ClientLine → CallRef → List ℕ
ref_text clients from = client_name (slice_get clients from.client) ++ codes "." ++ decimal from.number

-- the words of a script line after the client's name, joined by single spaces
abbrev pub call_text : Call → List ℕ
call_text (call.Mkdir path mode) = codes "mkdir " ++ path ++ codes " " ++ mode_text mode
call_text (call.Create path mode) = codes "create " ++ path ++ codes " " ++ mode_text mode
call_text (call.Rmdir path) = codes "rmdir " ++ path
call_text (call.Unlink path) = codes "unlink " ++ path
call_text (call.Stat path) = codes "stat " ++ path
call_text (call.List path) = codes "list " ++ path
call_text (call.Truncate path length) = codes "truncate " ++ path ++ codes " " ++ decimal length
call_text (call.Chmod path mode) = codes "chmod " ++ path ++ codes " " ++ mode_text mode
call_text (call.Rename old new) = codes "rename " ++ old ++ codes " " ++ new

-- a client's call of this number; its calls are numbered from 1
abbrev pub call_by : Option ClientLine → ℕ → Option Call
call_by None number = None
call_by (Some client) number = slice_get client.calls (number - 1)

-- the call that is meant
abbrev pub call_at : List ClientLine → CallRef → Option Call
call_at clients from = call_by (slice_get clients from.client) from.number

-- the words of a call that there is
abbrev pub words_of : Option Call → List ℕ
words_of None = []
words_of (Some call) = call_text call

abbrev pub answer_text : List ClientLine → Answer → List ℕ
answer_text clients answer.Done = codes "done"
answer_text clients (answer.Stat kind meta) = stat_text kind meta
answer_text clients (answer.Listing items) = listing_text items
answer_text clients (answer.Refused error) = refused_text error
answer_text clients (answer.Again by) = codes "again " ++ ref_text clients by
answer_text clients (answer.IdClash own kept) = codes "clash " ++ triple_text own ++ codes " " ++ triple_text kept
answer_text clients answer.NoMemory = codes "nomemory"
answer_text clients answer.Unanswered = codes "unanswered"
