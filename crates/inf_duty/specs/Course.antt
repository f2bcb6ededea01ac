-- What a call looks up, and what it does where its path leads.
use Rattle.std.specs.Prelude.{ℕ, List, [], ◌∷◌, Option, Some, None, Result, Ok}
use Rattle.inf_base.specs.declared.call.Call.{Call}
use Rattle.inf_base.specs.declared.call.Call.TheVariants as call
use Rattle.inf_base.specs.declared.entry.Entry.{Entry}
use Rattle.inf_base.specs.declared.errno.Errno.{Errno}
use Rattle.inf_base.specs.Path.{path_of}
use Rattle.inf_duty.specs.declared.course.Course.{Course}
use Rattle.inf_duty.specs.declared.course.Deed.{Deed}
use Rattle.inf_duty.specs.declared.course.Deed.TheVariants as deed
use Rattle.inf_duty.specs.declared.flow.Flow.{Flow}
use Rattle.inf_duty.specs.declared.flow.Flow.TheVariants as flow
use Rattle.inf_flow_dir.specs.declared.dir_flow.DirFlow.TheVariants as dir_flow
use Rattle.inf_flow_file.specs.declared.file_flow.FileFlow.TheVariants as file_flow
use Rattle.inf_message.specs.declared.op.Op.TheVariants as op
use Rattle.inf_resolve.specs.declared.looked.Looked.{Looked}

-- the names of a path but the last, and the last
abbrev pub split : List ℕ → List (List ℕ) → List (List ℕ) × List ℕ
split name [] = ([], name)
split name (next ∷ rest) = (name ∷ (split next rest).0, (split next rest).1)

-- the names of the one path of a call
abbrev pub one_path : List (List ℕ) → Looked
one_path names = record { old = names; new = [] }

abbrev pub course : List (List ℕ) → Deed → Option Course
course names what = Some (record { looked = one_path names; deed = what })

-- what is done at the last name, in the directory of the others
abbrev pub course_in : Call → List (List ℕ) × List ℕ → Option Course
course_in (call.Create path mode) (way, name) = course way (deed.Create name mode)
course_in (call.Stat path) (way, name) = course way (deed.Stat name)
course_in (call.Mkdir path mode) (way, name) = course way (deed.Mkdir name mode)
course_in other names = None

abbrev pub course_at : Call → Result (List (List ℕ)) Errno → Option Course
course_at (call.Rmdir path) (Ok (name ∷ names)) = course (name ∷ names) deed.Rmdir
course_at asked (Ok (name ∷ names)) = course_in asked (split name names)
course_at asked other = None

abbrev pub text_of : Call → List ℕ
text_of (call.Create path mode) = path
text_of (call.Stat path) = path
text_of (call.Mkdir path mode) = path
text_of (call.Rmdir path) = path
text_of other = []

-- the course of a call, of the kinds that go by these flows
abbrev pub course_of : Call → Option Course
course_of asked = course_at asked (path_of (text_of asked))

abbrev pub next_course : List Call → Option Course
next_course [] = None
next_course (next ∷ calls) = course_of next

-- the flow of a call whose path has led to its end, or to the names that are left, at the first of which it stops: the
-- last of an rmdir's is that of the directory itself
abbrev pub flow_at : Deed → List Entry → List (List ℕ) → Flow
flow_at (deed.Create name mode) chain [] = flow.File (file_flow.Finishes chain (op.Create name mode))
flow_at (deed.Stat name) chain [] = flow.File (file_flow.Finishes chain (op.Stat name))
flow_at (deed.Mkdir name mode) chain [] = flow.Dir (dir_flow.Reserves chain name mode)
flow_at deed.Rmdir chain [] = flow.Dir (dir_flow.Seals chain)
flow_at deed.Rmdir chain (name ∷ []) = flow.File (file_flow.Finishes chain (op.RmdirName name))
flow_at what chain (name ∷ rest) = flow.File (file_flow.Finishes chain (op.Walk name))
