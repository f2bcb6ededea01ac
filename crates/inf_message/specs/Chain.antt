-- The end of a chain, and the way to it.
use Rattle.std.specs.Prelude.{◌-◌, List, length, replicate, take, slice_get, Option, Some, None}
use Rattle.inf_base.specs.declared.directory.DirRef.{DirRef}
use Rattle.inf_base.specs.declared.entry.Entry.{Entry}
use Rattle.inf_base.specs.Same.{dir_of}

abbrev pub last_entry : List Entry → Option Entry
last_entry chain = slice_get chain (length chain - 1)

-- but for its last entry
abbrev pub way_to : List Entry → List Entry
way_to chain = take (length chain - 1) chain

-- a chain without an entry leads to no directory
abbrev pub no_dir : DirRef
no_dir = record { id = record { bytes = replicate 32 0 }; born = 0 }

abbrev pub dir_in : Option Entry → DirRef
dir_in None = no_dir
dir_in (Some entry) = dir_of entry.access

-- the directory that a chain leads to
abbrev pub last_dir : List Entry → DirRef
last_dir chain = dir_in (last_entry chain)
