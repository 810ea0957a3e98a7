-- What files in memory show of themselves.
use Rattle.std.specs.Prelude.{ℕ, List, if◌then◌else◌, Some}
use Rattle.std.specs.Str.{bytes_eq}
use Rattle.std.specs.declared.option.Option.{Option}
use Rattle.rast_io.specs.Bytes.{Named}
use Rattle.rast_io.specs.Held.{newest_of, left_of}
use Rattle.rast_io.specs.declared.mem_files.MemFiles.{MemFiles}

-- the files by name
abbrev pub files_held : MemFiles → Named
files_held s = newest_of s.files.items

-- what is left of the open file, if one is open
abbrev pub files_left : MemFiles → Option (List ℕ)
files_left s = left_of s.files.items s.current

-- how many calls of open and read there were
abbrev pub files_calls : MemFiles → ℕ
files_calls s = s.calls.done

-- the calls that are to fail, by their numbers from 1 on
abbrev pub files_listed : MemFiles → List ℕ
files_listed s = s.calls.listed.items

-- how many calls have failed
abbrev pub files_faults : MemFiles → ℕ
files_faults s = s.calls.faults

-- the same files, with this one in the place of an older one of its name
abbrev pub with_file : Named → List ℕ → List ℕ → Named
with_file held name bytes n = if bytes_eq name n then Some bytes else held n
