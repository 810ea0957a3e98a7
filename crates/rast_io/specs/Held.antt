-- What a list of files, the oldest first, says of a name.
use Rattle.std.specs.Prelude.{ℕ, zero, suc, List, [], ◌∷◌, if◌then◌else◌, None, Some, string_bytes, drop, ◌<◌, ◌≤◌, length}
use Rattle.std.specs.Str.{bytes_eq}
use Rattle.std.specs.declared.option.Option.{Option}
use Rattle.rast_io.specs.Bytes.{Named}
use Rattle.rast_io.specs.declared.mem_files.File.{File}
use Rattle.rast_io.specs.declared.mem_files.Open.{Open}

-- the bytes of the last file of this name, or else those found before
abbrev pub newest_from : Option (List ℕ) → List File → List ℕ → Option (List ℕ)
newest_from found [] name = found
newest_from found (f ∷ fs) name = newest_from (if bytes_eq (string_bytes f.name) name then Some f.bytes.items else found) fs name

abbrev pub newest_of : List File → Named
newest_of files name = newest_from None files name

-- the bytes of the file at this place
abbrev pub bytes_at : List File → ℕ → List ℕ
bytes_at [] i = []
bytes_at (f ∷ fs) zero = f.bytes.items
bytes_at (f ∷ fs) (suc i) = bytes_at fs i

-- what is left of the open file
abbrev pub left_of : List File → Option Open → Option (List ℕ)
left_of files None = None
left_of files (Some o) = Some (drop o.read (bytes_at files o.place))

-- the open file is there, and no more of it was read than it has
abbrev pub IsPlaced : List File → Open → Type 0
IsPlaced files o = (o.place < length files) × (o.read ≤ length (bytes_at files o.place))
