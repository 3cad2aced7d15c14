-- What an image stands for: its records, and the files after them.
use Rattle.std.specs.Prelude.{ℕ, zero, suc, ◌+◌, ◌-◌, Bool, ◌&&◌, ◌==◌, nat_le, if◌then◌else◌, List, [], ◌∷◌, ◌++◌, length, take, drop, slice_index}
use Rattle.std.specs.Int.{w64, to_be_bytes, from_be_bytes}
use Rattle.std.specs.FinMap as map
use Rattle.tcm_edges.specs.Files.{Files, content, file_of}

-- a change of a file: kind 0 adds the bytes at its end, kind 1 puts them in its place
pub record Change : Type 0 where
  pub kind : ℕ
  pub name : List ℕ
  pub bytes : List ℕ

-- the bytes of a record after its gate
abbrev pub body : Change → List ℕ
body change = change.kind ∷ to_be_bytes w64 (length change.name) ++ to_be_bytes w64 (length change.bytes) ++ change.name ++ change.bytes

-- the number in the eight bytes at this place
abbrev pub number_at : ℕ → List ℕ → ℕ
number_at at bytes = from_be_bytes w64 (take 8 (drop at bytes))

-- the length of a record, by its header
abbrev pub record_len : List ℕ → ℕ
record_len bytes = 18 + (number_at 2 bytes + number_at 10 bytes)

-- whether a whole record stands at the front: its gate is open, its kind is known, and it ends within the bytes
abbrev pub is_whole : List ℕ → Bool
is_whole bytes = nat_le 18 (length bytes) && (slice_index bytes 0 == 1 && (nat_le (slice_index bytes 1) 1 && nat_le (record_len bytes) (length bytes)))

-- the change in the record at the front
abbrev pub change_of : List ℕ → Change
change_of bytes = record {
  kind = slice_index bytes 1;
  name = take (number_at 2 bytes) (drop 18 bytes);
  bytes = take (number_at 10 bytes) (drop (18 + number_at 2 bytes) bytes);
}

-- the whole records that follow each other behind the first n bytes, up to the first that isn't whole; the n bytes are
-- what is left of the record before
abbrev pub records_past : ℕ → List ℕ → List Change
records_past n [] = []
records_past (suc n) (b ∷ rest) = records_past n rest
records_past zero (b ∷ rest) = if is_whole (b ∷ rest) then change_of (b ∷ rest) ∷ records_past (record_len (b ∷ rest) - 1) rest else []

-- the records of an image: whole ones from its front on
abbrev pub records : List ℕ → List Change
records image = records_past 0 image

-- the files after a change
abbrev pub changed : Files → Change → Files
changed all change = map.insert all change.name (if change.kind == 0 then content (file_of all change.name) ++ change.bytes else change.bytes)

-- the files after these changes, the first of them first
abbrev pub changed_all : Files → List Change → Files
changed_all all [] = all
changed_all all (change ∷ more) = changed_all (changed all change) more

-- the files that an image stands for
abbrev pub files : List ℕ → Files
files image = changed_all map.empty (records image)

-- the change by an append
abbrev pub appending : List ℕ → List ℕ → Change
appending name bytes = record { kind = 0; name = name; bytes = bytes }

-- the change by a replace
abbrev pub replacing : List ℕ → List ℕ → Change
replacing name bytes = record { kind = 1; name = name; bytes = bytes }
