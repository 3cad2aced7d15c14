-- The entry, the image or the header in a line of a file, or the first rule that the line breaks. The rules:
-- 1. A line has at most 4,194,304 bytes.
-- 2. It is a JSON text in UTF-8, nested at most 127 deep, without a number too large for a float.
-- 3. It is an object with exactly the keys of an entry, of a snapshot line or of a header.
-- 4. The id of an entry is a whole number below 2^64, and its epoch is one from 1 to 65,536.
-- 5. The command of an entry has the word of a kind and exactly the keys of this kind, and each value has its form.
-- 6. The value at `snapshot` is an image: it and its parts have exactly their keys, and each value has its form.
-- 7. The cluster of a header is a name, and its format is the whole number 2.
use Rattle.std.specs.Prelude.{ℕ, ◌≤◌, Bool, ◌&&◌, ◌==◌, if◌then◌else◌, List, [], ◌∷◌, length, Option, Some, None, Result, Ok, Err, option_and_then, ok_or, nat_le, codes, ⊤, IsTrue}
use Rattle.std.specs.Str.{is_utf8}
use Rattle.serde_json.specs.Data.{Data}
use Rattle.serde_json.specs.Read.{read}
use Rattle.transformations.specs.History.{is_command, most_epochs}
use Rattle.transformations.specs.declared.entry.Entry.{Entry as AnyEntry}
use Rattle.wire_json.specs.Header.{header_keys}
use Rattle.wire_json.specs.Kinds.{command_at}
use Rattle.wire_json.specs.Snapshots.{snapshot_at, snapshot_keys}
use Rattle.wire_json.specs.Values.{has_keys, name_at, number_at}
use Rattle.wire_json.specs.declared.line.Line.{Line}
use Rattle.wire_json.specs.declared.line.Line.TheVariants.{Header, Entry, Snapshot}
use Rattle.wire_json.specs.declared.line.ReadLineFault.{ReadLineFault}
use Rattle.wire_json.specs.declared.line.ReadLineFault.TheVariants.{Bad}

-- continues with the value of a step, unless the step broke a rule
infixl 10 ◌>>=◌
abbrev pub ◌>>=◌ : {A B : Type 0} → Result A ReadLineFault → (A → Result B ReadLineFault) → Result B ReadLineFault
Ok x >>= f = f x
Err e >>= f = Err e

-- a rule that requires a test to hold
abbrev pub holds : ℕ → Bool → Result ⊤ ReadLineFault
holds rule test = if test then Ok tt else Err (Bad rule)

-- a rule that requires a value
abbrev pub found : {A : Type 0} → ℕ → Option A → Result A ReadLineFault
found rule o = ok_or o (Bad rule)

-- the most bytes of a line, without its line feed
abbrev pub most_bytes : ℕ
most_bytes = 4194304

-- the JSON value in the bytes, if they are a JSON text in UTF-8
abbrev pub value_of : List ℕ → Option Data
value_of bytes = if is_utf8 bytes then read bytes else None

-- the keys of an entry
abbrev pub entry_keys : List (List ℕ)
entry_keys = codes "command" ∷ codes "entry" ∷ codes "epoch" ∷ []

-- the epoch of an entry: a whole number from 1 to 65,536
abbrev pub epoch_at : List ℕ → Data → Option ℕ
epoch_at key value = option_and_then (λ n. if nat_le 1 n && nat_le n most_epochs then Some n else None) (number_at key value)

-- the entry in a JSON value. `do` takes its lines in order: the first rule that fails is the answer
unfoldable pub entry_of : Data → Result AnyEntry ReadLineFault
entry_of value = do
  keys ← holds 3 (has_keys entry_keys value)
  id ← found 4 (number_at (codes "entry") value)
  epoch ← found 4 (epoch_at (codes "epoch") value)
  command ← found 5 (command_at (codes "command") value)
  Ok (record { id = id; epoch = epoch; cmd = command })

-- the cluster's name in a header, whose format is the whole number 2
unfoldable pub header_of : Data → Result (List ℕ) ReadLineFault
header_of value = do
  cluster ← found 7 (name_at (codes "cluster") value)
  format ← found 7 (number_at (codes "format") value)
  two ← holds 7 (format == 2)
  Ok cluster

-- the image of a snapshot line, or rule 6
abbrev pub image_of_line : Data → Result Line ReadLineFault
image_of_line value = do
  image ← found 6 (snapshot_at (codes "snapshot") value)
  Ok (Snapshot image)

-- a header, or rule 7
abbrev pub header_of_line : Data → Result Line ReadLineFault
header_of_line value = do
  cluster ← header_of value
  Ok (Header cluster)

-- an entry, or the first of rules 3 to 5 that the value breaks
abbrev pub entry_of_line : Data → Result Line ReadLineFault
entry_of_line value = do
  entry ← entry_of value
  Ok (Entry entry)

-- what a JSON value says: an image, if its only key is `snapshot`, a header, if its keys are those of a header, and
-- otherwise an entry. So a value that is no object, or has the keys of none, breaks rule 3
unfoldable pub line_in : Data → Result Line ReadLineFault
line_in value =
    if has_keys snapshot_keys value then image_of_line value
    else if has_keys header_keys value then header_of_line value
    else entry_of_line value

-- what a line says, or the first rule that the line breaks. The line comes without its line feed
unfoldable pub reading : List ℕ → Result Line ReadLineFault
reading bytes = do
  short ← holds 1 (nat_le (length bytes) most_bytes)
  value ← found 2 (value_of bytes)
  line_in value

-- if the line is an entry whose command lists tokens, they are 1 to 256 and ascend
abbrev pub HasTokens : Line → Type 0
HasTokens (Header cluster) = ⊤
HasTokens (Entry entry) = IsTrue (is_command entry.cmd)
HasTokens (Snapshot image) = ⊤

-- if the line is an entry, its epoch is at most the last one that there can be
abbrev pub HasEpoch : Line → Type 0
HasEpoch (Header cluster) = ⊤
HasEpoch (Entry entry) = entry.epoch ≤ most_epochs
HasEpoch (Snapshot image) = ⊤
