-- What a line that is read is made of.
use Rattle.std.proofs.Common.{◌≡◌, ℕ, Bool, true, false, if◌then◌else◌, List, length, nat_le, Option, Some, None, Result, Ok, Err, codes, refl, subst}
use Rattle.serde_json.specs.Data.{Data}
use Rattle.transformations.specs.declared.entry.Entry.{Entry as AnyEntry}
use Rattle.transformations.specs.declared.image.Image.{Image}
use Rattle.wire_json.specs.Header.{header_keys}
use Rattle.wire_json.specs.Reading.{◌>>=◌, entry_of, found, header_of, holds, line_in, most_bytes, reading, value_of}
use Rattle.wire_json.specs.Snapshots.{snapshot_at, snapshot_keys}
use Rattle.wire_json.specs.Values.{has_keys}
use Rattle.wire_json.specs.declared.line.Line.{Line}
use Rattle.wire_json.specs.declared.line.Line.TheVariants.{Header, Entry, Snapshot}
use Rattle.wire_json.specs.declared.line.ReadLineFault.{ReadLineFault}

-- a line that these make: an image, a cluster's name in a header, and an entry
abbrev IsMade : Option Image → Result (List ℕ) ReadLineFault → Result AnyEntry ReadLineFault → Line → Type 0
IsMade image cluster entry (Header name) = cluster ≡ Ok name
IsMade image cluster entry (Entry e) = entry ≡ Ok e
IsMade image cluster entry (Snapshot i) = image ≡ Some i

abbrev line_by : Bool → Bool → Option Image → Result (List ℕ) ReadLineFault → Result AnyEntry ReadLineFault → Result Line ReadLineFault
line_by snapshot header image cluster entry =
    if snapshot then (do
      image ← found 6 image
      Ok (Snapshot image))
    else if header then (do
      cluster ← cluster
      Ok (Header cluster))
    else (do
      entry ← entry
      Ok (Entry entry))

-- a line is made of the parts of its value
abbrev pub IsMadeOf : Data → Line → Type 0
IsMadeOf value line = IsMade (snapshot_at (codes "snapshot") value) (header_of value) (entry_of value) line

pub line_parts : (value : Data) (line : Line) → line_in value ≡ Ok line → IsMadeOf value line
unfolding line_in
line_parts value line is = by (has_keys snapshot_keys value) (has_keys header_keys value) (snapshot_at (codes "snapshot") value) (header_of value) (entry_of value) is
  where
    by : (snapshot header : Bool) (image : Option Image) (cluster : Result (List ℕ) ReadLineFault) (entry : Result AnyEntry ReadLineFault) → line_by snapshot header image cluster entry ≡ Ok line → IsMade image cluster entry line
    by true header None cluster entry is = absurd (cc)
    by true header (Some image) cluster entry is = (let same : Snapshot image ≡ line = cc in subst (IsMade (Some image) cluster entry) same refl)
    by false true image (Err fault) entry is = absurd (cc)
    by false true image (Ok cluster) entry is = (let same : Header cluster ≡ line = cc in subst (IsMade image (Ok cluster) entry) same refl)
    by false false image cluster (Ok entry) is = (let same : Entry entry ≡ line = cc in subst (IsMade image cluster (Ok entry)) same refl)
    by false false image cluster (Err fault) is = absurd (cc)

-- a line that is read, with the value of its bytes
pub record HasValue (line : Line) : Type 0 where
  pub value : Data
  pub made : IsMadeOf value line

pub reading_parts : (bytes : List ℕ) (line : Line) → reading bytes ≡ Ok line → HasValue line
unfolding reading
reading_parts bytes line is = by (nat_le (length bytes) most_bytes) (value_of bytes) is
  where
    read_by : Bool → Option Data → Result Line ReadLineFault
    read_by short value = do
      short ← holds 1 short
      value ← found 2 value
      line_in value

    by : (short : Bool) (value : Option Data) → read_by short value ≡ Ok line → HasValue line
    by false value is = absurd (cc)
    by true None is = absurd (cc)
    by true (Some value) is = record { value = value; made = line_parts value line is }
