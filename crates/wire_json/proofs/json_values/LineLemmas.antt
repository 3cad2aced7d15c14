-- What the JSON value of a line says.
use Rattle.std.proofs.Common.{◌≡◌, Option, Some, None, option_map, Result, Ok, Err, IfOk, codes, refl}
use Rattle.serde_json.specs.Data.{Data}
use Rattle.serde_json.specs.Find.{get}
use Rattle.transformations.specs.declared.entry.Entry.{Entry as AnyEntry}
use Rattle.transformations.specs.declared.image.Image.{Image}
use Rattle.wire_json.specs.Reading.{◌>>=◌, HasEpoch, HasTokens, entry_of, entry_of_line, found, image_of_line, line_in}
use Rattle.wire_json.specs.code.ReadResults.{Gives}
use Rattle.wire_json.specs.Snapshots.{image_in}
use Rattle.wire_json.specs.declared.line.Line.{Line}
use Rattle.wire_json.specs.declared.line.Line.TheVariants.{Header, Entry, Snapshot}
use Rattle.wire_json.specs.declared.line.ReadLineFault.{ReadLineFault}
use Rattle.wire_json.specs.declared.line.ReadLineFault.TheVariants.{Bad, Memory}
use Rattle.wire_json.proofs.entries.EntryEpochs.{entry_epoch}
use Rattle.wire_json.proofs.entries.EntryTokens.{entry_tokens}
use Rattle.wire_json.proofs.json_values.LineParts.{line_parts}

-- an entry as a line
pub gives_entry : (value : Data) (r : Result AnyEntry ReadLineFault) → Gives (λ entry. entry) r (entry_of value) → Gives (λ line. line) (r >>= (λ entry. Ok (Entry entry))) (entry_of_line value)
gives_entry value (Ok entry) given = rw given
gives_entry value (Err Memory) given = tt
gives_entry value (Err (Bad rule)) given = rw given

-- an image as a line
pub gives_image : (value image : Data) (r : Result Line ReadLineFault) → get (codes "snapshot") value ≡ Some image → Gives (λ line. line) r (found 6 (option_map Snapshot (image_in image))) → Gives (λ line. line) r (image_of_line value)
gives_image value image r is given = rw (is, by (image_in image)) given
  where
    by : (o : Option Image) → (found 6 o >>= (λ i. Ok (Snapshot i))) ≡ found 6 (option_map Snapshot o)
    by None = refl
    by (Some i) = refl

-- the tokens and the epoch of a line
pub line_tokens : (value : Data) (r : Result Line ReadLineFault) → Gives (λ line. line) r (line_in value) → IfOk r HasTokens
line_tokens value (Ok (Header cluster)) given = tt
line_tokens value (Ok (Entry entry)) given = entry_tokens value entry (line_parts value (Entry entry) given)
line_tokens value (Ok (Snapshot image)) given = tt
line_tokens value (Err fault) given = tt

pub line_epoch : (value : Data) (r : Result Line ReadLineFault) → Gives (λ line. line) r (line_in value) → IfOk r HasEpoch
line_epoch value (Ok (Header cluster)) given = tt
line_epoch value (Ok (Entry entry)) given = entry_epoch value entry (line_parts value (Entry entry) given)
line_epoch value (Ok (Snapshot image)) given = tt
line_epoch value (Err fault) given = tt
