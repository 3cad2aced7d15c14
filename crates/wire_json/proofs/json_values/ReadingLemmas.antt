-- What a line says, a step at a time.
use Rattle.std.proofs.Common.{◌≡◌, ◌≢◌, ℕ, ◌<◌, ◌≤◌, Bool, true, false, List, length, Some, None, Result, Ok, Err, nat_le, IsUtf8, refl, sym, ap, ◌∙◌, arith}
use Rattle.std.specs.Str.{is_utf8}
use Rattle.std.proofs.lemmas.Bool.{le-leb}
use Rattle.std.proofs.lemmas.Bool.Decides.{nat_tests}
use Rattle.std.proofs.lemmas.Str.{IsUtf8-from_is_utf8, is_utf8-from_IsUtf8}
use Rattle.serde_json.specs.Data.{Data, depth}
use Rattle.serde_json.specs.Read.{max_depth, read}
use Rattle.serde_json.specs.Written.{compact_text}
use Rattle.wire_json.proofs.json_values.WholeData.{Fits-text, IsWhole, read-text}
use Rattle.wire_json.specs.Reading.{found, line_in, most_bytes, reading, value_of}
use Rattle.wire_json.specs.code.ReadResults.{Gives}
use Rattle.wire_json.specs.declared.line.Line.{Line}
use Rattle.wire_json.specs.declared.line.ReadLineFault.{ReadLineFault}
use Rattle.wire_json.specs.declared.line.ReadLineFault.TheVariants.{Bad, Memory}

-- ---- values

-- bytes that are UTF-8 and JSON are a value
value_is : (bytes : List ℕ) (d : Data) → IsUtf8 bytes → read bytes ≡ Some d → value_of bytes ≡ Some d
value_is bytes d utf8 is = rw (is_utf8-from_IsUtf8 bytes utf8) is

pub value_there : (bytes : List ℕ) (d : Data) → IsUtf8 bytes × (read bytes ≡ Some d) → found 2 (value_of bytes) ≡ Ok d
value_there bytes d both = ap (found 2) (value_is bytes d both.0 both.1)

-- bytes that are not UTF-8, or not JSON, are none
pub no_value : (bytes : List ℕ) → (IsUtf8 bytes → read bytes ≡ None) → found 2 (value_of bytes) ≡ Err (Bad 2)
no_value bytes none = by (is_utf8 bytes) refl
  where
    by : (b : Bool) → is_utf8 bytes ≡ b → found 2 (value_of bytes) ≡ Err (Bad 2)
    by true is = (let none_there = none (IsUtf8-from_is_utf8 bytes is) in rw (is, none_there))
    by false is = rw is

-- ---- lines

-- a line that is too long
pub reading-long : (bytes : List ℕ) → most_bytes < length bytes → reading bytes ≡ Err (Bad 1)
unfolding reading
reading-long bytes long = rw (lt-leb-false (length bytes) long)
  where
    lt-leb-false : (n : ℕ) → most_bytes < n → nat_le n most_bytes ≡ false
    lt-leb-false n more = grind (arith, nat_tests)

-- a line that is no value, and a value
pub reading-no_value : (bytes : List ℕ) (rule : ℕ) → length bytes ≤ most_bytes → found 2 (value_of bytes) ≡ Err (Bad rule) → reading bytes ≡ Err (Bad rule)
unfolding reading
reading-no_value bytes rule short none = rw (le-leb _ _ short, none)

reading-value : (bytes : List ℕ) (d : Data) → length bytes ≤ most_bytes → found 2 (value_of bytes) ≡ Ok d → reading bytes ≡ line_in d
unfolding reading
reading-value bytes d short is = rw (le-leb _ _ short, is)

-- the text of data says what the data says
pub reading-text : (d : Data) → IsWhole d → depth d ≤ max_depth → length (compact_text d) ≤ most_bytes → reading (compact_text d) ≡ line_in d
reading-text d whole shallow short = reading-value (compact_text d) d short (value_there (compact_text d) d ((Fits-text d whole).0, read-text d whole shallow))

-- what is passed on of a fault, and of what a value says
pub passed_no_value : {X : Type 0} (view : X → Data) (bytes : List ℕ) (e : ReadLineFault) (r : Result Line ReadLineFault) → length bytes ≤ most_bytes → Gives view (Err e) (found 2 (value_of bytes)) → r ≡ Err e → r ≢ Err Memory
    → r ≡ reading bytes
passed_no_value view bytes Memory r short given is other = absurd (other is)
passed_no_value view bytes (Bad rule) r short given is other = is ∙ sym (reading-no_value bytes rule short given)

pub passed_line : (bytes : List ℕ) (d : Data) (r : Result Line ReadLineFault) → length bytes ≤ most_bytes → found 2 (value_of bytes) ≡ Ok d → Gives (λ line. line) r (line_in d) → r ≢ Err Memory → r ≡ reading bytes
passed_line bytes d (Ok line) short is given other = sym (reading-value bytes d short is ∙ given)
passed_line bytes d (Err Memory) short is given other = absurd (other refl)
passed_line bytes d (Err (Bad rule)) short is given other = sym (reading-value bytes d short is ∙ given)
