-- Headers, computed.
use Rattle.std.proofs.Common.{◌≡◌, Err, codes, refl}
use Rattle.std.specs.Fmt.{digits}
use Rattle.std.specs.Prelude.{Float}
use Rattle.serde_json.proofs.OnLiterals.{serde_json_on_literals}
use Rattle.serde_json.specs.Data.{float, number, object, no_members, member}
use Rattle.wire_json.specs.EntryTexts.{with_number, with_text}
use Rattle.wire_json.specs.Header.{header_text}
use Rattle.wire_json.specs.Reading.{header_of, line_in}
use Rattle.wire_json.specs.declared.line.ReadLineFault.TheVariants.{Bad}

pub text_of_header : header_text (codes "c1") ≡ codes "{\"cluster\":\"c1\",\"format\":2}"
unfolding header_text digits serde_json_on_literals
text_of_header = refl

-- another format, a format with a point, and no name
pub format_one : line_in (object (with_text (codes "cluster") (codes "c1") (with_number (codes "format") 1 no_members))) ≡ Err (Bad 7)
unfolding line_in header_of
format_one = refl

pub format_with_point : (x : Float) → line_in (object (with_text (codes "cluster") (codes "c1") (member (codes "format") (number (float x)) no_members))) ≡ Err (Bad 7)
unfolding line_in header_of
format_with_point x = refl

pub cluster_no_name : line_in (object (with_text (codes "cluster") (codes "c 1") (with_number (codes "format") 2 no_members))) ≡ Err (Bad 7)
unfolding line_in header_of
cluster_no_name = refl
