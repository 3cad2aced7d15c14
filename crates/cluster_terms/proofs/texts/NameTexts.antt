-- Names as bytes of a line: a name is UTF-8.
use Rattle.std.proofs.Common.{◌≡◌, ℕ, ◌&&◌, true, false, List, [], ◌∷◌, length, nat_le, arith}
use Rattle.std.specs.List.{list_all}
use Rattle.std.specs.Str.{IsAscii, IsUtf8}
use Rattle.std.proofs.lemmas.Bool.{and_parts, false_from_ne_true}
use Rattle.std.proofs.lemmas.Bool.Decides.{nat_tests}
use Rattle.std.proofs.lemmas.Str.{IsUtf8-from_ascii}
use Rattle.std.proofs.lemmas.Str.Ascii.{IsAscii-nil, IsAscii-cons}
use Rattle.cluster_terms.specs.Name.{is_name, is_name_byte}

-- the bytes of names are ASCII
ascii : (bytes : List ℕ) → list_all is_name_byte bytes ≡ true → IsAscii bytes
ascii [] all = IsAscii-nil
ascii (c ∷ cs) all =
    let parts = and_parts (is_name_byte c) (list_all is_name_byte cs) all in
    IsAscii-cons c cs (grind (arith, nat_tests, parts.0)) (ascii cs parts.1)

-- bytes that are no UTF-8 are no name
pub no_name : (bytes : List ℕ) → (IsUtf8 bytes → ⊥) → is_name bytes ≡ false
no_name bytes bad = false_from_ne_true (is_name bytes) (λ name. bad (IsUtf8-from_ascii bytes (ascii bytes (and_parts (nat_le 1 (length bytes) && nat_le (length bytes) 32) (list_all is_name_byte bytes) name).1)))
