-- Replication factors, and their texts.
use Rattle.std.specs.Prelude.{ℕ, ◌≤◌, ◌&&◌, if◌then◌else◌, List, Option, Some, None, nat_le, decimal}
use Rattle.std.specs.Str.{bytes_eq}
use Rattle.std.specs.Str.Parse.{digits_value}

-- a factor is from 1 to 16
abbrev pub IsFactor : ℕ → Type 0
IsFactor n = (1 ≤ n) × (n ≤ 16)

-- the factor that a text writes in decimal digits, without a sign or leading zeros
unfoldable pub factor_of : List ℕ → Option ℕ
factor_of text =
    let n = digits_value 10 text in
    if bytes_eq text (decimal n) && (nat_le 1 n && nat_le n 16) then Some n else None
