-- Tokens and arcs of the ring of the Murmur3 partitioner. In this project the least token is a token like any other.
use Rattle.std.specs.Prelude.{Bool, ◌&&◌, ◌||◌, if◌then◌else◌, ℤ, pos, negsuc, int_lt, int_le, ◌≤ℤ◌}

-- the greatest token, 2^63 - 1
abbrev pub greatest_token : ℤ
greatest_token = pos 9223372036854775807

-- a token is a number from -2^63 to the greatest token
abbrev pub IsToken : ℤ → Type 0
IsToken t = (negsuc 9223372036854775807 ≤ℤ t) × (t ≤ℤ greatest_token)

-- whether t comes before y clockwise from x: x itself does, y does not, and if x and y are equal, no token does
abbrev pub in_arc : ℤ → ℤ → ℤ → Bool
in_arc x y t = if int_le x y then int_le x t && int_lt t y else int_le x t || int_lt t y
