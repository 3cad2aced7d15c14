-- A header has no float.
use Rattle.std.proofs.Common.{◌≡◌, ℕ, false, List, refl}
use Rattle.serde_json.specs.Written.{has_float}
use Rattle.wire_json.specs.Header.{header_data}

pub no_float : (cluster : List ℕ) → has_float (header_data cluster) ≡ false
no_float cluster = refl
