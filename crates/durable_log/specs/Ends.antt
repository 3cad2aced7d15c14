-- Where the records of an image end, and what is written there.
use Rattle.std.specs.Prelude.{◌≡◌, ◌≢◌, ◌⊎◌, ◌<◌, ◌≤◌, ℕ, Bool, true, false, List, [], ◌∷◌, ◌++◌, length, take, drop, slice_index}
use Rattle.durable_log.specs.Disk.{Same, Written}
use Rattle.durable_log.specs.Records.{Change, body, records}

-- whole records stand before this place, whatever stands behind it
pub record IsFront (end : ℕ) (bytes : List ℕ) : Type 0 where
  pub within : end ≤ length bytes
  pub whole : (rest : List ℕ) → records (take end bytes ++ rest) ≡ records (take end bytes) ++ records rest

-- the records end at this place
pub record IsEnd (end : ℕ) (bytes : List ℕ) : Type 0 where
  pub front : IsFront end bytes
  pub nothing : records (drop end bytes) ≡ []

-- the records end at this place, and whether a closed gate stands there
pub record EndsAt (place : ℕ) (is_closed : Bool) (bytes : List ℕ) : Type 0 where
  pub end : IsEnd place bytes
  pub closed : is_closed ≡ true → (place < length bytes) × (slice_index bytes place ≢ 1)
  pub bare : is_closed ≡ false → (length bytes ≡ place) ⊎ (slice_index bytes place ≡ 1)

-- a closed gate stands where the records end, and nothing is written, or none does, and a 0 is written there
abbrev pub ClosesAt : ℕ → List ℕ → List ℕ → Type 0
ClosesAt place old new = (EndsAt place true old × Same old new) ⊎ (EndsAt place false old × Written place (0 ∷ []) old new)

-- where the records end, the record of a change is written, with a closed gate behind it
abbrev pub AddsRecord : Change → List ℕ → List ℕ → Type 0
AddsRecord change old new = (place : ℕ) × IsEnd place old × Written place (1 ∷ (body change ++ 0 ∷ [])) old new
