-- Files: bytes by name.
use Rattle.std.specs.Prelude.{◌≡◌, ◌≢◌, ℕ, List, [], ◌++◌, length, take, ⊤, Option, None, Some, nat_le, if◌then◌else◌, unwrap_or, ◌⊎◌, IfSome}
use Rattle.std.specs.Ordering.{nat_cmp}
use Rattle.std.specs.Cmp.Lexicographic.{slice_cmp}
use Rattle.std.specs.FinMap as map
use Rattle.tcm_edges.specs.declared.store.Loaded.{Loaded}
use Rattle.tcm_edges.specs.declared.store.Loaded.TheVariants.{Bytes, Absent, TooLarge}

-- the bytes of each file, by its name
abbrev pub Files : Type 0
Files = map.FinMap (slice_cmp nat_cmp) (List ℕ)

-- the file with this name; None if it is absent
abbrev pub file_of : Files → List ℕ → Option (List ℕ)
file_of all name = map.get all name

-- the answer of a load of this file, with a limit of bytes
abbrev pub loaded_of : Option (List ℕ) → ℕ → Loaded
loaded_of None limit = Absent
loaded_of (Some bytes) limit = if nat_le (length bytes) limit then Bytes bytes else TooLarge (length bytes)

-- the answer of a load of some file; if the store tells its files, it is the file with this name
pub record IsLoad (all : Option Files) (name : List ℕ) (limit : ℕ) (loaded : Loaded) : Type 0 where
  pub file : Option (List ℕ)
  pub told : IfSome all (λ all. file ≡ file_of all name)
  pub answer : loaded ≡ loaded_of file limit

-- the files of a store that does not tell them
abbrev pub untold_files : Option Files
untold_files = None

-- the contents of a file, which are empty if it is absent
abbrev pub content : Option (List ℕ) → List ℕ
content file = unwrap_or file []

-- a file has gained the bytes; an absent file is made
abbrev pub GainsAll : List ℕ → Option (List ℕ) → Option (List ℕ) → Type 0
GainsAll bytes old new = new ≡ Some (content old ++ bytes)

-- a file is as before, or has gained a prefix of the bytes
abbrev pub GainsPart : List ℕ → Option (List ℕ) → Option (List ℕ) → Type 0
GainsPart bytes old new = (new ≡ old) ⊎ ((n : ℕ) × (new ≡ Some (content old ++ take n bytes)))

-- a file consists of the bytes
abbrev pub IsReplaced : List ℕ → Option (List ℕ) → Option (List ℕ) → Type 0
IsReplaced bytes old new = new ≡ Some bytes

-- a file is as before, or consists of the bytes
abbrev pub IsOldOrNew : List ℕ → Option (List ℕ) → Option (List ℕ) → Type 0
IsOldOrNew bytes old new = (new ≡ old) ⊎ (new ≡ Some bytes)

-- how the file with this name changed, if the store tells its files
abbrev pub ChangesFile : (Option (List ℕ) → Option (List ℕ) → Type 0) → Option Files → Option Files → List ℕ → Type 0
ChangesFile Change None new name = ⊤
ChangesFile Change (Some old) None name = ⊥
ChangesFile Change (Some old) (Some new) name = Change (file_of old name) (file_of new name)

-- no file with another name changed, if the store tells its files
abbrev pub OthersKept : Option Files → Option Files → List ℕ → Type 0
OthersKept None new name = ⊤
OthersKept (Some old) None name = ⊥
OthersKept (Some old) (Some new) name = (other : List ℕ) → other ≢ name → file_of new other ≡ file_of old other
