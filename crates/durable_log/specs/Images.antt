-- What the images of a store's disk stand for.
use Rattle.std.specs.Prelude.{◌≡◌, ◌⊎◌, ℕ, List, Option, None, Some, IfSome}
use Rattle.std.specs.Option.{option_map}
use Rattle.tcm_edges.specs.Files.{Files}
use Rattle.durable_log.specs.Ends.{ClosesAt}
use Rattle.durable_log.specs.Records.{Change, changed, files}

-- the files of a disk's content, if the disk tells it
abbrev pub told_files : Option (List ℕ) → Option Files
told_files content = option_map files content

-- an image stands for the same files as an earlier one
abbrev pub SameFiles : List ℕ → List ℕ → Type 0
SameFiles old new = files new ≡ files old

-- an image stands for the same files as an earlier one, or for these
abbrev pub SameFilesOr : Files → List ℕ → List ℕ → Type 0
SameFilesOr promised old new = (files new ≡ files old) ⊎ (files new ≡ promised)

-- each image stands for the files of the content
abbrev pub Stands : Option (List ℕ) → (List ℕ → Type 0) → Type 0
Stands content image = IfSome content (λ bytes. (c : List ℕ) → image c → files c ≡ files bytes)

-- each image stands for the files of the content, or for those after a change
abbrev pub StandsEither : Change → Option (List ℕ) → (List ℕ → Type 0) → Type 0
StandsEither change content image = IfSome content (λ bytes. (c : List ℕ) → image c → SameFilesOr (changed (files bytes) change) bytes c)

-- the records end at a closed gate: nothing was written where one stood there, and else a single 0, there
abbrev pub ClosesGate : List ℕ → List ℕ → Type 0
ClosesGate old new = (place : ℕ) × ClosesAt place old new

-- if the disk tells its content, a crash may leave these files: those of the content, or those of an image; else none
abbrev pub Shows : Option (List ℕ) → (List ℕ → Type 0) → Files → Type 0
Shows None image f = ⊥
Shows (Some bytes) image f = (c : List ℕ) × ((c ≡ bytes) ⊎ image c) × (f ≡ files c)
