-- The images that a session keeps of its log.
use Rattle.std.specs.Prelude.{◌%◌, ◌≡◌, ℕ, ◌*◌, ◌<◌, List, map}
use Rattle.std.specs.List.{AllByRecursion, Contains}
use Rattle.transformations.specs.Log.{commands_of}
use Rattle.transformations.specs.declared.entry.Entry.{Entry}
use Rattle.transformations.specs.declared.image.Image.{Image}
use Rattle.snapshot_store.specs.Images.{AreOf}

-- the epochs of images
abbrev pub epochs_of : List Image → List ℕ
epochs_of images = map (λ image. image.epoch) images

-- each multiple of 256 that is above 0 and below an epoch is the epoch of an image
abbrev pub HasEach : ℕ → List Image → Type 0
HasEach epoch images = (k : ℕ) → 0 < k → 256 * k < epoch → Contains (epochs_of images) (256 * k)

-- the images are states of a log, one of every 256th epoch below an epoch, and none of another epoch
pub record AreKept (log : List Entry) (epoch : ℕ) (images : List Image) : Type 0 where
  pub states : AreOf (commands_of log) images
  pub each : HasEach epoch images
  pub rare : AllByRecursion (λ image. image.epoch % 256 ≡ 0) images
