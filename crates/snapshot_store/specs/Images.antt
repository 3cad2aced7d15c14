-- The images that are kept of a log.
use Rattle.std.specs.Prelude.{◌≡◌, ℕ, ◌<◌, ◌≤◌, List, length, Option, Some, None}
use Rattle.std.specs.List.{AllByRecursion, AllPairs}
use Rattle.transformations.specs.History.{state_after}
use Rattle.transformations.specs.declared.command.Command.{Command}
use Rattle.transformations.specs.declared.image.Image.{Image}

-- the epochs of images ascend
abbrev pub Ascend : List Image → Type 0
Ascend images = AllPairs (λ image later. image.epoch < later.epoch) images

-- the images are those of a history at their epochs, and none is past its last epoch
abbrev pub AreOf : List Command → List Image → Type 0
AreOf history images =
    AllByRecursion (λ image. (image.epoch ≤ length history) × (image ≡ state_after history image.epoch)) images

-- the epoch of an image, 0 if there is none
abbrev pub epoch_of : Option Image → ℕ
epoch_of None = 0
epoch_of (Some image) = image.epoch
