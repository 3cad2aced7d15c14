-- The nearest kept image.
use Rattle.std.specs.Prelude.{ℕ, ◌≤◌, List, ◌∷◌}
use Rattle.std.specs.List.{AllByRecursion, Contains}
use Rattle.transformations.specs.History.{empty_image}
use Rattle.transformations.specs.declared.image.Image.{Image}

-- the nearest image at or below an epoch: it is kept or the empty one, and no kept one lies between
pub record IsNearest (images : List Image) (e : ℕ) (image : Image) : Type 0 where
  pub among : Contains (empty_image ∷ images) image
  pub below : image.epoch ≤ e
  pub greatest : AllByRecursion (λ kept. kept.epoch ≤ e → kept.epoch ≤ image.epoch) images
