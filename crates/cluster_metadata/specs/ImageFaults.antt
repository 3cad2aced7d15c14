-- Why no metadata is made from an image.
use Rattle.std.specs.Prelude.{◌≡◌, Option, Some}
use Rattle.transformations.specs.ImageRules.{broken}
use Rattle.transformations.specs.declared.image_rules.BadImage.{BadImage}
use Rattle.cluster_metadata.specs.declared.image_fault.ImageFault.{ImageFault}
use Rattle.cluster_metadata.specs.declared.image_fault.ImageFault.TheVariants.{Bad, Memory}

-- an image is refused as bad only with the first rule that it breaks; a fault of memory tells nothing of the image
abbrev pub IsCause : Option BadImage → ImageFault → Type 0
IsCause broken (Bad bad) = broken ≡ Some bad
IsCause broken Memory = Unit {0}
