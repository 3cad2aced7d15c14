-- Overlaps that are found movement by movement.
use Rattle.std.specs.Prelude.{◌≡◌, ℕ, Bool, true, false, pos, List, Option, Result, Ok, Err}
use Rattle.std.specs.List.{list_any}
use Rattle.transformations.specs.ImageRules.{broken, overlap, rule_18}
use Rattle.transformations.specs.declared.image.Image.{Image}
use Rattle.transformations.specs.declared.image_rules.BadImage.{BadImage}
use Rattle.transformations.specs.declared.sequence.SeqRow.{SeqRow}
use Rattle.cluster_metadata.specs.declared.image_fault.ImageFault.{ImageFault}
use Rattle.cluster_metadata.specs.declared.image_fault.ImageFault.TheVariants.{Bad, Memory}

-- the last rule with the node of a movement
abbrev pub overlapping_at : ℕ → BadImage
overlapping_at node = record { rule = 18; value = pos node }

-- whether a movement overlaps any of these
abbrev pub overlaps_any : Image → SeqRow → List SeqRow → Bool
overlaps_any image s earlier = list_any (overlap image s) earlier

-- the last rule, if the image breaks it
abbrev pub overlap_of : Image → Option BadImage
overlap_of image = broken 18 (rule_18 image)

-- a movement is refused exactly if it overlaps any of these
abbrev pub FindsOverlap : {X : Type 0} → Image → SeqRow → List SeqRow → Result X ImageFault → Type 0
FindsOverlap image s earlier (Ok x) = overlaps_any image s earlier ≡ false
FindsOverlap image s earlier (Err (Bad bad)) = (overlaps_any image s earlier ≡ true) × (bad ≡ overlapping_at s.node)
FindsOverlap image s earlier (Err Memory) = Unit {0}
