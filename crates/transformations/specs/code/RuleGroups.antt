-- The rules of valid images, some at a time.
use Rattle.std.specs.Prelude.{[], ◌∷◌, Option}
use Rattle.transformations.specs.ImageRules.{broken, first_broken, rule_1, rule_2, rule_3, rule_4, rule_5, rule_6, rule_7, rule_8, rule_9, rule_10, rule_11, rule_12, rule_13, rule_14, rule_15, rule_16, rule_17}
use Rattle.transformations.specs.declared.image.Image.{Image}
use Rattle.transformations.specs.declared.image_rules.BadImage.{BadImage}

-- the first rule of the nodes that is broken
abbrev pub nodes_broken : Image → Option BadImage
nodes_broken image = first_broken (broken 1 (rule_1 image) ∷ broken 2 (rule_2 image) ∷ broken 3 (rule_3 image) ∷ broken 4 (rule_4 image) ∷ [])

-- the first rule of the epoch and the next id that is broken
abbrev pub numbers_broken : Image → Option BadImage
numbers_broken image = first_broken (broken 5 (rule_5 image) ∷ broken 6 (rule_6 image) ∷ [])

-- the first rule of the ring that is broken
abbrev pub ring_broken : Image → Option BadImage
ring_broken image = first_broken (broken 7 (rule_7 image) ∷ broken 8 (rule_8 image) ∷ broken 9 (rule_9 image) ∷ [])

-- the first rule of the keyspaces that is broken
abbrev pub keyspaces_broken : Image → Option BadImage
keyspaces_broken image = first_broken (broken 10 (rule_10 image) ∷ broken 11 (rule_11 image) ∷ [])

-- the first rule of each movement that is broken
abbrev pub movements_broken : Image → Option BadImage
movements_broken image = first_broken (broken 12 (rule_12 image) ∷ broken 13 (rule_13 image) ∷ broken 14 (rule_14 image) ∷ [])

-- the first rule of all movements together that is broken
abbrev pub repeats_broken : Image → Option BadImage
repeats_broken image = first_broken (broken 15 (rule_15 image) ∷ broken 16 (rule_16 image) ∷ broken 17 (rule_17 image) ∷ [])
