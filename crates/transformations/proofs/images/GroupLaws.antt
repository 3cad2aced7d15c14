-- The rules, some at a time.
use Rattle.std.proofs.Common.{◌≡◌, ℕ, Bool, true, false, ℤ, List, [], ◌∷◌, ◌++◌, Option, Some, None, is_some, refl, sym, ap, ◌∙◌}
use Rattle.std.specs.Option.{option_or}
use Rattle.transformations.proofs.images.OverLemmas.{map_none}
use Rattle.transformations.proofs.images.FirstBadLemmas.{or_none}
use Rattle.transformations.specs.ImageRules.{broken, broken_rule, first_broken, rule_1, rule_2, rule_3, rule_4, rule_5, rule_6, rule_7, rule_8, rule_9, rule_10, rule_11, rule_12, rule_13, rule_14, rule_15, rule_16, rule_17}
use Rattle.transformations.specs.code.RuleGroups.{keyspaces_broken, movements_broken, nodes_broken, numbers_broken, repeats_broken, ring_broken}
use Rattle.transformations.specs.declared.image.Image.{Image}
use Rattle.transformations.specs.declared.image_rules.BadImage.{BadImage}

-- a rule that isn't broken
pub unbroken : (n : ℕ) (found : Option ℤ) → broken n found ≡ None → found ≡ None
unbroken n found h = map_none (λ value. mk n value) found h
  where
    mk : ℕ → ℤ → BadImage
    mk n value = record { rule = n; value = value }

-- the rules of two lists, one after the other
or_assoc : {A : Type 0} (a b d : Option A) → option_or a (option_or b d) ≡ option_or (option_or a b) d
or_assoc None b d = refl
or_assoc (Some x) b d = refl

pub none_of : (rule : Option BadImage) (rules : List (Option BadImage)) → first_broken (rule ∷ rules) ≡ None → (rule ≡ None) × (first_broken rules ≡ None)
none_of rule rules h = or_none rule (first_broken rules) h

joined : (xs : List (Option BadImage)) (rest : List (Option BadImage)) → first_broken (xs ++ rest) ≡ option_or (first_broken xs) (first_broken rest)
joined [] rest = refl
joined (x ∷ xs) rest = ap (option_or x) (joined xs rest) ∙ or_assoc x (first_broken xs) (first_broken rest)

abbrev after_movements : Image → Option BadImage
after_movements image = option_or (movements_broken image) (repeats_broken image)

abbrev after_keyspaces : Image → Option BadImage
after_keyspaces image = option_or (keyspaces_broken image) (after_movements image)

abbrev after_ring : Image → Option BadImage
after_ring image = option_or (ring_broken image) (after_keyspaces image)

abbrev after_numbers : Image → Option BadImage
after_numbers image = option_or (numbers_broken image) (after_ring image)

abbrev pub all_broken : Image → Option BadImage
all_broken image = option_or (nodes_broken image) (after_numbers image)

abbrev repeats : Image → List (Option BadImage)
repeats image = broken 15 (rule_15 image) ∷ broken 16 (rule_16 image) ∷ broken 17 (rule_17 image) ∷ []

abbrev movements : Image → List (Option BadImage)
movements image = broken 12 (rule_12 image) ∷ broken 13 (rule_13 image) ∷ broken 14 (rule_14 image) ∷ []

abbrev keyspaces : Image → List (Option BadImage)
keyspaces image = broken 10 (rule_10 image) ∷ broken 11 (rule_11 image) ∷ []

abbrev ring : Image → List (Option BadImage)
ring image = broken 7 (rule_7 image) ∷ broken 8 (rule_8 image) ∷ broken 9 (rule_9 image) ∷ []

abbrev numbers : Image → List (Option BadImage)
numbers image = broken 5 (rule_5 image) ∷ broken 6 (rule_6 image) ∷ []

abbrev nodes : Image → List (Option BadImage)
nodes image = broken 1 (rule_1 image) ∷ broken 2 (rule_2 image) ∷ broken 3 (rule_3 image) ∷ broken 4 (rule_4 image) ∷ []

pub by_groups : (image : Image) → broken_rule image ≡ all_broken image
unfolding broken_rule
by_groups image =
    joined (nodes image) (numbers image ++ (ring image ++ (keyspaces image ++ (movements image ++ repeats image))))
    ∙ ap (option_or (nodes_broken image)) (joined (numbers image) (ring image ++ (keyspaces image ++ (movements image ++ repeats image)))
    ∙ ap (option_or (numbers_broken image)) (joined (ring image) (keyspaces image ++ (movements image ++ repeats image))
    ∙ ap (option_or (ring_broken image)) (joined (keyspaces image) (movements image ++ repeats image)
    ∙ ap (option_or (keyspaces_broken image)) (joined (movements image) (repeats image)))))

-- ---- where the first of them is broken

some_or : {A : Type 0} (a b : Option A) → is_some a ≡ true → option_or a b ≡ a
some_or None b h = absurd (let e : false ≡ true = h in cc)
some_or (Some x) b h = refl

none_left : {A : Type 0} (a b : Option A) → is_some a ≡ false → option_or a b ≡ b
none_left None b h = refl
none_left (Some x) b h = absurd (let e : true ≡ false = h in cc)

pub tells : {A : Type 0} (a b : Option A) (t u : Bool) → a ≡ b → t ≡ is_some a → t ≡ u → is_some b ≡ u
tells a b t u same is e = ap is_some (sym same) ∙ sym is ∙ e

module _ (image : Image) where
  pub at_nodes : is_some (nodes_broken image) ≡ true → nodes_broken image ≡ broken_rule image
  at_nodes h = sym (by_groups image ∙ some_or (nodes_broken image) (after_numbers image) h)

  module _ (one : is_some (nodes_broken image) ≡ false) where
    past_nodes : broken_rule image ≡ after_numbers image
    past_nodes = by_groups image ∙ none_left (nodes_broken image) (after_numbers image) one

    pub at_numbers : is_some (numbers_broken image) ≡ true → numbers_broken image ≡ broken_rule image
    at_numbers h = sym (past_nodes ∙ some_or (numbers_broken image) (after_ring image) h)

    module _ (two : is_some (numbers_broken image) ≡ false) where
      past_numbers : broken_rule image ≡ after_ring image
      past_numbers = past_nodes ∙ none_left (numbers_broken image) (after_ring image) two

      pub at_ring : is_some (ring_broken image) ≡ true → ring_broken image ≡ broken_rule image
      at_ring h = sym (past_numbers ∙ some_or (ring_broken image) (after_keyspaces image) h)

      module _ (three : is_some (ring_broken image) ≡ false) where
        past_ring : broken_rule image ≡ after_keyspaces image
        past_ring = past_numbers ∙ none_left (ring_broken image) (after_keyspaces image) three

        pub at_keyspaces : is_some (keyspaces_broken image) ≡ true → keyspaces_broken image ≡ broken_rule image
        at_keyspaces h = sym (past_ring ∙ some_or (keyspaces_broken image) (after_movements image) h)

        module _ (four : is_some (keyspaces_broken image) ≡ false) where
          past_keyspaces : broken_rule image ≡ after_movements image
          past_keyspaces = past_ring ∙ none_left (keyspaces_broken image) (after_movements image) four

          pub at_movements : is_some (movements_broken image) ≡ true → movements_broken image ≡ broken_rule image
          at_movements h = sym (past_keyspaces ∙ some_or (movements_broken image) (repeats_broken image) h)

          pub at_repeats : is_some (movements_broken image) ≡ false → repeats_broken image ≡ broken_rule image
          at_repeats h = sym (past_keyspaces ∙ none_left (movements_broken image) (repeats_broken image) h)

  -- ---- where none of them is broken

  pub nodes_hold : nodes_broken image ≡ None → (rule_1 image ≡ None) × (rule_2 image ≡ None) × (rule_3 image ≡ None) × (rule_4 image ≡ None)
  nodes_hold h =
      let a = none_of (broken 1 (rule_1 image)) (broken 2 (rule_2 image) ∷ broken 3 (rule_3 image) ∷ broken 4 (rule_4 image) ∷ []) h in
      let b = none_of (broken 2 (rule_2 image)) (broken 3 (rule_3 image) ∷ broken 4 (rule_4 image) ∷ []) a.1 in
      let d = none_of (broken 3 (rule_3 image)) (broken 4 (rule_4 image) ∷ []) b.1 in
      let e = none_of (broken 4 (rule_4 image)) [] d.1 in
      (unbroken 1 (rule_1 image) a.0, unbroken 2 (rule_2 image) b.0, unbroken 3 (rule_3 image) d.0, unbroken 4 (rule_4 image) e.0)

  pub numbers_hold : numbers_broken image ≡ None → (rule_5 image ≡ None) × (rule_6 image ≡ None)
  numbers_hold h =
      let a = none_of (broken 5 (rule_5 image)) (broken 6 (rule_6 image) ∷ []) h in
      let b = none_of (broken 6 (rule_6 image)) [] a.1 in
      (unbroken 5 (rule_5 image) a.0, unbroken 6 (rule_6 image) b.0)

  pub ring_holds : ring_broken image ≡ None → (rule_7 image ≡ None) × (rule_8 image ≡ None) × (rule_9 image ≡ None)
  ring_holds h =
      let a = none_of (broken 7 (rule_7 image)) (broken 8 (rule_8 image) ∷ broken 9 (rule_9 image) ∷ []) h in
      let b = none_of (broken 8 (rule_8 image)) (broken 9 (rule_9 image) ∷ []) a.1 in
      let d = none_of (broken 9 (rule_9 image)) [] b.1 in
      (unbroken 7 (rule_7 image) a.0, unbroken 8 (rule_8 image) b.0, unbroken 9 (rule_9 image) d.0)

  pub keyspaces_hold : keyspaces_broken image ≡ None → (rule_10 image ≡ None) × (rule_11 image ≡ None)
  keyspaces_hold h =
      let a = none_of (broken 10 (rule_10 image)) (broken 11 (rule_11 image) ∷ []) h in
      let b = none_of (broken 11 (rule_11 image)) [] a.1 in
      (unbroken 10 (rule_10 image) a.0, unbroken 11 (rule_11 image) b.0)

  pub movements_hold : movements_broken image ≡ None → (rule_12 image ≡ None) × (rule_13 image ≡ None) × (rule_14 image ≡ None)
  movements_hold h =
      let a = none_of (broken 12 (rule_12 image)) (broken 13 (rule_13 image) ∷ broken 14 (rule_14 image) ∷ []) h in
      let b = none_of (broken 13 (rule_13 image)) (broken 14 (rule_14 image) ∷ []) a.1 in
      let d = none_of (broken 14 (rule_14 image)) [] b.1 in
      (unbroken 12 (rule_12 image) a.0, unbroken 13 (rule_13 image) b.0, unbroken 14 (rule_14 image) d.0)

  pub repeats_hold : repeats_broken image ≡ None → (rule_15 image ≡ None) × (rule_16 image ≡ None) × (rule_17 image ≡ None)
  repeats_hold h =
      let a = none_of (broken 15 (rule_15 image)) (broken 16 (rule_16 image) ∷ broken 17 (rule_17 image) ∷ []) h in
      let b = none_of (broken 16 (rule_16 image)) (broken 17 (rule_17 image) ∷ []) a.1 in
      let d = none_of (broken 17 (rule_17 image)) [] b.1 in
      (unbroken 15 (rule_15 image) a.0, unbroken 16 (rule_16 image) b.0, unbroken 17 (rule_17 image) d.0)
