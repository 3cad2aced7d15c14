-- An image is valid exactly where it breaks none of the rules.
use Rattle.std.proofs.Common.{◌≡◌, ℕ, ◌<◌, ◌≤◌, Bool, true, false, ◌&&◌, pos, find, get_or, length, nat_lt, None, option_map, refl, subst, ap, ◌∙◌, ◌⊎◌, inl, inr, arith}
use Rattle.std.proofs.lemmas.Bool.{cases_lt}
use Rattle.std.proofs.lemmas.Bool.Decides.{nat_tests}
use Rattle.std.proofs.lemmas.List.{get_or_default}
use Rattle.std.proofs.lemmas.List.Elements.{recursion_from_All}
use Rattle.std.proofs.lemmas.Map.Keys.{Less-from_sorted}
use Rattle.std.specs.List.{AllByRecursion}
use Rattle.std.specs.Ordering.{is_lt}
use Rattle.transformations.proofs.images.OverLemmas.{map_none}
use Rattle.transformations.proofs.images.FirstBadLemmas.{none_or, or_none}
use Rattle.transformations.proofs.images.GroupLaws.{unbroken}
use Rattle.transformations.proofs.images.OneNodeLemmas.{all_get}
use Rattle.transformation_laws.proofs.images.SoundLaws.{sound_from, sound_to}
use Rattle.transformations.proofs.lists.ListLemmas.{all_false, any_false, find_none, none_found}
use Rattle.transformations.proofs.ranges.MovementsApart.{both_flips}
use Rattle.transformation_laws.proofs.images.OverlapRows.{no_overlap, none_common}
use Rattle.transformations.proofs.ranges.MovementRanges.{IsWithinWidest, moved_within}
use Rattle.transformations.specs.ImageRules.{bad_of, broken, broken_rule, overlap, overlaps, rule_18}
use Rattle.transformations.specs.Orders.{by_node}
use Rattle.transformations.specs.Ranges.{AreApart}
use Rattle.transformations.specs.Valid.{IsSound, IsValid}
use Rattle.transformations.specs.declared.image.Image.{Image}
use Rattle.transformations.specs.declared.sequence.SeqRow.{SeqRow}

-- the nodes of movements at two positions are in the order of the positions
node-lt : (image : Image) → IsSound image → (i j : ℕ) (d : SeqRow) → i < j → j < length image.sequences → (get_or image.sequences i d).node < (get_or image.sequences j d).node
node-lt image h i j d lt in_j =
    let less : is_lt (by_node (get_or image.sequences i d) (get_or image.sequences j d)) ≡ true = ap is_lt (Less-from_sorted by_node image.sequences i j d h.movements lt in_j) in
    grind (arith, nat_tests, less)

-- a movement that doesn't overlap an earlier one
abbrev overlaps_by : Image → SeqRow → SeqRow → Bool
overlaps_by image s q = nat_lt q.node s.node && overlap image s q

second_false : (a b : Bool) → a ≡ true → (a && b) ≡ false → b ≡ false
second_false a b e h = grind arith

none_shared_by : (image : Image) → IsSound image → AllByRecursion (λ s. overlaps image s ≡ false) image.sequences
    → (i j : ℕ) (d : SeqRow) → i < j → j < length image.sequences → overlap image (get_or image.sequences j d) (get_or image.sequences i d) ≡ false
none_shared_by image h none i j d lt in_j =
    let s : SeqRow = get_or image.sequences j d in
    let q : SeqRow = get_or image.sequences i d in
    let each : AllByRecursion (λ q. overlaps_by image s q ≡ false) image.sequences = all_false (overlaps_by image s) image.sequences (all_get (λ s. overlaps image s ≡ false) image.sequences j d none in_j) in
    let here : overlaps_by image s q ≡ false = all_get (λ q. overlaps_by image s q ≡ false) image.sequences i d each (omega (arith, lt, in_j)) in
    let less : q.node < s.node = node-lt image h i j d lt in_j in
    let test : nat_lt q.node s.node ≡ true = grind (arith, nat_tests, less) in
    second_false (nat_lt q.node s.node) (overlap image s q) test here

apart_from : (image : Image) → IsSound image → rule_18 image ≡ None → AreApart image
apart_from image h none = λ x token i j d lt in_j.
    both_flips image x (get_or image.sequences i d) (get_or image.sequences j d)
    ∙ none_common image (get_or image.sequences j d) (get_or image.sequences i d) (all_get (IsWithinWidest image) image.sequences j d (moved_within image h) in_j) (all_get (IsWithinWidest image) image.sequences i d (moved_within image h) (omega (arith, lt, in_j))) (none_shared_by image h free i j d lt in_j) x token
  where
    free : AllByRecursion (λ s. overlaps image s ≡ false) image.sequences
    free = none_found (overlaps image) image.sequences (map_none (λ (s : SeqRow). pos s.node) (find (overlaps image) image.sequences) none)

pub valid_from : (image : Image) → bad_of image ≡ None → IsValid image
unfolding bad_of
valid_from image none =
    let parts : (broken_rule image ≡ None) × (broken 18 (rule_18 image) ≡ None) = or_none (broken_rule image) (broken 18 (rule_18 image)) none in
    let sound : IsSound image = sound_from image parts.0 in
    record { sound = sound; apart = apart_from image sound (unbroken 18 (rule_18 image) parts.1) }

-- ---- the other way

module _ (image : Image) (h : IsSound image) (apart : AreApart image) where
  unshared : (i k : ℕ) (d : SeqRow) → i < k → k < length image.sequences → overlap image (get_or image.sequences k d) (get_or image.sequences i d) ≡ false
  unshared i k d lt in_k =
      let s : SeqRow = get_or image.sequences k d in
      let q : SeqRow = get_or image.sequences i d in
      no_overlap image s q (λ x token. both_flips image x s q ∙ apart x token i k d lt in_k)

  at_places : (k i : ℕ) (d : SeqRow) → k < length image.sequences → i < length image.sequences → (b : Bool) → nat_lt (get_or image.sequences i d).node (get_or image.sequences k d).node ≡ b
      → (b && overlap image (get_or image.sequences k d) (get_or image.sequences i d)) ≡ false
  at_places k i d in_k in_i false e = refl
  at_places k i d in_k in_i true e = by (cases_lt i k) (cases_lt k i)
    where
      less : (get_or image.sequences i d).node < (get_or image.sequences k d).node
      less = grind (arith, nat_tests, e)

      by : (i < k) ⊎ (k ≤ i) → (k < i) ⊎ (i ≤ k) → overlap image (get_or image.sequences k d) (get_or image.sequences i d) ≡ false
      by (inl lt) other = unshared i k d lt in_k
      by (inr le) (inl gt) = (let more = node-lt image h k i d gt in_i in absurd (omega (arith, more, less)))
      by (inr le) (inr ge) =
          let same : i ≡ k = omega (arith, le, ge) in
          let nodes : (get_or image.sequences i d).node ≡ (get_or image.sequences k d).node = ap (λ n. (get_or image.sequences n d).node) same in
          absurd (omega (arith, nodes, less))

  apart_by : (k i : ℕ) (d e : SeqRow) → k < length image.sequences → i < length image.sequences → overlaps_by image (get_or image.sequences k d) (get_or image.sequences i e) ≡ false
  apart_by k i d e in_k in_i =
      subst (λ q. overlaps_by image (get_or image.sequences k d) q ≡ false) (get_or_default image.sequences i d e in_i) (at_places k i d in_k in_i (nat_lt (get_or image.sequences i d).node (get_or image.sequences k d).node) refl)

  apart_to : rule_18 image ≡ None
  apart_to =
      ap (option_map (λ (s : SeqRow). pos s.node)) (find_none (overlaps image) image.sequences
      (recursion_from_All (λ s. overlaps image s ≡ false) image.sequences (λ k d in_k.
      any_false (overlaps_by image (get_or image.sequences k d)) image.sequences
      (recursion_from_All (λ q. overlaps_by image (get_or image.sequences k d) q ≡ false) image.sequences (λ i e in_i. apart_by k i d e in_k in_i)))))

pub valid_to : (image : Image) → IsValid image → bad_of image ≡ None
unfolding bad_of
valid_to image h =
    let none : rule_18 image ≡ None = apart_to image h.sound h.apart in
    none_or (broken_rule image) (broken 18 (rule_18 image)) (sound_to image h.sound) (ap (broken 18) none)
