-- An image is sound exactly where it breaks none of the rules but the last one.
use Rattle.std.proofs.Common.{◌≡◌, ℕ, ◌+◌, ◌<◌, ◌≤◌, Bool, true, false, true≢false, not, ◌||◌, ◌==◌, pos, List, [], ◌∷◌, map, length, find, nat_le, nat_lt, Option, Some, None, option_map, refl, sym, subst, ap, ◌∙◌, arith}
use Rattle.std.proofs.lemmas.Bool.Decides.{nat_tests}
use Rattle.std.proofs.lemmas.Cmp.{nat_list_cmp_total, on_total}
use Rattle.std.proofs.lemmas.Map.Keys.{sorted_from_strictly_increasing}
use Rattle.std.specs.Cmp.{IsTotalOrder}
use Rattle.std.specs.List.{AllByRecursion, IsDistinct}
use Rattle.std.specs.List.Sorted.{IsStrictlySortedBy}
use Rattle.std.specs.Option.{option_or}
use Rattle.std.specs.Str.{bytes_eq}
use Rattle.cluster_terms.specs.NodeRow.{row_of}
use Rattle.cluster_terms.specs.Pair.{tokens_of}
use Rattle.cluster_terms.specs.declared.node.NodeRow.{NodeRow}
use Rattle.cluster_terms.specs.declared.token.Pair.{Pair}
use Rattle.transformations.proofs.commands.AcceptedLemmas.{same_id}
use Rattle.transformations.proofs.images.OverLemmas.{ids_below, map_none}
use Rattle.transformations.proofs.images.FirstBadLemmas.{or_none}
use Rattle.transformations.proofs.images.FitLaws.{fits_from, fits_to, fitting}
use Rattle.transformations.proofs.images.GroupLaws.{by_groups, keyspaces_hold, movements_hold, nodes_hold, numbers_hold, repeats_hold, ring_holds}
use Rattle.transformation_laws.proofs.images.MovementLaws.{once_from, once_to}
use Rattle.transformations.proofs.images.OrderLaws.{falls_sorted, ids_clear, ids_increase, ids_up, not_shown, repeats_clear, repeats_none, sorted_falls}
use Rattle.transformations.proofs.images.RingLaws.{tokens_up}
use Rattle.transformation_laws.proofs.images.TokenLaws.{PutsKnown, few_from, few_to, fresh_from, fresh_to, puts_known}
use Rattle.transformations.proofs.lists.ListLemmas.{all_both, all_found, all_from_map, all_map, all_weaker, filter_none, find_none, found_passes, none_found}
use Rattle.transformations.proofs.movements.MovementLemmas.{by_node_total}
use Rattle.transformations.proofs.ranges.MovementsApart.{distinct_map}
use Rattle.transformations.specs.History.{most_epochs}
use Rattle.transformations.specs.ImageRules.{above, broken, broken_rule, first_broken, first_fall, fits, rule_1, rule_2, rule_3, rule_4, rule_5, rule_6, rule_7, rule_8, rule_9, rule_10, rule_11, rule_12, rule_13, rule_14, rule_15, rule_16, rule_17, shown_if}
use Rattle.transformations.specs.Orders.{by_name, by_node, by_token}
use Rattle.transformations.specs.Refusals.{most_keyspaces, most_nodes}
use Rattle.transformations.specs.code.RuleGroups.{keyspaces_broken, movements_broken, nodes_broken, numbers_broken, repeats_broken, ring_broken}
use Rattle.transformations.specs.States.{node_tokens}
use Rattle.transformations.specs.Movements.{owned}
use Rattle.transformations.specs.Valid.{AreNodes, IsMovement, IsSound, is_standing}
use Rattle.transformations.specs.declared.image.Image.{Image}
use Rattle.transformations.specs.declared.keyspace.KeyspaceRow.{KeyspaceRow}
use Rattle.transformations.specs.declared.sequence.SeqRow.{SeqRow}

by_name_total : IsTotalOrder by_name
by_name_total = on_total (λ (k : KeyspaceRow). k.name) nat_list_cmp_total

-- ---- limits

within : (most count : ℕ) → above most count ≡ None → count ≤ most
within most count none = (let test : nat_lt most count ≡ false = not_shown (nat_lt most count) (pos count) none in grind (arith, nat_tests, test))

is_within : (most count : ℕ) → count ≤ most → above most count ≡ None
is_within most count le = (let test : nat_lt most count ≡ false = grind (arith, nat_tests, le) in ap (λ b. shown_if b (pos count)) test)

twice : (a : Bool) → not a ≡ false → a ≡ true
twice true h = refl
twice false h = absurd (true≢false h)

-- ---- nodes

apart_map : {X Y : Type 0} (e : Y → Y → Bool) (f : X → Y) (x : X) (xs : List X) → AllByRecursion (λ y. e (f x) y ≡ false) (map f xs) → AllByRecursion (λ y. e (f x) (f y) ≡ false) xs
apart_map e f x [] all = tt
apart_map e f x (y ∷ ys) all = (all.0, apart_map e f x ys all.1)

distinct_unmap : {X Y : Type 0} (e : Y → Y → Bool) (f : X → Y) (xs : List X) → IsDistinct e (map f xs) → IsDistinct (λ x y. e (f x) (f y)) xs
unfolding IsDistinct
distinct_unmap e f [] d = tt
distinct_unmap e f (x ∷ xs) d = (apart_map e f x xs d.0, distinct_unmap e f xs d.1)

nodes_from : (image : Image) → rule_1 image ≡ None → rule_2 image ≡ None → rule_3 image ≡ None → rule_4 image ≡ None → AreNodes image.nodes image.next
nodes_from image a b d e = record {
  few = within most_nodes (length image.nodes) a;
  ascending = ids_increase image.nodes b;
  within =
      all_both (λ (row : NodeRow). 0 < row.id) (λ row. row.id < image.next) (λ row. (1 ≤ row.id) × (row.id < image.next)) (λ row low high. (omega (arith, low), high)) image.nodes
      (all_from_map (λ n. 0 < n) (λ (row : NodeRow). row.id) image.nodes (ids_up [] image.nodes b).1) (ids_below image d);
  distinct = distinct_map bytes_eq (λ (row : NodeRow). row.name) image.nodes (repeats_none (λ (q row : NodeRow). bytes_eq q.name row.name) (λ row. pos row.id) [] image.nodes e).0;
}

ids_to : (image : Image) → AreNodes image.nodes image.next → rule_2 image ≡ None
ids_to image h =
    ids_clear [] image.nodes (sorted_from_strictly_increasing (map (λ (row : NodeRow). row.id) image.nodes) h.ascending)
    (all_map (λ n. 0 < n) (λ (row : NodeRow). row.id) image.nodes (all_weaker (λ (row : NodeRow). (1 ≤ row.id) × (row.id < image.next)) (λ row. 0 < row.id) (λ row w. omega (arith, w.0)) image.nodes h.within))

below_to : (image : Image) → AreNodes image.nodes image.next → rule_3 image ≡ None
below_to image h =
    ap (option_map (λ (row : NodeRow). pos row.id)) (find_none (λ (row : NodeRow). nat_le image.next row.id) image.nodes
    (all_weaker (λ (row : NodeRow). (1 ≤ row.id) × (row.id < image.next)) (λ row. nat_le image.next row.id ≡ false) (λ row w. let less = w.1 in grind (arith, nat_tests, less)) image.nodes h.within))

names_to : (image : Image) → AreNodes image.nodes image.next → rule_4 image ≡ None
names_to image h = repeats_clear (λ (q row : NodeRow). bytes_eq q.name row.name) (λ row. pos row.id) [] image.nodes (distinct_unmap bytes_eq (λ (row : NodeRow). row.name) image.nodes h.distinct) tt

-- ---- the epoch and the next id

numbers_from : (image : Image) → rule_6 image ≡ None → (1 ≤ image.next) × (image.next ≤ image.epoch + 1)
numbers_from image none =
    let test : ((image.next == 0) || nat_lt (image.epoch + 1) image.next) ≡ false = not_shown ((image.next == 0) || nat_lt (image.epoch + 1) image.next) (pos image.next) none in
    (grind (arith, nat_tests, test), grind (arith, nat_tests, test))

numbers_to : (image : Image) → 1 ≤ image.next → image.next ≤ image.epoch + 1 → rule_6 image ≡ None
numbers_to image low high =
    let test : ((image.next == 0) || nat_lt (image.epoch + 1) image.next) ≡ false = grind (arith, nat_tests, low, high) in
    ap (λ b. shown_if b (pos image.next)) test

-- ---- the ring

owners_from : (image : Image) → rule_8 image ≡ None → AllByRecursion (λ p. is_standing image.nodes p.node ≡ true) image.tokens
owners_from image none =
    all_weaker (λ (p : Pair). not (is_standing image.nodes p.node) ≡ false) (λ p. is_standing image.nodes p.node ≡ true) (λ p h. twice (is_standing image.nodes p.node) h) image.tokens
    (none_found (λ (p : Pair). not (is_standing image.nodes p.node)) image.tokens (map_none (λ (p : Pair). p.token) (find (λ (p : Pair). not (is_standing image.nodes p.node)) image.tokens) none))

owners_to : (image : Image) → AllByRecursion (λ p. is_standing image.nodes p.node ≡ true) image.tokens → rule_8 image ≡ None
owners_to image all =
    ap (option_map (λ (p : Pair). p.token)) (find_none (λ (p : Pair). not (is_standing image.nodes p.node)) image.tokens
    (all_weaker (λ (p : Pair). is_standing image.nodes p.node ≡ true) (λ p. not (is_standing image.nodes p.node) ≡ false) (λ p h. ap not h) image.tokens all))

stands : Option NodeRow → Bool
stands None = false
stands (Some row) = not row.left

few_of_node : (image : Image) → rule_9 image ≡ None → AllByRecursion (λ p. is_standing image.nodes p.node ≡ true) image.tokens → (n : ℕ) → length (node_tokens image n) ≤ 256
few_of_node image none owners n = by (row_of image.nodes n) refl
  where
    rows : AllByRecursion (λ row. nat_lt 256 (length (node_tokens image row.id)) ≡ false) image.nodes
    rows = none_found (λ (row : NodeRow). nat_lt 256 (length (node_tokens image row.id))) image.nodes (map_none (λ (row : NodeRow). pos row.id) (find (λ (row : NodeRow). nat_lt 256 (length (node_tokens image row.id))) image.nodes) none)

    other : row_of image.nodes n ≡ None → (p : Pair) → is_standing image.nodes p.node ≡ true → (b : Bool) → (p.node == n) ≡ b → (p.node == n) ≡ false
    other missing p up false e = e
    other missing p up true e =
        let gone : row_of image.nodes p.node ≡ None = ap (row_of image.nodes) (same_id p.node n e) ∙ missing in
        let down : is_standing image.nodes p.node ≡ false = rw gone refl in
        absurd (true≢false (sym up ∙ down))

    by : (o : Option NodeRow) → row_of image.nodes n ≡ o → length (node_tokens image n) ≤ 256
    by None missing =
        let empty : owned image.tokens n ≡ [] =
        filter_none (λ (p : Pair). p.node == n) image.tokens (all_weaker (λ (p : Pair). is_standing image.nodes p.node ≡ true) (λ p. (p.node == n) ≡ false) (λ p up. other missing p up (p.node == n) refl) image.tokens owners) in
        let zero : length (node_tokens image n) ≡ 0 = ap (λ (ps : List Pair). length (tokens_of ps)) empty in
        omega (arith, zero)
    by (Some row) found =
        let test : nat_lt 256 (length (node_tokens image row.id)) ≡ false = all_found (λ row. nat_lt 256 (length (node_tokens image row.id)) ≡ false) (λ (row : NodeRow). row.id == n) image.nodes row found rows in
        let is : row.id ≡ n = same_id row.id n (found_passes (λ (row : NodeRow). row.id == n) image.nodes row found) in
        let few : length (node_tokens image row.id) ≤ 256 = grind (arith, nat_tests, test) in
        subst (λ m. length (node_tokens image m) ≤ 256) is few

few_to_rule : (image : Image) → ((n : ℕ) → length (node_tokens image n) ≤ 256) → rule_9 image ≡ None
few_to_rule image few = ap (option_map (λ (row : NodeRow). pos row.id)) (find_none (λ (row : NodeRow). nat_lt 256 (length (node_tokens image row.id))) image.nodes (each image.nodes))
  where
    each : (rows : List NodeRow) → AllByRecursion (λ row. nat_lt 256 (length (node_tokens image row.id)) ≡ false) rows
    each [] = tt
    each (row ∷ rows) = ((let le = few row.id in grind (arith, nat_tests, le)), each rows)

-- ---- the movements

standing_from : (image : Image) → rule_13 image ≡ None → AllByRecursion (λ s. is_standing image.nodes s.node ≡ true) image.sequences
standing_from image none =
    all_weaker (λ (s : SeqRow). not (is_standing image.nodes s.node) ≡ false) (λ s. is_standing image.nodes s.node ≡ true) (λ s h. twice (is_standing image.nodes s.node) h) image.sequences
    (none_found (λ (s : SeqRow). not (is_standing image.nodes s.node)) image.sequences (map_none (λ (s : SeqRow). pos s.node) (find (λ (s : SeqRow). not (is_standing image.nodes s.node)) image.sequences) none))

movement_from : (image : Image) (s : SeqRow) → is_standing image.nodes s.node ≡ true → fits image s ≡ true → IsMovement image s
movement_from image s up fit = (let parts = fits_from image s fit in record { stands = up; ascending = parts.0; fits = parts.1 })

movements_from : (image : Image) → rule_13 image ≡ None → rule_14 image ≡ None → AllByRecursion (IsMovement image) image.sequences
movements_from image a b =
    all_both (λ (s : SeqRow). is_standing image.nodes s.node ≡ true) (λ s. fits image s ≡ true) (IsMovement image) (movement_from image) image.sequences (standing_from image a) (fitting image b)

standing_to : (image : Image) → AllByRecursion (IsMovement image) image.sequences → rule_13 image ≡ None
standing_to image all =
    ap (option_map (λ (s : SeqRow). pos s.node)) (find_none (λ (s : SeqRow). not (is_standing image.nodes s.node)) image.sequences
    (all_weaker (IsMovement image) (λ s. not (is_standing image.nodes s.node) ≡ false) (λ s m. ap not m.stands) image.sequences all))

fits_to_rule : (image : Image) → AllByRecursion (IsMovement image) image.sequences → rule_14 image ≡ None
fits_to_rule image all =
    ap (option_map (λ (s : SeqRow). pos s.node)) (find_none (λ s. not (fits image s)) image.sequences
    (all_weaker (IsMovement image) (λ s. not (fits image s) ≡ false) (λ s m. ap not (fits_to image s m.ascending m.fits)) image.sequences all))

known : (image : Image) → AllByRecursion (IsMovement image) image.sequences → AllByRecursion (PutsKnown image.tokens) image.sequences
known image all = all_weaker (IsMovement image) (PutsKnown image.tokens) (λ s m. puts_known image s m.fits) image.sequences all

ascending : (image : Image) → AllByRecursion (IsMovement image) image.sequences → AllByRecursion (λ s. IsStrictlySortedBy by_token s.in_pairs) image.sequences
ascending image all = all_weaker (IsMovement image) (λ s. IsStrictlySortedBy by_token s.in_pairs) (λ s m. m.ascending) image.sequences all

-- ---- all rules

pub sound_from : (image : Image) → broken_rule image ≡ None → IsSound image
sound_from image none =
    let a = or_none (nodes_broken image) (option_or (numbers_broken image) (option_or (ring_broken image) (option_or (keyspaces_broken image) (option_or (movements_broken image) (repeats_broken image))))) (sym (by_groups image) ∙ none) in
    let b = or_none (numbers_broken image) (option_or (ring_broken image) (option_or (keyspaces_broken image) (option_or (movements_broken image) (repeats_broken image)))) a.1 in
    let d = or_none (ring_broken image) (option_or (keyspaces_broken image) (option_or (movements_broken image) (repeats_broken image))) b.1 in
    let e = or_none (keyspaces_broken image) (option_or (movements_broken image) (repeats_broken image)) d.1 in
    let f = or_none (movements_broken image) (repeats_broken image) e.1 in
    let nodes = nodes_hold image a.0 in
    let numbers = numbers_hold image b.0 in
    let ring = ring_holds image d.0 in
    let keyspaces = keyspaces_hold image e.0 in
    let movements = movements_hold image f.0 in
    let repeats = repeats_hold image f.1 in
    let next = numbers_from image numbers.1 in
    let up = tokens_up image ring.0 in
    let owners = owners_from image ring.1 in
    let fit = movements_from image movements.1 movements.2 in
    let fresh = fresh_from image up (ascending image fit) repeats.1 in
    record {
      epochs = within most_epochs image.epoch numbers.0;
      first_id = next.0;
      next_id = next.1;
      nodes = nodes_from image nodes.0 nodes.1 nodes.2 nodes.3;
      ring = record { ascending = up; owners = owners; few = few_of_node image ring.2 owners };
      few_keyspaces = within most_keyspaces (length image.keyspaces) keyspaces.0;
      keyspaces = falls_sorted by_name by_name_total 0 image.keyspaces (map_none (λ (found : ℕ × KeyspaceRow). pos found.0) (first_fall by_name 0 image.keyspaces) keyspaces.1);
      movements = falls_sorted by_node by_node_total 0 image.sequences (map_none (λ (found : ℕ × SeqRow). pos found.1.node) (first_fall by_node 0 image.sequences) movements.0);
      fitting = fit;
      once = once_from image repeats.0;
      fresh = fresh;
      few_tokens = few_from image (known image fit) fresh repeats.2;
    }

pub sound_to : (image : Image) → IsSound image → broken_rule image ≡ None
unfolding broken_rule
sound_to image h =
    let one : rule_1 image ≡ None = is_within most_nodes (length image.nodes) h.nodes.few in
    let two : rule_2 image ≡ None = ids_to image h.nodes in
    let three : rule_3 image ≡ None = below_to image h.nodes in
    let four : rule_4 image ≡ None = names_to image h.nodes in
    let five : rule_5 image ≡ None = is_within most_epochs image.epoch h.epochs in
    let six : rule_6 image ≡ None = numbers_to image h.first_id h.next_id in
    let seven : rule_7 image ≡ None = ap (option_map (λ (found : ℕ × Pair). found.1.token)) (sorted_falls by_token 0 image.tokens h.ring.ascending) in
    let eight : rule_8 image ≡ None = owners_to image h.ring.owners in
    let nine : rule_9 image ≡ None = few_to_rule image h.ring.few in
    let ten : rule_10 image ≡ None = is_within most_keyspaces (length image.keyspaces) h.few_keyspaces in
    let eleven : rule_11 image ≡ None = ap (option_map (λ (found : ℕ × KeyspaceRow). pos found.0)) (sorted_falls by_name 0 image.keyspaces h.keyspaces) in
    let twelve : rule_12 image ≡ None = ap (option_map (λ (found : ℕ × SeqRow). pos found.1.node)) (sorted_falls by_node 0 image.sequences h.movements) in
    let thirteen : rule_13 image ≡ None = standing_to image h.fitting in
    let fourteen : rule_14 image ≡ None = fits_to_rule image h.fitting in
    let fifteen : rule_15 image ≡ None = once_to image h.once in
    let sixteen : rule_16 image ≡ None = fresh_to image (known image h.fitting) h.fresh in
    let seventeen : rule_17 image ≡ None = few_to image (known image h.fitting) h.fresh h.few_tokens in
    λ i. first_broken (broken 1 (one i) ∷ broken 2 (two i) ∷ broken 3 (three i) ∷ broken 4 (four i) ∷ broken 5 (five i) ∷ broken 6 (six i) ∷ broken 7 (seven i) ∷ broken 8 (eight i)
    ∷ broken 9 (nine i) ∷ broken 10 (ten i) ∷ broken 11 (eleven i) ∷ broken 12 (twelve i) ∷ broken 13 (thirteen i) ∷ broken 14 (fourteen i) ∷ broken 15 (fifteen i) ∷ broken 16 (sixteen i) ∷ broken 17 (seventeen i) ∷ [])
