-- A plan has one row for each node that a movement adds at a token, and none for any other node.
use Rattle.std.proofs.Common.{◌≡◌, ℕ, ◌+◌, Bool, true, false, not, ◌&&◌, ◌||◌, if◌then◌else◌, cond, nat_eq, ℤ, ◌≤ℤ◌, int_lt, int_le, List, [], ◌∷◌, ◌++◌, filter, flat_map, map, length, Option, Some, None, refl, sym, ap, ◌∙◌, arith, length-append}
use Rattle.std.proofs.lemmas.Bool.{and_parts, false≢true, true≢false}
use Rattle.std.proofs.lemmas.Int.{ints}
use Rattle.std.proofs.lemmas.List.Elements.{All-contains, filter-append, recursion_from_All}
use Rattle.std.proofs.lemmas.List.Kept.{IsStrictlySortedBy-filter}
use Rattle.std.proofs.lemmas.Map.Keys.{sorted_head, sorted_tail}
use Rattle.std.proofs.lemmas.Map.Views.{exact_unsigned_eq}
use Rattle.std.specs.List.{All, AllByRecursion, Contains, IsDistinct}
use Rattle.std.specs.List.Sorted.{IsStrictlySortedBy}
use Rattle.std.specs.Ordering.{int_cmp, nat_cmp}
use Rattle.cluster_terms.proofs.placement.GroupLemmas.{has}
use Rattle.cluster_terms.proofs.placement.PlacementCounts.{place_ascends}
use Rattle.cluster_terms.proofs.quorums.QuorumLemmas.{Ascend, ascend_distinct}
use Rattle.cluster_terms.proofs.rows.RowLemmas.{past_cuts}
use Rattle.cluster_terms.specs.Arc.{IsToken, greatest_token}
use Rattle.cluster_terms.specs.Group.{Group}
use Rattle.cluster_terms.specs.Replication.{groups_of}
use Rattle.cluster_terms.specs.Row.{is_last, is_past, is_within, last_token, rows_between, rows_from}
use Rattle.cluster_terms.specs.declared.replication.Replication.{Replication}
use Rattle.cluster_terms.specs.declared.row.TokenRange.{TokenRange}
use Rattle.cluster_terms.specs.declared.token.RightEnd.TheVariants.{At, Max}
use Rattle.transformations.proofs.deltas.DeltaRows.{deltas_stand}
use Rattle.transformations.proofs.lists.ListLemmas.{all_each, all_false, all_flat_map, all_map, all_weaker, filter_none}
use Rattle.transformations.proofs.ranges.RowsServed.{cuts_ascend}
use Rattle.transformations.specs.MovementDeltas.{StandsForDeltas, gained_at, lost_at, newcomers, placed_before, placed_with}
use Rattle.transformations.specs.Rings.{cuts, low_ring, replaced}
use Rattle.transformations.specs.declared.image.Image.{Image}
use Rattle.transformations.specs.declared.sequence.SeqRow.{SeqRow}
use Rattle.stream_plan.proofs.pairing.PairedLemmas.{not_among}
use Rattle.stream_plan.proofs.pairing.SourceLemmas.{has_new}
use Rattle.stream_plan.specs.Sources.{source_at, streams_from}
use Rattle.stream_plan.specs.Streams.{CoverGains, is_for, stream_rows, row_for, rows_of_range}
use Rattle.stream_plan.specs.declared.stream_row.StreamRow.{StreamRow}

-- a row for a node at a token tells from where the node streams there
abbrev pub TellsSource : Image → Replication → SeqRow → ℤ → ℕ → StreamRow → Type 0
TellsSource image r s x n row = is_for x n row ≡ true → row.from ≡ source_at image r s x n

-- ---- one range between cuts has a token

-- where a token is past a left end, a token is left there
some_left : (left : Option ℤ) (x : ℤ) → IsToken x → is_past left x ≡ true → is_last left ≡ false
some_left None x token past = refl
some_left (Some left) x token past = let top = token.1 in grind (arith, ints)

-- a token that is not past a left end is in no range from there on
none_past : (left : Option ℤ) (cuts : List ℤ) (x : ℤ) → is_past left x ≡ false → IsStrictlySortedBy int_cmp cuts → AllByRecursion (λ t. is_past left t ≡ true) cuts → AllByRecursion (λ r. is_within x r ≡ false) (rows_from left cuts)
none_past left [] x none up past = by (is_last left)
  where
    by : (b : Bool) → AllByRecursion (λ (r : TokenRange). is_within x r ≡ false) (if b then [] else (record { left = left; right = Max }) ∷ [])
    by true = tt
    by false = (ap (λ b. b && int_le x greatest_token) none, tt)
none_past left (cut ∷ cuts) x none up past =
    (ap (λ b. b && int_le x cut) none, none_past (Some cut) cuts x (still left none past.0) (sorted_tail int_cmp cut cuts up) (past_cuts cut cuts (sorted_head int_cmp cut cuts up)))
  where
    still : (left : Option ℤ) → is_past left x ≡ false → is_past left cut ≡ true → int_lt cut x ≡ false
    still None p q = absurd (true≢false p)
    still (Some left) p q = grind (arith, ints)

one_past : (left : Option ℤ) (cuts : List ℤ) (x : ℤ) → IsToken x → is_past left x ≡ true → IsStrictlySortedBy int_cmp cuts → length (filter (is_within x) (rows_from left cuts)) ≡ 1
one_past left [] x token past up =
    ap (λ b. length (filter (is_within x) (if b then [] else row ∷ []))) (some_left left x token past)
    ∙ ap (λ b. length (cond b (row ∷ []) [])) (ap (λ b. b && int_le x greatest_token) past ∙ upto token.1)
  where
    row : TokenRange
    row = record { left = left; right = Max }

    upto : x ≤ℤ greatest_token → int_le x greatest_token ≡ true
    upto h = grind (arith, ints)
one_past left (cut ∷ cuts) x token past up =
    by (int_le x cut) refl (one_past (Some cut) cuts x token)
  where
    row : TokenRange
    row = record { left = left; right = At cut }

    rest : List TokenRange
    rest = rows_from (Some cut) cuts

    later : IsStrictlySortedBy int_cmp cuts
    later = sorted_tail int_cmp cut cuts up

    by : (b : Bool) → int_le x cut ≡ b → (is_past (Some cut) x ≡ true → IsStrictlySortedBy int_cmp cuts → length (filter (is_within x) rest) ≡ 1) → length (cond (is_past left x && int_le x cut) (row ∷ filter (is_within x) rest) (filter (is_within x) rest)) ≡ 1
    by true le more =
        let none = filter_none (is_within x) rest (none_past (Some cut) cuts x (grind (arith, ints)) later (past_cuts cut cuts (sorted_head int_cmp cut cuts up))) in
        λ i. length (cond (past i && le i) (row ∷ none i) (none i))
    by false gt more =
        (λ i. length (cond (past i && gt i) (row ∷ filter (is_within x) rest) (filter (is_within x) rest))) ∙ more (grind (arith, ints)) later

pub one_range : (cuts : List ℤ) (x : ℤ) → IsStrictlySortedBy int_cmp cuts → IsToken x → length (filter (is_within x) (rows_between cuts)) ≡ 1
one_range cuts x up token = one_past None cuts x token refl up

-- ---- what lists of ranges have

module _ (x : ℤ) (test : StreamRow → Bool) (of_range : TokenRange → List StreamRow) (k : ℕ) where
  -- a range has k rows that pass if it has the token, and none otherwise
  abbrev pub HasIfWithin : TokenRange → Type 0
  HasIfWithin range = length (filter test (of_range range)) ≡ (if is_within x range then k else 0)

  more_rows : (range : TokenRange) (ranges : List TokenRange)
      → length (filter test (of_range range ++ flat_map of_range ranges)) ≡ length (filter test (of_range range)) + length (filter test (flat_map of_range ranges))
  more_rows range ranges =
      ap length (filter-append test (of_range range) (flat_map of_range ranges)) ∙ length-append (filter test (of_range range)) (filter test (flat_map of_range ranges))

  no_rows : (ranges : List TokenRange) → AllByRecursion HasIfWithin ranges → length (filter (is_within x) ranges) ≡ 0 → length (filter test (flat_map of_range ranges)) ≡ 0
  no_rows [] all none = refl
  no_rows (range ∷ ranges) all none = by (is_within x range) all.0 none (no_rows ranges all.1)
    where
      by : (b : Bool) → length (filter test (of_range range)) ≡ (if b then k else 0) → length (cond b (range ∷ filter (is_within x) ranges) (filter (is_within x) ranges)) ≡ 0
          → (length (filter (is_within x) ranges) ≡ 0 → length (filter test (flat_map of_range ranges)) ≡ 0) → length (filter test (of_range range ++ flat_map of_range ranges)) ≡ 0
      by true has none more = omega (arith, none)
      by false has none more = let rest = more none in omega (arith, has, rest, more_rows range ranges)

  pub rows_once : (ranges : List TokenRange) → AllByRecursion HasIfWithin ranges → length (filter (is_within x) ranges) ≡ 1 → length (filter test (flat_map of_range ranges)) ≡ k
  rows_once [] all one = omega (arith, one)
  rows_once (range ∷ ranges) all one = by (is_within x range) all.0 one (rows_once ranges all.1)
    where
      by : (b : Bool) → length (filter test (of_range range)) ≡ (if b then k else 0) → length (cond b (range ∷ filter (is_within x) ranges) (filter (is_within x) ranges)) ≡ 1
          → (length (filter (is_within x) ranges) ≡ 1 → length (filter test (flat_map of_range ranges)) ≡ k) → length (filter test (of_range range ++ flat_map of_range ranges)) ≡ k
      by true has one more = let rest = no_rows ranges all.1 (omega (arith, one)) in omega (arith, has, rest, more_rows range ranges)
      by false has one more = let rest = more one in omega (arith, has, rest, more_rows range ranges)

-- ---- the rows of a range

module _ (x : ℤ) (n : ℕ) (gs : List Group) (range : TokenRange) (before gained lost : List ℕ) where
  abbrev row : ℕ → StreamRow
  row m = row_for gs range before gained lost m

  within_rows : is_within x range ≡ true → (ms : List ℕ) → length (filter (is_for x n) (map row ms)) ≡ length (filter (nat_eq n) ms)
  within_rows e [] = refl
  within_rows e (m ∷ ms) = by (is_within x range) (nat_eq n m) e (within_rows e ms)
    where
      by : (b c : Bool) → b ≡ true → length (filter (is_for x n) (map row ms)) ≡ length (filter (nat_eq n) ms)
          → length (cond (b && c) (row m ∷ filter (is_for x n) (map row ms)) (filter (is_for x n) (map row ms))) ≡ length (cond c (m ∷ filter (nat_eq n) ms) (filter (nat_eq n) ms))
      by true true e more = omega (arith, more)
      by true false e more = more
      by false c e more = absurd (false≢true e)

  outside_rows : is_within x range ≡ false → (ms : List ℕ) → length (filter (is_for x n) (map row ms)) ≡ 0
  outside_rows e [] = refl
  outside_rows e (m ∷ ms) = (λ i. length (cond (e i && nat_eq n m) (row m ∷ filter (is_for x n) (map row ms)) (filter (is_for x n) (map row ms)))) ∙ outside_rows e ms

-- different nodes have a node once, if it is among them
count_of : (n : ℕ) (ns : List ℕ) → IsDistinct nat_eq ns → length (filter (nat_eq n) ns) ≡ (if has ns n then 1 else 0)
unfolding IsDistinct
count_of n [] d = refl
count_of n (m ∷ ms) d = by (nat_eq n m) refl (count_of n ms d.1)
  where
    by : (b : Bool) → nat_eq n m ≡ b → length (filter (nat_eq n) ms) ≡ (if has ms n then 1 else 0)
        → length (cond b (m ∷ filter (nat_eq n) ms) (filter (nat_eq n) ms)) ≡ (if b || has ms n then 1 else 0)
    by true e more =
        let none = filter_none (nat_eq n) ms (all_false (nat_eq n) ms (not_among m n ms (sym (exact_unsigned_eq n m e)) d.0)) in
        ap (λ l. length (m ∷ l)) none
    by false e more = more

-- ---- the plan

module _ (image : Image) (r : Replication) (s : SeqRow) (x : ℤ) (n : ℕ) where
  before_up : Ascend (placed_before image r x)
  unfolding placed_before
  before_up = place_ascends (groups_of image.nodes r) x (low_ring image)

  with_up : Ascend (placed_with image r s x)
  unfolding placed_with
  with_up = place_ascends (groups_of image.nodes r) x (replaced (low_ring image) s.out_pairs s.in_pairs)

  abbrev count : ℕ
  count = length (filter (nat_eq n) (gained_at image r s x))

  range_has : (range : TokenRange) → StandsForDeltas image r s range → HasIfWithin x (is_for x n) (rows_of_range image r s) count range
  range_has range stands = by (is_within x range) refl
    where
      y : ℤ
      y = last_token range.right

      by : (b : Bool) → is_within x range ≡ b → length (filter (is_for x n) (rows_of_range image r s range)) ≡ (if b then count else 0)
      by true e =
          within_rows x n (groups_of image.nodes r) range (placed_before image r y) (gained_at image r s y) (lost_at image r s y) e (gained_at image r s y)
          ∙ sym (λ i. length (filter (nat_eq n) (newcomers (stands.applied x e i) (stands.before x e i))))
      by false e =
          outside_rows x n (groups_of image.nodes r) range (placed_before image r y) (gained_at image r s y) (lost_at image r s y) e (gained_at image r s y)

  counted : count ≡ (if has (placed_with image r s x) n && not (has (placed_before image r x) n) then 1 else 0)
  counted =
      count_of n (gained_at image r s x) (ascend_distinct (gained_at image r s x) (IsStrictlySortedBy-filter nat_cmp (λ m. not (has (placed_before image r x) m)) (placed_with image r s x) with_up))
      ∙ ap (λ b. if b then 1 else 0) (has_new (placed_with image r s x) (placed_before image r x) n)

  one_row_for : Contains image.sequences s → IsToken x
      → length (filter (is_for x n) (stream_rows image r s)) ≡ (if has (placed_with image r s x) n && not (has (placed_before image r x) n) then 1 else 0)
  one_row_for there token =
      let stands = recursion_from_All (StandsForDeltas image r s) (rows_between (cuts image)) (All-contains (λ (q : SeqRow). All (StandsForDeltas image r q) (rows_between (cuts image))) image.sequences s (deltas_stand image r) there) in
      rows_once x (is_for x n) (rows_of_range image r s) count (rows_between (cuts image))
      (all_weaker (StandsForDeltas image r s) (HasIfWithin x (is_for x n) (rows_of_range image r s) count) range_has (rows_between (cuts image)) stands)
      (one_range (cuts image) x (cuts_ascend image) token)
      ∙ counted

  range_tells : (range : TokenRange) → StandsForDeltas image r s range → AllByRecursion (TellsSource image r s x n) (rows_of_range image r s range)
  range_tells range stands =
      all_map (TellsSource image r s x n) (row_for gs range (placed_before image r y) (gained_at image r s y) (lost_at image r s y)) (gained_at image r s y)
      (all_each (λ m. TellsSource image r s x n (row_for gs range (placed_before image r y) (gained_at image r s y) (lost_at image r s y) m)) tells (gained_at image r s y))
    where
      y : ℤ
      y = last_token range.right

      gs : List Group
      gs = groups_of image.nodes r

      tells : (m : ℕ) → TellsSource image r s x n (row_for gs range (placed_before image r y) (gained_at image r s y) (lost_at image r s y) m)
      tells m here =
          let both = and_parts (is_within x range) (nat_eq n m) here in
          let low : placed_before image r x ≡ placed_before image r y = stands.before x both.0 in
          let high : placed_with image r s x ≡ placed_with image r s y = stands.applied x both.0 in
          sym (λ i. streams_from gs (low i) (newcomers (high i) (low i)) (newcomers (low i) (high i)) (exact_unsigned_eq n m both.1 i))

  pub rows_tell : Contains image.sequences s → AllByRecursion (TellsSource image r s x n) (stream_rows image r s)
  rows_tell there =
      let stands = recursion_from_All (StandsForDeltas image r s) (rows_between (cuts image)) (All-contains (λ (q : SeqRow). All (StandsForDeltas image r q) (rows_between (cuts image))) image.sequences s (deltas_stand image r) there) in
      all_flat_map (TellsSource image r s x n) (rows_of_range image r s) (rows_between (cuts image))
      (all_weaker (StandsForDeltas image r s) (λ range. AllByRecursion (TellsSource image r s x n) (rows_of_range image r s range)) range_tells (rows_between (cuts image)) stands)

-- the plan covers what the movement adds
pub gains_covered : (image : Image) (r : Replication) (s : SeqRow) → Contains image.sequences s → CoverGains image (stream_rows image r s) r s
gains_covered image r s there = λ x n token. one_row_for image r s x n there token
