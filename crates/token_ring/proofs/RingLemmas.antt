-- The order in which the pairs of a ring are met from a token on.
use Rattle.std.proofs.Common.{◌≡◌, ℕ, suc, zero, ◌+◌, ◌-◌, ◌<◌, ◌≤◌, Bool, true, false, ◌&&◌, ◌||◌, if◌then◌else◌, ℤ, ◌<ℤ◌, ◌≤ℤ◌, List, [], ◌∷◌, ◌++◌, length, get_or, take, drop, nat_lt, nat_le, filter, refl, sym, ap, ◌∙◌, ◌⊎◌, inl, inr, ⊎_elim, arith, int_lt}
use Rattle.std.specs.List.{All}
use Rattle.std.specs.List.Sorted.{IsPartitionPoint, IsPartitionedBy, IsPermutation}
use Rattle.std.proofs.lemmas.List.{get_or_default, get_or_append_left, get_or-drop, get_or-take, get_or-append-add, length-drop, take-append-le, take-take}
use Rattle.std.proofs.Math.Seq.{take-append-add}
use Rattle.std.proofs.lemmas.List.Sorted.{IsPermutation-refl, IsPermutation-append_comm}
use Rattle.std.proofs.lemmas.List.Elements.{All-nil, All-head, All-tail, All-cons}
use Rattle.std.proofs.lemmas.Int.{ints}
use Rattle.std.proofs.lemmas.Bool.{cases_lt}
use Rattle.std.proofs.lemmas.Bool.Decides.{nat_tests}
use Rattle.cluster_terms.specs.Arc.{in_arc}
use Rattle.cluster_terms.specs.Group.{ahead_of}
use Rattle.cluster_terms.specs.declared.token.Pair.{Pair}
use Rattle.token_ring.specs.Ring.{IsRing, IsFirstAt}

-- the tokens at two positions are in the order of the positions
pub token-lt : (ps : List Pair) → IsRing ps → (j k : ℕ) (d e : Pair) → j < k → k < length ps → (get_or ps j d).token <ℤ (get_or ps k e).token
token-lt ps ring j k d e below in_range =
    let in_j : j < length ps = omega arith in rw (get_or_default ps j d e in_j) (ring j k e below in_range)

pub token-le : (ps : List Pair) → IsRing ps → (j k : ℕ) (d e : Pair) → j ≤ k → k < length ps → (get_or ps j d).token ≤ℤ (get_or ps k e).token
token-le ps ring j k d e below in_range = ⊎_elim less same (cases_lt j k)
  where
    less : j < k → (get_or ps j d).token ≤ℤ (get_or ps k e).token
    less lt = let l = token-lt ps ring j k d e lt in_range in omega (arith, ints, l)

    same : k ≤ j → (get_or ps j d).token ≤ℤ (get_or ps k e).token
    same le =
        let eq : j ≡ k = omega arith in
        let in_j : j < length ps = omega arith in
        rw (get_or_default ps j d e in_j, eq) (omega (arith, ints))

int_lt-tokens : (ps : List Pair) → IsRing ps → (j k : ℕ) (d e : Pair) → j < length ps → k < length ps → int_lt (get_or ps k e).token (get_or ps j d).token ≡ nat_lt k j
int_lt-tokens ps ring j k d e in_j in_k = ⊎_elim less more (cases_lt k j)
  where
    less : k < j → int_lt (get_or ps k e).token (get_or ps j d).token ≡ nat_lt k j
    less lt = let l = token-lt ps ring k j e d lt in_j in grind (arith, ints, nat_tests, l)

    more : j ≤ k → int_lt (get_or ps k e).token (get_or ps j d).token ≡ nat_lt k j
    more le = let l = token-le ps ring j k d e le in_k in grind (arith, ints, nat_tests, l)

-- whether position k is met from position i on, going round, before position j
abbrev pub is_met : ℕ → ℕ → ℕ → Bool
is_met i j k = if nat_le i j then nat_le i k && nat_lt k j else nat_le i k || nat_lt k j

-- position i cuts the tokens at t: those before it are below t and the rest are not, or i is 0 and all are below t
pub record IsCut (ps : List Pair) (t : ℤ) (i : ℕ) : Type 0 where
  pub below : (k : ℕ) (d : Pair) → k < i → k < length ps → (get_or ps k d).token <ℤ t
  pub rest : ((k : ℕ) (d : Pair) → i ≤ k → k < length ps → t ≤ℤ (get_or ps k d).token) ⊎ ((i ≡ 0) × ((k : ℕ) (d : Pair) → k < length ps → (get_or ps k d).token <ℤ t))

arc-after : (t y z : ℤ) → t ≤ℤ y → t ≤ℤ z → in_arc t y z ≡ int_lt z y
arc-after t y z p q = grind (arith, ints)

arc-round : (t y z : ℤ) → y <ℤ t → z <ℤ t → in_arc t y z ≡ int_lt z y
arc-round t y z p q = grind (arith, ints)

arc-past : (t y z : ℤ) → t ≤ℤ y → z <ℤ t → in_arc t y z ≡ false
arc-past t y z p q = grind (arith, ints)

arc-before : (t y z : ℤ) → y <ℤ t → t ≤ℤ z → in_arc t y z ≡ true
arc-before t y z p q = grind (arith, ints)

met-after : (i j k : ℕ) → i ≤ j → i ≤ k → nat_lt k j ≡ is_met i j k
met-after i j k p q = grind (arith, nat_tests)

met-round : (i j k : ℕ) → j < i → k < i → nat_lt k j ≡ is_met i j k
met-round i j k p q = grind (arith, nat_tests)

met-past : (i j k : ℕ) → i ≤ j → k < i → false ≡ is_met i j k
met-past i j k p q = grind (arith, nat_tests)

met-before : (i j k : ℕ) → j < i → i ≤ k → true ≡ is_met i j k
met-before i j k p q = grind (arith, nat_tests)

-- from the cut at t on, the pairs of a ring are met in the order of their positions, going round
arc-positions : (ps : List Pair) (t : ℤ) (i : ℕ) → IsRing ps → IsCut ps t i → (j k : ℕ) (d e : Pair) → j < length ps → k < length ps → in_arc t (get_or ps j d).token (get_or ps k e).token ≡ is_met i j k
arc-positions ps t i ring cut j k d e in_j in_k = ⊎_elim parted round cut.rest
  where
    order : int_lt (get_or ps k e).token (get_or ps j d).token ≡ nat_lt k j
    order = int_lt-tokens ps ring j k d e in_j in_k

    parted : ((m : ℕ) (f : Pair) → i ≤ m → m < length ps → t ≤ℤ (get_or ps m f).token) → in_arc t (get_or ps j d).token (get_or ps k e).token ≡ is_met i j k
    parted above =
        elim (cases_lt j i) [
          | inl j_low ↦ elim (cases_lt k i) [
            | inl k_low ↦ arc-round t _ _ (cut.below j d j_low in_j) (cut.below k e k_low in_k) ∙ order ∙ met-round i j k j_low k_low
            | inr k_high ↦ arc-before t _ _ (cut.below j d j_low in_j) (above k e k_high in_k) ∙ met-before i j k j_low k_high
          ]
          | inr j_high ↦ elim (cases_lt k i) [
            | inl k_low ↦ arc-past t _ _ (above j d j_high in_j) (cut.below k e k_low in_k) ∙ met-past i j k j_high k_low
            | inr k_high ↦ arc-after t _ _ (above j d j_high in_j) (above k e k_high in_k) ∙ order ∙ met-after i j k j_high k_high
          ]
        ]

    round : (i ≡ 0) × ((m : ℕ) (f : Pair) → m < length ps → (get_or ps m f).token <ℤ t) → in_arc t (get_or ps j d).token (get_or ps k e).token ≡ is_met i j k
    round all_low = arc-round t _ _ (all_low.1 j d in_j) (all_low.1 k e in_k) ∙ order ∙ met-after i j k (omega (arith, all_low.0)) (omega (arith, all_low.0))

-- no element passes a test exactly where the filter is empty
filter-nil : (p : Pair → Bool) (ps : List Pair) → All (λ q. p q ≡ false) ps → filter p ps ≡ []
filter-nil p [] none = refl
filter-nil p (q ∷ qs) none = rw (All-head (λ q. p q ≡ false) q qs none) (filter-nil p qs (All-tail (λ q. p q ≡ false) q qs none))

nil-filter : (p : Pair → Bool) (ps : List Pair) → filter p ps ≡ [] → All (λ q. p q ≡ false) ps
nil-filter p [] none = All-nil (λ q. p q ≡ false)
nil-filter p (q ∷ qs) none = by (p q) refl (nil-filter p qs)
  where
    by : (b : Bool) → p q ≡ b → (filter p qs ≡ [] → All (λ r. p r ≡ false) qs) → All (λ r. p r ≡ false) (q ∷ qs)
    by true e next = let empty : q ∷ filter p qs ≡ [] = rw e at none in absurd (cc)
    by false e next = All-cons (λ r. p r ≡ false) q qs e (next (rw e at none))

-- the position of the cut is the first at or after t
pub first-from_cut : (ps : List Pair) (t : ℤ) (i : ℕ) → IsRing ps → IsCut ps t i → i < length ps → IsFirstAt ps t i
first-from_cut ps t i ring cut in_range = record {
  in_range = in_range;
  none_ahead = λ d. filter-nil _ ps (λ k e in_k. arc-positions ps t i ring cut i k d e in_range in_k ∙ sym (apart k));
}
  where
    apart : (k : ℕ) → false ≡ is_met i i k
    apart k = grind (arith, nat_tests)

-- what the first position has ahead of it
ahead-none : (ps : List Pair) (t : ℤ) (i : ℕ) → IsFirstAt ps t i → (k : ℕ) (d e : Pair) → k < length ps → in_arc t (get_or ps i d).token (get_or ps k e).token ≡ false
ahead-none ps t i first k d e in_k = nil-filter (λ q. in_arc t (get_or ps i d).token q.token) ps (first.none_ahead d) k e in_k

low-from_arc : (t y z : ℤ) → t ≤ℤ y → z <ℤ y → in_arc t y z ≡ false → z <ℤ t
low-from_arc t y z p q e = grind (arith, ints)

round-from_arc : (t y z : ℤ) → y <ℤ t → in_arc t y z ≡ false → (z <ℤ t) × (y ≤ℤ z)
round-from_arc t y z p e = (grind (arith, ints), grind (arith, ints))

cases_ℤ : (t y : ℤ) → (t ≤ℤ y) ⊎ (y <ℤ t)
cases_ℤ t y = grind (arith, ints)

-- the first position is a cut; the pair stands in for one past the end
cut-at : (ps : List Pair) (t : ℤ) (i : ℕ) → IsRing ps → IsFirstAt ps t i → Pair → IsCut ps t i
cut-at ps t i ring first p = ⊎_elim parted round (cases_ℤ t (get_or ps i p).token)
  where
    parted : t ≤ℤ (get_or ps i p).token → IsCut ps t i
    parted high = record {
      below = λ k d low in_k. low-from_arc t (get_or ps i p).token (get_or ps k d).token high (token-lt ps ring k i d p low first.in_range) (ahead-none ps t i first k p d in_k);
      rest = inl (λ k d le in_k. let l = token-le ps ring i k p d le in_k in omega (arith, ints, l));
    }

    lows : (get_or ps i p).token <ℤ t → (k : ℕ) (d : Pair) → k < length ps → ((get_or ps k d).token <ℤ t) × ((get_or ps i p).token ≤ℤ (get_or ps k d).token)
    lows low k d in_k = round-from_arc t (get_or ps i p).token (get_or ps k d).token low (ahead-none ps t i first k p d in_k)

    least : (get_or ps i p).token <ℤ t → i ≡ 0
    least low = ⊎_elim (λ (above : 0 < i).
        let in_0 : 0 < length ps = omega (arith, first.in_range) in
        let l = token-lt ps ring 0 i p p above first.in_range in
        let m = (lows low 0 p in_0).1 in
        absurd (omega (arith, ints, l, m))) (λ (le : i ≤ 0). omega arith) (cases_lt 0 i)

    round : (get_or ps i p).token <ℤ t → IsCut ps t i
    round low = record {
      below = λ k d _ in_k. (lows low k d in_k).0;
      rest = inr (least low, λ k d in_k. (lows low k d in_k).0);
    }

-- the first position at or after t is where the tokens are cut
pub cut-from_first : (ps : List Pair) (t : ℤ) (i : ℕ) → IsRing ps → IsFirstAt ps t i → IsCut ps t i
cut-from_first [] t i ring first = absurd (omega (arith, first.in_range))
cut-from_first (p ∷ ps) t i ring first = cut-at (p ∷ ps) t i ring first p

-- from the first token at or after t on, the pairs of a ring are met in the order of their positions, going round:
-- before position j those from position i up to j, and for a j before i all from i on and those up to j
pub arc-from_first : (ps : List Pair) (t : ℤ) (i : ℕ) → IsRing ps → IsFirstAt ps t i → (j k : ℕ) (d e : Pair) → j < length ps → k < length ps → in_arc t (get_or ps j d).token (get_or ps k e).token ≡ is_met i j k
arc-from_first ps t i ring first = arc-positions ps t i ring (cut-from_first ps t i ring first)

-- a filter that passes n elements from position i on, and no other
filter-span : (p : Pair → Bool) (ps : List Pair) (i n : ℕ) → ((k : ℕ) (d : Pair) → k < length ps → p (get_or ps k d) ≡ (nat_le i k && nat_lt k (i + n))) → filter p ps ≡ take n (drop i ps)
filter-span p [] zero zero test = refl
filter-span p [] zero (suc n) test = refl
filter-span p [] (suc i) zero test = refl
filter-span p [] (suc i) (suc n) test = refl
filter-span p (q ∷ qs) zero zero test =
    filter-nil p (q ∷ qs) (λ k d in_k. test k d in_k ∙ grind (arith, nat_tests))
filter-span p (q ∷ qs) zero (suc n) test =
    let first : p q ≡ true = test 0 q (omega arith) ∙ grind (arith, nat_tests) in
    rw first (ap (λ rest. q ∷ rest) (filter-span p qs zero n (λ k d in_k. test (suc k) d (omega arith) ∙ grind (arith, nat_tests))))
filter-span p (q ∷ qs) (suc i) n test =
    let first : p q ≡ false = test 0 q (omega arith) ∙ grind (arith, nat_tests) in
    rw first (filter-span p qs i n (λ k d in_k. test (suc k) d (omega arith) ∙ grind (arith, nat_tests)))

-- and one that passes those before position j and those from i on
filter-around : (p : Pair → Bool) (ps : List Pair) (i j : ℕ) → j ≤ i → ((k : ℕ) (d : Pair) → k < length ps → p (get_or ps k d) ≡ (nat_le i k || nat_lt k j)) → filter p ps ≡ take j ps ++ drop i ps
filter-around p [] zero zero le test = refl
filter-around p [] zero (suc j) le test = absurd (omega arith)
filter-around p [] (suc i) zero le test = refl
filter-around p [] (suc i) (suc j) le test = refl
filter-around p (q ∷ qs) zero zero le test =
    let first : p q ≡ true = test 0 q (omega arith) ∙ grind (arith, nat_tests) in
    rw first (ap (λ rest. q ∷ rest) (filter-around p qs zero zero le (λ k d in_k. test (suc k) d (omega arith) ∙ grind (arith, nat_tests))))
filter-around p (q ∷ qs) zero (suc j) le test = absurd (omega arith)
filter-around p (q ∷ qs) (suc i) zero le test =
    let first : p q ≡ false = test 0 q (omega arith) ∙ grind (arith, nat_tests) in
    rw first (filter-around p qs i zero (omega arith) (λ k d in_k. test (suc k) d (omega arith) ∙ grind (arith, nat_tests)))
filter-around p (q ∷ qs) (suc i) (suc j) le test =
    let first : p q ≡ true = test 0 q (omega arith) ∙ grind (arith, nat_tests) in
    rw first (ap (λ rest. q ∷ rest) (filter-around p qs i j (omega arith) (λ k d in_k. test (suc k) d (omega arith) ∙ grind (arith, nat_tests))))

met-up_to : (i j k : ℕ) → i ≤ j → is_met i j k ≡ (nat_le i k && nat_lt k (i + (j - i)))
met-up_to i j k le = let whole : i + (j - i) ≡ j = omega arith in grind (arith, nat_tests)

met-around : (i j k : ℕ) → j < i → is_met i j k ≡ (nat_le i k || nat_lt k j)
met-around i j k lt = grind (arith, nat_tests)

-- what is met before a pair that is not before the first one: the pairs from the first one up to it
pub ahead_of-after : (ps : List Pair) (t : ℤ) (i : ℕ) → IsRing ps → IsFirstAt ps t i → (j : ℕ) (d : Pair) → i ≤ j → j < length ps → ahead_of t (get_or ps j d).token ps ≡ take (j - i) (drop i ps)
ahead_of-after ps t i ring first j d le in_j =
    filter-span (λ q. in_arc t (get_or ps j d).token q.token) ps i (j - i) (λ k e in_k. arc-from_first ps t i ring first j k d e in_j in_k ∙ met-up_to i j k le)

-- what is met before a pair that is before the first one: the pairs from the first one on, and those up to it
pub ahead_of-before : (ps : List Pair) (t : ℤ) (i : ℕ) → IsRing ps → IsFirstAt ps t i → (j : ℕ) (d : Pair) → j < i → j < length ps → ahead_of t (get_or ps j d).token ps ≡ take j ps ++ drop i ps
ahead_of-before ps t i ring first j d lt in_j =
    filter-around (λ q. in_arc t (get_or ps j d).token q.token) ps i j (omega arith) (λ k e in_k. arc-from_first ps t i ring first j k d e in_j in_k ∙ met-around i j k lt)

-- the pairs from position i on, going round
abbrev pub walk_from : ℕ → List Pair → List Pair
walk_from i ps = drop i ps ++ take i ps

-- what is met before a pair of the walk from the first one on: the pairs of the walk up to it
pub ahead_of-walk : (ps : List Pair) (t : ℤ) (i : ℕ) → IsRing ps → IsFirstAt ps t i → (m : ℕ) (d : Pair) → m < length ps → IsPermutation (ahead_of t (get_or (walk_from i ps) m d).token ps) (take m (walk_from i ps))
ahead_of-walk ps t i ring first m d in_m = ⊎_elim after before (cases_lt (i + m) (length ps))
  where
    long : length (drop i ps) ≡ length ps - i
    long = length-drop i ps

    after : i + m < length ps → IsPermutation (ahead_of t (get_or (walk_from i ps) m d).token ps) (take m (walk_from i ps))
    after lt =
        let here : get_or (walk_from i ps) m d ≡ get_or ps (i + m) d = get_or_append_left (drop i ps) (take i ps) d m (omega (arith, long)) ∙ get_or-drop i ps m d in
        let count : i + m - i ≡ m = omega arith in
        let ahead : ahead_of t (get_or (walk_from i ps) m d).token ps ≡ take m (drop i ps) = ap (λ (p : Pair). ahead_of t p.token ps) here ∙ ahead_of-after ps t i ring first (i + m) d (omega arith) lt ∙ ap (λ n. take n (drop i ps)) count in
        let front : take m (walk_from i ps) ≡ take m (drop i ps) = take-append-le m (drop i ps) (take i ps) (omega (arith, long)) in
        rw (ahead, front) (IsPermutation-refl (take m (drop i ps)))

    before : length ps ≤ i + m → IsPermutation (ahead_of t (get_or (walk_from i ps) m d).token ps) (take m (walk_from i ps))
    before le =
        let j = i + m - length ps in
        let in_i : i < length ps = first.in_range in
        let low : j < i = omega arith in
        let whole : m ≡ length (drop i ps) + j = omega (arith, long) in
        let here : get_or (walk_from i ps) m d ≡ get_or ps j d = ap (λ n. get_or (walk_from i ps) n d) whole ∙ get_or-append-add (drop i ps) (take i ps) j d ∙ get_or-take i ps j d low in
        let ahead : ahead_of t (get_or (walk_from i ps) m d).token ps ≡ take j ps ++ drop i ps = ap (λ (p : Pair). ahead_of t p.token ps) here ∙ ahead_of-before ps t i ring first j d low (omega arith) in
        let front : take m (walk_from i ps) ≡ drop i ps ++ take j ps = ap (λ n. take n (walk_from i ps)) whole ∙ take-append-add (drop i ps) (take i ps) j ∙ ap (λ l. drop i ps ++ l) (take-take j i ps (omega arith)) in
        rw (ahead, front) (IsPermutation-append_comm (take j ps) (drop i ps))

-- the first position, where n pairs of a ring are below t: the n-th, or past the greatest token the least one
pub first-within : (ps : List Pair) (t : ℤ) (n : ℕ) → IsRing ps → IsPartitionPoint (λ p. p.token <ℤ t) (λ p. t ≤ℤ p.token) ps n → n < length ps → IsFirstAt ps t n
first-within ps t n ring split in_n =
    first-from_cut ps t n ring (record { below = λ k d low _. split.0 k d (omega arith) low; rest = inl (λ k d high in_k. split.1 k d high in_k) }) in_n

pub first-past : (ps : List Pair) (t : ℤ) (n : ℕ) → IsRing ps → IsPartitionPoint (λ p. p.token <ℤ t) (λ p. t ≤ℤ p.token) ps n → length ps ≤ n → 0 < length ps → IsFirstAt ps t 0
first-past ps t n ring split all some =
    first-from_cut ps t 0 ring (record { below = λ k d low _. absurd (omega arith); rest = inr (refl, λ k d in_k. split.0 k d (omega arith) (omega arith)) }) some

-- the tokens of a ring below t stand before the others
pub IsPartitionedBy-int_lt : (ps : List Pair) (t : ℤ) → IsRing ps → IsPartitionedBy (λ p. int_lt p.token t) ps
IsPartitionedBy-int_lt ps t ring i j d le in_j low =
    let l = token-le ps ring i j d d le in_j in grind (arith, ints, low, l)

pub split-from_tests : (ps : List Pair) (t : ℤ) (n : ℕ) → IsPartitionPoint (λ p. int_lt p.token t ≡ true) (λ p. int_lt p.token t ≡ false) ps n → IsPartitionPoint (λ p. p.token <ℤ t) (λ p. t ≤ℤ p.token) ps n
split-from_tests ps t n split =
    (λ k d zero lt. let low = split.0 k d zero lt in grind (arith, ints, low), λ k d le lt. let high = split.1 k d le lt in grind (arith, ints, high))
