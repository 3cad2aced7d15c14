-- A walk back over a whole ring, from a token round to it again.
use Rattle.std.proofs.Common.{◌≡◌, ℕ, suc, zero, ◌<◌, ◌≤◌, Bool, true, false, ◌||◌, ℤ, ◌<ℤ◌, ◌≤ℤ◌, List, [], ◌∷◌, ◌++◌, length, get_or, take, drop, Option, Some, None, cond, refl, sym, ap, ◌∙◌, ◌⊎◌, inl, inr, subst, arith, length-take, take-append-drop, append-nil}
use Rattle.std.specs.List.{AllByRecursion}
use Rattle.std.specs.List.Sorted.{IsPermutation}
use Rattle.std.specs.Option.{unwrap_or}
use Rattle.std.specs.Ordering.{int_eq}
use Rattle.std.specs.Set.{is_member}
use Rattle.std.proofs.lemmas.Bool.{or_right}
use Rattle.std.proofs.lemmas.Int.{ints}
use Rattle.std.proofs.lemmas.List.{get_or-take}
use Rattle.std.proofs.lemmas.List.Sorted.{IsPermutation-append_comm, list_any-IsPermutation}
use Rattle.node_directory.proofs.MetLists.{member_of_mapped}
use Rattle.cluster_terms.specs.Arc.{in_arc}
use Rattle.cluster_terms.specs.Pair.{has_pair, same_pair, tokens_of}
use Rattle.cluster_terms.specs.declared.token.Pair.{Pair}
use Rattle.token_ring.specs.Ring.{IsRing, IsFirstAt}
use Rattle.token_ring.proofs.OrderLemmas.{IsRing-head, IsRing-tail}
use Rattle.token_ring.proofs.RangeLemmas.{from_all}
use Rattle.token_ring.proofs.RingLemmas.{IsCut, cut-from_first}
use Rattle.ring_reach.proofs.TokenLemmas.{itself}
use Rattle.ring_reach.proofs.WalkBackLemmas.{IsRound, comes_before, back-ended, back-more, ended_at, never_ended, none_yet}
use Rattle.ring_reach.specs.code.WalkBack.{Course, stop_at, first_some, back, met_back, IsPart}
use Rattle.ring_reach.specs.code.Windows.{is_inside, window}
use Rattle.ring_reach.specs.declared.windows.Window.{Window}
use Rattle.node_directory.specs.Tally.{Tallied, lacks}

-- ---- the order of a ring from a token on

module _ (y : ℤ) where
  abbrev AreBelow : List Pair → Type 0
  AreBelow ps = AllByRecursion (λ (p : Pair). p.token <ℤ y) ps

  abbrev AreFrom : List Pair → Type 0
  AreFrom ps = AllByRecursion (λ (p : Pair). y ≤ℤ p.token) ps

  abbrev AreAfter : Pair → List Pair → Type 0
  AreAfter p qs = AllByRecursion (λ (q : Pair). p.token <ℤ q.token) qs

  below_order : (p q : ℤ) → q <ℤ y → p <ℤ q → in_arc y q p ≡ true
  below_order p q below lt = grind (arith, ints)

  from_order : (p q : ℤ) → y ≤ℤ p → p <ℤ q → in_arc y q p ≡ true
  from_order p q above lt = grind (arith, ints)

  round_order : (p q : ℤ) → y ≤ℤ p → q <ℤ y → in_arc y q p ≡ true
  round_order p q above below = grind (arith, ints)

  below_before : (p : Pair) (qs : List Pair) → AreBelow qs → AreAfter p qs → comes_before y p qs
  below_before p [] below after = tt
  below_before p (q ∷ qs) below after = (below_order p.token q.token below.0 after.0, below_before p qs below.1 after.1)

  below_round : (ps : List Pair) → IsRing ps → AreBelow ps → IsRound y ps
  below_round [] ring below = tt
  below_round (p ∷ ps) ring below =
      (below_before p ps below.1 (from_all (λ (q : Pair). p.token <ℤ q.token) ps (IsRing-head p ps ring)), below_round ps (IsRing-tail p ps ring) below.1)

  from_before : (p : Pair) (qs rs : List Pair) → y ≤ℤ p.token → AreAfter p qs → AreBelow rs → comes_before y p (qs ++ rs)
  from_before p [] [] from after below = tt
  from_before p [] (r ∷ rs) from after below = (round_order p.token r.token from below.0, from_before p [] rs from after below.1)
  from_before p (q ∷ qs) rs from after below = (from_order p.token q.token from after.0, from_before p qs rs from after.1 below)

  -- those from y on come first, and then those below y
  both_round : (ps rs : List Pair) → IsRing ps → AreFrom ps → IsRing rs → AreBelow rs → IsRound y (ps ++ rs)
  both_round [] rs ring from others below = below_round rs others below
  both_round (p ∷ ps) rs ring from others below =
      (from_before p ps rs from.0 (from_all (λ (q : Pair). p.token <ℤ q.token) ps (IsRing-head p ps ring)) below, both_round ps rs (IsRing-tail p ps ring) from.1 others below)

ring_drop : (i : ℕ) (ps : List Pair) → IsRing ps → IsRing (drop i ps)
ring_drop zero ps ring = ring
ring_drop (suc i) [] ring = ring
ring_drop (suc i) (p ∷ ps) ring = ring_drop i ps (IsRing-tail p ps ring)

ring_take : (i : ℕ) (ps : List Pair) → IsRing ps → IsRing (take i ps)
ring_take i ps ring j k d lt in_k =
    let in_i : k < i = omega (arith, length-take {A = Pair}) in
    let in_ps : k < length ps = omega (arith, length-take {A = Pair}) in
    rw (get_or-take i ps j d (omega arith), get_or-take i ps k d in_i) (ring j k d lt in_ps)

dropped : (y : ℤ) (i : ℕ) (ps : List Pair) → ((k : ℕ) (d : Pair) → i ≤ k → k < length ps → y ≤ℤ (get_or ps k d).token) → AreFrom y (drop i ps)
dropped y zero [] all = tt
dropped y zero (p ∷ ps) all = (all 0 p (omega arith) (omega arith), dropped y zero ps (λ k d le in_k. all (suc k) d (omega arith) (omega arith)))
dropped y (suc i) [] all = tt
dropped y (suc i) (p ∷ ps) all = dropped y i ps (λ k d le in_k. all (suc k) d (omega arith) (omega arith))

taken : (y : ℤ) (i : ℕ) (ps : List Pair) → ((k : ℕ) (d : Pair) → k < i → k < length ps → (get_or ps k d).token <ℤ y) → AreBelow y (take i ps)
taken y zero ps all = tt
taken y (suc i) [] all = tt
taken y (suc i) (p ∷ ps) all = (all 0 p (omega arith) (omega arith), taken y i ps (λ k d lt in_k. all (suc k) d (omega arith) (omega arith)))

-- from the first position at or after y on, the pairs of a ring are in ring order
ring_round : (ps : List Pair) (y : ℤ) (i : ℕ) → IsRing ps → IsFirstAt ps y i → IsRound y (drop i ps ++ take i ps)
ring_round ps y i ring first = by cut.rest
  where
    cut : IsCut ps y i
    cut = cut-from_first ps y i ring first

    by : ((k : ℕ) (d : Pair) → i ≤ k → k < length ps → y ≤ℤ (get_or ps k d).token) ⊎ ((i ≡ 0) × ((k : ℕ) (d : Pair) → k < length ps → (get_or ps k d).token <ℤ y)) → IsRound y (drop i ps ++ take i ps)
    by (inl from) = both_round y (drop i ps) (take i ps) (ring_drop i ps ring) (dropped y i ps from) (ring_take i ps ring) (taken y i ps cut.below)
    by (inr all) =
        let whole : drop i ps ++ take i ps ≡ ps = ap (λ n. drop n ps ++ take n ps) all.0 ∙ append-nil ps in
        subst (IsRound y) (sym whole) (below_round y ps ring (from_all (λ (p : Pair). p.token <ℤ y) ps (λ k d in_k. all.1 k d in_k)))

-- ---- the ends of a walk

moved_round : (ps : List Pair) (i : ℕ) → IsPermutation (drop i ps ++ take i ps) ps
moved_round ps i = subst (IsPermutation (drop i ps ++ take i ps)) (take-append-drop i ps) (IsPermutation-append_comm (drop i ps) (take i ps))

same_pairs : (ps : List Pair) (i : ℕ) (q : Pair) → has_pair (drop i ps ++ take i ps) q ≡ has_pair ps q
same_pairs ps i q = list_any-IsPermutation (same_pair q) (drop i ps ++ take i ps) ps (moved_round ps i)

same_tokens : (ps : List Pair) (i : ℕ) (t : ℤ) → is_member int_eq (tokens_of (drop i ps ++ take i ps)) t ≡ is_member int_eq (tokens_of ps) t
same_tokens ps i t =
    member_of_mapped int_eq (λ (p : Pair). p.token) (drop i ps ++ take i ps) t
    ∙ list_any-IsPermutation (λ (p : Pair). int_eq t p.token) (drop i ps ++ take i ps) ps (moved_round ps i)
    ∙ sym (member_of_mapped int_eq (λ (p : Pair). p.token) ps t)

-- a walk ends at the span's left end or at the token of a pair
stops_among : (c : Course) (span : Window) (p : Pair) (ps : List Pair) (tally : Tallied) (t : ℤ) → stop_at span p tally ≡ Some t → is_member int_eq (span.left ∷ tokens_of (p ∷ ps)) t ≡ true
stops_among c span p ps tally t = by (is_inside p.token span) (lacks tally)
  where
    by : (a b : Bool) → cond a (cond b None (Some p.token)) (Some span.left) ≡ Some t → is_member int_eq (span.left ∷ tokens_of (p ∷ ps)) t ≡ true
    by false b e = subst (λ u. is_member int_eq (span.left ∷ tokens_of (p ∷ ps)) u ≡ true) (let at : span.left ≡ t = cc in at) (itself span.left (tokens_of (p ∷ ps)))
    by true false e =
        subst (λ u. is_member int_eq (span.left ∷ tokens_of (p ∷ ps)) u ≡ true) (let at : p.token ≡ t = cc in at)
        (or_right (int_eq p.token span.left) (is_member int_eq (tokens_of (p ∷ ps)) p.token) (itself p.token (tokens_of ps)))
    by true true e = absurd (cc)

ends_among : (c : Course) (span : Window) (ps : List Pair) (tally : Tallied) (t : ℤ) → back c span ps tally ≡ Some t → is_member int_eq (span.left ∷ tokens_of ps) t ≡ true
ends_among c span [] tally t e = absurd (cc)
ends_among c span (p ∷ ps) tally t e = by (back c span ps tally) e (ends_among c span ps tally t)
  where
    more : (a b r : Bool) → (a || r) ≡ true → (a || (b || r)) ≡ true
    more true b r h = refl
    more false b r h = or_right b r h

    by : (o : Option ℤ) → first_some o (stop_at span p (met_back c (p ∷ ps) tally)) ≡ Some t → (o ≡ Some t → is_member int_eq (span.left ∷ tokens_of ps) t ≡ true) → is_member int_eq (span.left ∷ tokens_of (p ∷ ps)) t ≡ true
    by None e rest = stops_among c span p ps (met_back c (p ∷ ps) tally) t e
    by (Some u) e rest = more (int_eq t span.left) (int_eq t p.token) (is_member int_eq (tokens_of ps) t) (rest e)

module _ (c : Course) (span : Window) (i : ℕ) (ring : IsRing c.fixed) (first : IsFirstAt c.fixed span.right i) (some : lacks (none_yet c) ≡ true) where
  abbrev round : List Pair
  round = drop i c.fixed ++ take i c.fixed

  in_fixed : (t : ℤ) → is_member int_eq (span.left ∷ tokens_of round) t ≡ true → is_member int_eq (span.left ∷ tokens_of c.fixed) t ≡ true
  in_fixed t h = sym (ap (λ b. int_eq t span.left || b) (same_tokens c.fixed i t)) ∙ h

  ended : (t : ℤ) → back c span round (none_yet c) ≡ Some t → IsPart c span (window t span.right)
  ended t e = record {
    right = refl;
    left = in_fixed t (ends_among c span round (none_yet c) t e);
    reach = ended_at c span some round (same_pairs c.fixed i) (ring_round c.fixed span.right i ring first) t e;
  }

  -- where a walk over the pairs below the right end stops, the reached part of the span begins
  pub part-first : (t : ℤ) → back c span (take i c.fixed) (none_yet c) ≡ Some t → IsPart c span (window t span.right)
  part-first t e = ended t (back-ended c span (drop i c.fixed) (take i c.fixed) (none_yet c) t e)

  -- and so where it goes on over the others; if it stops nowhere, the whole span is reached
  pub part-second : (o : Option ℤ) → back c span (take i c.fixed) (none_yet c) ≡ None → back c span (drop i c.fixed) (met_back c (take i c.fixed) (none_yet c)) ≡ o
      → IsPart c span (window (unwrap_or o span.left) span.right)
  part-second (Some t) none e = ended t (back-more c span (drop i c.fixed) (take i c.fixed) (none_yet c) none ∙ e)
  part-second None none e = record {
    right = refl;
    left = itself span.left (tokens_of c.fixed);
    reach =
        never_ended c span some round (same_pairs c.fixed i) (ring_round c.fixed span.right i ring first)
        (back-more c span (drop i c.fixed) (take i c.fixed) (none_yet c) none ∙ e);
  }
