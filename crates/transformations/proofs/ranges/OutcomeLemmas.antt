-- The rings that come of movements that are done or given up: which pairs they have, and what places them at a token.
use Rattle.std.proofs.Common.{◌≡◌, Bool, true, false, cond, not, ◌&&◌, ◌||◌, if◌then◌else◌, ℤ, List, [], ◌∷◌, filter, flat_map, refl, sym, ap, ◌∙◌, arith, true≢false}
use Rattle.std.proofs.Math.Bool.{or_assoc}
use Rattle.std.proofs.lemmas.Bool.{or_left, or_right, and_right, and_left}
use Rattle.std.specs.List.{AllByRecursion}
use Rattle.std.specs.Ordering.{nat_cmp}
use Rattle.cluster_terms.proofs.placement.GroupLemmas.{or_elim}
use Rattle.cluster_terms.proofs.rows.PairLemmas.{same_pair-tells}
use Rattle.cluster_terms.proofs.placement.PlacedByReach.{place-same, placed_by_reach}
use Rattle.cluster_terms.proofs.reach.ReachSame.{reached-append, reached-none}
use Rattle.cluster_terms.specs.Ascending.{put_all}
use Rattle.cluster_terms.specs.Pair.{has_pair, same_pair}
use Rattle.cluster_terms.specs.Reach.{IsBetween, is_reached}
use Rattle.cluster_terms.specs.Replication.{groups_of}
use Rattle.cluster_terms.specs.declared.replication.Replication.{Replication}
use Rattle.cluster_terms.specs.declared.token.Pair.{Pair}
use Rattle.transformations.proofs.movements.ExchangeLemmas.{IsExchange, exchanges}
use Rattle.transformations.proofs.lists.ListLemmas.{all_each, all_weaker, filter_none, member_holds, part_all_of, part_any, part_filter}
use Rattle.transformations.proofs.movements.OnceLemmas.{AreOnce, first_alone, later_once, not_out, once_by_node, out_takes}
use Rattle.transformations.proofs.pairs.OwnedLemmas.{has_append, has_filter, has_fixed}
use Rattle.transformations.proofs.ranges.MovementRanges.{IsWithinWidest, fixed_part, moved_within, part_taken}
use Rattle.transformations.specs.Ranges.{AgreeAt, AreOutcomes, ArePlacedByOutcomes, PlacedByRanges, in_ranges, moved_by, outcome_ring, side}
use Rattle.transformations.specs.Rings.{fixed_ring, high_ring, incoming, is_mid, has_started, low_ring, outgoing, read_ring, reads_at, replaced, widest, writes_at}
use Rattle.transformations.specs.Movements.{takes_part}
use Rattle.transformations.specs.Valid.{IsSound}
use Rattle.transformations.specs.declared.image.Image.{Image}
use Rattle.transformations.specs.declared.sequence.SeqRow.{SeqRow}

-- ---- the pairs of the movements that are done, and of the others

has_cons : (f : SeqRow → List Pair) (s : SeqRow) (sequences : List SeqRow) (p : Pair) → (has_pair (f s) p || has_pair (flat_map f sequences) p) ≡ has_pair (flat_map f (s ∷ sequences)) p
has_cons f s sequences p = has_append (f s) (flat_map f sequences) p

module _ (done : SeqRow → Bool) (p : Pair) where
  -- whether a movement that is done takes the pair out or puts it in, and whether one that isn't takes it out
  abbrev goes : List SeqRow → Bool
  goes sequences = has_pair (outgoing (filter done sequences)) p

  abbrev comes : List SeqRow → Bool
  comes sequences = has_pair (incoming (filter done sequences)) p

  abbrev back : List SeqRow → Bool
  back sequences = has_pair (outgoing (filter (λ s. not (done s)) sequences)) p

  -- pairs come back or come to stand
  has_sides : (sequences : List SeqRow) → has_pair (flat_map (side done) sequences) p ≡ (comes sequences || back sequences)
  has_sides [] = refl
  has_sides (s ∷ sequences) = sym (has_cons (side done) s sequences p) ∙ by (done s) (has_sides sequences)
    where
      out_first : (a b c : Bool) → (a || (b || c)) ≡ (b || (a || c))
      out_first a b c = grind arith

      by : (d : Bool) → has_pair (flat_map (side done) sequences) p ≡ (comes sequences || back sequences)
          → (has_pair (if d then s.in_pairs else s.out_pairs) p || has_pair (flat_map (side done) sequences) p)
          ≡ (has_pair (incoming (cond d (s ∷ filter done sequences) (filter done sequences))) p
          || has_pair (outgoing (cond (not d) (s ∷ filter (λ q. not (done q)) sequences) (filter (λ q. not (done q)) sequences))) p)
      by true rest =
          ap (λ b. has_pair s.in_pairs p || b) rest ∙ sym (or_assoc (has_pair s.in_pairs p) (comes sequences) (back sequences))
          ∙ ap (λ b. b || back sequences) (has_cons (λ (q : SeqRow). q.in_pairs) s (filter done sequences) p)
      by false rest =
          ap (λ b. has_pair s.out_pairs p || b) rest ∙ out_first (has_pair s.out_pairs p) (comes sequences) (back sequences)
          ∙ ap (λ b. comes sequences || b) (has_cons (λ (q : SeqRow). q.out_pairs) s (filter (λ q. not (done q)) sequences) p)

  -- what any movement takes out
  has_out : (sequences : List SeqRow) → has_pair (outgoing sequences) p ≡ (goes sequences || back sequences)
  has_out [] = refl
  has_out (s ∷ sequences) = sym (has_cons (λ (q : SeqRow). q.out_pairs) s sequences p) ∙ by (done s) (has_out sequences)
    where
      out_first : (a b c : Bool) → (a || (b || c)) ≡ (b || (a || c))
      out_first a b c = grind arith

      by : (d : Bool) → has_pair (outgoing sequences) p ≡ (goes sequences || back sequences)
          → (has_pair s.out_pairs p || has_pair (outgoing sequences) p)
          ≡ (has_pair (outgoing (cond d (s ∷ filter done sequences) (filter done sequences))) p
          || has_pair (outgoing (cond (not d) (s ∷ filter (λ q. not (done q)) sequences) (filter (λ q. not (done q)) sequences))) p)
      by true rest =
          ap (λ b. has_pair s.out_pairs p || b) rest ∙ sym (or_assoc (has_pair s.out_pairs p) (goes sequences) (back sequences))
          ∙ ap (λ b. b || back sequences) (has_cons (λ (q : SeqRow). q.out_pairs) s (filter done sequences) p)
      by false rest =
          ap (λ b. has_pair s.out_pairs p || b) rest ∙ out_first (has_pair s.out_pairs p) (goes sequences) (back sequences)
          ∙ ap (λ b. goes sequences || b) (has_cons (λ (q : SeqRow). q.out_pairs) s (filter (λ q. not (done q)) sequences) p)

  -- no two movements take the pair out
  out_once : (sequences : List SeqRow) → AreOnce sequences → (goes sequences && back sequences) ≡ false
  out_once [] once = refl
  out_once (s ∷ sequences) once = by (has_pair s.out_pairs p) refl (done s) (out_once sequences (later_once s sequences once))
    where
      none : (test : SeqRow → Bool) → has_pair s.out_pairs p ≡ true → has_pair (outgoing (filter test sequences)) p ≡ false
      none test here =
          not_out p (filter test sequences)
          (part_all_of (λ (q : SeqRow). takes_part p.node q ≡ false) (part_filter test sequences) (first_alone s sequences once p.node (out_takes s p here)))

      by : (o : Bool) → has_pair s.out_pairs p ≡ o → (d : Bool) → (goes sequences && back sequences) ≡ false
          → (has_pair (outgoing (cond d (s ∷ filter done sequences) (filter done sequences))) p
          && has_pair (outgoing (cond (not d) (s ∷ filter (λ q. not (done q)) sequences) (filter (λ q. not (done q)) sequences))) p) ≡ false
      by true e true rest = and_right (has_pair (outgoing (s ∷ filter done sequences)) p) (back sequences) (none (λ q. not (done q)) e)
      by true e false rest = and_left (goes sequences) (has_pair (outgoing (s ∷ filter (λ q. not (done q)) sequences)) p) (none done e)
      by false e true rest =
          sym (λ i. has_cons (λ (q : SeqRow). q.out_pairs) s (filter done sequences) p i && back sequences) ∙ ap (λ b. (b || goes sequences) && back sequences) e ∙ rest
      by false e false rest =
          sym (λ i. goes sequences && has_cons (λ (q : SeqRow). q.out_pairs) s (filter (λ q. not (done q)) sequences) p i) ∙ ap (λ b. goes sequences && (b || back sequences)) e ∙ rest

-- ---- the rings of an image are outcomes

-- what some movements take out stands in the ring
out_in_ring : (image : Image) (p : Pair) (sequences : List SeqRow) → AllByRecursion (IsExchange image) sequences → has_pair (outgoing sequences) p ≡ true → has_pair image.tokens p ≡ true
out_in_ring image p [] all there = absurd (true≢false (sym there))
out_in_ring image p (s ∷ sequences) all there =
    or_elim (has_pair s.out_pairs p) (has_pair (outgoing sequences) p) (has_cons (λ (q : SeqRow). q.out_pairs) s sequences p ∙ there)
    (part_any (same_pair p) (part_taken image s all.0)) (out_in_ring image p sequences all.1)

pub outcome_same : (image : Image) (done : SeqRow → Bool) → IsSound image → (p : Pair)
    → has_pair (replaced image.tokens (outgoing (filter done image.sequences)) (incoming (filter done image.sequences))) p ≡ has_pair (outcome_ring image done) p
outcome_same image done h p =
    let some : List SeqRow = filter done image.sequences in
    let t : Bool = has_pair image.tokens p in
    sym (has_append (filter (λ q. not (has_pair (outgoing some) q)) image.tokens) (incoming some) p)
    ∙ ap (λ b. b || comes done p image.sequences) (has_filter (λ q. not (has_pair (outgoing some) q)) image.tokens p)
    ∙ alike t (goes done p image.sequences) (back done p image.sequences) (comes done p image.sequences) in_ring (out_once done p image.sequences (once_by_node image.sequences h.once))
    ∙ sym (λ i. (t && not (has_out done p image.sequences i)) || has_sides done p image.sequences i)
    ∙ sym (ap (λ b. b || has_pair (flat_map (side done) image.sequences) p) (has_fixed image p))
    ∙ has_append (fixed_ring image) (flat_map (side done) image.sequences) p
  where
    in_ring : back done p image.sequences ≡ true → has_pair image.tokens p ≡ true
    in_ring there =
        let other : SeqRow → Bool = λ s. not (done s) in
        out_in_ring image p (filter other image.sequences) (part_all_of (IsExchange image) (part_filter other image.sequences) (exchanges image h)) there

    alike : (t g b c : Bool) → (b ≡ true → t ≡ true) → (g && b) ≡ false → ((t && not g) || c) ≡ ((t && not (g || b)) || (c || b))
    alike true true true c within once = absurd (true≢false once)
    alike true true false true within once = refl
    alike true true false false within once = refl
    alike true false true true within once = refl
    alike true false true false within once = refl
    alike true false false c within once = refl
    alike false g true c within once = absurd (true≢false (sym (within refl)))
    alike false g false true within once = refl
    alike false g false false within once = refl

-- where none is done the ring is as it is
none_done : (image : Image) (p : Pair) → has_pair (replaced image.tokens (outgoing (filter (λ (s : SeqRow). false) image.sequences)) (incoming (filter (λ (s : SeqRow). false) image.sequences))) p ≡ has_pair image.tokens p
none_done image p =
    let none : filter (λ (s : SeqRow). false) image.sequences ≡ [] = filter_none (λ (s : SeqRow). false) image.sequences (all_each (λ (s : SeqRow). false ≡ false) (λ s. refl) image.sequences) in
    ap (λ l. has_pair (replaced image.tokens (outgoing l) (incoming l)) p) none
    ∙ sym (has_append (filter (λ q. not (has_pair [] q)) image.tokens) [] p)
    ∙ ap (λ b. b || false) (has_filter (λ q. not (has_pair [] q)) image.tokens p) ∙ plain (has_pair image.tokens p)
  where
    plain : (t : Bool) → ((t && true) || false) ≡ t
    plain true = refl
    plain false = refl

pub are_outcomes : (image : Image) → IsSound image → AreOutcomes image
are_outcomes image h = record {
  low = λ p. sym (none_done image p) ∙ outcome_same image (λ s. false) h p;
  read = outcome_same image (λ s. is_mid s.phase) h;
  high = outcome_same image (λ s. has_started s.phase) h;
}

-- so what is read and written is placed by outcomes
pub placed_by_outcomes : (image : Image) → IsSound image → ArePlacedByOutcomes image
unfolding reads_at writes_at
placed_by_outcomes image h =
    let rings = are_outcomes image h in
    record {
      reads = λ r x. place-same (groups_of image.nodes r) x (read_ring image) (outcome_ring image (λ s. is_mid s.phase)) rings.read;
      writes = λ r x.
          let low = place-same (groups_of image.nodes r) x (low_ring image) (outcome_ring image (λ s. false)) rings.low in
          let high = place-same (groups_of image.nodes r) x (high_ring image) (outcome_ring image (λ s. has_started s.phase)) rings.high in
          λ i. put_all nat_cmp (low i) (high i);
    }

-- ---- pairs among those of outcomes

-- what a movement brings or leaves, it moves
side-moved : (done : SeqRow → Bool) (s : SeqRow) (p : Pair) → has_pair (side done s) p ≡ true → has_pair (moved_by s) p ≡ true
side-moved done s p there = sym (has_append s.out_pairs s.in_pairs p) ∙ by (done s) there
  where
    by : (b : Bool) → has_pair (if b then s.in_pairs else s.out_pairs) p ≡ true → (has_pair s.out_pairs p || has_pair s.in_pairs p) ≡ true
    by true here = or_right (has_pair s.out_pairs p) (has_pair s.in_pairs p) here
    by false here = or_left (has_pair s.out_pairs p) (has_pair s.in_pairs p) here

-- so it is among the widest pairs
side-within : (image : Image) (done : SeqRow → Bool) (p : Pair) (sequences : List SeqRow) → AllByRecursion (IsWithinWidest image) sequences → has_pair (flat_map (side done) sequences) p ≡ true → has_pair (widest image) p ≡ true
side-within image done p [] all there = absurd (true≢false (sym there))
side-within image done p (s ∷ sequences) all there =
    or_elim (has_pair (side done s) p) (has_pair (flat_map (side done) sequences) p) (has_cons (side done) s sequences p ∙ there)
    (λ here. member_holds same_pair same_pair-tells (λ q. has_pair (widest image) q ≡ true) (moved_by s) all.0 p (side-moved done s p here))
    (side-within image done p sequences all.1)

between : (image : Image) (done : SeqRow → Bool) → IsSound image → IsBetween (fixed_ring image) (widest image) (outcome_ring image done)
between image done h = record {
  keeps = λ p there. sym (has_append (fixed_ring image) (flat_map (side done) image.sequences) p) ∙ or_left (has_pair (fixed_ring image) p) (has_pair (flat_map (side done) image.sequences) p) there;
  within = λ p there.
      or_elim (has_pair (fixed_ring image) p) (has_pair (flat_map (side done) image.sequences) p) (has_append (fixed_ring image) (flat_map (side done) image.sequences) p ∙ there)
      (part_any (same_pair p) (fixed_part image)) (side-within image done p image.sequences (moved_within image h));
}

-- ---- the movements that don't have x in their ranges

with_first : (a b c : Bool) → a ≡ true → ((a || b) || c) ≡ true
with_first a b c h = grind arith

with_later : (a b c : Bool) → (b || c) ≡ true → ((a || b) || c) ≡ true
with_later a b c h = grind arith

with_away : (a b m c : Bool) → m ≡ true → ((a || b) || (m || c)) ≡ true
with_away a b m c h = grind arith

with_others : (a b m c : Bool) → (b || c) ≡ true → ((a || b) || (m || c)) ≡ true
with_others a b m c h = grind arith

module _ (image : Image) (replication : Replication) (x : ℤ) where
  -- whether x is in the ranges, and the pairs of the movements where it isn't
  abbrev has : SeqRow → Bool
  has s = in_ranges image replication s x

  abbrev away : List SeqRow → List Pair
  away sequences = flat_map moved_by (filter (λ (s : SeqRow). not (has s)) sequences)

  -- none of them reaches x
  away_free : (sequences : List SeqRow) → is_reached (groups_of image.nodes replication) (fixed_ring image) (widest image) (away sequences) x ≡ false
  unfolding in_ranges
  away_free [] = reached-none (groups_of image.nodes replication) (fixed_ring image) (widest image) x
  away_free (s ∷ sequences) = by (has s) refl (away_free sequences)
    where
      by : (b : Bool) → is_reached (groups_of image.nodes replication) (fixed_ring image) (widest image) (moved_by s) x ≡ b
          → is_reached (groups_of image.nodes replication) (fixed_ring image) (widest image) (away sequences) x ≡ false
          → is_reached (groups_of image.nodes replication) (fixed_ring image) (widest image) (flat_map moved_by (cond (not b) (s ∷ filter (λ (q : SeqRow). not (has q)) sequences) (filter (λ (q : SeqRow). not (has q)) sequences))) x ≡ false
      by true e rest = rest
      by false e rest = reached-append (groups_of image.nodes replication) (fixed_ring image) (widest image) (moved_by s) (away sequences) x ∙ (λ i. e i || rest i)

  -- what one outcome brings, another brings too or these move
  differ : (one other : SeqRow → Bool) (p : Pair) (sequences : List SeqRow) → AllByRecursion (λ s. has s ≡ true → one s ≡ other s) sequences
      → has_pair (flat_map (side one) sequences) p ≡ true → (has_pair (flat_map (side other) sequences) p || has_pair (away sequences) p) ≡ true
  differ one other p [] agree there = absurd (true≢false (sym there))
  differ one other p (s ∷ sequences) agree there = by (has s) refl (differ one other p sequences agree.1)
    where
      brought : (has_pair (side one s) p || has_pair (flat_map (side one) sequences) p) ≡ true
      brought = has_cons (side one) s sequences p ∙ there

      by : (b : Bool) → has s ≡ b → (has_pair (flat_map (side one) sequences) p ≡ true → (has_pair (flat_map (side other) sequences) p || has_pair (away sequences) p) ≡ true)
          → (has_pair (flat_map (side other) (s ∷ sequences)) p || has_pair (flat_map moved_by (cond (not b) (s ∷ filter (λ (q : SeqRow). not (has q)) sequences) (filter (λ (q : SeqRow). not (has q)) sequences))) p) ≡ true
      by true e rest =
          let same : has_pair (side other s) p ≡ has_pair (side one s) p = ap (λ b. has_pair (if b then s.in_pairs else s.out_pairs) p) (sym (agree.0 e)) in
          sym (λ i. has_cons (side other) s sequences p i || has_pair (away sequences) p)
          ∙ or_elim (has_pair (side one s) p) (has_pair (flat_map (side one) sequences) p) brought
          (λ here. with_first (has_pair (side other s) p) (has_pair (flat_map (side other) sequences) p) (has_pair (away sequences) p) (same ∙ here))
          (λ more. with_later (has_pair (side other s) p) (has_pair (flat_map (side other) sequences) p) (has_pair (away sequences) p) (rest more))
      by false e rest =
          sym (λ i. has_cons (side other) s sequences p i || has_cons moved_by s (filter (λ (q : SeqRow). not (has q)) sequences) p i)
          ∙ or_elim (has_pair (side one s) p) (has_pair (flat_map (side one) sequences) p) brought
          (λ here. with_away (has_pair (side other s) p) (has_pair (flat_map (side other) sequences) p) (has_pair (moved_by s) p) (has_pair (away sequences) p) (side-moved one s p here))
          (λ more. with_others (has_pair (side other s) p) (has_pair (flat_map (side other) sequences) p) (has_pair (moved_by s) p) (has_pair (away sequences) p) (rest more))

  -- so the rings of the two outcomes
  rings_differ : (one other : SeqRow → Bool) → AgreeAt image replication x one other → (p : Pair) → has_pair (outcome_ring image one) p ≡ true
      → (has_pair (outcome_ring image other) p || has_pair (away image.sequences) p) ≡ true
  rings_differ one other agree p there =
      sym (λ i. has_append (fixed_ring image) (flat_map (side other) image.sequences) p i || has_pair (away image.sequences) p)
      ∙ or_elim (has_pair (fixed_ring image) p) (has_pair (flat_map (side one) image.sequences) p) (has_append (fixed_ring image) (flat_map (side one) image.sequences) p ∙ there)
      (λ here. with_first (has_pair (fixed_ring image) p) (has_pair (flat_map (side other) image.sequences) p) (has_pair (away image.sequences) p) here)
      (λ more. with_later (has_pair (fixed_ring image) p) (has_pair (flat_map (side other) image.sequences) p) (has_pair (away image.sequences) p) (differ one other p image.sequences agree more))

-- the placement at x depends on the movements that have x in their ranges
pub placed_by_ranges : (image : Image) → IsSound image → PlacedByRanges image
placed_by_ranges image h = λ replication x one other agree.
    let back : AgreeAt image replication x other one =
    all_weaker (λ (s : SeqRow). in_ranges image replication s x ≡ true → one s ≡ other s) (λ (s : SeqRow). in_ranges image replication s x ≡ true → other s ≡ one s) (λ s same here. sym (same here)) image.sequences agree in
    placed_by_reach (groups_of image.nodes replication) (fixed_ring image) (widest image) (away image replication x image.sequences) (outcome_ring image one) (outcome_ring image other) x
    (between image one h) (between image other h)
    (record { forth = rings_differ image replication x one other agree; back = rings_differ image replication x other one back })
    (away_free image replication x image.sequences)
