-- Movements that overlap one of a lesser node, by the locks of those before them.
use Rattle.std.proofs.Common.{◌≡◌, ℕ, suc, zero, Bool, true, false, ◌&&◌, ◌||◌, cond, List, [], ◌∷◌, ◌++◌, find, filter_map, slice_get, take, Option, Some, None, option_map, is_some, nat_lt, refl, sym, ap, ◌∙◌, arith}
use Rattle.std.proofs.lemmas.Bool.Decides.{nat_tests}
use Rattle.std.proofs.lemmas.Option.{none-some}
use Rattle.std.specs.List.{AllByRecursion, cons_option, list_any}
use Rattle.std.specs.List.Sorted.{IsStrictlySortedBy}
use Rattle.std.specs.Ordering.{nat_cmp}
use Rattle.std.specs.declared.cmp.Ordering.TheVariants.{Less}
use Rattle.cluster_terms.specs.Arc.{IsToken}
use Rattle.cluster_terms.specs.declared.token.RightEnd.{RightEnd}
use Rattle.locked_ranges.specs.Conflict.{conflict_of, conflict_with, first_shared_end}
use Rattle.token_ring.specs.declared.range_book.LockRow.{LockRow}
use Rattle.token_ring.specs.declared.range_book.RangeRow.{RangeRow}
use Rattle.sequence_plans.specs.Plan.{AreLocks, IsBook}
use Rattle.transformations.specs.Orders.{by_node}
use Rattle.transformation_laws.proofs.images.OverlapRows.{overlap_shared}
use Rattle.transformations.specs.ImageRules.{overlap}
use Rattle.transformations.specs.Rings.{cuts}
use Rattle.transformations.specs.declared.image.Image.{Image}
use Rattle.transformations.specs.declared.sequence.SeqRow.{SeqRow}
use Rattle.cluster_metadata.proofs.locks.LockLemmas.{shared_first}
use Rattle.cluster_metadata.proofs.in_flight.MovementPlaces.{at_place}
use Rattle.cluster_metadata.specs.code.Overlaps.{overlaps_any}

-- ---- a conflict with the locks of some movements

with_node : ℕ → RightEnd → ℕ × RightEnd
with_node n end = (n, end)

some_of : (n : ℕ) (o : Option RightEnd) → is_some (option_map (with_node n) o) ≡ is_some o
some_of n None = refl
some_of n (Some end) = refl

-- a movement's ranges conflict with these locks exactly if it overlaps one of their movements
pub conflict_overlaps : (image : Image) → AllByRecursion IsToken (cuts image) → (s : SeqRow) (ours : List RangeRow) (earlier : List SeqRow) (table : List LockRow) → IsBook image s ours → AreLocks image earlier table
    → is_some (conflict_of ours table (cuts image)) ≡ overlaps_any image s earlier
unfolding with_node
conflict_overlaps image tokens s ours [] [] one are = refl
conflict_overlaps image tokens s ours [] (lock ∷ locks) one are = absurd are
conflict_overlaps image tokens s ours (q ∷ earlier) [] one are = absurd are
conflict_overlaps image tokens s ours (q ∷ earlier) (lock ∷ locks) one are =
    by (conflict_with ours (cuts image) lock) here (conflict_overlaps image tokens s ours earlier locks one are.1)
  where
    here : is_some (conflict_with ours (cuts image) lock) ≡ overlap image s q
    here = some_of lock.node (first_shared_end ours lock.ranges (cuts image)) ∙ ap (λ (o : Option RightEnd). is_some o) (shared_first image tokens s q ours lock.ranges one are.0.ranges) ∙ overlap_shared image tokens s q

    by : (o : Option (ℕ × RightEnd)) → is_some o ≡ overlap image s q → is_some (conflict_of ours locks (cuts image)) ≡ overlaps_any image s earlier
        → is_some (slice_get (cons_option o (filter_map (conflict_with ours (cuts image)) locks)) 0) ≡ (overlap image s q || overlaps_any image s earlier)
    by None same rest = rest ∙ ap (λ b. b || overlaps_any image s earlier) same
    by (Some c) same rest = ap (λ b. b || overlaps_any image s earlier) same

-- ---- the movements of lesser nodes

none_lesser : (f : SeqRow → Bool) (n : ℕ) (s : SeqRow) (rows : List SeqRow) → n ≡ s.node → AllByRecursion (λ r. by_node s r ≡ Less) rows → list_any (λ (q : SeqRow). nat_lt q.node n && f q) rows ≡ false
none_lesser f n s [] same all = refl
none_lesser f n s (q ∷ rows) same all =
    let less : nat_cmp s.node q.node ≡ Less = all.0 in
    let not_lesser : nat_lt q.node n ≡ false = grind (arith, nat_tests) in
    (λ i. (not_lesser i && f q) || none_lesser f n s rows same all.1 i)

pub lesser_earlier : (f : SeqRow → Bool) (rows : List SeqRow) (i : ℕ) (s : SeqRow) → IsStrictlySortedBy by_node rows → slice_get rows i ≡ Some s
    → list_any (λ (q : SeqRow). nat_lt q.node s.node && f q) rows ≡ list_any f (take i rows)
unfolding IsStrictlySortedBy
lesser_earlier f [] i s up found = absurd (none-some s found)
lesser_earlier f (q ∷ rows) zero s up found =
    let same : q ≡ s = cc in
    let own : nat_lt q.node s.node ≡ false = grind (arith, nat_tests) in
    (λ i. (own i && f q) || none_lesser f s.node q rows (ap (λ (r : SeqRow). r.node) (sym same)) up.0 i)
lesser_earlier f (q ∷ rows) (suc i) s up found =
    let less : nat_cmp q.node s.node ≡ Less = at_place (λ r. by_node q r ≡ Less) rows i s up.0 found in
    let lesser : nat_lt q.node s.node ≡ true = grind (arith, nat_tests) in
    (λ j. (lesser j && f q) || lesser_earlier f rows i s up.1 found j)

-- ---- the first that is found

pub found_none : (p : SeqRow → Bool) (rows : List SeqRow) (s : SeqRow) → find p rows ≡ None → p s ≡ false → find p (rows ++ s ∷ []) ≡ None
found_none p [] s none other = ap (λ b. cond b (Some s) None) other
found_none p (q ∷ rows) s none other = by (p q) refl none (found_none p rows s)
  where
    by : (b : Bool) → p q ≡ b → cond b (Some q) (find p rows) ≡ None → (find p rows ≡ None → p s ≡ false → find p (rows ++ s ∷ []) ≡ None) → cond b (Some q) (find p (rows ++ s ∷ [])) ≡ None
    by true is none rest = absurd (none-some q (sym none))
    by false is none rest = rest none other

pub found_here : (p : SeqRow → Bool) (rows : List SeqRow) (i : ℕ) (s : SeqRow) → find p (take i rows) ≡ None → slice_get rows i ≡ Some s → p s ≡ true → find p rows ≡ Some s
found_here p [] i s none found is = absurd (none-some s found)
found_here p (q ∷ rows) zero s none found is =
    let same : q ≡ s = cc in
    let here : p q ≡ true = ap p same ∙ is in
    ap (λ b. cond b (Some q) (find p rows)) here ∙ ap (λ (r : SeqRow). Some r) same
found_here p (q ∷ rows) (suc i) s none found is = by (p q) none (λ none. found_here p rows i s none found is)
  where
    by : (b : Bool) → cond b (Some q) (find p (take i rows)) ≡ None → (find p (take i rows) ≡ None → find p rows ≡ Some s) → cond b (Some q) (find p rows) ≡ Some s
    by true none rest = absurd (none-some q (sym none))
    by false none rest = rest none
