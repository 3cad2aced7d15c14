-- The ranges of a movement under some replications, and those of movements, one after another.
use Rattle.std.proofs.Common.{◌≡◌, zero, suc, ℕ, ◌+◌, ◌<◌, true, false, cond, not, ◌==◌, List, [], ◌∷◌, ◌++◌, map, take, length, get_or, sym, ap, ◌∙◌, subst, arith}
use Rattle.std.proofs.lemmas.List.{append-nil, take_more}
use Rattle.std.proofs.lemmas.List.Elements.{filter-append}
use Rattle.std.specs.List.{AllByRecursion}
use Rattle.std.specs.Ordering.{match_ordering}
use Rattle.std.specs.declared.cmp.Ordering.{Ordering}
use Rattle.std.specs.declared.cmp.Ordering.TheVariants.{Less, Equal, Greater}
use Rattle.cluster_terms.specs.Ascending.{put}
use Rattle.cluster_terms.specs.declared.replication.Replication.{Replication}
use Rattle.token_ring.specs.TokenRanges.{AreCutOut, HaveTokens}
use Rattle.token_ring.specs.declared.range_book.LockRow.{LockRow}
use Rattle.token_ring.specs.declared.range_book.RangeRow.{RangeRow}
use Rattle.transformations.proofs.ranges.MovementRanges.{moved_within}
use Rattle.transformations.specs.Orders.{by_node}
use Rattle.transformations.specs.Ranges.{in_ranges}
use Rattle.transformations.specs.Refusals.{with_movement}
use Rattle.transformations.specs.Rings.{cuts}
use Rattle.transformations.specs.Movements.{others}
use Rattle.transformations.specs.Valid.{IsSound}
use Rattle.transformations.specs.declared.image.Image.{Image}
use Rattle.transformations.specs.declared.sequence.SeqRow.{SeqRow}
use Rattle.sequence_plans.specs.code.Basis.{MovesWithin}
use Rattle.sequence_plans.specs.Plan.{AreLocks, IsBook, IsLockRow}

-- the ranges under some replications
pub record AreRangesUnder (image : Image) (s : SeqRow) (replications : List Replication) (book : List RangeRow) : Type 0 where
  pub rows : map (λ (r : RangeRow). r.replication) book ≡ replications
  pub ranges : AllByRecursion (λ (r : RangeRow). HaveTokens (in_ranges image r.replication s) r.ranges) book
  pub bounds : AllByRecursion (λ (r : RangeRow). AreCutOut (cuts image) r.ranges) book

-- ---- movements of a sound image

pub all_at : {X : Type 0} (P : X → Type 0) (xs : List X) (i : ℕ) (x : X) → AllByRecursion P xs → i < length xs → x ≡ get_or xs i x → P x
all_at P [] i x all within is = absurd (omega arith)
all_at P (y ∷ xs) zero x all within is = subst P (sym is) all.0
all_at P (y ∷ xs) (suc i) x all within is = all_at P xs i x all.1 (omega arith) is

-- each of them moves pairs of the widest set
pub each_within : (image : Image) (i : ℕ) (s : SeqRow) → IsSound image → i < length image.sequences → s ≡ get_or image.sequences i s → MovesWithin image s
each_within image i s sound within is = all_at (MovesWithin image) image.sequences i s (moved_within image sound) within is

-- and so does one that is put among them
pub own_put : (P : SeqRow → Type 0) (s : SeqRow) (sequences : List SeqRow) → AllByRecursion P (put by_node s sequences) → P s
own_put P s [] all = all.0
own_put P s (q ∷ sequences) all = by (by_node s q) all (own_put P s sequences)
  where
    by : (r : Ordering) → AllByRecursion P (match_ordering r (s ∷ (q ∷ sequences)) (s ∷ sequences) (q ∷ put by_node s sequences)) → (AllByRecursion P (put by_node s sequences) → P s) → P s
    by Less all rest = all.0
    by Equal all rest = all.0
    by Greater all rest = rest all.1

pub own_within : (image : Image) (s : SeqRow) → IsSound (with_movement image s) → MovesWithin (with_movement image s) s
own_within image s sound =
    own_put (MovesWithin (with_movement image s)) s image.sequences (moved_within (with_movement image s) sound)

-- ---- one movement after another

module _ (image : Image) where
  locks-append : (sequences : List SeqRow) (rows : List LockRow) (s : SeqRow) (row : LockRow) → AreLocks image sequences rows → IsLockRow image s row
      → AreLocks image (sequences ++ s ∷ []) (rows ++ row ∷ [])
  locks-append [] [] s row locks has = (has, tt)
  locks-append [] (q ∷ rows) s row locks has = absurd locks
  locks-append (p ∷ sequences) [] s row locks has = absurd locks
  locks-append (p ∷ sequences) (q ∷ rows) s row locks has = (locks.0, locks-append sequences rows s row locks.1 has)

  module _ (sequences : List SeqRow) (n i : ℕ) (s : SeqRow) (within : i < length sequences) (is : s ≡ get_or sequences i s) where
    others-more : others (take (i + 1) sequences) n ≡ others (take i sequences) n ++ cond (not (s.node == n)) (s ∷ []) []
    others-more =
        ap (λ l. others l n) (take_more sequences i s within ∙ ap (λ (q : SeqRow). take i sequences ++ q ∷ []) (sym is))
        ∙ filter-append (λ (q : SeqRow). not (q.node == n)) (take i sequences) (s ∷ [])

    -- the node's own movement is passed over, and another one has its row
    pub locks_passed : (locks : List LockRow) → (s.node == n) ≡ true → AreLocks image (others (take i sequences) n) locks → AreLocks image (others (take (i + 1) sequences) n) locks
    locks_passed locks own so_far =
        let same : others (take (i + 1) sequences) n ≡ others (take i sequences) n =
        others-more ∙ ap (λ b. others (take i sequences) n ++ cond (not b) (s ∷ []) []) own ∙ append-nil (others (take i sequences) n) in
        subst (λ l. AreLocks image l locks) (sym same) so_far

    pub locks_more : (locks : List LockRow) (row : LockRow) → (s.node == n) ≡ false → AreLocks image (others (take i sequences) n) locks → row.node ≡ s.node → IsBook image s row.ranges
        → AreLocks image (others (take (i + 1) sequences) n) (locks ++ row ∷ [])
    locks_more locks row other so_far node ranges =
        let same : others (take (i + 1) sequences) n ≡ others (take i sequences) n ++ s ∷ [] =
        others-more ∙ ap (λ b. others (take i sequences) n ++ cond (not b) (s ∷ []) []) other in
        subst (λ l. AreLocks image l (locks ++ row ∷ [])) (sym same) (locks-append (others (take i sequences) n) locks s row so_far (record { node = node; ranges = ranges }))
