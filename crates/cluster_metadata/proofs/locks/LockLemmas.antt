-- The conflict of a plan is the refusal of its movement, and its bounds are cuts.
use Rattle.std.proofs.Common.{◌≡◌, ℕ, Bool, true, cond, ◌&&◌, ◌||◌, ℤ, List, [], ◌∷◌, map, find, filter_map, slice_get, Option, Some, None, option_map, refl, sym, ap, ◌∙◌, subst}
use Rattle.std.proofs.lemmas.Cmp.{int_cmp_total}
use Rattle.std.specs.List.{AllByRecursion, cons_option, list_any, zip}
use Rattle.std.specs.List.Sorted.{IsStrictlySortedBy}
use Rattle.std.specs.Ordering.{int_cmp}
use Rattle.cluster_terms.proofs.lists.AscendingLemmas.{ascending_sorted}
use Rattle.cluster_terms.proofs.rows.RowLemmas.{rows_have_last}
use Rattle.cluster_terms.specs.Arc.{IsToken}
use Rattle.cluster_terms.specs.Row.{is_within, last_token, rows_between}
use Rattle.cluster_terms.specs.declared.replication.Replication.{Replication}
use Rattle.cluster_terms.specs.declared.row.TokenRange.{TokenRange}
use Rattle.cluster_terms.specs.declared.token.Pair.{Pair}
use Rattle.cluster_terms.specs.declared.token.RightEnd.{RightEnd}
use Rattle.locked_ranges.specs.Conflict.{conflict_of, conflict_with, first_shared_end, share_row}
use Rattle.locked_ranges.specs.Sharing.{share_token}
use Rattle.token_ring.specs.TokenRanges.{AreCutOut, HaveTokens, have_token}
use Rattle.token_ring.specs.declared.range_book.LockRow.{LockRow}
use Rattle.token_ring.specs.declared.range_book.RangeRow.{RangeRow}
use Rattle.transformations.proofs.lists.ListLemmas.{all_weaker}
use Rattle.transformations.specs.Ranges.{first_shared, in_both, in_ranges, is_shared}
use Rattle.transformations.specs.Refusals.{first_of, locked}
use Rattle.transformations.specs.Rings.{cuts, widest}
use Rattle.transformations.specs.Movements.{others}
use Rattle.transformations.specs.declared.image.Image.{Image}
use Rattle.transformations.specs.declared.refusal.Refusal.{Refusal}
use Rattle.transformations.specs.declared.refusal.Refusal.TheVariants.{Locked}
use Rattle.transformations.specs.declared.sequence.SeqRow.{SeqRow}
use Rattle.placement_deltas.specs.declared.plan.Plan.{Plan}
use Rattle.sequence_plans.specs.Plan.{AreLocks, IsBook, IsPlan}
use Rattle.placement_deltas.specs.Replications.{replications_of}
use Rattle.placement_deltas.proofs.ReplicationsLemmas.{any_replications}

-- ---- replications that keyspaces have, and keyspaces

-- ---- ranges of both

module _ (image : Image) (s q : SeqRow) (x : ℤ) (token : IsToken x) where
  abbrev under : Replication → Bool
  under r = in_ranges image r s x && in_ranges image r q x

  beside : (ours theirs : List RangeRow) (rs : List Replication) → map (λ r. r.replication) ours ≡ rs → map (λ r. r.replication) theirs ≡ rs
      → AllByRecursion (λ r. HaveTokens (in_ranges image r.replication s) r.ranges) ours → AllByRecursion (λ r. HaveTokens (in_ranges image r.replication q) r.ranges) theirs
      → list_any (λ both. have_token both.0.ranges x && have_token both.1.ranges x) (zip ours theirs) ≡ list_any under rs
  beside [] theirs [] one other h k = refl
  beside [] theirs (r ∷ rs) one other h k = cc one
  beside (our ∷ ours) theirs [] one other h k = cc one
  beside (our ∷ ours) [] (r ∷ rs) one other h k = cc other
  beside (our ∷ ours) (their ∷ theirs) (r ∷ rs) one other h k =
      let our_is : our.replication ≡ r = cc one in
      let their_is : their.replication ≡ r = cc other in
      let ours_are : map (λ (p : RangeRow). p.replication) ours ≡ rs = cc one in
      let theirs_are : map (λ (p : RangeRow). p.replication) theirs ≡ rs = cc other in
      let mine : have_token our.ranges x ≡ in_ranges image r s x = h.0 x token ∙ ap (λ p. in_ranges image p s x) our_is in
      let yours : have_token their.ranges x ≡ in_ranges image r q x = k.0 x token ∙ ap (λ p. in_ranges image p q x) their_is in
      λ i. (mine i && yours i) || beside ours theirs rs ours_are theirs_are h.1 k.1 i

  -- two locks share a token exactly where it is in the ranges of both movements under some keyspace
  pub common_is : (ours theirs : List RangeRow) → map (λ r. r.replication) ours ≡ replications_of image.keyspaces → map (λ r. r.replication) theirs ≡ replications_of image.keyspaces
      → AllByRecursion (λ r. HaveTokens (in_ranges image r.replication s) r.ranges) ours → AllByRecursion (λ r. HaveTokens (in_ranges image r.replication q) r.ranges) theirs
      → share_token ours theirs x ≡ in_both image s q x
  common_is ours theirs one other h k = beside ours theirs (replications_of image.keyspaces) one other h k ∙ any_replications under image.keyspaces

-- ---- conflicts and refusals

-- the refusal that shows a conflict
abbrev shown_by : (ℕ → RightEnd → Refusal) → Option (ℕ × RightEnd) → Option Refusal
shown_by refusal c = option_map (λ (at : ℕ × RightEnd). refusal at.0 at.1) c

abbrev pub shown : Option (ℕ × RightEnd) → Option Refusal
shown c = shown_by Locked c

module _ (refusal : ℕ → RightEnd → Refusal) where
  shown_with : (n : ℕ) (o : Option RightEnd) → shown_by refusal (option_map (λ end. (n, end)) o) ≡ option_map (refusal n) o
  shown_with n None = refl
  shown_with n (Some end) = refl

  -- the first conflict is shown by the first refusal
  first_shown : (f : LockRow → Option (ℕ × RightEnd)) (rows : List LockRow) → shown_by refusal (slice_get (filter_map f rows) 0) ≡ first_of (map (λ row. shown_by refusal (f row)) rows)
  first_shown f [] = refl
  first_shown f (row ∷ rows) = by (f row) (first_shown f rows)
    where
      by : (o : Option (ℕ × RightEnd)) → shown_by refusal (slice_get (filter_map f rows) 0) ≡ first_of (map (λ row. shown_by refusal (f row)) rows)
          → shown_by refusal (slice_get (cons_option o (filter_map f rows)) 0) ≡ first_of (shown_by refusal o ∷ map (λ row. shown_by refusal (f row)) rows)
      by None rest = rest
      by (Some c) rest = refl

-- ---- rows

-- tests that agree on each item find the same one
find_alike : {X : Type 0} (p q : X → Bool) (xs : List X) → AllByRecursion (λ x. p x ≡ q x) xs → find p xs ≡ find q xs
find_alike p q [] all = refl
find_alike p q (x ∷ xs) all = λ i. cond (all.0 i) (Some x) (find_alike p q xs all.1 i)

module _ (image : Image) (up : AllByRecursion IsToken (cuts image)) where
  cuts_ascend : IsStrictlySortedBy int_cmp (cuts image)
  cuts_ascend = ascending_sorted int_cmp int_cmp_total (map (λ (p : Pair). p.token) (widest image))

  rows_alike : (s q : SeqRow) (ours theirs : List RangeRow) → IsBook image s ours → IsBook image q theirs → AllByRecursion (λ row. share_row ours theirs row ≡ is_shared image s q row) (rows_between (cuts image))
  rows_alike s q ours theirs one other =
      all_weaker (λ (row : TokenRange). (is_within (last_token row.right) row ≡ true) × IsToken (last_token row.right)) (λ (row : TokenRange). share_row ours theirs row ≡ is_shared image s q row)
      (λ row last. common_is image s q (last_token row.right) last.1 ours theirs one.rows other.rows one.ranges other.ranges) (rows_between (cuts image))
      (rows_have_last (cuts image) cuts_ascend up)

  -- the first row that two books share is the first one that is shared
  pub shared_first : (s q : SeqRow) (ours theirs : List RangeRow) → IsBook image s ours → IsBook image q theirs → first_shared_end ours theirs (cuts image) ≡ first_shared image s q
  shared_first s q ours theirs one other =
      ap (option_map (λ (row : TokenRange). row.right)) (find_alike (share_row ours theirs) (is_shared image s q) (rows_between (cuts image)) (rows_alike s q ours theirs one other))

  -- and each conflict is the refusal of the movement that has the row
  conflicts_alike : (refusal : ℕ → RightEnd → Refusal) (s : SeqRow) (ours : List RangeRow) (movements : List SeqRow) (locks : List LockRow) → IsBook image s ours → AreLocks image movements locks
      → map (λ row. shown_by refusal (conflict_with ours (cuts image) row)) locks ≡ map (λ (q : SeqRow). option_map (refusal q.node) (first_shared image s q)) movements
  conflicts_alike refusal s ours [] [] one are = refl
  conflicts_alike refusal s ours [] (lock ∷ locks) one are = absurd are
  conflicts_alike refusal s ours (q ∷ movements) [] one are = absurd are
  conflicts_alike refusal s ours (q ∷ movements) (lock ∷ locks) one are =
      let here : shown_by refusal (conflict_with ours (cuts image) lock) ≡ option_map (refusal q.node) (first_shared image s q) =
      shown_with refusal lock.node (first_shared_end ours lock.ranges (cuts image)) ∙ (λ i. option_map (refusal (are.0.node i)) (shared_first s q ours lock.ranges one are.0.ranges i)) in
      λ i. here i ∷ conflicts_alike refusal s ours movements locks one are.1 i

  -- so the first of the conflicts of some ranges is the first of the refusals
  pub conflict_shown : (refusal : ℕ → RightEnd → Refusal) (s : SeqRow) (ours : List RangeRow) (movements : List SeqRow) (locks : List LockRow) → IsBook image s ours → AreLocks image movements locks
      → option_map (λ (at : ℕ × RightEnd). refusal at.0 at.1) (conflict_of ours locks (cuts image)) ≡ first_of (map (λ (q : SeqRow). option_map (refusal q.node) (first_shared image s q)) movements)
  conflict_shown refusal s ours movements locks one are = first_shown refusal (conflict_with ours (cuts image)) locks ∙ ap first_of (conflicts_alike refusal s ours movements locks one are)

-- the conflict of a plan shows the refusal of its movement
pub plan_locked : (image : Image) (s : SeqRow) (plan : Plan) → IsPlan image s plan → shown (conflict_of plan.ranges plan.wide plan.cuts) ≡ locked image s
unfolding locked
plan_locked image s plan is =
    let tokens : AllByRecursion IsToken (cuts image) = subst (λ ts. AllByRecursion IsToken ts) is.cuts is.tokens in
    ap (λ ts. shown (conflict_of plan.ranges plan.wide ts)) is.cuts ∙ conflict_shown image tokens Locked s plan.ranges (others image.sequences s.node) plan.wide is.ranges is.wide

-- the bounds of all ranges of a plan are its cuts
pub locks_cut : (image : Image) (movements : List SeqRow) (locks : List LockRow) → AreLocks image movements locks → AllByRecursion (λ l. AllByRecursion (λ r. AreCutOut (cuts image) r.ranges) l.ranges) locks
locks_cut image [] [] are = tt
locks_cut image [] (lock ∷ locks) are = absurd are
locks_cut image (q ∷ movements) [] are = absurd are
locks_cut image (q ∷ movements) (lock ∷ locks) are = (are.0.ranges.bounds, locks_cut image movements locks are.1)

pub plan_ascends : (image : Image) (s : SeqRow) (plan : Plan) → IsPlan image s plan → IsStrictlySortedBy int_cmp plan.cuts
plan_ascends image s plan is = subst (λ ts. IsStrictlySortedBy int_cmp ts) (sym is.cuts) (ascending_sorted int_cmp int_cmp_total (map (λ (p : Pair). p.token) (widest image)))

pub own_cut : (image : Image) (s : SeqRow) (plan : Plan) → IsPlan image s plan → AllByRecursion (λ r. AreCutOut plan.cuts r.ranges) plan.ranges
own_cut image s plan is = subst (λ ts. AllByRecursion (λ (r : RangeRow). AreCutOut ts r.ranges) plan.ranges) (sym is.cuts) is.ranges.bounds

pub others_cut : (image : Image) (s : SeqRow) (plan : Plan) → IsPlan image s plan → AllByRecursion (λ l. AllByRecursion (λ r. AreCutOut plan.cuts r.ranges) l.ranges) plan.wide
others_cut image s plan is =
    subst (λ ts. AllByRecursion (λ (l : LockRow). AllByRecursion (λ (r : RangeRow). AreCutOut ts r.ranges) l.ranges) plan.wide) (sym is.cuts)
    (locks_cut image (others image.sequences s.node) plan.wide is.wide)
