-- The locks of the movements of an image, one after another.
use Rattle.std.proofs.Common.{◌≡◌, ℕ, suc, zero, ◌+◌, ◌<◌, ◌≤◌, Bool, not, Result, Ok, Err, IsErrAnd, MatchResult, true, false, ◌==◌, ℤ, List, [], ◌∷◌, ◌++◌, length, map, take, get_or, find, pos, Option, None, Some, is_some, option_map, refl, sym, ap, ◌∙◌, subst, arith}
use Rattle.std.proofs.lemmas.Bool.Decides.{Decides-eqb}
use Rattle.std.proofs.lemmas.List.{map-append, take_more}
use Rattle.std.proofs.lemmas.Option.{none-some}
use Rattle.std.specs.List.{AllByRecursion, Contains, slice_get}
use Rattle.std.proofs.lemmas.List.Elements.{All-contains, All-from_recursion}
use Rattle.std.specs.List.Sorted.{IsStrictlySortedBy}
use Rattle.std.specs.declared.cmp.Ordering.TheVariants.{Less}
use Rattle.cluster_terms.specs.Arc.{IsToken}
use Rattle.locked_ranges.specs.Table.{has_row, lock_row, other_locks}
use Rattle.token_ring.specs.declared.range_book.LockRow.{LockRow}
use Rattle.token_ring.specs.declared.range_book.RangeRow.{RangeRow}
use Rattle.placement_deltas.specs.declared.plan.Plan.{Plan}
use Rattle.sequence_plans.proofs.DeltaBookLemmas.{at_each_token}
use Rattle.sequence_plans.specs.PlanDeltas.{HasDeltas}
use Rattle.sequence_plans.specs.Plan.{AreLocks, IsBook, IsLockRow, IsPlan}
use Rattle.transformations.proofs.movements.SoleLemmas.{found_own}
use Rattle.transformations.proofs.ranges.KeptRanges.{IsKept, ranges_alike}
use Rattle.transformations.proofs.ranges.KeptSteps.{kept_phase}
use Rattle.transformations.specs.Refusals.{with_movement}
use Rattle.transformations.specs.Movements.{at_phase}
use Rattle.transformations.specs.declared.keyspace.KeyspaceRow.{KeyspaceRow}
use Rattle.transformations.specs.declared.sequence.Phase.{Phase}
use Rattle.cluster_metadata.proofs.locks.LocksKept.{IsAlike, lock_alike}
use Rattle.cluster_metadata.proofs.in_flight.ResumeLemmas.{put_own}
use Rattle.cluster_metadata.specs.code.Change.{in_phase, plan_lock}
use Rattle.transformations.proofs.lists.ListLemmas.{all_weaker}
use Rattle.transformations.specs.Orders.{by_node}
use Rattle.transformations.specs.ImageRules.{broken, overlap, overlaps}
use Rattle.transformations.specs.Ranges.{in_ranges}
use Rattle.transformations.specs.Rings.{cuts}
use Rattle.transformation_laws.proofs.cut_changes.CutsFollowed.{cuts_at_phase}
use Rattle.token_ring.specs.TokenRanges.{AreCutOut}
use Rattle.transformations.specs.Valid.{IsSound}
use Rattle.transformations.specs.declared.image.Image.{Image}
use Rattle.transformations.specs.declared.image_rules.BadImage.{BadImage}
use Rattle.transformations.specs.declared.sequence.SeqRow.{SeqRow}
use Rattle.cluster_metadata.proofs.locks.LockPlaces.{added_removed, all_locked, locks_named}
use Rattle.cluster_metadata.proofs.locks.LocksTaken.{at_tokens, unnamed}
use Rattle.cluster_metadata.proofs.locks.OverlapLemmas.{conflict_overlaps, found_here, found_none, lesser_earlier}
use Rattle.locked_ranges.specs.Conflict.{conflict_of}
use Rattle.cluster_metadata.proofs.in_flight.MovementPlaces.{at_index, at_place, less_other}
use Rattle.cluster_metadata.specs.ImageFaults.{IsCause}
use Rattle.cluster_metadata.specs.code.Overlaps.{FindsOverlap, overlap_of, overlaps_any, overlapping_at}
use Rattle.cluster_metadata.specs.declared.image_fault.ImageFault.{ImageFault}
use Rattle.cluster_metadata.specs.declared.image_fault.ImageFault.TheVariants.{Bad, Memory}
use Rattle.cluster_metadata.specs.code.Locking.{AreLocked, lock_of}
use Rattle.sequence_plans.specs.Locks.{AreLocksOf, IsLockOf}
use Rattle.cluster_metadata.specs.code.Running.{HaveDeltas, IsRunning, movement_row, moving_node, plan_of}
use Rattle.cluster_metadata.specs.declared.movements.running.Running.{Running}

-- ---- the movements before one of them

earlier_other : (rows : List SeqRow) (i : ℕ) (s : SeqRow) → IsStrictlySortedBy by_node rows → slice_get rows i ≡ Some s → AllByRecursion (λ (q : SeqRow). (q.node == s.node) ≡ false) (take i rows)
unfolding IsStrictlySortedBy
earlier_other [] i s up found = absurd (none-some s found)
earlier_other (q ∷ rows) zero s up found = tt
earlier_other (q ∷ rows) (suc i) s up found = (
  less_other q s s.node (at_place (λ r. by_node q r ≡ Less) rows i s up.0 found) ((Decides-eqb s.node s.node).1 refl),
  earlier_other rows i s up.1 found,
)

earlier_sorted : (rows : List SeqRow) (i : ℕ) → IsStrictlySortedBy by_node rows → IsStrictlySortedBy by_node (take i rows)
unfolding IsStrictlySortedBy
earlier_sorted [] zero up = tt
earlier_sorted [] (suc i) up = tt
earlier_sorted (q ∷ rows) zero up = tt
earlier_sorted (q ∷ rows) (suc i) up = (all_take (λ r. by_node q r ≡ Less) rows i up.0, earlier_sorted rows i up.1)
  where
    all_take : (P : SeqRow → Type 0) (rows : List SeqRow) (i : ℕ) → AllByRecursion P rows → AllByRecursion P (take i rows)
    all_take P [] zero all = tt
    all_take P [] (suc i) all = tt
    all_take P (q ∷ rows) zero all = tt
    all_take P (q ∷ rows) (suc i) all = (all.0, all_take P rows i all.1)

-- ---- the next one

-- the locks of a plan's wide ranges are locks of their movements
pub locks_of : (image : Image) (rows : List SeqRow) (table : List LockRow) → AreLocks image rows table → AreLocksOf image rows table
locks_of image [] [] are = tt
locks_of image [] (l ∷ table) are = absurd are
locks_of image (s ∷ rows) [] are = absurd are
locks_of image (s ∷ rows) (l ∷ table) are = (
  record { node = are.0.node; rows = are.0.ranges.rows; ranges = are.0.ranges.ranges },
  locks_of image rows table are.1,
)

module _ (image : Image) (sound : IsSound image) (i : ℕ) (table : List LockRow) (locks : AreLocks image (take i image.sequences) table) where
  there : AreLocksOf image (take i image.sequences) table
  there = locks_of image (take i image.sequences) table locks

  module _ (s : SeqRow) (within : i < length image.sequences) (here : s ≡ get_or image.sequences i s) where
    found : slice_get image.sequences i ≡ Some s
    found = at_index image.sequences i s within here

    pub next_new : has_row table s.node ≡ false
    next_new = unnamed image s.node (take i image.sequences) table there (earlier_other image.sequences i s sound.movements found)

    pub next_taken : take (i + 1) image.sequences ≡ take i image.sequences ++ s ∷ []
    next_taken = take_more image.sequences i s within ∙ ap (λ (q : SeqRow). take i image.sequences ++ q ∷ []) (sym here)

    -- the movement overlaps one of a lesser node exactly if it overlaps one of those before it
    next_overlaps : overlaps image s ≡ overlaps_any image s (take i image.sequences)
    next_overlaps = lesser_earlier (overlap image s) image.sequences i s sound.movements found

    pub next_apart : overlaps_any image s (take i image.sequences) ≡ false → find (overlaps image) (take i image.sequences) ≡ None → find (overlaps image) (take (i + 1) image.sequences) ≡ None
    next_apart none earlier = rw next_taken (found_none (overlaps image) (take i image.sequences) s earlier (next_overlaps ∙ none))

    pub next_bad : overlaps_any image s (take i image.sequences) ≡ true → find (overlaps image) (take i image.sequences) ≡ None → overlap_of image ≡ Some (overlapping_at s.node)
    next_bad some earlier = ap (λ (o : Option SeqRow). broken 18 (option_map (λ (q : SeqRow). pos q.node) o)) (found_here (overlaps image) image.sequences i s earlier found (next_overlaps ∙ some))

    -- the movement is refused for this, or memory ran out
    pub next_cause : (X : Type 0) (e : ImageFault) → FindsOverlap {X = X} image s (take i image.sequences) (Err e) → find (overlaps image) (take i image.sequences) ≡ None → IsCause (overlap_of image) e
    next_cause X (Bad bad) overlap earlier = next_bad overlap.0 earlier ∙ ap Some (sym overlap.1)
    next_cause X Memory overlap earlier = tt

  pub so_far : (values : List Running) → IsRunning (take i image.sequences) values → AreLocked table values
  so_far values is = all_locked (take i image.sequences) values table (earlier_sorted image.sequences i sound.movements) is (locks_named image (take i image.sequences) table there)

pub locks_more : (image : Image) (rows : List SeqRow) (table : List LockRow) (s : SeqRow) (l : LockRow) → AreLocks image rows table → IsLockRow image s l → AreLocks image (rows ++ s ∷ []) (table ++ l ∷ [])
locks_more image [] [] s l are lock = (lock, tt)
locks_more image [] (k ∷ table) s l are lock = absurd are
locks_more image (q ∷ rows) [] s l are lock = absurd are
locks_more image (q ∷ rows) (k ∷ table) s l are lock = (are.0, locks_more image rows table s l are.1 lock)

pub deltas_more : (image : Image) (values : List Running) (m : Running) → HaveDeltas image values → HasDeltas image (plan_of m) → HaveDeltas image (values ++ m ∷ [])
deltas_more image [] m all here = (here, tt)
deltas_more image (v ∷ values) m all here = (all.0, deltas_more image values m all.1 here)

pub running_more : (rows : List SeqRow) (values : List Running) (s : SeqRow) (m : Running) → IsRunning rows values → movement_row m ≡ s → IsRunning (rows ++ s ∷ []) (values ++ m ∷ [])
running_more rows values s m is row = map-append movement_row values (m ∷ []) ∙ (λ i. is i ++ row i ∷ [])

-- ---- a plan that is made anew

-- the ranges of a movement are those of its plan, which is made with its row at another phase
lock_resumed : (p : Phase) (image : Image) (s : SeqRow) (ranges : List RangeRow) → IsSound image → Contains image.sequences s → IsBook (with_movement image (in_phase p s)) (in_phase p s) ranges → IsLockOf image s (lock_row s.node ranges)
lock_resumed p image s ranges sound there book =
    let with_rows : List SeqRow → Image = λ rows. record image { sequences = rows } in
    let later : Image = with_rows (map (at_phase p s.node) image.sequences) in
    let place = put_own p s image.sequences sound.movements (found_own image.sequences s sound.movements there) in
    let made : IsBook later (in_phase p s) ranges = subst (λ rows. IsBook (with_rows rows) (in_phase p s) ranges) place book in
    let lock : IsLockOf later (in_phase p s) (lock_row s.node ranges) = record { node = refl; rows = made.rows; ranges = made.ranges } in
    let kept : AllByRecursion (λ q. (x : ℤ) → IsToken x → IsKept image later x q) image.sequences = at_tokens (IsKept image later) image.sequences (λ x token. kept_phase p image s.node image.epoch x) in
    let P : SeqRow → Type 0 = λ q. (x : ℤ) → IsToken x → IsKept image later x q in
    let own : P s = All-contains P image.sequences s (All-from_recursion P image.sequences kept) there in
    let alike : AllByRecursion (λ (k : KeyspaceRow). IsAlike later image (in_phase p s) s k.replication) image.keyspaces =
    all_weaker (λ (k : KeyspaceRow). (x : ℤ) → IsToken x → in_ranges image k.replication s x ≡ in_ranges later k.replication s x) (λ (k : KeyspaceRow). IsAlike later image (in_phase p s) s k.replication)
    (λ k same x token. ranges_alike later later k.replication x (in_phase p s) s refl refl refl refl ∙ sym (same x token)) image.keyspaces
    (at_each_token (λ x (k : KeyspaceRow). in_ranges image k.replication s x ≡ in_ranges later k.replication s x) image.keyspaces own) in
    lock_alike later image (in_phase p s) s (lock_row s.node ranges) refl refl alike lock

-- its cuts are those of the image
pub cuts_resumed : (p : Phase) (image : Image) (s : SeqRow) → IsSound image → Contains image.sequences s → cuts (with_movement image (in_phase p s)) ≡ cuts image
cuts_resumed p image s sound there =
    let with_rows : List SeqRow → Image = λ rows. record image { sequences = rows } in
    ap (λ rows. cuts (with_rows rows)) (put_own p s image.sequences sound.movements (found_own image.sequences s sound.movements there)) ∙ cuts_at_phase image p s.node image.epoch

pub book_resumed : (p : Phase) (image : Image) (s : SeqRow) (ranges : List RangeRow) → IsSound image → Contains image.sequences s → IsBook (with_movement image (in_phase p s)) (in_phase p s) ranges → IsBook image s ranges
book_resumed p image s ranges sound there book =
    let lock = lock_resumed p image s ranges sound there book in
    record {
      rows = lock.rows;
      ranges = lock.ranges;
      bounds = subst (λ ts. AllByRecursion (λ (r : RangeRow). AreCutOut ts r.ranges) ranges) (cuts_resumed p image s sound there) book.bounds;
    }

flipped : (a b : Bool) → a ≡ not b → b ≡ not a
flipped a true h = sym (ap not h)
flipped a false h = sym (ap not h)

-- whether the ranges of a plan are free of the locks before it tells whether its movement overlaps one of these
pub overlap_planned : (p : Phase) (image : Image) (s : SeqRow) (plan : Plan) (earlier : List SeqRow) (table : List LockRow) (ts : List ℤ) (free : Bool) → IsSound image → Contains image.sequences s → IsPlan (with_movement image (in_phase p s)) (in_phase p s) plan
    → AreLocks image earlier table → ts ≡ plan.cuts → free ≡ not (is_some (conflict_of plan.ranges table ts)) → overlaps_any image s earlier ≡ not free
overlap_planned p image s plan earlier table ts free sound there is are same told =
    let own : plan.cuts ≡ cuts image = is.cuts ∙ cuts_resumed p image s sound there in
    let tokens : AllByRecursion IsToken (cuts image) = subst (λ cs. AllByRecursion IsToken cs) own is.tokens in
    let found = conflict_overlaps image tokens s plan.ranges earlier table (book_resumed p image s plan.ranges sound there is.ranges) are in
    let by : free ≡ not (overlaps_any image s earlier) = told ∙ ap (λ cs. not (is_some (conflict_of plan.ranges table cs))) (same ∙ own) ∙ ap not found in
    flipped free (overlaps_any image s earlier) by

-- ---- what is added

pub take_whole : (rows : List SeqRow) (i : ℕ) → length rows ≤ i → take i rows ≡ rows
take_whole [] zero over = refl
take_whole [] (suc i) over = refl
take_whole (q ∷ rows) zero over = absurd (omega arith)
take_whole (q ∷ rows) (suc i) over = ap (λ l. q ∷ l) (take_whole rows i (omega arith))

-- a movement is closed, and its lock goes again
pub movement_removed : (s : SeqRow) (before after : List Running) (locks locked left : List LockRow) (m : Running) → after ≡ before → left ≡ other_locks locked (moving_node m) → locked ≡ locks ++ lock_of m ∷ [] → movement_row m ≡ s → has_row locks s.node ≡ false
    → (after ≡ before) × (left ≡ locks)
movement_removed s before after locks locked left m values table taken row new =
    let node : s.node ≡ moving_node m = sym (ap (λ (q : SeqRow). q.node) row) in
    let none : has_row locks (moving_node m) ≡ false = ap (has_row locks) (sym node) ∙ new in
    (values, table ∙ ap (λ t. other_locks t (moving_node m)) taken ∙ added_removed locks (lock_of m) none)

pub row_planned : (p : Phase) (image : Image) (s : SeqRow) (plan : Plan) → IsSound image → Contains image.sequences s → IsPlan (with_movement image (in_phase p s)) (in_phase p s) plan → IsLockRow image s (plan_lock plan)
row_planned p image s plan sound there is = record { node = ap (λ (q : SeqRow). q.node) is.row; ranges = book_resumed p image s plan.ranges sound there is.ranges }

-- the cause passes through a `?`
pub cause_through : {X : Type 0} (broken : Option BadImage) (r : Result X ImageFault) (e : ImageFault) → IsErrAnd r (λ y. y ≡ e) → IsCause broken e → MatchResult r (λ _. broken ≡ None) (λ f. IsCause broken f)
cause_through broken (Ok x) e is cause = absurd is
cause_through broken (Err f) e is cause = subst (IsCause broken) (sym is) cause
