-- The lock of a new movement: its node has no lock, no lock shares a token with it, and its plan's other ranges are
-- wider.
use Rattle.std.proofs.Common.{◌≡◌, ◌≢◌, ℕ, ◌<◌, Bool, true, false, true≢false, ◌&&◌, ◌||◌, ◌==◌, ℤ, List, [], ◌∷◌, ◌++◌, map, nat_eq, Some, refl, sym, ap, ◌∙◌, subst, arith, zip}
use Rattle.std.proofs.lemmas.Bool.Decides.{Decides-eqb, nat_tests}
use Rattle.std.proofs.lemmas.List.Elements.{All-from_recursion}
use Rattle.std.proofs.lemmas.List.Kept.{AllPairs-cons}
use Rattle.std.specs.List.{AllByRecursion, AllPairs}
use Rattle.std.specs.List.Sorted.{IsStrictlySortedBy}
use Rattle.std.specs.Ordering.{nat_cmp}
use Rattle.std.specs.Set.{is_member}
use Rattle.std.specs.declared.cmp.Ordering.TheVariants.{Less}
use Rattle.cluster_terms.proofs.reach.ReachKept.{IsNarrowed, reached-kept}
use Rattle.cluster_terms.specs.Arc.{IsToken}
use Rattle.cluster_terms.specs.Ascending.{put}
use Rattle.cluster_terms.specs.Replication.{groups_of}
use Rattle.cluster_terms.specs.declared.replication.Replication.{Replication}
use Rattle.locked_ranges.specs.Sharing.{IsInside, ShareNoToken}
use Rattle.locked_ranges.specs.Table.{AreWider, has_row, lock_row}
use Rattle.token_ring.specs.TokenRanges.{HaveTokens, have_token}
use Rattle.token_ring.specs.declared.range_book.LockRow.{LockRow}
use Rattle.token_ring.specs.declared.range_book.RangeRow.{RangeRow}
use Rattle.placement_deltas.specs.declared.plan.Plan.{Plan}
use Rattle.sequence_plans.proofs.DeltaBookLemmas.{at_each_token}
use Rattle.sequence_plans.specs.Plan.{AreLocks, IsBook, IsPlan}
use Rattle.placement_deltas.specs.Replications.{replications_of}
use Rattle.transformations.proofs.lists.ListLemmas.{all_weaker}
use Rattle.transformations.proofs.movements.MovementLemmas.{flat_put, others_put}
use Rattle.transformations.proofs.movements.SoleLemmas.{each_found}
use Rattle.transformations.proofs.pairs.OwnedLemmas.{has_append, has_permuted}
use Rattle.transformations.proofs.ranges.KeptRanges.{IsKept}
use Rattle.transformations.proofs.ranges.KeptSteps.{narrowed_fewer}
use Rattle.transformations.proofs.ranges.PreparedLemmas.{apart_begun, kept_begun, new_movement}
use Rattle.transformations.specs.History.{begun}
use Rattle.transformations.specs.Orders.{by_node}
use Rattle.transformations.specs.Ranges.{in_both, in_ranges, moved_by}
use Rattle.transformations.specs.Refusals.{prepared_by, with_movement}
use Rattle.transformations.specs.Rings.{fixed_ring, incoming, outgoing, widest}
use Rattle.transformations.specs.Movements.{movement_of}
use Rattle.transformations.specs.Valid.{IsValid}
use Rattle.transformations.specs.declared.command.Command.{Command}
use Rattle.transformations.specs.declared.image.Image.{Image}
use Rattle.transformations.specs.declared.keyspace.KeyspaceRow.{KeyspaceRow}
use Rattle.transformations.specs.declared.sequence.SeqRow.{SeqRow}
use Rattle.cluster_metadata.proofs.locks.LockLemmas.{common_is}
use Rattle.cluster_metadata.proofs.locks.LocksKept.{lock_alike}
use Rattle.cluster_metadata.proofs.in_flight.PrepareLemmas.{prepared_begun}
use Rattle.cluster_metadata.proofs.locks.LockPlaces.{locks_named}
use Rattle.cluster_metadata.specs.code.Change.{AreRenewed, changed, plan_lock, rekeyed}
use Rattle.cluster_metadata.specs.code.Locking.{MayLock}
use Rattle.sequence_plans.specs.Locks.{AreLocksOf, IsLockOf}
use Rattle.cluster_metadata.specs.code.PermitParts.{IsPermitted}
use Rattle.cluster_metadata.specs.declared.changes.change.Change.{Change}
use Rattle.cluster_metadata.specs.declared.changes.change.Change.TheVariants.{Keyspaces, Begun}

-- ---- locks that share no token

pub locks_apart : (image : Image) (s q : SeqRow) (one other : LockRow) → IsLockOf image s one → IsLockOf image q other → ((x : ℤ) → IsToken x → in_both image s q x ≡ false) → ShareNoToken one.ranges other.ranges
locks_apart image s q one other mine yours apart x token = common_is image s q x token one.ranges other.ranges mine.rows yours.rows mine.ranges yours.ranges ∙ apart x token

pub all_apart : (image : Image) (s : SeqRow) (rows : List SeqRow) (one : LockRow) (table : List LockRow) → IsLockOf image s one → AreLocksOf image rows table → AllByRecursion (λ q. (x : ℤ) → IsToken x → in_both image s q x ≡ false) rows
    → AllByRecursion (λ l. ShareNoToken one.ranges l.ranges) table
all_apart image s [] one [] mine are apart = tt
all_apart image s [] one (l ∷ table) mine are apart = absurd are
all_apart image s (q ∷ rows) one [] mine are apart = tt
all_apart image s (q ∷ rows) one (l ∷ table) mine are apart = (locks_apart image s q one l mine are.0 apart.0, all_apart image s rows one table mine are.1 apart.1)

flipped : (a b : ℕ) → (a == b) ≡ false → nat_eq b a ≡ false
flipped a b h = grind (arith, nat_tests)

pub unnamed : (image : Image) (n : ℕ) (rows : List SeqRow) (table : List LockRow) → AreLocksOf image rows table → AllByRecursion (λ (s : SeqRow). (s.node == n) ≡ false) rows → has_row table n ≡ false
unnamed image n [] [] are new = refl
unnamed image n [] (l ∷ table) are new = absurd are
unnamed image n (s ∷ rows) [] are new = absurd are
unnamed image n (s ∷ rows) (l ∷ table) are new =
    let other : (l.node == n) ≡ false = ap (λ m. m == n) are.0.node ∙ new.0 in
    ap (λ b. b || has_row table n) (flipped l.node n other) ∙ unnamed image n rows table are.1 new.1

-- ---- the movement that begins

-- what holds of the movements at each token holds at each token of each movement
pub at_tokens : (P : ℤ → SeqRow → Type 0) (rows : List SeqRow) → ((x : ℤ) → IsToken x → AllByRecursion (P x) rows) → AllByRecursion (λ s. (x : ℤ) → IsToken x → P x s) rows
at_tokens P rows all = at_each_token P rows all

still_locks : (before after : Image) (rows : List SeqRow) (table : List LockRow) → after.keyspaces ≡ before.keyspaces → AllByRecursion (λ s. (x : ℤ) → IsToken x → IsKept before after x s) rows → AreLocksOf before rows table → AreLocksOf after rows table
still_locks before after [] [] keyspaces kept are = tt
still_locks before after [] (l ∷ table) keyspaces kept are = absurd are
still_locks before after (s ∷ rows) [] keyspaces kept are = absurd are
still_locks before after (s ∷ rows) (l ∷ table) keyspaces kept are = (
  lock_alike before after s s l keyspaces refl (at_each_token (λ x (k : KeyspaceRow). in_ranges before k.replication s x ≡ in_ranges after k.replication s x) before.keyspaces kept.0) are.0,
  still_locks before after rows table keyspaces kept.1 are.1,
)

differs : (a b : ℕ) → nat_cmp a b ≡ Less → a ≡ b → ⊥
differs a b less same = (let up : a < b = grind arith in omega (arith, up, same))

-- the locks of movements are of different nodes
once_locked : (image : Image) (rows : List SeqRow) (table : List LockRow) → IsStrictlySortedBy by_node rows → AreLocksOf image rows table → AllPairs (λ one other. one.node ≢ other.node) table
unfolding IsStrictlySortedBy
once_locked image [] [] up are = λ i j d before within. absurd (omega arith)
once_locked image [] (l ∷ table) up are = absurd are
once_locked image (s ∷ rows) [] up are = absurd are
once_locked image (s ∷ rows) (l ∷ table) up are =
    AllPairs-cons (λ (one other : LockRow). one.node ≢ other.node) l table (All-from_recursion (λ (o : LockRow). l.node ≢ o.node) table (later rows table up.0 are.1)) (once_locked image rows table up.1 are.1)
  where
    later : (rows : List SeqRow) (table : List LockRow) → AllByRecursion (λ r. by_node s r ≡ Less) rows → AreLocksOf image rows table → AllByRecursion (λ (o : LockRow). l.node ≢ o.node) table
    later [] [] less are' = tt
    later [] (o ∷ table) less are' = absurd are'
    later (q ∷ rows) [] less are' = tt
    later (q ∷ rows) (o ∷ table) less are' = (λ same. differs s.node q.node less.0 (sym are.0.node ∙ same ∙ are'.0.node), later rows table less.1 are'.1)

pub may_lock : (image : Image) (c : Command) (change : Change) (table : List LockRow) → IsPermitted image c change → IsValid image → AreLocksOf image image.sequences table → MayLock table change
may_lock image c (Begun at plan sequences) table permitted valid are =
    let j : SeqRow = plan.row in
    let is : prepared_by image.tokens c ≡ Some j = permitted.makes.suits in
    let after : Image = begun image j in
    let same : changed image (Begun at plan sequences) ≡ after = permitted.makes.made ∙ sym (prepared_begun image c j is) in
    let own : IsLockOf after j (plan_lock plan) = subst (λ i. IsLockOf i j (plan_lock plan)) same permitted.makes.plan.1 in
    let there : AreLocksOf after image.sequences table =
    still_locks image after image.sequences table refl (at_tokens (IsKept image after) image.sequences (kept_begun image c j valid.sound permitted.formed permitted.accepted is)) are in
    record {
      new = unnamed image j.node image.sequences table are (new_movement image c j valid.sound permitted.formed permitted.accepted is);
      apart = all_apart after j image.sequences (plan_lock plan) table own there
          (at_tokens (λ x s. in_both after j s x ≡ false) image.sequences (apart_begun image c j valid.sound permitted.formed permitted.accepted is));
    }
may_lock image c (Keyspaces keyspaces renewed) table permitted valid are =
    let after : Image = rekeyed image keyspaces in
    let brings : AreRenewed after renewed = permitted.makes.plan in
    record {
      names = λ n. ap (λ ns. is_member nat_eq ns n) (locks_named after image.sequences renewed.locks brings.locks ∙ sym (locks_named image image.sequences table are));
      once = once_locked after image.sequences renewed.locks valid.sound.movements brings.locks;
      apart = brings.apart;
    }
may_lock image c _ table permitted valid are = tt

-- ---- the lock of a plan

pub lock_of_book : (image : Image) (s : SeqRow) (ranges : List RangeRow) → IsBook image s ranges → IsLockOf image s (lock_row s.node ranges)
lock_of_book image s ranges book = record { node = refl; rows = book.rows; ranges = book.ranges }

-- ---- wider ranges beside a new movement

module _ (image : Image) (j : SeqRow) (new : AllByRecursion (λ (s : SeqRow). (s.node == j.node) ≡ false) image.sequences) where
  abbrev wide : Image
  wide = with_movement image j

  narrowed : IsNarrowed (moved_by j) (fixed_ring wide) (widest wide) (fixed_ring image) (widest image)
  narrowed =
      let rows : List SeqRow = put by_node j image.sequences in
      narrowed_fewer image rows image.sequences j
      (λ p. sym (has_append j.out_pairs (outgoing image.sequences) p ∙ has_permuted (j.out_pairs ++ outgoing image.sequences) (outgoing rows) (flat_put (λ (q : SeqRow). q.out_pairs) j image.sequences new) p))
      (λ p. sym (has_append j.in_pairs (incoming image.sequences) p ∙ has_permuted (j.in_pairs ++ incoming image.sequences) (incoming rows) (flat_put (λ (q : SeqRow). q.in_pairs) j image.sequences new) p))

  narrow_same : (r : Replication) (s : SeqRow) (x : ℤ) → (in_ranges wide r j x && in_ranges wide r s x) ≡ false → in_ranges wide r s x ≡ in_ranges image r s x
  unfolding in_ranges
  narrow_same r s x apart = reached-kept (groups_of image.nodes r) (fixed_ring wide) (widest wide) (fixed_ring image) (widest image) (moved_by j) (moved_by s) x narrowed apart

  -- the ranges of a movement grow when another one begins
  grows : (r : Replication) (s : SeqRow) (x : ℤ) → in_ranges image r s x ≡ true → in_ranges wide r s x ≡ true
  grows r s x there = by (in_ranges wide r s x) refl
    where
      neither : (a b : Bool) → b ≡ false → (a && b) ≡ false
      neither true b h = h
      neither false b h = refl

      by : (b : Bool) → in_ranges wide r s x ≡ b → in_ranges wide r s x ≡ true
      by true e = e
      by false e = absurd (true≢false (sym there ∙ sym (narrow_same r s x (neither (in_ranges wide r j x) (in_ranges wide r s x) e)) ∙ e))

  inside_rows : (s : SeqRow) (rs : List Replication) (book ranges : List RangeRow) → map (λ r. r.replication) book ≡ rs → map (λ r. r.replication) ranges ≡ rs → AllByRecursion (λ r. HaveTokens (in_ranges image r.replication s) r.ranges) book
      → AllByRecursion (λ r. HaveTokens (in_ranges wide r.replication s) r.ranges) ranges
      → AllByRecursion (λ rows. (t : ℤ) → IsToken t → have_token rows.0.ranges t ≡ true → have_token rows.1.ranges t ≡ true) (zip book ranges)
  inside_rows s rs [] ranges one other h k = tt
  inside_rows s rs (b ∷ book) [] one other h k = tt
  inside_rows s [] (b ∷ book) (w ∷ ranges) one other h k = cc one
  inside_rows s (r ∷ rs) (b ∷ book) (w ∷ ranges) one other h k =
      let b_is : b.replication ≡ r = cc one in
      let w_is : w.replication ≡ r = cc other in
      let book_are : map (λ (p : RangeRow). p.replication) book ≡ rs = cc one in
      let ranges_are : map (λ (p : RangeRow). p.replication) ranges ≡ rs = cc other in (
        λ t token has. (
            let narrow : in_ranges image r s t ≡ true = ap (λ p. in_ranges image p s t) (sym b_is) ∙ sym (h.0 t token) ∙ has in
            k.0 t token ∙ ap (λ p. in_ranges wide p s t) w_is ∙ grows r s t narrow),
        inside_rows s rs book ranges book_are ranges_are h.1 k.1,
      )

  inside : (s : SeqRow) (row w : LockRow) → IsLockOf image s row → IsBook wide s w.ranges → IsInside row.ranges w.ranges
  inside s row w lock book = record {
    rows = lock.rows ∙ sym book.rows;
    tokens = inside_rows s (replications_of image.keyspaces) row.ranges w.ranges lock.rows book.rows lock.ranges book.ranges;
  }

  abbrev IsOwn : SeqRow → Type 0
  IsOwn s = movement_of image s.node ≡ Some s

  wider_row : (s : SeqRow) (row : LockRow) (rows : List SeqRow) (wides : List LockRow) → IsOwn s → IsLockOf image s row → AllByRecursion IsOwn rows → AreLocks wide rows wides → AllByRecursion (λ w. w.node ≡ row.node → IsInside row.ranges w.ranges) wides
  wider_row s row [] [] own lock all are = tt
  wider_row s row [] (w ∷ wides) own lock all are = absurd are
  wider_row s row (q ∷ rows) [] own lock all are = tt
  wider_row s row (q ∷ rows) (w ∷ wides) own lock all are = (
    λ same. (
        let node : q.node ≡ s.node = sym are.0.node ∙ same ∙ lock.node in
        let found : movement_of image s.node ≡ Some q = ap (movement_of image) (sym node) ∙ all.0 in
        let one : q ≡ s = cc in
        inside s row w lock (subst (λ r. IsBook wide r w.ranges) one are.0.ranges)),
    wider_row s row rows wides own lock all.1 are.1,
  )

  wider_rows : (rows all : List SeqRow) (table wides : List LockRow) → AllByRecursion IsOwn rows → AreLocksOf image rows table → AllByRecursion IsOwn all → AreLocks wide all wides → AreWider wides table
  wider_rows [] all [] wides own locks each are = tt
  wider_rows [] all (row ∷ table) wides own locks each are = absurd locks
  wider_rows (s ∷ rows) all [] wides own locks each are = tt
  wider_rows (s ∷ rows) all (row ∷ table) wides own locks each are = (wider_row s row all wides own.0 locks.0 each are, wider_rows rows all table wides own.1 locks.1 each are)

  or_true : (a b : Bool) → b ≡ true → (a || b) ≡ true
  or_true true b h = refl
  or_true false b h = h

  named_rows : (rows : List SeqRow) (table wides : List LockRow) → AreLocksOf image rows table → AreLocks wide rows wides → AllByRecursion (λ row. has_row wides row.node ≡ true) table
  named_rows [] [] wides locks are = tt
  named_rows [] (row ∷ table) wides locks are = absurd locks
  named_rows (s ∷ rows) [] wides locks are = tt
  named_rows (s ∷ rows) (row ∷ table) [] locks are = absurd are
  named_rows (s ∷ rows) (row ∷ table) (w ∷ wides) locks are =
      let node : row.node ≡ w.node = locks.0.node ∙ sym are.0.node in (
        ap (λ b. b || has_row wides row.node) ((Decides-eqb row.node w.node).1 node),
        all_weaker (λ (l : LockRow). has_row wides l.node ≡ true) (λ (l : LockRow). has_row (w ∷ wides) l.node ≡ true) (λ l h. or_true (nat_eq l.node w.node) (has_row wides l.node) h) table (named_rows rows table wides locks.1 are.1),
      )

  module _ (table : List LockRow) (plan : Plan) (up : IsStrictlySortedBy by_node image.sequences) (locks : AreLocksOf image image.sequences table) (is : IsPlan wide j plan) where
    beside : AreLocks wide image.sequences plan.wide
    beside = subst (λ rows. AreLocks wide rows plan.wide) (others_put j image.sequences new) is.wide

    pub plan_names : AllByRecursion (λ row. has_row plan.wide row.node ≡ true) table
    plan_names = named_rows image.sequences table plan.wide locks beside

    pub plan_contains : AreWider plan.wide table
    plan_contains = (let own = each_found image.sequences up in wider_rows image.sequences image.sequences table plan.wide own locks own beside)
