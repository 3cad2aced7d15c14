-- The lock of a movement, by its place in the table.
use Rattle.std.proofs.Common.{◌≡◌, ℕ, suc, zero, Bool, true, false, true≢false, not, ◌||◌, ◌==◌, List, [], ◌∷◌, ◌++◌, map, get_or, nat_eq, cond, arith, length, ◌<◌, Some, refl, sym, ap, ◌∙◌, subst}
use Rattle.std.proofs.lemmas.Bool.Decides.{Decides-eqb, nat_tests}
use Rattle.std.proofs.lemmas.Option.{none-some}
use Rattle.std.specs.List.{AllByRecursion, IsDistinct, remove, slice_get}
use Rattle.std.specs.List.Sorted.{IsStrictlySortedBy}
use Rattle.std.specs.Ordering.{nat_cmp}
use Rattle.std.specs.declared.cmp.Ordering.TheVariants.{Less}
use Rattle.locked_ranges.specs.Table.{has_row, other_locks}
use Rattle.token_ring.specs.declared.range_book.LockRow.{LockRow}
use Rattle.transformations.proofs.lists.ListLemmas.{all_from_map, all_weaker}
use Rattle.transformations.specs.Orders.{by_node}
use Rattle.transformations.specs.declared.image.Image.{Image}
use Rattle.transformations.specs.declared.sequence.SeqRow.{SeqRow}
use Rattle.cluster_metadata.proofs.in_flight.MovementPlaces.{at_place, later_others, less_other}
use Rattle.cluster_metadata.proofs.in_flight.RunningLemmas.{row_there}
use Rattle.cluster_metadata.specs.code.Locking.{AreLocked}
use Rattle.sequence_plans.specs.Locks.{AreLocksOf}
use Rattle.cluster_metadata.specs.code.Running.{IsRunning, movement_row, moving_node}
use Rattle.cluster_metadata.specs.declared.movements.running.Running.{Running}

-- the nodes of locks, and those of movements
abbrev pub lock_nodes : List LockRow → List ℕ
lock_nodes table = map (λ (l : LockRow). l.node) table

abbrev pub row_nodes : List SeqRow → List ℕ
row_nodes rows = map (λ (s : SeqRow). s.node) rows

pub locks_named : (image : Image) (rows : List SeqRow) (table : List LockRow) → AreLocksOf image rows table → lock_nodes table ≡ row_nodes rows
locks_named image [] [] are = refl
locks_named image [] (l ∷ table) are = absurd are
locks_named image (s ∷ rows) [] are = absurd are
locks_named image (s ∷ rows) (l ∷ table) are = λ i. are.0.node i ∷ locks_named image rows table are.1 i

-- ---- the lock of a node

module _ (n : ℕ) where
  none_unlocked : (rows : List SeqRow) (table : List LockRow) → lock_nodes table ≡ row_nodes rows → AllByRecursion (λ (q : SeqRow). (q.node == n) ≡ false) rows → other_locks table n ≡ table
  none_unlocked [] [] names all = refl
  none_unlocked [] (l ∷ table) names all = cc
  none_unlocked (q ∷ rows) [] names all = cc
  none_unlocked (q ∷ rows) (l ∷ table) names all =
      let node : l.node ≡ q.node = cc names in
      let left : lock_nodes table ≡ row_nodes rows = cc names in
      let other : (l.node == n) ≡ false = ap (λ m. m == n) node ∙ all.0 in
      rw other (ap (λ rest. l ∷ rest) (none_unlocked rows table left all.1))

  pub unlocked_at : (rows : List SeqRow) (table : List LockRow) (at : ℕ) (s : SeqRow) → IsStrictlySortedBy by_node rows → lock_nodes table ≡ row_nodes rows → slice_get rows at ≡ Some s → (s.node == n) ≡ true → other_locks table n ≡ remove table at
  unfolding IsStrictlySortedBy
  unlocked_at [] table at s up names found own = absurd (none-some s found)
  unlocked_at (q ∷ rows) [] at s up names found own = cc names
  unlocked_at (q ∷ rows) (l ∷ table) zero s up names found own =
      let same : q ≡ s = cc in
      let mine : (q.node == n) ≡ true = rw same own in
      let node : l.node ≡ q.node = cc names in
      let left : lock_nodes table ≡ row_nodes rows = cc names in
      let here : (l.node == n) ≡ true = ap (λ m. m == n) node ∙ mine in
      rw here (none_unlocked rows table left (later_others n q rows mine up.0))
  unlocked_at (q ∷ rows) (l ∷ table) (suc at) s up names found own =
      let apart = less_other q s n (at_place (λ r. by_node q r ≡ Less) rows at s up.0 found) own in
      let node : l.node ≡ q.node = cc names in
      let left : lock_nodes table ≡ row_nodes rows = cc names in
      let other : (l.node == n) ≡ false = ap (λ m. m == n) node ∙ apart in
      rw other (ap (λ rest. l ∷ rest) (unlocked_at rows table at s up.1 left found own))

is_own : (n : ℕ) → nat_eq n n ≡ true
is_own n = (Decides-eqb n n).1 refl

or_true : (a b : Bool) → b ≡ true → (a || b) ≡ true
or_true true b h = refl
or_true false b h = h

pub named_at : (rows : List SeqRow) (table : List LockRow) (at : ℕ) (s : SeqRow) → lock_nodes table ≡ row_nodes rows → slice_get rows at ≡ Some s → has_row table s.node ≡ true
named_at [] table at s names found = absurd (none-some s found)
named_at (q ∷ rows) [] at s names found = cc names
named_at (q ∷ rows) (l ∷ table) zero s names found =
    let node : s.node ≡ l.node = cc in
    ap (λ m. nat_eq s.node m || has_row table s.node) (sym node) ∙ ap (λ b. b || has_row table s.node) (is_own s.node)
named_at (q ∷ rows) (l ∷ table) (suc at) s names found =
    let left : lock_nodes table ≡ row_nodes rows = cc names in
    or_true (nat_eq s.node l.node) (has_row table s.node) (named_at rows table at s left found)

-- ---- the key of a movement that ends

module _ (values : List Running) (table : List LockRow) (at : ℕ) (m : Running) (names : lock_nodes table ≡ row_nodes (map movement_row values)) (within : at < length values) (here : m ≡ get_or values at m) where
  found : slice_get (map movement_row values) at ≡ Some (movement_row m)
  found = row_there (map movement_row values) values at m refl within here

  pub key_fits : has_row table (moving_node m) ≡ true
  key_fits = named_at (map movement_row values) table at (movement_row m) names found

  pub key_unlocks : IsStrictlySortedBy by_node (map movement_row values) → other_locks table (moving_node m) ≡ remove table at
  key_unlocks up = unlocked_at (moving_node m) (map movement_row values) table at (movement_row m) up names found (is_own (moving_node m))

-- ---- all movements

distinct_nodes : (rows : List SeqRow) → IsStrictlySortedBy by_node rows → IsDistinct nat_eq (row_nodes rows)
unfolding IsStrictlySortedBy IsDistinct
distinct_nodes [] up = tt
distinct_nodes (s ∷ rows) up = (apart rows up.0, distinct_nodes rows up.1)
  where
    less_apart : (n m : ℕ) → nat_cmp n m ≡ Less → nat_eq n m ≡ false
    less_apart n m less = grind (arith, nat_tests)

    apart : (rest : List SeqRow) → AllByRecursion (λ q. by_node s q ≡ Less) rest → AllByRecursion (λ m. nat_eq s.node m ≡ false) (row_nodes rest)
    apart [] less = tt
    apart (q ∷ rest) less = (less_apart s.node q.node less.0, apart rest less.1)

each_named : (rows : List SeqRow) (table : List LockRow) → lock_nodes table ≡ row_nodes rows → AllByRecursion (λ (s : SeqRow). has_row table s.node ≡ true) rows
each_named [] table names = tt
each_named (s ∷ rows) [] names = cc names
each_named (s ∷ rows) (l ∷ table) names =
    let node : s.node ≡ l.node = cc names in
    let left : lock_nodes table ≡ row_nodes rows = cc names in (
      ap (λ m. nat_eq s.node m || has_row table s.node) (sym node) ∙ ap (λ b. b || has_row table s.node) (is_own s.node),
      all_weaker (λ (q : SeqRow). has_row table q.node ≡ true) (λ (q : SeqRow). has_row (l ∷ table) q.node ≡ true) (λ q h. or_true (nat_eq q.node l.node) (has_row table q.node) h) rows (each_named rows table left),
    )

-- each movement has a lock
pub all_locked : (rows : List SeqRow) (values : List Running) (table : List LockRow) → IsStrictlySortedBy by_node rows → IsRunning rows values → lock_nodes table ≡ row_nodes rows → AreLocked table values
all_locked rows values table up is names =
    let nodes : row_nodes (map movement_row values) ≡ row_nodes rows = ap row_nodes is in
    record {
      distinct = subst (IsDistinct nat_eq) (sym nodes ∙ mapped values) (distinct_nodes rows up);
      locks = all_from_map (λ (s : SeqRow). has_row table s.node ≡ true) movement_row values (subst (AllByRecursion (λ (s : SeqRow). has_row table s.node ≡ true)) (sym is) (each_named rows table names));
    }
  where
    mapped : (ms : List Running) → row_nodes (map movement_row ms) ≡ map moving_node ms
    mapped [] = refl
    mapped (m ∷ ms) = ap (λ l. moving_node m ∷ l) (mapped ms)

-- the last one is closed, and its lock goes
left_named : (n : ℕ) (table : List LockRow) (k : ℕ) → nat_eq k n ≡ false → has_row table k ≡ true → has_row (other_locks table n) k ≡ true
left_named n [] k apart named = named
left_named n (l ∷ table) k apart named = by (l.node == n) (nat_eq k l.node) refl refl named (left_named n table k apart)
  where
    by : (a b : Bool) → (l.node == n) ≡ a → nat_eq k l.node ≡ b → (b || has_row table k) ≡ true → (has_row table k ≡ true → has_row (other_locks table n) k ≡ true) → has_row (cond (not a) (l ∷ other_locks table n) (other_locks table n)) k ≡ true
    by true true is own named rest =
        let same : k ≡ n = (Decides-eqb k l.node).0 own ∙ (Decides-eqb l.node n).0 is in
        absurd (true≢false (sym ((Decides-eqb k n).1 same) ∙ apart))
    by true false is own named rest = rest named
    by false true is own named rest = ap (λ b. b || has_row (other_locks table n) k) own
    by false false is own named rest = or_true (nat_eq k l.node) (has_row (other_locks table n) k) (rest named)

pub last_closed : (front : List Running) (m : Running) (table : List LockRow) → AreLocked table (front ++ m ∷ []) → (has_row table (moving_node m) ≡ true) × AreLocked (other_locks table (moving_node m)) front
unfolding IsDistinct
last_closed front m table are = (last front are.locks, record { distinct = fewer front are.distinct; locks = left front are.distinct are.locks })
  where
    last : (front : List Running) → AllByRecursion (λ r. has_row table (moving_node r) ≡ true) (front ++ m ∷ []) → has_row table (moving_node m) ≡ true
    last [] all = all.0
    last (r ∷ front) all = last front all.1

    ends_apart : (k : ℕ) (front : List Running) → AllByRecursion (λ j. nat_eq k j ≡ false) (map moving_node (front ++ m ∷ [])) → AllByRecursion (λ j. nat_eq k j ≡ false) (map moving_node front) × (nat_eq k (moving_node m) ≡ false)
    ends_apart k [] all = (tt, all.0)
    ends_apart k (r ∷ front) all = (let rest = ends_apart k front all.1 in ((all.0, rest.0), rest.1))

    fewer : (front : List Running) → IsDistinct nat_eq (map moving_node (front ++ m ∷ [])) → IsDistinct nat_eq (map moving_node front)
    fewer [] d = tt
    fewer (r ∷ front) d = ((ends_apart (moving_node r) front d.0).0, fewer front d.1)

    left : (front : List Running) → IsDistinct nat_eq (map moving_node (front ++ m ∷ [])) → AllByRecursion (λ r. has_row table (moving_node r) ≡ true) (front ++ m ∷ []) → AllByRecursion (λ r. has_row (other_locks table (moving_node m)) (moving_node r) ≡ true) front
    left [] d all = tt
    left (r ∷ front) d all = (left_named (moving_node m) table (moving_node r) (ends_apart (moving_node r) front d.0).1 all.0, left front d.1 all.1)

flipped : (a b : ℕ) → nat_eq a b ≡ false → (b == a) ≡ false
flipped a b h = grind (arith, nat_tests)

pub added_removed : (table : List LockRow) (l : LockRow) → has_row table l.node ≡ false → other_locks (table ++ l ∷ []) l.node ≡ table
added_removed [] l new = rw (is_own l.node) refl
added_removed (k ∷ table) l new = by (nat_eq l.node k.node) refl new (added_removed table l)
  where
    by : (b : Bool) → nat_eq l.node k.node ≡ b → (b || has_row table l.node) ≡ false → (has_row table l.node ≡ false → other_locks (table ++ l ∷ []) l.node ≡ table) → other_locks (k ∷ (table ++ l ∷ [])) l.node ≡ k ∷ table
    by true e new rest = absurd (true≢false new)
    by false e new rest = (let other : (k.node == l.node) ≡ false = flipped l.node k.node e in rw other (ap (λ t. k ∷ t) (rest new)))
