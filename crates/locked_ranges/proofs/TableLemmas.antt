-- The table of locked ranges: a row that is added, rows that are left, and rows that are inside wider ones.
use Rattle.std.proofs.Common.{◌≡◌, ◌≢◌, ℕ, suc, zero, Bool, true, false, not, ◌&&◌, ◌||◌, ◌==◌, ℤ, List, [], ◌∷◌, ◌++◌, map, nat_eq, refl, sym, ap, ◌∙◌, arith, zip}
use Rattle.std.specs.List.{AllByRecursion, AllPairs, insert}
use Rattle.std.proofs.lemmas.Bool.{true≢false, false≢true}
use Rattle.std.proofs.lemmas.Bool.Decides.{Decides-eqb}
use Rattle.std.proofs.lemmas.List.Kept.{AllPairs-cons, AllPairs-filter}
use Rattle.std.proofs.lemmas.List.Quantifiers.{all_pairs_push}
use Rattle.std.proofs.lemmas.List.Elements.{recursion_from_All}
use Rattle.cluster_terms.specs.Arc.{IsToken}
use Rattle.token_ring.proofs.RangeLemmas.{to_all}
use Rattle.token_ring.specs.TokenRanges.{have_token}
use Rattle.token_ring.specs.declared.range_book.LockRow.{LockRow}
use Rattle.token_ring.specs.declared.range_book.RangeRow.{RangeRow}
use Rattle.locked_ranges.specs.Sharing.{ShareNoToken, IsInside, share_token}
use Rattle.locked_ranges.specs.Table.{AreWider, IsLockTable, has_row, lock_row, other_locks}

-- ---- rows

-- two books share a token whichever comes first
swapped : (one other : List RangeRow) (t : ℤ) → share_token one other t ≡ share_token other one t
swapped [] [] t = refl
swapped [] (o ∷ other) t = refl
swapped (r ∷ one) [] t = refl
swapped (r ∷ one) (o ∷ other) t = λ i. both (have_token r.ranges t) (have_token o.ranges t) i || swapped one other t i
  where
    both : (a b : Bool) → (a && b) ≡ (b && a)
    both true true = refl
    both true false = refl
    both false true = refl
    both false false = refl

-- a node that has no row differs from the nodes of all rows
not_named : (rows : List LockRow) (n : ℕ) → has_row rows n ≡ false → AllByRecursion (λ row. row.node ≢ n) rows
not_named [] n new = tt
not_named (row ∷ rows) n new = by (nat_eq n row.node) refl new (not_named rows n)
  where
    by : (b : Bool) → nat_eq n row.node ≡ b → (b || has_row rows n) ≡ false → (has_row rows n ≡ false → AllByRecursion (λ row. row.node ≢ n) rows) → (row.node ≢ n) × AllByRecursion (λ row. row.node ≢ n) rows
    by true e new rest = absurd (true≢false new)
    by false e new rest = (λ same. true≢false (sym ((Decides-eqb n row.node).1 (sym same)) ∙ e), rest new)

apart_from : (ranges : List RangeRow) (rows : List LockRow) → AllByRecursion (λ row. ShareNoToken ranges row.ranges) rows → AllByRecursion (λ row. ShareNoToken row.ranges ranges) rows
apart_from ranges [] apart = tt
apart_from ranges (row ∷ rows) apart = (λ t token. swapped row.ranges ranges t ∙ apart.0 t token, apart_from ranges rows apart.1)

-- a new row at the end
pub table_push : (rows : List LockRow) (n : ℕ) (ranges : List RangeRow) → IsLockTable rows → has_row rows n ≡ false → AllByRecursion (λ row. ShareNoToken ranges row.ranges) rows
    → IsLockTable (rows ++ lock_row n ranges ∷ [])
table_push rows n ranges table new apart = record {
  nodes = all_pairs_push (λ (one other : LockRow). one.node ≢ other.node) rows (lock_row n ranges) table.nodes (to_all (λ (row : LockRow). row.node ≢ n) rows (not_named rows n new));
  apart = all_pairs_push (λ (one other : LockRow). ShareNoToken one.ranges other.ranges) rows (lock_row n ranges) table.apart (to_all (λ (row : LockRow). ShareNoToken row.ranges ranges) rows (apart_from ranges rows apart));
}

-- a new row among the others
module _ {X : Type 0} (R : X → X → Type 0) where
  all_insert : (x : X) (xs : List X) (at : ℕ) (y : X) → R x y → AllByRecursion (R x) xs → AllByRecursion (R x) (insert xs at y)
  all_insert x xs zero y here all = (here, all)
  all_insert x [] (suc at) y here all = (here, tt)
  all_insert x (z ∷ xs) (suc at) y here all = (all.0, all_insert x xs at y here all.1)

  pairs_insert : (xs : List X) (at : ℕ) (y : X) → AllPairs R xs → AllByRecursion (λ x. R x y) xs → AllByRecursion (R y) xs → AllPairs R (insert xs at y)
  pairs_insert xs zero y pairs before after = AllPairs-cons R y xs (to_all (R y) xs after) pairs
  pairs_insert [] (suc at) y pairs before after = AllPairs-cons R y [] (to_all (R y) [] tt) pairs
  pairs_insert (x ∷ xs) (suc at) y pairs before after =
      AllPairs-cons R x (insert xs at y)
      (to_all (R x) (insert xs at y) (all_insert x xs at y before.0 (recursion_from_All (R x) xs (λ k d within. pairs 0 (suc k) d (omega arith) (omega arith)))))
      (pairs_insert xs at y (λ i j d less within. pairs (suc i) (suc j) d (omega arith) (omega arith)) before.1 after.1)

flipped : (rows : List LockRow) (n : ℕ) → AllByRecursion (λ row. row.node ≢ n) rows → AllByRecursion (λ row. n ≢ row.node) rows
flipped [] n all = tt
flipped (row ∷ rows) n all = (λ same. all.0 (sym same), flipped rows n all.1)

pub table_insert : (rows : List LockRow) (at n : ℕ) (ranges : List RangeRow) → IsLockTable rows → has_row rows n ≡ false → AllByRecursion (λ row. ShareNoToken ranges row.ranges) rows
    → IsLockTable (insert rows at (lock_row n ranges))
table_insert rows at n ranges table new apart = record {
  nodes = pairs_insert (λ (one other : LockRow). one.node ≢ other.node) rows at (lock_row n ranges) table.nodes (not_named rows n new) (flipped rows n (not_named rows n new));
  apart = pairs_insert (λ (one other : LockRow). ShareNoToken one.ranges other.ranges) rows at (lock_row n ranges) table.apart (apart_from ranges rows apart) apart;
}

-- the rows of the other nodes
pub table_others : (rows : List LockRow) (n : ℕ) → IsLockTable rows → IsLockTable (other_locks rows n)
table_others rows n table = record {
  nodes = AllPairs-filter (λ (one other : LockRow). one.node ≢ other.node) (λ row. not (row.node == n)) rows table.nodes;
  apart = AllPairs-filter (λ (one other : LockRow). ShareNoToken one.ranges other.ranges) (λ row. not (row.node == n)) rows table.apart;
}

-- ---- wider rows

-- a book that shares no token with a wider book shares none with a book inside it
not_inside : (ours book wide : List RangeRow) (t : ℤ) → IsToken t → map (λ r. r.replication) book ≡ map (λ r. r.replication) wide
    → AllByRecursion (λ rows. (t : ℤ) → IsToken t → have_token rows.0.ranges t ≡ true → have_token rows.1.ranges t ≡ true) (zip book wide)
    → share_token ours wide t ≡ false → share_token ours book t ≡ false
not_inside [] book wide t token rows inside none = refl
not_inside (our ∷ ours) [] wide t token rows inside none = refl
not_inside (our ∷ ours) (r ∷ book) [] t token rows inside none = cc
not_inside (our ∷ ours) (r ∷ book) (w ∷ wide) t token rows inside none =
    let left : map (λ (r : RangeRow). r.replication) book ≡ map (λ (r : RangeRow). r.replication) wide = cc in
    by (have_token our.ranges t) (have_token r.ranges t) (have_token w.ranges t) (share_token ours wide t) (share_token ours book t) (inside.0 t token) none
    (not_inside ours book wide t token left inside.1)
  where
    by : (a n w r s : Bool) → (n ≡ true → w ≡ true) → ((a && w) || r) ≡ false → (r ≡ false → s ≡ false) → ((a && n) || s) ≡ false
    by true true w r s wider none rest = absurd (true≢false (sym (ap (λ b. b || r) (wider refl)) ∙ none))
    by true false true r s wider none rest = absurd (true≢false none)
    by true false false r s wider none rest = rest none
    by false n w r s wider none rest = rest none

-- where a book shares no token with wide rows, it shares none with a row inside the wide row of its node
row_apart : (ours : List RangeRow) (row : LockRow) (wide : List LockRow) → has_row wide row.node ≡ true → AllByRecursion (λ w. w.node ≡ row.node → IsInside row.ranges w.ranges) wide
    → AllByRecursion (λ w. ShareNoToken ours w.ranges) wide → ShareNoToken ours row.ranges
row_apart ours row [] named inside apart = absurd (false≢true named)
row_apart ours row (w ∷ wide) named inside apart = by (nat_eq row.node w.node) refl named (λ later. row_apart ours row wide later inside.1 apart.1)
  where
    by : (b : Bool) → nat_eq row.node w.node ≡ b → (b || has_row wide row.node) ≡ true → (has_row wide row.node ≡ true → ShareNoToken ours row.ranges) → ShareNoToken ours row.ranges
    by true same named rest =
        let is = inside.0 (sym ((Decides-eqb row.node w.node).0 same)) in
        λ t token. not_inside ours row.ranges w.ranges t token is.rows is.tokens (apart.0 t token)
    by false other named rest = rest named

pub table_apart : (ours : List RangeRow) (wide rows : List LockRow) → AllByRecursion (λ row. has_row wide row.node ≡ true) rows → AreWider wide rows
    → AllByRecursion (λ w. ShareNoToken ours w.ranges) wide → AllByRecursion (λ row. ShareNoToken ours row.ranges) rows
table_apart ours wide [] named inside apart = tt
table_apart ours wide (row ∷ rows) named inside apart = (row_apart ours row wide named.0 inside.0 apart, table_apart ours wide rows named.1 inside.1 apart)
