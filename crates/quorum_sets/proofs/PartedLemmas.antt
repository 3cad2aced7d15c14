-- Some nodes of two sets that have none in common, where both sets together have enough of them.
use Rattle.std.proofs.Common.{◌≡◌, ℕ, ◌+◌, ◌-◌, ◌≤◌, Bool, true, false, not, ◌&&◌, ◌||◌, cond, List, [], ◌∷◌, ◌++◌, zero, suc, take, filter, length, nat_eq, nat_lt, refl, sym, ap, ◌∙◌, arith, length-append}
use Rattle.std.proofs.Math.Bool.{and-false}
use Rattle.std.proofs.lemmas.Bool.{and_parts, false≢true, or_parts}
use Rattle.std.proofs.lemmas.Bool.Decides.{nat_tests}
use Rattle.std.proofs.lemmas.List.{length-take-le}
use Rattle.std.proofs.lemmas.List.Filters.{length-filter_both}
use Rattle.std.proofs.lemmas.List.Folds.{list_any-append}
use Rattle.std.proofs.lemmas.Map.Made.{distinct_count-le, length-le_from_is_member}
use Rattle.std.specs.Cmp.{nat_eq_equiv}
use Rattle.std.specs.List.{AllByRecursion, IsDistinct, list_any}
use Rattle.std.specs.Set.{distinct_count}
use Rattle.cluster_terms.proofs.lists.DistinctCounts.{distinct_count-within}
use Rattle.cluster_terms.proofs.placement.GroupLemmas.{has}
use Rattle.cluster_terms.proofs.quorums.QuorumLemmas.{has_filter}
use Rattle.cluster_terms.specs.Quorum.{have_common}
use Rattle.quorum_sets.specs.Parted.{ArePartable}

-- ---- parts of lists of different nodes

apart_filter : (n : ℕ) (test : ℕ → Bool) (ns : List ℕ) → AllByRecursion (λ m. nat_eq n m ≡ false) ns → AllByRecursion (λ m. nat_eq n m ≡ false) (filter test ns)
apart_filter n test [] all = tt
apart_filter n test (m ∷ ms) all = by (test m) (apart_filter n test ms all.1)
  where
    by : (b : Bool) → AllByRecursion (λ v. nat_eq n v ≡ false) (filter test ms) → AllByRecursion (λ v. nat_eq n v ≡ false) (cond b (m ∷ filter test ms) (filter test ms))
    by true more = (all.0, more)
    by false more = more

distinct_filter : (test : ℕ → Bool) (ns : List ℕ) → IsDistinct nat_eq ns → IsDistinct nat_eq (filter test ns)
unfolding IsDistinct
distinct_filter test [] d = tt
distinct_filter test (n ∷ ns) d = by (test n) (distinct_filter test ns d.1)
  where
    by : (b : Bool) → IsDistinct nat_eq (filter test ns) → IsDistinct nat_eq (cond b (n ∷ filter test ns) (filter test ns))
    by true more = (apart_filter n test ns d.0, more)
    by false more = more

apart_take : (n k : ℕ) (ns : List ℕ) → AllByRecursion (λ m. nat_eq n m ≡ false) ns → AllByRecursion (λ m. nat_eq n m ≡ false) (take k ns)
apart_take n zero ns all = tt
apart_take n (suc k) [] all = tt
apart_take n (suc k) (m ∷ ms) all = (all.0, apart_take n k ms all.1)

distinct_take : (k : ℕ) (ns : List ℕ) → IsDistinct nat_eq ns → IsDistinct nat_eq (take k ns)
unfolding IsDistinct
distinct_take zero ns d = tt
distinct_take (suc k) [] d = tt
distinct_take (suc k) (n ∷ ns) d = (apart_take n k ns d.0, distinct_take k ns d.1)

has_take : (k : ℕ) (ns : List ℕ) (v : ℕ) → has (take k ns) v ≡ true → has ns v ≡ true
has_take zero ns v there = absurd (false≢true there)
has_take (suc k) [] v there = absurd (false≢true there)
has_take (suc k) (n ∷ ns) v there = by (nat_eq v n) there (has_take k ns v)
  where
    by : (b : Bool) → (b || has (take k ns) v) ≡ true → (has (take k ns) v ≡ true → has ns v ≡ true) → (b || has ns v) ≡ true
    by true h more = refl
    by false h more = more h

length_take : (k : ℕ) (ns : List ℕ) → k ≤ length ns → length (take k ns) ≡ k
length_take k ns le = length-take-le k ns le

-- of two tests no node passes both
count_or : (p q : ℕ → Bool) → ((n : ℕ) → q n ≡ true → p n ≡ false) → (ns : List ℕ) → length (filter (λ n. p n || q n) ns) ≡ length (filter p ns) + length (filter q ns)
count_or p q apart [] = refl
count_or p q apart (n ∷ ns) = by (p n) (q n) (apart n) (count_or p q apart ns)
  where
    by : (b c : Bool) → (c ≡ true → b ≡ false) → length (filter (λ m. p m || q m) ns) ≡ length (filter p ns) + length (filter q ns)
        → length (cond (b || c) (n ∷ filter (λ m. p m || q m) ns) (filter (λ m. p m || q m) ns)) ≡ length (cond b (n ∷ filter p ns) (filter p ns)) + length (cond c (n ∷ filter q ns) (filter q ns))
    by true true e more = absurd (false≢true (sym (e refl)))
    by true false e more = omega arith
    by false true e more = omega arith
    by false false e more = omega arith

-- those that pass a test and those that don't have none in common
none_common : (p : ℕ → Bool) (ns ms : List ℕ) → list_any (has (filter p ns)) (filter (λ n. not (p n)) ms) ≡ false
none_common p ns [] = refl
none_common p ns (m ∷ ms) = by (p m) refl (none_common p ns ms)
  where
    rest : List ℕ
    rest = filter (λ n. not (p n)) ms

    by : (c : Bool) → p m ≡ c → list_any (has (filter p ns)) (filter (λ n. not (p n)) ms) ≡ false
        → list_any (has (filter p ns)) (cond (not c) (m ∷ filter (λ n. not (p n)) ms) (filter (λ n. not (p n)) ms)) ≡ false
    by true e more = more
    by false e more = (λ i. (has_filter p ns m ∙ ap (λ x. has ns m && x) e ∙ and-false (has ns m)) i || more i)

either_kept : (x y : Bool) → (x || y) ≡ true → ((x && not y) || y) ≡ true
either_kept true true t = refl
either_kept true false t = refl
either_kept false y t = t

not_alone : (x t : Bool) → (not x || t) ≡ true → x ≡ true → t ≡ true
not_alone true t e there = e
not_alone false t e there = absurd (false≢true there)

not_less : (k n : ℕ) → nat_lt n k ≡ false → k ≤ n
not_less k n e = grind (arith, nat_tests)

-- ---- the nodes of two sets are parted

module _ (a b : ℕ) (ns ms : List ℕ) (one : IsDistinct nat_eq ns) (other : IsDistinct nat_eq ms) where
  abbrev alone : List ℕ
  alone = filter (λ n. not (has ms n)) ns

  abbrev shared : List ℕ
  shared = filter (has ms) ns

  -- the shared nodes that the one takes
  abbrev taken : List ℕ
  taken = take (a - length alone) shared

  abbrev chosen : ℕ → Bool
  chosen n = not (has ms n) || has taken n

  all_nodes : length shared + length alone ≡ length ns
  all_nodes = length-filter_both (has ms) (λ n. not (has ms n)) (λ n. refl) ns

  together : distinct_count nat_eq (ns ++ ms) ≤ length alone + length ms
  together =
      let within = distinct_count-within nat_eq_equiv (ns ++ ms) (alone ++ ms)
      (λ v m. list_any-append (nat_eq v) alone ms ∙ (λ i. has_filter (λ n. not (has ms n)) ns v i || has ms v)
      ∙ either_kept (has ns v) (has ms v) (sym (list_any-append (nat_eq v) ns ms) ∙ m)) in
      let most = distinct_count-le nat_eq (alone ++ ms) in
      omega (arith, length-append alone ms)

  of_shared : (v : ℕ) → has taken v ≡ true → (has ns v ≡ true) × (has ms v ≡ true)
  of_shared v there = and_parts (has ns v) (has ms v) (sym (has_filter (has ms) ns v) ∙ has_take (a - length alone) shared v there)

  distinct_taken : IsDistinct nat_eq taken
  distinct_taken = distinct_take (a - length alone) shared (distinct_filter (has ms) ns one)

  as_many : a ≤ length ns → length taken ≡ a - length alone
  as_many few = (let all = all_nodes in length_take (a - length alone) shared (omega arith))

  enough : a ≤ length ns → a ≤ length (filter chosen ns)
  enough few =
      let count = count_or (λ n. not (has ms n)) (has taken) (λ n t. ap not (of_shared n t).1) ns in
      let within = length-le_from_is_member nat_eq_equiv taken (filter (has taken) ns) distinct_taken (λ v m. has_filter (has taken) ns v ∙ (λ i. (of_shared v m).0 i && m i)) in
      let many = as_many few in
      omega arith

  enough_others : a ≤ length ns → b ≤ length ms → a + b ≤ distinct_count nat_eq (ns ++ ms) → b ≤ length (filter (λ n. not (chosen n)) ms)
  enough_others few few_ms both =
      let parts = length-filter_both chosen (λ n. not (chosen n)) (λ n. refl) ms in
      let within = length-le_from_is_member nat_eq_equiv (filter chosen ms) taken (distinct_filter chosen ms other)
      (λ v m. let in_both = and_parts (has ms v) (chosen v) (sym (has_filter chosen ms v) ∙ m) in not_alone (has ms v) (has taken v) in_both.1 in_both.0) in
      let many = as_many few in
      let all = together in
      omega arith

  among : (p : ℕ → Bool) (vs : List ℕ) (v : ℕ) → has (filter p vs) v ≡ true → has vs v ≡ true
  among p vs v m = (and_parts (has vs v) (p v) (sym (has_filter p vs v) ∙ m)).0

  parts_of : a ≤ length ns → b ≤ length ms → a + b ≤ distinct_count nat_eq (ns ++ ms) → ArePartable a ns b ms
  parts_of few few_ms both = record {
    some = filter chosen ns;
    others = filter (λ n. not (chosen n)) ms;
    of_ns = record { distinct = distinct_filter chosen ns one; among = among chosen ns; enough = enough few };
    of_ms = record { distinct = distinct_filter (λ n. not (chosen n)) ms other; among = among (λ n. not (chosen n)) ms; enough = enough_others few few_ms both };
    apart = none_common chosen ns ms;
  }

pub parted : (a b : ℕ) (ns ms : List ℕ) → IsDistinct nat_eq ns → IsDistinct nat_eq ms → have_common a ns b ms ≡ false → ArePartable a ns b ms
parted a b ns ms one other meet =
    let first = or_parts (nat_lt (length ns) a) (nat_lt (length ms) b || nat_lt (distinct_count nat_eq (ns ++ ms)) (a + b)) meet in
    let rest = or_parts (nat_lt (length ms) b) (nat_lt (distinct_count nat_eq (ns ++ ms)) (a + b)) first.1 in
    parts_of a b ns ms one other (not_less a (length ns) first.0) (not_less b (length ms) rest.0) (not_less (a + b) (distinct_count nat_eq (ns ++ ms)) rest.1)
