-- Movements of which at most one passes a test.
use Rattle.std.proofs.Common.{◌≡◌, ℕ, Bool, true, false, cond, true≢false, ◌&&◌, ◌||◌, ◌==◌, List, [], ◌∷◌, filter, find, Some, refl, sym, ap, ◌∙◌, subst, arith}
use Rattle.std.proofs.lemmas.Bool.{or_parts}
use Rattle.std.proofs.lemmas.Bool.Decides.{nat_tests}
use Rattle.std.proofs.lemmas.Cmp.{ranked}
use Rattle.std.proofs.lemmas.List.Elements.{All-contains, All-from_recursion}
use Rattle.std.proofs.lemmas.Option.{none-some}
use Rattle.std.specs.List.{AllByRecursion, Contains, IsDistinct, list_any}
use Rattle.std.specs.List.Sorted.{IsStrictlySortedBy}
use Rattle.std.specs.Ordering.{nat_cmp}
use Rattle.std.specs.declared.cmp.Ordering.TheVariants.{Less}
use Rattle.transformations.proofs.lists.ListLemmas.{all_both, all_found, all_weaker, filter_none}
use Rattle.transformations.specs.Orders.{by_node}
use Rattle.transformations.specs.declared.sequence.SeqRow.{SeqRow}

-- ---- by pairs

-- where two items never pass together, they pass nothing that is stronger
pub distinct_weaker : {X : Type 0} (e other : X → X → Bool) → ((x y : X) → e x y ≡ false → other x y ≡ false) → (xs : List X) → IsDistinct e xs → IsDistinct other xs
unfolding IsDistinct
distinct_weaker e other less [] d = tt
distinct_weaker e other less (x ∷ xs) d = (all_weaker (λ y. e x y ≡ false) (λ y. other x y ≡ false) (less x) xs d.0, distinct_weaker e other less xs d.1)

-- where two items pass under none of some others, they don't under each
pub distinct_each : {X Y : Type 0} (f : X → X → Y → Bool) (xs : List X) (ys : List Y) → IsDistinct (λ a b. list_any (f a b) ys) xs → AllByRecursion (λ y. IsDistinct (λ a b. f a b y) xs) ys
distinct_each f xs [] d = tt
distinct_each f xs (y ∷ ys) d = (
  distinct_weaker (λ a b. f a b y || list_any (f a b) ys) (λ a b. f a b y) (λ a b none. (or_parts (f a b y) (list_any (f a b) ys) none).0) xs d,
  distinct_each f xs ys (distinct_weaker (λ a b. f a b y || list_any (f a b) ys) (λ a b. list_any (f a b) ys) (λ a b none. (or_parts (f a b y) (list_any (f a b) ys) none).1) xs d),
)

-- the one that is found is the only one that passes
pub one_passes : (test : SeqRow → Bool) (sequences : List SeqRow) (s : SeqRow) → find test sequences ≡ Some s → IsDistinct (λ q r. test q && test r) sequences
    → AllByRecursion (λ q. test q ≡ true → q ≡ s) sequences
unfolding IsDistinct
one_passes test [] s found d = tt
one_passes test (q ∷ sequences) s found d = by (test q) refl found (λ later. one_passes test sequences s later d.1)
  where
    by : (b : Bool) → test q ≡ b → cond b (Some q) (find test sequences) ≡ Some s → (find test sequences ≡ Some s → AllByRecursion (λ r. test r ≡ true → r ≡ s) sequences)
        → (test q ≡ true → q ≡ s) × AllByRecursion (λ r. test r ≡ true → r ≡ s) sequences
    by true e found rest = (
      λ passes. cc,
      all_weaker (λ r. (test q && test r) ≡ false) (λ r. test r ≡ true → r ≡ s) (λ r none passes. absurd (true≢false (sym (λ i. e i && passes i) ∙ none))) sequences d.0,
    )
    by false e found rest = (λ passes. absurd (true≢false (sym passes ∙ e)), rest found)

-- ---- by node

ascends_apart : (n m : ℕ) → nat_cmp n m ≡ Less → (m == n) ≡ false
ascends_apart n m less = (let lt = ranked n m Less (sym less) in grind (arith, nat_tests))

ascends_before : (n m : ℕ) → nat_cmp n m ≡ Less → (n == m) ≡ false
ascends_before n m less = (let lt = ranked n m Less (sym less) in grind (arith, nat_tests))

pub itself : (n : ℕ) → (n == n) ≡ true
itself n = grind (arith, nat_tests)

-- later movements are of other nodes
later_apart : (q : SeqRow) (sequences : List SeqRow) → AllByRecursion (λ r. by_node q r ≡ Less) sequences → AllByRecursion (λ r. (r.node == q.node) ≡ false) sequences
later_apart q sequences up = all_weaker (λ r. by_node q r ≡ Less) (λ r. (r.node == q.node) ≡ false) (λ r less. ascends_apart q.node r.node less) sequences up

-- a movement that is found by any test is found by its node
pub found_by_node : (test : SeqRow → Bool) (sequences : List SeqRow) (s : SeqRow) → IsStrictlySortedBy by_node sequences → find test sequences ≡ Some s → find (λ (q : SeqRow). q.node == s.node) sequences ≡ Some s
unfolding IsStrictlySortedBy
found_by_node test [] s up found = absurd (none-some s found)
found_by_node test (q ∷ sequences) s up found = by (test q) found (found_by_node test sequences s up.1)
  where
    by : (b : Bool) → cond b (Some q) (find test sequences) ≡ Some s → (find test sequences ≡ Some s → find (λ (r : SeqRow). r.node == s.node) sequences ≡ Some s)
        → cond (q.node == s.node) (Some q) (find (λ (r : SeqRow). r.node == s.node) sequences) ≡ Some s
    by true found rest =
        let is : q ≡ s = cc in
        ap (λ b. cond b (Some q) (find (λ (r : SeqRow). r.node == s.node) sequences)) (ap (λ (r : SeqRow). r.node == s.node) is ∙ itself s.node) ∙ ap (λ r. Some r) is
    by false found rest =
        ap (λ b. cond b (Some q) (find (λ (r : SeqRow). r.node == s.node) sequences)) (ascends_before q.node s.node (all_found (λ r. by_node q r ≡ Less) test sequences s found up.0)) ∙ rest found

-- each movement is found by its node
pub each_found : (sequences : List SeqRow) → IsStrictlySortedBy by_node sequences → AllByRecursion (λ s. find (λ (q : SeqRow). q.node == s.node) sequences ≡ Some s) sequences
unfolding IsStrictlySortedBy
each_found [] up = tt
each_found (s ∷ sequences) up = (
  ap (λ b. cond b (Some s) (find (λ (r : SeqRow). r.node == s.node) sequences)) (itself s.node),
  all_both (λ q. by_node s q ≡ Less) (λ q. find (λ (r : SeqRow). r.node == q.node) sequences ≡ Some q) (λ q. find (λ (r : SeqRow). r.node == q.node) (s ∷ sequences) ≡ Some q)
      (λ q less found. ap (λ b. cond b (Some s) (find (λ (r : SeqRow). r.node == q.node) sequences)) (ascends_before s.node q.node less) ∙ found) sequences up.0 (each_found sequences up.1),
)

pub found_own : (sequences : List SeqRow) (s : SeqRow) → IsStrictlySortedBy by_node sequences → Contains sequences s → find (λ (q : SeqRow). q.node == s.node) sequences ≡ Some s
found_own sequences s up there =
    let P : SeqRow → Type 0 = λ r. find (λ (q : SeqRow). q.node == r.node) sequences ≡ Some r in
    All-contains P sequences s (All-from_recursion P sequences (each_found sequences up)) there

-- it is the only one of its node
pub filter_own : (sequences : List SeqRow) (s : SeqRow) → IsStrictlySortedBy by_node sequences → find (λ (q : SeqRow). q.node == s.node) sequences ≡ Some s → filter (λ (q : SeqRow). q.node == s.node) sequences ≡ s ∷ []
unfolding IsStrictlySortedBy
filter_own [] s up found = absurd (none-some s found)
filter_own (q ∷ sequences) s up found = by (q.node == s.node) found (filter_own sequences s up.1)
  where
    by : (b : Bool) → cond b (Some q) (find (λ (r : SeqRow). r.node == s.node) sequences) ≡ Some s
        → (find (λ (r : SeqRow). r.node == s.node) sequences ≡ Some s → filter (λ (r : SeqRow). r.node == s.node) sequences ≡ s ∷ [])
        → cond b (q ∷ filter (λ (r : SeqRow). r.node == s.node) sequences) (filter (λ (r : SeqRow). r.node == s.node) sequences) ≡ s ∷ []
    by true found rest =
        let is : q ≡ s = cc in
        let none : filter (λ (r : SeqRow). r.node == q.node) sequences ≡ [] = filter_none (λ (r : SeqRow). r.node == q.node) sequences (later_apart q sequences up.0) in
        let later : filter (λ (r : SeqRow). r.node == s.node) sequences ≡ [] = subst (λ (t : SeqRow). filter (λ (r : SeqRow). r.node == t.node) sequences ≡ []) is none in
        λ i. is i ∷ later i
    by false found rest = rest found

both_apart : (a b m : ℕ) → (b == a) ≡ false → ((a == m) && (b == m)) ≡ false
both_apart a b m far = grind (arith, nat_tests)

nodes_apart : (n : ℕ) (sequences : List SeqRow) → IsStrictlySortedBy by_node sequences → IsDistinct (λ (q r : SeqRow). (q.node == n) && (r.node == n)) sequences
unfolding IsStrictlySortedBy IsDistinct
nodes_apart n [] up = tt
nodes_apart n (q ∷ sequences) up = (
  all_weaker (λ r. by_node q r ≡ Less) (λ r. ((q.node == n) && (r.node == n)) ≡ false) (λ r less. both_apart q.node r.node n (ascends_apart q.node r.node less)) sequences up.0,
  nodes_apart n sequences up.1,
)

-- and what is of its node is it
pub only_own : (n : ℕ) (sequences : List SeqRow) (s : SeqRow) → IsStrictlySortedBy by_node sequences → find (λ (q : SeqRow). q.node == n) sequences ≡ Some s → AllByRecursion (λ q. (q.node == n) ≡ true → q ≡ s) sequences
only_own n sequences s up found = one_passes (λ (q : SeqRow). q.node == n) sequences s found (nodes_apart n sequences up)
