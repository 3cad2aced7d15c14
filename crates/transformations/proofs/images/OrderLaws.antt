-- The rules on orders, and the orders that they stand for.
use Rattle.std.proofs.Common.{◌≡◌, ℕ, ◌+◌, ◌<◌, Bool, true, false, cond, ℤ, pos, List, [], ◌∷◌, map, nat_le, Option, Some, None, refl, sym, ap, arith}
use Rattle.std.proofs.lemmas.Bool.Decides.{nat_tests}
use Rattle.std.proofs.lemmas.Map.Keys.{IsStrictlyIncreasing-from_sorted}
use Rattle.std.proofs.lemmas.Option.{none-some}
use Rattle.std.specs.Cmp.{IsTotalOrder}
use Rattle.std.specs.List.{AllByRecursion, IsDistinct, list_any}
use Rattle.std.specs.List.Sorted.{IsStrictlyIncreasing, IsStrictlySortedBy}
use Rattle.std.specs.Ordering.{is_lt, nat_cmp}
use Rattle.std.specs.declared.cmp.Ordering.{Ordering}
use Rattle.std.specs.declared.cmp.Ordering.TheVariants.{Less, Equal, Greater}
use Rattle.cluster_terms.specs.declared.node.NodeRow.{NodeRow}
use Rattle.transformations.proofs.images.FirstBadLemmas.{none_or, or_none}
use Rattle.transformations.proofs.lists.ListLemmas.{all_both, all_each, all_false, all_weaker, any_false}
use Rattle.transformations.specs.ImageRules.{first_bad, first_fall, id_before, id_falls, shown_if}

-- ---- a test that shows nothing

pub not_shown : (test : Bool) (v : ℤ) → shown_if test v ≡ None → test ≡ false
not_shown false v h = refl
not_shown true v h = absurd (none-some v (sym h))

-- ---- items that ascend

less : (o : Ordering) → is_lt o ≡ true → o ≡ Less
less Less h = refl
less Equal h = absurd (none_true h)
  where
    none_true : false ≡ true → ⊥
    none_true e = cc
less Greater h = absurd (none_true h)
  where
    none_true : false ≡ true → ⊥
    none_true e = cc

pub sorted_falls : {A : Type 0} (order : A → A → Ordering) (n : ℕ) (xs : List A) → IsStrictlySortedBy order xs → first_fall order n xs ≡ None
unfolding IsStrictlySortedBy
sorted_falls order n [] up = refl
sorted_falls order n (x ∷ []) up = refl
sorted_falls order n (x ∷ y ∷ ys) up = let first : is_lt (order x y) ≡ true = ap is_lt up.0.0 in rw first (sorted_falls order (n + 1) (y ∷ ys) up.1)

pub falls_sorted : {A : Type 0} (order : A → A → Ordering) → IsTotalOrder order → (n : ℕ) (xs : List A) → first_fall order n xs ≡ None → IsStrictlySortedBy order xs
unfolding IsStrictlySortedBy
falls_sorted order total n [] none = tt
falls_sorted order total n (x ∷ []) none = (tt, tt)
falls_sorted {A} order total n (x ∷ y ∷ ys) none = by (is_lt (order x y)) refl none (λ rest. falls_sorted order total (n + 1) (y ∷ ys) rest)
  where
    by : (b : Bool) → is_lt (order x y) ≡ b → cond b (first_fall order (n + 1) (y ∷ ys)) (Some (n + 1, y)) ≡ None → (first_fall order (n + 1) (y ∷ ys) ≡ None → IsStrictlySortedBy order (y ∷ ys)) → IsStrictlySortedBy order (x ∷ y ∷ ys)
    by true e rest later =
        let up : IsStrictlySortedBy order (y ∷ ys) = later rest in
        let first : order x y ≡ Less = less (order x y) e in
        ((first, all_weaker (λ z. order y z ≡ Less) (λ z. order x z ≡ Less) (λ z after. total.trans x y z first after) ys up.0), up)
    by false e rest later = absurd (none-some (n + 1, y) (sym rest))

-- ---- ids that ascend from 1 on

abbrev ids : List NodeRow → List ℕ
ids nodes = map (λ row. row.id) nodes

cmp_less : (a b : ℕ) → a < b → nat_cmp a b ≡ Less
cmp_less a b h = grind (arith, nat_tests)

pub ids_up : (before nodes : List NodeRow) → first_bad id_falls before nodes ≡ None → IsStrictlySortedBy nat_cmp (ids nodes) × AllByRecursion (λ n. id_before before < n) (ids nodes)
unfolding IsStrictlySortedBy
ids_up before [] none = (tt, tt)
ids_up before (x ∷ xs) none =
    let parts : (id_falls before x ≡ None) × (first_bad id_falls (x ∷ before) xs ≡ None) = or_none (id_falls before x) (first_bad id_falls (x ∷ before) xs) none in
    let later : IsStrictlySortedBy nat_cmp (ids xs) × AllByRecursion (λ n. x.id < n) (ids xs) = ids_up (x ∷ before) xs parts.1 in
    let test : nat_le x.id (id_before before) ≡ false = not_shown (nat_le x.id (id_before before)) (pos x.id) parts.0 in
    let here : id_before before < x.id = grind (arith, nat_tests, test) in (
      (all_weaker (λ n. x.id < n) (λ n. nat_cmp x.id n ≡ Less) (λ n h. cmp_less x.id n h) (ids xs) later.1, later.0),
      (here, all_weaker (λ n. x.id < n) (λ n. id_before before < n) (λ n h. omega (arith, here, h)) (ids xs) later.1),
    )

pub ids_increase : (nodes : List NodeRow) → first_bad id_falls [] nodes ≡ None → IsStrictlyIncreasing (ids nodes)
ids_increase nodes none = IsStrictlyIncreasing-from_sorted (ids nodes) (ids_up [] nodes none).0

cmp_lt : (a b : ℕ) → nat_cmp a b ≡ Less → a < b
cmp_lt a b h = (let t : is_lt (nat_cmp a b) ≡ true = ap is_lt h in grind (arith, nat_tests, t))

pub ids_clear : (before nodes : List NodeRow) → IsStrictlySortedBy nat_cmp (ids nodes) → AllByRecursion (λ n. id_before before < n) (ids nodes) → first_bad id_falls before nodes ≡ None
unfolding IsStrictlySortedBy
ids_clear before [] up all = refl
ids_clear before (x ∷ xs) up all =
    let here : id_before before < x.id = all.0 in
    let test : nat_le x.id (id_before before) ≡ false = grind (arith, nat_tests, here) in
    none_or (id_falls before x) (first_bad id_falls (x ∷ before) xs) (ap (λ b. shown_if b (pos x.id)) test)
    (ids_clear (x ∷ before) xs up.1 (all_weaker (λ n. nat_cmp x.id n ≡ Less) (λ n. x.id < n) (λ n h. cmp_lt x.id n h) (ids xs) up.0))

-- ---- items of which no two tie

module _ {A : Type 0} (e : A → A → Bool) (value : A → ℤ) where
  abbrev pub repeats : List A → A → Option ℤ
  repeats before x = shown_if (list_any (λ q. e q x) before) (value x)

  pub repeats_none : (before xs : List A) → first_bad repeats before xs ≡ None → IsDistinct e xs × AllByRecursion (λ q. AllByRecursion (λ x. e q x ≡ false) xs) before
  unfolding IsDistinct
  repeats_none before [] none = (tt, all_each (λ q. AllByRecursion (λ x. e q x ≡ false) []) (λ q. tt) before)
  repeats_none before (x ∷ xs) none =
      let parts : (repeats before x ≡ None) × (first_bad repeats (x ∷ before) xs ≡ None) = or_none (repeats before x) (first_bad repeats (x ∷ before) xs) none in
      let later : IsDistinct e xs × AllByRecursion (λ q. AllByRecursion (λ x. e q x ≡ false) xs) (x ∷ before) = repeats_none (x ∷ before) xs parts.1 in (
        (later.1.0, later.0),
        all_both (λ q. e q x ≡ false) (λ q. AllByRecursion (λ y. e q y ≡ false) xs) (λ q. AllByRecursion (λ y. e q y ≡ false) (x ∷ xs)) (λ q one more. (one, more)) before
            (all_false (λ q. e q x) before (not_shown (list_any (λ q. e q x) before) (value x) parts.0)) later.1.1,
      )

  pub repeats_clear : (before xs : List A) → IsDistinct e xs → AllByRecursion (λ q. AllByRecursion (λ x. e q x ≡ false) xs) before → first_bad repeats before xs ≡ None
  unfolding IsDistinct
  repeats_clear before [] d all = refl
  repeats_clear before (x ∷ xs) d all =
      none_or (repeats before x) (first_bad repeats (x ∷ before) xs)
      (ap (λ b. shown_if b (value x)) (any_false (λ q. e q x) before (all_weaker (λ q. AllByRecursion (λ y. e q y ≡ false) (x ∷ xs)) (λ q. e q x ≡ false) (λ q h. h.0) before all)))
      (repeats_clear (x ∷ before) xs d.1 (d.0, all_weaker (λ q. AllByRecursion (λ y. e q y ≡ false) (x ∷ xs)) (λ q. AllByRecursion (λ y. e q y ≡ false) xs) (λ q h. h.1) before all))
