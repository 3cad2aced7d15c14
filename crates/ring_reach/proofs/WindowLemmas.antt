-- Windows by search, and between the tokens at which they begin and end.
use Rattle.std.proofs.Common.{◌≡◌, ℕ, suc, zero, ◌<◌, ◌≤◌, Bool, true, false, cond, not, ◌||◌, ℤ, ◌≤ℤ◌, int_lt, int_le, List, [], ◌∷◌, ◌++◌, length, get_or, Some, refl, sym, ap, ◌∙◌, arith}
use Rattle.std.specs.List.{AllByRecursion, flat_map, slice_get}
use Rattle.std.specs.List.Sorted.{IsPartitionPoint, IsPartitionedBy, IsStrictlySortedBy}
use Rattle.std.specs.Ordering.{int_cmp}
use Rattle.std.specs.declared.cmp.Ordering.TheVariants.{Less}
use Rattle.std.proofs.lemmas.Int.{ints}
use Rattle.std.proofs.lemmas.Map.Keys.{sorted_head, sorted_tail}
use Rattle.cluster_terms.proofs.reach.ReachLemmas.{arc-between}
use Rattle.cluster_terms.specs.Arc.{in_arc}
use Rattle.ring_reach.specs.code.Windows.{is_inside, rights_of, window_bounds, first_upto, nearest, have, any_have}
use Rattle.ring_reach.specs.declared.windows.Window.{Window}

-- ---- by search

above_at : (r : ℤ) (ws : List Window) → AllByRecursion (λ u. int_cmp r u ≡ Less) (rights_of ws) → (j : ℕ) (d : Window) → j < length ws → int_cmp r (get_or ws j d).right ≡ Less
above_at r [] above j d in_j = absurd (omega arith)
above_at r (w ∷ ws) above zero d in_j = above.0
above_at r (w ∷ ws) above (suc j) d in_j = above_at r ws above.1 j d (omega arith)

-- the windows that end before a token stand before the others
pub before_first : (ws : List Window) (t : ℤ) → IsStrictlySortedBy int_cmp (rights_of ws) → IsPartitionedBy (λ (w : Window). int_lt w.right t) ws
before_first [] t up i j d le in_j low = absurd (omega arith)
before_first (w ∷ ws) t up zero zero d le in_j low = low
before_first (w ∷ ws) t up (suc i) zero d le in_j low = absurd (omega arith)
before_first (w ∷ ws) t up zero (suc j) d le in_j low =
    let less = above_at w.right ws (sorted_head int_cmp w.right (rights_of ws) up) j d (omega arith) in grind (arith, ints, less, low)
before_first (w ∷ ws) t up (suc i) (suc j) d le in_j low = before_first ws t (sorted_tail int_cmp w.right (rights_of ws) up) i j d (omega arith) (omega arith) low

abbrev pub IsSplit : List Window → ℤ → ℕ → Type 0
IsSplit ws t n = IsPartitionPoint (λ (w : Window). int_lt w.right t ≡ true) (λ (w : Window). int_lt w.right t ≡ false) ws n

not_upto : (t r : ℤ) → int_lt r t ≡ true → int_le t r ≡ false
not_upto t r h = grind (arith, ints)

upto : (t r : ℤ) → int_lt r t ≡ false → int_le t r ≡ true
upto t r h = grind (arith, ints)

-- the first one that does not is the first that ends at or after the token
search_within : (past : Window) (ws : List Window) (t : ℤ) (n : ℕ) (d : Window) → IsSplit ws t n → n < length ws → get_or ws n d ≡ first_upto past ws t
search_within past [] t n d split in_n = absurd (omega arith)
search_within past (w ∷ ws) t zero d split in_n = sym (ap (λ b. cond b w (first_upto past ws t)) (upto t w.right (split.1 0 d (omega arith) (omega arith))))
search_within past (w ∷ ws) t (suc n) d split in_n =
    search_within past ws t n d (λ k e zero lt. split.0 (suc k) e (omega arith) (omega arith), λ k e le lt. split.1 (suc k) e (omega arith) (omega arith)) (omega arith)
    ∙ sym (ap (λ b. cond b w (first_upto past ws t)) (not_upto t w.right (split.0 0 d (omega arith) (omega arith))))

search_past : (past : Window) (ws : List Window) (t : ℤ) (n : ℕ) → IsSplit ws t n → length ws ≤ n → past ≡ first_upto past ws t
search_past past [] t n split all = refl
search_past past (w ∷ ws) t zero split all = absurd (omega arith)
search_past past (w ∷ ws) t (suc n) split all =
    search_past past ws t n (λ k e zero lt. split.0 (suc k) e (omega arith) (omega arith), λ k e le lt. split.1 (suc k) e (omega arith) (omega arith)) (omega arith)
    ∙ sym (ap (λ b. cond b w (first_upto past ws t)) (not_upto t w.right (split.0 0 w (omega arith) (omega arith))))

-- by search among ascending windows the nearest one is found
pub nearest-within : (ws : List Window) (t : ℤ) (n : ℕ) (d : Window) → IsSplit ws t n → n < length ws → Some (get_or ws n d) ≡ nearest ws t
nearest-within [] t n d split in_n = absurd (omega arith)
nearest-within (w ∷ ws) t n d split in_n = ap (λ (v : Window). Some v) (search_within w (w ∷ ws) t n d split in_n)

pub nearest-past : (ws : List Window) (t : ℤ) (n : ℕ) (d : Window) → IsSplit ws t n → Some d ≡ slice_get ws 0 → length ws ≤ n → Some d ≡ nearest ws t
nearest-past [] t n d split first all = absurd (cc)
nearest-past (w ∷ ws) t n d split first all = first ∙ ap (λ (v : Window). Some v) (search_past w (w ∷ ws) t n split all)

-- no windows ascend, and one does
pub none_ascend : IsStrictlySortedBy int_cmp (rights_of [])
unfolding IsStrictlySortedBy
none_ascend = tt

pub one_ascends : (w : Window) → IsStrictlySortedBy int_cmp (rights_of (w ∷ []))
unfolding IsStrictlySortedBy
one_ascends w = (tt, tt)

-- ---- the first window

-- it is one of the windows
pub first-all : (P : Window → Type 0) (past : Window) (ws : List Window) (t : ℤ) → P past → AllByRecursion P ws → P (first_upto past ws t)
first-all P past [] t here all = here
first-all P past (w ∷ ws) t here all = by (int_le t w.right) (first-all P past ws t here all.1)
  where
    by : (b : Bool) → P (first_upto past ws t) → P (cond b w (first_upto past ws t))
    by true rest = all.0
    by false rest = rest

-- a token z before t, where `past` ends at or before z
low : (past : Window) (ws : List Window) (t z : ℤ) → past.right ≤ℤ z → int_lt z t ≡ true → in_arc t (first_upto past ws t).right z ≡ false
low past [] t z le lt = grind (arith, ints)
low past (w ∷ ws) t z le lt = by (int_le t w.right) refl (low past ws t z le lt)
  where
    here : int_le t w.right ≡ true → in_arc t w.right z ≡ false
    here e = grind (arith, ints)

    by : (b : Bool) → int_le t w.right ≡ b → in_arc t (first_upto past ws t).right z ≡ false → in_arc t (cond b w (first_upto past ws t)).right z ≡ false
    by true e rest = here e
    by false e rest = rest

-- a token z at or after a window that ends at or after t
high : (t r z : ℤ) → t ≤ℤ r → r ≤ℤ z → in_arc t r z ≡ false
high t r z le up = grind (arith, ints)

nowhere : (x y : ℤ) → in_arc x y y ≡ false
nowhere x y = grind (arith, ints)

-- no window of ascending ones, from one that isn't before `past`, ends before the first in ring order
first-nearest : (past : Window) (ws : List Window) (t : ℤ) → AllByRecursion (λ z. past.right ≤ℤ z) (rights_of ws) → IsStrictlySortedBy int_cmp (rights_of ws)
    → AllByRecursion (λ z. in_arc t (first_upto past ws t).right z ≡ false) (rights_of ws)
first-nearest past [] t past_le up = tt
first-nearest past (w ∷ ws) t past_le up = by (int_le t w.right) refl (first-nearest past ws t past_le.1 (sorted_tail int_cmp w.right (rights_of ws) up))
  where
    all_high : t ≤ℤ w.right → (zs : List ℤ) → AllByRecursion (λ z. int_cmp w.right z ≡ Less) zs → AllByRecursion (λ z. in_arc t w.right z ≡ false) zs
    all_high le [] above = tt
    all_high le (z ∷ zs) above = (let less = above.0 in high t w.right z le (grind (arith, ints, less)), all_high le zs above.1)

    by : (b : Bool) → int_le t w.right ≡ b → AllByRecursion (λ z. in_arc t (first_upto past ws t).right z ≡ false) (rights_of ws)
        → AllByRecursion (λ z. in_arc t (cond b w (first_upto past ws t)).right z ≡ false) (w.right ∷ rights_of ws)
    by true e rest = (nowhere t w.right, all_high (grind (arith, ints)) (rights_of ws) (sorted_head int_cmp w.right (rights_of ws) up))
    by false e rest = (low past ws t w.right past_le.0 (grind (arith, ints)), rest)

all_after : (r : ℤ) (zs : List ℤ) → AllByRecursion (λ z. int_cmp r z ≡ Less) zs → AllByRecursion (λ z. r ≤ℤ z) zs
all_after r [] above = tt
all_after r (z ∷ zs) above = (let less = above.0 in grind (arith, ints, less), all_after r zs above.1)

-- no window ends before the nearest one in ring order
pub nearest-first : (w : Window) (ws : List Window) (t : ℤ) → IsStrictlySortedBy int_cmp (rights_of (w ∷ ws)) → AllByRecursion (λ z. in_arc t (first_upto w (w ∷ ws) t).right z ≡ false) (rights_of (w ∷ ws))
nearest-first w ws t up =
    first-nearest w (w ∷ ws) t (omega (arith, ints), all_after w.right (rights_of ws) (sorted_head int_cmp w.right (rights_of ws) up)) up

-- ---- between bounds

-- nothing of windows changes from x to y where no window begins or ends in between
module _ (x y : ℤ) (le : x ≤ℤ y) where
  abbrev IsClear : List ℤ → Type 0
  IsClear ts = AllByRecursion (λ t. in_arc x y t ≡ false) ts

  upto-between : (r : ℤ) → in_arc x y r ≡ false → int_le x r ≡ int_le y r
  upto-between r clear = grind (arith, ints)

  first-between : (past : Window) (ws : List Window) → IsClear (window_bounds ws) → first_upto past ws x ≡ first_upto past ws y
  first-between past [] clear = refl
  first-between past (w ∷ ws) clear = λ i. cond (upto-between w.right clear.1.0 i) w (first-between past ws clear.1.1 i)

  inside-between : (w : Window) → in_arc x y w.left ≡ false → in_arc x y w.right ≡ false → is_inside x w ≡ is_inside y w
  inside-between w left right = ap not (arc-between x y w.right w.left le right left)

  all_inside : (ws : List Window) → IsClear (window_bounds ws) → AllByRecursion (λ w. is_inside x w ≡ is_inside y w) ws
  all_inside [] clear = tt
  all_inside (w ∷ ws) clear = (inside-between w clear.0 clear.1.0, all_inside ws clear.1.1)

  have-between : (ws : List Window) → IsClear (window_bounds ws) → have ws x ≡ have ws y
  have-between [] clear = refl
  have-between (w ∷ ws) clear =
      let all = all_inside (w ∷ ws) clear in
      first-all (λ (v : Window). is_inside x v ≡ is_inside y v) w (w ∷ ws) x all.0 all
      ∙ ap (is_inside y) (first-between w (w ∷ ws) clear)

  clear_front : (ts us : List ℤ) → IsClear (ts ++ us) → IsClear ts
  clear_front [] us clear = tt
  clear_front (t ∷ ts) us clear = (clear.0, clear_front ts us clear.1)

  clear_back : (ts us : List ℤ) → IsClear (ts ++ us) → IsClear us
  clear_back [] us clear = clear
  clear_back (t ∷ ts) us clear = clear_back ts us clear.1

  pub any_have-between : (all : List (List Window)) → IsClear (flat_map window_bounds all) → any_have all x ≡ any_have all y
  any_have-between [] clear = refl
  any_have-between (ws ∷ all) clear =
      λ i. have-between ws (clear_front (window_bounds ws) (flat_map window_bounds all) clear) i || any_have-between all (clear_back (window_bounds ws) (flat_map window_bounds all) clear) i
