-- Loops that look for the first place in a list that breaks a rule.
use Rattle.std.proofs.Common.{◌≡◌, ℕ, zero, suc, ◌+◌, ◌<◌, Bool, true, false, ◌||◌, cond, ℤ, List, [], ◌∷◌, find, get_or, length, take, Option, Some, None, refl, sym, ap, ◌∙◌, arith, add-one}
use Rattle.std.proofs.lemmas.Option.{none-some}
use Rattle.std.specs.List.{list_any}
use Rattle.std.specs.Option.{option_or}
use Rattle.std.specs.Ordering.{is_lt}
use Rattle.std.specs.declared.cmp.Ordering.{Ordering}
use Rattle.transformations.specs.ImageRules.{first_bad, first_fall}

-- the items before position i, the nearest first, and then those that came before the list
abbrev pub behind : {A : Type 0} → List A → ℕ → List A → List A
behind before zero xs = before
behind before (suc i) [] = before
behind before (suc i) (x ∷ xs) = behind (x ∷ before) i xs

pub behind-more : {A : Type 0} (before xs : List A) (i : ℕ) (d : A) → i < length xs → behind before (i + 1) xs ≡ get_or xs i d ∷ behind before i xs
behind-more {A} before xs i d h = rw add-one (step before xs i h)
  where
    step : (before xs : List A) (i : ℕ) → i < length xs → behind before (suc i) xs ≡ get_or xs i d ∷ behind before i xs
    step before [] i h = absurd (omega arith)
    step before (x ∷ xs) zero h = refl
    step before (x ∷ xs) (suc i) h = step (x ∷ before) xs i (omega arith)

or_turned : (a b c : Bool) → (b || (a || c)) ≡ ((a || b) || c)
or_turned a b c = grind arith

pub any_behind : {A : Type 0} (p : A → Bool) (before xs : List A) (i : ℕ) → list_any p (behind before i xs) ≡ (list_any p (take i xs) || list_any p before)
any_behind p before xs zero = refl
any_behind p before [] (suc i) = refl
any_behind p before (x ∷ xs) (suc i) = any_behind p (x ∷ before) xs i ∙ or_turned (p x) (list_any p (take i xs)) (list_any p before)

-- ---- a choice that gives nothing

pub or_none : {A : Type 0} (a b : Option A) → option_or a b ≡ None → (a ≡ None) × (b ≡ None)
or_none None b h = (refl, h)
or_none (Some x) b h = absurd (none-some x (sym h))

pub none_or : {A : Type 0} (a b : Option A) → a ≡ None → b ≡ None → option_or a b ≡ None
none_or a b e f = rw e f

-- ---- the first item that breaks a rule

pub bad_more : {A : Type 0} (rule : List A → A → Option ℤ) (before xs : List A) (i : ℕ) (d : A) → i < length xs
    → first_bad rule before (take i xs) ≡ None → rule (behind before i xs) (get_or xs i d) ≡ None → first_bad rule before (take (i + 1) xs) ≡ None
bad_more {A} rule before xs i d in_i clear here = rw add-one (step before xs i in_i clear here)
  where
    step : (before xs : List A) (i : ℕ) → i < length xs → first_bad rule before (take i xs) ≡ None → rule (behind before i xs) (get_or xs i d) ≡ None → first_bad rule before (take (suc i) xs) ≡ None
    step before [] i h clear here = absurd (omega arith)
    step before (x ∷ xs) zero h clear here = rw here refl
    step before (x ∷ xs) (suc i) h clear here =
        let parts : (rule before x ≡ None) × (first_bad rule (x ∷ before) (take i xs) ≡ None) = or_none (rule before x) (first_bad rule (x ∷ before) (take i xs)) clear in
        none_or (rule before x) (first_bad rule (x ∷ before) (take (suc i) xs)) parts.0 (step (x ∷ before) xs i (omega arith) parts.1 here)

pub bad_here : {A : Type 0} (rule : List A → A → Option ℤ) (before xs : List A) (i : ℕ) (d : A) (v : ℤ) → i < length xs
    → first_bad rule before (take i xs) ≡ None → rule (behind before i xs) (get_or xs i d) ≡ Some v → first_bad rule before xs ≡ Some v
bad_here rule before [] i d v h clear here = absurd (omega arith)
bad_here rule before (x ∷ xs) zero d v h clear here = rw here refl
bad_here rule before (x ∷ xs) (suc i) d v h clear here =
    let parts : (rule before x ≡ None) × (first_bad rule (x ∷ before) (take i xs) ≡ None) = or_none (rule before x) (first_bad rule (x ∷ before) (take i xs)) clear in
    rw parts.0 (bad_here rule (x ∷ before) xs i d v (omega arith) parts.1 here)

-- ---- the first item that passes a test

pub find_more : {A : Type 0} (p : A → Bool) (xs : List A) (i : ℕ) (d : A) → i < length xs → find p (take i xs) ≡ None → p (get_or xs i d) ≡ false → find p (take (i + 1) xs) ≡ None
find_more {A} p xs i d in_i clear here = rw add-one (step xs i in_i clear here)
  where
    step : (xs : List A) (i : ℕ) → i < length xs → find p (take i xs) ≡ None → p (get_or xs i d) ≡ false → find p (take (suc i) xs) ≡ None
    step [] i h clear here = absurd (omega arith)
    step (x ∷ xs) zero h clear here = rw here refl
    step (x ∷ xs) (suc i) h clear here = by (p x) refl clear (λ rest. step xs i (omega arith) rest here)
      where
        by : (b : Bool) → p x ≡ b → cond b (Some x) (find p (take i xs)) ≡ None → (find p (take i xs) ≡ None → find p (take (suc i) xs) ≡ None) → cond b (Some x) (find p (take (suc i) xs)) ≡ None
        by true e found rest = absurd (none-some x (sym found))
        by false e found rest = rest found

pub find_here : {A : Type 0} (p : A → Bool) (xs : List A) (i : ℕ) (d : A) → i < length xs → find p (take i xs) ≡ None → p (get_or xs i d) ≡ true → find p xs ≡ Some (get_or xs i d)
find_here p [] i d h clear here = absurd (omega arith)
find_here p (x ∷ xs) zero d h clear here = rw here refl
find_here p (x ∷ xs) (suc i) d h clear here = by (p x) refl clear (λ rest. find_here p xs i d (omega arith) rest here)
  where
    by : (b : Bool) → p x ≡ b → cond b (Some x) (find p (take i xs)) ≡ None → (find p (take i xs) ≡ None → find p xs ≡ Some (get_or xs i d)) → cond b (Some x) (find p xs) ≡ Some (get_or xs i d)
    by true e found rest = absurd (none-some x (sym found))
    by false e found rest = rest found

-- the same, by what the items before it say
pub find_first : {A : Type 0} (p : A → Bool) (xs : List A) (n : ℕ) (d : A) → n < length xs → ((i : ℕ) → i < n → p (get_or xs i d) ≡ false) → p (get_or xs n d) ≡ true → find p xs ≡ Some (get_or xs n d)
find_first p [] n d h low here = absurd (omega arith)
find_first p (x ∷ xs) zero d h low here = rw here refl
find_first p (x ∷ xs) (suc n) d h low here = rw (low zero (omega arith)) (find_first p xs n d (omega arith) (λ i lt. low (suc i) (omega arith)) here)

pub find_nowhere : {A : Type 0} (p : A → Bool) (xs : List A) (d : A) → ((i : ℕ) → i < length xs → p (get_or xs i d) ≡ false) → find p xs ≡ None
find_nowhere p [] d none = refl
find_nowhere p (x ∷ xs) d none = rw (none zero (omega arith)) (find_nowhere p xs d (λ i lt. none (suc i) (omega arith)))

-- ---- the first item that isn't above the one before it

pub fall_more : {A : Type 0} (order : A → A → Ordering) (n : ℕ) (xs : List A) (i : ℕ) (d : A) → suc i < length xs
    → first_fall order n (take (suc i) xs) ≡ None → is_lt (order (get_or xs i d) (get_or xs (suc i) d)) ≡ true → first_fall order n (take (suc (suc i)) xs) ≡ None
fall_more order n [] i d h clear here = absurd (omega arith)
fall_more order n (x ∷ []) i d h clear here = absurd (omega arith)
fall_more order n (x ∷ y ∷ ys) zero d h clear here = rw here refl
fall_more order n (x ∷ y ∷ ys) (suc i) d h clear here =
    by (is_lt (order x y)) refl clear (λ rest. fall_more order (n + 1) (y ∷ ys) i d (omega arith) rest here)
  where
    by : (b : Bool) → is_lt (order x y) ≡ b → cond b (first_fall order (n + 1) (y ∷ take i ys)) (Some (n + 1, y)) ≡ None
        → (first_fall order (n + 1) (y ∷ take i ys) ≡ None → first_fall order (n + 1) (y ∷ take (suc i) ys) ≡ None)
        → cond b (first_fall order (n + 1) (y ∷ take (suc i) ys)) (Some (n + 1, y)) ≡ None
    by true e found rest = rest found
    by false e found rest = absurd (none-some (n + 1, y) (sym found))

pub fall_here : {A : Type 0} (order : A → A → Ordering) (n : ℕ) (xs : List A) (i : ℕ) (d : A) → suc i < length xs
    → first_fall order n (take (suc i) xs) ≡ None → is_lt (order (get_or xs i d) (get_or xs (suc i) d)) ≡ false → first_fall order n xs ≡ Some (n + suc i, get_or xs (suc i) d)
fall_here order n [] i d h clear here = absurd (omega arith)
fall_here order n (x ∷ []) i d h clear here = absurd (omega arith)
fall_here order n (x ∷ y ∷ ys) zero d h clear here = rw here refl
fall_here order n (x ∷ y ∷ ys) (suc i) d h clear here =
    by (is_lt (order x y)) refl clear (λ rest. fall_here order (n + 1) (y ∷ ys) i d (omega arith) rest here)
  where
    by : (b : Bool) → is_lt (order x y) ≡ b → cond b (first_fall order (n + 1) (y ∷ take i ys)) (Some (n + 1, y)) ≡ None
        → (first_fall order (n + 1) (y ∷ take i ys) ≡ None → first_fall order (n + 1) (y ∷ ys) ≡ Some ((n + 1) + suc i, get_or (y ∷ ys) (suc i) d))
        → cond b (first_fall order (n + 1) (y ∷ ys)) (Some (n + 1, y)) ≡ Some (n + suc (suc i), get_or (y ∷ ys) (suc i) d)
    by true e found rest =
        let place : (n + 1) + suc i ≡ n + suc (suc i) = omega arith in
        rest found ∙ ap (λ k. Some (k, get_or (y ∷ ys) (suc i) d)) place
    by false e found rest = absurd (none-some (n + 1, y) (sym found))
