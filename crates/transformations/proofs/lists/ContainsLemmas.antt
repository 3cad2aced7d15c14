-- The items of a list: what holds of each of them, and where they are once an item is put in or some are left out.
use Rattle.std.proofs.Common.{◌≡◌, ℕ, zero, suc, ◌<◌, Bool, true, false, true≢false, cond, List, [], ◌∷◌, filter, get_or, length, ◌⊎◌, inl, inr, refl, sym, ap, ◌∙◌, arith}
use Rattle.std.proofs.lemmas.List.Elements.{All-contains, All-from_recursion, Contains-get_or, recursion_from_All}
use Rattle.std.specs.List.{AllByRecursion, Contains}
use Rattle.std.specs.Ordering.{is_eq, match_ordering}
use Rattle.std.specs.declared.cmp.Ordering.{Ordering}
use Rattle.std.specs.declared.cmp.Ordering.TheVariants.{Less, Equal, Greater}
use Rattle.cluster_terms.specs.Ascending.{put}

-- ---- what holds of each item

pub holds_of : {X : Type 0} (P : X → Type 0) (xs : List X) (x : X) → AllByRecursion P xs → Contains xs x → P x
holds_of P xs x all there = All-contains P xs x (All-from_recursion P xs all) there

pub all_contained : {X : Type 0} (P : X → Type 0) (xs : List X) → ((x : X) → Contains xs x → P x) → AllByRecursion P xs
all_contained P xs each = recursion_from_All P xs (λ i d within. each (get_or xs i d) (Contains-get_or xs i d within))

-- ---- the first item and the others

pub first_contained : {X : Type 0} (y : X) (ys : List X) (x : X) → y ≡ x → Contains (y ∷ ys) x
first_contained y ys x is = (0, omega arith, is)

pub later_contained : {X : Type 0} (y : X) (ys : List X) (x : X) → Contains ys x → Contains (y ∷ ys) x
later_contained y ys x (k, within, is) = (suc k, omega (arith, within), is)

first_or_later : {X : Type 0} (y : X) (ys : List X) (x : X) → Contains (y ∷ ys) x → (y ≡ x) ⊎ Contains ys x
first_or_later {X} y ys x (k, within, is) = by k within is
  where
    by : (k : ℕ) → k < length (y ∷ ys) → get_or (y ∷ ys) k x ≡ x → (y ≡ x) ⊎ Contains ys x
    by zero within is = inl is
    by (suc k) within is = inr (k, omega (arith, within), is)

none_contained : {X : Type 0} (x : X) → Contains [] x → ⊥
none_contained x (k, within, is) = omega (arith, within)

-- ---- lists with an item put in, or with some left out

-- an item stays where another is put in that isn't equal to it
pub contains_put : {X : Type 0} (r : X → X → Ordering) (x : X) (ys : List X) (y : X) → Contains ys y → is_eq (r x y) ≡ false → Contains (put r x ys) y
contains_put r x [] y there other = absurd (none_contained y there)
contains_put r x (z ∷ ys) y there other = by (r x z) refl (first_or_later z ys y there) (contains_put r x ys y)
  where
    by : (o : Ordering) → r x z ≡ o → (z ≡ y) ⊎ Contains ys y → (Contains ys y → is_eq (r x y) ≡ false → Contains (put r x ys) y)
        → Contains (match_ordering o (x ∷ (z ∷ ys)) (x ∷ ys) (z ∷ put r x ys)) y
    by Less e at rest = later_contained x (z ∷ ys) y there
    by Equal e (inl is) rest = absurd (true≢false (sym (ap is_eq e) ∙ ap (λ w. is_eq (r x w)) is ∙ other))
    by Equal e (inr more) rest = later_contained x ys y more
    by Greater e (inl is) rest = first_contained z (put r x ys) y is
    by Greater e (inr more) rest = later_contained z (put r x ys) y (rest more other)

-- and where those stay that pass a test, if it passes
pub contains_filter : {X : Type 0} (p : X → Bool) (xs : List X) (x : X) → Contains xs x → p x ≡ true → Contains (filter p xs) x
contains_filter p [] x there passes = there
contains_filter p (y ∷ ys) x there passes = by (p y) refl (first_or_later y ys x there) (contains_filter p ys x)
  where
    by : (b : Bool) → p y ≡ b → (y ≡ x) ⊎ Contains ys x → (Contains ys x → p x ≡ true → Contains (filter p ys) x) → Contains (cond b (y ∷ filter p ys) (filter p ys)) x
    by true e (inl is) rest = first_contained y (filter p ys) x is
    by true e (inr more) rest = later_contained y (filter p ys) x (rest more passes)
    by false e (inl is) rest = absurd (true≢false (sym passes ∙ sym (ap p is) ∙ e))
    by false e (inr more) rest = rest more passes
