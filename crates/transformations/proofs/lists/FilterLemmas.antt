-- The items of a list that pass a test, where the list changes.
use Rattle.std.proofs.Common.{◌≡◌, Bool, true, false, cond, true≢false, ◌&&◌, ◌||◌, List, [], ◌∷◌, ◌++◌, filter, length, nat_le, refl, sym, ap, ◌∙◌, arith}
use Rattle.std.proofs.lemmas.Bool.Decides.{nat_tests}
use Rattle.std.proofs.lemmas.Map.Keys.{IsDistinct-head, IsDistinct-tail}
use Rattle.std.specs.List.{AllByRecursion, IsDistinct, list_any}
use Rattle.std.specs.Ordering.{eq_by_cmp, is_eq, match_ordering}
use Rattle.std.specs.declared.cmp.Ordering.{Ordering}
use Rattle.std.specs.declared.cmp.Ordering.TheVariants.{Less, Equal, Greater}
use Rattle.cluster_terms.proofs.lists.AscendingLemmas.{All-put_all}
use Rattle.cluster_terms.specs.Ascending.{put, put_all}
use Rattle.transformations.proofs.lists.ListLemmas.{IsPart, dropped, kept, nothing, part_all_of, part_back, part_front}

-- tests that agree at each item
pub filter_alike : {X : Type 0} (p q : X → Bool) (xs : List X) → AllByRecursion (λ x. p x ≡ q x) xs → filter p xs ≡ filter q xs
filter_alike p q [] all = refl
filter_alike p q (x ∷ xs) all = λ i. cond (all.0 i) (x ∷ filter_alike p q xs all.1 i) (filter_alike p q xs all.1 i)

-- a test that passes less than one before it
pub filter_twice : {X : Type 0} (p q : X → Bool) (xs : List X) → ((x : X) → p x ≡ true → q x ≡ true) → filter p (filter q xs) ≡ filter p xs
filter_twice p q [] less = refl
filter_twice p q (x ∷ xs) less = by (q x) refl (p x) refl (filter_twice p q xs less)
  where
    by : (a : Bool) → q x ≡ a → (b : Bool) → p x ≡ b → filter p (filter q xs) ≡ filter p xs → filter p (cond a (x ∷ filter q xs) (filter q xs)) ≡ cond b (x ∷ filter p xs) (filter p xs)
    by true e b f rest = λ i. cond (f i) (x ∷ rest i) (rest i)
    by false e false f rest = rest
    by false e true f rest = absurd (true≢false (sym (less x f) ∙ e))

-- two tests, one after the other
pub filter_both : {X : Type 0} (p q : X → Bool) (xs : List X) → filter p (filter q xs) ≡ filter (λ x. q x && p x) xs
filter_both p q [] = refl
filter_both p q (x ∷ xs) = by (q x) (filter_both p q xs)
  where
    by : (a : Bool) → filter p (filter q xs) ≡ filter (λ x. q x && p x) xs → filter p (cond a (x ∷ filter q xs) (filter q xs)) ≡ cond (a && p x) (x ∷ filter (λ x. q x && p x) xs) (filter (λ x. q x && p x) xs)
    by true rest = ap (λ l. cond (p x) (x ∷ l) l) rest
    by false rest = rest

-- of some of the items, no other ones pass
pub part_filtered : {X : Type 0} (p : X → Bool) {xs ys : List X} → IsPart xs ys → IsPart (filter p xs) (filter p ys)
part_filtered p nothing = nothing
part_filtered p (kept {x} {xs} {ys} part) = by (p x) (part_filtered p part)
  where
    by : (b : Bool) → IsPart (filter p xs) (filter p ys) → IsPart (cond b (x ∷ filter p xs) (filter p xs)) (cond b (x ∷ filter p ys) (filter p ys))
    by true rest = kept rest
    by false rest = rest
part_filtered p (dropped {y} {xs} {ys} part) = by (p y) (part_filtered p part)
  where
    by : (b : Bool) → IsPart (filter p xs) (filter p ys) → IsPart (filter p xs) (cond b (y ∷ filter p ys) (filter p ys))
    by true rest = dropped rest
    by false rest = rest

-- an item that doesn't pass is put in
pub filter_put : {X : Type 0} (r : X → X → Ordering) (p : X → Bool) (x : X) (ys : List X) → p x ≡ false → AllByRecursion (λ y. eq_by_cmp r x y ≡ false) ys → filter p (put r x ys) ≡ filter p ys
filter_put r p x [] other all = ap (λ b. cond b (x ∷ []) []) other
filter_put r p x (y ∷ ys) other all = by (r x y) all.0 (filter_put r p x ys other all.1)
  where
    by : (o : Ordering) → is_eq o ≡ false → filter p (put r x ys) ≡ filter p ys → filter p (match_ordering o (x ∷ (y ∷ ys)) (x ∷ ys) (y ∷ put r x ys)) ≡ filter p (y ∷ ys)
    by Less e rest = ap (λ b. cond b (x ∷ filter p (y ∷ ys)) (filter p (y ∷ ys))) other
    by Equal e rest = absurd (true≢false e)
    by Greater e rest = ap (λ l. cond (p y) (y ∷ l) l) rest

pub filter_put_all : {X : Type 0} (r : X → X → Ordering) (p : X → Bool) (xs ys : List X) → AllByRecursion (λ x. p x ≡ false) xs → IsDistinct (eq_by_cmp r) (xs ++ ys) → filter p (put_all r xs ys) ≡ filter p ys
filter_put_all r p [] ys none d = refl
filter_put_all {X} r p (x ∷ xs) ys none d =
    let P : X → Type 0 = λ y. eq_by_cmp r x y ≡ false in
    let apart : AllByRecursion P (xs ++ ys) = IsDistinct-head (eq_by_cmp r) x (xs ++ ys) d in
    let all : AllByRecursion P (put_all r xs ys) = All-put_all r P xs ys (part_all_of P (part_front xs ys) apart) (part_all_of P (part_back xs ys) apart) in
    filter_put r p x (put_all r xs ys) none.0 all ∙ filter_put_all r p xs ys none.1 (IsDistinct-tail (eq_by_cmp r) x (xs ++ ys) d)

-- some item passes where there is one that does
pub any_counted : {X : Type 0} (p : X → Bool) (xs : List X) → list_any p xs ≡ nat_le 1 (length (filter p xs))
any_counted p [] = refl
any_counted p (x ∷ xs) = by (p x) (any_counted p xs)
  where
    by : (b : Bool) → list_any p xs ≡ nat_le 1 (length (filter p xs)) → (b || list_any p xs) ≡ nat_le 1 (length (cond b (x ∷ filter p xs) (filter p xs)))
    by true rest = grind (arith, nat_tests)
    by false rest = rest

pub any_as_filter : {X : Type 0} (p : X → Bool) (xs ys : List X) → filter p xs ≡ filter p ys → list_any p xs ≡ list_any p ys
any_as_filter p xs ys same = any_counted p xs ∙ ap (λ l. nat_le 1 (length l)) same ∙ sym (any_counted p ys)
