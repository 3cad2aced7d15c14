-- Fronts of lists: a longer list has the same front.
use Rattle.std.proofs.Common.{◌≡◌, ℕ, ◌+◌, ◌-◌, ◌≤◌, List, [], ◌∷◌, ◌++◌, drop, length, take, Some, refl, sym, ap, ◌∙◌, subst, append_assoc, append-nil, arith, length-append}
use Rattle.std.proofs.Math.Seq.{drop-append_seam, take-append-add, take-append_seam}
use Rattle.std.proofs.lemmas.List.{take-append-drop}
use Rattle.std.proofs.lemmas.Option.{get_or_from_slice_get, slice_get_within}
use Rattle.std.specs.List.{AllByRecursion, Contains, slice_get}

-- xs is a front of ys
pub record Front {X : Type 0} (xs ys : List X) : Type 0 where
  pub more : List X
  pub is : ys ≡ xs ++ more

module _ {X : Type 0} where
  pub front_same : (xs : List X) → Front xs xs
  front_same xs = record { more = []; is = sym (append-nil xs) }

  pub front_with : (xs more : List X) → Front xs (xs ++ more)
  front_with xs more = record { more = more; is = refl }

  pub front_on : (xs ys more : List X) → Front xs ys → Front xs (ys ++ more)
  front_on xs ys more front = record { more = front.more ++ more; is = ap (λ l. l ++ more) front.is ∙ append_assoc xs front.more more }

  pub front_then : (xs ys zs : List X) → Front xs ys → Front ys zs → Front xs zs
  front_then xs ys zs one two = subst (Front xs) (sym two.is) (front_on xs ys two.more one)

  pub front_taken : (n : ℕ) (xs : List X) → Front (take n xs) xs
  front_taken n xs = record { more = drop n xs; is = sym (take-append-drop n xs) }

  pub front_short : (xs ys : List X) → Front xs ys → length xs ≤ length ys
  front_short xs ys front = omega (arith, ap length front.is, length-append xs front.more)

  pub take_front : (xs ys : List X) → Front xs ys → take (length xs) ys ≡ xs
  take_front xs ys front = ap (take (length xs)) front.is ∙ take-append_seam xs front.more

  -- a front as long as the list is the list
  pub front_whole : (xs ys : List X) → Front xs ys → length xs ≡ length ys → xs ≡ ys
  front_whole xs ys front same = by front.more front.is
    where
      by : (more : List X) → ys ≡ xs ++ more → xs ≡ ys
      by [] is = sym (is ∙ append-nil xs)
      by (x ∷ more) is = absurd (omega (arith, ap length is, length-append xs (x ∷ more)))

  -- a front, and the lines from its end up to a place, are a front
  pub front_then_rest : (xs ys : List X) (n : ℕ) → Front xs ys → length xs ≤ n → xs ++ drop (length xs) (take n ys) ≡ take n ys
  front_then_rest xs ys n front within =
      let rest : ℕ = n - length xs in
      let same : n ≡ length xs + rest = omega arith in
      let taken : take n ys ≡ xs ++ take rest front.more =
      (λ i. take (same i) (front.is i)) ∙ take-append-add xs front.more rest in
      ap (λ l. xs ++ drop (length xs) l) taken ∙ ap (λ l. xs ++ l) (drop-append_seam xs (take rest front.more)) ∙ sym taken

  -- what holds of each element holds of those of a front
  pub all_first : (P : X → Type 0) (xs ys : List X) → AllByRecursion P (xs ++ ys) → AllByRecursion P xs
  all_first P [] ys all = tt
  all_first P (x ∷ xs) ys all = (all.0, all_first P xs ys all.1)

  pub all_last : (P : X → Type 0) (xs ys : List X) → AllByRecursion P (xs ++ ys) → AllByRecursion P ys
  all_last P [] ys all = all
  all_last P (x ∷ xs) ys all = all_last P xs ys all.1

  pub all_front : (P : X → Type 0) (xs ys : List X) → Front xs ys → AllByRecursion P ys → AllByRecursion P xs
  all_front P xs ys front all = all_first P xs front.more (subst (AllByRecursion P) front.is all)

  pub contained_at : (xs : List X) (i : ℕ) (x : X) → slice_get xs i ≡ Some x → Contains xs x
  contained_at xs i x at = (i, slice_get_within xs i x at, get_or_from_slice_get xs i x x at)
