-- Gained nodes that are paired with lost ones.
use Rattle.std.proofs.Common.{◌≡◌, ℕ, ◌-◌, Bool, true, false, ◌||◌, cond, nat_eq, List, [], ◌∷◌, length, Some, None, refl, sym, ap, ◌∙◌, arith}
use Rattle.std.proofs.lemmas.Bool.{false≢true, or_left, or_right}
use Rattle.std.proofs.lemmas.Map.Views.{exact_unsigned_eq}
use Rattle.std.specs.Cmp.{nat_eq_equiv}
use Rattle.std.specs.List.{AllByRecursion, IsDistinct}
use Rattle.cluster_terms.proofs.placement.GroupLemmas.{has}
use Rattle.stream_plan.specs.Sources.{paired}

-- the gained nodes for which there are too few lost ones
abbrev pub unpaired : List ℕ → List ℕ → List ℕ
unpaired [] lost = []
unpaired (g ∷ gained) [] = g ∷ gained
unpaired (g ∷ gained) (l ∷ lost) = unpaired gained lost

pub unpaired_count : (gained lost : List ℕ) → length (unpaired gained lost) ≡ length gained - length lost
unpaired_count [] lost = omega arith
unpaired_count (g ∷ gained) [] = omega arith
unpaired_count (g ∷ gained) (l ∷ lost) = (let rest = unpaired_count gained lost in omega arith)

-- a node that is paired is gained, and what it is paired with is lost
pub paired_gained : (gained lost : List ℕ) (n s : ℕ) → paired gained lost n ≡ Some s → has gained n ≡ true
paired_gained [] lost n s e = absurd (cc)
paired_gained (g ∷ gained) [] n s e = absurd (cc)
paired_gained (g ∷ gained) (l ∷ lost) n s e = by (nat_eq n g) e (paired_gained gained lost n s)
  where
    by : (b : Bool) → cond b (Some l) (paired gained lost n) ≡ Some s → (paired gained lost n ≡ Some s → has gained n ≡ true) → (b || has gained n) ≡ true
    by true e more = refl
    by false e more = more e

pub paired_lost : (gained lost : List ℕ) (n s : ℕ) → paired gained lost n ≡ Some s → has lost s ≡ true
paired_lost [] lost n s e = absurd (cc)
paired_lost (g ∷ gained) [] n s e = absurd (cc)
paired_lost (g ∷ gained) (l ∷ lost) n s e = by (nat_eq n g) e (paired_lost gained lost n s)
  where
    by : (b : Bool) → cond b (Some l) (paired gained lost n) ≡ Some s → (paired gained lost n ≡ Some s → has lost s ≡ true) → (nat_eq s l || has lost s) ≡ true
    by true e more =
        let same : l ≡ s = cc in
        or_left (nat_eq s l) (has lost s) (ap (λ m. nat_eq m l) (sym same) ∙ nat_eq_equiv.refl l)
    by false e more = or_right (nat_eq s l) (has lost s) (more e)

-- a gained node that isn't paired is one of those for which there are too few
pub paired_none : (gained lost : List ℕ) (n : ℕ) → paired gained lost n ≡ None → has gained n ≡ true → has (unpaired gained lost) n ≡ true
paired_none [] lost n e there = there
paired_none (g ∷ gained) [] n e there = there
paired_none (g ∷ gained) (l ∷ lost) n e there = by (nat_eq n g) e there (paired_none gained lost n)
  where
    by : (b : Bool) → cond b (Some l) (paired gained lost n) ≡ None → (b || has gained n) ≡ true → (paired gained lost n ≡ None → has gained n ≡ true → has (unpaired gained lost) n ≡ true) → has (unpaired gained lost) n ≡ true
    by true e there more = absurd (cc)
    by false e there more = more e there

-- no node is among nodes that are all different from it
pub not_among : (l s : ℕ) (lost : List ℕ) → l ≡ s → AllByRecursion (λ m. nat_eq l m ≡ false) lost → has lost s ≡ false
not_among l s [] same apart = refl
not_among l s (m ∷ lost) same apart = (λ i. (ap (λ k. nat_eq k m) (sym same) ∙ apart.0) i || not_among l s lost same apart.1 i)

-- different nodes are paired with different ones
pub paired_once : (gained lost : List ℕ) (n m s : ℕ) → IsDistinct nat_eq lost → paired gained lost n ≡ Some s → paired gained lost m ≡ Some s → n ≡ m
unfolding IsDistinct
paired_once [] lost n m s apart e f = absurd (cc)
paired_once (g ∷ gained) [] n m s apart e f = absurd (cc)
paired_once (g ∷ gained) (l ∷ lost) n m s apart e f =
    by (nat_eq n g) (nat_eq m g) refl refl e f (paired_once gained lost n m s apart.1)
  where
    twice : (k : ℕ) → Some l ≡ Some s → paired gained lost k ≡ Some s → ⊥
    twice k here there =
        let same : l ≡ s = cc in false≢true (sym (not_among l s lost same apart.0) ∙ paired_lost gained lost k s there)

    by : (b c : Bool) → nat_eq n g ≡ b → nat_eq m g ≡ c → cond b (Some l) (paired gained lost n) ≡ Some s → cond c (Some l) (paired gained lost m) ≡ Some s
        → (paired gained lost n ≡ Some s → paired gained lost m ≡ Some s → n ≡ m) → n ≡ m
    by true true p q e f more = exact_unsigned_eq n g p ∙ sym (exact_unsigned_eq m g q)
    by true false p q e f more = absurd (twice m e f)
    by false true p q e f more = absurd (twice n f e)
    by false false p q e f more = more e f
