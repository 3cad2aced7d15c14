-- The last tokens of the rows between cuts: from each token on there is one up to which no cut lies, that of its row.
use Rattle.std.proofs.Common.{◌≡◌, Bool, true, false, if◌then◌else◌, ℤ, ◌≤ℤ◌, int_lt, int_le, List, [], ◌∷◌, Option, Some, None, refl, arith}
use Rattle.std.proofs.lemmas.Bool.{and_parts}
use Rattle.std.proofs.lemmas.Int.{ints}
use Rattle.std.proofs.lemmas.Map.Keys.{sorted_head, sorted_tail}
use Rattle.std.specs.List.{AllByRecursion}
use Rattle.std.specs.List.Sorted.{IsStrictlySortedBy}
use Rattle.std.specs.Ordering.{int_cmp}
use Rattle.std.specs.declared.cmp.Ordering.TheVariants.{Less}
use Rattle.cluster_terms.proofs.rows.RowLemmas.{past_cuts, past_more, upto_last}
use Rattle.cluster_terms.specs.Arc.{greatest_token, in_arc}
use Rattle.cluster_terms.specs.Row.{is_last, is_past, is_within, last_token, rows_between, rows_from}
use Rattle.cluster_terms.specs.declared.row.TokenRange.{TokenRange}
use Rattle.cluster_terms.specs.declared.token.RightEnd.TheVariants.{At, Max}
use Rattle.transformations.proofs.lists.ListLemmas.{all_each, all_pi, all_weaker}

-- a place at x or past it, of which something holds, with no cut from x up to it
pub record HasEnd (Q : ℤ → Type 0) (cuts : List ℤ) (x : ℤ) : Type 0 where
  pub last : ℤ
  pub upto : x ≤ℤ last
  pub clear : AllByRecursion (λ t. in_arc x last t ≡ false) cuts
  pub holds : Q last

-- cuts past a place lie in no arc that ends there
cuts_past : (x w : ℤ) (cuts : List ℤ) → x ≤ℤ w → AllByRecursion (λ t. int_cmp w t ≡ Less) cuts → AllByRecursion (λ t. in_arc x w t ≡ false) cuts
cuts_past x w [] le below = tt
cuts_past x w (t ∷ cuts) le below = (grind (arith, ints, below.0), cuts_past x w cuts le below.1)

-- a token past a left end is left there
some_left : (left : Option ℤ) (x : ℤ) → x ≤ℤ greatest_token → is_past left x ≡ true → is_last left ≡ false
some_left None x le past = refl
some_left (Some left) x le past = grind (arith, ints)

module _ (Q : ℤ → Type 0) (x : ℤ) (le : x ≤ℤ greatest_token) where
  end_from : (left : Option ℤ) (cuts : List ℤ) → IsStrictlySortedBy int_cmp cuts → is_past left x ≡ true
      → AllByRecursion (λ (row : TokenRange). Q (last_token row.right)) (rows_from left cuts) → HasEnd Q cuts x
  end_from left [] up past all = record { last = greatest_token; upto = le; clear = tt; holds = (rw (some_left left x le past) at all).0 }
  end_from left (cut ∷ cuts) up past all =
      by (int_le x cut) refl (λ later. end_from (Some cut) cuts (sorted_tail int_cmp cut cuts up) later all.1)
    where
      by : (b : Bool) → int_le x cut ≡ b → (int_lt cut x ≡ true → HasEnd Q cuts x) → HasEnd Q (cut ∷ cuts) x
      by true e rest =
          let upto : x ≤ℤ cut = grind (arith, ints) in
          record { last = cut; upto = upto; clear = (grind (arith, ints), cuts_past x cut cuts upto (sorted_head int_cmp cut cuts up)); holds = all.0 }
      by false e rest =
          let r = rest (grind (arith, ints)) in
          record { last = r.last; upto = r.upto; clear = (missed r.last r.upto e, r.clear); holds = r.holds }
        where
          missed : (w : ℤ) → x ≤ℤ w → int_le x cut ≡ false → in_arc x w cut ≡ false
          missed w upto past = grind (arith, ints)

  -- what holds of the last token of each row holds of one up to which no cut lies
  pub end_of : (cuts : List ℤ) → IsStrictlySortedBy int_cmp cuts → AllByRecursion (λ (row : TokenRange). Q (last_token row.right)) (rows_between cuts) → HasEnd Q cuts x
  end_of cuts up all = end_from None cuts up refl all

-- ---- from a token of a row up to the row's last token

-- a place at x or past it, with no cut from x up to it
pub record IsUpTo (cuts : List ℤ) (x last : ℤ) : Type 0 where
  pub upto : x ≤ℤ last
  pub clear : AllByRecursion (λ t. in_arc x last t ≡ false) cuts

module _ (x : ℤ) where
  -- the rows that have x from a left end on, which x is past
  record IsRowUpTo (left : Option ℤ) (cuts : List ℤ) (row : TokenRange) : Type 0 where
    past : is_past left x ≡ true
    ends : IsUpTo cuts x (last_token row.right)

  -- what follows of a row past the first cut
  beyond : (left : Option ℤ) (cut : ℤ) (cuts : List ℤ) → is_past left cut ≡ true → (row : TokenRange) → IsRowUpTo (Some cut) cuts row → IsRowUpTo left (cut ∷ cuts) row
  beyond left cut cuts past row r = record {
    past = past_more left cut x past r.past;
    ends = record { upto = r.ends.upto; clear = (missed (last_token row.right) r.ends.upto r.past, r.ends.clear) };
  }
    where
      missed : (w : ℤ) → x ≤ℤ w → int_lt cut x ≡ true → in_arc x w cut ≡ false
      missed w upto past = grind (arith, ints)

  rows_upto_from : (left : Option ℤ) (cuts : List ℤ) → IsStrictlySortedBy int_cmp cuts → AllByRecursion (λ t. is_past left t ≡ true) cuts
      → AllByRecursion (λ (row : TokenRange). is_within x row ≡ true → IsRowUpTo left cuts row) (rows_from left cuts)
  rows_upto_from left [] up past = by (is_last left)
    where
      by : (b : Bool) → AllByRecursion (λ (row : TokenRange). is_within x row ≡ true → IsRowUpTo left [] row) (if b then [] else (record { left = left; right = Max }) ∷ [])
      by true = tt
      by false = (λ within. record { past = (and_parts (is_past left x) (int_le x greatest_token) within).0; ends = record { upto = upto_last x (record { left = left; right = Max }) within; clear = tt } }, tt)
  rows_upto_from left (cut ∷ cuts) up past = (
    λ within.
        let upto : x ≤ℤ cut = upto_last x (record { left = left; right = At cut }) within in
        record { past = (and_parts (is_past left x) (int_le x cut) within).0; ends = record { upto = upto; clear = (itself upto, cuts_past x cut cuts upto (sorted_head int_cmp cut cuts up)) } },
    all_weaker (λ (row : TokenRange). is_within x row ≡ true → IsRowUpTo (Some cut) cuts row) (λ (row : TokenRange). is_within x row ≡ true → IsRowUpTo left (cut ∷ cuts) row)
        (λ row ends within. beyond left cut cuts past.0 row (ends within)) (rows_from (Some cut) cuts)
        (rows_upto_from (Some cut) cuts (sorted_tail int_cmp cut cuts up) (past_cuts cut cuts (sorted_head int_cmp cut cuts up))),
  )
    where
      itself : x ≤ℤ cut → in_arc x cut cut ≡ false
      itself upto = grind (arith, ints)

-- no cut lies from a token of a row between ascending cuts up to the row's last token
pub rows_upto : (cuts : List ℤ) → IsStrictlySortedBy int_cmp cuts → AllByRecursion (λ (row : TokenRange). (x : ℤ) → is_within x row ≡ true → IsUpTo cuts x (last_token row.right)) (rows_between cuts)
rows_upto cuts up =
    all_pi (λ (x : ℤ) (row : TokenRange). is_within x row ≡ true → IsUpTo cuts x (last_token row.right)) (rows_between cuts)
    (λ x. all_weaker (λ (row : TokenRange). is_within x row ≡ true → IsRowUpTo x None cuts row) (λ (row : TokenRange). is_within x row ≡ true → IsUpTo cuts x (last_token row.right))
    (λ row ends within. (ends within).ends) (rows_between cuts) (rows_upto_from x None cuts up (all_each (λ t. is_past None t ≡ true) (λ t. refl) cuts)))
