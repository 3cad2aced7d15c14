-- The tokens at which ranges begin and end, in ascending order.
use Rattle.std.proofs.Common.{◌≡◌, true, ℤ, List, [], ◌∷◌, ◌++◌, Option, Some, None, refl, ap, ◌∙◌}
use Rattle.std.specs.Ordering.{int_eq}
use Rattle.std.specs.Set.{is_member}
use Rattle.std.proofs.lemmas.Bool.{and_from, and_parts, or_left, or_right}
use Rattle.std.proofs.lemmas.Bool.Decides.{Decides-int_eq}
use Rattle.std.proofs.lemmas.List.Folds.{list_any-append}
use Rattle.cluster_terms.specs.declared.row.TokenRange.{TokenRange}
use Rattle.cluster_terms.specs.declared.token.RightEnd.{RightEnd}
use Rattle.cluster_terms.specs.declared.token.RightEnd.TheVariants.{At, Max}
use Rattle.token_ring.specs.Bounds.{left_bound, right_bound, bounds_of}
use Rattle.token_ring.specs.TokenRanges.{is_cut_left, is_cut_right, AreCutOut}

member_first : (t : ℤ) (xs : List ℤ) → is_member int_eq (t ∷ xs) t ≡ true
member_first t xs = or_left (int_eq t t) (is_member int_eq xs t) ((Decides-int_eq t t).1 refl)

-- ranges that are cut out by some cuts are cut out where these are all among others
out_left : (cuts others : List ℤ) → ((t : ℤ) → is_member int_eq cuts t ≡ true → is_member int_eq others t ≡ true) → (left : Option ℤ) → is_cut_left cuts left ≡ true → is_cut_left others left ≡ true
out_left cuts others among None out = refl
out_left cuts others among (Some left) out = among left out

out_right : (cuts others : List ℤ) → ((t : ℤ) → is_member int_eq cuts t ≡ true → is_member int_eq others t ≡ true) → (right : RightEnd) → is_cut_right cuts right ≡ true → is_cut_right others right ≡ true
out_right cuts others among (At right) out = among right out
out_right cuts others among Max out = refl

pub out_more : (cuts others : List ℤ) → ((t : ℤ) → is_member int_eq cuts t ≡ true → is_member int_eq others t ≡ true) → (ranges : List TokenRange) → AreCutOut cuts ranges → AreCutOut others ranges
out_more cuts others among [] out = tt
out_more cuts others among (range ∷ ranges) out =
    let parts = and_parts (is_cut_left cuts range.left) (is_cut_right cuts range.right) out.0 in
    (and_from (is_cut_left others range.left) (is_cut_right others range.right) (out_left cuts others among range.left parts.0) (out_right cuts others among range.right parts.1), out_more cuts others among ranges out.1)

member_left : (xs ys : List ℤ) (t : ℤ) → is_member int_eq xs t ≡ true → is_member int_eq (xs ++ ys) t ≡ true
member_left xs ys t h = list_any-append (int_eq t) xs ys ∙ or_left (is_member int_eq xs t) (is_member int_eq ys t) h

member_right : (xs ys : List ℤ) (t : ℤ) → is_member int_eq ys t ≡ true → is_member int_eq (xs ++ ys) t ≡ true
member_right xs ys t h = list_any-append (int_eq t) xs ys ∙ or_right (is_member int_eq xs t) (is_member int_eq ys t) h

at_left : (left : Option ℤ) (rest : List ℤ) → is_cut_left (left_bound left ++ rest) left ≡ true
at_left None rest = refl
at_left (Some left) rest = member_first left rest

at_right : (right : RightEnd) → is_cut_right (right_bound right) right ≡ true
at_right (At right) = member_first right []
at_right Max = refl

-- ranges are cut out by the tokens at which they begin and end
pub out_of_bounds : (ranges : List TokenRange) → AreCutOut (bounds_of ranges) ranges
out_of_bounds [] = tt
out_of_bounds (range ∷ ranges) = (
  and_from (is_cut_left all range.left) (is_cut_right all range.right)
      (out_left (left_bound range.left ++ right_bound range.right) all (member_left (left_bound range.left ++ right_bound range.right) (bounds_of ranges)) range.left (at_left range.left (right_bound range.right)))
      (out_right (right_bound range.right) all (λ t h. member_left (left_bound range.left ++ right_bound range.right) (bounds_of ranges) t (member_right (left_bound range.left) (right_bound range.right) t h)) range.right (at_right range.right)),
  out_more (bounds_of ranges) all (member_right (left_bound range.left ++ right_bound range.right) (bounds_of ranges)) ranges (out_of_bounds ranges),
)
  where
    all : List ℤ
    all = left_bound range.left ++ right_bound range.right ++ bounds_of ranges

-- the bounds of two lists in another order cut out both
pub out_of_both : (one other : List TokenRange) (bounds cuts : List ℤ) → bounds ≡ bounds_of one ++ bounds_of other → ((t : ℤ) → is_member int_eq cuts t ≡ is_member int_eq bounds t)
    → AreCutOut cuts one × AreCutOut cuts other
out_of_both one other bounds cuts is same = (
  out_more (bounds_of one) cuts (λ t h. same t ∙ (ap (λ l. is_member int_eq l t) is ∙ member_left (bounds_of one) (bounds_of other) t h)) one (out_of_bounds one),
  out_more (bounds_of other) cuts (λ t h. same t ∙ (ap (λ l. is_member int_eq l t) is ∙ member_right (bounds_of one) (bounds_of other) t h)) other (out_of_bounds other),
)
