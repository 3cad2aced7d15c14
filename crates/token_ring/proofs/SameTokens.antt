-- Each set of tokens has one list of ranges.
use Rattle.std.proofs.Common.{◌≡◌, Bool, true, false, ◌&&◌, ◌||◌, ℤ, pos, negsuc, ◌+ℤ◌, ◌<ℤ◌, ◌≤ℤ◌, int_le, List, [], ◌∷◌, ◌++◌, Option, Some, None, IfSome, refl, sym, ap, ◌∙◌, arith}
use Rattle.std.specs.List.{AllByRecursion}
use Rattle.std.proofs.lemmas.Bool.{false≢true, and_parts, and_right}
use Rattle.std.proofs.lemmas.Int.{ints, by_lt_z}
use Rattle.cluster_terms.specs.Arc.{IsToken, greatest_token}
use Rattle.cluster_terms.specs.Row.{is_past, last_token}
use Rattle.cluster_terms.specs.declared.row.TokenRange.{TokenRange}
use Rattle.cluster_terms.specs.declared.token.RightEnd.{RightEnd}
use Rattle.cluster_terms.specs.declared.token.RightEnd.TheVariants.{At, Max}
use Rattle.token_ring.specs.Bounds.{bounds_of, left_bound, right_bound}
use Rattle.token_ring.specs.TokenRanges.{IsRangeList, have_token, ends_before, ends_open}
use Rattle.token_ring.proofs.RangeLemmas.{list_tail, pairs_head}

-- ---- the first token past a left end

abbrev first_past : Option ℤ → ℤ
first_past None = negsuc 9223372036854775807
first_past (Some left) = left +ℤ pos 1

past_is : (left : Option ℤ) (t : ℤ) → IsToken t → is_past left t ≡ int_le (first_past left) t
past_is None t token = (let low = token.0 in grind (arith, ints))
past_is (Some left) t token = grind (arith, ints)

first_within : (left : Option ℤ) (w : ℤ) → IfSome left IsToken → IsToken w → is_past left w ≡ true → IsToken (first_past left) × (first_past left ≤ℤ w)
first_within None w end token past = (let low = token.0 in let high = token.1 in ((omega (arith, ints), omega (arith, ints)), omega (arith, ints)))
first_within (Some left) w end token past = (let low = end.0 in let high = token.1 in ((omega (arith, ints), omega (arith, ints)), omega (arith, ints)))

same_left : (one other : Option ℤ) → IfSome one IsToken → IfSome other IsToken → first_past one ≡ first_past other → one ≡ other
same_left None None end ends same = refl
same_left None (Some m) end ends same = absurd (let low = ends.0 in omega (arith, ints))
same_left (Some l) None end ends same = absurd (let low = end.0 in omega (arith, ints))
same_left (Some l) (Some m) end ends same = ap Some (grind (arith, ints))

same_right : (one other : RightEnd) → ends_open one ≡ true → ends_open other ≡ true → last_token one ≡ last_token other → one ≡ other
same_right (At x) (At y) ends others same = ap At same
same_right (At x) Max ends others same = absurd (let is : x ≡ greatest_token = same in omega (arith, ints))
same_right Max (At y) ends others same = absurd (let is : greatest_token ≡ y = same in omega (arith, ints))
same_right Max Max ends others same = refl

-- ---- the bounds of ranges

greatest_is : IsToken greatest_token
greatest_is = (omega (arith, ints), omega (arith, ints))

parts_of_bounds : (left : Option ℤ) (right : RightEnd) (rest : List ℤ) → AllByRecursion IsToken (left_bound left ++ right_bound right ++ rest)
    → IfSome left IsToken × (IsToken (last_token right) × AllByRecursion IsToken rest)
parts_of_bounds None (At w) rest all = (tt, (all.0, all.1))
parts_of_bounds None Max rest all = (tt, (greatest_is, all))
parts_of_bounds (Some l) (At w) rest all = (all.0, (all.1.0, all.1.1))
parts_of_bounds (Some l) Max rest all = (all.0, (greatest_is, all.1))

-- what the first of some ranges is
record Front (r : TokenRange) (rs : List TokenRange) : Type 0 where
  left : IfSome r.left IsToken
  first : IsToken (first_past r.left)
  last : IsToken (last_token r.right)
  some : first_past r.left ≤ℤ last_token r.right
  ending : ends_open r.right ≡ true
  apart : AllByRecursion (λ s. ends_before r.right s.left ≡ true) rs

front : (r : TokenRange) (rs : List TokenRange) → IsRangeList (r ∷ rs) → AllByRecursion IsToken (bounds_of (r ∷ rs)) → Front r rs
front r rs list bounds =
    let ends = parts_of_bounds r.left r.right (bounds_of rs) bounds in
    let past : is_past r.left (last_token r.right) ≡ true = (and_parts (is_past r.left (last_token r.right)) (int_le (last_token r.right) (last_token r.right)) list.each.0.some).0 in
    let first = first_within r.left (last_token r.right) ends.0 ends.1.0 past in
    record { left = ends.0; first = first.0; last = ends.1.0; some = first.1; ending = list.each.0.ending; apart = pairs_head (λ r s. ends_before r.right s.left ≡ true) r rs list.apart }

bounds_tail : (r : TokenRange) (rs : List TokenRange) → AllByRecursion IsToken (bounds_of (r ∷ rs)) → AllByRecursion IsToken (bounds_of rs)
bounds_tail r rs bounds = (parts_of_bounds r.left r.right (bounds_of rs) bounds).1.1

-- ---- which tokens ranges have

-- none up to the one past the right end is in a later range
not_past : (right : RightEnd) (left : Option ℤ) (t : ℤ) → ends_before right left ≡ true → t ≤ℤ (last_token right +ℤ pos 1) → is_past left t ≡ false
not_past (At right) (Some left) t apart upto = grind (arith, ints)
not_past (At right) None t apart upto = absurd (false≢true apart)
not_past Max left t apart upto = absurd (false≢true apart)

none_later : (right : RightEnd) (ranges : List TokenRange) (t : ℤ) → AllByRecursion (λ s. ends_before right s.left ≡ true) ranges → t ≤ℤ (last_token right +ℤ pos 1) → have_token ranges t ≡ false
none_later right [] t apart upto = refl
none_later right (s ∷ ranges) t apart upto =
    let here : is_past s.left t ≡ false = not_past right s.left t apart.0 upto in
    (λ i. (here i && int_le t (last_token s.right)) || none_later right ranges t apart.1 upto i)

either : (p q x : Bool) → (p && q) ≡ false → x ≡ false → ((p && q) || x) ≡ false
either p q x e f = grind arith

below : (r : TokenRange) (rs : List TokenRange) (t : ℤ) → Front r rs → IsToken t → t <ℤ first_past r.left → have_token (r ∷ rs) t ≡ false
below r rs t f token less =
    let some = f.some in
    let out : is_past r.left t ≡ false = past_is r.left t token ∙ no (first_past r.left) less in
    either (is_past r.left t) (int_le t (last_token r.right)) (have_token rs t) (λ i. out i && int_le t (last_token r.right)) (none_later r.right rs t f.apart (omega (arith, ints)))
  where
    no : (w : ℤ) → t <ℤ w → int_le w t ≡ false
    no w l = grind (arith, ints)

beyond : (r : TokenRange) (rs : List TokenRange) (t : ℤ) → Front r rs → t ≡ last_token r.right +ℤ pos 1 → have_token (r ∷ rs) t ≡ false
beyond r rs t f is =
    either (is_past r.left t) (int_le t (last_token r.right)) (have_token rs t) (and_right (is_past r.left t) (int_le t (last_token r.right)) (no (last_token r.right) is)) (none_later r.right rs t f.apart (omega (arith, ints)))
  where
    no : (w : ℤ) → t ≡ w +ℤ pos 1 → int_le t w ≡ false
    no w e = grind (arith, ints)

inside : (r : TokenRange) (rs : List TokenRange) (t : ℤ) → IsToken t → first_past r.left ≤ℤ t → t ≤ℤ last_token r.right → have_token (r ∷ rs) t ≡ true
inside r rs t token low high =
    both (is_past r.left t) (int_le t (last_token r.right)) (have_token rs t) (past_is r.left t token ∙ yes (first_past r.left) t low) (yes t (last_token r.right) high)
  where
    yes : (a b : ℤ) → a ≤ℤ b → int_le a b ≡ true
    yes a b l = grind (arith, ints)

    both : (p q x : Bool) → p ≡ true → q ≡ true → ((p && q) || x) ≡ true
    both p q x e f = grind arith

-- past the first range the later ones alone count
past_first : (r : TokenRange) (rs : List TokenRange) (t : ℤ) → last_token r.right <ℤ t → have_token (r ∷ rs) t ≡ have_token rs t
past_first r rs t more = by (is_past r.left t) (int_le t (last_token r.right)) (have_token rs t) (no (last_token r.right) more)
  where
    no : (w : ℤ) → w <ℤ t → int_le t w ≡ false
    no w l = grind (arith, ints)

    by : (p q x : Bool) → q ≡ false → ((p && q) || x) ≡ x
    by p q x e = grind arith

-- ---- ranges that have the same tokens

abbrev Alike : List TokenRange → List TokenRange → Type 0
Alike one other = (t : ℤ) → IsToken t → have_token one t ≡ have_token other t

first_reaches : (r s : TokenRange) (rs ss : List TokenRange) → Front r rs → Front s ss → Alike (r ∷ rs) (s ∷ ss) → first_past s.left ≤ℤ first_past r.left
first_reaches r s rs ss f g same =
    by_lt_z (first_past r.left) (first_past s.left)
    (λ less. absurd (false≢true (sym (below s ss (first_past r.left) g f.first less) ∙ sym (same (first_past r.left) f.first) ∙ inside r rs (first_past r.left) f.first (omega (arith, ints)) f.some)))
    (λ le. le)

last_reaches : (r s : TokenRange) (rs ss : List TokenRange) → Front r rs → Front s ss → first_past r.left ≡ first_past s.left → Alike (r ∷ rs) (s ∷ ss) → last_token s.right ≤ℤ last_token r.right
last_reaches r s rs ss f g firsts same =
    by_lt_z (last_token r.right) (last_token s.right)
    (λ less.
    let next : ℤ = last_token r.right +ℤ pos 1 in
    let low = f.last.0 in
    let high = g.last.1 in
    let some = f.some in
    let token : IsToken next = (omega (arith, ints), omega (arith, ints)) in
    let in_s = inside s ss next token (omega (arith, ints, firsts)) (omega (arith, ints)) in
    absurd (false≢true (sym (beyond r rs next f refl) ∙ same next token ∙ in_s)))
    (λ le. le)

equal : (x y : ℤ) → x ≤ℤ y → y ≤ℤ x → x ≡ y
equal x y l m = grind (arith, ints)

tails : (r s : TokenRange) (rs ss : List TokenRange) → Front r rs → Front s ss → last_token r.right ≡ last_token s.right → Alike (r ∷ rs) (s ∷ ss) → Alike rs ss
tails r s rs ss f g lasts same t token =
    by_lt_z (last_token r.right) t
    (λ more. sym (past_first r rs t more) ∙ same t token ∙ past_first s ss t (omega (arith, ints, lasts)))
    (λ upto. none_later r.right rs t f.apart (omega (arith, ints)) ∙ sym (none_later s.right ss t g.apart (omega (arith, ints, lasts))))

pub same_list : (one other : List TokenRange) → IsRangeList one → IsRangeList other → AllByRecursion IsToken (bounds_of one) → AllByRecursion IsToken (bounds_of other)
    → ((t : ℤ) → IsToken t → have_token one t ≡ have_token other t) → one ≡ other
same_list [] [] list lists bounds others same = refl
same_list [] (s ∷ ss) list lists bounds others same =
    let g = front s ss lists others in
    absurd (false≢true (same (first_past s.left) g.first ∙ inside s ss (first_past s.left) g.first (omega (arith, ints)) g.some))
same_list (r ∷ rs) [] list lists bounds others same =
    let f = front r rs list bounds in
    absurd (false≢true (sym (same (first_past r.left) f.first) ∙ inside r rs (first_past r.left) f.first (omega (arith, ints)) f.some))
same_list (r ∷ rs) (s ∷ ss) list lists bounds others same =
    let f = front r rs list bounds in
    let g = front s ss lists others in
    let back : (t : ℤ) → IsToken t → have_token (s ∷ ss) t ≡ have_token (r ∷ rs) t = λ t token. sym (same t token) in
    let firsts = equal (first_past r.left) (first_past s.left) (first_reaches s r ss rs g f back) (first_reaches r s rs ss f g same) in
    let lasts = equal (last_token r.right) (last_token s.right) (last_reaches s r ss rs g f (sym firsts) back) (last_reaches r s rs ss f g firsts same) in
    let lefts = same_left r.left s.left f.left g.left firsts in
    let rights = same_right r.right s.right f.ending g.ending lasts in
    let rest = same_list rs ss (list_tail r rs list) (list_tail s ss lists) (bounds_tail r rs bounds) (bounds_tail s ss others) (tails r s rs ss f g lasts same) in
    (λ i. (record { left = lefts i; right = rights i }) ∷ rest i)
