-- The ranges of chosen rows: they have the tokens of these rows, ascend with a token between any two, and end at cuts.
use Rattle.std.proofs.Common.{◌≡◌, Bool, true, false, ◌&&◌, ◌||◌, if◌then◌else◌, ℤ, ◌≤ℤ◌, int_lt, int_le, List, [], ◌∷◌, ◌++◌, length, map, Option, Some, None, refl, sym, ap, ◌∙◌, arith}
use Rattle.std.specs.List.{AllByRecursion}
use Rattle.std.specs.List.Sorted.{IsStrictlySortedBy}
use Rattle.std.specs.Ordering.{int_eq, int_cmp}
use Rattle.std.specs.Set.{is_member}
use Rattle.std.proofs.lemmas.Bool.{and_from, and_parts, or_right, or_left}
use Rattle.std.proofs.lemmas.Bool.Decides.{Decides-int_eq}
use Rattle.std.proofs.lemmas.Int.{ints}
use Rattle.std.proofs.lemmas.List.Folds.{list_any-append}
use Rattle.cluster_terms.proofs.lists.AscendingLemmas.{weaker}
use Rattle.cluster_terms.proofs.rows.RowLemmas.{AreNext, rows_next, past_last, past_more}
use Rattle.cluster_terms.specs.Arc.{IsToken, greatest_token}
use Rattle.cluster_terms.specs.Row.{last_token, is_last, is_past, is_within, rows_from, rows_between}
use Rattle.cluster_terms.specs.declared.row.TokenRange.{TokenRange}
use Rattle.cluster_terms.specs.declared.token.RightEnd.{RightEnd}
use Rattle.cluster_terms.specs.declared.token.RightEnd.TheVariants.{At, Max}
use Rattle.token_ring.specs.code.ChosenRanges.{grown, ended, begun_range, chosen_from}
use Rattle.token_ring.specs.TokenRanges.{have_token, ends_before, ends_open, IsRangeList, is_cut_left, is_cut_right, is_cut_out, AreCutOut, have_chosen}
use Rattle.token_ring.proofs.RangeLemmas.{list_nil, list_cons}

-- a range that has begun ends at a left end
abbrev Fits : Option TokenRange → Option ℤ → Type 0
Fits None left = Unit
Fits (Some range) left = (left ≡ Some (last_token range.right)) × (is_past range.left (last_token range.right) ≡ true) × IsToken (last_token range.right)

-- ---- growing

grown_fits : (begun : Option TokenRange) (left : Option ℤ) (row : TokenRange) → Fits begun left → row.left ≡ left → is_past left (last_token row.right) ≡ true → IsToken (last_token row.right)
    → Fits (Some (grown begun row)) (Some (last_token row.right))
grown_fits None left row fits at past token = (refl, ap (λ l. is_past l (last_token row.right)) at ∙ past, token)
grown_fits (Some range) left row fits at past token =
    let after : int_lt (last_token range.right) (last_token row.right) ≡ true = ap (λ l. is_past l (last_token row.right)) (sym fits.0) ∙ past in
    (refl, past_more range.left (last_token range.right) (last_token row.right) fits.1 after, token)

-- whether the range that has begun has a token
abbrev begun_has : Option TokenRange → ℤ → Bool
begun_has begun t = have_token (begun_range begun) t

over : (left : Option ℤ) (l w t : ℤ) → is_past left l ≡ true → int_lt l w ≡ true → (is_past left t && int_le t w) ≡ (((is_past left t && int_le t l) || false) || (int_lt l t && int_le t w))
over None l w t h k = grind (arith, ints)
over (Some left) l w t h k = grind (arith, ints)

-- a row adds its tokens to the range that has begun
grown_has : (begun : Option TokenRange) (left : Option ℤ) (row : TokenRange) (t : ℤ) → Fits begun left → row.left ≡ left → is_past left (last_token row.right) ≡ true
    → is_within t (grown begun row) ≡ (begun_has begun t || is_within t row)
grown_has None left row t fits at past = refl
grown_has (Some range) left row t fits at past =
    let after : int_lt (last_token range.right) (last_token row.right) ≡ true = ap (λ l. is_past l (last_token row.right)) (sym fits.0) ∙ past in
    let here : is_past (Some (last_token range.right)) t ≡ is_past row.left t = ap (λ l. is_past l t) (sym (at ∙ fits.0)) in
    over range.left (last_token range.right) (last_token row.right) t fits.1 after
    ∙ ap (λ b. begun_has (Some range) t || (b && int_le t (last_token row.right))) here

-- ---- the end

ended_last : (range : TokenRange) → last_token (ended range).right ≡ last_token range.right
ended_last range = by (int_eq (last_token range.right) greatest_token) refl
  where
    by : (b : Bool) → int_eq (last_token range.right) greatest_token ≡ b → last_token (if b then (record { left = range.left; right = Max }) else range).right ≡ last_token range.right
    by true e = sym ((Decides-int_eq (last_token range.right) greatest_token).0 e)
    by false e = refl

ended_left : (range : TokenRange) → (ended range).left ≡ range.left
ended_left range = by (int_eq (last_token range.right) greatest_token)
  where
    by : (b : Bool) → (if b then (record { left = range.left; right = Max }) else range).left ≡ range.left
    by true = refl
    by false = refl

ended_has : (range : TokenRange) (t : ℤ) → is_within t (ended range) ≡ is_within t range
ended_has range t = λ i. is_past (ended_left range i) t && int_le t (ended_last range i)

ended_open : (range : TokenRange) → IsToken (last_token range.right) → ends_open (ended range).right ≡ true
ended_open range token = by (int_eq (last_token range.right) greatest_token) refl
  where
    open_at : (right : RightEnd) → int_eq (last_token right) greatest_token ≡ false → IsToken (last_token right) → ends_open right ≡ true
    open_at (At right) e token = let top : right ≤ℤ greatest_token = token.1 in grind (arith, ints)
    open_at Max e token = refl

    by : (b : Bool) → int_eq (last_token range.right) greatest_token ≡ b → ends_open (if b then (record { left = range.left; right = Max }) else range).right ≡ true
    by true e = refl
    by false e = open_at range.right e token

all_ended_has : (begun : Option TokenRange) (t : ℤ) → have_token (map ended (begun_range begun)) t ≡ begun_has begun t
all_ended_has None t = refl
all_ended_has (Some range) t = ap (λ b. b || false) (ended_has range t)

-- ---- the tokens

joined_has : (begun : Option TokenRange) (left : Option ℤ) (rows : List TokenRange) (chosen : List Bool) (t : ℤ) → Fits begun left → AreNext left rows → length chosen ≡ length rows
    → have_token (chosen_from begun rows chosen) t ≡ (begun_has begun t || have_chosen rows chosen t)
joined_has begun left [] chosen t fits next one = (let all = all_ended_has begun t in grind arith)
joined_has begun left (row ∷ rows) [] t fits next one = absurd (omega arith)
joined_has begun left (row ∷ rows) (true ∷ chosen) t fits next one =
    let rest = joined_has (Some (grown begun row)) (Some (last_token row.right)) rows chosen t (grown_fits begun left row fits next.0 next.1 next.2) next.3 (omega arith) in
    let here = grown_has begun left row t fits next.0 next.1 in
    rest ∙ grind (arith, here)
joined_has begun left (row ∷ rows) (false ∷ chosen) t fits next one =
    let rest = joined_has None (Some (last_token row.right)) rows chosen t tt next.3 (omega arith) in
    list_any-append (is_within t) (begun_range begun) (chosen_from None rows chosen) ∙ grind (arith, rest)

-- ---- the order

-- rows past a token begin past it
later_rows : (w m : ℤ) (rows : List TokenRange) → int_lt w m ≡ true → AreNext (Some m) rows → AllByRecursion (λ r. ends_before (At w) r.left ≡ true) rows
later_rows w m [] after next = tt
later_rows w m (row ∷ rows) after next =
    let past : int_lt m (last_token row.right) ≡ true = next.1 in
    (ap (ends_before (At w)) next.0 ∙ after, later_rows w (last_token row.right) rows (past_more (Some w) m (last_token row.right) after past) next.3)

later_ended : (w : ℤ) (begun : Option TokenRange) → AllByRecursion (λ r. ends_before (At w) r.left ≡ true) (begun_range begun) → AllByRecursion (λ r. ends_before (At w) r.left ≡ true) (map ended (begun_range begun))
later_ended w None first = tt
later_ended w (Some range) first = (ap (ends_before (At w)) (ended_left range) ∙ first.0, tt)

-- so do the ranges of those that are chosen
later_joined : (w : ℤ) (begun : Option TokenRange) (rows : List TokenRange) (chosen : List Bool) → AllByRecursion (λ r. ends_before (At w) r.left ≡ true) (begun_range begun) → AllByRecursion (λ r. ends_before (At w) r.left ≡ true) rows
    → AllByRecursion (λ r. ends_before (At w) r.left ≡ true) (chosen_from begun rows chosen)
later_joined w begun [] chosen first rest = later_ended w begun first
later_joined w begun (row ∷ rows) [] first rest = later_ended w begun first
later_joined w begun (row ∷ rows) (true ∷ chosen) first rest =
    later_joined w (Some (grown begun row)) rows chosen (grows begun first, tt) rest.1
  where
    grows : (begun : Option TokenRange) → AllByRecursion (λ r. ends_before (At w) r.left ≡ true) (begun_range begun) → ends_before (At w) (grown begun row).left ≡ true
    grows None first = rest.0
    grows (Some range) first = first.0
later_joined w begun (row ∷ rows) (false ∷ chosen) first rest =
    both begun first (later_joined w None rows chosen tt rest.1)
  where
    both : (begun : Option TokenRange) → AllByRecursion (λ r. ends_before (At w) r.left ≡ true) (begun_range begun) → AllByRecursion (λ r. ends_before (At w) r.left ≡ true) (chosen_from None rows chosen)
        → AllByRecursion (λ r. ends_before (At w) r.left ≡ true) (begun_range begun ++ chosen_from None rows chosen)
    both None first rest = rest
    both (Some range) first rest = (first.0, rest)

-- the last range
ended_list : (begun : Option TokenRange) (left : Option ℤ) → Fits begun left → IsRangeList (map ended (begun_range begun))
ended_list None left fits = list_nil
ended_list (Some range) left fits = list_cons (ended range) [] (record { some = some; ending = ended_open range fits.2 }) tt list_nil
  where
    some : is_within (last_token (ended range).right) (ended range) ≡ true
    some = ended_has range (last_token (ended range).right) ∙ ap (λ w. is_within w range) (ended_last range) ∙ past_last range.left (last_token range.right) fits.1

-- a range that ends where a row begins that is not chosen, before later ranges
before_gap : (begun : Option TokenRange) (left : Option ℤ) (m : ℤ) (ranges : List TokenRange) → Fits begun left → is_past left m ≡ true → IsToken m
    → ((w : ℤ) → int_lt w m ≡ true → AllByRecursion (λ r. ends_before (At w) r.left ≡ true) ranges) → IsRangeList ranges → IsRangeList (begun_range begun ++ ranges)
before_gap None left m ranges fits past token later list = list
before_gap (Some range) left m ranges fits past token later list =
    let after : int_lt (last_token range.right) m ≡ true = ap (λ l. is_past l m) (sym fits.0) ∙ past in
    list_cons range ranges (record { some = past_last range.left (last_token range.right) fits.1; ending = ending range.right after }) (apart range.right after (later (last_token range.right) after)) list
  where
    ending : (right : RightEnd) → int_lt (last_token right) m ≡ true → ends_open right ≡ true
    ending (At right) after = let top : m ≤ℤ greatest_token = token.1 in grind (arith, ints)
    ending Max after = refl

    none_past : int_lt greatest_token m ≡ true → ⊥
    none_past after = let top : m ≤ℤ greatest_token = token.1 in grind (arith, ints)

    apart : (right : RightEnd) → int_lt (last_token right) m ≡ true → AllByRecursion (λ r. ends_before (At (last_token right)) r.left ≡ true) ranges → AllByRecursion (λ r. ends_before right r.left ≡ true) ranges
    apart (At right) after all = all
    apart Max after all = absurd (none_past after)

-- the ranges of chosen rows that follow each other ascend, with a token between any two
joined_list : (begun : Option TokenRange) (left : Option ℤ) (rows : List TokenRange) (chosen : List Bool) → Fits begun left → AreNext left rows → IsRangeList (chosen_from begun rows chosen)
joined_list begun left [] chosen fits next = ended_list begun left fits
joined_list begun left (row ∷ rows) [] fits next = ended_list begun left fits
joined_list begun left (row ∷ rows) (true ∷ chosen) fits next =
    joined_list (Some (grown begun row)) (Some (last_token row.right)) rows chosen (grown_fits begun left row fits next.0 next.1 next.2) next.3
joined_list begun left (row ∷ rows) (false ∷ chosen) fits next =
    before_gap begun left (last_token row.right) (chosen_from None rows chosen) fits next.1 next.2
    (λ w after. later_joined w None rows chosen tt (later_rows w (last_token row.right) rows after next.3))
    (joined_list None (Some (last_token row.right)) rows chosen tt next.3)

-- ---- the bounds

ended_out : (cuts : List ℤ) (range : TokenRange) → is_cut_out cuts range ≡ true → is_cut_out cuts (ended range) ≡ true
ended_out cuts range out = by (int_eq (last_token range.right) greatest_token)
  where
    by : (b : Bool) → is_cut_out cuts (if b then (record { left = range.left; right = Max }) else range) ≡ true
    by true = and_from (is_cut_left cuts range.left) true (and_parts (is_cut_left cuts range.left) (is_cut_right cuts range.right) out).0 refl
    by false = out

all_ended_out : (cuts : List ℤ) (begun : Option TokenRange) → AreCutOut cuts (begun_range begun) → AreCutOut cuts (map ended (begun_range begun))
all_ended_out cuts None first = tt
all_ended_out cuts (Some range) first = (ended_out cuts range first.0, tt)

-- where rows are cut out, so are the ranges of those that are chosen
joined_out : (cuts : List ℤ) (begun : Option TokenRange) (rows : List TokenRange) (chosen : List Bool) → AreCutOut cuts (begun_range begun) → AreCutOut cuts rows → AreCutOut cuts (chosen_from begun rows chosen)
joined_out cuts begun [] chosen first rest = all_ended_out cuts begun first
joined_out cuts begun (row ∷ rows) [] first rest = all_ended_out cuts begun first
joined_out cuts begun (row ∷ rows) (true ∷ chosen) first rest = joined_out cuts (Some (grown begun row)) rows chosen (grows begun first, tt) rest.1
  where
    grows : (begun : Option TokenRange) → AreCutOut cuts (begun_range begun) → is_cut_out cuts (grown begun row) ≡ true
    grows None first = rest.0
    grows (Some range) first =
        and_from (is_cut_left cuts range.left) (is_cut_right cuts row.right)
        (and_parts (is_cut_left cuts range.left) (is_cut_right cuts range.right) first.0).0
        (and_parts (is_cut_left cuts row.left) (is_cut_right cuts row.right) rest.0).1
joined_out cuts begun (row ∷ rows) (false ∷ chosen) first rest = both begun first (joined_out cuts None rows chosen tt rest.1)
  where
    both : (begun : Option TokenRange) → AreCutOut cuts (begun_range begun) → AreCutOut cuts (chosen_from None rows chosen) → AreCutOut cuts (begun_range begun ++ chosen_from None rows chosen)
    both None first rest = rest
    both (Some range) first rest = (first.0, rest)

-- ---- the rows between ascending cuts

-- they are cut out
rows_out : (all : List ℤ) (left : Option ℤ) (cuts : List ℤ) → is_cut_left all left ≡ true → AllByRecursion (λ t. is_member int_eq all t ≡ true) cuts → AreCutOut all (rows_from left cuts)
rows_out all left [] first among = by (is_last left)
  where
    by : (b : Bool) → AreCutOut all (if b then [] else (record { left = left; right = Max }) ∷ [])
    by true = tt
    by false = (and_from (is_cut_left all left) true first refl, tt)
rows_out all left (cut ∷ cuts) first among =
    (and_from (is_cut_left all left) (is_member int_eq all cut) first among.0, rows_out all (Some cut) cuts among.0 among.1)

members : (xs : List ℤ) → AllByRecursion (λ t. is_member int_eq xs t ≡ true) xs
members [] = tt
members (x ∷ xs) = (
  or_left (int_eq x x) (is_member int_eq xs x) ((Decides-int_eq x x).1 refl),
  weaker (λ t. is_member int_eq xs t ≡ true) (λ t. is_member int_eq (x ∷ xs) t ≡ true) (λ t h. or_right (int_eq t x) (is_member int_eq xs t) h) xs (members xs),
)

-- ---- what the ranges of chosen rows are

pub chosen_list : (cuts : List ℤ) (chosen : List Bool) → IsStrictlySortedBy int_cmp cuts → AllByRecursion IsToken cuts → IsRangeList (chosen_from None (rows_between cuts) chosen)
chosen_list cuts chosen up tokens = joined_list None None (rows_between cuts) chosen tt (rows_next cuts up tokens)

pub chosen_have : (cuts : List ℤ) (chosen : List Bool) → IsStrictlySortedBy int_cmp cuts → AllByRecursion IsToken cuts → length chosen ≡ length (rows_between cuts)
    → (t : ℤ) → have_token (chosen_from None (rows_between cuts) chosen) t ≡ have_chosen (rows_between cuts) chosen t
chosen_have cuts chosen up tokens one t = joined_has None None (rows_between cuts) chosen t tt (rows_next cuts up tokens) one

pub chosen_out : (cuts : List ℤ) (chosen : List Bool) → AreCutOut cuts (chosen_from None (rows_between cuts) chosen)
chosen_out cuts chosen = joined_out cuts None (rows_between cuts) chosen tt (rows_out cuts None cuts refl (members cuts))
