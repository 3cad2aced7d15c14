-- The changes of rows that follow each other, joined: they are a delta, which shows these changes and ends at cuts.
use Rattle.std.proofs.Common.{◌≡◌, ◌≢◌, ℕ, Bool, true, false, if◌then◌else◌, ℤ, ◌≤ℤ◌, int_lt, int_le, List, [], ◌∷◌, ◌++◌, length, nat_eq, Option, Some, None, refl, sym, ap, ◌∙◌, arith}
use Rattle.std.specs.Cmp.Lexicographic.{pointwise}
use Rattle.std.specs.List.{AllByRecursion}
use Rattle.std.specs.List.Sorted.{IsStrictlySortedBy}
use Rattle.std.specs.Ordering.{int_cmp, int_eq}
use Rattle.std.specs.Set.{is_member}
use Rattle.std.proofs.lemmas.Bool.{and_parts, and_from, or_left, or_right, true≢false}
use Rattle.std.proofs.lemmas.Bool.Decides.{Decides-eqb, Decides-int_eq}
use Rattle.std.proofs.lemmas.Int.{ints}
use Rattle.std.proofs.lemmas.Slice.Eq.{slice_eq-Decides}
use Rattle.cluster_terms.proofs.lists.AscendingLemmas.{weaker}
use Rattle.cluster_terms.proofs.rows.RowLemmas.{AreNext, rows_next, past_more}
use Rattle.cluster_terms.specs.Arc.{IsToken, greatest_token}
use Rattle.cluster_terms.specs.Row.{CoverRing, is_last, is_past, is_within, last_token, rows_between, rows_from}
use Rattle.cluster_terms.specs.declared.row.TokenRange.{TokenRange}
use Rattle.cluster_terms.specs.declared.token.RightEnd.TheVariants.{At, Max}
use Rattle.placement_deltas.specs.Deltas.{EndAtCuts, IsDelta, ShowsChanges, change, change_in, delta_at}
use Rattle.placement_deltas.specs.code.JoinedRows.{change_row, change_rows, joined_from, same_change}
use Rattle.placement_deltas.specs.declared.delta_row.DeltaRow.{DeltaRow}
use Rattle.token_ring.specs.TokenRanges.{is_cut_right}

-- ---- the test of two changes

pub same_yes : (row next : DeltaRow) → same_change row next ≡ true → change_in row ≡ change_in next
same_yes row next same =
    let parts = and_parts (pointwise nat_eq row.gained next.gained) (pointwise nat_eq row.lost next.lost) same in
    let gained = (slice_eq-Decides Decides-eqb row.gained next.gained (pointwise nat_eq row.gained next.gained) refl).0 parts.0 in
    let lost = (slice_eq-Decides Decides-eqb row.lost next.lost (pointwise nat_eq row.lost next.lost) refl).0 parts.1 in
    λ i. (gained i, lost i)

same_from : (row next : DeltaRow) → change_in row ≡ change_in next → same_change row next ≡ true
same_from row next same =
    and_from (pointwise nat_eq row.gained next.gained) (pointwise nat_eq row.lost next.lost)
    ((slice_eq-Decides Decides-eqb row.gained next.gained (pointwise nat_eq row.gained next.gained) refl).1 (ap (λ (p : List ℕ × List ℕ). p.0) same))
    ((slice_eq-Decides Decides-eqb row.lost next.lost (pointwise nat_eq row.lost next.lost) refl).1 (ap (λ (p : List ℕ × List ℕ). p.1) same))

same_no : (row next : DeltaRow) → same_change row next ≡ false → change_in row ≢ change_in next
same_no row next other = λ same. true≢false (sym (same_from row next same) ∙ other)

-- ---- rows that climb

-- each row ends before the next one, and the last row at the greatest token
abbrev Climbs : DeltaRow → List DeltaRow → Type 0
Climbs row rows = CoverRing (λ (r : DeltaRow). r.right) (row ∷ rows)

-- joined rows change the same at each token
pub joined_at : (row : DeltaRow) (rows : List DeltaRow) (x : ℤ) → Climbs row rows → int_le x greatest_token ≡ true → delta_at (joined_from (Some row) rows) x ≡ delta_at (row ∷ rows) x
joined_at row [] x climbs top =
    ap (λ b. if b then change_in row else ([], [])) (top ∙ sym (ap (int_le x) climbs ∙ top))
joined_at row (next ∷ rows) x climbs top =
    by (same_change row next) refl (joined_at next rows x climbs.1 top)
  where
    sooner : (a b : ℤ) → int_lt a b ≡ true → int_le x a ≡ true → int_le x b ≡ true
    sooner a b lt le = grind (arith, ints)

    within : (b : Bool) → int_le x (last_token row.right) ≡ b → change_in row ≡ change_in next → delta_at (next ∷ rows) x ≡ (if b then change_in row else delta_at (next ∷ rows) x)
    within true le same =
        ap (λ b. if b then change_in next else delta_at rows x) (sooner (last_token row.right) (last_token next.right) climbs.0 le) ∙ sym same
    within false le same = refl

    by : (b : Bool) → same_change row next ≡ b → delta_at (joined_from (Some next) rows) x ≡ delta_at (next ∷ rows) x
        → delta_at ((if b then [] else row ∷ []) ++ joined_from (Some next) rows) x ≡ delta_at (row ∷ next ∷ rows) x
    by true same rest = rest ∙ within (int_le x (last_token row.right)) refl (same_yes row next same)
    by false other rest = ap (λ p. if int_le x (last_token row.right) then change_in row else p) rest

-- the first of some rows has this change and ends at this token or past it
abbrev Begins : ℤ → List ℕ × List ℕ → List DeltaRow → Type 0
Begins w p [] = ⊥
Begins w p (row ∷ rows) = (w ≤ℤ last_token row.right) × (change_in row ≡ p)

joined_begins : (row : DeltaRow) (rows : List DeltaRow) → Climbs row rows → Begins (last_token row.right) (change_in row) (joined_from (Some row) rows)
joined_begins row [] climbs = (upto (last_token row.right) climbs, refl)
  where
    upto : (w : ℤ) → w ≡ greatest_token → w ≤ℤ greatest_token
    upto w is = omega (arith, ints)
joined_begins row (next ∷ rows) climbs = by (same_change row next) refl (joined_begins next rows climbs.1)
  where
    self : (w : ℤ) → w ≤ℤ w
    self w = omega (arith, ints)

    later : (joined : List DeltaRow) → change_in row ≡ change_in next → Begins (last_token next.right) (change_in next) joined → Begins (last_token row.right) (change_in row) joined
    later [] same begins = absurd begins
    later (first ∷ joined) same begins = (past (last_token row.right) (last_token next.right) (last_token first.right) climbs.0 begins.0, begins.1 ∙ sym same)
      where
        past : (a b c : ℤ) → int_lt a b ≡ true → b ≤ℤ c → a ≤ℤ c
        past a b c h k = grind (arith, ints)

    by : (b : Bool) → same_change row next ≡ b → Begins (last_token next.right) (change_in next) (joined_from (Some next) rows)
        → Begins (last_token row.right) (change_in row) ((if b then [] else row ∷ []) ++ joined_from (Some next) rows)
    by true same rest = later (joined_from (Some next) rows) (same_yes row next same) rest
    by false other rest = (self (last_token row.right), refl)

-- joined rows are a delta
pub joined_is : (row : DeltaRow) (rows : List DeltaRow) → Climbs row rows → IsDelta (joined_from (Some row) rows)
joined_is row [] climbs = refl
joined_is row (next ∷ rows) climbs = by (same_change row next) refl (joined_is next rows climbs.1) (joined_begins next rows climbs.1)
  where
    past : (a b c : ℤ) → int_lt a b ≡ true → b ≤ℤ c → int_lt a c ≡ true
    past a b c h k = grind (arith, ints)

    before : (joined : List DeltaRow) → change_in row ≢ change_in next → IsDelta joined → Begins (last_token next.right) (change_in next) joined → IsDelta (row ∷ joined)
    before [] other delta begins = absurd begins
    before (first ∷ joined) other delta begins =
        (past (last_token row.right) (last_token next.right) (last_token first.right) climbs.0 begins.0, λ same. other (same ∙ begins.1), delta)

    by : (b : Bool) → same_change row next ≡ b → IsDelta (joined_from (Some next) rows) → Begins (last_token next.right) (change_in next) (joined_from (Some next) rows)
        → IsDelta ((if b then [] else row ∷ []) ++ joined_from (Some next) rows)
    by true same rest begins = rest
    by false other rest begins = before (joined_from (Some next) rows) (same_no row next other) rest begins

-- and end where the rows end
joined_ends : (cuts : List ℤ) (row : DeltaRow) (rows : List DeltaRow) → EndAtCuts cuts (row ∷ rows) → EndAtCuts cuts (joined_from (Some row) rows)
joined_ends cuts row [] ends = (refl, tt)
joined_ends cuts row (next ∷ rows) ends = by (same_change row next) (joined_ends cuts next rows ends.1)
  where
    by : (b : Bool) → EndAtCuts cuts (joined_from (Some next) rows) → EndAtCuts cuts ((if b then [] else row ∷ []) ++ joined_from (Some next) rows)
    by true rest = rest
    by false rest = (ends.0, rest)

-- ---- the rows between cuts

-- the last row ends at the greatest token
abbrev EndsLast : TokenRange → List TokenRange → Type 0
EndsLast range [] = last_token range.right ≡ greatest_token
EndsLast range (next ∷ ranges) = EndsLast next ranges

abbrev AreWhole : List TokenRange → Type 0
AreWhole [] = ⊥
AreWhole (range ∷ ranges) = EndsLast range ranges

ends_last : (left : Option ℤ) (cut : ℤ) (cuts : List ℤ) → EndsLast (record { left = left; right = At cut }) (rows_from (Some cut) cuts)
ends_last left cut [] = by (int_eq cut greatest_token) refl
  where
    by : (b : Bool) → int_eq cut greatest_token ≡ b → EndsLast (record { left = left; right = At cut }) (if b then [] else (record { left = Some cut; right = Max }) ∷ [])
    by true last = (Decides-int_eq cut greatest_token).0 last
    by false last = refl
ends_last left cut (next ∷ cuts) = ends_last (Some cut) next cuts

are_whole : (cuts : List ℤ) → AreWhole (rows_between cuts)
are_whole [] = refl
are_whole (cut ∷ cuts) = ends_last None cut cuts

-- the changes of rows that follow each other climb
changes_climb : (range : TokenRange) (ranges : List TokenRange) (b a : List ℕ) (before after : List (List ℕ))
    → AreNext (Some (last_token range.right)) ranges → EndsLast range ranges → length before ≡ length ranges → length after ≡ length ranges
    → Climbs (change_row range.right b a) (change_rows ranges before after)
changes_climb range [] b a before after next last one two = last
changes_climb range (r ∷ ranges) b a [] after next last one two = absurd (omega arith)
changes_climb range (r ∷ ranges) b a (b' ∷ before) [] next last one two = absurd (omega arith)
changes_climb range (r ∷ ranges) b a (b' ∷ before) (a' ∷ after) next last one two =
    (next.1, changes_climb r ranges b' a' before after next.3 last (omega arith) (omega arith))

-- what changes as these rows do shows their changes
changes_shown : (left : Option ℤ) (ranges : List TokenRange) (before after : List (List ℕ)) (delta : List DeltaRow) → AreNext left ranges
    → ((x : ℤ) → is_past left x ≡ true → int_le x greatest_token ≡ true → delta_at delta x ≡ delta_at (change_rows ranges before after) x)
    → ShowsChanges ranges before after delta
changes_shown left [] before after delta next same = tt
changes_shown left (range ∷ ranges) [] after delta next same = tt
changes_shown left (range ∷ ranges) (b ∷ before) [] delta next same = tt
changes_shown left (range ∷ ranges) (b ∷ before) (a ∷ after) delta next same =
    (here, changes_shown (Some (last_token range.right)) ranges before after delta next.3 rest)
  where
    top : (x w : ℤ) → IsToken w → int_le x w ≡ true → int_le x greatest_token ≡ true
    top x w token le = let most = token.1 in grind (arith, ints)

    here : (x : ℤ) → is_within x range ≡ true → delta_at delta x ≡ change b a
    here x within =
        let parts = and_parts (is_past range.left x) (int_le x (last_token range.right)) within in
        same x (ap (λ l. is_past l x) (sym next.0) ∙ parts.0) (top x (last_token range.right) next.2 parts.1)
        ∙ ap (λ c. if c then change b a else delta_at (change_rows ranges before after) x) parts.1

    beyond : (w x : ℤ) → int_lt w x ≡ true → int_le x w ≡ false
    beyond w x lt = grind (arith, ints)

    rest : (x : ℤ) → is_past (Some (last_token range.right)) x ≡ true → int_le x greatest_token ≡ true → delta_at delta x ≡ delta_at (change_rows ranges before after) x
    rest x past upto =
        same x (past_more left (last_token range.right) x next.1 past) upto
        ∙ ap (λ c. if c then change b a else delta_at (change_rows ranges before after) x) (beyond (last_token range.right) x past)

-- the rows between cuts end at cuts
ranges_end : (all : List ℤ) (left : Option ℤ) (cuts : List ℤ) → AllByRecursion (λ t. is_member int_eq all t ≡ true) cuts → AllByRecursion (λ r. is_cut_right all r.right ≡ true) (rows_from left cuts)
ranges_end all left [] among = by (is_last left)
  where
    by : (b : Bool) → AllByRecursion (λ (r : TokenRange). is_cut_right all r.right ≡ true) (if b then [] else (record { left = left; right = Max }) ∷ [])
    by true = tt
    by false = (refl, tt)
ranges_end all left (cut ∷ cuts) among = (among.0, ranges_end all (Some cut) cuts among.1)

members : (xs : List ℤ) → AllByRecursion (λ t. is_member int_eq xs t ≡ true) xs
members [] = tt
members (x ∷ xs) = (
  or_left (int_eq x x) (is_member int_eq xs x) ((Decides-int_eq x x).1 refl),
  weaker (λ t. is_member int_eq xs t ≡ true) (λ t. is_member int_eq (x ∷ xs) t ≡ true) (λ t h. or_right (int_eq t x) (is_member int_eq xs t) h) xs (members xs),
)

-- so do their changes
changes_end : (cuts : List ℤ) (ranges : List TokenRange) (before after : List (List ℕ)) → AllByRecursion (λ r. is_cut_right cuts r.right ≡ true) ranges → EndAtCuts cuts (change_rows ranges before after)
changes_end cuts [] before after ends = tt
changes_end cuts (range ∷ ranges) [] after ends = tt
changes_end cuts (range ∷ ranges) (b ∷ before) [] ends = tt
changes_end cuts (range ∷ ranges) (b ∷ before) (a ∷ after) ends = (ends.0, changes_end cuts ranges before after ends.1)

-- ---- what is joined of whole rows

whole_is : (ranges : List TokenRange) (before after : List (List ℕ)) → AreNext None ranges → AreWhole ranges → length before ≡ length ranges → length after ≡ length ranges
    → IsDelta (joined_from None (change_rows ranges before after))
whole_is [] before after next whole one two = absurd whole
whole_is (range ∷ ranges) [] after next whole one two = absurd (omega arith)
whole_is (range ∷ ranges) (b ∷ before) [] next whole one two = absurd (omega arith)
whole_is (range ∷ ranges) (b ∷ before) (a ∷ after) next whole one two =
    joined_is (change_row range.right b a) (change_rows ranges before after) (changes_climb range ranges b a before after next.3 whole (omega arith) (omega arith))

whole_shows : (ranges : List TokenRange) (before after : List (List ℕ)) → AreNext None ranges → AreWhole ranges → length before ≡ length ranges → length after ≡ length ranges
    → ShowsChanges ranges before after (joined_from None (change_rows ranges before after))
whole_shows [] before after next whole one two = absurd whole
whole_shows (range ∷ ranges) [] after next whole one two = absurd (omega arith)
whole_shows (range ∷ ranges) (b ∷ before) [] next whole one two = absurd (omega arith)
whole_shows (range ∷ ranges) (b ∷ before) (a ∷ after) next whole one two =
    changes_shown None (range ∷ ranges) (b ∷ before) (a ∷ after) (joined_from None (change_rows (range ∷ ranges) (b ∷ before) (a ∷ after))) next
    (λ x past top. joined_at (change_row range.right b a) (change_rows ranges before after) x (changes_climb range ranges b a before after next.3 whole (omega arith) (omega arith)) top)

whole_ends : (cuts : List ℤ) (rows : List DeltaRow) → EndAtCuts cuts rows → EndAtCuts cuts (joined_from None rows)
whole_ends cuts [] ends = tt
whole_ends cuts (row ∷ rows) ends = joined_ends cuts row rows ends

-- ---- what is joined of the rows between cuts

module _ (cuts : List ℤ) (before after : List (List ℕ)) where
  pub between_is : IsStrictlySortedBy int_cmp cuts → AllByRecursion IsToken cuts → length before ≡ length (rows_between cuts) → length after ≡ length (rows_between cuts)
      → IsDelta (joined_from None (change_rows (rows_between cuts) before after))
  between_is up tokens one two = whole_is (rows_between cuts) before after (rows_next cuts up tokens) (are_whole cuts) one two

  pub between_shows : IsStrictlySortedBy int_cmp cuts → AllByRecursion IsToken cuts → length before ≡ length (rows_between cuts) → length after ≡ length (rows_between cuts)
      → ShowsChanges (rows_between cuts) before after (joined_from None (change_rows (rows_between cuts) before after))
  between_shows up tokens one two = whole_shows (rows_between cuts) before after (rows_next cuts up tokens) (are_whole cuts) one two

  pub between_ends : EndAtCuts cuts (joined_from None (change_rows (rows_between cuts) before after))
  between_ends = whole_ends cuts (change_rows (rows_between cuts) before after) (changes_end cuts (rows_between cuts) before after (ranges_end cuts None cuts (members cuts)))
