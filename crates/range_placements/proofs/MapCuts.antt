-- A cut more and a cut less: the rows stay a map, and each token keeps its reads and writes.
use Rattle.std.proofs.Common.{IfOk, filter, not, Result, Ok, Err, MatchResult, ◌≡◌, ℕ, zero, suc, ◌<◌, Bool, true, false, if◌then◌else◌, ℤ, pos, ◌+ℤ◌, ◌≤ℤ◌, int_lt, int_le, List, [], ◌∷◌, ◌++◌, length, get_or, slice_set, refl, sym, ap, ◌∙◌, ◌⊎◌, inl, inr, arith}
use Rattle.std.specs.List.{cons_option, insert, remove}
use Rattle.std.specs.Ordering.{int_cmp, int_eq, match_ordering}
use Rattle.std.specs.Set.{is_member}
use Rattle.std.specs.declared.cmp.Ordering.TheVariants.{Less, Equal, Greater}
use Rattle.std.proofs.lemmas.Bool.{false≢true, or_cases, or_parts, true≢false}
use Rattle.std.proofs.lemmas.Bool.Decides.{Decides-int_eq}
use Rattle.std.proofs.lemmas.Int.{ints}
use Rattle.cluster_terms.proofs.rows.RingRows.{before_tail}
use Rattle.cluster_terms.specs.Arc.{greatest_token}
use Rattle.cluster_terms.specs.Ascending.{put}
use Rattle.cluster_terms.specs.Row.{last_token}
use Rattle.cluster_terms.specs.declared.token.RightEnd.{RightEnd}
use Rattle.cluster_terms.specs.declared.token.RightEnd.TheVariants.{At, Max}
use Rattle.range_placements.proofs.MapRows.{Past, Splits, map_cons, within_top}
use Rattle.range_placements.specs.Placements.{HasSameSides, IsPlacementMap, cut_of, cuts_of, row_until, is_cut_of, merged_row, merged_rows, map_at, placement_in, split_row, split_rows}
use Rattle.range_placements.specs.declared.placement_row.PlacementRow.{PlacementRow}

-- ---- tokens

between : (w t : ℤ) → int_lt w t ≡ false → int_lt t w ≡ false → w ≡ t
between w t h k = grind (arith, ints)

-- ---- a cut more

split_past : (w : ℤ) (rows : List PlacementRow) (t : ℤ) → int_lt w t ≡ true → Past w rows → Past w (split_rows rows t)
split_past w [] t lt past = past
split_past w (row ∷ rows) t lt past = by (int_lt (last_token row.right) t)
  where
    by : (b : Bool) → Past w (if b then row ∷ split_rows rows t else split_row row t ++ rows)
    by true = past
    by false = lt

pub split_map : (rows : List PlacementRow) (t : ℤ) → IsPlacementMap rows → IsPlacementMap (split_rows rows t)
split_map [] t map = map
split_map (row ∷ []) t map = by (int_lt (last_token row.right) t) refl
  where
    parts : (b : Bool) → int_lt t (last_token row.right) ≡ b → int_lt (last_token row.right) t ≡ false → IsPlacementMap ((row_until row (At t) ∷ (if b then row ∷ [] else [])) ++ [])
    parts true before upto = (before, map)
    parts false before upto = sym (between (last_token row.right) t upto before) ∙ map

    by : (b : Bool) → int_lt (last_token row.right) t ≡ b → IsPlacementMap (if b then row ∷ [] else split_row row t ++ [])
    by true lt = map
    by false upto = parts (int_lt t (last_token row.right)) refl upto
split_map (row ∷ next ∷ rows) t map = by (int_lt (last_token row.right) t) refl (split_map (next ∷ rows) t map.1)
  where
    parts : (b : Bool) → int_lt t (last_token row.right) ≡ b → int_lt (last_token row.right) t ≡ false → IsPlacementMap ((row_until row (At t) ∷ (if b then row ∷ [] else [])) ++ next ∷ rows)
    parts true before upto = (before, map)
    parts false before upto = (ap (λ w. int_lt w (last_token next.right)) (sym (between (last_token row.right) t upto before)) ∙ map.0, map.1)

    by : (b : Bool) → int_lt (last_token row.right) t ≡ b → IsPlacementMap (split_rows (next ∷ rows) t) → IsPlacementMap (if b then row ∷ split_rows (next ∷ rows) t else split_row row t ++ next ∷ rows)
    by true lt rest = map_cons row (split_rows (next ∷ rows) t) (split_past (last_token row.right) (next ∷ rows) t lt map.0) rest
    by false upto rest = parts (int_lt t (last_token row.right)) refl upto

-- after a split that ended well or badly
pub split_or_kept : {E : Type 0} (result : Result Unit E) (new rows : List PlacementRow) (t : ℤ) → MatchResult result (λ _. new ≡ split_rows rows t) (λ _. new ≡ rows) → (new ≡ split_rows rows t) ⊎ (new ≡ rows)
split_or_kept (Ok done) new rows t is = inl is
split_or_kept (Err e) new rows t is = inr is

pub split_same : (rows : List PlacementRow) (t x : ℤ) → map_at (split_rows rows t) x ≡ map_at rows x
split_same [] t x = refl
split_same (row ∷ rows) t x = by (int_lt (last_token row.right) t) refl (split_same rows t x)
  where
    sooner : (w : ℤ) → int_lt t w ≡ true → int_le x t ≡ true → int_le x w ≡ true
    sooner w lt le = grind (arith, ints)

    first : (b : Bool) → int_le x t ≡ b → int_lt t (last_token row.right) ≡ true → (if b then placement_in row else map_at (row ∷ rows) x) ≡ map_at (row ∷ rows) x
    first true le before = ap (λ c. if c then placement_in row else map_at rows x) (sym (sooner (last_token row.right) before le))
    first false le before = refl

    parts : (b : Bool) → int_lt t (last_token row.right) ≡ b → int_lt (last_token row.right) t ≡ false → map_at ((row_until row (At t) ∷ (if b then row ∷ [] else [])) ++ rows) x ≡ map_at (row ∷ rows) x
    parts true before upto = first (int_le x t) refl before
    parts false before upto = ap (λ w. if int_le x w then placement_in row else map_at rows x) (sym (between (last_token row.right) t upto before))

    by : (b : Bool) → int_lt (last_token row.right) t ≡ b → map_at (split_rows rows t) x ≡ map_at rows x
        → map_at (if b then row ∷ split_rows rows t else split_row row t ++ rows) x ≡ map_at (row ∷ rows) x
    by true lt rest = ap (λ p. if int_le x (last_token row.right) then placement_in row else p) rest
    by false upto rest = parts (int_lt t (last_token row.right)) refl upto

-- where k rows end before a token and the next row ends at it, that row ends in it
pub split_at_end : (rows : List PlacementRow) (t : ℤ) (k : ℕ) (d : PlacementRow) → Splits t rows k → k < length rows → last_token (get_or rows k d).right ≡ t
    → slice_set rows k (row_until (get_or rows k d) (At t)) ≡ split_rows rows t
split_at_end [] t k d split within end = absurd (omega arith)
split_at_end (row ∷ rows) t zero d split within end =
    let upto : int_lt (last_token row.right) t ≡ false = split.1 0 d (omega arith) (omega arith) in
    let last : int_lt t (last_token row.right) ≡ false = grind (arith, ints) in
    ap (λ b. (row_until row (At t) ∷ (if b then row ∷ [] else [])) ++ rows) (sym last) ∙ ap (λ b. if b then row ∷ split_rows rows t else split_row row t ++ rows) (sym upto)
split_at_end (row ∷ rows) t (suc k) d split within end =
    let low : int_lt (last_token row.right) t ≡ true = split.0 0 d (omega arith) (omega arith) in
    ap (λ rs. row ∷ rs) (split_at_end rows t k d (before_tail (λ (r : PlacementRow). r.right) row rows t k (omega arith) split) (omega arith) end)
    ∙ ap (λ b. if b then row ∷ split_rows rows t else split_row row t ++ rows) (sym low)

-- where the next row ends past the token, a row up to the token comes before it
pub split_before : (rows : List PlacementRow) (t : ℤ) (k : ℕ) (d : PlacementRow) → Splits t rows k → k < length rows → (last_token (get_or rows k d).right ≡ t → ⊥)
    → insert rows k (row_until (get_or rows k d) (At t)) ≡ split_rows rows t
split_before [] t k d split within other = absurd (omega arith)
split_before (row ∷ rows) t zero d split within other =
    let upto : int_lt (last_token row.right) t ≡ false = split.1 0 d (omega arith) (omega arith) in
    let more : int_lt t (last_token row.right) ≡ true = past (int_lt t (last_token row.right)) refl upto in
    ap (λ b. (row_until row (At t) ∷ (if b then row ∷ [] else [])) ++ rows) (sym more) ∙ ap (λ b. if b then row ∷ split_rows rows t else split_row row t ++ rows) (sym upto)
  where
    past : (b : Bool) → int_lt t (last_token row.right) ≡ b → int_lt (last_token row.right) t ≡ false → b ≡ true
    past true is upto = refl
    past false is upto = absurd (other (between (last_token row.right) t upto is))
split_before (row ∷ rows) t (suc k) d split within other =
    let low : int_lt (last_token row.right) t ≡ true = split.0 0 d (omega arith) (omega arith) in
    ap (λ rs. row ∷ rs) (split_before rows t k d (before_tail (λ (r : PlacementRow). r.right) row rows t k (omega arith) split) (omega arith) other)
    ∙ ap (λ b. if b then row ∷ split_rows rows t else split_row row t ++ rows) (sym low)

-- ---- a cut less

merged_past : (w : ℤ) (rows : List PlacementRow) (t : ℤ) → IsPlacementMap rows → Past w rows → Past w (merged_rows rows t)
merged_past w [] t map past = past
merged_past w (row ∷ []) t map past = by (int_lt (last_token row.right) t)
  where
    by : (b : Bool) → Past w (if b then row ∷ [] else row_until row Max ∷ [])
    by true = past
    by false = ap (int_lt w) (sym map) ∙ past
merged_past w (row ∷ next ∷ rows) t map past = by (int_lt (last_token row.right) t)
  where
    farther : (a b : ℤ) → int_lt w a ≡ true → int_lt a b ≡ true → int_lt w b ≡ true
    farther a b h k = grind (arith, ints)

    by : (b : Bool) → Past w (if b then row ∷ merged_rows (next ∷ rows) t else next ∷ rows)
    by true = past
    by false = farther (last_token row.right) (last_token next.right) past map.0

pub merged_map : (rows : List PlacementRow) (t : ℤ) → IsPlacementMap rows → IsPlacementMap (merged_rows rows t)
merged_map [] t map = map
merged_map (row ∷ []) t map = by (int_lt (last_token row.right) t)
  where
    by : (b : Bool) → IsPlacementMap (if b then row ∷ [] else row_until row Max ∷ [])
    by true = map
    by false = refl
merged_map (row ∷ next ∷ rows) t map = by (int_lt (last_token row.right) t) (merged_map (next ∷ rows) t map.1)
  where
    by : (b : Bool) → IsPlacementMap (merged_rows (next ∷ rows) t) → IsPlacementMap (if b then row ∷ merged_rows (next ∷ rows) t else next ∷ rows)
    by true rest = map_cons row (merged_rows (next ∷ rows) t) (merged_past (last_token row.right) (next ∷ rows) t map.1 map.0) rest
    by false rest = map.1

-- a cut is the last token of a row
cut_or : (row : PlacementRow) (rows : List PlacementRow) (t : ℤ) → is_cut_of (row ∷ rows) t ≡ true → (last_token row.right ≡ t) ⊎ (is_cut_of rows t ≡ true)
cut_or row rows t = by row.right
  where
    here : (s : ℤ) → int_eq t s ≡ true → s ≡ t
    here s h = sym ((Decides-int_eq t s).0 h)

    by : (right : RightEnd) → is_member int_eq (cons_option (cut_of right) (cuts_of rows)) t ≡ true → (last_token right ≡ t) ⊎ (is_cut_of rows t ≡ true)
    by (At s) h = elim (or_cases (int_eq t s) (is_cut_of rows t) h) [ inl same ↦ inl (here s same) | inr later ↦ inr later ]
    by Max h = inr h

-- the cuts of the rows after a row are past it
cuts_later : (row : PlacementRow) (rows : List PlacementRow) (t : ℤ) → IsPlacementMap (row ∷ rows) → is_cut_of rows t ≡ true → int_lt (last_token row.right) t ≡ true
cuts_later row [] t map h = absurd (false≢true h)
cuts_later row (next ∷ rows) t map h = by (cut_or next rows t h) (λ later. cuts_later next rows t map.1 later)
  where
    past : (a b : ℤ) → int_lt a b ≡ true → int_lt b t ≡ true → int_lt a t ≡ true
    past a b h k = grind (arith, ints)

    by : (last_token next.right ≡ t) ⊎ (is_cut_of rows t ≡ true) → (is_cut_of rows t ≡ true → int_lt (last_token next.right) t ≡ true) → int_lt (last_token row.right) t ≡ true
    by (inl is) rest = ap (int_lt (last_token row.right)) (sym is) ∙ map.0
    by (inr later) rest = past (last_token row.right) (last_token next.right) map.0 (rest later)

-- the first row that ends at or after a cut ends in it
cut_first : (row : PlacementRow) (rows : List PlacementRow) (t : ℤ) → IsPlacementMap (row ∷ rows) → is_cut_of (row ∷ rows) t ≡ true → int_lt (last_token row.right) t ≡ false → last_token row.right ≡ t
cut_first row rows t map h upto = by (cut_or row rows t h)
  where
    by : (last_token row.right ≡ t) ⊎ (is_cut_of rows t ≡ true) → last_token row.right ≡ t
    by (inl is) = is
    by (inr later) = absurd (true≢false (sym (cuts_later row rows t map later) ∙ upto))

-- a cut past the first row is a cut of the others
cut_tail : (row : PlacementRow) (rows : List PlacementRow) (t : ℤ) → is_cut_of (row ∷ rows) t ≡ true → int_lt (last_token row.right) t ≡ true → is_cut_of rows t ≡ true
cut_tail row rows t h lt = by (cut_or row rows t h)
  where
    none : (w : ℤ) → w ≡ t → int_lt w t ≡ true → ⊥
    none w is k = grind (arith, ints)

    by : (last_token row.right ≡ t) ⊎ (is_cut_of rows t ≡ true) → is_cut_of rows t ≡ true
    by (inl is) = absurd (none (last_token row.right) is lt)
    by (inr later) = later

-- the first row tells nothing of tokens past it
past_row : (row : PlacementRow) (rows : List PlacementRow) (x : ℤ) → int_lt (last_token row.right) x ≡ true → map_at (row ∷ rows) x ≡ map_at rows x
past_row row rows x lt = ap (λ b. if b then placement_in row else map_at rows x) (later (last_token row.right) lt)
  where
    later : (w : ℤ) → int_lt w x ≡ true → int_le x w ≡ false
    later w h = grind (arith, ints)

-- the first row has the tokens up to its last one
in_row : (row : PlacementRow) (rows : List PlacementRow) (x : ℤ) → int_le x (last_token row.right) ≡ true → map_at (row ∷ rows) x ≡ placement_in row
in_row row rows x le = ap (λ b. if b then placement_in row else map_at rows x) le

sides_tail : (row : PlacementRow) (rows : List PlacementRow) (t : ℤ) → int_lt (last_token row.right) t ≡ true → HasSameSides (row ∷ rows) t → HasSameSides rows t
sides_tail row rows t lt sides below = sym (past_row row rows t lt) ∙ sides below ∙ past_row row rows (t +ℤ pos 1) (more (last_token row.right) lt)
  where
    more : (w : ℤ) → int_lt w t ≡ true → int_lt w (t +ℤ pos 1) ≡ true
    more w h = grind (arith, ints)

-- at a row that ends in a cut, the row after it has the same reads and writes
sides_first : (row next : PlacementRow) (rows : List PlacementRow) (t : ℤ) → IsPlacementMap (row ∷ next ∷ rows) → last_token row.right ≡ t → HasSameSides (row ∷ next ∷ rows) t → placement_in row ≡ placement_in next
sides_first row next rows t map is sides =
    sym (in_row row (next ∷ rows) t (upto (last_token row.right) is))
    ∙ sides (under (last_token row.right) (last_token next.right) is map.0 (within_top next rows map.1))
    ∙ past_row row (next ∷ rows) (t +ℤ pos 1) (after (last_token row.right) is)
    ∙ in_row next rows (t +ℤ pos 1) (before (last_token row.right) (last_token next.right) is map.0)
  where
    upto : (w : ℤ) → w ≡ t → int_le t w ≡ true
    upto w is = grind (arith, ints)

    under : (w v : ℤ) → w ≡ t → int_lt w v ≡ true → v ≤ℤ greatest_token → int_lt t greatest_token ≡ true
    under w v is h k = grind (arith, ints)

    after : (w : ℤ) → w ≡ t → int_lt w (t +ℤ pos 1) ≡ true
    after w is = grind (arith, ints)

    before : (w v : ℤ) → w ≡ t → int_lt w v ≡ true → int_le (t +ℤ pos 1) v ≡ true
    before w v is h = grind (arith, ints)

pub merged_same : (rows : List PlacementRow) (t x : ℤ) → IsPlacementMap rows → is_cut_of rows t ≡ true → HasSameSides rows t → map_at (merged_rows rows t) x ≡ map_at rows x
merged_same [] t x map cut sides = refl
merged_same (row ∷ []) t x map cut sides = by (int_lt (last_token row.right) t)
  where
    by : (b : Bool) → map_at (if b then row ∷ [] else row_until row Max ∷ []) x ≡ map_at (row ∷ []) x
    by true = refl
    by false = ap (λ w. if int_le x w then placement_in row else ([], [])) (sym map)
merged_same (row ∷ next ∷ rows) t x map cut sides =
    by (int_lt (last_token row.right) t) refl (λ lt. merged_same (next ∷ rows) t x map.1 (cut_tail row (next ∷ rows) t cut lt) (sides_tail row (next ∷ rows) t lt sides))
  where
    sooner : (a b : ℤ) → int_lt a b ≡ true → int_le x a ≡ true → int_le x b ≡ true
    sooner a b lt le = grind (arith, ints)

    joined : (b : Bool) → int_le x (last_token row.right) ≡ b → placement_in row ≡ placement_in next → map_at (next ∷ rows) x ≡ (if b then placement_in row else map_at (next ∷ rows) x)
    joined true le same = in_row next rows x (sooner (last_token row.right) (last_token next.right) map.0 le) ∙ sym same
    joined false le same = refl

    by : (b : Bool) → int_lt (last_token row.right) t ≡ b → (int_lt (last_token row.right) t ≡ true → map_at (merged_rows (next ∷ rows) t) x ≡ map_at (next ∷ rows) x)
        → map_at (if b then row ∷ merged_rows (next ∷ rows) t else next ∷ rows) x ≡ map_at (row ∷ next ∷ rows) x
    by true lt rest = ap (λ p. if int_le x (last_token row.right) then placement_in row else p) (rest lt)
    by false upto rest = joined (int_le x (last_token row.right)) refl (sides_first row next rows t map (cut_first row (next ∷ rows) t map cut upto) sides)

-- the last row alone ends in Max
only_last : (row : PlacementRow) (rows : List PlacementRow) → IsPlacementMap (row ∷ rows) → last_token row.right ≡ greatest_token → rows ≡ []
only_last row [] map max = refl
only_last row (next ∷ rows) map max = absurd (none (last_token row.right) (last_token next.right) max map.0 (within_top next rows map.1))
  where
    none : (w v : ℤ) → w ≡ greatest_token → int_lt w v ≡ true → v ≤ℤ greatest_token → ⊥
    none w v is h k = grind (arith, ints)

-- ---- the cuts after a cut more

-- a token put before, in the place of or after the first cut
put_less : (t s : ℤ) (cuts : List ℤ) → int_lt t s ≡ true → put int_cmp t (s ∷ cuts) ≡ t ∷ s ∷ cuts
put_less t s cuts lt = ap (λ o. match_ordering o (t ∷ s ∷ cuts) (t ∷ cuts) (s ∷ put int_cmp t cuts)) (less t s lt)
  where
    less : (t s : ℤ) → int_lt t s ≡ true → int_cmp t s ≡ Less
    less t s lt = grind (arith, ints)

put_equal : (t s : ℤ) (cuts : List ℤ) → s ≡ t → put int_cmp t (s ∷ cuts) ≡ t ∷ cuts
put_equal t s cuts is = ap (λ o. match_ordering o (t ∷ s ∷ cuts) (t ∷ cuts) (s ∷ put int_cmp t cuts)) (equal t s is)
  where
    equal : (t s : ℤ) → s ≡ t → int_cmp t s ≡ Equal
    equal t s is = grind (arith, ints)

put_greater : (t s : ℤ) (cuts : List ℤ) → int_lt s t ≡ true → put int_cmp t (s ∷ cuts) ≡ s ∷ put int_cmp t cuts
put_greater t s cuts lt = ap (λ o. match_ordering o (t ∷ s ∷ cuts) (t ∷ cuts) (s ∷ put int_cmp t cuts)) (greater t s lt)
  where
    greater : (t s : ℤ) → int_lt s t ≡ true → int_cmp t s ≡ Greater
    greater t s lt = grind (arith, ints)

-- the cuts of a row that ends before a token, of one that ends past it, and of one that ends at it
cuts_before : (right : RightEnd) (t : ℤ) (cuts : List ℤ) → t ≤ℤ greatest_token → int_lt (last_token right) t ≡ true → cons_option (cut_of right) (put int_cmp t cuts) ≡ put int_cmp t (cons_option (cut_of right) cuts)
cuts_before (At s) t cuts top lt = sym (put_greater t s cuts lt)
cuts_before Max t cuts top lt = refl

cuts_past : (row : PlacementRow) (rows : List PlacementRow) (t : ℤ) → IsPlacementMap (row ∷ rows) → int_lt t (last_token row.right) ≡ true → t ∷ cuts_of (row ∷ rows) ≡ put int_cmp t (cuts_of (row ∷ rows))
cuts_past row rows t map lt = by row.right lt (only_last row rows map)
  where
    by : (right : RightEnd) → int_lt t (last_token right) ≡ true → (last_token right ≡ greatest_token → rows ≡ []) → t ∷ cons_option (cut_of right) (cuts_of rows) ≡ put int_cmp t (cons_option (cut_of right) (cuts_of rows))
    by (At s) lt last = sym (put_less t s (cuts_of rows) lt)
    by Max lt last = ap (λ (rs : List PlacementRow). t ∷ cuts_of rs) (last refl) ∙ ap (λ (rs : List PlacementRow). put int_cmp t (cuts_of rs)) (sym (last refl))

cuts_at : (row : PlacementRow) (rows : List PlacementRow) (t : ℤ) → IsPlacementMap (row ∷ rows) → last_token row.right ≡ t → t ∷ cuts_of rows ≡ put int_cmp t (cuts_of (row ∷ rows))
cuts_at row rows t map is = by row.right is (only_last row rows map)
  where
    by : (right : RightEnd) → last_token right ≡ t → (last_token right ≡ greatest_token → rows ≡ []) → t ∷ cuts_of rows ≡ put int_cmp t (cons_option (cut_of right) (cuts_of rows))
    by (At s) is last = sym (put_equal t s (cuts_of rows) is)
    by Max is last = ap (λ (rs : List PlacementRow). t ∷ cuts_of rs) (last refl) ∙ ap (λ (rs : List PlacementRow). put int_cmp t (cuts_of rs)) (sym (last refl))

pub split_cuts : (rows : List PlacementRow) (t : ℤ) → IsPlacementMap rows → t ≤ℤ greatest_token → cuts_of (split_rows rows t) ≡ put int_cmp t (cuts_of rows)
split_cuts [] t map top = absurd map
split_cuts (row ∷ rows) t map top = by (int_lt (last_token row.right) t) refl (rest rows map (λ is. split_cuts rows t is top))
  where
    none : (w : ℤ) → w ≡ greatest_token → int_lt w t ≡ true → ⊥
    none w is lt = grind (arith, ints)

    rest : (rows : List PlacementRow) → IsPlacementMap (row ∷ rows) → (IsPlacementMap rows → cuts_of (split_rows rows t) ≡ put int_cmp t (cuts_of rows)) → int_lt (last_token row.right) t ≡ true
        → cuts_of (split_rows rows t) ≡ put int_cmp t (cuts_of rows)
    rest [] map more lt = absurd (none (last_token row.right) map lt)
    rest (next ∷ rows) map more lt = more map.1

    parts : (b : Bool) → int_lt t (last_token row.right) ≡ b → int_lt (last_token row.right) t ≡ false → cuts_of ((row_until row (At t) ∷ (if b then row ∷ [] else [])) ++ rows) ≡ put int_cmp t (cuts_of (row ∷ rows))
    parts true before upto = cuts_past row rows t map before
    parts false before upto = cuts_at row rows t map (between (last_token row.right) t upto before)

    by : (b : Bool) → int_lt (last_token row.right) t ≡ b → (int_lt (last_token row.right) t ≡ true → cuts_of (split_rows rows t) ≡ put int_cmp t (cuts_of rows))
        → cuts_of (if b then row ∷ split_rows rows t else split_row row t ++ rows) ≡ put int_cmp t (cuts_of (row ∷ rows))
    by true lt more = ap (cons_option (cut_of row.right)) (more lt) ∙ cuts_before row.right t (cuts_of rows) top lt
    by false upto more = parts (int_lt t (last_token row.right)) refl upto

pub split_adds : {E : Type 0} (result : Result Unit E) (new rows : List PlacementRow) (t : ℤ) → IsPlacementMap rows → t ≤ℤ greatest_token
    → MatchResult result (λ _. new ≡ split_rows rows t) (λ _. new ≡ rows) → IfOk result (λ _. cuts_of new ≡ put int_cmp t (cuts_of rows))
split_adds (Ok done) new rows t map top is = ap cuts_of is ∙ split_cuts rows t map top
split_adds (Err e) new rows t map top is = tt

-- ---- the cuts after a cut less

-- a token that is no cut is removed from none
none_out : (cuts : List ℤ) (t : ℤ) → is_member int_eq cuts t ≡ false → filter (λ s. not (int_eq t s)) cuts ≡ cuts
none_out [] t free = refl
none_out (s ∷ cuts) t free =
    let parts = or_parts (int_eq t s) (is_member int_eq cuts t) free in
    ap (λ b. if not b then s ∷ filter (λ s. not (int_eq t s)) cuts else filter (λ s. not (int_eq t s)) cuts) parts.0 ∙ ap (λ ss. s ∷ ss) (none_out cuts t parts.1)

-- a first cut before the token stays, and one that is the token goes
first_stays : (right : RightEnd) (cuts : List ℤ) (t : ℤ) → int_lt (last_token right) t ≡ true → filter (λ s. not (int_eq t s)) (cons_option (cut_of right) cuts) ≡ cons_option (cut_of right) (filter (λ s. not (int_eq t s)) cuts)
first_stays (At s) cuts t lt = ap (λ b. if not b then s ∷ filter (λ s. not (int_eq t s)) cuts else filter (λ s. not (int_eq t s)) cuts) (other s lt)
  where
    other : (s : ℤ) → int_lt s t ≡ true → int_eq t s ≡ false
    other s lt = grind (arith, ints)
first_stays Max cuts t lt = refl

first_goes : (right : RightEnd) (cuts : List ℤ) (t : ℤ) → last_token right ≡ t → filter (λ s. not (int_eq t s)) (cons_option (cut_of right) cuts) ≡ filter (λ s. not (int_eq t s)) cuts
first_goes (At s) cuts t is = ap (λ b. if not b then s ∷ filter (λ s. not (int_eq t s)) cuts else filter (λ s. not (int_eq t s)) cuts) ((Decides-int_eq t s).1 (sym is))
first_goes Max cuts t is = refl

pub merged_cuts : (rows : List PlacementRow) (t : ℤ) → IsPlacementMap rows → is_cut_of rows t ≡ true → cuts_of (merged_rows rows t) ≡ filter (λ s. not (int_eq t s)) (cuts_of rows)
merged_cuts [] t map cut = refl
merged_cuts (row ∷ []) t map cut = by (int_lt (last_token row.right) t) refl
  where
    by : (b : Bool) → int_lt (last_token row.right) t ≡ b → cuts_of (if b then row ∷ [] else row_until row Max ∷ []) ≡ filter (λ s. not (int_eq t s)) (cuts_of (row ∷ []))
    by true lt = absurd (false≢true (cut_tail row [] t cut lt))
    by false upto = sym (first_goes row.right [] t (cut_first row [] t map cut upto))
merged_cuts (row ∷ next ∷ rows) t map cut = by (int_lt (last_token row.right) t) refl (λ lt. merged_cuts (next ∷ rows) t map.1 (cut_tail row (next ∷ rows) t cut lt))
  where
    no_other : (b : Bool) → is_cut_of (next ∷ rows) t ≡ b → int_lt (last_token row.right) t ≡ false → b ≡ false
    no_other true is upto = absurd (true≢false (sym (cuts_later row (next ∷ rows) t map is) ∙ upto))
    no_other false is upto = refl

    by : (b : Bool) → int_lt (last_token row.right) t ≡ b → (int_lt (last_token row.right) t ≡ true → cuts_of (merged_rows (next ∷ rows) t) ≡ filter (λ s. not (int_eq t s)) (cuts_of (next ∷ rows)))
        → cuts_of (if b then row ∷ merged_rows (next ∷ rows) t else next ∷ rows) ≡ filter (λ s. not (int_eq t s)) (cuts_of (row ∷ next ∷ rows))
    by true lt more = ap (cons_option (cut_of row.right)) (more lt) ∙ sym (first_stays row.right (cuts_of (next ∷ rows)) t lt)
    by false upto more =
        sym (none_out (cuts_of (next ∷ rows)) t (no_other (is_cut_of (next ∷ rows) t) refl upto)) ∙ sym (first_goes row.right (cuts_of (next ∷ rows)) t (cut_first row (next ∷ rows) t map cut upto))

-- ---- a cut more, and the same cut less

-- what is no cut is no cut of the rows after the first
free_tail : (row : PlacementRow) (rows : List PlacementRow) (t : ℤ) → is_cut_of (row ∷ rows) t ≡ false → is_cut_of rows t ≡ false
free_tail row rows t = by row.right
  where
    by : (right : RightEnd) → is_member int_eq (cons_option (cut_of right) (cuts_of rows)) t ≡ false → is_cut_of rows t ≡ false
    by (At s) free = (or_parts (int_eq t s) (is_cut_of rows t) free).1
    by Max free = free

-- a row that ends at a token which is no cut ends in Max
ends_in_max : (row : PlacementRow) (rows : List PlacementRow) (t : ℤ) → is_cut_of (row ∷ rows) t ≡ false → last_token row.right ≡ t → row.right ≡ Max
ends_in_max row rows t = by row.right
  where
    by : (right : RightEnd) → is_member int_eq (cons_option (cut_of right) (cuts_of rows)) t ≡ false → last_token right ≡ t → right ≡ Max
    by (At s) free is = absurd (true≢false (sym ((Decides-int_eq t s).1 (sym is)) ∙ (or_parts (int_eq t s) (is_cut_of rows t) free).0))
    by Max free is = refl

pub split_undone : (rows : List PlacementRow) (t : ℤ) → IsPlacementMap rows → is_cut_of rows t ≡ false → merged_rows (split_rows rows t) t ≡ rows
split_undone [] t map free = refl
split_undone (row ∷ rows) t map free = by (int_lt (last_token row.right) t) refl (rest rows map (λ is. split_undone rows t is (free_tail row rows t free)))
  where
    rest : (rows : List PlacementRow) → IsPlacementMap (row ∷ rows) → (IsPlacementMap rows → merged_rows (split_rows rows t) t ≡ rows) → merged_rows (split_rows rows t) t ≡ rows
    rest [] map more = refl
    rest (next ∷ rows) map more = more map.1

    itself : int_lt t t ≡ false
    itself = grind (arith, ints)

    alone : last_token row.right ≡ t → row_until row Max ∷ [] ≡ row ∷ rows
    alone is =
        let max : row.right ≡ Max = ends_in_max row rows t free is in
        let last : rows ≡ [] = only_last row rows map (ap last_token max) in
        ap (λ right. row_until row right ∷ []) (sym max) ∙ ap (λ rs. row ∷ rs) (sym last)

    joined : (rows : List PlacementRow) → rows ≡ [] → merged_row (row_until row (At t)) rows ≡ row_until row Max ∷ []
    joined [] is = refl
    joined (next ∷ rows) is = absurd (some (ap length is))
      where
        some : length (next ∷ rows) ≡ 0 → ⊥
        some is = omega arith

    parts : (b : Bool) → int_lt t (last_token row.right) ≡ b → int_lt (last_token row.right) t ≡ false → merged_rows ((row_until row (At t) ∷ (if b then row ∷ [] else [])) ++ rows) t ≡ row ∷ rows
    parts true before upto = ap (λ b. if b then row_until row (At t) ∷ merged_rows (row ∷ rows) t else row ∷ rows) itself
    parts false before upto =
        let is = between (last_token row.right) t upto before in
        ap (λ b. if b then row_until row (At t) ∷ merged_rows rows t else merged_row (row_until row (At t)) rows) itself
        ∙ joined rows (only_last row rows map (ap last_token (ends_in_max row rows t free is))) ∙ alone is

    by : (b : Bool) → int_lt (last_token row.right) t ≡ b → merged_rows (split_rows rows t) t ≡ rows → merged_rows (if b then row ∷ split_rows rows t else split_row row t ++ rows) t ≡ row ∷ rows
    by true lt more = ap (λ b. if b then row ∷ merged_rows (split_rows rows t) t else merged_row row (split_rows rows t)) lt ∙ ap (λ rs. row ∷ rs) more
    by false upto more = parts (int_lt t (last_token row.right)) refl upto

-- ---- a cut less in a vector

-- where k rows end before a cut, the row after these is joined with the one after it
pub merged_at : (rows : List PlacementRow) (t : ℤ) (k : ℕ) → Splits t rows k → suc k < length rows → remove rows k ≡ merged_rows rows t
merged_at [] t k split within = absurd (omega arith)
merged_at (row ∷ []) t k split within = absurd (omega arith)
merged_at (row ∷ next ∷ rows) t zero split within =
    let upto : int_lt (last_token row.right) t ≡ false = split.1 0 row (omega arith) (omega arith) in
    ap (λ b. if b then row ∷ merged_rows (next ∷ rows) t else next ∷ rows) (sym upto)
merged_at (row ∷ next ∷ rows) t (suc k) split within =
    let low : int_lt (last_token row.right) t ≡ true = split.0 0 row (omega arith) (omega arith) in
    ap (λ rs. row ∷ rs) (merged_at (next ∷ rows) t k (before_tail (λ (r : PlacementRow). r.right) row (next ∷ rows) t k (omega arith) split) (omega arith))
    ∙ ap (λ b. if b then row ∷ merged_rows (next ∷ rows) t else next ∷ rows) (sym low)

-- at the last row the right end becomes Max
pub merged_last : (rows : List PlacementRow) (t : ℤ) (k : ℕ) (d : PlacementRow) → Splits t rows k → suc k ≡ length rows → slice_set rows k (row_until (get_or rows k d) Max) ≡ merged_rows rows t
merged_last [] t k d split last = absurd (omega arith)
merged_last (row ∷ []) t zero d split last =
    let upto : int_lt (last_token row.right) t ≡ false = split.1 0 row (omega arith) (omega arith) in
    ap (λ b. if b then row ∷ [] else row_until row Max ∷ []) (sym upto)
merged_last (row ∷ []) t (suc k) d split last = absurd (omega arith)
merged_last (row ∷ next ∷ rows) t zero d split last = absurd (omega arith)
merged_last (row ∷ next ∷ rows) t (suc k) d split last =
    let low : int_lt (last_token row.right) t ≡ true = split.0 0 row (omega arith) (omega arith) in
    ap (λ rs. row ∷ rs) (merged_last (next ∷ rows) t k d (before_tail (λ (r : PlacementRow). r.right) row (next ∷ rows) t k (omega arith) split) (omega arith))
    ∙ ap (λ b. if b then row ∷ merged_rows (next ∷ rows) t else next ∷ rows) (sym low)
