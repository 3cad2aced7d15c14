-- The first of the rows that either of two tests accepts, by its right end.
use Rattle.std.proofs.Common.{◌≡◌, Bool, true, false, ◌||◌, ◌&&◌, ◌↔◌, IsNone, cond, ℤ, List, [], ◌∷◌, find, length, ◌⊎◌, inl, inr, Option, Some, None, option_map, refl, sym, ap, ◌∙◌, int_lt, arith}
use Rattle.std.proofs.lemmas.Bool.{true≢false}
use Rattle.std.proofs.lemmas.Int.{ints}
use Rattle.std.specs.List.{AllByRecursion}
use Rattle.std.specs.List.Sorted.{IsStrictlySortedBy}
use Rattle.std.specs.Ordering.{int_cmp}
use Rattle.std.specs.declared.cmp.Ordering.TheVariants.{Less}
use Rattle.cluster_terms.specs.Arc.{IsToken}
use Rattle.cluster_terms.specs.Row.{is_last, rows_from}
use Rattle.cluster_terms.specs.declared.row.TokenRange.{TokenRange}
use Rattle.cluster_terms.specs.declared.token.RightEnd.{RightEnd}
use Rattle.cluster_terms.specs.declared.token.RightEnd.TheVariants.{At, Max}
use Rattle.token_ring.specs.TokenRanges.{first_common_end, have_token, is_common}
use Rattle.token_ring.specs.declared.range_book.RangeRow.{RangeRow}
use Rattle.locked_ranges.specs.Conflict.{first_shared_end, share_row}
use Rattle.locked_ranges.specs.code.FirstEnd.{first_end, lesser_end}
use Rattle.locked_ranges.specs.Sharing.{ShareNoToken}

-- ---- the lesser of right ends

-- the one of two tokens that a test chooses
abbrev least : Bool → ℤ → ℤ → ℤ
least b t u = cond b t u

through : (t u v : ℤ) → int_lt v u ≡ true → int_lt u t ≡ true → int_lt v t ≡ false → ⊥
through t u v e f g = grind (arith, ints)

around : (t u v : ℤ) → int_lt v u ≡ false → int_lt u t ≡ false → int_lt v t ≡ true → ⊥
around t u v e f g = grind (arith, ints)

lesser_assoc : (a b c : RightEnd) → lesser_end a (lesser_end b c) ≡ lesser_end (lesser_end a b) c
lesser_assoc Max b c = refl
lesser_assoc (At t) Max c = refl
lesser_assoc (At t) (At u) Max = refl
lesser_assoc (At t) (At u) (At v) = by (int_lt v u) refl (int_lt u t) refl (int_lt v t) refl
  where
    by : (a : Bool) → int_lt v u ≡ a → (b : Bool) → int_lt u t ≡ b → (c : Bool) → int_lt v t ≡ c → At (least (int_lt (least a v u) t) (least a v u) t) ≡ At (least (int_lt v (least b u t)) v (least b u t))
    by true e true f true g = rw (g, e) refl
    by true e true f false g = absurd (through t u v e f g)
    by true e false f c g = refl
    by false e true f c g = rw (f, e) refl
    by false e false f true g = absurd (around t u v e f g)
    by false e false f false g = rw (f, g) refl

pub first_assoc : (a b c : Option RightEnd) → first_end a (first_end b c) ≡ first_end (first_end a b) c
first_assoc None b c = refl
first_assoc (Some a) None c = refl
first_assoc (Some a) (Some b) None = refl
first_assoc (Some a) (Some b) (Some c) = ap (λ e. Some e) (lesser_assoc a b c)

pub first_none : (a : Option RightEnd) → first_end a None ≡ a
first_none None = refl
first_none (Some a) = refl

-- ---- the rows between cuts

less_tests : (t u : ℤ) → int_cmp t u ≡ Less → (int_lt t u ≡ true) × (int_lt u t ≡ false)
less_tests t u h = (grind (arith, ints), grind (arith, ints))

-- a right end that is past a token, if there is one
abbrev IsPastEnd : ℤ → Option RightEnd → Type 0
IsPastEnd t None = Unit {0}
IsPastEnd t (Some Max) = Unit {0}
IsPastEnd t (Some (At u)) = int_cmp t u ≡ Less

-- the row up to a right end
abbrev row_to : Option ℤ → RightEnd → TokenRange
row_to left end = record { left = left; right = end }

abbrev right : TokenRange → RightEnd
right row = row.right

-- the right end of the first row that a test accepts, from a left end on
abbrev first_from : (TokenRange → Bool) → Option ℤ → List ℤ → Option RightEnd
first_from p left cuts = option_map right (find p (rows_from left cuts))

later_past : (p : TokenRange → Bool) (t : ℤ) (left : Option ℤ) (cuts : List ℤ) → AllByRecursion (λ u. int_cmp t u ≡ Less) cuts → IsPastEnd t (first_from p left cuts)
later_past p t left [] all = by (is_last left)
  where
    last : (b : Bool) → IsPastEnd t (option_map right (cond b (Some (row_to left Max)) None))
    last true = tt
    last false = tt

    by : (b : Bool) → IsPastEnd t (option_map right (find p (cond b [] (row_to left Max ∷ []))))
    by true = tt
    by false = last (p (row_to left Max))
later_past p t left (cut ∷ cuts) all = by (p (row_to left (At cut))) (later_past p t (Some cut) cuts all.1)
  where
    by : (b : Bool) → IsPastEnd t (first_from p (Some cut) cuts) → IsPastEnd t (option_map right (cond b (Some (row_to left (At cut))) (find p (rows_from (Some cut) cuts))))
    by true rest = all.0
    by false rest = rest

at_least : (t : ℤ) (end : Option RightEnd) → IsPastEnd t end → (first_end (Some (At t)) end ≡ Some (At t)) × (first_end end (Some (At t)) ≡ Some (At t))
at_least t None past = (refl, refl)
at_least t (Some Max) past = (refl, refl)
at_least t (Some (At u)) past = (let tests = less_tests t u past in (rw tests.1 refl, rw tests.0 refl))

-- the lesser of the right ends of the first rows that two tests accept is that of the first row that either accepts
first_either : (p q : TokenRange → Bool) (left : Option ℤ) (cuts : List ℤ) → IsStrictlySortedBy int_cmp cuts → first_end (first_from p left cuts) (first_from q left cuts) ≡ first_from (λ r. p r || q r) left cuts
unfolding IsStrictlySortedBy
first_either p q left [] up = by (is_last left)
  where
    last : (a b : Bool) → first_end (option_map right (cond a (Some (row_to left Max)) None)) (option_map right (cond b (Some (row_to left Max)) None)) ≡ option_map right (cond (a || b) (Some (row_to left Max)) None)
    last true true = refl
    last true false = refl
    last false true = refl
    last false false = refl

    by : (b : Bool) → first_end (option_map right (find p (cond b [] (row_to left Max ∷ [])))) (option_map right (find q (cond b [] (row_to left Max ∷ [])))) ≡ option_map right (find (λ r. p r || q r) (cond b [] (row_to left Max ∷ [])))
    by true = refl
    by false = last (p (row_to left Max)) (q (row_to left Max))
first_either p q left (cut ∷ cuts) up =
    by (p (row_to left (At cut))) (q (row_to left (At cut))) (first_either p q (Some cut) cuts up.1)
    (at_least cut (first_from p (Some cut) cuts) (later_past p cut (Some cut) cuts up.0))
    (at_least cut (first_from q (Some cut) cuts) (later_past q cut (Some cut) cuts up.0))
  where
    same : (b : Bool) → At (cond b cut cut) ≡ At cut
    same true = refl
    same false = refl

    by : (a b : Bool) → first_end (option_map right (find p (rows_from (Some cut) cuts))) (option_map right (find q (rows_from (Some cut) cuts))) ≡ option_map right (find (λ r. p r || q r) (rows_from (Some cut) cuts))
        → (first_end (Some (At cut)) (option_map right (find p (rows_from (Some cut) cuts))) ≡ Some (At cut)) × (first_end (option_map right (find p (rows_from (Some cut) cuts))) (Some (At cut)) ≡ Some (At cut))
        → (first_end (Some (At cut)) (option_map right (find q (rows_from (Some cut) cuts))) ≡ Some (At cut)) × (first_end (option_map right (find q (rows_from (Some cut) cuts))) (Some (At cut)) ≡ Some (At cut))
        → first_end (option_map right (cond a (Some (row_to left (At cut))) (find p (rows_from (Some cut) cuts)))) (option_map right (cond b (Some (row_to left (At cut))) (find q (rows_from (Some cut) cuts)))) ≡ option_map right (cond (a || b) (Some (row_to left (At cut))) (find (λ r. p r || q r) (rows_from (Some cut) cuts)))
    by true true later own other = ap (λ e. Some e) (same (int_lt cut cut))
    by true false later own other = other.0
    by false true later own other = own.1
    by false false later own other = later

-- ---- the rows that two books share

-- those under a replication, and those under the ones that are left
shared_cons : (our their : RangeRow) (ours theirs : List RangeRow) (cuts : List ℤ) → IsStrictlySortedBy int_cmp cuts
    → first_end (first_common_end our.ranges their.ranges cuts) (first_shared_end ours theirs cuts) ≡ first_shared_end (our ∷ ours) (their ∷ theirs) cuts
shared_cons our their ours theirs cuts up = first_either (is_common our.ranges their.ranges) (share_row ours theirs) None cuts up

none_from : (left : Option ℤ) (cuts : List ℤ) → first_from (λ r. false) left cuts ≡ None
none_from left [] = by (is_last left)
  where
    by : (b : Bool) → option_map right (find (λ r. false) (cond b [] ((record { left = left; right = Max }) ∷ []))) ≡ None
    by true = refl
    by false = refl
none_from left (cut ∷ cuts) = none_from (Some cut) cuts

-- none are left
pub shared_done : (ours theirs : List RangeRow) (cuts : List ℤ) → (length ours ≡ 0) ⊎ (length theirs ≡ 0) → first_shared_end ours theirs cuts ≡ None
shared_done [] theirs cuts done = none_from None cuts
shared_done (our ∷ ours) [] cuts done = none_from None cuts
shared_done (our ∷ ours) (their ∷ theirs) cuts (inl done) = absurd (omega arith)
shared_done (our ∷ ours) (their ∷ theirs) cuts (inr done) = absurd (omega arith)

-- one turn of the search
pub shared_turn : (first : Option RightEnd) (our their : RangeRow) (ours theirs : List RangeRow) (cuts : List ℤ) → IsStrictlySortedBy int_cmp cuts
    → first_end (first_end first (first_common_end our.ranges their.ranges cuts)) (first_shared_end ours theirs cuts) ≡ first_end first (first_shared_end (our ∷ ours) (their ∷ theirs) cuts)
shared_turn first our their ours theirs cuts up = sym (first_assoc first (first_common_end our.ranges their.ranges cuts) (first_shared_end ours theirs cuts)) ∙ ap (first_end first) (shared_cons our their ours theirs cuts up)

-- ---- no shared row

-- a right end that is first of two is none exactly where both are none
first_is_none : (a b : Option RightEnd) → IsNone (first_end a b) ↔ (IsNone a × IsNone b)
first_is_none None b = (λ none. (refl, none), λ none. none.1)
first_is_none (Some a) None = (λ none. (none, refl), λ none. none.0)
first_is_none (Some a) (Some b) = (λ none. (none, none), λ none. none.0)

-- the rows of both books under the first replication, and under the others
apart_cons : (our their : RangeRow) (ours theirs : List RangeRow)
    → ShareNoToken (our ∷ ours) (their ∷ theirs) ↔ (((t : ℤ) → IsToken t → (have_token our.ranges t && have_token their.ranges t) ≡ false) × ShareNoToken ours theirs)
apart_cons our their ours theirs = (λ apart. (λ t token. (parts _ _ (apart t token)).0, λ t token. (parts _ _ (apart t token)).1), λ apart t token. λ i. apart.0 t token i || apart.1 t token i)
  where
    parts : (a b : Bool) → (a || b) ≡ false → (a ≡ false) × (b ≡ false)
    parts true b none = absurd (true≢false none)
    parts false b none = (refl, none)

pub apart_done : (ours theirs : List RangeRow) → (length ours ≡ 0) ⊎ (length theirs ≡ 0) → ShareNoToken ours theirs
apart_done [] theirs done = λ t token. refl
apart_done (our ∷ ours) [] done = λ t token. refl
apart_done (our ∷ ours) (their ∷ theirs) (inl done) = absurd (omega arith)
apart_done (our ∷ ours) (their ∷ theirs) (inr done) = absurd (omega arith)

-- one turn: none is found so far and the rest is apart, exactly where none is found after the turn and what is left is
-- apart
pub apart_turn : (first end : Option RightEnd) (our their : RangeRow) (ours theirs : List RangeRow)
    → (IsNone end ↔ ((t : ℤ) → IsToken t → (have_token our.ranges t && have_token their.ranges t) ≡ false))
    → (IsNone (first_end first end) × ShareNoToken ours theirs) ↔ (IsNone first × ShareNoToken (our ∷ ours) (their ∷ theirs))
apart_turn first end our their ours theirs found =
    let both = first_is_none first end in
    let cons = apart_cons our their ours theirs in (
      λ (h : IsNone (first_end first end) × ShareNoToken ours theirs). ((both.0 h.0).0, cons.1 (found.0 (both.0 h.0).1, h.1)),
      λ (h : IsNone first × ShareNoToken (our ∷ ours) (their ∷ theirs)). (both.1 (h.0, found.1 (cons.0 h.1).0), (cons.0 h.1).1),
    )
