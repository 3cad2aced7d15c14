-- Ranges of tokens, which exclude the left end and include the right end.
use Rattle.std.specs.Prelude.{◌≡◌, Bool, true, false, ◌&&◌, ◌||◌, ℤ, int_lt, List, map, option_map, find, Option, Some, None}
use Rattle.std.specs.List.{list_any, AllByRecursion, AllPairs, zip}
use Rattle.std.specs.Ordering.{int_eq}
use Rattle.std.specs.Set.{is_member}
use Rattle.cluster_terms.specs.Arc.{IsToken, greatest_token}
use Rattle.cluster_terms.specs.Row.{is_within, rows_between, last_token}
use Rattle.cluster_terms.specs.declared.row.TokenRange.{TokenRange}
use Rattle.cluster_terms.specs.declared.token.RightEnd.{RightEnd}
use Rattle.cluster_terms.specs.declared.token.RightEnd.TheVariants.{At, Max}

-- whether one of the ranges contains a token
abbrev pub have_token : List TokenRange → ℤ → Bool
have_token ranges t = list_any (is_within t) ranges

-- whether either list of ranges contains a token
abbrev pub either_has : List TokenRange → List TokenRange → ℤ → Bool
either_has one other t = have_token one t || have_token other t

-- the ranges contain exactly the tokens that a test accepts
abbrev pub HaveTokens : (ℤ → Bool) → List TokenRange → Type 0
HaveTokens test ranges = (t : ℤ) → IsToken t → have_token ranges t ≡ test t

-- whether a range with this right end comes before a range with this left end, with a token between them
abbrev pub ends_before : RightEnd → Option ℤ → Bool
ends_before (At right) (Some left) = int_lt right left
ends_before _ _ = false

-- whether a right end is Max or a token below the greatest token
abbrev pub ends_open : RightEnd → Bool
ends_open (At right) = int_lt right greatest_token
ends_open Max = true

-- a range contains a token, and its right end is Max if it contains the greatest token
pub record IsRange (range : TokenRange) : Type 0 where
  pub some : is_within (last_token range.right) range ≡ true
  pub ending : ends_open range.right ≡ true

-- ascending ranges; each contains a token, and there is a token between any two: each set of tokens has one such list
pub record IsRangeList (ranges : List TokenRange) : Type 0 where
  pub each : AllByRecursion IsRange ranges
  pub apart : AllPairs (λ r s. ends_before r.right s.left ≡ true) ranges

-- whether a left bound is a cut, if it is a token
abbrev pub is_cut_left : List ℤ → Option ℤ → Bool
is_cut_left cuts None = true
is_cut_left cuts (Some left) = is_member int_eq cuts left

-- whether a right bound is a cut, if it is a token
abbrev pub is_cut_right : List ℤ → RightEnd → Bool
is_cut_right cuts (At right) = is_member int_eq cuts right
is_cut_right cuts Max = true

-- whether both bounds of a range are cuts, if they are tokens
abbrev pub is_cut_out : List ℤ → TokenRange → Bool
is_cut_out cuts range = is_cut_left cuts range.left && is_cut_right cuts range.right

-- the bounds of all ranges are cuts, if they are tokens
abbrev pub AreCutOut : List ℤ → List TokenRange → Type 0
AreCutOut cuts ranges = AllByRecursion (λ r. is_cut_out cuts r ≡ true) ranges

-- whether a row is chosen and contains a token
abbrev pub is_chosen_row : ℤ → TokenRange × Bool → Bool
is_chosen_row t row = is_within t row.0 && row.1

-- whether a token is in a chosen row
abbrev pub have_chosen : List TokenRange → List Bool → ℤ → Bool
have_chosen rows chosen t = list_any (is_chosen_row t) (zip rows chosen)

-- whether the last token of each row passes a test
abbrev pub chosen_by : (ℤ → Bool) → List TokenRange → List Bool
chosen_by test rows = map (λ row. test (last_token row.right)) rows

-- at each token, the one answer of these is that of a test
abbrev pub AnswersAs : (ℤ → Bool → Type 0) → (ℤ → Bool) → Type 0
AnswersAs answers test = (t : ℤ) (b : Bool) → IsToken t → answers t b → b ≡ test t

-- whether a row is in both lists of ranges, by its last token
abbrev pub is_common : List TokenRange → List TokenRange → TokenRange → Bool
is_common one other row = have_token one (last_token row.right) && have_token other (last_token row.right)

-- the right end of the first row between cuts that is in both lists of ranges
abbrev pub first_common_end : List TokenRange → List TokenRange → List ℤ → Option RightEnd
first_common_end one other cuts = option_map (λ row. row.right) (find (is_common one other) (rows_between cuts))
