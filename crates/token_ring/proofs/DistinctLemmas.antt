-- Tokens of which none comes twice.
use Rattle.std.proofs.Common.{◌≡◌, false, true, not, ◌&&◌, ◌||◌, ℤ, List, [], ◌∷◌, refl, ap, ◌∙◌}
use Rattle.std.proofs.lemmas.Map.Keys.{IsDistinct-head, IsDistinct-tail}
use Rattle.std.specs.List.{AllByRecursion, IsDistinct}
use Rattle.std.specs.Ordering.{int_eq}
use Rattle.std.specs.Set.{is_member}
use Rattle.token_ring.specs.Ring.{are_distinct}

not_among : (t : ℤ) (ts : List ℤ) → AllByRecursion (λ u. int_eq t u ≡ false) ts → is_member int_eq ts t ≡ false
not_among t [] all = refl
not_among t (u ∷ ts) all = ap (λ b. b || is_member int_eq ts t) all.0 ∙ not_among t ts all.1

-- where no token is equal to one after it, none comes twice
pub distinct_tokens : (ts : List ℤ) → IsDistinct int_eq ts → are_distinct ts ≡ true
distinct_tokens [] d = refl
distinct_tokens (t ∷ ts) d =
    (λ i. not (not_among t ts (IsDistinct-head int_eq t ts d) i) && are_distinct ts) ∙ distinct_tokens ts (IsDistinct-tail int_eq t ts d)
