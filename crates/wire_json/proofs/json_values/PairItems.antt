-- The values of a list as a pair.
use Rattle.std.proofs.Common.{◌≡◌, ◌≢◌, List, [], ◌∷◌, length, get_or, None, refl, arith}
use Rattle.serde_json.specs.View.{items_view, view}
use Rattle.serde_json.specs.declared.value.Value.{Value}
use Rattle.wire_json.specs.Snapshots.{pair_by, pair_of}

pub two_values : (values : List Value) (d e : Value) → length values ≡ 2 → pair_by (items_view values) ≡ pair_of (view (get_or values 0 d)) (view (get_or values 1 e))
two_values [] d e two = absurd (omega arith)
two_values (v ∷ []) d e two = absurd (omega arith)
two_values (v ∷ w ∷ []) d e two = refl
two_values (v ∷ w ∷ x ∷ values) d e two = absurd (omega arith)

pub no_pair : (values : List Value) → length values ≢ 2 → pair_by (items_view values) ≡ None
no_pair [] other = refl
no_pair (v ∷ []) other = refl
no_pair (v ∷ w ∷ []) other = absurd (other refl)
no_pair (v ∷ w ∷ x ∷ values) other = refl
