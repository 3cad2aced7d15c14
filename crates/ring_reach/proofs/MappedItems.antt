-- Lists of what a function gives of some items.
use Rattle.std.proofs.Common.{◌≡◌, ℕ, suc, zero, ◌<◌, Bool, true, List, [], ◌∷◌, length, get_or, map, sym, ap, ◌∙◌, arith}
use Rattle.std.proofs.lemmas.Bool.{or_left, or_right}
use Rattle.std.specs.List.{list_any}

-- a test passes of what is given of one of the items
pub any_mapped : {X Y : Type 0} (test : Y → Bool) (f : X → Y) (xs : List X) (i : ℕ) (x : X) → i < length xs → x ≡ get_or xs i x → test (f x) ≡ true → list_any test (map f xs) ≡ true
any_mapped test f [] i x in_i here passes = absurd (omega arith)
any_mapped test f (y ∷ ys) zero x in_i here passes = or_left (test (f y)) (list_any test (map f ys)) (ap (λ u. test (f u)) (sym here) ∙ passes)
any_mapped test f (y ∷ ys) (suc i) x in_i here passes = or_right (test (f y)) (list_any test (map f ys)) (any_mapped test f ys i x (omega arith) here passes)
