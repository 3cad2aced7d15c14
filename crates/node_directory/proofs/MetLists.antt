-- Lists of what a function gives of some items.
use Rattle.std.proofs.Common.{◌≡◌, Bool, ◌||◌, List, [], ◌∷◌, map, refl, ap}
use Rattle.std.specs.List.{list_any}
use Rattle.std.specs.Set.{is_member}

-- whether something is given of one of the items
pub member_of_mapped : {X Y : Type 0} (eq : Y → Y → Bool) (f : X → Y) (xs : List X) (y : Y) → is_member eq (map f xs) y ≡ list_any (λ x. eq y (f x)) xs
member_of_mapped eq f [] y = refl
member_of_mapped eq f (x ∷ xs) y = ap (λ b. eq y (f x) || b) (member_of_mapped eq f xs y)
