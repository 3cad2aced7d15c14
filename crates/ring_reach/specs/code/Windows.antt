-- Windows of the ring: the tokens after one token up to another, in ring order.
use Rattle.std.specs.Prelude.{Bool, false, not, if◌then◌else◌, ℤ, int_le, List, [], ◌∷◌, map, Option, Some, None}
use Rattle.std.specs.List.{list_any}
use Rattle.cluster_terms.specs.Arc.{in_arc}
use Rattle.ring_reach.specs.declared.windows.Window.{Window}

-- the tokens after `left` up to `right`
abbrev pub window : ℤ → ℤ → Window
window left right = record { left = left; right = right }

-- whether a token is in a window: from the token clockwise, `left` doesn't come before `right`
abbrev pub is_inside : ℤ → Window → Bool
is_inside t w = not (in_arc t w.right w.left)

-- the tokens at which windows end
abbrev pub rights_of : List Window → List ℤ
rights_of ws = map (λ w. w.right) ws

-- the tokens at which windows begin or end
abbrev pub window_bounds : List Window → List ℤ
window_bounds [] = []
window_bounds (w ∷ ws) = w.left ∷ w.right ∷ window_bounds ws

-- the first window that ends at or after a token, or `past` if there is none
abbrev pub first_upto : Window → List Window → ℤ → Window
first_upto past [] t = past
first_upto past (w ∷ ws) t = if int_le t w.right then w else first_upto past ws t

-- the window that ends first at or after a token, in ring order
abbrev pub nearest : List Window → ℤ → Option Window
nearest [] t = None
nearest (w ∷ ws) t = Some (first_upto w (w ∷ ws) t)

-- whether the nearest window has the token
abbrev pub have : List Window → ℤ → Bool
have [] t = false
have (w ∷ ws) t = is_inside t (first_upto w (w ∷ ws) t)

-- whether any of several lists of windows has the token
abbrev pub any_have : List (List Window) → ℤ → Bool
any_have all t = list_any (λ ws. have ws t) all
