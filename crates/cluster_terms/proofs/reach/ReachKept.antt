-- A movement that is done or given up leaves the ranges of the others as they are.
use Rattle.std.proofs.Common.{◌≡◌, ℕ, ◌≤◌, Bool, true, false, ◌&&◌, ◌||◌, ◌==◌, ℤ, List, [], ◌∷◌, is_some, refl, sym, ◌∙◌, arith}
use Rattle.std.proofs.lemmas.Bool.{false≢true, or_left, or_right, or_parts}
use Rattle.std.specs.Cmp.{both_ways}
use Rattle.std.specs.List.{list_any}
use Rattle.cluster_terms.proofs.placement.CountLemmas.{IsWithin, wanted-within, spare-within}
use Rattle.cluster_terms.proofs.rows.PairLemmas.{nodes-within, ahead-within}
use Rattle.cluster_terms.proofs.placement.GroupLemmas.{or_elim}
use Rattle.cluster_terms.proofs.reach.ReachLemmas.{shape-wanted, shape-spare, same_shape-from, is_open-within, nearer-open, reaches-open, reaches-differ, open-reaches}
use Rattle.cluster_terms.proofs.reach.SettledLemmas.{free-from_reach}
use Rattle.cluster_terms.specs.Group.{Group, nodes_of, wanted, spare, ahead_of}
use Rattle.cluster_terms.specs.Pair.{has_pair}
use Rattle.cluster_terms.specs.Reach.{same_shape, is_open, reaches, is_reached_in, is_reached}
use Rattle.cluster_terms.specs.declared.token.Pair.{Pair}

-- fixed and widest pairs that lie closer to one another, by pairs of one movement alone
pub record IsNarrowed (mine fixed widest fixed' widest' : List Pair) : Type 0 where
  pub grows : (p : Pair) → has_pair fixed p ≡ true → has_pair fixed' p ≡ true
  pub inner : (p : Pair) → has_pair fixed' p ≡ true → has_pair widest' p ≡ true
  pub shrinks : (p : Pair) → has_pair widest' p ≡ true → has_pair widest p ≡ true
  pub mine_in : (p : Pair) → has_pair fixed' p ≡ true → (has_pair fixed p || has_pair mine p) ≡ true
  pub mine_out : (p : Pair) → has_pair widest p ≡ true → (has_pair widest' p || has_pair mine p) ≡ true

-- ---- one group

le_from_eq : {a b : ℕ} → a ≡ b → a ≤ b
le_from_eq e = omega arith

-- numbers that lie between equal ones are equal to them
squeezed : (a b c d : ℕ) → a ≤ b → b ≤ c → c ≤ d → a ≡ d → (b ≡ a) × (b ≡ c)
squeezed a b c d ab bc cd e = (omega arith, omega arith)

level : (a b : ℕ) → a ≤ b → b ≤ a → b ≡ a
level a b ab ba = omega arith

module _ (mine fixed widest fixed' widest' : List Pair) (narrowed : IsNarrowed mine fixed widest fixed' widest') (g : Group) where
  low : IsWithin g (nodes_of fixed) (nodes_of fixed')
  low = nodes-within g fixed fixed' (λ p of there. narrowed.grows p there)

  mid : IsWithin g (nodes_of fixed') (nodes_of widest')
  mid = nodes-within g fixed' widest' (λ p of there. narrowed.inner p there)

  high : IsWithin g (nodes_of widest') (nodes_of widest)
  high = nodes-within g widest' widest (λ p of there. narrowed.shrinks p there)

  -- where the wide pairs have one shape, all four sets of pairs do
  squeezed-wanted : same_shape g fixed widest ≡ true → (wanted g (nodes_of fixed') ≡ wanted g (nodes_of fixed)) × (wanted g (nodes_of fixed') ≡ wanted g (nodes_of widest'))
  squeezed-wanted e =
      squeezed (wanted g (nodes_of fixed)) (wanted g (nodes_of fixed')) (wanted g (nodes_of widest')) (wanted g (nodes_of widest))
      (wanted-within g (nodes_of fixed) (nodes_of fixed') low) (wanted-within g (nodes_of fixed') (nodes_of widest') mid)
      (wanted-within g (nodes_of widest') (nodes_of widest) high) (shape-wanted g fixed widest e)

  squeezed-spare : same_shape g fixed widest ≡ true → (spare g (nodes_of widest') ≡ spare g (nodes_of widest)) × (spare g (nodes_of widest') ≡ spare g (nodes_of fixed'))
  squeezed-spare e =
      squeezed (spare g (nodes_of widest)) (spare g (nodes_of widest')) (spare g (nodes_of fixed')) (spare g (nodes_of fixed))
      (spare-within g (nodes_of widest') (nodes_of widest) high) (spare-within g (nodes_of fixed') (nodes_of widest') mid)
      (spare-within g (nodes_of fixed) (nodes_of fixed') low) (sym (shape-spare g fixed widest e))

  narrow-shape : same_shape g fixed widest ≡ true → same_shape g fixed' widest' ≡ true
  narrow-shape e = same_shape-from g fixed' widest' (squeezed-wanted e).1 (sym (squeezed-spare e).1)

  narrow-spare : same_shape g fixed widest ≡ true → spare g (nodes_of fixed') ≡ spare g (nodes_of fixed)
  narrow-spare e = sym (squeezed-spare e).1 ∙ (squeezed-spare e).0 ∙ sym (shape-spare g fixed widest e)

  module _ (x y : ℤ) where
    -- what reaches x between the narrow pairs reaches it between the wide ones
    narrow-wide : reaches g fixed' widest' x y ≡ true → reaches g fixed widest x y ≡ true
    narrow-wide h = by (same_shape g fixed widest) refl
      where
        by : (b : Bool) → same_shape g fixed widest ≡ b → reaches g fixed widest x y ≡ true
        by false e = reaches-differ g fixed widest x y e
        by true e =
            reaches-open g fixed widest x y
            (is_open-within g fixed fixed' x y y (le_from_eq (squeezed-wanted e).0) (le_from_eq (sym (narrow-spare e)))
            (ahead-within g fixed fixed' x y y (λ p of ahead there. (narrowed.grows p there, ahead)))
            (open-reaches g fixed' widest' x y (narrow-shape e) h))

    -- and back, where no pair of mine reaches x
    module _ (unreached : is_reached_in fixed widest mine x g ≡ false) where
      not_mine : (p : Pair) → is_some (g.rack_of p.node) ≡ true → has_pair mine p ≡ true → reaches g fixed widest x p.token ≡ true → ⊥
      not_mine p of there reach = false≢true (sym (free-from_reach g fixed widest mine x unreached p of there) ∙ reach)

      -- where the wide shapes differ, mine has no node of the group
      kept-in : same_shape g fixed widest ≡ false → IsWithin g (nodes_of fixed') (nodes_of fixed)
      kept-in e =
          nodes-within g fixed' fixed (λ p of there. or_elim (has_pair fixed p) (has_pair mine p) (narrowed.mine_in p there)
          (λ f. f) (λ m. absurd (not_mine p of m (reaches-differ g fixed widest x p.token e))))

      kept-out : same_shape g fixed widest ≡ false → IsWithin g (nodes_of widest) (nodes_of widest')
      kept-out e =
          nodes-within g widest widest' (λ p of there. or_elim (has_pair widest' p) (has_pair mine p) (narrowed.mine_out p there)
          (λ f. f) (λ m. absurd (not_mine p of m (reaches-differ g fixed widest x p.token e))))

      shape-kept : same_shape g fixed widest ≡ false → same_shape g fixed' widest' ≡ same_shape g fixed widest
      shape-kept e =
          let wf = level (wanted g (nodes_of fixed)) (wanted g (nodes_of fixed')) (wanted-within g (nodes_of fixed) (nodes_of fixed') low) (wanted-within g (nodes_of fixed') (nodes_of fixed) (kept-in e)) in
          let ww = level (wanted g (nodes_of widest)) (wanted g (nodes_of widest')) (wanted-within g (nodes_of widest) (nodes_of widest') (kept-out e)) (wanted-within g (nodes_of widest') (nodes_of widest) high) in
          let sf = level (spare g (nodes_of fixed)) (spare g (nodes_of fixed')) (spare-within g (nodes_of fixed') (nodes_of fixed) (kept-in e)) (spare-within g (nodes_of fixed) (nodes_of fixed') low) in
          let sw = level (spare g (nodes_of widest)) (spare g (nodes_of widest')) (spare-within g (nodes_of widest') (nodes_of widest) high) (spare-within g (nodes_of widest) (nodes_of widest') (kept-out e)) in
          λ i. (wf i == ww i) && (sf i == sw i)

      -- and where they agree and y is open, the narrow pairs have no more nodes of the group ahead of it than the wide
      -- ones
      ahead-kept : is_open g fixed x y ≡ true → IsWithin g (nodes_of (ahead_of x y fixed')) (nodes_of (ahead_of x y fixed))
      ahead-kept wide =
          ahead-within g fixed' fixed x y y
          (λ p of ahead there. (
            or_elim (has_pair fixed p) (has_pair mine p) (narrowed.mine_in p there)
                (λ f. f) (λ m. absurd (not_mine p of m (reaches-open g fixed widest x p.token (nearer-open g fixed x y p.token ahead wide)))),
            ahead,
          ))

      wide-narrow : reaches g fixed widest x y ≡ true → reaches g fixed' widest' x y ≡ true
      wide-narrow h = by (same_shape g fixed widest) refl
        where
          by : (b : Bool) → same_shape g fixed widest ≡ b → reaches g fixed' widest' x y ≡ true
          by false e = reaches-differ g fixed' widest' x y (shape-kept e ∙ e)
          by true e =
              let wide = open-reaches g fixed widest x y e h in
              reaches-open g fixed' widest' x y
              (is_open-within g fixed' fixed x y y (wanted-within g (nodes_of fixed) (nodes_of fixed') low) (spare-within g (nodes_of fixed) (nodes_of fixed') low) (ahead-kept wide) wide)

-- ---- all groups

any-implied : {X : Type 0} (f h : X → Bool) → ((q : X) → f q ≡ true → h q ≡ true) → (qs : List X) → list_any f qs ≡ true → list_any h qs ≡ true
any-implied f h each [] e = e
any-implied f h each (q ∷ qs) e =
    or_elim (f q) (list_any f qs) e (λ here. or_left (h q) (list_any h qs) (each q here)) (λ there. or_right (h q) (list_any h qs) (any-implied f h each qs there))

module _ (mine fixed widest fixed' widest' theirs : List Pair) (x : ℤ) (narrowed : IsNarrowed mine fixed widest fixed' widest') where
  and_implied : (a b c : Bool) → (b ≡ true → c ≡ true) → (a && b) ≡ true → (a && c) ≡ true
  and_implied true b c f h = f h
  and_implied false b c f h = h

  narrow_in-wide : (g : Group) → is_reached_in fixed' widest' theirs x g ≡ true → is_reached_in fixed widest theirs x g ≡ true
  narrow_in-wide g =
      any-implied (λ (p : Pair). is_some (g.rack_of p.node) && reaches g fixed' widest' x p.token) (λ (p : Pair). is_some (g.rack_of p.node) && reaches g fixed widest x p.token)
      (λ p. and_implied (is_some (g.rack_of p.node)) (reaches g fixed' widest' x p.token) (reaches g fixed widest x p.token) (narrow-wide mine fixed widest fixed' widest' narrowed g x p.token)) theirs

  wide_in-narrow : (g : Group) → is_reached_in fixed widest mine x g ≡ false → is_reached_in fixed widest theirs x g ≡ true → is_reached_in fixed' widest' theirs x g ≡ true
  wide_in-narrow g unreached =
      any-implied (λ (p : Pair). is_some (g.rack_of p.node) && reaches g fixed widest x p.token) (λ (p : Pair). is_some (g.rack_of p.node) && reaches g fixed' widest' x p.token)
      (λ p. and_implied (is_some (g.rack_of p.node)) (reaches g fixed widest x p.token) (reaches g fixed' widest' x p.token) (wide-narrow mine fixed widest fixed' widest' narrowed g x p.token unreached)) theirs

  wide-narrow-all : (gs : List Group) → is_reached gs fixed widest mine x ≡ false → is_reached gs fixed widest theirs x ≡ true → is_reached gs fixed' widest' theirs x ≡ true
  wide-narrow-all [] no_mine h = h
  wide-narrow-all (g ∷ gs) no_mine h =
      let apart = or_parts (is_reached_in fixed widest mine x g) (is_reached gs fixed widest mine x) no_mine in
      or_elim (is_reached_in fixed widest theirs x g) (is_reached gs fixed widest theirs x) h
      (λ here. or_left (is_reached_in fixed' widest' theirs x g) (is_reached gs fixed' widest' theirs x) (wide_in-narrow g apart.0 here))
      (λ there. or_right (is_reached_in fixed' widest' theirs x g) (is_reached gs fixed' widest' theirs x) (wide-narrow-all gs apart.1 there))

-- a movement that is done or given up leaves the ranges of the others as they are
pub reached-kept : (gs : List Group) (fixed widest fixed' widest' mine theirs : List Pair) (x : ℤ) → IsNarrowed mine fixed widest fixed' widest'
    → (is_reached gs fixed widest mine x && is_reached gs fixed widest theirs x) ≡ false
    → is_reached gs fixed widest theirs x ≡ is_reached gs fixed' widest' theirs x
reached-kept gs fixed widest fixed' widest' mine theirs x narrowed apart =
    both_ways (is_reached gs fixed widest theirs x) (is_reached gs fixed' widest' theirs x)
    (λ h. by (is_reached gs fixed widest mine x) refl apart h)
    (any-implied (is_reached_in fixed' widest' theirs x) (is_reached_in fixed widest theirs x) (narrow_in-wide mine fixed widest fixed' widest' theirs x narrowed) gs)
  where
    by : (b : Bool) → is_reached gs fixed widest mine x ≡ b → (b && is_reached gs fixed widest theirs x) ≡ false → is_reached gs fixed widest theirs x ≡ true → is_reached gs fixed' widest' theirs x ≡ true
    by true e other h = absurd (false≢true (sym other ∙ h))
    by false e other h = wide-narrow-all mine fixed widest fixed' widest' theirs x narrowed gs e h
