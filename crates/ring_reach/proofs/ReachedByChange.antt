-- What a change reaches in a group, by the tokens that come or go there.
use Rattle.std.proofs.Common.{◌≡◌, ℕ, ◌+◌, ◌-◌, min, Bool, true, false, cond, not, ◌&&◌, ◌||◌, nat_lt, ℤ, int_le, List, [], ◌∷◌, ◌++◌, filter, Some, None, is_some, refl, sym, ap, ◌∙◌, arith}
use Rattle.std.proofs.lemmas.Bool.{false≢true, and_parts, or_right, false_from_ne_true}
use Rattle.std.proofs.lemmas.Bool.Decides.{Decides-int_eq, nat_tests}
use Rattle.std.proofs.lemmas.Int.{ints}
use Rattle.std.proofs.lemmas.List.Folds.{list_any-append}
use Rattle.std.specs.Cmp.{both_ways}
use Rattle.std.specs.List.{list_any, slice_get}
use Rattle.std.specs.Ordering.{int_eq}
use Rattle.std.specs.Set.{is_member}
use Rattle.cluster_terms.proofs.rows.PairLemmas.{found_from_any, any_from_pair}
use Rattle.cluster_terms.proofs.placement.PlacementLemmas.{any-filter}
use Rattle.cluster_terms.proofs.reach.ReachLemmas.{reaches-differ, reaches-open, open-reaches}
use Rattle.cluster_terms.specs.Arc.{in_arc}
use Rattle.cluster_terms.specs.Group.{Group, nodes_of, node_count, rack_count, wanted, spare, ahead_of}
use Rattle.cluster_terms.specs.Pair.{has_pair, tokens_of}
use Rattle.cluster_terms.specs.Reach.{same_shape, is_open, reaches, is_reached_in}
use Rattle.cluster_terms.specs.declared.token.Pair.{Pair}
use Rattle.node_directory.proofs.MetLists.{member_of_mapped}
use Rattle.node_directory.specs.declared.shape.Shape.{Shape}
use Rattle.ring_reach.proofs.TokenLemmas.{any_member, itself, member_left, member_right}
use Rattle.ring_reach.specs.code.Moved.{AreTokensAmong, HaveSameTokens, tokens_in}
use Rattle.ring_reach.specs.code.WalkBack.{Course, leaves}
use Rattle.ring_reach.specs.code.Windows.{window, have, window_bounds}

-- ---- shapes

-- what a common shape tells
pub common_some : (agree : Bool) (s t : Shape) → Some t ≡ cond agree (Some s) None → (agree ≡ true) × (t ≡ s)
common_some true s t e = (refl, cc)
common_some false s t e = absurd (cc)

pub common_none : (agree : Bool) (s : Shape) → None ≡ cond agree (Some s) None → agree ≡ false
common_none true s e = absurd (cc)
common_none false s e = refl

-- the course of a walk in a group that has its shape in the fixed ring
abbrev course_in : Group → List Pair → Course
course_in g fixed = record { group = g; fixed = fixed; nodes = wanted g (nodes_of fixed); racks = wanted g (nodes_of fixed) - spare g (nodes_of fixed) }

moved_over : (d p w s : ℕ) → (nat_lt d w || nat_lt p (w - s)) ≡ nat_lt (min (p + s) d) w
moved_over d p w s = grind (arith, nat_tests)

leaves-open : (g : Group) (fixed : List Pair) (x y : ℤ) → leaves (course_in g fixed) x y ≡ is_open g fixed x y
leaves-open g fixed x y =
    let ahead = nodes_of (ahead_of x y fixed) in
    moved_over (node_count g ahead) (rack_count g ahead) (wanted g (nodes_of fixed)) (spare g (nodes_of fixed))

-- ---- tokens of a group

-- the tokens of a group are those of its pairs
has-tokens_in : (g : Group) (ps : List Pair) (t : ℤ) → is_member int_eq (tokens_in g ps) t ≡ list_any (λ (p : Pair). is_some (g.rack_of p.node) && int_eq t p.token) ps
has-tokens_in g ps t =
    member_of_mapped int_eq (λ (p : Pair). p.token) (filter (λ (p : Pair). is_some (g.rack_of p.node)) ps) t
    ∙ any-filter (λ (p : Pair). int_eq t p.token) (λ (p : Pair). is_some (g.rack_of p.node)) ps

-- a token that passes a test, and is among others
record FoundToken (test : ℤ → Bool) (ts : List ℤ) : Type 0 where
  token : ℤ
  there : is_member int_eq ts token ≡ true
  passes : test token ≡ true

found_token : (test : ℤ → Bool) (ts : List ℤ) → list_any test ts ≡ true → FoundToken test ts
found_token test [] h = absurd (false≢true h)
found_token test (t ∷ ts) h = by (test t) refl h (found_token test ts)
  where
    by : (b : Bool) → test t ≡ b → (b || list_any test ts) ≡ true → (list_any test ts ≡ true → FoundToken test ts) → FoundToken test (t ∷ ts)
    by true e h rest = record { token = t; there = itself t ts; passes = e }
    by false e h rest = (let f = rest h in record { token = f.token; there = or_right (int_eq f.token t) (is_member int_eq ts f.token) f.there; passes = f.passes })

module _ (g : Group) (fixed widest moved : List Pair) (tokens : List ℤ) (comes : HaveSameTokens tokens (tokens_in g moved)) where
  abbrev reached : ℤ → Bool
  reached x = is_reached_in fixed widest moved x g

  -- the pair of a token
  record IsBrought (t : ℤ) : Type 0 where
    pair : Pair
    there : has_pair moved pair ≡ true
    of : is_some (g.rack_of pair.node) ≡ true
    token : t ≡ pair.token

  brought : (t : ℤ) → is_member int_eq tokens t ≡ true → IsBrought t
  brought t h =
      let one = found_from_any (λ (p : Pair). is_some (g.rack_of p.node) && int_eq t p.token) moved (sym (has-tokens_in g moved t) ∙ sym (comes t) ∙ h) in
      let parts = and_parts (is_some (g.rack_of one.pair.node)) (int_eq t one.pair.token) one.passes in
      record { pair = one.pair; there = one.there; of = parts.0; token = (Decides-int_eq t one.pair.token).0 parts.1 }

  reached_by : (x t : ℤ) → is_member int_eq tokens t ≡ true → reaches g fixed widest x t ≡ true → reached x ≡ true
  reached_by x t h reach =
      let one = brought t h in
      any_from_pair (λ (p : Pair). is_some (g.rack_of p.node) && reaches g fixed widest x p.token) moved one.pair one.there
      (λ i. one.of i && (ap (reaches g fixed widest x) (sym one.token) ∙ reach) i)

  reached_from : (x : ℤ) → reached x ≡ true → FoundToken (reaches g fixed widest x) tokens
  reached_from x h =
      let one = found_from_any (λ (p : Pair). is_some (g.rack_of p.node) && reaches g fixed widest x p.token) moved h in
      let parts = and_parts (is_some (g.rack_of one.pair.node)) (reaches g fixed widest x one.pair.token) one.passes in
      let t = one.pair.token in
      record {
        token = t;
        there =
            comes t ∙ has-tokens_in g moved t
            ∙ any_from_pair (λ (p : Pair). is_some (g.rack_of p.node) && int_eq t p.token) moved one.pair one.there (λ i. parts.0 i && (Decides-int_eq t t).1 refl i);
        passes = parts.1;
      }

  -- where no token comes or goes, nothing is reached
  pub none_reached : None ≡ slice_get tokens 0 → (x : ℤ) → false ≡ reached x
  none_reached empty x = sym (false_from_ne_true (reached x) (λ h. let f = reached_from x h in nothing_in tokens empty f.token f.there))
    where
      nothing_in : (ts : List ℤ) → None ≡ slice_get ts 0 → (t : ℤ) → is_member int_eq ts t ≡ true → ⊥
      nothing_in [] e t h = false≢true h
      nothing_in (u ∷ ts) e t h = cc

  -- where some does, and the shapes differ, everything is
  pub all_reached : (t : ℤ) → is_member int_eq tokens t ≡ true → same_shape g fixed widest ≡ false → (x : ℤ) → have (window t t ∷ []) x ≡ reached x
  all_reached t there differ x = whole x t ∙ sym (reached_by x t there (reaches-differ g fixed widest x t differ))
    where
      whole : (x t : ℤ) → have (window t t ∷ []) x ≡ true
      whole x t = by (int_le x t)
        where
          nowhere : in_arc x t t ≡ false
          nowhere = grind (arith, ints)

          by : (b : Bool) → not (in_arc x (cond b (window t t) (window t t)).right (cond b (window t t) (window t t)).left) ≡ true
          by true = ap not nowhere
          by false = ap not nowhere

  -- where the shapes agree, what leaves replicas to find at a token is
  pub leaves-reached : same_shape g fixed widest ≡ true → (x : ℤ) → list_any (leaves (course_in g fixed) x) tokens ≡ reached x
  leaves-reached agree x = both_ways (list_any (leaves (course_in g fixed) x) tokens) (reached x) forth back
    where
      forth : list_any (leaves (course_in g fixed) x) tokens ≡ true → reached x ≡ true
      forth h =
          let f = found_token (leaves (course_in g fixed) x) tokens h in
          reached_by x f.token f.there (reaches-open g fixed widest x f.token (sym (leaves-open g fixed x f.token) ∙ f.passes))

      back : reached x ≡ true → list_any (leaves (course_in g fixed) x) tokens ≡ true
      back h =
          let f = reached_from x h in
          any_member (leaves (course_in g fixed) x) tokens f.token f.there (leaves-open g fixed x f.token ∙ open-reaches g fixed widest x f.token agree f.passes)

  -- ---- bounds

  -- the token of a pair is one of the tokens of some pairs
  in_moved : (t : ℤ) → is_member int_eq tokens t ≡ true → is_member int_eq (tokens_of moved) t ≡ true
  in_moved t h =
      let one = brought t h in
      member_of_mapped int_eq (λ (q : Pair). q.token) moved t
      ∙ any_from_pair (λ (q : Pair). int_eq t q.token) moved one.pair one.there ((Decides-int_eq t one.pair.token).1 one.token)

  in_both : (t : ℤ) → is_member int_eq tokens t ≡ true → is_member int_eq (tokens_of fixed ++ tokens_of moved) t ≡ true
  in_both t h = member_right (tokens_of fixed) (tokens_of moved) t (in_moved t h)

  pub bounds_in_both : (bounds : List ℤ) → AreTokensAmong bounds (tokens_of fixed ++ tokens) → AreTokensAmong bounds (tokens_of fixed ++ tokens_of moved)
  bounds_in_both bounds among t h = by (is_member int_eq (tokens_of fixed) t) refl (sym (list_any-append (int_eq t) (tokens_of fixed) tokens) ∙ among t h)
    where
      by : (b : Bool) → is_member int_eq (tokens_of fixed) t ≡ b → (b || is_member int_eq tokens t) ≡ true → is_member int_eq (tokens_of fixed ++ tokens_of moved) t ≡ true
      by true e h = member_left (tokens_of fixed) (tokens_of moved) t e
      by false e h = in_both t h

  pub bounds_of_ring : (t : ℤ) → is_member int_eq tokens t ≡ true → AreTokensAmong (window_bounds (window t t ∷ [])) (tokens_of fixed ++ tokens_of moved)
  bounds_of_ring t there u h = by (int_eq u t) refl h
    where
      by : (b : Bool) → int_eq u t ≡ b → (b || (b || false)) ≡ true → is_member int_eq (tokens_of fixed ++ tokens_of moved) u ≡ true
      by true e h = ap (is_member int_eq (tokens_of fixed ++ tokens_of moved)) ((Decides-int_eq u t).0 e) ∙ in_both t there
      by false e h = absurd (false≢true h)
