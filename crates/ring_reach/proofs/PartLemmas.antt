-- The reached parts of the spans between moved tokens have what any of these reaches.
use Rattle.std.proofs.Common.{◌≡◌, ℕ, ◌+◌, ◌<◌, ◌≤◌, Bool, true, false, ◌||◌, nat_lt, ℤ, List, [], ◌∷◌, ◌++◌, length, get_or, take, refl, sym, ap, ◌∙◌, subst, arith}
use Rattle.std.proofs.lemmas.Bool.{not_from_false, false≢true}
use Rattle.std.proofs.lemmas.Bool.Decides.{Decides-int_eq, nat_tests}
use Rattle.std.proofs.lemmas.Int.{ints}
use Rattle.std.proofs.lemmas.List.{map-append, take_all, take_more}
use Rattle.std.proofs.lemmas.List.Elements.{All-push}
use Rattle.std.specs.Cmp.{both_ways}
use Rattle.std.specs.List.{All, AllByRecursion, list_any}
use Rattle.std.specs.List.Sorted.{IsStrictlySortedBy}
use Rattle.std.specs.Ordering.{int_cmp, int_eq}
use Rattle.std.specs.Set.{is_member}
use Rattle.cluster_terms.proofs.rows.PairLemmas.{ahead-within}
use Rattle.cluster_terms.proofs.reach.SettledLemmas.{arc-through}
use Rattle.cluster_terms.specs.Arc.{in_arc}
use Rattle.cluster_terms.specs.Group.{nodes_of, node_count, rack_count, ahead_of}
use Rattle.cluster_terms.specs.Pair.{tokens_of}
use Rattle.token_ring.proofs.RangeLemmas.{from_all}
use Rattle.node_directory.specs.Tally.{lacks}
use Rattle.ring_reach.proofs.TokenLemmas.{at_member, any_member, member_left, member_right, member_at}
use Rattle.ring_reach.proofs.WalkBackLemmas.{few-within, none_yet}
use Rattle.ring_reach.proofs.WindowLemmas.{first-all, nearest-first}
use Rattle.ring_reach.specs.code.Moved.{AreTokensAmong}
use Rattle.ring_reach.specs.code.WalkBack.{Course, leaves, IsPart}
use Rattle.ring_reach.specs.code.Windows.{is_inside, window, rights_of, window_bounds, first_upto, have}
use Rattle.ring_reach.specs.declared.windows.Window.{Window}

-- of the tokens, y is the nearest to x clockwise
abbrev IsNearest : List ℤ → ℤ → ℤ → Type 0
IsNearest tokens x y = AllByRecursion (λ z. in_arc x y z ≡ false) tokens

-- a window ends at one of the tokens, and has what this reaches, as far as it is the nearest one
pub record IsPartOf (c : Course) (tokens : List ℤ) (w : Window) : Type 0 where
  pub right : is_member int_eq tokens w.right ≡ true
  pub left : is_member int_eq (tokens_of c.fixed ++ tokens) w.left ≡ true
  pub reach : (x : ℤ) → IsNearest tokens x w.right → leaves c x w.right ≡ is_inside x w

-- ---- a part of a span

among_both : (fixed tokens : List ℤ) (left t : ℤ) → is_member int_eq tokens left ≡ true → is_member int_eq (left ∷ fixed) t ≡ true → is_member int_eq (fixed ++ tokens) t ≡ true
among_both fixed tokens left t there h = by (int_eq t left) refl h
  where
    by : (b : Bool) → int_eq t left ≡ b → (b || is_member int_eq fixed t) ≡ true → is_member int_eq (fixed ++ tokens) t ≡ true
    by true e h = member_right fixed tokens t (ap (is_member int_eq tokens) ((Decides-int_eq t left).0 e) ∙ there)
    by false e h = member_left fixed tokens t h

-- where a span begins and ends at tokens, its reached part is one of them
part_of : (c : Course) (tokens : List ℤ) (span part : Window) → is_member int_eq tokens span.left ≡ true → is_member int_eq tokens span.right ≡ true → IsPart c span part → IsPartOf c tokens part
part_of c tokens span part left right is = record {
  right = ap (is_member int_eq tokens) is.right ∙ right;
  left = among_both (tokens_of c.fixed) tokens span.left part.left left is.left;
  reach = λ x nearest.
      let out : in_arc x span.right span.left ≡ false = ap (λ y. in_arc x y span.left) (sym is.right) ∙ at_member (λ z. in_arc x part.right z ≡ false) tokens span.left nearest left in
      ap (leaves c x) is.right ∙ is.reach x (not_from_false (in_arc x span.right span.left) out);
}

-- ---- the nearest token

-- where x leaves replicas to find at a farther token, it does at a nearer one
leaves-nearer : (c : Course) (x y z : ℤ) → in_arc x z y ≡ true → leaves c x z ≡ true → leaves c x y ≡ true
leaves-nearer c x y z near =
    few-within c (nodes_of (ahead_of x y c.fixed)) (nodes_of (ahead_of x z c.fixed))
    (ahead-within c.group c.fixed c.fixed x y z (λ p of ahead there. (there, arc-through x y z p.token near ahead)))

nearer : (c : Course) (x y z : ℤ) → in_arc x y z ≡ false → leaves c x z ≡ true → leaves c x y ≡ true
nearer c x y z out e = by (int_eq y z) refl
  where
    arc : int_eq y z ≡ false → in_arc x z y ≡ true
    arc apart = grind (arith, ints)

    by : (b : Bool) → int_eq y z ≡ b → leaves c x y ≡ true
    by true is = ap (leaves c x) ((Decides-int_eq y z).0 is) ∙ e
    by false apart = leaves-nearer c x y z (arc apart) e

any_nearer : (c : Course) (x y : ℤ) (ts : List ℤ) → IsNearest ts x y → list_any (leaves c x) ts ≡ true → leaves c x y ≡ true
any_nearer c x y [] nearest h = absurd (false≢true h)
any_nearer c x y (z ∷ ts) nearest h = by (leaves c x z) refl h (any_nearer c x y ts nearest.1)
  where
    by : (b : Bool) → leaves c x z ≡ b → (b || list_any (leaves c x) ts) ≡ true → (list_any (leaves c x) ts ≡ true → leaves c x y ≡ true) → leaves c x y ≡ true
    by true e h rest = nearer c x y z nearest.0 e
    by false e h rest = rest h

-- x leaves replicas to find at any of the tokens exactly where it does at the nearest one
any_leaves : (c : Course) (x y : ℤ) (ts : List ℤ) → is_member int_eq ts y ≡ true → IsNearest ts x y → list_any (leaves c x) ts ≡ leaves c x y
any_leaves c x y ts there nearest =
    both_ways (list_any (leaves c x) ts) (leaves c x y) (any_nearer c x y ts nearest) (any_member (leaves c x) ts y there)

-- the windows have what any of the tokens reaches
parts-have : (c : Course) (ws : List Window) → IsStrictlySortedBy int_cmp (rights_of ws) → AllByRecursion (IsPartOf c (rights_of ws)) ws → (x : ℤ) → have ws x ≡ list_any (leaves c x) (rights_of ws)
parts-have c [] up parts x = refl
parts-have c (w ∷ ws) up parts x =
    let tokens = rights_of (w ∷ ws) in
    let v = first_upto w (w ∷ ws) x in
    let part = first-all (IsPartOf c tokens) w (w ∷ ws) x parts.0 parts in
    let nearest = nearest-first w ws x up in
    sym (part.reach x nearest) ∙ sym (any_leaves c x v.right tokens part.right nearest)

-- and begin and end at fixed pairs and at the tokens
parts-among : (c : Course) (tokens : List ℤ) (ws : List Window) → AllByRecursion (IsPartOf c tokens) ws → AreTokensAmong (window_bounds ws) (tokens_of c.fixed ++ tokens)
parts-among c tokens [] parts t h = absurd (false≢true h)
parts-among c tokens (w ∷ ws) parts t h =
    by (int_eq t w.left) (int_eq t w.right) refl refl h (parts-among c tokens ws parts.1 t)
  where
    by : (a b : Bool) → int_eq t w.left ≡ a → int_eq t w.right ≡ b → (a || (b || is_member int_eq (window_bounds ws) t)) ≡ true
        → (is_member int_eq (window_bounds ws) t ≡ true → is_member int_eq (tokens_of c.fixed ++ tokens) t ≡ true) → is_member int_eq (tokens_of c.fixed ++ tokens) t ≡ true
    by true b e f h rest = ap (is_member int_eq (tokens_of c.fixed ++ tokens)) ((Decides-int_eq t w.left).0 e) ∙ parts.0.left
    by false true e f h rest = ap (is_member int_eq (tokens_of c.fixed ++ tokens)) ((Decides-int_eq t w.right).0 f) ∙ member_right (tokens_of c.fixed) tokens w.right parts.0.right
    by false false e f h rest = rest h

-- ---- part by part

-- one more part, of the span from a token up to the next one
pub record AreMore (c : Course) (tokens : List ℤ) (i : ℕ) (ws : List Window) (token : ℤ) : Type 0 where
  pub left : is_member int_eq tokens token ≡ true
  pub rights : rights_of ws ≡ take (i + 1) tokens
  pub parts : All (IsPartOf c tokens) ws

pub part_more : (c : Course) (tokens : List ℤ) (i : ℕ) (ws now : List Window) (left token : ℤ) (part : Window) → i < length tokens → token ≡ get_or tokens i token → is_member int_eq tokens left ≡ true
    → rights_of ws ≡ take i tokens → All (IsPartOf c tokens) ws → IsPart c (window left token) part → now ≡ ws ++ part ∷ [] → AreMore c tokens i now token
part_more c tokens i ws now left token part in_i here there rights parts is pushed =
    let among = member_at tokens i token in_i here in
    record {
      left = among;
      rights =
          ap rights_of pushed
          ∙ map-append (λ (w : Window). w.right) ws (part ∷ [])
          ∙ (λ j. rights j ++ (is.right ∙ here) j ∷ [])
          ∙ sym (take_more tokens i token in_i);
      parts = subst (All (IsPartOf c tokens)) (sym pushed) (All-push (IsPartOf c tokens) ws part parts (part_of c tokens (window left token) part there among is));
    }

-- all parts
rights_all : (tokens : List ℤ) (n : ℕ) (ws : List Window) → rights_of ws ≡ take n tokens → length tokens ≤ n → rights_of ws ≡ tokens
rights_all tokens n ws rights all = rights ∙ take_all n tokens all

pub all_parts-have : (c : Course) (tokens : List ℤ) (n : ℕ) (ws : List Window) → IsStrictlySortedBy int_cmp tokens → length tokens ≤ n → rights_of ws ≡ take n tokens → All (IsPartOf c tokens) ws
    → (x : ℤ) → have ws x ≡ list_any (leaves c x) tokens
all_parts-have c tokens n ws up all rights parts x =
    let whole : rights_of ws ≡ tokens = rights_all tokens n ws rights all in
    parts-have c ws (subst (IsStrictlySortedBy int_cmp) (sym whole) up) (subst (λ (ts : List ℤ). AllByRecursion (IsPartOf c ts) ws) (sym whole) (from_all (IsPartOf c tokens) ws parts)) x
    ∙ ap (list_any (leaves c x)) whole

pub all_parts-among : (c : Course) (tokens : List ℤ) (ws : List Window) → All (IsPartOf c tokens) ws → AreTokensAmong (window_bounds ws) (tokens_of c.fixed ++ tokens)
all_parts-among c tokens ws parts = parts-among c tokens ws (from_all (IsPartOf c tokens) ws parts)

-- ---- nothing to find

none_left : (d p w r : ℕ) → (nat_lt 0 w || nat_lt 0 r) ≡ false → (nat_lt d w || nat_lt p r) ≡ false
none_left d p w r h = grind (arith, nat_tests)

-- where an empty tally lacks nothing, no replicas are left to find
pub leaves-none : (c : Course) → lacks (none_yet c) ≡ false → (x : ℤ) (ts : List ℤ) → list_any (leaves c x) ts ≡ false
leaves-none c full x [] = refl
leaves-none c full x (y ∷ ts) =
    let ahead = nodes_of (ahead_of x y c.fixed) in
    λ i. none_left (node_count c.group ahead) (rack_count c.group ahead) c.nodes c.racks full i || leaves-none c full x ts i
