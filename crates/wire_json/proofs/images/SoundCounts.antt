-- How many rows and pairs a sound image has.
use Rattle.std.proofs.Common.{◌≡◌, ℕ, ◌+◌, ◌≤◌, Bool, true, false, true≢false, ℤ, not, ◌||◌, ◌==◌, cond, nat_eq, List, [], ◌∷◌, length, map, Some, refl, sym, ap, ◌∙◌, arith, length-append}
use Rattle.std.proofs.lemmas.Bool.{or_right as or_true_right}
use Rattle.std.proofs.lemmas.Bool.Decides.{nat_tests}
use Rattle.std.proofs.lemmas.Cmp.{nat_eq_equiv, ranked}
use Rattle.std.proofs.lemmas.List.{length-map}
use Rattle.std.proofs.lemmas.List.Filters.{length-filter_both}
use Rattle.std.proofs.lemmas.Map.Made.{length-le_from_is_member}
use Rattle.std.specs.List.{AllByRecursion, IsDistinct, list_any}
use Rattle.std.specs.List.Sorted.{IsStrictlySortedBy}
use Rattle.std.specs.Ordering.{nat_cmp}
use Rattle.std.specs.Set.{is_member}
use Rattle.std.specs.declared.cmp.Ordering.TheVariants.{Less}
use Rattle.cluster_terms.specs.NodeRow.{row_of}
use Rattle.cluster_terms.specs.Pair.{tokens_of}
use Rattle.cluster_terms.specs.declared.node.NodeRow.{NodeRow}
use Rattle.cluster_terms.specs.declared.token.Pair.{Pair}
use Rattle.transformations.proofs.lists.FilterLemmas.{filter_twice}
use Rattle.transformations.proofs.lists.ListLemmas.{all_both, all_false, all_map, all_weaker, filter_none}
use Rattle.transformations.proofs.movements.OnceLemmas.{AreOnce, first_alone, later_once, once_by_node}
use Rattle.transformations.proofs.pairs.OwnedLemmas.{owned_without, without}
use Rattle.transformations.specs.Orders.{by_node}
use Rattle.transformations.specs.Rings.{incoming, outgoing}
use Rattle.transformations.specs.Movements.{owned, takes_part}
use Rattle.transformations.specs.Valid.{Fits, IsMovement, IsSound, brought, brought_by, is_standing, stands}
use Rattle.transformations.specs.declared.image.Image.{Image}
use Rattle.transformations.specs.declared.sequence.Kind.{Kind}
use Rattle.transformations.specs.declared.sequence.Kind.TheVariants.{Join, Move, Leave, Replace}
use Rattle.transformations.specs.declared.sequence.SeqRow.{SeqRow}

-- ---- movements take out the pairs of different nodes

record TakesOwned (ring : List Pair) (s : SeqRow) : Type 0 where
  gone : ℕ
  out : s.out_pairs ≡ owned ring gone

takes_owned : (image : Image) (s : SeqRow) → IsMovement image s → TakesOwned image.tokens s
takes_owned image s h = by s.kind h.fits
  where
    by : (k : Kind) → Fits k image s → TakesOwned image.tokens s
    by Join f = record {
      gone = s.node;
      out = f.out ∙ sym (filter_none (λ (p : Pair). p.node == s.node) image.tokens (all_false (λ (p : Pair). p.node == s.node) image.tokens f.bare));
    }
    by Move f = record { gone = s.node; out = f.out }
    by Leave f = record { gone = s.node; out = f.out }
    by Replace f = record { gone = f.gone; out = f.out }

-- a movement in which a node takes no part keeps its pairs where those of this node are left out
kept_one : (ring : List Pair) (n : ℕ) → list_any (λ p. p.node == n) (owned ring n) ≡ true → (q : SeqRow) → TakesOwned ring q → takes_part n q ≡ false → TakesOwned (without ring n) q
kept_one ring n some q u none = by (u.gone == n) refl
  where
    by : (b : Bool) → (u.gone == n) ≡ b → TakesOwned (without ring n) q
    by false other = record { gone = u.gone; out = u.out ∙ sym (owned_without ring n u.gone other) }
    by true same =
        let e : u.gone ≡ n = grind (arith, nat_tests) in
        let out : q.out_pairs ≡ owned ring n = u.out ∙ ap (owned ring) e in
        let takes : takes_part n q ≡ true = or_true_right (q.node == n) (list_any (λ (p : Pair). p.node == n) q.out_pairs) (ap (list_any (λ (p : Pair). p.node == n)) out ∙ some) in
        absurd (true≢false (sym takes ∙ none))

-- all together are at most the ring
out_few : (ring : List Pair) (ss : List SeqRow) → AllByRecursion (TakesOwned ring) ss → AreOnce ss → length (outgoing ss) ≤ length ring
out_few ring [] all once = omega arith
out_few ring (s ∷ ss) all once = by (list_any (λ (p : Pair). p.node == all.0.gone) s.out_pairs) refl (λ less kept. out_few less ss kept (later_once s ss once))
  where
    by : (b : Bool) → list_any (λ p. p.node == all.0.gone) s.out_pairs ≡ b → ((less : List Pair) → AllByRecursion (TakesOwned less) ss → length (outgoing ss) ≤ length less) → length (outgoing (s ∷ ss)) ≤ length ring
    by true some rest =
        let n = all.0.gone in
        let later = first_alone s ss once n (or_true_right (s.node == n) (list_any (λ (p : Pair). p.node == n) s.out_pairs) some) in
        let own : list_any (λ p. p.node == n) (owned ring n) ≡ true = sym (ap (list_any (λ (p : Pair). p.node == n)) all.0.out) ∙ some in
        let kept = all_both (TakesOwned ring) (λ q. takes_part n q ≡ false) (TakesOwned (without ring n)) (kept_one ring n own) ss all.1 later in
        let both = length-filter_both (λ (p : Pair). p.node == n) (λ p. not (p.node == n)) (λ p. refl) ring in
        omega (arith, length-append s.out_pairs (outgoing ss), ap length all.0.out, rest (without ring n) kept, both)
    by false none rest =
        let n = all.0.gone in
        let test = λ (p : Pair). p.node == n in
        let own : list_any test (owned ring n) ≡ false = sym (ap (list_any test) all.0.out) ∙ none in
        let empty : owned ring n ≡ [] = sym (filter_twice test test ring (λ p is. is)) ∙ filter_none test (owned ring n) (all_false test (owned ring n) own) in
        omega (arith, length-append s.out_pairs (outgoing ss), ap length (all.0.out ∙ empty), rest ring all.1)

-- ---- the pairs that they put in are brought, or are as many as they take out

in_one : (image : Image) (s : SeqRow) → IsMovement image s → length s.in_pairs ≤ length (brought_by s.kind s.in_pairs) + length s.out_pairs
in_one image s h = by s.kind h.fits
  where
    by : (k : Kind) → Fits k image s → length s.in_pairs ≤ length (brought_by k s.in_pairs) + length s.out_pairs
    by Join f = omega arith
    by Move f = omega arith
    by Leave f = omega arith
    by Replace f =
        let pair : ℤ → Pair = λ t. record { token = t; node = s.node } in
        let pairs = length-map (tokens_of s.out_pairs) pair in
        let tokens = length-map s.out_pairs (λ (p : Pair). p.token) in
        omega (arith, ap length f.same, pairs, tokens)

in_few : (image : Image) (ss : List SeqRow) → AllByRecursion (IsMovement image) ss → length (incoming ss) ≤ length (brought ss) + length (outgoing ss)
in_few image [] all = omega arith
in_few image (s ∷ ss) all =
    omega (arith, in_one image s all.0, in_few image ss all.1, length-append s.in_pairs (incoming ss), length-append s.out_pairs (outgoing ss), length-append (brought_by s.kind s.in_pairs) (brought ss))

-- ---- movements are of different registered nodes

distinct_nodes : (ss : List SeqRow) → IsStrictlySortedBy by_node ss → IsDistinct nat_eq (map (λ s. s.node) ss)
unfolding IsDistinct IsStrictlySortedBy
distinct_nodes [] up = tt
distinct_nodes (s ∷ ss) up = (
  all_map (λ n. (s.node == n) ≡ false) (λ (q : SeqRow). q.node) ss
      (all_weaker (λ q. by_node s q ≡ Less) (λ q. (s.node == q.node) ≡ false) (λ q less. before s.node q.node less) ss up.0),
  distinct_nodes ss up.1,
)
  where
    before : (n m : ℕ) → nat_cmp n m ≡ Less → (n == m) ≡ false
    before n m less = (let lt = ranked n m Less (sym less) in grind (arith, nat_tests))

registered : (nodes : List NodeRow) (n : ℕ) → is_standing nodes n ≡ true → is_member nat_eq (map (λ row. row.id) nodes) n ≡ true
registered [] n is = absurd (true≢false (sym is))
registered (row ∷ rows) n is = by (row.id == n) refl is (registered rows n)
  where
    by : (b : Bool) → (row.id == n) ≡ b → stands (cond b (Some row) (row_of rows n)) ≡ true → (is_standing rows n ≡ true → is_member nat_eq (map (λ r. r.id) rows) n ≡ true)
        → ((n == row.id) || is_member nat_eq (map (λ r. r.id) rows) n) ≡ true
    by true same h rest = (let e : (n == row.id) ≡ true = grind (arith, nat_tests) in ap (λ b. b || is_member nat_eq (map (λ (r : NodeRow). r.id) rows) n) e)
    by false other h rest = or_true_right (n == row.id) (is_member nat_eq (map (λ (r : NodeRow). r.id) rows) n) (rest h)

among : (nodes : List NodeRow) (ss : List SeqRow) → AllByRecursion (λ s. is_standing nodes s.node ≡ true) ss → (n : ℕ) → is_member nat_eq (map (λ s. s.node) ss) n ≡ true → is_member nat_eq (map (λ row. row.id) nodes) n ≡ true
among nodes [] all n is = absurd (true≢false (sym is))
among nodes (s ∷ ss) all n is = by (n == s.node) refl is (among nodes ss all.1 n)
  where
    by : (b : Bool) → (n == s.node) ≡ b → (b || is_member nat_eq (map (λ q. q.node) ss) n) ≡ true → (is_member nat_eq (map (λ q. q.node) ss) n ≡ true → is_member nat_eq (map (λ row. row.id) nodes) n ≡ true)
        → is_member nat_eq (map (λ row. row.id) nodes) n ≡ true
    by true same h rest = (let e : s.node ≡ n = grind (arith, nat_tests) in ap (is_member nat_eq (map (λ (row : NodeRow). row.id) nodes)) (sym e) ∙ registered nodes s.node all.0)
    by false other h rest = rest h

sequences_few : (image : Image) → IsSound image → length image.sequences ≤ length image.nodes
sequences_few image h =
    let own = all_weaker (IsMovement image) (λ s. is_standing image.nodes s.node ≡ true) (λ s is. is.stands) image.sequences h.fitting in
    let short = length-le_from_is_member nat_eq_equiv (map (λ (s : SeqRow). s.node) image.sequences) (map (λ (row : NodeRow). row.id) image.nodes) (distinct_nodes image.sequences h.movements) (among image.nodes image.sequences own) in
    omega (arith, short, length-map image.sequences (λ (s : SeqRow). s.node), length-map image.nodes (λ (row : NodeRow). row.id))

-- ---- all together

-- few rows, and few pairs in the ring and in the movements together
pub record HasFew (image : Image) : Type 0 where
  pub nodes : length image.nodes ≤ 1024
  pub keyspaces : length image.keyspaces ≤ 64
  pub sequences : length image.sequences ≤ 1024
  pub pairs : length image.tokens + (length (incoming image.sequences) + length (outgoing image.sequences)) ≤ 49152

pub sound_few : (image : Image) → IsSound image → HasFew image
sound_few image h =
    let outs = all_weaker (IsMovement image) (TakesOwned image.tokens) (takes_owned image) image.sequences h.fitting in
    let out = out_few image.tokens image.sequences outs (once_by_node image.sequences h.once) in
    let new = in_few image image.sequences h.fitting in
    let all = length-append image.tokens (brought image.sequences) in
    record {
      nodes = h.nodes.few;
      keyspaces = h.few_keyspaces;
      sequences = omega (arith, sequences_few image h, h.nodes.few);
      pairs = omega (arith, out, new, all, h.few_tokens);
    }
