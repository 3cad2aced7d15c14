-- Movements as exchanges: each takes out all pairs of one node, and puts in some of its own.
use Rattle.std.proofs.Common.{◌≡◌, ℕ, ◌≤◌, Bool, true, false, true≢false, ◌==◌, ◌⊎◌, inl, inr, List, [], ◌∷◌, length, Some, None, refl, sym, ap, ◌∙◌, subst, arith}
use Rattle.std.proofs.lemmas.Bool.{or_left, or_right}
use Rattle.std.proofs.lemmas.Bool.Decides.{nat_tests}
use Rattle.std.proofs.lemmas.List.{length-map}
use Rattle.std.specs.List.{AllByRecursion, list_any}
use Rattle.cluster_terms.specs.Pair.{tokens_of}
use Rattle.cluster_terms.specs.declared.token.Pair.{Pair}
use Rattle.transformations.proofs.commands.AcceptedLemmas.{bare_unless_standing, same_id}
use Rattle.transformations.proofs.lists.FilterLemmas.{filter_twice}
use Rattle.transformations.proofs.lists.ListLemmas.{all_each, all_false, all_filter, all_none, all_weaker, filter_none}
use Rattle.transformations.proofs.pairs.OwnedLemmas.{joined_owned}
use Rattle.transformations.proofs.pairs.RingPairs.{length-pairs, not_others, pairs_own, tokens_of-pairs}
use Rattle.transformations.proofs.pairs.SwapLemmas.{PutsAnew}
use Rattle.transformations.specs.States.{owns_tokens}
use Rattle.transformations.specs.Movements.{first_node, leaver_by, owned, takes_part}
use Rattle.transformations.specs.Valid.{Fits, IsMovement, IsOwned, IsReplace, IsSound, is_standing}
use Rattle.transformations.specs.declared.image.Image.{Image}
use Rattle.transformations.specs.declared.sequence.Kind.{Kind}
use Rattle.transformations.specs.declared.sequence.Kind.TheVariants.{Join, Move, Leave, Replace}
use Rattle.transformations.specs.declared.sequence.SeqRow.{SeqRow}

pub record IsExchangeOf (k : Kind) (image : Image) (s : SeqRow) : Type 0 where
  -- the node whose pairs go; it takes part in the movement
  pub from : ℕ
  pub out : s.out_pairs ≡ owned image.tokens from
  pub takes : takes_part from s ≡ true
  -- the pairs that come are the node's own, which has no others
  pub own : AllByRecursion (λ p. p.node ≡ s.node) s.in_pairs
  pub few : length s.in_pairs ≤ 256
  pub clear : AllByRecursion (λ p. (p.node == from) ≡ false → (p.node == s.node) ≡ false) image.tokens
  -- they have tokens of their own, or those of the pairs that go
  pub puts : PutsAnew k s
  -- no node leaves, or the one whose pairs go, and no pair that comes is its
  pub leaves : (leaver_by k s ≡ None) ⊎ ((leaver_by k s ≡ Some from) × AllByRecursion (λ p. (p.node == from) ≡ false) s.in_pairs)

abbrev pub IsExchange : Image → SeqRow → Type 0
IsExchange image s = IsExchangeOf s.kind image s

-- ---- nodes that take part, and nodes that have pairs

pub own_takes : (s : SeqRow) → takes_part s.node s ≡ true
own_takes s = or_left (s.node == s.node) (list_any (λ (p : Pair). p.node == s.node) s.out_pairs) (itself s.node)
  where
    itself : (n : ℕ) → (n == n) ≡ true
    itself n = grind (arith, nat_tests)

pub all_owned : (ring : List Pair) (n : ℕ) → AllByRecursion (λ p. p.node ≡ n) (owned ring n)
all_owned ring n =
    all_filter (λ (p : Pair). p.node == n) (λ (p : Pair). p.node ≡ n) ring
    (all_each (λ (p : Pair). (p.node == n) ≡ true → p.node ≡ n) (λ p. same_id p.node n) ring)

first_owned : (pairs : List Pair) (n : ℕ) → 1 ≤ length pairs → AllByRecursion (λ p. p.node ≡ n) pairs → first_node pairs ≡ Some n
first_owned [] n some all = absurd (omega (arith, some))
first_owned (p ∷ pairs) n some all = ap (λ k. Some k) all.0

pub joined_standing : (image : Image) (n : ℕ) → IsOwned image → owns_tokens image n ≡ true → is_standing image.nodes n ≡ true
joined_standing image n owned joined = by (is_standing image.nodes n) refl
  where
    by : (b : Bool) → is_standing image.nodes n ≡ b → is_standing image.nodes n ≡ true
    by true e = e
    by false e = absurd (true≢false (sym joined ∙ bare_unless_standing image n owned e))

-- the node that is replaced has pairs, and takes part
pub gone_joined : (image : Image) (s : SeqRow) (f : IsReplace image s) → owns_tokens image f.gone ≡ true
gone_joined image s f = joined_owned image.tokens f.gone (omega (arith, f.some, ap length f.out))

pub gone_takes : (image : Image) (s : SeqRow) (f : IsReplace image s) → takes_part f.gone s ≡ true
gone_takes image s f =
    let again : owned s.out_pairs f.gone ≡ s.out_pairs =
    ap (λ l. owned l f.gone) f.out ∙ filter_twice (λ (p : Pair). p.node == f.gone) (λ (p : Pair). p.node == f.gone) image.tokens (λ p is. is) ∙ sym f.out in
    or_right (s.node == f.gone) (list_any (λ (p : Pair). p.node == f.gone) s.out_pairs) (joined_owned s.out_pairs f.gone (omega (arith, f.some, ap length again)))

-- it isn't the node of the movement
gone_other : (image : Image) (s : SeqRow) (f : IsReplace image s) → (s.node == f.gone) ≡ false
gone_other image s f = by (s.node == f.gone) refl
  where
    by : (b : Bool) → (s.node == f.gone) ≡ b → (s.node == f.gone) ≡ false
    by false e = e
    by true e = absurd (true≢false (sym (gone_joined image s f) ∙ ap (owns_tokens image) (sym (same_id s.node f.gone e)) ∙ f.bare))

-- ---- each kind

exchange_by : (k : Kind) (image : Image) (s : SeqRow) → IsOwned image → Fits k image s → IsExchangeOf k image s
exchange_by Join image s h f = record {
  from = s.node;
  out = f.out ∙ sym (filter_none (λ (p : Pair). p.node == s.node) image.tokens (all_false (λ (p : Pair). p.node == s.node) image.tokens f.bare));
  takes = own_takes s;
  own = f.own;
  few = f.few;
  clear = all_each (λ (p : Pair). (p.node == s.node) ≡ false → (p.node == s.node) ≡ false) (λ p other. other) image.tokens;
  puts = inl refl;
  leaves = inl refl;
}
exchange_by Move image s h f = record {
  from = s.node;
  out = f.out;
  takes = own_takes s;
  own = f.own;
  few = omega (arith, f.new);
  clear = all_each (λ (p : Pair). (p.node == s.node) ≡ false → (p.node == s.node) ≡ false) (λ p other. other) image.tokens;
  puts = inl refl;
  leaves = inl refl;
}
exchange_by Leave image s h f = record {
  from = s.node;
  out = f.out;
  takes = own_takes s;
  own = all_none (λ (p : Pair). p.node ≡ s.node) s.in_pairs f.in_none;
  few = omega (arith, ap length f.in_none);
  clear = all_each (λ (p : Pair). (p.node == s.node) ≡ false → (p.node == s.node) ≡ false) (λ p other. other) image.tokens;
  puts = inl refl;
  leaves = inr (refl, all_none (λ (p : Pair). (p.node == s.node) ≡ false) s.in_pairs f.in_none);
}
exchange_by Replace image s h f =
    let own : AllByRecursion (λ p. p.node ≡ s.node) s.in_pairs = subst (λ l. AllByRecursion (λ p. p.node ≡ s.node) l) (sym f.same) (pairs_own s.node (tokens_of s.out_pairs)) in
    record {
      from = f.gone;
      out = f.out;
      takes = gone_takes image s f;
      own = own;
      few = omega (arith, ap length f.same, length-pairs s.node (tokens_of s.out_pairs), length-map s.out_pairs (λ (p : Pair). p.token), ap length f.out, h.few f.gone, length-map (owned image.tokens f.gone) (λ (p : Pair). p.token));
      clear = all_weaker (λ (p : Pair). (p.node == s.node) ≡ false) (λ (p : Pair). (p.node == f.gone) ≡ false → (p.node == s.node) ≡ false) (λ p none other. none) image.tokens
          (all_false (λ (p : Pair). p.node == s.node) image.tokens f.bare);
      puts = inr (refl, ap tokens_of f.same ∙ tokens_of-pairs s.node (tokens_of s.out_pairs));
      leaves = inr (
        ap first_node f.out ∙ first_owned (owned image.tokens f.gone) f.gone (omega (arith, f.some, ap length f.out)) (all_owned image.tokens f.gone),
        not_others s.node f.gone s.in_pairs (gone_other image s f) own,
      );
    }

pub exchange : (image : Image) (s : SeqRow) → IsOwned image → IsMovement image s → IsExchange image s
exchange image s h m = exchange_by s.kind image s h m.fits

pub exchanges : (image : Image) → IsSound image → AllByRecursion (IsExchange image) image.sequences
exchanges image h = all_weaker (IsMovement image) (IsExchange image) (λ s. exchange image s h.ring) image.sequences h.fitting
