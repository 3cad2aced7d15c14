-- Which tokens are among those of pairs, and which are cuts.
use Rattle.std.proofs.Common.{◌≡◌, Bool, true, false, not, ◌&&◌, ◌||◌, ℤ, List, [], ◌∷◌, ◌++◌, filter, cond, refl, sym, ap, ◌∙◌, arith}
use Rattle.std.proofs.lemmas.Bool.{or_left, or_right, true≢false}
use Rattle.std.proofs.lemmas.Cmp.{int_cmp_total, int_eq_equiv}
use Rattle.std.proofs.lemmas.Int.{ints}
use Rattle.std.proofs.lemmas.List.Folds.{list_any-append}
use Rattle.std.proofs.lemmas.List.Sorted.{list_any-IsPermutation}
use Rattle.std.proofs.lemmas.Map.Made.{is_member-filter}
use Rattle.std.specs.List.{list_any}
use Rattle.std.specs.List.Sorted.{IsPermutation, IsStrictlySortedBy}
use Rattle.std.specs.Ordering.{eq_by_cmp, int_cmp, int_eq, match_ordering}
use Rattle.std.specs.Set.{is_member}
use Rattle.std.specs.declared.cmp.Ordering.{Ordering}
use Rattle.std.specs.declared.cmp.Ordering.TheVariants.{Less, Equal, Greater}
use Rattle.cluster_terms.proofs.lists.AscendingLemmas.{member-ascending, member-put_all, same_sorted}
use Rattle.cluster_terms.proofs.placement.GroupLemmas.{or_elim}
use Rattle.cluster_terms.proofs.rows.PairLemmas.{same_pair-tells}
use Rattle.cluster_terms.specs.Ascending.{put, put_all}
use Rattle.cluster_terms.specs.Pair.{has_pair, same_pair, tokens_of, without_pairs}
use Rattle.cluster_terms.specs.declared.token.Pair.{Pair}
use Rattle.transformations.proofs.lists.ListLemmas.{part_any, part_map, part_without_pairs}
use Rattle.transformations.specs.Orders.{by_token}
use Rattle.transformations.specs.Rings.{cuts, incoming, widest}
use Rattle.transformations.specs.Movements.{ring_after}
use Rattle.transformations.specs.declared.image.Image.{Image}
use Rattle.transformations.specs.declared.sequence.SeqRow.{SeqRow}

-- ---- tokens

abbrev pub among : List ℤ → ℤ → Bool
among ts t = is_member int_eq ts t

equal_tokens : (t u : ℤ) → int_cmp t u ≡ Equal → t ≡ u
equal_tokens t u e = grind (arith, ints)

same_token : (t u : ℤ) → int_eq t u ≡ true → t ≡ u
same_token t u e = grind (arith, ints)

tied : (ts : List ℤ) (t : ℤ) → is_member (eq_by_cmp int_cmp) ts t ≡ among ts t
tied [] t = refl
tied (u ∷ ts) t = ap (λ b. int_eq t u || b) (tied ts t)

-- lists of tokens that ascend and have the same members are the same
pub same_tokens : (ts us : List ℤ) → IsStrictlySortedBy int_cmp ts → IsStrictlySortedBy int_cmp us → ((t : ℤ) → among ts t ≡ among us t) → ts ≡ us
same_tokens ts us up grown same = same_sorted int_cmp int_cmp_total equal_tokens ts us up grown (λ t. tied ts t ∙ same t ∙ sym (tied us t))

pub among_put : (ts us : List ℤ) (t : ℤ) → among (put_all int_cmp ts us) t ≡ (among ts t || among us t)
among_put ts us t = sym (tied (put_all int_cmp ts us) t) ∙ member-put_all int_cmp int_cmp_total ts us t ∙ (λ i. tied ts t i || tied us t i)

pub among_filter : (test : ℤ → Bool) (ts : List ℤ) (t : ℤ) → among (filter test ts) t ≡ (among ts t && test t)
among_filter test ts t = is_member-filter int_eq_equiv test t (λ u e. ap test (same_token t u e)) ts

-- ---- the tokens of pairs

abbrev pub has_token : List Pair → ℤ → Bool
has_token ps t = among (tokens_of ps) t

has_any : (ps : List Pair) (t : ℤ) → has_token ps t ≡ list_any (λ p. int_eq t p.token) ps
has_any [] t = refl
has_any (p ∷ ps) t = ap (λ b. int_eq t p.token || b) (has_any ps t)

pub has_both : (ps qs : List Pair) (t : ℤ) → has_token (ps ++ qs) t ≡ (has_token ps t || has_token qs t)
has_both ps qs t = has_any (ps ++ qs) t ∙ list_any-append (λ (p : Pair). int_eq t p.token) ps qs ∙ sym (λ i. has_any ps t i || has_any qs t i)

pub has_moved : (ps qs : List Pair) → IsPermutation ps qs → (t : ℤ) → has_token ps t ≡ has_token qs t
has_moved ps qs moved t = has_any ps t ∙ list_any-IsPermutation (λ (p : Pair). int_eq t p.token) ps qs moved ∙ sym (has_any qs t)

tokens_put : (p : Pair) (ps : List Pair) → tokens_of (put by_token p ps) ≡ put int_cmp p.token (tokens_of ps)
tokens_put p [] = refl
tokens_put p (q ∷ ps) = by (int_cmp p.token q.token) (tokens_put p ps)
  where
    by : (o : Ordering) → tokens_of (put by_token p ps) ≡ put int_cmp p.token (tokens_of ps)
        → tokens_of (match_ordering o (p ∷ (q ∷ ps)) (p ∷ ps) (q ∷ put by_token p ps))
        ≡ match_ordering o (p.token ∷ (q.token ∷ tokens_of ps)) (p.token ∷ tokens_of ps) (q.token ∷ put int_cmp p.token (tokens_of ps))
    by Less rest = refl
    by Equal rest = refl
    by Greater rest = ap (λ l. q.token ∷ l) rest

tokens_put_all : (ps qs : List Pair) → tokens_of (put_all by_token ps qs) ≡ put_all int_cmp (tokens_of ps) (tokens_of qs)
tokens_put_all [] qs = refl
tokens_put_all (p ∷ ps) qs = tokens_put p (put_all by_token ps qs) ∙ ap (put int_cmp p.token) (tokens_put_all ps qs)

-- the tokens of a ring once a movement is done
pub has_ring_after : (ring : List Pair) (s : SeqRow) (t : ℤ) → has_token (ring_after ring s) t ≡ (has_token s.in_pairs t || has_token (without_pairs ring s.out_pairs) t)
has_ring_after ring s t =
    ap (λ l. among l t) (tokens_put_all s.in_pairs (without_pairs ring s.out_pairs)) ∙ among_put (tokens_of s.in_pairs) (tokens_of (without_pairs ring s.out_pairs)) t

-- a pair that is taken out has a token of the pairs that go
has_its : (out : List Pair) (p : Pair) (t : ℤ) → int_eq t p.token ≡ true → has_pair out p ≡ true → has_token out t ≡ true
has_its [] p t same there = there
has_its (q ∷ out) p t same there =
    or_elim (same_pair p q) (has_pair out p) there (λ here. or_left (int_eq t q.token) (has_token out t) (first here))
    (λ later. or_right (int_eq t q.token) (has_token out t) (has_its out p t same later))
  where
    first : same_pair p q ≡ true → int_eq t q.token ≡ true
    first here = sym (ap (λ (r : Pair). int_eq t r.token) (same_pair-tells p q here)) ∙ same

-- a token of a ring stays, or it is a token of the pairs that go
pub stays_or_goes : (ring out : List Pair) (t : ℤ) → has_token ring t ≡ true → (has_token (without_pairs ring out) t || has_token out t) ≡ true
stays_or_goes [] out t there = absurd (true≢false (sym there))
stays_or_goes (p ∷ ring) out t there =
    or_elim (int_eq t p.token) (has_token ring t) there (λ here. by_first (has_pair out p) refl here)
    (λ later. by_later (has_pair out p) (stays_or_goes ring out t later))
  where
    by_first : (b : Bool) → has_pair out p ≡ b → int_eq t p.token ≡ true → (has_token (cond (not b) (p ∷ without_pairs ring out) (without_pairs ring out)) t || has_token out t) ≡ true
    by_first true e here = or_right (has_token (without_pairs ring out) t) (has_token out t) (has_its out p t here e)
    by_first false e here = ap (λ b. (b || has_token (without_pairs ring out) t) || has_token out t) here

    more : (a b c : Bool) → (b || c) ≡ true → ((a || b) || c) ≡ true
    more a b c h = grind arith

    by_later : (b : Bool) → (has_token (without_pairs ring out) t || has_token out t) ≡ true
        → (has_token (cond (not b) (p ∷ without_pairs ring out) (without_pairs ring out)) t || has_token out t) ≡ true
    by_later true rest = rest
    by_later false rest = more (int_eq t p.token) (has_token (without_pairs ring out) t) (has_token out t) rest

-- a token that stays is a token of the ring
pub only_ring : (ring out : List Pair) (t : ℤ) → has_token (without_pairs ring out) t ≡ true → has_token ring t ≡ true
only_ring ring out t there = part_any (int_eq t) (part_map (λ (p : Pair). p.token) (part_without_pairs ring out)) there

-- ---- cuts

pub is_cut : (image : Image) (t : ℤ) → among (cuts image) t ≡ (has_token image.tokens t || has_token (incoming image.sequences) t)
is_cut image t =
    sym (tied (cuts image) t) ∙ member-ascending int_cmp int_cmp_total (tokens_of (widest image)) t ∙ tied (tokens_of (widest image)) t
    ∙ has_both image.tokens (incoming image.sequences) t
