-- The rings of a sound image: no token stands twice in any of them.
use Rattle.std.proofs.Common.{◌≡◌, ℕ, Bool, true, false, true≢false, not, ◌&&◌, ◌||◌, ◌==◌, List, [], ◌∷◌, ◌++◌, filter, refl, sym, ap, ◌∙◌, subst, append_assoc, arith}
use Rattle.std.proofs.lemmas.Bool.{or_parts}
use Rattle.std.proofs.lemmas.List.{append-nil}
use Rattle.std.proofs.lemmas.List.Elements.{filter-append}
use Rattle.std.proofs.lemmas.List.Folds.{list_any-append}
use Rattle.std.proofs.lemmas.Map.Keys.{IsDistinct-head}
use Rattle.std.specs.List.{AllByRecursion, Contains, IsDistinct, list_any}
use Rattle.std.specs.Ordering.{int_eq}
use Rattle.cluster_terms.proofs.rows.PairLemmas.{same_pair-refl}
use Rattle.cluster_terms.specs.Pair.{has_pair, same_pair, tokens_of, without_pairs}
use Rattle.cluster_terms.specs.declared.token.Pair.{Pair}
use Rattle.transformations.proofs.commands.AcceptedLemmas.{same_id}
use Rattle.transformations.proofs.movements.BeginLemmas.{ring_and_brought_few}
use Rattle.transformations.proofs.movements.ExchangeLemmas.{IsExchange, exchanges, own_takes}
use Rattle.transformations.proofs.lists.FilterLemmas.{filter_alike, filter_both}
use Rattle.transformations.proofs.lists.ListLemmas.{all_both, all_members, all_pi, all_weaker, exchanged, filter_all, filter_none, nothing, part_all, part_all_of, part_append, part_distinct, part_filter, part_flat, part_front, part_map, part_without_pairs}
use Rattle.transformations.proofs.movements.OnceLemmas.{AreOnce, both_take, first_alone, later_once, not_out, once_by_node}
use Rattle.transformations.proofs.movements.SoleLemmas.{filter_own, found_own}
use Rattle.transformations.proofs.pairs.OwnedLemmas.{has_filter, owned_without, without}
use Rattle.transformations.proofs.pairs.RingPairs.{AreFew, few_moved, few_part, not_others}
use Rattle.transformations.proofs.pairs.SwapLemmas.{PutsAnew, few_swapped}
use Rattle.transformations.specs.Rings.{high_ring, incoming, is_mid, has_started, low_ring, outgoing, read_ring, replaced, ring_at}
use Rattle.transformations.specs.Movements.{owned, takes_part}
use Rattle.transformations.specs.Valid.{IsSound, brought, brought_by}
use Rattle.transformations.specs.declared.image.Image.{Image}
use Rattle.transformations.specs.declared.sequence.Phase.{Phase}
use Rattle.transformations.specs.declared.sequence.SeqRow.{SeqRow}

-- a movement that swaps the pairs of a node in a ring for others
record IsSwap (ring : List Pair) (s : SeqRow) : Type 0 where
  from : ℕ
  out : s.out_pairs ≡ owned ring from
  takes : takes_part from s ≡ true
  own : AllByRecursion (λ p. p.node ≡ s.node) s.in_pairs
  puts : PutsAnew s.kind s

-- ---- the first of some movements

module _ (ring : List Pair) (s : SeqRow) (later : List SeqRow) (x : IsSwap ring s) (once : AreOnce (s ∷ later)) where
  abbrev kept : List Pair
  kept = without ring x.from

  abbrev stays : List SeqRow → Pair → Bool
  stays sequences p = not (has_pair (outgoing sequences) p)

  -- the later ones swap the pairs of other nodes
  other_from : (n : ℕ) → takes_part n s ≡ false → owned ring n ≡ owned (s.in_pairs ++ kept) n
  other_from n none =
      sym (filter-append (λ (p : Pair). p.node == n) s.in_pairs kept
      ∙ (λ i. filter_none (λ (p : Pair). p.node == n) s.in_pairs (not_others s.node n s.in_pairs ((or_parts (s.node == n) (list_any (λ (p : Pair). p.node == n) s.out_pairs) none).0) x.own) i ++ owned_without ring x.from n (apart (n == x.from) refl) i))
    where
      apart : (b : Bool) → (n == x.from) ≡ b → (n == x.from) ≡ false
      apart false e = e
      apart true e = absurd (true≢false (sym x.takes ∙ ap (λ k. takes_part k s) (sym (same_id n x.from e)) ∙ none))

  swaps_later : AllByRecursion (IsSwap ring) later → AllByRecursion (IsSwap (s.in_pairs ++ kept)) later
  swaps_later all =
      all_both (IsSwap ring) (λ (q : SeqRow). (n : ℕ) → both_take n s q ≡ false) (IsSwap (s.in_pairs ++ kept))
      (λ q y apart. record { from = y.from; out = y.out ∙ other_from y.from (away (takes_part y.from s) (takes_part y.from q) y.takes (apart y.from)); takes = y.takes; own = y.own; puts = y.puts })
      later all (all_pi (λ (n : ℕ) (q : SeqRow). both_take n s q ≡ false) later (λ n. IsDistinct-head (both_take n) s later (once n)))
    where
      away : (a b : Bool) → b ≡ true → (a && b) ≡ false → a ≡ false
      away a b e h = grind arith

  -- the pairs that come are not taken out again
  comers_stay : filter (stays later) s.in_pairs ≡ s.in_pairs
  comers_stay =
      filter_all (stays later) s.in_pairs
      (all_weaker (λ (p : Pair). p.node ≡ s.node) (λ (p : Pair). stays later p ≡ true)
      (λ p is. ap not (not_out p later (subst (λ n. AllByRecursion (λ q. takes_part n q ≡ false) later) (sym is) (first_alone s later once s.node (own_takes s))))) s.in_pairs x.own)

  -- what stays of the ring
  rest_stays : filter (stays (s ∷ later)) ring ≡ filter (stays later) kept
  rest_stays =
      filter_alike (stays (s ∷ later)) (λ (p : Pair). not (p.node == x.from) && stays later p) ring
      (all_members same_pair same_pair-refl (λ p. stays (s ∷ later) p ≡ (not (p.node == x.from) && stays later p)) ring each)
      ∙ sym (filter_both (stays later) (λ (p : Pair). not (p.node == x.from)) ring)
    where
      neither : (a b : Bool) → not (a || b) ≡ (not a && not b)
      neither true b = refl
      neither false b = refl

      each : (p : Pair) → has_pair ring p ≡ true → stays (s ∷ later) p ≡ (not (p.node == x.from) && stays later p)
      each p there =
          let out : has_pair s.out_pairs p ≡ (p.node == x.from) = ap (λ l. has_pair l p) x.out ∙ has_filter (λ (q : Pair). q.node == x.from) ring p ∙ ap (λ b. b && (p.node == x.from)) there in
          ap not (list_any-append (same_pair p) s.out_pairs (outgoing later) ∙ ap (λ b. b || has_pair (outgoing later) p) out) ∙ neither (p.node == x.from) (has_pair (outgoing later) p)

-- ---- all of them

few_replaced : (ring : List Pair) (sequences : List SeqRow) → AllByRecursion (IsSwap ring) sequences → AreOnce sequences → AreFew (ring ++ brought sequences) → AreFew (replaced ring (outgoing sequences) (incoming sequences))
few_replaced ring [] all once few = few_part (part_append (part_without_pairs ring []) nothing) few
few_replaced ring (s ∷ later) all once few =
    let own : List Pair = brought_by s.kind s.in_pairs in
    let kept : List Pair = without ring all.0.from in
    let left : List Pair = without_pairs kept (outgoing later) in
    let first : AreFew (own ++ (ring ++ brought later)) = few_moved (ring ++ (own ++ brought later)) (own ++ (ring ++ brought later)) (exchanged ring own (brought later)) few in
    let step : AreFew ((s.in_pairs ++ kept) ++ brought later) =
    subst AreFew (sym (append_assoc s.in_pairs kept (brought later))) (few_swapped s.kind ring (brought later) s all.0.from all.0.out all.0.puts first) in
    let rest : AreFew (replaced (s.in_pairs ++ kept) (outgoing later) (incoming later)) =
    few_replaced (s.in_pairs ++ kept) later (swaps_later ring s later all.0 once all.1) (later_once s later once) step in
    let split : without_pairs (s.in_pairs ++ kept) (outgoing later) ≡ s.in_pairs ++ left =
    filter-append (λ p. not (has_pair (outgoing later) p)) s.in_pairs kept ∙ ap (λ l. l ++ left) (comers_stay ring s later all.0 once) in
    let turned : AreFew (left ++ (s.in_pairs ++ incoming later)) =
    few_moved (s.in_pairs ++ (left ++ incoming later)) (left ++ (s.in_pairs ++ incoming later)) (exchanged s.in_pairs left (incoming later))
    (subst AreFew (append_assoc s.in_pairs left (incoming later)) (subst (λ l. AreFew (l ++ incoming later)) split rest)) in
    subst (λ l. AreFew (l ++ (s.in_pairs ++ incoming later))) (sym (rest_stays ring s later all.0 once)) turned

-- ---- the rings

swap : (image : Image) (s : SeqRow) → IsExchange image s → IsSwap image.tokens s
swap image s x = record { from = x.from; out = x.out; takes = x.takes; own = x.own; puts = x.puts }

replaced_few : (test : SeqRow → Bool) (image : Image) → IsSound image → AreFew (replaced image.tokens (outgoing (filter test image.sequences)) (incoming (filter test image.sequences)))
replaced_few test image h =
    let part = part_filter test image.sequences in
    few_replaced image.tokens (filter test image.sequences)
    (part_all_of (IsSwap image.tokens) part (all_weaker (IsExchange image) (IsSwap image.tokens) (swap image) image.sequences (exchanges image h)))
    (λ n. part_distinct (both_take n) part (once_by_node image.sequences h.once n))
    (few_part (part_append (part_all image.tokens) (part_flat (λ (q : SeqRow). brought_by q.kind q.in_pairs) test image.sequences)) (ring_and_brought_few image h))

ring_few : (applied : Phase → Bool) (image : Image) → IsSound image → AreFew (ring_at applied image)
ring_few applied = replaced_few (λ s. applied s.phase)

-- the tokens of the low, the read and the high ring
pub widest-tokens : (image : Image) → IsSound image
    → IsDistinct int_eq (tokens_of (low_ring image)) × IsDistinct int_eq (tokens_of (read_ring image)) × IsDistinct int_eq (tokens_of (high_ring image))
widest-tokens image h = (
  part_distinct int_eq (part_map (λ (p : Pair). p.token) (part_front image.tokens (brought image.sequences))) h.fresh,
  (ring_few is_mid image h).fresh,
  (ring_few has_started image h).fresh,
)

-- those of the low ring with one movement applied
pub applied-tokens : (image : Image) (s : SeqRow) → IsSound image → Contains image.sequences s → IsDistinct int_eq (tokens_of (replaced (low_ring image) s.out_pairs s.in_pairs))
applied-tokens image s h there =
    let own : filter (λ (q : SeqRow). q.node == s.node) image.sequences ≡ s ∷ [] = filter_own image.sequences s h.movements (found_own image.sequences s h.movements there) in
    subst (λ ring. IsDistinct int_eq (tokens_of ring))
    (ap (λ one. replaced image.tokens (outgoing one) (incoming one)) own ∙ (λ i. replaced image.tokens (append-nil s.out_pairs i) (append-nil s.in_pairs i)))
    (replaced_few (λ (q : SeqRow). q.node == s.node) image h).fresh
