-- A movement that is done: the ring and the nodes that it leaves.
use Rattle.std.proofs.Common.{◌≡◌, ℕ, Bool, true, false, not, ◌&&◌, ◌||◌, ◌==◌, ◌⊎◌, inl, inr, true≢false, List, ◌++◌, find, Some, None, refl, sym, ap, ◌∙◌, subst, arith}
use Rattle.std.proofs.lemmas.Bool.{not-true, or_parts}
use Rattle.std.proofs.lemmas.List.{length-map}
use Rattle.std.proofs.lemmas.List.Kept.{IsStrictlySortedBy-filter}
use Rattle.std.proofs.lemmas.List.Sorted.{IsPermutation-append_right, IsPermutation-trans}
use Rattle.std.specs.List.{AllByRecursion, IsDistinct, list_any}
use Rattle.std.specs.Ordering.{int_eq}
use Rattle.cluster_terms.specs.Ascending.{put_all}
use Rattle.cluster_terms.specs.NodeRow.{row_of}
use Rattle.cluster_terms.specs.Pair.{has_pair, tokens_of, without_pairs}
use Rattle.cluster_terms.specs.declared.node.NodeRow.{NodeRow}
use Rattle.cluster_terms.specs.declared.token.Pair.{Pair}
use Rattle.transformations.proofs.commands.AcceptedLemmas.{same_id}
use Rattle.transformations.proofs.movements.BeginLemmas.{ring_and_brought, ring_and_brought_few}
use Rattle.transformations.proofs.movements.ExchangeLemmas.{IsExchange}
use Rattle.transformations.proofs.lists.FilterLemmas.{part_filtered}
use Rattle.transformations.proofs.movements.FitsLemmas.{GoesOn}
use Rattle.transformations.proofs.lists.ListLemmas.{all_both, all_each, all_filter, all_pi, all_weaker, any_false, exchanged, part_all, part_append, part_distinct, part_filter, part_front, part_length, part_map}
use Rattle.transformations.proofs.movements.MovementLemmas.{flat_without}
use Rattle.transformations.proofs.nodes.NodeLemmas.{row_marked}
use Rattle.transformations.proofs.movements.OnceLemmas.{others_free}
use Rattle.transformations.proofs.pairs.OwnedLemmas.{has_append, has_filter, has_permuted, owned_put, owned_without, taken_out, without}
use Rattle.transformations.proofs.pairs.RingPairs.{AreFew, few_moved, not_others, owned_with, put_into_ring, put_permuted}
use Rattle.transformations.proofs.pairs.SwapLemmas.{few_swapped}
use Rattle.transformations.specs.Orders.{by_token}
use Rattle.transformations.specs.States.{owns_tokens}
use Rattle.transformations.specs.Movements.{leaver, others, owned, ring_after, takes_part, with_left}
use Rattle.transformations.specs.Valid.{IsMovement, IsOwned, IsSound, brought, brought_by, is_standing, stands}
use Rattle.transformations.specs.declared.image.Image.{Image}
use Rattle.transformations.specs.declared.sequence.SeqRow.{SeqRow}

-- the image once a movement is done
abbrev pub done : Image → SeqRow → ℕ → Image
done image s epoch = record image { epoch = epoch; nodes = with_left image.nodes (leaver s); tokens = ring_after image.tokens s; sequences = others image.sequences s.node }

module _ (image : Image) (s : SeqRow) (h : IsSound image) (m : IsMovement image s) (x : IsExchange image s) (found : find (λ (q : SeqRow). q.node == s.node) image.sequences ≡ Some s) where
  abbrev rest : List SeqRow
  rest = others image.sequences s.node

  abbrev kept : List Pair
  kept = without image.tokens x.from

  -- ---- the ring

  pub ring_done : ring_after image.tokens s ≡ put_all by_token s.in_pairs kept
  ring_done =
      ap (λ out. put_all by_token s.in_pairs (without_pairs image.tokens out)) x.out
      ∙ ap (put_all by_token s.in_pairs) (taken_out image.tokens x.from)

  -- what the movement brings, beside all else that stands or is brought
  few_apart : AreFew (brought_by s.kind s.in_pairs ++ (image.tokens ++ brought rest))
  few_apart =
      let own : List Pair = brought_by s.kind s.in_pairs in
      few_moved (ring_and_brought image) (own ++ (image.tokens ++ brought rest))
      (IsPermutation-trans (image.tokens ++ brought image.sequences) (image.tokens ++ (own ++ brought rest)) (own ++ (image.tokens ++ brought rest))
      (IsPermutation-append_right image.tokens (brought image.sequences) (own ++ brought rest) (flat_without (λ (q : SeqRow). brought_by q.kind q.in_pairs) s.node image.sequences s h.movements found))
      (exchanged image.tokens own (brought rest))) (ring_and_brought_few image h)

  -- the pairs that come, beside those that stay and those that others bring
  few_after : AreFew (s.in_pairs ++ (kept ++ brought rest))
  few_after = few_swapped s.kind image.tokens (brought rest) s x.from x.out x.puts few_apart

  pub few_done : AreFew (ring_after image.tokens s ++ brought rest)
  few_done =
      subst (λ ring. AreFew (ring ++ brought rest)) (sym ring_done)
      (few_moved (s.in_pairs ++ (kept ++ brought rest)) (put_all by_token s.in_pairs kept ++ brought rest) (put_into_ring s.in_pairs kept (brought rest) few_after) few_after)

  -- its pairs
  pub has_done : (p : Pair) → has_pair (ring_after image.tokens s) p ≡ (has_pair s.in_pairs p || (has_pair image.tokens p && not (has_pair s.out_pairs p)))
  has_done p =
      ap (λ ring. has_pair ring p) ring_done
      ∙ sym (has_permuted (s.in_pairs ++ kept) (put_all by_token s.in_pairs kept) (put_permuted s.in_pairs kept (brought rest) few_after) p)
      ∙ sym (has_append s.in_pairs kept p)
      ∙ ap (λ b. has_pair s.in_pairs p || b) (has_filter (λ (q : Pair). not (q.node == x.from)) image.tokens p
      ∙ stays (has_pair image.tokens p) (p.node == x.from) (has_pair s.out_pairs p) (ap (λ l. has_pair l p) x.out ∙ has_filter (λ (q : Pair). q.node == x.from) image.tokens p))
    where
      stays : (t e o : Bool) → o ≡ (t && e) → (t && not e) ≡ (t && not o)
      stays true e o is = ap not (sym is)
      stays false e o is = refl

  fresh_ring : IsDistinct int_eq (tokens_of (s.in_pairs ++ kept))
  fresh_ring = part_distinct int_eq (part_map (λ (p : Pair). p.token) (part_append (part_all s.in_pairs) (part_front kept (brought rest)))) few_after.fresh

  -- a node that takes no part isn't the one whose pairs go
  not_from : (n : ℕ) → takes_part n s ≡ false → (n == x.from) ≡ false
  not_from n none = by (n == x.from) refl
    where
      by : (b : Bool) → (n == x.from) ≡ b → (n == x.from) ≡ false
      by false e = e
      by true e = absurd (true≢false (sym x.takes ∙ ap (λ k. takes_part k s) (sym (same_id n x.from e)) ∙ none))

  -- and keeps its pairs
  owned_done : (n : ℕ) → takes_part n s ≡ false → owned image.tokens n ≡ owned (ring_after image.tokens s) n
  owned_done n none =
      sym (ap (λ ring. owned ring n) ring_done
      ∙ owned_put s.in_pairs kept n (not_others s.node n s.in_pairs ((or_parts (s.node == n) (list_any (λ (p : Pair). p.node == n) s.out_pairs) none).0) x.own) fresh_ring
      ∙ owned_without image.tokens x.from n (not_from n none))

  -- ---- the nodes

  abbrev nodes : List NodeRow
  nodes = with_left image.nodes (leaver s)

  -- the row of a node stays, but for that of the one whose pairs go
  rows_left : (n : ℕ) → (n == x.from) ≡ false → row_of image.nodes n ≡ row_of nodes n
  rows_left n other = by x.leaves
    where
      by : (leaver s ≡ None) ⊎ ((leaver s ≡ Some x.from) × AllByRecursion (λ p. (p.node == x.from) ≡ false) s.in_pairs) → row_of image.nodes n ≡ row_of nodes n
      by (inl none) = ap (λ o. row_of (with_left image.nodes o) n) (sym none)
      by (inr some) = row_marked x.from image.nodes n other ∙ ap (λ o. row_of (with_left image.nodes o) n) (sym some.0)

  standing_left : (n : ℕ) → (n == x.from) ≡ false → is_standing image.nodes n ≡ true → is_standing nodes n ≡ true
  standing_left n other up = sym (ap stands (rows_left n other)) ∙ up

  -- the nodes of the pairs that come stand
  comers_stand : AllByRecursion (λ p. is_standing nodes p.node ≡ true) s.in_pairs
  comers_stand = by x.leaves
    where
      up : (p : Pair) → p.node ≡ s.node → is_standing image.nodes p.node ≡ true
      up p is = ap (is_standing image.nodes) is ∙ m.stands

      by : (leaver s ≡ None) ⊎ ((leaver s ≡ Some x.from) × AllByRecursion (λ p. (p.node == x.from) ≡ false) s.in_pairs) → AllByRecursion (λ p. is_standing nodes p.node ≡ true) s.in_pairs
      by (inl none) = all_weaker (λ (p : Pair). p.node ≡ s.node) (λ (p : Pair). is_standing nodes p.node ≡ true) (λ p is. ap (λ o. is_standing (with_left image.nodes o) p.node) none ∙ up p is) s.in_pairs x.own
      by (inr some) =
          all_both (λ (p : Pair). p.node ≡ s.node) (λ (p : Pair). (p.node == x.from) ≡ false) (λ (p : Pair). is_standing nodes p.node ≡ true)
          (λ p is other. standing_left p.node other (up p is)) s.in_pairs x.own some.1

  -- ---- the ring has its owners

  owned_kept : IsOwned (record image { nodes = nodes; tokens = kept })
  owned_kept = record {
    ascending = IsStrictlySortedBy-filter by_token (λ (p : Pair). not (p.node == x.from)) image.tokens h.ring.ascending;
    owners = all_filter (λ (p : Pair). not (p.node == x.from)) (λ (p : Pair). is_standing nodes p.node ≡ true) image.tokens
        (all_weaker (λ (p : Pair). is_standing image.nodes p.node ≡ true) (λ (p : Pair). not (p.node == x.from) ≡ true → is_standing nodes p.node ≡ true)
        (λ p up other. standing_left p.node (not-true (p.node == x.from) other) up) image.tokens h.ring.owners);
    few = λ n. (let less = part_length (part_filtered (λ (p : Pair). p.node == n) (part_filter (λ (p : Pair). not (p.node == x.from)) image.tokens)) in
        omega (arith, h.ring.few n, length-map (owned kept n) (λ (p : Pair). p.token), length-map (owned image.tokens n) (λ (p : Pair). p.token)));
  }

  bare_kept : owns_tokens (record image { nodes = nodes; tokens = kept }) s.node ≡ false
  bare_kept =
      any_false (λ (p : Pair). p.node == s.node) kept
      (all_filter (λ (p : Pair). not (p.node == x.from)) (λ (p : Pair). (p.node == s.node) ≡ false) image.tokens
      (all_weaker (λ (p : Pair). (p.node == x.from) ≡ false → (p.node == s.node) ≡ false) (λ (p : Pair). not (p.node == x.from) ≡ true → (p.node == s.node) ≡ false)
      (λ p clear other. clear (not-true (p.node == x.from) other)) image.tokens x.clear))

  pub owned_after : IsOwned (record image { nodes = nodes; tokens = ring_after image.tokens s })
  owned_after =
      subst (λ ring. IsOwned (record image { nodes = nodes; tokens = ring })) (sym ring_done)
      (owned_with (record image { nodes = nodes; tokens = kept }) s.node s.in_pairs bare_kept comers_stand x.own x.few owned_kept)

  -- ---- the others

  -- no node that takes part in it takes part in another one
  alone : AllByRecursion (λ q. (n : ℕ) → takes_part n s ≡ true → takes_part n q ≡ false) rest
  alone = all_pi (λ (n : ℕ) (q : SeqRow). takes_part n s ≡ true → takes_part n q ≡ false) rest (λ n. by n (takes_part n s) refl)
    where
      by : (n : ℕ) (b : Bool) → takes_part n s ≡ b → AllByRecursion (λ q. takes_part n s ≡ true → takes_part n q ≡ false) rest
      by n true e = all_weaker (λ (q : SeqRow). takes_part n q ≡ false) (λ (q : SeqRow). takes_part n s ≡ true → takes_part n q ≡ false) (λ q none here. none) rest (others_free image.sequences s found h.once n e)
      by n false e = all_each (λ (q : SeqRow). takes_part n s ≡ true → takes_part n q ≡ false) (λ q here. absurd (true≢false (sym here ∙ e))) rest

  -- what they rest on stays
  pub others_go_on : (epoch : ℕ) → AllByRecursion (λ q. GoesOn image (done image s epoch) q) rest
  others_go_on epoch =
      all_weaker (λ (q : SeqRow). (n : ℕ) → takes_part n s ≡ true → takes_part n q ≡ false)
      (λ (q : SeqRow). GoesOn image (done image s epoch) q)
      (λ q apart. record { pairs = λ n takes. owned_done n (away q apart n takes); rows = λ n takes up. rows_left n (not_from n (away q apart n takes)) }) rest alone
    where
      away : (q : SeqRow) → ((n : ℕ) → takes_part n s ≡ true → takes_part n q ≡ false) → (n : ℕ) → takes_part n q ≡ true → takes_part n s ≡ false
      away q apart n takes = by (takes_part n s) refl
        where
          by : (b : Bool) → takes_part n s ≡ b → takes_part n s ≡ false
          by false e = e
          by true e = absurd (true≢false (sym takes ∙ apart n e))
