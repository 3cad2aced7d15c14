-- The ring of some movements has the same pairs once one of them is done.
use Rattle.std.proofs.Common.{◌≡◌, Bool, true, false, cond, not, ◌&&◌, ◌||◌, ◌==◌, true≢false, List, [], ◌∷◌, ◌++◌, filter, find, flat_map, Some, refl, sym, ap, ◌∙◌, arith}
use Rattle.std.proofs.lemmas.List.Kept.{IsStrictlySortedBy-filter}
use Rattle.std.proofs.lemmas.Option.{none-some}
use Rattle.cluster_terms.proofs.rows.PairLemmas.{same_pair-tells}
use Rattle.cluster_terms.specs.Pair.{has_pair, same_pair}
use Rattle.cluster_terms.specs.declared.token.Pair.{Pair}
use Rattle.transformations.proofs.movements.DoneLemmas.{has_done}
use Rattle.transformations.proofs.movements.ExchangeLemmas.{IsExchange, exchange, own_takes}
use Rattle.transformations.proofs.lists.FilterLemmas.{filter_alike, filter_both}
use Rattle.transformations.proofs.lists.ListLemmas.{all_each, all_found, member_holds, part_all_of, part_filter}
use Rattle.transformations.proofs.movements.MovementLemmas.{flat_without}
use Rattle.transformations.proofs.movements.OnceLemmas.{not_out, others_free}
use Rattle.transformations.proofs.pairs.OwnedLemmas.{has_append, has_filter, has_permuted}
use Rattle.transformations.specs.Orders.{by_node}
use Rattle.transformations.specs.Rings.{incoming, outgoing, replaced}
use Rattle.transformations.specs.Movements.{others, ring_after, takes_part}
use Rattle.transformations.specs.Valid.{IsMovement, IsSound}
use Rattle.transformations.specs.declared.image.Image.{Image}
use Rattle.transformations.specs.declared.sequence.SeqRow.{SeqRow}

-- a movement that passes is found among those that pass
pub found_among : (test passes : SeqRow → Bool) (sequences : List SeqRow) (s : SeqRow) → find test sequences ≡ Some s → passes s ≡ true → find test (filter passes sequences) ≡ Some s
found_among test passes [] s found is = absurd (none-some s found)
found_among test passes (q ∷ sequences) s found is = by (test q) refl found (passes q) refl (λ later. found_among test passes sequences s later is)
  where
    by : (b : Bool) → test q ≡ b → cond b (Some q) (find test sequences) ≡ Some s → (c : Bool) → passes q ≡ c → (find test sequences ≡ Some s → find test (filter passes sequences) ≡ Some s)
        → find test (cond c (q ∷ filter passes sequences) (filter passes sequences)) ≡ Some s
    by true e found true f rest = ap (λ b. cond b (Some q) (find test (filter passes sequences))) e ∙ found
    by true e found false f rest =
        let same : q ≡ s = cc in
        absurd (true≢false (sym (ap passes same ∙ is) ∙ f))
    by false e found true f rest = ap (λ b. cond b (Some q) (find test (filter passes sequences))) e ∙ rest found
    by false e found false f rest = rest found

-- the pairs of a ring with others in the place of some
has_replaced : (ring out brought : List Pair) (p : Pair) → has_pair (replaced ring out brought) p ≡ ((has_pair ring p && not (has_pair out p)) || has_pair brought p)
has_replaced ring out brought p =
    sym (has_append (filter (λ q. not (has_pair out q)) ring) brought p) ∙ ap (λ b. b || has_pair brought p) (has_filter (λ q. not (has_pair out q)) ring p)

alike : (t o os i is : Bool) → (i ≡ true → os ≡ false) → ((t && not (o || os)) || (i || is)) ≡ (((i || (t && not o)) && not os) || is)
alike t o true true is apart = absurd (true≢false (apart refl))
alike true true false true is apart = refl
alike true false false true is apart = refl
alike false o false true is apart = refl
alike true true os false is apart = refl
alike true false os false is apart = refl
alike false o os false is apart = refl

module _ (image : Image) (s : SeqRow) (found : find (λ (q : SeqRow). q.node == s.node) image.sequences ≡ Some s) (h : IsSound image) (passes : SeqRow → Bool) (is : passes s ≡ true) where
  fits : IsMovement image s
  fits = all_found (IsMovement image) (λ (q : SeqRow). q.node == s.node) image.sequences s found h.fitting

  swaps : IsExchange image s
  swaps = exchange image s h.ring fits

  -- the movements that pass, and the others of them
  abbrev some : List SeqRow
  some = filter passes image.sequences

  abbrev rest : List SeqRow
  rest = filter passes (others image.sequences s.node)

  others_some : others some s.node ≡ rest
  others_some =
      filter_both (λ (q : SeqRow). not (q.node == s.node)) passes image.sequences
      ∙ filter_alike (λ (q : SeqRow). passes q && not (q.node == s.node)) (λ (q : SeqRow). not (q.node == s.node) && passes q) image.sequences
      (all_each (λ (q : SeqRow). (passes q && not (q.node == s.node)) ≡ (not (q.node == s.node) && passes q)) (λ q. turned (passes q) (not (q.node == s.node))) image.sequences)
      ∙ sym (filter_both passes (λ (q : SeqRow). not (q.node == s.node)) image.sequences)
    where
      turned : (a b : Bool) → (a && b) ≡ (b && a)
      turned a b = grind arith

  -- its pairs and theirs
  split : (f : SeqRow → List Pair) (p : Pair) → has_pair (flat_map f some) p ≡ (has_pair (f s) p || has_pair (flat_map f rest) p)
  split f p =
      has_permuted (flat_map f some) (f s ++ flat_map f (others some s.node))
      (flat_without f s.node some s (IsStrictlySortedBy-filter by_node passes image.sequences h.movements) (found_among (λ (q : SeqRow). q.node == s.node) passes image.sequences s found is)) p
      ∙ sym (has_append (f s) (flat_map f (others some s.node)) p) ∙ ap (λ l. has_pair (f s) p || has_pair (flat_map f l) p) others_some

  -- no other takes out what it puts in
  in_apart : (p : Pair) → has_pair s.in_pairs p ≡ true → has_pair (outgoing rest) p ≡ false
  in_apart p there =
      let own : p.node ≡ s.node = member_holds same_pair same_pair-tells (λ q. q.node ≡ s.node) s.in_pairs swaps.own p there in
      let takes : takes_part p.node s ≡ true = ap (λ n. takes_part n s) own ∙ own_takes s in
      not_out p rest (part_all_of (λ (q : SeqRow). takes_part p.node q ≡ false) (part_filter passes (others image.sequences s.node)) (others_free image.sequences s found h.once p.node takes))

  -- the ring has the same pairs
  pub ring_same : (p : Pair) → has_pair (replaced image.tokens (outgoing some) (incoming some)) p ≡ has_pair (replaced (ring_after image.tokens s) (outgoing rest) (incoming rest)) p
  ring_same p =
      has_replaced image.tokens (outgoing some) (incoming some) p
      ∙ (λ i. (has_pair image.tokens p && not (split (λ (q : SeqRow). q.out_pairs) p i)) || split (λ (q : SeqRow). q.in_pairs) p i)
      ∙ alike (has_pair image.tokens p) (has_pair s.out_pairs p) (has_pair (outgoing rest) p) (has_pair s.in_pairs p) (has_pair (incoming rest) p) (in_apart p)
      ∙ sym (ap (λ b. (b && not (has_pair (outgoing rest) p)) || has_pair (incoming rest) p) (has_done image s h fits swaps found p))
      ∙ sym (has_replaced (ring_after image.tokens s) (outgoing rest) (incoming rest) p)
