-- Movements in flight: one that is prepared, one that goes on, and one that is done.
use Rattle.std.proofs.Common.{◌≡◌, ℕ, ◌≤◌, Bool, true, false, cond, not, ◌&&◌, ◌==◌, ℤ, List, [], ◌∷◌, ◌++◌, map, find, flat_map, length, Some, None, is_some, nat_le, if◌then◌else◌, true≢false, refl, sym, ap, ◌∙◌, subst, arith}
use Rattle.std.proofs.lemmas.Bool.Decides.{nat_tests}
use Rattle.std.proofs.lemmas.Cmp.{nat_cmp_total, on_total, ranked}
use Rattle.std.proofs.lemmas.List.Sorted.{IsPermutation-append_right, IsPermutation-refl, IsPermutation-trans}
use Rattle.std.proofs.lemmas.Option.{none-some}
use Rattle.std.specs.Cmp.{IsTotalOrder}
use Rattle.std.specs.List.{AllByRecursion}
use Rattle.std.specs.List.Sorted.{IsPermutation, IsStrictlySortedBy}
use Rattle.std.specs.Ordering.{is_eq, match_ordering, nat_cmp}
use Rattle.std.specs.declared.cmp.Ordering.{Ordering}
use Rattle.std.specs.declared.cmp.Ordering.TheVariants.{Less, Equal, Greater}
use Rattle.cluster_terms.specs.Ascending.{put}
use Rattle.cluster_terms.specs.declared.token.Pair.{Pair}
use Rattle.transformations.proofs.commands.AcceptedLemmas.{same_id}
use Rattle.cluster_terms.proofs.lists.PutPermutes.{put_permutes}
use Rattle.transformations.proofs.lists.ListLemmas.{IsPart, all_map, all_weaker, exchanged, filter_all, find_none, part_all, part_append, part_none}
use Rattle.transformations.specs.History.{are_tokens, ascend}
use Rattle.transformations.specs.Orders.{by_node}
use Rattle.transformations.specs.Ranges.{moved_by}
use Rattle.transformations.specs.Rings.{incoming, outgoing}
use Rattle.transformations.specs.Movements.{at_phase, others}
use Rattle.transformations.specs.Valid.{brought, brought_by}
use Rattle.transformations.specs.declared.sequence.Kind.{Kind}
use Rattle.transformations.specs.declared.sequence.Kind.TheVariants.{Join, Move, Leave, Replace}
use Rattle.transformations.specs.declared.sequence.Phase.{Phase}
use Rattle.transformations.specs.declared.sequence.SeqRow.{SeqRow}

pub by_node_total : IsTotalOrder by_node
by_node_total = on_total (λ (s : SeqRow). s.node) nat_cmp_total

-- ---- the tokens of a command

pub record AreTokens (tokens : List ℤ) : Type 0 where
  pub some : 1 ≤ length tokens
  pub few : length tokens ≤ 256
  pub ascending : ascend tokens ≡ true

pub tokens_are : (tokens : List ℤ) → are_tokens tokens ≡ true → AreTokens tokens
tokens_are tokens h = by (nat_le 1 (length tokens)) refl (nat_le (length tokens) 256) refl (ascend tokens) refl h
  where
    by : (a : Bool) → nat_le 1 (length tokens) ≡ a → (b : Bool) → nat_le (length tokens) 256 ≡ b → (c : Bool) → ascend tokens ≡ c → (a && (b && c)) ≡ true → AreTokens tokens
    by true e true f true g h = record { some = grind (arith, nat_tests); few = grind (arith, nat_tests); ascending = g }
    by false e b f c g h = absurd (true≢false (sym h))
    by true e false f c g h = absurd (true≢false (sym h))
    by true e true f false g h = absurd (true≢false (sym h))

-- ---- a movement more

apart_ties : (n m : ℕ) → (m == n) ≡ false → is_eq (nat_cmp n m) ≡ false
apart_ties n m h = grind (arith, nat_tests)

pub sequences_put : (j : SeqRow) (sequences : List SeqRow) → AllByRecursion (λ s. (s.node == j.node) ≡ false) sequences → IsPermutation (j ∷ sequences) (put by_node j sequences)
sequences_put j sequences apart =
    put_permutes by_node j sequences
    (all_weaker (λ (s : SeqRow). (s.node == j.node) ≡ false) (λ (s : SeqRow). is_eq (by_node j s) ≡ false) (λ s other. apart_ties j.node s.node other) sequences apart)

-- what a movement has, and what those before have
pub flat_put : (f : SeqRow → List Pair) (j : SeqRow) (sequences : List SeqRow) → AllByRecursion (λ s. (s.node == j.node) ≡ false) sequences → IsPermutation (f j ++ flat_map f sequences) (flat_map f (put by_node j sequences))
flat_put f j [] all = IsPermutation-refl (f j ++ [])
flat_put f j (s ∷ sequences) all = by (by_node j s) (apart_ties j.node s.node all.0) (flat_put f j sequences all.1)
  where
    by : (o : Ordering) → is_eq o ≡ false → IsPermutation (f j ++ flat_map f sequences) (flat_map f (put by_node j sequences))
        → IsPermutation (f j ++ flat_map f (s ∷ sequences)) (flat_map f (match_ordering o (j ∷ (s ∷ sequences)) (j ∷ sequences) (s ∷ put by_node j sequences)))
    by Less e rest = IsPermutation-refl (f j ++ flat_map f (s ∷ sequences))
    by Equal e rest = absurd (true≢false e)
    by Greater e rest =
        IsPermutation-trans (f j ++ (f s ++ flat_map f sequences)) (f s ++ (f j ++ flat_map f sequences)) (f s ++ flat_map f (put by_node j sequences))
        (exchanged (f j) (f s) (flat_map f sequences))
        (IsPermutation-append_right (f s) (f j ++ flat_map f sequences) (flat_map f (put by_node j sequences)) rest)

-- the others are those before
others_all : (n : ℕ) (sequences : List SeqRow) → AllByRecursion (λ s. (s.node == n) ≡ false) sequences → others sequences n ≡ sequences
others_all n sequences all =
    filter_all (λ (s : SeqRow). not (s.node == n)) sequences
    (all_weaker (λ (s : SeqRow). (s.node == n) ≡ false) (λ (s : SeqRow). not (s.node == n) ≡ true) (λ s other. ap not other) sequences all)

others_after : (j : SeqRow) (sequences : List SeqRow) → others (j ∷ sequences) j.node ≡ others sequences j.node
others_after j sequences = ap (λ b. cond (not b) (j ∷ others sequences j.node) (others sequences j.node)) (itself j.node)
  where
    itself : (n : ℕ) → (n == n) ≡ true
    itself n = grind (arith, nat_tests)

pub others_put : (j : SeqRow) (sequences : List SeqRow) → AllByRecursion (λ s. (s.node == j.node) ≡ false) sequences → others (put by_node j sequences) j.node ≡ sequences
others_put j [] all = others_after j []
others_put j (s ∷ sequences) all = by (by_node j s) (apart_ties j.node s.node all.0) (others_put j sequences all.1)
  where
    by : (o : Ordering) → is_eq o ≡ false → others (put by_node j sequences) j.node ≡ sequences
        → others (match_ordering o (j ∷ (s ∷ sequences)) (j ∷ sequences) (s ∷ put by_node j sequences)) j.node ≡ s ∷ sequences
    by Less e rest = others_after j (s ∷ sequences) ∙ others_all j.node (s ∷ sequences) all
    by Equal e rest = absurd (true≢false e)
    by Greater e rest =
        ap (λ b. cond (not b) (s ∷ others (put by_node j sequences) j.node) (others (put by_node j sequences) j.node)) all.0 ∙ ap (λ l. s ∷ l) rest

-- ---- a movement less

-- the movements after one are of other nodes
later_others : (s : SeqRow) (sequences : List SeqRow) → AllByRecursion (λ q. by_node s q ≡ Less) sequences → others sequences s.node ≡ sequences
later_others s sequences later =
    filter_all (λ (q : SeqRow). not (q.node == s.node)) sequences
    (all_weaker (λ (q : SeqRow). by_node s q ≡ Less) (λ (q : SeqRow). not (q.node == s.node) ≡ true) (λ q less. by s.node q.node less) sequences later)
  where
    by : (n m : ℕ) → nat_cmp n m ≡ Less → not (m == n) ≡ true
    by n m less = (let lt = ranked n m Less (sym less) in grind (arith, nat_tests))

-- what the movement of a node has, and what the others have
pub flat_without : (f : SeqRow → List Pair) (n : ℕ) (sequences : List SeqRow) (s : SeqRow) → IsStrictlySortedBy by_node sequences → find (λ (q : SeqRow). q.node == n) sequences ≡ Some s
    → IsPermutation (flat_map f sequences) (f s ++ flat_map f (others sequences n))
unfolding IsStrictlySortedBy
flat_without f n [] s up found = absurd (none-some s found)
flat_without f n (q ∷ sequences) s up found = by (q.node == n) refl found (flat_without f n sequences s up.1)
  where
    by : (b : Bool) → (q.node == n) ≡ b → cond b (Some q) (find (λ (q : SeqRow). q.node == n) sequences) ≡ Some s
        → (find (λ (q : SeqRow). q.node == n) sequences ≡ Some s → IsPermutation (flat_map f sequences) (f s ++ flat_map f (others sequences n)))
        → IsPermutation (f q ++ flat_map f sequences) (f s ++ flat_map f (cond (not b) (q ∷ others sequences n) (others sequences n)))
    by true e found rest =
        let is : q ≡ s = cc in
        let node : q.node ≡ n = same_id q.node n e in
        let later : others sequences n ≡ sequences = subst (λ k. others sequences k ≡ sequences) node (later_others q sequences up.0) in
        rw (later, ← is) (IsPermutation-refl (f q ++ flat_map f sequences))
    by false e found rest =
        IsPermutation-trans (f q ++ flat_map f sequences) (f q ++ (f s ++ flat_map f (others sequences n))) (f s ++ (f q ++ flat_map f (others sequences n)))
        (IsPermutation-append_right (f q) (flat_map f sequences) (f s ++ flat_map f (others sequences n)) (rest found))
        (exchanged (f q) (f s) (flat_map f (others sequences n)))

-- the others are of other nodes
pub others_apart : (n : ℕ) (sequences : List SeqRow) → AllByRecursion (λ s. (s.node == n) ≡ false) (others sequences n)
others_apart n [] = tt
others_apart n (s ∷ sequences) = by (s.node == n) refl (others_apart n sequences)
  where
    by : (b : Bool) → (s.node == n) ≡ b → AllByRecursion (λ q. (q.node == n) ≡ false) (others sequences n) → AllByRecursion (λ q. (q.node == n) ≡ false) (cond (not b) (s ∷ others sequences n) (others sequences n))
    by true e rest = rest
    by false e rest = (e, rest)

-- a node that still has a movement is another one
pub still_other : (n m : ℕ) (sequences : List SeqRow) → is_some (find (λ (s : SeqRow). s.node == m) (others sequences n)) ≡ true → (m == n) ≡ false
still_other n m sequences some = by (m == n) refl
  where
    by : (b : Bool) → (m == n) ≡ b → (m == n) ≡ false
    by false e = e
    by true e =
        let gone : find (λ (s : SeqRow). s.node == n) (others sequences n) ≡ None = find_none (λ (s : SeqRow). s.node == n) (others sequences n) (others_apart n sequences) in
        absurd (true≢false (sym some ∙ ap (λ k. is_some (find (λ (s : SeqRow). s.node == k) (others sequences n))) (same_id m n e) ∙ ap is_some gone))

-- ---- a movement in another phase

module _ (phase : Phase) (n : ℕ) where
  pub phase_node : (s : SeqRow) → (at_phase phase n s).node ≡ s.node
  phase_node s = by (s.node == n)
    where
      by : (b : Bool) → (let changed : SeqRow = record s { phase = phase } in if b then changed else s).node ≡ s.node
      by true = refl
      by false = refl

  pub phase_in_pairs : (s : SeqRow) → (at_phase phase n s).in_pairs ≡ s.in_pairs
  phase_in_pairs s = by (s.node == n)
    where
      by : (b : Bool) → (let changed : SeqRow = record s { phase = phase } in if b then changed else s).in_pairs ≡ s.in_pairs
      by true = refl
      by false = refl

  phase_kind : (s : SeqRow) → (at_phase phase n s).kind ≡ s.kind
  phase_kind s = by (s.node == n)
    where
      by : (b : Bool) → (let changed : SeqRow = record s { phase = phase } in if b then changed else s).kind ≡ s.kind
      by true = refl
      by false = refl

  pub phase_sorted : (sequences : List SeqRow) → IsStrictlySortedBy by_node sequences → IsStrictlySortedBy by_node (map (at_phase phase n) sequences)
  unfolding IsStrictlySortedBy
  phase_sorted [] up = tt
  phase_sorted (s ∷ sequences) up = (
    all_map (λ q. by_node (at_phase phase n s) q ≡ Less) (at_phase phase n) sequences
        (all_weaker (λ q. by_node s q ≡ Less) (λ q. by_node (at_phase phase n s) (at_phase phase n q) ≡ Less) (λ q less. ap (λ k. nat_cmp k (at_phase phase n q).node) (phase_node s) ∙ ap (nat_cmp s.node) (phase_node q) ∙ less) sequences up.0),
    phase_sorted sequences up.1,
  )

  pub phase_incoming : (sequences : List SeqRow) → incoming (map (at_phase phase n) sequences) ≡ incoming sequences
  phase_incoming [] = refl
  phase_incoming (s ∷ sequences) = ap (λ l. l ++ incoming (map (at_phase phase n) sequences)) (phase_in_pairs s) ∙ ap (λ l. s.in_pairs ++ l) (phase_incoming sequences)

  pub phase_out_pairs : (s : SeqRow) → (at_phase phase n s).out_pairs ≡ s.out_pairs
  phase_out_pairs s = by (s.node == n)
    where
      by : (b : Bool) → (let changed : SeqRow = record s { phase = phase } in if b then changed else s).out_pairs ≡ s.out_pairs
      by true = refl
      by false = refl

  pub phase_outgoing : (sequences : List SeqRow) → outgoing (map (at_phase phase n) sequences) ≡ outgoing sequences
  phase_outgoing [] = refl
  phase_outgoing (s ∷ sequences) = λ i. phase_out_pairs s i ++ phase_outgoing sequences i

  pub phase_moved : (s : SeqRow) → moved_by (at_phase phase n s) ≡ moved_by s
  phase_moved s = λ i. phase_out_pairs s i ++ phase_in_pairs s i

  pub phase_brought : (sequences : List SeqRow) → brought (map (at_phase phase n) sequences) ≡ brought sequences
  phase_brought [] = refl
  phase_brought (s ∷ sequences) = λ i. brought_by (phase_kind s i) (phase_in_pairs s i) ++ phase_brought sequences i

-- ---- what movements bring at tokens of their own

pub part_brought : (sequences : List SeqRow) → IsPart (brought sequences) (incoming sequences)
part_brought [] = part_all []
part_brought (s ∷ sequences) = part_append (by s.kind) (part_brought sequences)
  where
    by : (k : Kind) → IsPart (brought_by k s.in_pairs) s.in_pairs
    by Join = part_all s.in_pairs
    by Move = part_all s.in_pairs
    by Leave = part_all s.in_pairs
    by Replace = part_none s.in_pairs
