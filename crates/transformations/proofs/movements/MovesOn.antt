-- A movement that goes on moves the same pairs: those of its node before and after a command.
use Rattle.std.proofs.Common.{◌≡◌, ℕ, true, false, not, ◌==◌, List, [], ◌∷◌, map, refl, sym, ap, ◌∙◌, arith}
use Rattle.std.proofs.lemmas.Bool.Decides.{nat_tests}
use Rattle.std.specs.List.{AllByRecursion}
use Rattle.std.specs.List.Sorted.{IsStrictlySortedBy}
use Rattle.std.specs.Ordering.{nat_cmp}
use Rattle.std.specs.declared.cmp.Ordering.TheVariants.{Less}
use Rattle.cluster_terms.proofs.lists.AscendingLemmas.{All-put}
use Rattle.cluster_terms.specs.Ascending.{put}
use Rattle.transformations.proofs.lists.ListLemmas.{all_both, all_map, all_none, all_weaker, part_all_of, part_filter}
use Rattle.transformations.proofs.movements.MovementLemmas.{phase_in_pairs, phase_node, phase_out_pairs}
use Rattle.transformations.specs.MovementDeltas.{MovesSame}
use Rattle.transformations.specs.Orders.{by_node}
use Rattle.transformations.specs.Movements.{at_phase, others}
use Rattle.transformations.specs.declared.sequence.Phase.{Phase}
use Rattle.transformations.specs.declared.sequence.SeqRow.{SeqRow}

-- two movements move the same pairs where they are of one node
abbrev pub MoveAlike : SeqRow → SeqRow → Type 0
MoveAlike s q = (q.node == s.node) ≡ true → MovesSame s q

-- each movement before moves the same pairs as those of its node after
abbrev pub MoveOn : List SeqRow → List SeqRow → Type 0
MoveOn before after = AllByRecursion (λ s. AllByRecursion (MoveAlike s) after) before

-- what holds of some movements after holds of others
carried : (before after other : List SeqRow) → ((s : SeqRow) → AllByRecursion (MoveAlike s) after → AllByRecursion (MoveAlike s) other) → MoveOn before after → MoveOn before other
carried before after other step = all_weaker (λ s. AllByRecursion (MoveAlike s) after) (λ s. AllByRecursion (MoveAlike s) other) step before

-- no two movements are of one node
pub on_same : (sequences : List SeqRow) → IsStrictlySortedBy by_node sequences → MoveOn sequences sequences
unfolding IsStrictlySortedBy
on_same [] up = tt
on_same (s ∷ sequences) up = (
  (λ same. record { outs = refl; ins = refl }, all_weaker (λ (q : SeqRow). by_node s q ≡ Less) (MoveAlike s) (λ q less same. absurd (above s.node q.node less same)) sequences up.0),
  all_both (λ (q : SeqRow). by_node s q ≡ Less) (λ (q : SeqRow). AllByRecursion (MoveAlike q) sequences) (λ (q : SeqRow). AllByRecursion (MoveAlike q) (s ∷ sequences))
      (λ q less rest. (λ same. absurd (below s.node q.node less same), rest)) sequences up.0 (on_same sequences up.1),
)
  where
    above : (n m : ℕ) → nat_cmp n m ≡ Less → (m == n) ≡ true → ⊥
    above n m less same = grind (arith, nat_tests)

    below : (n m : ℕ) → nat_cmp n m ≡ Less → (n == m) ≡ true → ⊥
    below n m less same = grind (arith, nat_tests)

-- one takes a step, or ends
pub on_phase : (phase : Phase) (n : ℕ) (sequences : List SeqRow) → IsStrictlySortedBy by_node sequences → MoveOn sequences (map (at_phase phase n) sequences)
on_phase phase n sequences up =
    carried sequences sequences (map (at_phase phase n) sequences)
    (λ s all. all_map (MoveAlike s) (at_phase phase n) sequences
    (all_weaker (MoveAlike s) (λ (q : SeqRow). MoveAlike s (at_phase phase n q)) (λ q alike same. moves_on q (alike (ap (λ m. m == s.node) (sym (phase_node phase n q)) ∙ same))) sequences all))
    (on_same sequences up)
  where
    moves_on : {s : SeqRow} (q : SeqRow) → MovesSame s q → MovesSame s (at_phase phase n q)
    moves_on q m = record { outs = phase_out_pairs phase n q ∙ m.outs; ins = phase_in_pairs phase n q ∙ m.ins }

pub on_others : (n : ℕ) (sequences : List SeqRow) → IsStrictlySortedBy by_node sequences → MoveOn sequences (others sequences n)
on_others n sequences up = carried sequences sequences (others sequences n) (λ s. part_all_of (MoveAlike s) (part_filter (λ (q : SeqRow). not (q.node == n)) sequences)) (on_same sequences up)

-- one of another node begins
pub on_put : (j : SeqRow) (sequences : List SeqRow) → AllByRecursion (λ (s : SeqRow). (s.node == j.node) ≡ false) sequences → IsStrictlySortedBy by_node sequences → MoveOn sequences (put by_node j sequences)
on_put j sequences new up =
    all_both (λ (s : SeqRow). (s.node == j.node) ≡ false) (λ (s : SeqRow). AllByRecursion (MoveAlike s) sequences) (λ (s : SeqRow). AllByRecursion (MoveAlike s) (put by_node j sequences))
    (λ s other all. All-put by_node (MoveAlike s) j sequences (λ same. absurd (apart s.node j.node other same)) all) sequences new (on_same sequences up)
  where
    apart : (n m : ℕ) → (n == m) ≡ false → (m == n) ≡ true → ⊥
    apart n m other same = grind (arith, nat_tests)

-- there is none
pub on_none : (before after : List SeqRow) → before ≡ [] → MoveOn before after
on_none before after none = all_none (λ (s : SeqRow). AllByRecursion (MoveAlike s) after) before none
