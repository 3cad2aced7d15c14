-- At a token that is no cut, each movement gains and loses what it does at the token after it.
use Rattle.std.proofs.Common.{◌≡◌, false, ℤ, pos, ◌+ℤ◌, ◌≤ℤ◌, arith}
use Rattle.std.proofs.lemmas.Int.{ints}
use Rattle.std.proofs.lemmas.List.Elements.{All-from_recursion}
use Rattle.std.specs.List.{All, AllByRecursion}
use Rattle.std.specs.Ordering.{int_eq}
use Rattle.std.specs.Set.{is_member}
use Rattle.cluster_terms.specs.Arc.{in_arc}
use Rattle.cluster_terms.specs.declared.replication.Replication.{Replication}
use Rattle.transformations.proofs.deltas.DeltaRows.{IsWithPart, before-between, with-between, with_parts}
use Rattle.transformations.proofs.lists.ListLemmas.{all_false, all_weaker}
use Rattle.transformations.specs.MovementDeltas.{newcomers}
use Rattle.transformations.specs.Rings.{cuts}
use Rattle.transformations.specs.declared.image.Image.{Image}
use Rattle.transformations.specs.declared.sequence.SeqRow.{SeqRow}
use Rattle.cluster_metadata.specs.CutDeltas.{DeltasSameAcross}

module _ (image : Image) (r : Replication) (t : ℤ) (none : is_member int_eq (cuts image) t ≡ false) where
  up : t ≤ℤ (t +ℤ pos 1)
  up = grind (arith, ints)

  other : (u : ℤ) → int_eq t u ≡ false → in_arc t (t +ℤ pos 1) u ≡ false
  other u apart = grind (arith, ints)

  -- no cut lies between the two tokens
  clear : AllByRecursion (λ u. in_arc t (t +ℤ pos 1) u ≡ false) (cuts image)
  clear = all_weaker (λ u. int_eq t u ≡ false) (λ u. in_arc t (t +ℤ pos 1) u ≡ false) other (cuts image) (all_false (int_eq t) (cuts image) none)

  -- so the low ring places the same nodes at both, and so does the low ring with a movement applied
  movement_across : (s : SeqRow) → IsWithPart image s → DeltasSameAcross image r s t
  movement_across s part =
      let before = before-between image t (t +ℤ pos 1) up clear r in
      let applied = with-between image t (t +ℤ pos 1) up clear r s part in
      record { gained = λ i. newcomers (applied i) (before i); lost = λ i. newcomers (before i) (applied i) }

  pub deltas_across : All (λ s. DeltasSameAcross image r s t) image.sequences
  deltas_across =
      All-from_recursion (λ (s : SeqRow). DeltasSameAcross image r s t) image.sequences
      (all_weaker (IsWithPart image) (λ (s : SeqRow). DeltasSameAcross image r s t) movement_across image.sequences (with_parts image))
