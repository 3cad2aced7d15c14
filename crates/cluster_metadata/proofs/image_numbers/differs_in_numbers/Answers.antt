use Rattle.std.proofs.Common.{refl, sym, ◌∙◌}
use Rattle.cluster_metadata.proofs.NumberLemmas.{differ}
use Rattle.cluster_metadata.proofs.image_numbers.differs_in_numbers.Goals as goal

pub returns : goal.returns
returns c same =
    differ c.args.image.now c.args.other.now (c.if-not-are_idle.ensures.idle refl) (c.if-not-are_idle.ensures.other refl) (sym c.as_slice.ensures ∙ c.if-not-is_same_ring.ensures refl ∙ c.as_slice-2.ensures)
    (sym c.as_slice-3.ensures ∙ c.if-not-are_same.ensures refl ∙ c.as_slice-4.ensures) (sym c.requires ∙ c.has_rows.ensures.0 same ∙ c.as_slice-5.ensures)
