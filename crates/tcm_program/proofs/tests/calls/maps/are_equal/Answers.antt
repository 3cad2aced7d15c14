use Rattle.std.proofs.Common.{nat_eq, refl, sym, ◌∙◌}
use Rattle.std.specs.Cmp.Lexicographic.{pointwise}
use Rattle.std.proofs.lemmas.Bool.Decides.{Decides-eqb}
use Rattle.std.proofs.lemmas.Slice.Eq.{slice_eq-Decides}
use Rattle.tcm_program.proofs.tests.calls.maps.are_equal.Goals as goal

pub returns : goal.returns
returns c same =
    let equal = (slice_eq-Decides Decides-eqb c.ids.result.now c.ids-2.result.now (pointwise nat_eq c.ids.result.now c.ids-2.result.now) refl).0 (sym c.eq.ensures ∙ same) in
    sym c.ids.ensures.ids ∙ equal ∙ c.ids-2.ensures.ids
