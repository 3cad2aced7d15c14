use Rattle.std.proofs.Common.{nat_eq, refl, sym, ◌∙◌}
use Rattle.std.specs.Cmp.Lexicographic.{pointwise}
use Rattle.std.proofs.lemmas.Bool.Decides.{Decides-eqb}
use Rattle.std.proofs.lemmas.Slice.Eq.{slice_eq-Decides}
use Rattle.placement_deltas.proofs.SideDeltas.{unchanged_row}
use Rattle.placement_deltas.proofs.joined_rows.change_row.Goals as goal

pub returns-then-eq : goal.returns-then-eq
returns-then-eq c =
    let equal = (slice_eq-Decides Decides-eqb c.ids.result.now c.ids-2.result.now (pointwise nat_eq c.ids.result.now c.ids-2.result.now) refl).0 (sym c.if-eq.ensures) in
    c.unchanged_row.ensures ∙ sym (unchanged_row c.args.right c.args.before.now c.args.after.now (sym c.ids.ensures.ids ∙ equal ∙ c.ids-2.ensures.ids))
