use Rattle.std.proofs.Common.{◌≡◌, sym, ◌∙◌, subst}
use Rattle.std.specs.List.{Contains}
use Rattle.transformations.specs.Refusals.{with_movement}
use Rattle.transformations.specs.declared.image.Image.{Image}
use Rattle.sequence_plans.proofs.BookLemmas.{own_within}
use Rattle.sequence_plans.proofs.DeltaBookLemmas.{own_contained}
use Rattle.sequence_plans.specs.code.Basis.{MovesWithin}
use Rattle.sequence_plans.proofs.planning.planned.Goals as goal

pub book_of-requires-clause-within : goal.book_of-requires-clause-within
book_of-requires-clause-within g c =
    let image : c.in_ok-basis.basis.image.now ≡ with_movement c.args.image.now c.args.row.now = c.in_ok-basis.ensures.image ∙ c.in_ok-with_row.ensures in
    subst (λ (wide : Image). MovesWithin wide c.args.row.now) (sym image) (own_within c.args.image.now c.args.row.now c.requires.sound)

pub deltas_of-requires-clause-moves : goal.deltas_of-requires-clause-moves
deltas_of-requires-clause-moves g c =
    let image : c.in_ok-basis.basis.image.now ≡ with_movement c.args.image.now c.args.row.now = c.in_ok-basis.ensures.image ∙ c.in_ok-with_row.ensures in
    subst (λ (wide : Image). Contains wide.sequences c.args.row.now) (sym image) (own_contained c.args.row.now c.args.image.now.sequences)
