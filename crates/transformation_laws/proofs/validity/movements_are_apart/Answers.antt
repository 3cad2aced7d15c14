use Rattle.transformations.proofs.ranges.OutcomeLemmas.{are_outcomes, placed_by_outcomes, placed_by_ranges}
use Rattle.transformations.proofs.ranges.RangesKept.{ranges_kept}
use Rattle.transformation_laws.proofs.validity.movements_are_apart.Goals as goal

pub returns-clause-placed : goal.returns-clause-placed
returns-clause-placed c = λ image h. placed_by_ranges image h.sound

pub returns-clause-outcomes : goal.returns-clause-outcomes
returns-clause-outcomes c = λ image h. are_outcomes image h.sound

pub returns-clause-placements : goal.returns-clause-placements
returns-clause-placements c = λ image h. placed_by_outcomes image h.sound

pub returns-clause-kept : goal.returns-clause-kept
returns-clause-kept c = ranges_kept
