use Rattle.std.proofs.Common.{◌≡◌, None, find, not, take}
use Rattle.transformations.specs.ImageRules.{fits}
use Rattle.transformations.proofs.movement_rules.first_unfit.Given as goal

-- the pairs of the movements so far fit
abbrev pub invariant-loop-row : goal.invariant-loop-row
invariant-loop-row l = find (λ s. not (fits l.image s)) (take l.row-index l.rows) ≡ None
