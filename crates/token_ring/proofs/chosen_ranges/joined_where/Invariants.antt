use Rattle.std.proofs.Common.{◌≡◌, ◌++◌, Bool, ℤ, List, None, drop, take}
use Rattle.std.specs.List.{AllByRecursion}
use Rattle.cluster_terms.specs.Arc.{IsToken}
use Rattle.cluster_terms.specs.Row.{rows_between, rows_from}
use Rattle.token_ring.specs.code.ChosenRanges.{chosen_from}
use Rattle.token_ring.specs.TokenRanges.{AnswersAs, chosen_by}
use Rattle.token_ring.proofs.chosen_ranges.joined_where.Given as goal

-- the answers so far: with any answers for the rows that are left, the ranges of all rows are those so far and the rest
abbrev pub invariant-loop-cut : goal.invariant-loop-cut
invariant-loop-cut g l =
    ((before : List Bool)
    × ((later : List Bool) → l.joining.ranges.items ++ chosen_from l.joining.begun (rows_from l.left (drop l.cut-index l.cuts)) later ≡ chosen_from None (rows_between l.cuts) (before ++ later))
    × ((has : ℤ → Bool) → AnswersAs (goal.F-post g l.test) has → before ++ chosen_by has (rows_from l.left (drop l.cut-index l.cuts)) ≡ chosen_by has (rows_between l.cuts)))
    × AllByRecursion IsToken (take l.cut-index l.cuts)
