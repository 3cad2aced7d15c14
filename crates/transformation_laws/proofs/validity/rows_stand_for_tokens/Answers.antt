use Rattle.transformations.proofs.ranges.RowsServed.{cuts_ascend, ranges_stand, rows_stand}
use Rattle.transformation_laws.proofs.validity.rows_stand_for_tokens.Goals as goal

pub returns-clause-ascend : goal.returns-clause-ascend
returns-clause-ascend c = cuts_ascend

pub returns-clause-rows : goal.returns-clause-rows
returns-clause-rows c = rows_stand

pub returns-clause-ranges : goal.returns-clause-ranges
returns-clause-ranges c = ranges_stand
