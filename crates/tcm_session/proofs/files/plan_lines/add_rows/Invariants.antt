use Rattle.std.proofs.Common.{◌≡◌, ◌++◌, flat_map, take}
use Rattle.tcm_session.specs.files.StreamPlan.{row_text}
use Rattle.tcm_session.proofs.files.plan_lines.add_rows.Given as goal

-- the lines so far are added
abbrev pub invariant-loop-row : goal.invariant-loop-row
invariant-loop-row l = l.out ≡ l.fn.out ++ flat_map row_text (take l.row-index l.rows)
