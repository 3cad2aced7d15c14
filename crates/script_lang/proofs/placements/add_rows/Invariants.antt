use Rattle.std.proofs.Common.{◌≡◌, ◌++◌, ℕ, ℤ, List, Option, None, drop, length, take}
use Rattle.range_placements.specs.declared.placement_row.PlacementRow.{PlacementRow}
use Rattle.script_lang.specs.AnswerTexts.{map_rows_text}
use Rattle.script_lang.proofs.placements.add_rows.Given as goal

-- the text so far and the text of the rows that are left make the whole text
pub record AddsRows (before out : List ℕ) (rows : List PlacementRow) (left : Option ℤ) (rest : List PlacementRow) : Type 0 where
  pub added : out ++ map_rows_text left rest ≡ before ++ map_rows_text None rows
  pub kept : take (length before) out ≡ before

abbrev pub invariant-loop-row : goal.invariant-loop-row
invariant-loop-row l = AddsRows l.fn.out l.out l.rows l.left (drop l.row-index l.rows)
