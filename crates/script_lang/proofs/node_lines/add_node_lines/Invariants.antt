use Rattle.std.proofs.Common.{◌≡◌, ◌++◌, take}
use Rattle.std.specs.List.{flat_map}
use Rattle.script_lang.specs.AnswerTexts.{node_text}
use Rattle.script_lang.proofs.node_lines.add_node_lines.Given as goal

-- the lines of the nodes so far are added
abbrev pub invariant-loop-row : goal.invariant-loop-row
invariant-loop-row l = l.out ≡ l.fn.out ++ flat_map (node_text l.image) (take l.row-index l.image.nodes)
