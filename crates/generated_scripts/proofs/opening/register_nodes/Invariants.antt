use Rattle.std.proofs.Common.{◌≡◌, ◌+◌, ◌-◌, ◌≤◌}
use Rattle.generated_scripts.specs.Generated.{after_lines}
use Rattle.generated_scripts.specs.GeneratedLines.{each, register_line, register_lines}
use Rattle.generated_scripts.proofs.opening.register_nodes.Given as goal

-- the lines that are left
abbrev pub invariant-loop-i : goal.invariant-loop-i
invariant-loop-i l = record {
  left : after_lines l.fn.generation (register_lines l.count) ≡ after_lines l.generation (each register_line l.i (l.count + 1 - l.i));
  first : 1 ≤ l.i;
  last : l.i ≤ l.count + 1;
}

abbrev pub decreases-loop-i : goal.decreases-loop-i
decreases-loop-i l = l.count + 1 - l.i
