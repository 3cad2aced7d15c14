use Rattle.std.proofs.Common.{◌≡◌, ◌+◌, ◌-◌, ◌≤◌, ◌++◌}
use Rattle.generated_scripts.specs.Generated.{refused_lines}
use Rattle.generated_scripts.proofs.summary.refused_lines.Given as goal

-- the lines that are left
abbrev pub invariant-loop-number : goal.invariant-loop-number
invariant-loop-number l = record {
  left : l.fn.out ++ refused_lines l.kinds 1 l.last ≡ l.out ++ refused_lines l.kinds l.number (l.last + 1 - l.number);
  last : l.number ≤ l.last + 1;
}

abbrev pub decreases-loop-number : goal.decreases-loop-number
decreases-loop-number l = l.last + 1 - l.number
