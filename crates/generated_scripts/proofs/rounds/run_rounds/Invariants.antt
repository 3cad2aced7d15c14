use Rattle.std.proofs.Common.{◌≡◌, ◌+◌, ◌-◌, ◌≤◌, ◌<◌, ◌^◌}
use Rattle.generated_scripts.specs.Generated.{after_lines}
use Rattle.generated_scripts.specs.GeneratedLines.{rounds_lines}
use Rattle.generated_scripts.proofs.rounds.run_rounds.Given as goal

-- the rounds that are left
abbrev pub invariant-loop-j : goal.invariant-loop-j
invariant-loop-j l = record {
  left : after_lines l.fn.generation (rounds_lines l.fn.generation.session l.first 1 l.rounds)
      ≡ after_lines l.generation (rounds_lines l.generation.session l.s l.j (l.rounds + 1 - l.j));
  draw : l.s < 2 ^ 31;
  last : l.j ≤ l.rounds + 1;
}

abbrev pub decreases-loop-j : goal.decreases-loop-j
decreases-loop-j l = l.rounds + 1 - l.j
