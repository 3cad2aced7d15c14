use Rattle.std.proofs.Common.{◌≡◌, ◌+◌, ◌*◌, drop, map}
use Rattle.generated_scripts.specs.Generated.{after_lines}
use Rattle.generated_scripts.specs.GeneratedLines.{step_lines}
use Rattle.generated_scripts.proofs.rounds.commit_steps.Given as goal

-- the lines that are left
abbrev pub invariant-loop-word : goal.invariant-loop-word
invariant-loop-word l = record {
  left : after_lines l.fn.generation (step_lines l.first l.node (map (λ word. word.now) l.words))
      ≡ after_lines l.generation (step_lines l.id l.node (map (λ word. word.now) (drop l.word-index l.words)));
  id : l.id ≡ l.first + 2 * l.word-index;
}
