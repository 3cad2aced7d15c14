use Rattle.std.proofs.Common.{map, arith, ◌∙◌}
use Rattle.generated_scripts.specs.GeneratedLines.{step_lines}
use Rattle.generated_scripts.proofs.GeneratedLemmas.{after_last, steps-next, steps-none}
use Rattle.generated_scripts.proofs.rounds.commit_steps.Goals as goal

pub loop-word-preserved : goal.loop-word-preserved
loop-word-preserved c = record {
  left = c.loop-word.invariant.left
      ∙ steps-next (λ word. word.now) c.args.words.now c.args.node c.loop-word.word-index c.loop-word.generation c.commit_node.new.self c.commit_node-in-loop-word.new.self c.loop-word.id _ c.loop-word-test.true c.in_ok-commit_node.ensures c.in_ok-commit_node-2.ensures;
  id = omega (arith, c.loop-word.invariant.id);
}

pub returns : goal.returns
returns c = after_last c.args.generation.now c.loop-word.generation (step_lines c.args.first c.args.node (map (λ word. word.now) c.args.words.now)) _ c.loop-word.invariant.left (steps-none (λ word. word.now) c.args.words.now c.args.node c.loop-word.word-index c.loop-word.id c.loop-word-test.false)
