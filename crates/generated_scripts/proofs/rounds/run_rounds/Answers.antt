use Rattle.std.proofs.Common.{arith, ◌∙◌}
use Rattle.generated_scripts.specs.GeneratedLines.{rounds_lines}
use Rattle.generated_scripts.proofs.GeneratedLemmas.{after_last, rounds-next, rounds-none}
use Rattle.generated_scripts.proofs.rounds.run_rounds.Goals as goal

pub loop-j-preserved : goal.loop-j-preserved
loop-j-preserved c = record {
  left = c.loop-j.invariant.left
      ∙ rounds-next c.loop-j.generation c.run_round.new.generation c.loop-j.s c.loop-j.j c.args.rounds _ _ c.loop-j-test.true c.in_ok-run_round.ensures c.drawn.ensures.is c.drawn-s.ensures.is;
  draw = c.drawn-s.ensures.below;
  last = omega (arith, c.loop-j-test.true);
}

pub returns : goal.returns
returns c = after_last c.args.generation.now c.loop-j.generation (rounds_lines c.args.generation.now.session c.args.first 1 c.args.rounds) _ c.loop-j.invariant.left (rounds-none c.loop-j.generation.session c.loop-j.s c.loop-j.j c.args.rounds c.loop-j-test.false)
