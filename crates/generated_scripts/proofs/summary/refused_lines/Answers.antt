use Rattle.std.proofs.Common.{sym, arith, ◌∙◌}
use Rattle.generated_scripts.proofs.GeneratedLemmas.{refused-next, refused-none, refused_all}
use Rattle.generated_scripts.proofs.summary.refused_lines.Goals as goal

pub loop-number-init : goal.loop-number-init
loop-number-init c = record { left = refused_all c.args.kinds.now c.args.last c.args.out.now; last = omega arith }

pub loop-number-preserved : goal.loop-number-preserved
loop-number-preserved c = record {
  left = c.loop-number.invariant.left ∙ refused-next c.args.kinds.now c.loop-number.number c.args.last c.loop-number.out _ c.loop-number-test.true c.in_ok-refused_line.ensures;
  last = omega (arith, c.loop-number-test.true);
}

pub returns : goal.returns
returns c = sym (c.loop-number.invariant.left ∙ refused-none c.args.kinds.now c.loop-number.number c.args.last c.loop-number.out c.loop-number-test.false)
