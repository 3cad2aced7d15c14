use Rattle.std.proofs.Common.{ap, arith, ◌∙◌}
use Rattle.generated_scripts.specs.Generated.{after_lines}
use Rattle.generated_scripts.specs.GeneratedLines.{join_line, join_lines}
use Rattle.generated_scripts.proofs.GeneratedLemmas.{after_last, after_next, each-next, each-none, join_all}
use Rattle.generated_scripts.proofs.opening.join_nodes.Goals as goal

pub loop-i-init : goal.loop-i-init
loop-i-init c = record { left = ap (after_lines c.args.generation.now) (join_all c.args.count); first = omega arith; last = omega arith }

pub loop-i-preserved : goal.loop-i-preserved
loop-i-preserved c = record {
  left = c.loop-i.invariant.left ∙ after_next c.loop-i.generation c.join_node.new.generation _ _ _ (each-next join_line c.loop-i.i c.args.count c.loop-i-test.true) c.in_ok-join_node.ensures;
  first = omega arith;
  last = omega (arith, c.loop-i-test.true);
}

pub returns : goal.returns
returns c = after_last c.args.generation.now c.loop-i.generation (join_lines c.args.count) _ c.loop-i.invariant.left (each-none join_line c.loop-i.i c.args.count c.loop-i-test.false)
