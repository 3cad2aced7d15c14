use Rattle.std.proofs.Common.{◌≡◌, [], None, take}
use Rattle.transformations.proofs.images.FirstBadLemmas.{behind}
use Rattle.transformations.specs.ImageRules.{first_bad, id_before, id_falls}
use Rattle.transformations.proofs.node_rules.first_id_fall.Given as goal

-- the ids so far ascend, and the last one is kept
abbrev pub invariant-loop-row : goal.invariant-loop-row
invariant-loop-row l = record {
  none : first_bad id_falls [] (take l.row-index l.nodes) ≡ None;
  last : l.last ≡ id_before (behind [] l.row-index l.nodes);
}
