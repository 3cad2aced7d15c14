use Rattle.std.proofs.Common.{◌≡◌, ◌+◌}
use Rattle.generated_scripts.proofs.GeneratedLemmas.{AreOthers}
use Rattle.generated_scripts.proofs.kinds.refused_kind.Given as goal

abbrev pub invariant-loop-front : goal.invariant-loop-front
invariant-loop-front l = record {
  others : AreOthers (λ front. front.now) l.fronts l.text l.front-index;
  number : l.number ≡ l.front-index + 1;
}
