use Rattle.std.proofs.Common.{◌∙◌}
use Rattle.std.proofs.lemmas.Result.{MatchResult-from_err}
use Rattle.cluster_metadata.proofs.locks.LocksResumed.{movement_removed}
use Rattle.cluster_metadata.proofs.movements.running.add.Goals as goal

pub returns-clause-added : goal.returns-clause-added
returns-clause-added g c =
    let made = c.in_ok-movement.ensures in
    record {
      movement = c.in_ok-movement.movement;
      running = c.in_ok-push.ensures.running;
      table = c.in_ok-push.ensures.locks ∙ made.locks;
      row = made.row;
      deltas = made.deltas;
      lock = made.lock;
    }

pub returns-in_err-push-clause-added : goal.returns-in_err-push-clause-added
returns-in_err-push-clause-added g c =
    let made = c.in_ok-movement.ensures in
    let gone = c.in_err-push.ensures in
    MatchResult-from_err c.from_residual-in_err-push.result _ _ c.from_residual-in_err-push.ensures.0 (λ _. movement_removed _ _ _ _ _ _ c.in_ok-movement.movement gone.running gone.locks made.locks made.row c.requires.new)
