use Rattle.std.proofs.Common.{ap, arith}
use Rattle.transformations.proofs.histories.HistoryLemmas.{epoch_after}
use Rattle.transformations.proofs.histories.LogLemmas.{length-commands_of}
use Rattle.transformations.specs.Log.{commands_of}
use Rattle.transformations.specs.declared.image.Image.{Image}
use Rattle.script_session.proofs.session.Session.admit.Goals as goal

pub permit-requires-clause-below_limit : goal.permit-requires-clause-below_limit
permit-requires-clause-below_limit c =
    let log = c.self.inside.log in
    let epoch = ap (λ (i : Image). i.epoch) c.self.invariant.0 in
    omega (arith, epoch, epoch_after (commands_of log), length-commands_of log)
