use Rattle.std.proofs.Common.{◌≡◌, length, subst}
use Rattle.transformations.specs.History.{state_after}
use Rattle.transformations.specs.Log.{commands_of}
use Rattle.script_session.specs.Machine.{SessionState}
use Rattle.script_session.proofs.steps.KeptImageLemmas.{at_end}
use Rattle.script_session.proofs.session.Session.metadata.Goals as goal

pub returns : goal.returns
returns c =
    subst (λ (s : SessionState). c.self.inside.metadata ≡ state_after (commands_of s.log) (length s.log)) c.self.view_is
    (at_end c.self.inside.log c.self.inside.metadata c.self.invariant.0)
