use Rattle.std.proofs.Common.{sym, ap, subst}
use Rattle.cluster_metadata.specs.Permission.{Permission}
use Rattle.script_session.specs.Machine.{SessionState}
use Rattle.script_session.specs.code.StepParts.{IsNextEntry}
use Rattle.script_session.proofs.steps.StepEndLemmas.{session_kept}
use Rattle.script_session.proofs.session.Session.accept.Goals as goal

pub invariant_of-self-in-Ok : goal.invariant_of-self-in-Ok
invariant_of-self-in-Ok g c =
    let next = subst (λ log. IsNextEntry log c.args.entry) (ap (λ (s : SessionState). s.log) (sym c.self.view_is)) c.requires.next in
    let permitted = ap (λ (p : Permission). p.command) c.requires.permit in
    session_kept c.self.inside.log _ c.self.inside.followers.items c.self.inside.replies.items c.keep_image.new.snapshots c.args.entry c.self.inside.metadata _ c.args.permit c.self.invariant.0 (c.self.invariant.1, c.self.invariant.2, c.in_default.ensures, c.self.invariant.4) next permitted c.enact-epoch.ensures.image c.in-Ok.ensures.notes.grown
