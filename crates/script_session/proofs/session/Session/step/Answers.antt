use Rattle.std.proofs.Common.{subst}
use Rattle.script_session.specs.Machine.{SessionState}
use Rattle.script_session.specs.code.StepParts.{AllFollow}
use Rattle.script_session.specs.declared.fault.StepFault.TheVariants as fault
use Rattle.script_session.proofs.answers.AnswersLemmas.{at_fault, reply-said}
use Rattle.script_session.proofs.followers.HandedLemmas.{stops_unread}
use Rattle.script_session.proofs.session.Session.step.Goals as goal

pub returns-clause-text : goal.returns-clause-text
returns-clause-text g c = rw (← reply-said c.args.self.now c.args.line.now c.in_ok-said.said c.in_ok-said.ensures.meaning) c.answer.ensures.steps.text

pub returns-clause-next : goal.returns-clause-next
returns-clause-next g c = rw (← reply-said c.args.self.now c.args.line.now c.in_ok-said.said c.in_ok-said.ensures.meaning) c.answer.ensures.steps.next

pub returns-clause-file : goal.returns-clause-file
returns-clause-file g c = rw (← reply-said c.args.self.now c.args.line.now c.in_ok-said.said c.in_ok-said.ensures.meaning) c.answer.ensures.steps.file

pub returns-clause-left : goal.returns-clause-left
returns-clause-left g c =
    rw (← reply-said c.args.self.now c.args.line.now c.in_ok-said.said c.in_ok-said.ensures.meaning, ← c.in_ok-said.ensures.meaning) c.answer.ensures.steps.left

pub returns-clause-fault : goal.returns-clause-fault
returns-clause-fault g c = rw (← reply-said c.args.self.now c.args.line.now c.in_ok-said.said c.in_ok-said.ensures.meaning) c.answer.ensures.steps.fault

pub returns-in_err-said-clause-left : goal.returns-in_err-said-clause-left
returns-in_err-said-clause-left g c =
    let all = subst (λ (s : SessionState). AllFollow s.log s.followers) c.self.view_is c.self.invariant.2 in
    at_fault _ c.from_residual.result fault.Memory c.from_residual.ensures.1 (stops_unread c.args.self.now c.args.line.now all)

pub returns-clause-crash : goal.returns-clause-crash
returns-clause-crash g c = rw (← reply-said c.args.self.now c.args.line.now c.in_ok-said.said c.in_ok-said.ensures.meaning) c.answer.ensures.crash
