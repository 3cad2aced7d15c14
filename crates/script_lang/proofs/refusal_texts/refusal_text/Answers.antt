use Rattle.std.proofs.lemmas.Result.{MatchResult-weaker}
use Rattle.script_lang.specs.AnswerTexts.{refusal_text}
use Rattle.script_lang.proofs.refusal_texts.refusal_text.Goals as goal

pub returns-in-WrongStep-clause-added : goal.returns-in-WrongStep-clause-added
unfolding refusal_text
returns-in-WrongStep-clause-added c = rw c.in-WrongStep.is c.labelled-in-WrongStep.ensures.added

pub returns-in-KeyspacesFull-clause-added : goal.returns-in-KeyspacesFull-clause-added
unfolding refusal_text
returns-in-KeyspacesFull-clause-added c =
    rw c.in-KeyspacesFull.is (MatchResult-weaker c.extend-in-KeyspacesFull.result c.extend-in-KeyspacesFull.ensures (λ x h. h) (λ y h. tt))

pub returns-in-TooFewNodes-clause-added : goal.returns-in-TooFewNodes-clause-added
unfolding refusal_text
returns-in-TooFewNodes-clause-added c = rw c.in-TooFewNodes.is c.labelled-in-TooFewNodes.ensures.added
