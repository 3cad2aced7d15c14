use Rattle.std.proofs.Common.{◌++◌, ◌∙◌, ap, codes, decimal, sym}
use Rattle.std.proofs.lemmas.List.{append_assoc}
use Rattle.std.proofs.lemmas.Result.{MatchResult-weaker}
use Rattle.script_lang.specs.AnswerTexts.{locked_text}
use Rattle.script_lang.proofs.refusal_texts.keyspace_locked_text.Goals as goal

pub returns-clause-added : goal.returns-clause-added
returns-clause-added c =
    let old = c.args.out.now in
    let front = codes "KEYSPACE-LOCKED " ++ decimal c.args.node in
    let last = locked_text (c.args.other, c.args.end) in
    MatchResult-weaker c.labelled-2.result c.labelled-2.ensures.added
    (λ x added. added ∙ ap (λ out. out ++ (codes " " ++ last)) c.in_ok-labelled.ensures.added ∙ append_assoc old front (codes " " ++ last) ∙ ap (λ l. old ++ l) (sym (append_assoc front (codes " ") last)))
    (λ y h. tt)
