use Rattle.std.proofs.Common.{sym, ap, ◌∙◌}
use Rattle.generated_scripts.specs.declared.kinds.AnswerKind.TheVariants.{Refused}
use Rattle.generated_scripts.proofs.GeneratedLemmas.{refused_here, refused_never}
use Rattle.generated_scripts.proofs.kinds.refused_kind.Goals as goal

pub returns-then-begins : goal.returns-then-begins
returns-then-begins c =
    ap Refused c.loop-front.invariant.number
    ∙ sym (refused_here (λ front. front.now) c.args.fronts.now c.args.text.now c.loop-front.front-index _ c.loop-front-test.true c.loop-front.invariant.others (sym c.begins.ensures ∙ c.if-begins.true))

pub returns : goal.returns
returns c = sym (refused_never (λ front. front.now) c.args.fronts.now c.args.text.now c.loop-front.front-index c.loop-front-test.false c.loop-front.invariant.others)
