use Rattle.std.proofs.Common.{sym, ◌∙◌}
use Rattle.generated_scripts.proofs.GeneratedLemmas.{kind_else}
use Rattle.generated_scripts.proofs.kinds.kind_of.Goals as goal

pub returns-else-begins : goal.returns-else-begins
returns-else-begins c = c.refused_kind.ensures ∙ sym (kind_else c.args.text.now (sym c.begins.ensures ∙ c.if-begins.false))
