use Rattle.std.proofs.Common.{sym, ◌∙◌}
use Rattle.cluster_metadata.proofs.NumberLemmas.{same_keyspace}
use Rattle.cluster_metadata.proofs.image_numbers.is_same.Goals as goal

pub returns-then-eq : goal.returns-then-eq
returns-then-eq c same =
    same_keyspace c.args.row.now c.args.other.now c.as_str.result.now c.as_str-2.result.now c.as_str.ensures.text c.as_str-2.ensures.text (sym c.eq.ensures ∙ c.if-eq.true)
    (sym c.same.ensures ∙ same)
