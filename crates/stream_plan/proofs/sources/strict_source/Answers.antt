use Rattle.std.proofs.Common.{ap, sym, ◌∙◌}
use Rattle.cluster_terms.specs.Replication.{groups_of}
use Rattle.stream_plan.proofs.pairing.SourceSteps.{simple_source}
use Rattle.stream_plan.specs.Sources.{paired, strict_source}
use Rattle.stream_plan.proofs.sources.strict_source.Goals as goal

pub returns-in-Simple : goal.returns-in-Simple
returns-in-Simple c =
    let replaced = c.args.replaced.now in
    c.paired.ensures ∙ (λ i. paired (c.ids.ensures.ids i) (c.ids-in-Simple.ensures.ids i) c.args.n)
    ∙ simple_source c.in-Simple.field-0 replaced.gained.now replaced.lost.now c.args.n
    ∙ ap (λ r. strict_source (groups_of c.args.grouping.now.directory.now.rows r) replaced.gained.now replaced.lost.now c.args.n) (sym c.in-Simple.is)
