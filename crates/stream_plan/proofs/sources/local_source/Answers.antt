use Rattle.std.proofs.Common.{◌≡◌, ℕ, List, find, Some, None, is_some, sym, ap, ◌∙◌}
use Rattle.cluster_terms.specs.NodeRow.{row_of}
use Rattle.cluster_terms.specs.Quorum.{within}
use Rattle.cluster_terms.specs.Replication.{rack_within}
use Rattle.stream_plan.proofs.pairing.SourceSteps.{source_found, source_in}
use Rattle.stream_plan.specs.Sources.{paired}
use Rattle.stream_plan.proofs.sources.local_source.Goals as goal

pub returns-in_ok-lost-in-Some : goal.returns-in_ok-lost-in-Some
returns-in_ok-lost-in-Some c =
    let nodes = c.args.grouping.now.directory.now.rows in
    let replaced = c.args.replaced.now in
    let f : List ℕ × ℕ = c.in-Some.row.now in
    let found : find (λ e. is_some (rack_within e.0 (row_of nodes c.args.n))) c.args.factors.now ≡ Some f = sym c.in-Some.ensures in
    let mine : c.ids.result.now ≡ within nodes f.0 replaced.gained.now = c.ids.ensures.ids ∙ c.in_ok-gained-in-Some.ensures in
    let theirs : c.ids-in-Some.result.now ≡ within nodes f.0 replaced.lost.now = c.ids-in-Some.ensures.ids ∙ c.in_ok-lost-in-Some.ensures in
    c.paired.ensures ∙ (λ i. paired (mine i) (theirs i) c.args.n)
    ∙ sym (source_found nodes c.args.factors.now replaced.gained.now replaced.lost.now c.args.n ∙ ap (source_in nodes replaced.gained.now replaced.lost.now c.args.n) found)

pub returns-in-None : goal.returns-in-None
returns-in-None c =
    let nodes = c.args.grouping.now.directory.now.rows in
    let replaced = c.args.replaced.now in
    let none : find (λ e. is_some (rack_within e.0 (row_of nodes c.args.n))) c.args.factors.now ≡ None = sym c.in-None.ensures in
    sym (source_found nodes c.args.factors.now replaced.gained.now replaced.lost.now c.args.n ∙ ap (source_in nodes replaced.gained.now replaced.lost.now c.args.n) none)
