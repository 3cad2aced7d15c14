use Rattle.std.proofs.Common.{ℕ, ◌≤◌, ◌≤ℤ◌, List, Some, length, ap, sym, ◌∙◌, subst, rules}
use Rattle.cluster_terms.specs.Arc.{greatest_token}
use Rattle.placement_maps.proofs.MapBooks.{few_found, no_step, served_found}
use Rattle.cluster_metadata.proofs.metadata.Metadata.replicas.Goals as goal

pub returns-in-Some-clause-sets : goal.returns-in-Some-clause-sets
returns-in-Some-clause-sets g c =
    let top : c.args.t ≤ℤ greatest_token = search rules in
    ap (λ (p : List ℕ × List ℕ). Some p) c.at.ensures.placement ∙ served_found c.args.self.now c.args.keyspace.now c.args.t c.in-Some.map.now top c.in-Some.ensures.found

pub returns-in-Some-clause-few : goal.returns-in-Some-clause-few
returns-in-Some-clause-few g c =
    let top : c.args.t ≤ℤ greatest_token = search rules in
    subst (λ (p : List ℕ × List ℕ). length p.1 ≤ 1024) (sym c.at.ensures.placement) (few_found c.args.self.now c.args.keyspace.now c.args.t c.in-Some.map.now top c.in-Some.ensures.few c.in-Some.ensures.found)

pub returns-in-None-clause-bound : goal.returns-in-None-clause-bound
returns-in-None-clause-bound g c = no_step c.args.self.now c.args.steps.now
