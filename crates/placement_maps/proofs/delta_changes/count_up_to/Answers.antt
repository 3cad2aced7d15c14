use Rattle.std.proofs.Common.{rules, ◌≡◌, ℤ, List, length, ap, sym, subst}
use Rattle.range_placements.specs.declared.placement_row.PlacementRow.{PlacementRow}
use Rattle.cluster_terms.specs.Arc.{greatest_token}
use Rattle.placement_maps.proofs.TurnedRuns.{all_up_to}
use Rattle.placement_maps.specs.code.Turns.{EndUpTo}
use Rattle.placement_maps.proofs.delta_changes.count_up_to.Goals as goal

-- no row ends past the greatest token
pub returns-then-eq-clause-ends : goal.returns-then-eq-clause-ends
returns-then-eq-clause-ends c =
    let rows = c.args.map.now in
    let top : c.args.last ≡ greatest_token = search rules in
    let all : length rows ≡ length c.rows-count.result.now = ap (λ (l : List PlacementRow). length l) (sym c.rows-count.ensures.rows) in
    subst (λ (last : ℤ). EndUpTo last rows (length c.rows-count.result.now)) (sym top)
    (subst (EndUpTo greatest_token rows) all (all_up_to rows c.rows-count.ensures.map))
