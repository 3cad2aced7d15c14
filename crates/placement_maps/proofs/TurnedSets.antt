-- New nodes for the rows of maps.
use Rattle.std.proofs.Common.{◌≡◌, ℕ, List, [], ◌∷◌, ◌++◌, length, Some, refl, sym, ap, ◌∙◌}
use Rattle.range_placements.proofs.Exchanges.{exchanged_last, nodes_at}
use Rattle.range_placements.proofs.ChangedRows.{unchanged}
use Rattle.range_placements.specs.Exchanging.{with_changes, with_nodes_at}
use Rattle.range_placements.specs.declared.row_changes.NewNodes.{NewNodes}
use Rattle.range_placements.specs.declared.row_changes.RowChange.{RowChange}
use Rattle.placement_maps.specs.code.Turns.{AddsNodes, turned}
use Rattle.placement_maps.specs.declared.turn.Turn.{Turn}
use Rattle.placement_maps.specs.declared.turn.Turn.TheVariants.{Keep, Reads, Writes, ReadsBack, WritesBack}

-- where nothing is gained and nothing lost, a turn changes nothing
pub turned_none : (turn : Turn) (reads writes gained lost : List ℕ) → length gained ≡ 0 → length lost ≡ 0 → turned turn (reads, writes) (gained, lost) ≡ (reads, writes)
turned_none Keep reads writes gained lost none one = refl
turned_none Reads reads writes gained lost none one = λ i. (unchanged reads gained lost none one i, writes)
turned_none Writes reads writes gained lost none one = λ i. (reads, unchanged writes gained lost none one i)
turned_none ReadsBack reads writes gained lost none one = λ i. (unchanged reads lost gained one none i, writes)
turned_none WritesBack reads writes gained lost none one = λ i. (reads, unchanged writes lost gained one none i)

-- new nodes added for the row at a position
pub nodes_added : (nodes : NewNodes) (at : ℕ) (changes : List RowChange) → AddsNodes (Some nodes) at changes (changes ++ record { at = at; nodes = nodes } ∷ [])
nodes_added nodes at changes row done rest here =
    exchanged_last changes (record { at = at; nodes = nodes }) (done ++ row ∷ rest)
    ∙ ap (with_changes changes)
    (ap (λ (n : ℕ). with_nodes_at n nodes (done ++ row ∷ rest)) (sym here) ∙ nodes_at nodes done row rest)
