use Rattle.std.proofs.Common.{◌≡◌, ◌++◌, ◌∷◌, [], sym, subst}
use Rattle.std.proofs.lemmas.Result.{on_ok_weaker}
use Rattle.std.specs.Prelude.{MatchResult, OnOk, Option, Some, Result, Ok, Err}
use Rattle.range_placements.specs.declared.row_changes.NewNodes.{NewNodes}
use Rattle.range_placements.specs.declared.row_changes.RowChange.{RowChange}
use Rattle.placement_maps.proofs.TurnedSets.{nodes_added}
use Rattle.placement_maps.specs.code.Turns.{AddsNodes}
use Rattle.placement_maps.proofs.delta_changes.push_nodes.Goals as goal

-- what holds in both cases holds if there is a value
at_ok : {T E : Type 0} (r : Result T E) (P Q : Type 0) → MatchResult r (λ _. P) (λ _. Q) → OnOk r P
at_ok (Ok x) P Q holds = holds
at_ok (Err y) P Q holds = tt

pub returns-in-Some : goal.returns-in-Some
returns-in-Some c =
    let before = c.args.changes.now in
    let nodes = c.in-Some.nodes in
    let at = c.args.at in
    let change : RowChange = record { at = at; nodes = nodes } in
    on_ok_weaker c.push.result
    (λ made.
    subst (λ (found : Option NewNodes). AddsNodes found at before c.push.new.self) (sym c.in-Some.is)
    (subst (AddsNodes (Some nodes) at before) (sym made) (nodes_added nodes at before)))
    (at_ok c.push.result (c.push.new.self ≡ before ++ change ∷ []) (c.push.new.self ≡ before) c.push.ensures)
