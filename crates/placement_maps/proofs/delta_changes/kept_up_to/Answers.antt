use Rattle.std.proofs.Common.{◌≡◌, ◌∙◌, ◌-◌, ◌≤ℤ◌, ℤ, List, ap, sym, subst, take, drop, get_or, length, arith}
use Rattle.std.specs.List.{AllByRecursion}
use Rattle.std.proofs.lemmas.Bool.{true≢false}
use Rattle.cluster_terms.specs.Row.{last_token}
use Rattle.range_placements.specs.declared.placement_row.PlacementRow.{PlacementRow}
use Rattle.placement_maps.proofs.KeptRows.{kept_turned}
use Rattle.placement_maps.proofs.TurnedRuns.{run_stays, run_within}
use Rattle.placement_maps.specs.code.Turns.{IsWithin, Keeps}
use Rattle.placement_maps.specs.declared.turn.Turn.{Turn}
use Rattle.placement_maps.specs.declared.turn.Turn.TheVariants.{Keep}
use Rattle.placement_maps.proofs.delta_changes.kept_up_to.Goals.{in-Keep, in_default}
use Rattle.placement_maps.proofs.delta_changes.kept_up_to.Goals as goal

-- a turn that keeps the sets keeps all rows
pub returns-then-matches-clause-kept : goal.returns-then-matches-clause-kept
returns-then-matches-clause-kept c =
    let rest = take (length c.rows-rows.result.now - c.args.at) (drop c.args.at c.args.turning.now.map.now) in
    let keeps : c.args.turning.now.turn ≡ Keep = elim c.match-matches.branch [ in-Keep w ↦ w.in-Keep.is | in_default w ↦ absurd (true≢false (sym c.if-matches.true ∙ w.matches-is)) ] in
    subst (λ (turn : Turn). Keeps turn c.args.turning.now.delta.now rest) (sym keeps) (kept_turned rest c.args.turning.now.delta.now)

-- another one keeps those that end where the delta changes nothing
pub returns-in-Some-clause-kept : goal.returns-in-Some-clause-kept
returns-in-Some-clause-kept c =
    let rows = c.args.turning.now.map.now in
    let at = c.args.at in
    let d = c.index-rows-at.result in
    let tokens = c.in-Some.tokens in
    let m = c.max.result - at in
    let here : d ≡ get_or rows at d = c.index-rows-at.is ∙ ap (λ (l : List PlacementRow). get_or l at d) c.rows-rows.ensures.rows in
    let end : c.last_token.result ≡ last_token (get_or rows at d).right = c.last_token.ensures ∙ ap (λ (r : PlacementRow). last_token r.right) here in
    let up : last_token (get_or rows at d).right ≤ℤ tokens.last = subst (λ (x : ℤ). x ≤ℤ tokens.last) end c.in-Some.ensures.ends.1 in
    let run = run_within rows at m c.count_up_to.result tokens.last c.rows-rows.ensures.map c.requires d up c.count_up_to.ensures.ends (omega (arith, c.max.ensures)) in
    run_stays c.args.turning.now.turn c.args.turning.now.delta.now tokens.first tokens.last (take m (drop at rows)) c.in-Some.ensures.unchanged
    (subst (λ (x : ℤ). AllByRecursion (IsWithin x tokens.last) (take m (drop at rows))) (sym (c.in-Some.ensures.ends.0 ∙ end)) run)
