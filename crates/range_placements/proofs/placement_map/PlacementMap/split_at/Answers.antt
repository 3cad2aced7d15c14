use Rattle.std.proofs.Common.{MatchResult, ◌≡◌, List, ap, sym, subst, ◌∙◌, ◌⊎◌, inl, inr}
use Rattle.range_placements.proofs.MapCuts.{split_adds, split_map, split_or_kept, split_same}
use Rattle.range_placements.proofs.placement_map.PlacementMap.split_at.Goals as goal
use Rattle.range_placements.specs.Placements.{IsPlacementMap, map_at, split_rows}
use Rattle.range_placements.specs.declared.placement_row.PlacementRow.{PlacementRow}

pub invariant_of-self : goal.invariant_of-self
invariant_of-self c = by (split_or_kept c.split.result c.split.new.rows.items c.self.inside.rows.items c.args.t c.split.ensures.rows)
  where
    by : (c.split.new.rows.items ≡ split_rows c.self.inside.rows.items c.args.t) ⊎ (c.split.new.rows.items ≡ c.self.inside.rows.items) → IsPlacementMap c.split.new.rows.items
    by (inl is) = subst IsPlacementMap (sym is) (split_map c.self.inside.rows.items c.args.t c.self.invariant)
    by (inr is) = subst IsPlacementMap (sym is) c.self.invariant

pub returns-clause-same : goal.returns-clause-same
returns-clause-same c x =
    by (split_or_kept c.split.result c.split.new.rows.items c.self.inside.rows.items c.args.t c.split.ensures.rows) ∙ ap (λ (rows : List PlacementRow). map_at rows x) c.self.view_is
  where
    by : (c.split.new.rows.items ≡ split_rows c.self.inside.rows.items c.args.t) ⊎ (c.split.new.rows.items ≡ c.self.inside.rows.items) → map_at c.split.new.rows.items x ≡ map_at c.self.inside.rows.items x
    by (inl is) = ap (λ (rows : List PlacementRow). map_at rows x) is ∙ split_same c.self.inside.rows.items c.args.t x
    by (inr is) = ap (λ (rows : List PlacementRow). map_at rows x) is

pub returns-clause-cuts : goal.returns-clause-cuts
returns-clause-cuts c =
    split_adds c.split.result c.split.new.rows.items c.args.self.now c.args.t (subst IsPlacementMap c.self.view_is c.self.invariant) c.split.ensures.token
    (subst (λ (rows : List PlacementRow). MatchResult c.split.result (λ _. c.split.new.rows.items ≡ split_rows rows c.args.t) (λ _. c.split.new.rows.items ≡ rows)) c.self.view_is c.split.ensures.rows)
