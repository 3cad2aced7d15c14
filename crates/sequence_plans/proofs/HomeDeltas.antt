-- A movement changes placements only in the datacenters of its pairs.
use Rattle.std.proofs.Common.{◌≡◌, ℕ, Bool, true, false, not, if◌then◌else◌, ℤ, List, [], ◌∷◌, ◌++◌, is_some, refl, sym, ap, ◌∙◌}
use Rattle.std.proofs.lemmas.Bool.{false≢true, or_parts}
use Rattle.std.proofs.lemmas.List.{append-nil}
use Rattle.std.proofs.lemmas.List.Elements.{filter-append}
use Rattle.std.proofs.lemmas.List.Folds.{list_any-append}
use Rattle.std.specs.List.{list_any}
use Rattle.cluster_terms.proofs.rows.PairLemmas.{any_from_pair}
use Rattle.cluster_terms.specs.Group.{Group}
use Rattle.cluster_terms.specs.Pair.{has_pair, without_pairs}
use Rattle.cluster_terms.specs.Replication.{datacenter_group}
use Rattle.cluster_terms.specs.declared.replication.Replication.{Replication}
use Rattle.cluster_terms.specs.declared.replication.Replication.TheVariants.{Simple, Topology}
use Rattle.cluster_terms.specs.declared.token.Pair.{Pair}
use Rattle.topology_strategy.proofs.HomeChanges.{new_at_homes}
use Rattle.topology_strategy.specs.GroupedRing.{is_home}
use Rattle.topology_strategy.specs.code.RackedPairs.{pairs_within}
use Rattle.transformations.specs.MovementDeltas.{gained_at, lost_at, placed_before, placed_with}
use Rattle.transformations.specs.Ranges.{moved_by}
use Rattle.transformations.specs.Rings.{low_ring, replaced}
use Rattle.transformations.specs.declared.image.Image.{Image}
use Rattle.transformations.specs.declared.sequence.SeqRow.{SeqRow}
use Rattle.replica_placer.specs.Placers.{at_homes}

-- ---- pairs outside a group come and go

module _ (g : Group) where
  abbrev is_in_group : Pair → Bool
  is_in_group p = is_some (g.rack_of p.node)

  none_within : (ps : List Pair) → list_any is_in_group ps ≡ false → pairs_within g ps ≡ []
  none_within [] out = refl
  none_within (p ∷ ps) out =
      let parts = or_parts (is_in_group p) (list_any is_in_group ps) out in
      ap (λ b. if b then p ∷ pairs_within g ps else pairs_within g ps) parts.0 ∙ none_within ps parts.1

  kept_within : (outs ring : List Pair) → list_any is_in_group outs ≡ false → pairs_within g (without_pairs ring outs) ≡ pairs_within g ring
  kept_within outs [] out = refl
  kept_within outs (p ∷ ps) out = by (is_in_group p) (has_pair outs p) refl refl (kept_within outs ps out)
    where
      by : (b gone : Bool) → is_in_group p ≡ b → has_pair outs p ≡ gone → pairs_within g (without_pairs ps outs) ≡ pairs_within g ps
          → pairs_within g (if not gone then p ∷ without_pairs ps outs else without_pairs ps outs) ≡ (if b then p ∷ pairs_within g ps else pairs_within g ps)
      by true true e there rest = absurd (false≢true (sym out ∙ any_from_pair is_in_group outs p there e))
      by false true e there rest = rest
      by true false e there rest =
          ap (λ b. if b then p ∷ pairs_within g (without_pairs ps outs) else pairs_within g (without_pairs ps outs)) e ∙ ap (λ l. p ∷ l) rest
      by false false e there rest =
          ap (λ b. if b then p ∷ pairs_within g (without_pairs ps outs) else pairs_within g (without_pairs ps outs)) e ∙ rest

  replaced_within : (ring outs ins : List Pair) → list_any is_in_group (outs ++ ins) ≡ false → pairs_within g ring ≡ pairs_within g (replaced ring outs ins)
  replaced_within ring outs ins out =
      let parts = or_parts (list_any is_in_group outs) (list_any is_in_group ins) (sym (list_any-append is_in_group outs ins) ∙ out) in
      sym (filter-append is_in_group (without_pairs ring outs) ins ∙ ap (λ l. pairs_within g (without_pairs ring outs) ++ l) (none_within ins parts.1)
      ∙ append-nil (pairs_within g (without_pairs ring outs)) ∙ kept_within outs ring parts.0)

-- ---- so what a movement gains and loses, it gains and loses in the datacenters of its pairs

module _ (image : Image) (s : SeqRow) (x : ℤ) where
  abbrev low : List Pair
  low = low_ring image

  abbrev applied : List Pair
  applied = replaced (low_ring image) s.out_pairs s.in_pairs

  alike : (f : List ℕ × ℕ) → is_home image.nodes (moved_by s) f.0 ≡ false → pairs_within (datacenter_group image.nodes f) low ≡ pairs_within (datacenter_group image.nodes f) applied
  alike f away = replaced_within (datacenter_group image.nodes f) low s.out_pairs s.in_pairs away

  pub gained_at_homes : (r : Replication) → gained_at image (at_homes image.nodes (moved_by s) r) s x ≡ gained_at image r s x
  unfolding placed_before placed_with
  gained_at_homes (Simple rf) = refl
  gained_at_homes (Topology factors) = new_at_homes image.nodes (moved_by s) low applied alike x factors

  pub lost_at_homes : (r : Replication) → lost_at image (at_homes image.nodes (moved_by s) r) s x ≡ lost_at image r s x
  unfolding placed_before placed_with
  lost_at_homes (Simple rf) = refl
  lost_at_homes (Topology factors) = new_at_homes image.nodes (moved_by s) applied low (λ f away. sym (alike f away)) x factors
