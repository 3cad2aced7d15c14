-- What the code of a stream plan finds in the metadata and in a plan.
use Rattle.std.proofs.Common.{◌≡◌, ℕ, Bool, List, find, option_map, Option, Some, None, Result, Ok, Err, IfOk, OnOk, IfSome, IsSome, Bor, refl, sym, ap, ◌∙◌, subst}
use Rattle.std.proofs.lemmas.Option.{none-some}
use Rattle.std.specs.List.{AllByRecursion}
use Rattle.std.specs.Option.{option_copied}
use Rattle.placement_maps.specs.Maps.{placement_rows}
use Rattle.placement_maps.specs.Served.{keyspace_of}
use Rattle.cluster_terms.specs.Arc.{IsToken}
use Rattle.cluster_terms.specs.Replication.{groups_of, same_replication}
use Rattle.cluster_terms.specs.Row.{last_token}
use Rattle.cluster_terms.specs.declared.node.NodeRow.{NodeRow}
use Rattle.cluster_terms.specs.declared.replication.Replication.{Replication}
use Rattle.placement_deltas.specs.declared.delta_book.DeltaBookRow.{DeltaBookRow}
use Rattle.placement_deltas.specs.declared.delta_row.DeltaRow.{DeltaRow}
use Rattle.placement_deltas.specs.declared.plan.Plan.{Plan}
use Rattle.range_placements.specs.declared.placement_row.PlacementRow.{PlacementRow}
use Rattle.transformations.specs.Rings.{is_mid}
use Rattle.transformations.specs.Movements.{movement_of}
use Rattle.transformations.specs.Valid.{IsValid}
use Rattle.transformations.specs.declared.image.Image.{Image}
use Rattle.transformations.specs.declared.keyspace.KeyspaceRow.{KeyspaceRow}
use Rattle.transformations.specs.declared.sequence.SeqRow.{SeqRow}
use Rattle.stream_plan.proofs.planned_rows.PlanRows.{delta_of, plan_rows}
use Rattle.stream_plan.specs.code.Plans.{IsPlanIn, IsPlanOf}
use Rattle.stream_plan.specs.code.RowSteps.{rows_by}
use Rattle.stream_plan.specs.Streams.{stream_rows}
use Rattle.stream_plan.specs.declared.stream_row.StreamRow.{StreamRow}

-- the delta of a plan under a replication, if it has one
abbrev pub delta_under : Plan → Replication → Option (List DeltaRow)
delta_under plan r = option_map (λ (row : DeltaBookRow). row.delta) (find (λ row. same_replication row.replication r) plan.swap)

module _ (image : Image) (plan : Plan) (name : List ℕ) (r : Replication) (named : option_map (λ (k : KeyspaceRow). k.replication) (keyspace_of image name) ≡ Some r) where
  some_of : {A : Type 0} (o : Option A) (a : A) → o ≡ Some a → IsSome o
  some_of None a e = absurd (none-some a e)
  some_of (Some b) a e = refl

  -- it has one under the replication of a keyspace
  pub has_delta : IsPlanIn image plan → IsSome (delta_under plan r)
  has_delta p = by (keyspace_of image name) refl named
    where
      by : (o : Option KeyspaceRow) → keyspace_of image name ≡ o → option_map (λ (k : KeyspaceRow). k.replication) o ≡ Some r → IsSome (delta_under plan r)
      by None found is = absurd (none-some r is)
      by (Some k) found is =
          let same : k.replication ≡ r = cc in
          let own = delta_of image p.movement plan p.is name k found in
          subst (λ q. IsSome (delta_under plan q)) same (some_of (delta_under plan k.replication) own.delta own.is)

  pub given_rows : IsValid image → (nodes : List NodeRow) → nodes ≡ image.nodes → (mid : Bool) → IfSome (movement_of image plan.row.node) (λ s. mid ≡ is_mid s.phase)
      → (delta : List DeltaRow) → Some delta ≡ delta_under plan r
      → (map : List PlacementRow) → Some map ≡ option_map (λ (k : KeyspaceRow). placement_rows image k.replication) (keyspace_of image name)
      → AllByRecursion (λ (row : PlacementRow). IsToken (last_token row.right)) map
      → (rows : List StreamRow) → rows ≡ rows_by (groups_of nodes r) mid delta None map
      → (s : SeqRow) → IsPlanOf image s plan → rows ≡ stream_rows image r s
  given_rows h nodes same_nodes mid at_mid delta has map shown tokens rows made s p = by (keyspace_of image name) refl named shown
    where
      phase : mid ≡ is_mid s.phase
      phase = subst (λ o. IfSome o (λ (q : SeqRow). mid ≡ is_mid q.phase)) p.found at_mid

      by : (o : Option KeyspaceRow) → keyspace_of image name ≡ o → option_map (λ (k : KeyspaceRow). k.replication) o ≡ Some r
          → Some map ≡ option_map (λ (k : KeyspaceRow). placement_rows image k.replication) o → rows ≡ stream_rows image r s
      by None found is shown = absurd (none-some r is)
      by (Some k) found is shown =
          let same : k.replication ≡ r = cc in
          let own : map ≡ placement_rows image k.replication = cc in
          made ∙ (λ i. rows_by (groups_of (same_nodes i) (sym same i)) (phase i) delta None (own i))
          ∙ plan_rows image s plan p name k found h delta (ap (delta_under plan) same ∙ sym has) (subst (AllByRecursion (λ (row : PlacementRow). IsToken (last_token row.right))) own tokens)
          ∙ ap (λ q. stream_rows image q s) same

-- a reference that is there when its value is
pub copied_some : {A : Type 0} (o : Option (Bor A)) (p : Option A) → option_copied o ≡ p → IsSome p → IsSome o
copied_some None None e some = some
copied_some None (Some a) e some = absurd (none-some a e)
copied_some (Some b) p e some = refl

-- a fact of rows that are given, if they are
pub if_made : {R E : Type 0} (result : Result R E) (made : R) (Told : Type 0) (Fact : R → Type 0) → IfOk result (λ rows. rows ≡ made) → OnOk result Told
    → (Told → (rows : R) → rows ≡ made → Fact rows) → IfOk result Fact
if_made (Ok rows) made Told Fact is told more = more told rows is
if_made (Err e) made Told Fact is told more = tt
