-- The deltas of a plan stay exact while its movement lives.
use Rattle.std.proofs.Common.{◌≡◌, ℕ, ℤ, List, refl, sym, ◌∙◌, subst}
use Rattle.std.specs.List.{AllByRecursion, Contains}
use Rattle.cluster_terms.specs.Arc.{IsToken}
use Rattle.cluster_terms.specs.declared.replication.Replication.{Replication}
use Rattle.placement_deltas.specs.ExactDeltas.{IsExact, gained_by, lost_by, no_nodes}
use Rattle.placement_deltas.specs.declared.delta_book.DeltaBookRow.{DeltaBookRow}
use Rattle.placement_deltas.specs.declared.plan.Plan.{Plan}
use Rattle.transformations.proofs.deltas.DeltasAfter.{deltas_after}
use Rattle.transformations.proofs.deltas.KeptDeltas.{deltas_of_same}
use Rattle.transformations.proofs.lists.ListLemmas.{all_each, all_weaker}
use Rattle.transformations.specs.MovementDeltas.{LivesOn, MovesSame, SameDeltas, placed_before, placed_with}
use Rattle.transformations.specs.History.{begun, image_after}
use Rattle.transformations.specs.Refusals.{with_movement}
use Rattle.transformations.specs.Valid.{IsValid}
use Rattle.transformations.specs.declared.image.Image.{Image}
use Rattle.transformations.specs.declared.keyspace.KeyspaceRow.{KeyspaceRow}
use Rattle.transformations.specs.declared.sequence.SeqRow.{SeqRow}
use Rattle.sequence_plans.proofs.DeltaBookLemmas.{own_contained, steps_like}
use Rattle.sequence_plans.specs.PlanDeltas.{AreExactUnder, HasDeltas, StaysExact}

-- what a later movement with the same pairs gains and loses is what these pairs do
same_own : (before after : Image) (r : Replication) (x : ℤ) (s q : SeqRow) → MovesSame s q → SameDeltas before after r x s q → SameDeltas before after r x s s
same_own before after r x s q m d =
    let back : SameDeltas after after r x q s = deltas_of_same after after r x q s (record { outs = sym m.outs; ins = sym m.ins }) (record { gained = refl; lost = refl }) in
    record { gained = d.gained ∙ back.gained; lost = d.lost ∙ back.lost }

-- under a replication under which the same nodes are gained and lost, the rows of a book stay exact
exact_under : (r : Replication) (gained lost gained' lost' : Replication → ℤ → List ℕ) → ((x : ℤ) → IsToken x → gained r x ≡ gained' r x) → ((x : ℤ) → IsToken x → lost r x ≡ lost' r x)
    → (book : List DeltaBookRow) → AllByRecursion (λ row. IsExact (gained row.replication) (lost row.replication) row.delta) book → AreExactUnder r (gained' r) (lost' r) book
exact_under r gained lost gained' lost' gains loses =
    all_weaker (λ (row : DeltaBookRow). IsExact (gained row.replication) (lost row.replication) row.delta) (λ (row : DeltaBookRow). row.replication ≡ r → IsExact (gained' r) (lost' r) row.delta)
    (λ row exact is x token. subst (λ q. IsExact (gained q) (lost q) row.delta) is exact x token ∙ (λ i. (gains x token i, loses x token i)))

persists : (image : Image) (plan : Plan) → IsValid image → Contains image.sequences plan.row → HasDeltas image plan → StaysExact image plan
persists image plan h there has commands accepted below_limit lives k in_image kept =
    let later : Image = image_after image commands in
    let s : SeqRow = plan.row in
    let on : LivesOn image later commands s = deltas_after image s commands h there accepted below_limit lives in
    let same : (x : ℤ) → IsToken x → SameDeltas image later k.replication x s s =
    λ x token. same_own image later k.replication x s on.movement on.moves ((on.deltas k in_image kept).deltas x token) in
    record {
      gains = exact_under k.replication (gained_by image s) no_nodes (gained_by later s) no_nodes (λ x token. (same x token).gained) (λ x token. refl) plan.gain has.gains.exact;
      swaps = exact_under k.replication (gained_by image s) (lost_by image s) (gained_by later s) (lost_by later s) (λ x token. (same x token).gained) (λ x token. (same x token).lost) plan.swap has.swaps.exact;
      loses = exact_under k.replication no_nodes (lost_by image s) no_nodes (lost_by later s) (λ x token. refl) (λ x token. (same x token).lost) plan.lose has.loses.exact;
    }

-- the next epoch changes no delta
same_begun : (image : Image) (s q : SeqRow) (r : Replication) (x : ℤ) → SameDeltas (with_movement image s) (begun image s) r x q q
unfolding placed_before placed_with
same_begun image s q r x = record { gained = refl; lost = refl }

pub begun_persists : (image : Image) (s : SeqRow) (plan : Plan) → plan.row ≡ s → HasDeltas (with_movement image s) plan → IsValid (begun image s) → StaysExact (begun image s) plan
begun_persists image s plan is has h =
    persists (begun image s) plan h (subst (Contains (begun image s).sequences) (sym is) (own_contained s image.sequences))
    (steps_like (with_movement image s) (begun image s) plan.row plan.row image.keyspaces
    (all_each (λ (k : KeyspaceRow). (x : ℤ) → IsToken x → SameDeltas (with_movement image s) (begun image s) k.replication x plan.row plan.row) (λ k x token. same_begun image s plan.row k.replication x) image.keyspaces)
    plan.gain plan.swap plan.lose has)
