-- What the rows of a plan mean for the movement of a node under a keyspace.
use Rattle.std.proofs.Common.{◌≡◌, ℕ, ◌==◌, List, option_map, Option, Some, None, IfSome, refl, sym, ap, ◌∙◌, subst}
use Rattle.std.proofs.lemmas.List.Elements.{All-contains_itself, recursion_from_All}
use Rattle.std.proofs.lemmas.Map.Views.{exact_unsigned_eq}
use Rattle.std.proofs.lemmas.Option.{none-some}
use Rattle.std.specs.List.{Contains}
use Rattle.cluster_terms.specs.declared.replication.Replication.{Replication}
use Rattle.placement_deltas.specs.declared.plan.Plan.{Plan}
use Rattle.placement_maps.specs.Served.{keyspace_of}
use Rattle.sequence_plans.specs.PlanDeltas.{HasDeltas}
use Rattle.transformations.proofs.lists.ListLemmas.{all_found, found_passes}
use Rattle.transformations.specs.Meeting.{HaveReplications}
use Rattle.transformations.specs.Movements.{movement_of}
use Rattle.transformations.specs.Valid.{IsSound}
use Rattle.transformations.specs.declared.image.Image.{Image}
use Rattle.transformations.specs.declared.keyspace.KeyspaceRow.{KeyspaceRow}
use Rattle.transformations.specs.declared.sequence.Phase.TheVariants as phase
use Rattle.transformations.specs.declared.sequence.SeqRow.{SeqRow}
use Rattle.stream_plan.proofs.planned_rows.OneRowLemmas.{gains_covered}
use Rattle.stream_plan.proofs.coverage.ReadableLemmas.{kept_readable}
use Rattle.stream_plan.specs.Readable.{KeepReadable}
use Rattle.stream_plan.specs.Streams.{CoverGains, OfMovement, stream_rows, streams, streams_under}
use Rattle.stream_plan.specs.code.Plans.{IsPlanIn, IsPlanOf}
use Rattle.stream_plan.specs.declared.stream_row.StreamRow.{StreamRow}

abbrev pub at_prepared : SeqRow → SeqRow
at_prepared s = record s { phase = phase.Prepared }

-- the movement of a node whose plan was found
pub record IsPlanned (image : Image) (n : ℕ) (plan : Plan) : Type 0 where
  pub movement : SeqRow
  pub found : movement_of image n ≡ Some movement
  pub is : IsPlanOf image movement plan

pub planned : (image : Image) (n : ℕ) (plan : Plan) → Some plan.row ≡ option_map at_prepared (movement_of image n) → HasDeltas image plan → IsPlanned image n plan
planned image n plan row deltas = by (movement_of image n) refl row
  where
    by : (o : Option SeqRow) → movement_of image n ≡ o → Some plan.row ≡ option_map at_prepared o → IsPlanned image n plan
    by None found is = absurd (none-some plan.row (sym is))
    by (Some s) found is =
        let same : plan.row ≡ at_prepared s = cc in
        let node : s.node ≡ n = exact_unsigned_eq s.node n (found_passes (λ (q : SeqRow). q.node == n) image.sequences s found) in
        record {
          movement = s;
          found = found;
          is = record {
            found = ap (λ (q : SeqRow). movement_of image q.node) same ∙ ap (movement_of image) node ∙ found;
            row = sym (ap (λ (q : SeqRow). record q { phase = s.phase }) same);
            deltas = deltas;
          };
        }

pub plan_in : (image : Image) (n : ℕ) (plan : Plan) → IsPlanned image n plan → IsPlanIn image plan
plan_in image n plan p = record { movement = p.movement; is = p.is }

module _ (image : Image) (n : ℕ) (name : List ℕ) where
  -- the plan is the one defined, covers what the movement adds, and keeps quorums readable
  pub record AreStreamed (rows : List StreamRow) : Type 0 where
    pub rows_are : Some rows ≡ streams image n name
    pub covers : OfMovement image n name (CoverGains image rows)
    pub readable : OfMovement image n name (KeepReadable image rows)

  of_movement : (Fact : Replication → SeqRow → Type 0) (k : KeyspaceRow) (s : SeqRow) → keyspace_of image name ≡ Some k → movement_of image n ≡ Some s → Fact k.replication s → OfMovement image n name Fact
  of_movement Fact k s named found fact =
      subst (λ o. IfSome o (λ (e : KeyspaceRow). IfSome (movement_of image n) (Fact e.replication))) (sym named)
      (subst (λ o. IfSome o (Fact k.replication)) (sym found) fact)

  there : (s : SeqRow) → movement_of image n ≡ Some s → Contains image.sequences s
  there s found =
      all_found (Contains image.sequences) (λ (q : SeqRow). q.node == n) image.sequences s found
      (recursion_from_All (Contains image.sequences) image.sequences (All-contains_itself image.sequences))

  module _ (h : IsSound image) (valid : HaveReplications image) where
    streamed_by : (k : KeyspaceRow) (s : SeqRow) → keyspace_of image name ≡ Some k → movement_of image n ≡ Some s → AreStreamed (stream_rows image k.replication s)
    streamed_by k s named found =
        let held = there s found in
        record {
          rows_are = sym (λ i. streams_under image (named i) (found i));
          covers = of_movement (CoverGains image (stream_rows image k.replication s)) k s named found (gains_covered image k.replication s held);
          readable = of_movement (KeepReadable image (stream_rows image k.replication s)) k s named found (kept_readable image s h valid held name k named);
        }

    -- the rows that the code makes
    pub streamed : (plan : Plan) (p : IsPlanned image n plan) (r : Replication) → Some r ≡ option_map (λ (k : KeyspaceRow). k.replication) (keyspace_of image name)
        → (rows : List StreamRow) → ((s : SeqRow) → IsPlanOf image s plan → rows ≡ stream_rows image r s) → AreStreamed rows
    streamed plan p r named rows told = by (keyspace_of image name) refl named
      where
        by : (o : Option KeyspaceRow) → keyspace_of image name ≡ o → Some r ≡ option_map (λ (k : KeyspaceRow). k.replication) o → AreStreamed rows
        by None own is = absurd (none-some r (sym is))
        by (Some k) own is =
            let same : r ≡ k.replication = cc in
            let made : rows ≡ stream_rows image k.replication p.movement = told p.movement p.is ∙ ap (λ q. stream_rows image q p.movement) same in
            subst AreStreamed (sym made) (streamed_by k p.movement own p.found)

    -- the plan of an image, if there is one
    pub any_streamed : IfSome (streams image n name) AreStreamed
    any_streamed = by (keyspace_of image name) (movement_of image n) refl refl
      where
        by : (o : Option KeyspaceRow) (m : Option SeqRow) → keyspace_of image name ≡ o → movement_of image n ≡ m → IfSome (streams_under image o m) AreStreamed
        by None None named found = tt
        by None (Some s) named found = tt
        by (Some k) None named found = tt
        by (Some k) (Some s) named found = streamed_by k s named found
