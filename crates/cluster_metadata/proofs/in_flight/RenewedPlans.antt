-- New plans for the movements in flight: they take the places of the old ones from the last to the first.
use Rattle.std.proofs.Common.{◌≡◌, ℕ, ◌+◌, ◌<◌, List, [], ◌∷◌, ◌++◌, drop, get_or, length, map, set, option_map, Some, ◌⊎◌, inl, inr, refl, sym, ap, ◌∙◌, arith}
use Rattle.std.proofs.Math.Seq.{map-set_same}
use Rattle.std.proofs.lemmas.List.{append-nil, append_assoc, drop-set, drop_all, length-append, length-map, map-set}
use Rattle.std.proofs.lemmas.Option.{slice_get-map}
use Rattle.std.specs.List.{insert, remove, slice_get}
use Rattle.placement_deltas.specs.declared.plan.Plan.{Plan}
use Rattle.transformations.specs.declared.image.Image.{Image}
use Rattle.transformations.specs.declared.keyspace.KeyspaceRow.{KeyspaceRow}
use Rattle.transformations.specs.declared.sequence.Phase.TheVariants as phase
use Rattle.transformations.specs.declared.sequence.SeqRow.{SeqRow}
use Rattle.cluster_metadata.proofs.in_flight.MovementPlaces.{at_index}
use Rattle.cluster_metadata.proofs.in_flight.RunningLemmas.{put_back}
use Rattle.cluster_metadata.specs.code.Change.{changed, in_phase}
use Rattle.cluster_metadata.specs.code.Running.{IsRunning, movement_row, phase_of, plan_of}
use Rattle.cluster_metadata.specs.declared.changes.change.Change.{Change}
use Rattle.cluster_metadata.specs.declared.changes.change.Change.TheVariants.{Unchanged, Registered, Unregistered, Tokens, Keyspaces, Begun, Started, Mid, Finished, Ended, BroughtBack}
use Rattle.cluster_metadata.specs.declared.movements.renewing.Renewed.{Renewed}
use Rattle.cluster_metadata.specs.declared.movements.running.Running.{Running}

-- ---- changes that leave the keyspaces

abbrev pub KeepsKeyspaces : Change → Type 0
KeepsKeyspaces (Keyspaces keyspaces renewed) = ⊥
KeepsKeyspaces _ = Unit {0}

pub keyspaces_stay : (image : Image) (change : Change) → KeepsKeyspaces change → (changed image change).keyspaces ≡ image.keyspaces
keyspaces_stay image (Keyspaces keyspaces renewed) keeps = absurd keeps
keyspaces_stay image Unchanged keeps = refl
keyspaces_stay image (Registered node) keeps = refl
keyspaces_stay image (Unregistered n) keeps = refl
keyspaces_stay image (Tokens pairs) keeps = refl
keyspaces_stay image (Begun at plan rows) keeps = refl
keyspaces_stay image (Started at) keeps = refl
keyspaces_stay image (Mid at) keeps = refl
keyspaces_stay image (Finished at left tokens) keeps = refl
keyspaces_stay image (Ended at) keeps = refl
keyspaces_stay image (BroughtBack at) keeps = refl

pub sets_or_keeps : (change : Change) → ((set : List KeyspaceRow × Renewed) × (change ≡ Keyspaces set.0 set.1)) ⊎ KeepsKeyspaces change
sets_or_keeps (Keyspaces keyspaces renewed) = inl ((keyspaces, renewed), refl)
sets_or_keeps Unchanged = inr tt
sets_or_keeps (Registered node) = inr tt
sets_or_keeps (Unregistered n) = inr tt
sets_or_keeps (Tokens pairs) = inr tt
sets_or_keeps (Begun at plan rows) = inr tt
sets_or_keeps (Started at) = inr tt
sets_or_keeps (Mid at) = inr tt
sets_or_keeps (Finished at left tokens) = inr tt
sets_or_keeps (Ended at) = inr tt
sets_or_keeps (BroughtBack at) = inr tt

-- ---- plans that take the places of others

-- the row of a movement at PREPARED
abbrev pub own_row : Running → SeqRow
own_row m = in_phase phase.Prepared (plan_of m).row

pub own_rows : (rows : List SeqRow) (running : List Running) → IsRunning rows running → map own_row running ≡ map (in_phase phase.Prepared) rows
own_rows rows running is = each running ∙ ap (map (in_phase phase.Prepared)) is
  where
    each : (running : List Running) → map own_row running ≡ map (in_phase phase.Prepared) (map movement_row running)
    each [] = refl
    each (m ∷ running) = ap (λ l. own_row m ∷ l) (each running)

-- of some plans, those that are left have not taken their places yet
pub record HaveLeft (plans left : List Plan) (running : List Running) : Type 0 where
  pub rows : map (λ p. p.row) plans ≡ map own_row running
  pub done : left ++ drop (length left) (map plan_of running) ≡ plans

same_length : (plans : List Plan) (running : List Running) → map (λ p. p.row) plans ≡ map own_row running → length (map plan_of running) ≡ length plans
same_length plans running rows = length-map running plan_of ∙ sym (length-map running own_row) ∙ sym (ap length rows) ∙ length-map plans (λ (p : Plan). p.row)

pub none_renewed : (plans : List Plan) (running : List Running) → map (λ p. p.row) plans ≡ map own_row running → HaveLeft plans plans running
none_renewed plans running rows = record {
  rows = rows;
  done = ap (λ l. plans ++ l) (drop_all (length plans) (map plan_of running) (omega (arith, same_length plans running rows))) ∙ append-nil plans;
}

pub all_renewed : (plans left : List Plan) (running : List Running) → left ≡ [] → HaveLeft plans left running → map plan_of running ≡ plans
all_renewed plans left running none h = ap (λ (l : List Plan). l ++ drop (length l) (map plan_of running)) (sym none) ∙ h.done

-- the item after a list
there_after : {X : Type 0} (xs : List X) (x : X) (ys : List X) → slice_get ((xs ++ x ∷ []) ++ ys) (length xs) ≡ Some x
there_after [] x ys = refl
there_after (y ∷ xs) x ys = there_after xs x ys

module _ (plans left more : List Plan) (last : Plan) (running : List Running) (at : ℕ) (taken : left ≡ more ++ last ∷ []) (place : at ≡ length more) (h : HaveLeft plans left running) where
  abbrev rest : List Plan
  rest = drop (length left) (map plan_of running)

  split : (more ++ last ∷ []) ++ rest ≡ plans
  split = ap (λ l. l ++ rest) (sym taken) ∙ h.done

  pub next_there : at < length running
  next_there =
      omega (arith, place, same_length plans running h.rows, length-map running plan_of, ap length split, length-append (more ++ last ∷ []) rest, length-append more (last ∷ []))

  module _ (m : Running) (here : m ≡ get_or running at m) where
    pub next_row : last.row ≡ own_row m
    next_row =
        let planned : slice_get plans at ≡ Some last = ap (λ l. slice_get l at) (sym split) ∙ ap (slice_get ((more ++ last ∷ []) ++ rest)) place ∙ there_after more last rest in
        let one : slice_get (map (λ (p : Plan). p.row) plans) at ≡ Some last.row = slice_get-map (λ (p : Plan). p.row) plans at ∙ ap (option_map (λ (p : Plan). p.row)) planned in
        let other : slice_get (map own_row running) at ≡ Some (own_row m) = slice_get-map own_row running at ∙ ap (option_map own_row) (at_index running at m next_there here) in
        let both : Some last.row ≡ Some (own_row m) = sym one ∙ ap (λ l. slice_get l at) h.rows ∙ other in
        cc both

    module _ (new : Running) (plan : plan_of new ≡ last) (same : phase_of new ≡ phase_of m) where
      same_row : movement_row new ≡ movement_row m
      same_row = ap (λ (p : Plan). in_phase (phase_of new) p.row) plan ∙ (λ i. in_phase (same i) (next_row i))

      pub next_renewed : HaveLeft plans more (insert (remove running at) at new)
      next_renewed =
          let set_at : insert (remove running at) at new ≡ set running at new = put_back running at new next_there in
          let own : own_row new ≡ own_row (get_or running at m) = ap (λ (p : Plan). in_phase phase.Prepared p.row) plan ∙ ap (in_phase phase.Prepared) next_row ∙ ap own_row here in
          let plans_set : map plan_of (set running at new) ≡ set (map plan_of running) at last = map-set plan_of running at new ∙ ap (set (map plan_of running) at) plan in
          let count : length left ≡ at + 1 = ap length taken ∙ length-append more (last ∷ []) ∙ ap (λ n. n + 1) (sym place) in
          let within : at < length (map plan_of running) = omega (arith, next_there, length-map running plan_of) in
          let dropped : drop (length more) (map plan_of (insert (remove running at) at new)) ≡ last ∷ rest =
          (λ i. drop (sym place i) (map plan_of (set_at i))) ∙ ap (drop at) plans_set ∙ drop-set (map plan_of running) at last within ∙ ap (λ n. last ∷ drop n (map plan_of running)) (sym count) in
          record {
            rows = h.rows ∙ sym (map-set_same own_row running at new m own) ∙ ap (map own_row) (sym set_at);
            done = ap (λ l. more ++ l) dropped ∙ sym (append_assoc more (last ∷ []) rest) ∙ split;
          }

      pub next_rows : map movement_row (insert (remove running at) at new) ≡ map movement_row running
      next_rows = ap (map movement_row) (put_back running at new next_there) ∙ map-set_same movement_row running at new m (same_row ∙ ap movement_row here)
