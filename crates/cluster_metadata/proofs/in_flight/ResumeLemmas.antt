-- Each movement of a sound image can be planned anew: with its row at another phase, the image is sound too.
use Rattle.std.proofs.Common.{◌≡◌, ℕ, Bool, true, false, ◌==◌, cond, List, [], ◌∷◌, ◌++◌, map, find, Some, refl, sym, ap, subst, arith}
use Rattle.std.proofs.lemmas.Option.{none-some}
use Rattle.std.specs.List.{Contains}
use Rattle.std.specs.List.Sorted.{IsStrictlySortedBy}
use Rattle.std.specs.Ordering.{nat_cmp}
use Rattle.std.specs.declared.cmp.Ordering.TheVariants.{Less, Equal, Greater}
use Rattle.cluster_terms.specs.Ascending.{put}
use Rattle.transformations.proofs.lists.ListLemmas.{all_found}
use Rattle.transformations.proofs.movements.FitsLemmas.{movements_phase}
use Rattle.transformations.proofs.movements.MovementLemmas.{phase_brought, phase_sorted}
use Rattle.transformations.proofs.movements.OnceLemmas.{once_phase}
use Rattle.transformations.proofs.movements.SoleLemmas.{found_own}
use Rattle.transformations.specs.Orders.{by_node}
use Rattle.transformations.specs.Refusals.{with_movement}
use Rattle.transformations.specs.Movements.{at_phase}
use Rattle.transformations.specs.Valid.{IsSound, brought}
use Rattle.transformations.specs.declared.image.Image.{Image}
use Rattle.transformations.specs.declared.sequence.Phase.{Phase}
use Rattle.transformations.specs.declared.sequence.SeqRow.{SeqRow}
use Rattle.cluster_metadata.proofs.in_flight.MovementPlaces.{later_others, steps_none}
use Rattle.cluster_metadata.specs.code.Change.{in_phase}

-- soundness doesn't depend on the phases of movements
sound_at_phase : (p : Phase) (image : Image) (n : ℕ) → IsSound image → IsSound (record image { sequences = map (at_phase p n) image.sequences })
sound_at_phase p image n h =
    let sequences : List SeqRow = map (at_phase p n) image.sequences in
    let same : image.tokens ++ brought sequences ≡ image.tokens ++ brought image.sequences = ap (λ l. image.tokens ++ l) (phase_brought p n image.sequences) in
    record {
      epochs = h.epochs;
      first_id = h.first_id;
      next_id = h.next_id;
      nodes = h.nodes;
      ring = record { ascending = h.ring.ascending; owners = h.ring.owners; few = h.ring.few };
      few_keyspaces = h.few_keyspaces;
      keyspaces = h.keyspaces;
      movements = phase_sorted p n image.sequences h.movements;
      fitting = movements_phase image image.epoch sequences p n image.sequences h.ring h.fitting;
      once = once_phase p n image.sequences h.once;
      fresh = rw same h.fresh;
      few_tokens = rw same h.few_tokens;
    }

same_cmp : (n m : ℕ) → (m == n) ≡ true → nat_cmp n m ≡ Equal
same_cmp n m same = grind arith

greater_cmp : (n m : ℕ) → nat_cmp m n ≡ Less → nat_cmp n m ≡ Greater
greater_cmp n m less = grind arith

-- a movement at another phase takes its own place
pub put_own : (p : Phase) (s : SeqRow) (rows : List SeqRow) → IsStrictlySortedBy by_node rows → find (λ (q : SeqRow). q.node == s.node) rows ≡ Some s → put by_node (in_phase p s) rows ≡ map (at_phase p s.node) rows
unfolding IsStrictlySortedBy
put_own p s [] up found = absurd (none-some s found)
put_own p s (q ∷ rows) up found = by (q.node == s.node) refl found (put_own p s rows up.1)
  where
    by : (b : Bool) → (q.node == s.node) ≡ b → cond b (Some q) (find (λ (r : SeqRow). r.node == s.node) rows) ≡ Some s
        → (find (λ (r : SeqRow). r.node == s.node) rows ≡ Some s → put by_node (in_phase p s) rows ≡ map (at_phase p s.node) rows)
        → put by_node (in_phase p s) (q ∷ rows) ≡ map (at_phase p s.node) (q ∷ rows)
    by true own found rest =
        let same : q ≡ s = cc in
        rw (same_cmp s.node q.node own, own, steps_none s.node p rows (later_others s.node q rows own up.0)) (ap (λ (r : SeqRow). in_phase p r ∷ rows) (sym same))
    by false other found rest =
        let less = all_found (λ r. by_node q r ≡ Less) (λ (r : SeqRow). r.node == s.node) rows s found up.0 in
        rw (greater_cmp s.node q.node less, other) (ap (λ l. q ∷ l) (rest found))

pub sound_resumed : (p : Phase) (image : Image) (s : SeqRow) → IsSound image → Contains image.sequences s → IsSound (with_movement image (in_phase p s))
sound_resumed p image s h there =
    let place = put_own p s image.sequences h.movements (found_own image.sequences s h.movements there) in
    let with_rows : List SeqRow → Image = λ rows. record image { sequences = rows } in
    subst (λ rows. IsSound (with_rows rows)) (sym place) (sound_at_phase p image s.node h)
