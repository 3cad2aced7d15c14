-- Movements of which one is in another phase now, and the pairs of those in some phases.
use Rattle.std.proofs.Common.{◌≡◌, ℕ, Bool, true, false, cond, ◌==◌, List, [], ◌∷◌, ◌++◌, filter, flat_map, map, if◌then◌else◌, refl, sym, ap, ◌∙◌}
use Rattle.std.specs.List.{AllByRecursion}
use Rattle.cluster_terms.specs.declared.token.Pair.{Pair}
use Rattle.transformations.specs.Rings.{incoming, outgoing}
use Rattle.transformations.specs.Movements.{at_phase}
use Rattle.transformations.specs.declared.sequence.Phase.{Phase}
use Rattle.transformations.specs.declared.sequence.SeqRow.{SeqRow}

module _ (applied : Phase → Bool) (phase : Phase) (n : ℕ) where
  -- a movement of the node counts in its phase as it does in the other one
  abbrev pub CountsAlike : SeqRow → Type 0
  CountsAlike q = (q.node == n) ≡ true → applied q.phase ≡ applied phase

  abbrev among : List SeqRow → List SeqRow
  among sequences = filter (λ (q : SeqRow). applied q.phase) sequences

  abbrev later : List SeqRow → List SeqRow
  later sequences = map (at_phase phase n) sequences

  module _ (pairs : SeqRow → List Pair) (keeps : (q : SeqRow) → pairs (record q { phase = phase }) ≡ pairs q) where
    counted : (b : Bool) (r q : SeqRow) (sequences : List SeqRow) → pairs r ≡ pairs q → flat_map pairs (among (later sequences)) ≡ flat_map pairs (among sequences)
        → flat_map pairs (cond b (r ∷ among (later sequences)) (among (later sequences))) ≡ flat_map pairs (cond b (q ∷ among sequences) (among sequences))
    counted true r q sequences same rest = λ i. same i ++ rest i
    counted false r q sequences same rest = rest

    -- the movements that count have the same pairs
    flat_at : (sequences : List SeqRow) → AllByRecursion CountsAlike sequences → flat_map pairs (among (later sequences)) ≡ flat_map pairs (among sequences)
    flat_at [] alike = refl
    flat_at (q ∷ sequences) alike = by (q.node == n) refl (flat_at sequences alike.1)
      where
        changed : SeqRow
        changed = record q { phase = phase }

        by : (b : Bool) → (q.node == n) ≡ b → flat_map pairs (among (later sequences)) ≡ flat_map pairs (among sequences)
            → flat_map pairs (among ((let changed : SeqRow = record q { phase = phase } in if b then changed else q) ∷ later sequences)) ≡ flat_map pairs (among (q ∷ sequences))
        by true e rest =
            ap (λ b. flat_map pairs (cond b (changed ∷ among (later sequences)) (among (later sequences)))) (sym (alike.0 e))
            ∙ counted (applied q.phase) changed q sequences (keeps q) rest
        by false e rest = counted (applied q.phase) q q sequences refl rest

  pub outgoing_at : (sequences : List SeqRow) → AllByRecursion CountsAlike sequences → outgoing (among (later sequences)) ≡ outgoing (among sequences)
  outgoing_at sequences alike = flat_at (λ (q : SeqRow). q.out_pairs) (λ q. refl) sequences alike

  pub incoming_at : (sequences : List SeqRow) → AllByRecursion CountsAlike sequences → incoming (among (later sequences)) ≡ incoming (among sequences)
  incoming_at sequences alike = flat_at (λ (q : SeqRow). q.in_pairs) (λ q. refl) sequences alike
