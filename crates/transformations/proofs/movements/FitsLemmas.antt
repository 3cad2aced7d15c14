-- The pairs of movements go on to fit, where what they rest on stays.
use Rattle.std.proofs.Common.{◌≡◌, ℕ, Bool, true, false, ◌==◌, if◌then◌else◌, List, map, option_and_then, refl, sym, ap, ◌∙◌}
use Rattle.std.specs.List.{AllByRecursion}
use Rattle.cluster_terms.specs.NodeRow.{row_of}
use Rattle.transformations.proofs.movements.ExchangeLemmas.{gone_joined, gone_takes, joined_standing, own_takes}
use Rattle.transformations.proofs.lists.ListLemmas.{all_map, all_weaker}
use Rattle.transformations.proofs.pairs.OwnedLemmas.{joined_as}
use Rattle.transformations.specs.Refusals.{unless_near}
use Rattle.transformations.specs.Movements.{at_phase, owned, takes_part}
use Rattle.transformations.specs.Valid.{Fits, IsMovement, IsOwned, is_standing, stands}
use Rattle.transformations.specs.declared.image.Image.{Image}
use Rattle.transformations.specs.declared.sequence.Kind.{Kind}
use Rattle.transformations.specs.declared.sequence.Kind.TheVariants.{Join, Move, Leave, Replace}
use Rattle.transformations.specs.declared.sequence.Phase.{Phase}
use Rattle.transformations.specs.declared.sequence.SeqRow.{SeqRow}

-- ---- another image

-- the nodes that take part in a movement have the same pairs, and where they stand the same rows
pub record GoesOn (before after : Image) (q : SeqRow) : Type 0 where
  pub pairs : (n : ℕ) → takes_part n q ≡ true → owned before.tokens n ≡ owned after.tokens n
  pub rows : (n : ℕ) → takes_part n q ≡ true → is_standing before.nodes n ≡ true → row_of before.nodes n ≡ row_of after.nodes n

module _ (before after : Image) (q : SeqRow) (same : GoesOn before after q) (owners : IsOwned before) where
  fits_kept : (k : Kind) → is_standing before.nodes q.node ≡ true → Fits k before q → Fits k after q
  fits_kept Join up f = record { out = f.out; some = f.some; few = f.few; own = f.own; bare = sym (joined_as before.tokens after.tokens q.node (same.pairs q.node (own_takes q))) ∙ f.bare }
  fits_kept Move up f = record { out = f.out ∙ same.pairs q.node (own_takes q); one = f.one; new = f.new; own = f.own }
  fits_kept Leave up f = record { out = f.out ∙ same.pairs q.node (own_takes q); some = f.some; in_none = f.in_none }
  fits_kept Replace up f =
      let takes : takes_part f.gone q ≡ true = gone_takes before q f in
      let mine = same.rows q.node (own_takes q) up in
      let theirs = same.rows f.gone takes (joined_standing before f.gone owners (gone_joined before q f)) in
      record {
        gone = f.gone;
        out = f.out ∙ same.pairs f.gone takes;
        some = f.some;
        same = f.same;
        bare = sym (joined_as before.tokens after.tokens q.node (same.pairs q.node (own_takes q))) ∙ f.bare;
        near = sym (λ i. option_and_then (λ left. option_and_then (unless_near left) (mine i)) (theirs i)) ∙ f.near;
      }

  pub movement_kept : IsMovement before q → IsMovement after q
  movement_kept m = record {
    stands = sym (ap stands (same.rows q.node (own_takes q) m.stands)) ∙ m.stands;
    ascending = m.ascending;
    fits = fits_kept q.kind m.stands m.fits;
  }

-- ---- another phase

module _ (image : Image) (epoch : ℕ) (sequences : List SeqRow) (phase : Phase) where
  abbrev later : Image
  later = record image { epoch = epoch; sequences = sequences }

  abbrev changed : SeqRow → SeqRow
  changed s = record s { phase = phase }

  fits_changed : (k : Kind) (s : SeqRow) → Fits k image s → Fits k later (changed s)
  fits_changed Join s f = record { out = f.out; some = f.some; few = f.few; own = f.own; bare = f.bare }
  fits_changed Move s f = record { out = f.out; one = f.one; new = f.new; own = f.own }
  fits_changed Leave s f = record { out = f.out; some = f.some; in_none = f.in_none }
  fits_changed Replace s f = record { gone = f.gone; out = f.out; some = f.some; same = f.same; bare = f.bare; near = f.near }

  movement_phase : (n : ℕ) (s : SeqRow) → IsOwned image → IsMovement image s → IsMovement later (at_phase phase n s)
  movement_phase n s h m = by (s.node == n)
    where
      by : (b : Bool) → IsMovement later (let c : SeqRow = record s { phase = phase } in if b then c else s)
      by true = record { stands = m.stands; ascending = m.ascending; fits = fits_changed s.kind s m.fits }
      by false = movement_kept image later s (record { pairs = λ n takes. refl; rows = λ n takes up. refl }) h m

  pub movements_phase : (n : ℕ) (some : List SeqRow) → IsOwned image → AllByRecursion (IsMovement image) some → AllByRecursion (IsMovement later) (map (at_phase phase n) some)
  movements_phase n some h all = all_map (IsMovement later) (at_phase phase n) some (all_weaker (IsMovement image) (λ s. IsMovement later (at_phase phase n s)) (λ s. movement_phase n s h) some all)
