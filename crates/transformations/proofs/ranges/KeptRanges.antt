-- Images in which a movement has the same ranges.
use Rattle.std.proofs.Common.{◌≡◌, Bool, true, false, not, ◌&&◌, ◌||◌, ◌==◌, ℤ, List, [], ◌∷◌, ◌++◌, Option, Some, None, is_some, refl, sym, ap, ◌∙◌}
use Rattle.std.proofs.lemmas.Bool.{false≢true}
use Rattle.std.specs.List.{AllByRecursion, list_any}
use Rattle.std.specs.Option.{IfSome}
use Rattle.cluster_terms.proofs.reach.ReachKept.{IsNarrowed, reached-kept}
use Rattle.cluster_terms.specs.Arc.{IsToken}
use Rattle.cluster_terms.specs.Pair.{has_pair}
use Rattle.cluster_terms.specs.Reach.{is_reached}
use Rattle.cluster_terms.specs.Replication.{groups_of}
use Rattle.cluster_terms.specs.declared.replication.Replication.{Replication}
use Rattle.cluster_terms.specs.declared.token.Pair.{Pair}
use Rattle.transformations.proofs.ranges.MovementsApart.{both_at}
use Rattle.transformations.proofs.lists.ListLemmas.{all_both, all_each, all_false, all_found, all_weaker, found_passes}
use Rattle.transformations.proofs.movements.MovesOn.{MoveAlike, MoveOn}
use Rattle.transformations.specs.MovementDeltas.{MovesSame}
use Rattle.transformations.specs.Ranges.{KeepsAt, KeepsRanges, in_both, in_ranges, moved_by}
use Rattle.transformations.specs.Rings.{fixed_ring, widest}
use Rattle.transformations.specs.Movements.{movement_of}
use Rattle.transformations.specs.declared.image.Image.{Image}
use Rattle.transformations.specs.declared.keyspace.KeyspaceRow.{KeyspaceRow}
use Rattle.transformations.specs.declared.sequence.SeqRow.{SeqRow}

-- under each keyspace a movement has x in its ranges before and after, or in neither
abbrev pub IsKept : Image → Image → ℤ → SeqRow → Type 0
IsKept before after x s = AllByRecursion (λ k. in_ranges before k.replication s x ≡ in_ranges after k.replication s x) before.keyspaces

-- ---- one movement

module _ (before after : Image) (replication : Replication) (x : ℤ) where
  -- the ranges depend on the nodes, on the fixed and the widest pairs, and on what moves
  pub ranges_alike : (s q : SeqRow) → before.nodes ≡ after.nodes → fixed_ring before ≡ fixed_ring after → widest before ≡ widest after → moved_by s ≡ moved_by q
      → in_ranges before replication s x ≡ in_ranges after replication q x
  unfolding in_ranges
  ranges_alike s q nodes fixed all moved = λ i. is_reached (groups_of (nodes i) replication) (fixed i) (all i) (moved i) x

  -- once a movement is done or given up, the others keep what it doesn't reach
  ranges_narrowed : (s q : SeqRow) → groups_of before.nodes replication ≡ groups_of after.nodes replication → IsNarrowed (moved_by s) (fixed_ring before) (widest before) (fixed_ring after) (widest after)
      → (in_ranges before replication s x && in_ranges before replication q x) ≡ false → in_ranges before replication q x ≡ in_ranges after replication q x
  unfolding in_ranges
  ranges_narrowed s q groups narrowed apart =
      reached-kept (groups_of before.nodes replication) (fixed_ring before) (widest before) (fixed_ring after) (widest after) (moved_by s) (moved_by q) x narrowed apart
      ∙ ap (λ gs. is_reached gs (fixed_ring after) (widest after) (moved_by q) x) groups

pub kept_narrowed : (before after : Image) (x : ℤ) (s q : SeqRow) → ((r : Replication) → groups_of before.nodes r ≡ groups_of after.nodes r) → IsNarrowed (moved_by s) (fixed_ring before) (widest before) (fixed_ring after) (widest after)
    → in_both before s q x ≡ false → IsKept before after x q
kept_narrowed before after x s q groups narrowed apart =
    all_weaker (λ (k : KeyspaceRow). (in_ranges before k.replication s x && in_ranges before k.replication q x) ≡ false) (λ (k : KeyspaceRow). in_ranges before k.replication q x ≡ in_ranges after k.replication q x)
    (λ k none. ranges_narrowed before after k.replication x s q (groups k.replication) narrowed none) before.keyspaces
    (all_false (λ (k : KeyspaceRow). in_ranges before k.replication s x && in_ranges before k.replication q x) before.keyspaces apart)

-- ---- one movement less

-- of each pair: whether it is in the ring, whether the movement takes it out or puts it in, and whether others do
module _ (mine fixed widest fixed' widest' : List Pair) (t o i out in' : Pair → Bool)
    (f : (p : Pair) → has_pair fixed p ≡ (t p && not (o p || out p)))
    (w : (p : Pair) → has_pair widest p ≡ (t p || (i p || in' p)))
    (m : (p : Pair) → has_pair mine p ≡ (o p || i p)) where
  -- it is given up
  pub narrowed_without : ((p : Pair) → has_pair fixed' p ≡ (t p && not (out p))) → ((p : Pair) → has_pair widest' p ≡ (t p || in' p)) → IsNarrowed mine fixed widest fixed' widest'
  narrowed_without f' w' = record {
    grows = λ p there. f' p ∙ grows (t p) (o p) (out p) (sym (f p) ∙ there);
    inner = λ p there. w' p ∙ inner (t p) (out p) (in' p) (sym (f' p) ∙ there);
    shrinks = λ p there. w p ∙ shrinks (t p) (i p) (in' p) (sym (w' p) ∙ there);
    mine_in = λ p there. (λ k. f p k || m p k) ∙ mine_in (t p) (o p) (i p) (out p) (sym (f' p) ∙ there);
    mine_out = λ p there. (λ k. w' p k || m p k) ∙ mine_out (t p) (o p) (i p) (in' p) (sym (w p) ∙ there);
  }
    where
      grows : (t o out : Bool) → (t && not (o || out)) ≡ true → (t && not out) ≡ true
      grows true true out h = absurd (false≢true h)
      grows true false out h = h
      grows false o out h = h

      inner : (t out in' : Bool) → (t && not out) ≡ true → (t || in') ≡ true
      inner true out in' h = refl
      inner false out in' h = absurd (false≢true h)

      shrinks : (t i in' : Bool) → (t || in') ≡ true → (t || (i || in')) ≡ true
      shrinks true i in' h = refl
      shrinks false true in' h = refl
      shrinks false false in' h = h

      mine_in : (t o i out : Bool) → (t && not out) ≡ true → ((t && not (o || out)) || (o || i)) ≡ true
      mine_in true true i out h = refl
      mine_in true false i true h = absurd (false≢true h)
      mine_in true false i false h = refl
      mine_in false o i out h = absurd (false≢true h)

      mine_out : (t o i in' : Bool) → (t || (i || in')) ≡ true → ((t || in') || (o || i)) ≡ true
      mine_out true o i in' h = refl
      mine_out false true i true h = refl
      mine_out false false i true h = refl
      mine_out false true i false h = refl
      mine_out false false true false h = refl
      mine_out false false false false h = h

  -- it is done
  pub narrowed_done : ((p : Pair) → has_pair fixed' p ≡ ((i p || (t p && not (o p))) && not (out p))) → ((p : Pair) → has_pair widest' p ≡ ((i p || (t p && not (o p))) || in' p)) → IsNarrowed mine fixed widest fixed' widest'
  narrowed_done f' w' = record {
    grows = λ p there. f' p ∙ grows (t p) (o p) (i p) (out p) (sym (f p) ∙ there);
    inner = λ p there. w' p ∙ inner (i p || (t p && not (o p))) (out p) (in' p) (sym (f' p) ∙ there);
    shrinks = λ p there. w p ∙ shrinks (t p) (o p) (i p) (in' p) (sym (w' p) ∙ there);
    mine_in = λ p there. (λ k. f p k || m p k) ∙ mine_in (t p) (o p) (i p) (out p) (sym (f' p) ∙ there);
    mine_out = λ p there. (λ k. w' p k || m p k) ∙ mine_out (t p) (o p) (i p) (in' p) (sym (w p) ∙ there);
  }
    where
      grows : (t o i out : Bool) → (t && not (o || out)) ≡ true → ((i || (t && not o)) && not out) ≡ true
      grows true true i out h = absurd (false≢true h)
      grows true false true out h = h
      grows true false false out h = h
      grows false o i out h = absurd (false≢true h)

      inner : (r out in' : Bool) → (r && not out) ≡ true → (r || in') ≡ true
      inner true out in' h = refl
      inner false out in' h = absurd (false≢true h)

      shrinks : (t o i in' : Bool) → ((i || (t && not o)) || in') ≡ true → (t || (i || in')) ≡ true
      shrinks true o i in' h = refl
      shrinks false o true in' h = refl
      shrinks false o false in' h = h

      mine_in : (t o i out : Bool) → ((i || (t && not o)) && not out) ≡ true → ((t && not (o || out)) || (o || i)) ≡ true
      mine_in true true i out h = refl
      mine_in true false true true h = refl
      mine_in true false false true h = absurd (false≢true h)
      mine_in true false i false h = refl
      mine_in false true i out h = refl
      mine_in false false true out h = refl
      mine_in false false false out h = absurd (false≢true h)

      mine_out : (t o i in' : Bool) → (t || (i || in')) ≡ true → (((i || (t && not o)) || in') || (o || i)) ≡ true
      mine_out t o true in' h = refl
      mine_out true false false in' h = refl
      mine_out true true false true h = refl
      mine_out true true false false h = refl
      mine_out false o false true h = refl
      mine_out false true false false h = refl
      mine_out false false false false h = h

-- ---- two movements

-- tests that agree at each item are passed by the same lists
pub any_alike : {X : Type 0} (f g : X → Bool) (xs : List X) → AllByRecursion (λ x. f x ≡ g x) xs → list_any f xs ≡ list_any g xs
any_alike f g [] all = refl
any_alike f g (x ∷ xs) all = λ i. all.0 i || any_alike f g xs all.1 i

-- two movements that keep their ranges are in both as before
pub both_kept : (before after : Image) (x : ℤ) → before.keyspaces ≡ after.keyspaces → (s q : SeqRow) → IsKept before after x s → IsKept before after x q → both_at before x s q ≡ both_at after x s q
both_kept before after x same s q one other =
    any_alike (λ (k : KeyspaceRow). in_ranges before k.replication s x && in_ranges before k.replication q x) (λ (k : KeyspaceRow). in_ranges after k.replication s x && in_ranges after k.replication q x) before.keyspaces
    (all_both (λ (k : KeyspaceRow). in_ranges before k.replication s x ≡ in_ranges after k.replication s x) (λ (k : KeyspaceRow). in_ranges before k.replication q x ≡ in_ranges after k.replication q x)
    (λ (k : KeyspaceRow). (in_ranges before k.replication s x && in_ranges before k.replication q x) ≡ (in_ranges after k.replication s x && in_ranges after k.replication q x))
    (λ k e f. λ i. e i && f i) before.keyspaces one other)
    ∙ ap (λ keyspaces. list_any (λ (k : KeyspaceRow). in_ranges after k.replication s x && in_ranges after k.replication q x) keyspaces) same

-- ---- all movements

-- what holds of the items of two lists, taken by those of the second
pub all_turned : {X Y : Type 0} (P : Y → X → Type 0) (xs : List X) (ys : List Y) → AllByRecursion (λ x. AllByRecursion (λ y. P y x) ys) xs → AllByRecursion (λ y. AllByRecursion (P y) xs) ys
all_turned P xs [] all = tt
all_turned P xs (y ∷ ys) all = (
  all_weaker (λ x. P y x × AllByRecursion (λ z. P z x) ys) (P y) (λ x each. each.0) xs all,
  all_turned P xs ys (all_weaker (λ x. P y x × AllByRecursion (λ z. P z x) ys) (λ x. AllByRecursion (λ z. P z x) ys) (λ x each. each.1) xs all),
)

module _ (before after : Image) (on : MoveOn before.sequences after.sequences) where
  -- the ranges of a movement are those of the one of its node after
  kept_at : (x : ℤ) (s : SeqRow) → AllByRecursion (MoveAlike s) after.sequences → (is_some (movement_of after s.node) ≡ true → IsKept before after x s)
      → AllByRecursion (λ k. KeepsAt before after x k.replication s) before.keyspaces
  kept_at x s alike kept = by (movement_of after s.node) refl
    where
      by : (o : Option SeqRow) → movement_of after s.node ≡ o → AllByRecursion (λ (k : KeyspaceRow). IfSome o (λ q. in_ranges before k.replication s x ≡ in_ranges after k.replication q x)) before.keyspaces
      by None found = all_each (λ (k : KeyspaceRow). Unit {0}) (λ k. tt) before.keyspaces
      by (Some q) found =
          let same : MovesSame s q = all_found (MoveAlike s) (λ (r : SeqRow). r.node == s.node) after.sequences q found alike (found_passes (λ (r : SeqRow). r.node == s.node) after.sequences q found) in
          let moved : moved_by q ≡ moved_by s = λ i. same.outs i ++ same.ins i in
          all_weaker (λ (k : KeyspaceRow). in_ranges before k.replication s x ≡ in_ranges after k.replication s x) (λ (k : KeyspaceRow). in_ranges before k.replication s x ≡ in_ranges after k.replication q x)
          (λ k same. same ∙ ranges_alike after after k.replication x s q refl refl refl (sym moved)) before.keyspaces (kept (ap is_some found))

  -- each movement that goes on is kept
  pub keeps : ((x : ℤ) → IsToken x → AllByRecursion (λ s. is_some (movement_of after s.node) ≡ true → IsKept before after x s) before.sequences) → KeepsRanges before after
  keeps each = λ x token.
      all_turned (λ (k : KeyspaceRow) (s : SeqRow). KeepsAt before after x k.replication s) before.sequences before.keyspaces
      (all_both (λ (s : SeqRow). AllByRecursion (MoveAlike s) after.sequences) (λ (s : SeqRow). is_some (movement_of after s.node) ≡ true → IsKept before after x s) (λ (s : SeqRow). AllByRecursion (λ k. KeepsAt before after x k.replication s) before.keyspaces)
      (kept_at x) before.sequences on (each x token))

  pub keeps_all : ((x : ℤ) → IsToken x → AllByRecursion (IsKept before after x) before.sequences) → KeepsRanges before after
  keeps_all each =
      keeps (λ x token. all_weaker (IsKept before after x) (λ (s : SeqRow). is_some (movement_of after s.node) ≡ true → IsKept before after x s) (λ s kept on. kept) before.sequences (each x token))
