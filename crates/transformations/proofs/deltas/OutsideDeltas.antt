-- A movement gains and loses nothing at tokens outside its ranges.
use Rattle.std.proofs.Common.{◌≡◌, ℕ, Bool, true, false, true≢false, not, ◌&&◌, ◌==◌, nat_eq, ℤ, List, [], find, Some, refl, sym, ap, ◌∙◌}
use Rattle.std.specs.Cmp.{nat_eq_equiv}
use Rattle.std.specs.List.{AllByRecursion, Contains}
use Rattle.std.specs.Set.{is_member}
use Rattle.cluster_terms.proofs.placement.PlacedByReach.{place-same}
use Rattle.cluster_terms.specs.Replication.{groups_of}
use Rattle.cluster_terms.specs.declared.replication.Replication.{Replication}
use Rattle.transformations.proofs.lists.ListLemmas.{all_members, all_weaker, filter_none}
use Rattle.transformations.proofs.movements.SoleLemmas.{found_own, only_own}
use Rattle.transformations.proofs.quorums.ServedLemmas.{replaced_own}
use Rattle.transformations.proofs.ranges.OutcomeLemmas.{are_outcomes, placed_by_ranges}
use Rattle.transformations.specs.MovementDeltas.{gained_at, lost_at, newcomers, placed_before, placed_with}
use Rattle.transformations.specs.Ranges.{AgreeAt, in_ranges, outcome_ring, placed_after}
use Rattle.transformations.specs.Rings.{low_ring, replaced}
use Rattle.transformations.specs.Valid.{IsSound}
use Rattle.transformations.specs.declared.image.Image.{Image}
use Rattle.transformations.specs.declared.sequence.SeqRow.{SeqRow}

-- ---- the same nodes before and after

pub newcomers_none : (after before : List ℕ) → after ≡ before → newcomers after before ≡ []
newcomers_none after before same =
    let gone : ℕ → Bool = λ n. not (is_member nat_eq before n) in
    ap (λ l. newcomers l before) same
    ∙ filter_none gone before (all_members nat_eq nat_eq_equiv.refl (λ n. gone n ≡ false) before (λ n there. ap not there))

-- ---- outcomes that differ in one movement

-- a movement is that of this node
abbrev pub is_own : SeqRow → SeqRow → Bool
is_own s q = q.node == s.node

module _ (image : Image) (r : Replication) (x : ℤ) (s : SeqRow) (one other : SeqRow → Bool) where
  -- outcomes agree if they differ in the movement at most, and x isn't in its ranges
  pub agree_outside : AllByRecursion (λ q. is_own s q ≡ true → q ≡ s) image.sequences → in_ranges image r s x ≡ false → ((q : SeqRow) → is_own s q ≡ false → one q ≡ other q) → AgreeAt image r x one other
  agree_outside only outside same =
      all_weaker (λ q. is_own s q ≡ true → q ≡ s) (λ q. in_ranges image r q x ≡ true → one q ≡ other q) (λ q is here. by q is here (is_own s q) refl) image.sequences only
    where
      by : (q : SeqRow) → (is_own s q ≡ true → q ≡ s) → in_ranges image r q x ≡ true → (b : Bool) → is_own s q ≡ b → one q ≡ other q
      by q is here false e = same q e
      by q is here true e = absurd (true≢false (sym here ∙ ap (λ t. in_ranges image r t x) (is e) ∙ outside))

  -- and if they agree on the movement, and it is the only one that has x in its ranges
  pub agree_inside : AllByRecursion (λ q. is_own s q ≡ false → (in_ranges image r s x && in_ranges image r q x) ≡ false) image.sequences → in_ranges image r s x ≡ true
      → ((q : SeqRow) → is_own s q ≡ true → one q ≡ other q) → AgreeAt image r x one other
  agree_inside apart inside same =
      all_weaker (λ q. is_own s q ≡ false → (in_ranges image r s x && in_ranges image r q x) ≡ false) (λ q. in_ranges image r q x ≡ true → one q ≡ other q)
      (λ q away here. by q away here (is_own s q) refl) image.sequences apart
    where
      by : (q : SeqRow) → (is_own s q ≡ false → (in_ranges image r s x && in_ranges image r q x) ≡ false) → in_ranges image r q x ≡ true → (b : Bool) → is_own s q ≡ b → one q ≡ other q
      by q away here true e = same q e
      by q away here false e = absurd (true≢false (sym (λ i. inside i && here i) ∙ away e))

-- ---- the placements before a movement and with it are placements after outcomes

module _ (image : Image) (h : IsSound image) (r : Replication) (x : ℤ) where
  pub before_placed : placed_before image r x ≡ placed_after image r x (λ s. false)
  unfolding placed_before
  before_placed = place-same (groups_of image.nodes r) x (low_ring image) (outcome_ring image (λ s. false)) (are_outcomes image h).low

  module _ (s : SeqRow) (found : find (λ (q : SeqRow). q.node == s.node) image.sequences ≡ Some s) where
    pub with_placed : placed_with image r s x ≡ placed_after image r x (is_own s)
    unfolding placed_with
    with_placed = place-same (groups_of image.nodes r) x (replaced (low_ring image) s.out_pairs s.in_pairs) (outcome_ring image (is_own s)) (replaced_own image r x h s found)

    -- outside its ranges they are the same
    pub same_outside : in_ranges image r s x ≡ false → placed_with image r s x ≡ placed_before image r x
    same_outside outside =
        with_placed
        ∙ placed_by_ranges image h r x (is_own s) (λ q. false)
        (agree_outside image r x s (is_own s) (λ q. false) (only_own s.node image.sequences s h.movements found) outside (λ q other. other))
        ∙ sym before_placed

pub none_outside : (image : Image) (r : Replication) (s : SeqRow) (x : ℤ) → IsSound image → Contains image.sequences s → in_ranges image r s x ≡ false
    → (gained_at image r s x ≡ []) × (lost_at image r s x ≡ [])
none_outside image r s x h there outside =
    let same = same_outside image h r x s (found_own image.sequences s h.movements there) outside in (
      newcomers_none (placed_with image r s x) (placed_before image r x) same,
      newcomers_none (placed_before image r x) (placed_with image r s x) (sym same),
    )
