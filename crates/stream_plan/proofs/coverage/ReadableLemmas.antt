-- A quorum of the placement with a movement reads what a quorum of the placement before it wrote.
use Rattle.std.proofs.Common.{◌≡◌, ℕ, Bool, true, false, not, ◌&&◌, ◌||◌, ◌==◌, cond, if◌then◌else◌, ℤ, List, [], ◌∷◌, filter, find, length, map, Option, Some, None, refl, sym, ap, ◌∙◌, subst, arith}
use Rattle.std.proofs.lemmas.Bool.{false≢true, not-true, or_left, or_right}
use Rattle.std.specs.List.{AllByRecursion, Contains, list_any}
use Rattle.std.specs.Str.{bytes_eq}
use Rattle.cluster_terms.proofs.placement.GroupLemmas.{has, or_elim}
use Rattle.cluster_terms.proofs.placement.PlacedByReach.{place-same}
use Rattle.cluster_terms.proofs.placement.PlacementCounts.{IsRing, place_ascends}
use Rattle.cluster_terms.proofs.quorums.QuorumLemmas.{Ascend}
use Rattle.cluster_terms.specs.Group.{Group, place}
use Rattle.cluster_terms.specs.Arc.{IsToken}
use Rattle.cluster_terms.specs.Quorum.{AreSome, quorum_of, within}
use Rattle.placement_maps.specs.Served.{keyspace_of}
use Rattle.cluster_terms.specs.Replication.{IsReplication, datacenter_group, groups_of, total_of}
use Rattle.cluster_terms.specs.declared.replication.Replication.{Replication}
use Rattle.cluster_terms.specs.declared.replication.Replication.TheVariants.{Simple, Topology}
use Rattle.cluster_terms.specs.declared.token.Pair.{Pair}
use Rattle.transformations.proofs.lists.ListLemmas.{all_both, all_found, all_from_map, all_weaker}
use Rattle.transformations.proofs.movements.DoneLemmas.{owned_after}
use Rattle.transformations.proofs.movements.ExchangeLemmas.{IsExchange, exchange}
use Rattle.transformations.proofs.movements.SoleLemmas.{found_own}
use Rattle.transformations.proofs.quorums.ServedLemmas.{replaced_own, ring_own}
use Rattle.transformations.specs.MovementDeltas.{gained_at, lost_at, placed_before, placed_with}
use Rattle.transformations.specs.Meeting.{HaveReplications, datacenters_of}
use Rattle.transformations.specs.Rings.{low_ring, replaced}
use Rattle.transformations.specs.Movements.{ring_after}
use Rattle.transformations.specs.Valid.{IsMovement, IsSound}
use Rattle.transformations.specs.declared.image.Image.{Image}
use Rattle.transformations.specs.declared.keyspace.KeyspaceRow.{KeyspaceRow}
use Rattle.transformations.specs.declared.sequence.SeqRow.{SeqRow}
use Rattle.stream_plan.proofs.pairing.GroupSources.{groups_disjoint, groups_few, groups_sum, placed_in_any}
use Rattle.stream_plan.proofs.pairing.SourceLemmas.{AreDisjoint, AreFew, IsOwnIn, any_source, in_any, local_reached, any_gained, any_weaker, has_new, own_sources, quorum_reached, sources_differ, was_lost}
use Rattle.stream_plan.proofs.planned_rows.OneRowLemmas.{TellsSource, gains_covered, rows_tell}
use Rattle.stream_plan.specs.Readable.{AreReached, AreSources, KeepReadable, streams_strictly}
use Rattle.stream_plan.specs.Sources.{from_source, is_strictly_from, source_at, strict_source}
use Rattle.stream_plan.specs.Streams.{is_for, stream_rows}
use Rattle.stream_plan.specs.declared.stream_row.StreamRow.{StreamRow}
use Rattle.stream_plan.specs.declared.stream_row.StreamFrom.TheVariants.{Strict}

-- the placements before a movement and with it, each by a ring whose tokens ascend
pub record ArePlaced (image : Image) (r : Replication) (s : SeqRow) (x : ℤ) : Type 0 where
  pub low : List Pair
  pub high : List Pair
  pub low_ring : IsRing low
  pub high_ring : IsRing high
  pub before : placed_before image r x ≡ place (groups_of image.nodes r) x low
  pub with : placed_with image r s x ≡ place (groups_of image.nodes r) x high

are_placed : (image : Image) (r : Replication) (s : SeqRow) (x : ℤ) → IsSound image → find (λ (q : SeqRow). q.node == s.node) image.sequences ≡ Some s → ArePlaced image r s x
unfolding placed_before placed_with
are_placed image r s x h found =
    let fits : IsMovement image s = all_found (IsMovement image) (λ (q : SeqRow). q.node == s.node) image.sequences s found h.fitting in
    let swaps : IsExchange image s = exchange image s h.ring fits in
    record {
      low = image.tokens;
      high = ring_after image.tokens s;
      low_ring = h.ring.ascending;
      high_ring = (owned_after image s h fits swaps found).ascending;
      before = refl;
      with = place-same (groups_of image.nodes r) x (replaced (low_ring image) s.out_pairs s.in_pairs) (ring_after image.tokens s)
          (λ p. replaced_own image r x h s found p ∙ sym (ring_own image r x h s found p));
    }

-- whether a node is among these nodes, or streams strictly at a token from one of them
abbrev pub has_from : Image → Replication → SeqRow → ℤ → List ℕ → ℕ → Bool
has_from image r s x taken n = has taken n || is_strictly_from taken (source_at image r s x n)

-- of any `need` nodes placed before and any `need` nodes placed with the movement, one of the latter has its data from one
-- of the former
abbrev pub AreSourced : Image → Replication → SeqRow → ℤ → ℕ → List ℕ → List ℕ → Type 0
AreSourced image r s x need before after = (taken asked : List ℕ) → AreSome need before taken → AreSome need after asked → list_any (has_from image r s x taken) asked ≡ true

module _ (image : Image) (r : Replication) (s : SeqRow) (x : ℤ) (p : ArePlaced image r s x) where
  old_ascends : Ascend (placed_before image r x)
  old_ascends = subst Ascend (sym p.before) (place_ascends (groups_of image.nodes r) x p.low)

  new_ascends : Ascend (placed_with image r s x)
  new_ascends = subst Ascend (sym p.with) (place_ascends (groups_of image.nodes r) x p.high)

module _ (image : Image) (r : Replication) (s : SeqRow) (x : ℤ) (p : ArePlaced image r s x) (valid : IsReplication r) where
  abbrev gs : List Group
  gs = groups_of image.nodes r

  abbrev before : List ℕ
  before = placed_before image r x

  abbrev after : List ℕ
  after = placed_with image r s x

  before_ascends : Ascend before
  before_ascends = old_ascends image r s x p

  after_ascends : Ascend after
  after_ascends = new_ascends image r s x p

  disjoint : AreDisjoint gs
  disjoint = groups_disjoint image.nodes r valid

  few : AllByRecursion (AreFew before after) gs
  few =
      subst (λ ns. AllByRecursion (AreFew before ns) gs) (sym p.with)
      (subst (λ ns. AllByRecursion (AreFew ns (place gs x p.high)) gs) (sym p.before) (groups_few image.nodes x p.low p.high p.low_ring p.high_ring r valid))

  before_in : (n : ℕ) → has before n ≡ true → in_any gs n ≡ true
  before_in n there = placed_in_any gs x p.low n (ap (λ ns. has ns n) (sym p.before) ∙ there)

  after_in : (n : ℕ) → has after n ≡ true → in_any gs n ≡ true
  after_in n there = placed_in_any gs x p.high n (ap (λ ns. has ns n) (sym p.with) ∙ there)

  all_reached : AreSourced image r s x (quorum_of (total_of r)) before after
  all_reached = λ taken asked one other.
      quorum_reached before after before_ascends after_ascends gs disjoint (total_of r) few (groups_sum image.nodes r) before_in after_in taken asked one other

  -- ---- strict sources

  strict : (n source : ℕ) → source_at image r s x n ≡ Strict source → strict_source gs (gained_at image r s x) (lost_at image r s x) n ≡ Some source
  strict n source is = by (strict_source gs (gained_at image r s x) (lost_at image r s x) n) is
    where
      by : (o : Option ℕ) → from_source before o ≡ Strict source → o ≡ Some source
      by None is = absurd (cc)
      by (Some other) is = cc

  leaving : (n source : ℕ) → source_at image r s x n ≡ Strict source → (has before source ≡ true) × (not (has after source) ≡ true)
  leaving n source is =
      was_lost before after before_ascends after_ascends source (any_source before after before_ascends after_ascends gs n source (strict n source is)).0

  sources : AreSources image r s x
  sources = record {
    before = λ n source is. (leaving n source is).0;
    gone = λ n source is. not-true (has after source) (leaving n source is).1;
    once = λ n m source is other. sources_differ before after before_ascends after_ascends gs disjoint n m source (strict n source is) (strict m source other);
  }

-- in each datacenter
local : (image : Image) (r : Replication) (s : SeqRow) (x : ℤ) → ArePlaced image r s x → IsReplication r
    → AllByRecursion (λ f. AreSourced image r s x (quorum_of f.1) (within image.nodes f.0 (placed_before image r x)) (within image.nodes f.0 (placed_with image r s x))) (datacenters_of r)
local image (Simple rf) s x p valid = tt
local image (Topology factors) s x p valid =
    let r : Replication = Topology factors in
    let before : List ℕ = placed_before image r x in
    let after : List ℕ = placed_with image r s x in
    let gs : List Group = map (datacenter_group image.nodes) factors in
    let low : Ascend before = before_ascends image r s x p valid in
    let high : Ascend after = after_ascends image r s x p valid in
    let apart : AreDisjoint gs = disjoint image r s x p valid in
    all_both (λ f. AreFew before after (datacenter_group image.nodes f)) (λ f. IsOwnIn before after low high gs (datacenter_group image.nodes f))
    (λ f. AreSourced image r s x (quorum_of f.1) (within image.nodes f.0 before) (within image.nodes f.0 after))
    (λ f fits own taken asked one other. local_reached before after low high gs apart (datacenter_group image.nodes f) (λ n within. (own n within).1) fits taken asked one other)
    factors
    (all_from_map (AreFew before after) (datacenter_group image.nodes) factors (few image r s x p valid))
    (all_from_map (IsOwnIn before after low high gs) (datacenter_group image.nodes) factors (own_sources before after low high gs apart))

-- ---- by rows

-- a row passes a second test if all that pass the first do so, and there is such a row
both_pass : {A : Type 0} (p q : A → Bool) (xs : List A) → AllByRecursion (λ a. p a ≡ true → q a ≡ true) xs → length (filter p xs) ≡ 1 → list_any (λ a. p a && q a) xs ≡ true
both_pass p q [] all one = absurd (omega (arith, one))
both_pass p q (a ∷ xs) all one = by (p a) refl one (both_pass p q xs all.1)
  where
    by : (b : Bool) → p a ≡ b → length (cond b (a ∷ filter p xs) (filter p xs)) ≡ 1 → (length (filter p xs) ≡ 1 → list_any (λ e. p e && q e) xs ≡ true) → ((b && q a) || list_any (λ e. p e && q e) xs) ≡ true
    by true e one more = or_left (q a) (list_any (λ e. p e && q e) xs) (all.0 e)
    by false e one more = more one

module _ (image : Image) (r : Replication) (s : SeqRow) (x : ℤ) (token : IsToken x) (there : Contains image.sequences s) (p : ArePlaced image r s x) where
  abbrev rows : List StreamRow
  rows = stream_rows image r s

  -- a gained node has a row
  one_row : (n : ℕ) → has (gained_at image r s x) n ≡ true → length (filter (is_for x n) rows) ≡ 1
  one_row n new =
      gains_covered image r s there x n token
      ∙ ap (λ b. if b then 1 else 0) (sym (has_new (placed_with image r s x) (placed_before image r x) n) ∙ new)

  -- a strict source stands in a row
  strictly_by_row : (taken : List ℕ) (n : ℕ) → is_strictly_from taken (source_at image r s x n) ≡ true → streams_strictly rows x taken n ≡ true
  strictly_by_row taken n from = by (strict_source (groups_of image.nodes r) (gained_at image r s x) (lost_at image r s x) n) refl from
    where
      by : (o : Option ℕ) → strict_source (groups_of image.nodes r) (gained_at image r s x) (lost_at image r s x) n ≡ o
          → is_strictly_from taken (from_source (placed_before image r x) o) ≡ true → streams_strictly rows x taken n ≡ true
      by None e from = absurd (false≢true from)
      by (Some source) e from_it =
          let new = any_gained (placed_before image r x) (placed_with image r s x) (old_ascends image r s x p) (new_ascends image r s x p) (groups_of image.nodes r) n source e in
          both_pass (is_for x n) (λ (row : StreamRow). is_strictly_from taken row.from) rows
          (all_weaker (TellsSource image r s x n) (λ (row : StreamRow). is_for x n row ≡ true → is_strictly_from taken row.from ≡ true)
          (λ row tells here. ap (is_strictly_from taken) (tells here) ∙ from) rows (rows_tell image r s x n there))
          (one_row n new)

  reached : (need : ℕ) (olds news : List ℕ) → AreSourced image r s x need olds news → AreReached rows x need olds news
  reached need olds news sourced = λ taken asked one other.
      any_weaker (has_from image r s x taken) (λ n. has taken n || streams_strictly rows x taken n) asked
      (λ n h. or_elim (has taken n) (is_strictly_from taken (source_at image r s x n)) h
      (λ own. or_left (has taken n) (streams_strictly rows x taken n) own)
      (λ from. or_right (has taken n) (streams_strictly rows x taken n) (strictly_by_row taken n from)))
      (sourced taken asked one other)

-- the rows of a plan keep quorums readable
pub kept_readable : (image : Image) (s : SeqRow) → IsSound image → HaveReplications image → Contains image.sequences s
    → (name : List ℕ) (k : KeyspaceRow) → keyspace_of image name ≡ Some k → KeepReadable image (stream_rows image k.replication s) k.replication s
kept_readable image s h valid there name k named x token =
    let r : Replication = k.replication in
    let is : IsReplication r = all_found (λ (q : KeyspaceRow). IsReplication q.replication) (λ row. bytes_eq row.name name) image.keyspaces k named valid in
    let p : ArePlaced image r s x = are_placed image r s x h (found_own image.sequences s h.movements there) in
    record {
      quorums = reached image r s x token there p (quorum_of (total_of r)) (placed_before image r x) (placed_with image r s x) (all_reached image r s x p is);
      local_quorums = all_weaker (λ f. AreSourced image r s x (quorum_of f.1) (within image.nodes f.0 (placed_before image r x)) (within image.nodes f.0 (placed_with image r s x)))
          (λ f. AreReached (stream_rows image r s) x (quorum_of f.1) (within image.nodes f.0 (placed_before image r x)) (within image.nodes f.0 (placed_with image r s x)))
          (λ f. reached image r s x token there p (quorum_of f.1) (within image.nodes f.0 (placed_before image r x)) (within image.nodes f.0 (placed_with image r s x)))
          (datacenters_of r) (local image r s x p is);
    }

pub are_sources : (image : Image) (s : SeqRow) (x : ℤ) → IsSound image → HaveReplications image → Contains image.sequences s
    → AllByRecursion (λ k. AreSources image k.replication s x) image.keyspaces
are_sources image s x h valid there =
    all_weaker (λ (k : KeyspaceRow). IsReplication k.replication) (λ (k : KeyspaceRow). AreSources image k.replication s x)
    (λ k is. sources image k.replication s x (are_placed image k.replication s x h (found_own image.sequences s h.movements there)) is)
    image.keyspaces valid
