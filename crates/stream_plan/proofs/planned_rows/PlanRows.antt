-- What the rows of a placement map and the deltas of a plan give is the stream plan of the movement.
use Rattle.std.proofs.Common.{◌≡◌, ℕ, Bool, true, false, ◌&&◌, ◌||◌, ◌==◌, cond, if◌then◌else◌, ℤ, List, [], ◌∷◌, ◌++◌, find, flat_map, map, option_map, Option, Some, None, refl, sym, ap, ◌∙◌, subst}
use Rattle.std.proofs.lemmas.Bool.{false≢true, or_left, or_right}
use Rattle.std.proofs.lemmas.List.Elements.{All-contains_itself, recursion_from_All}
use Rattle.std.specs.List.{AllByRecursion, Contains, IsDistinct, list_any}
use Rattle.std.specs.Str.{bytes_eq}
use Rattle.placement_deltas.proofs.ReplicationsLemmas.{any_replications}
use Rattle.placement_maps.specs.Maps.{placement_row, placement_rows}
use Rattle.placement_maps.specs.Served.{keyspace_of}
use Rattle.cluster_terms.proofs.texts.ReplicationLemmas.{same_replication-exact, same_replication-refl}
use Rattle.cluster_terms.specs.Arc.{IsToken}
use Rattle.cluster_terms.specs.Group.{Group, place}
use Rattle.cluster_terms.specs.Replication.{groups_of, same_replication}
use Rattle.cluster_terms.specs.Row.{is_last, last_token, rows_from}
use Rattle.cluster_terms.specs.declared.replication.Replication.{Replication}
use Rattle.cluster_terms.specs.declared.row.TokenRange.{TokenRange}
use Rattle.cluster_terms.specs.declared.token.RightEnd.TheVariants.{At, Max}
use Rattle.placement_deltas.specs.Deltas.{delta_at}
use Rattle.placement_deltas.specs.declared.delta_book.DeltaBookRow.{DeltaBookRow}
use Rattle.placement_deltas.specs.declared.delta_row.DeltaRow.{DeltaRow}
use Rattle.placement_deltas.specs.declared.plan.Plan.{Plan}
use Rattle.range_placements.specs.declared.placement_row.PlacementRow.{PlacementRow}
use Rattle.placement_deltas.specs.ExactDeltas.{IsExact, gained_by, lost_by}
use Rattle.transformations.proofs.deltas.OutsideDeltas.{none_outside}
use Rattle.transformations.proofs.lists.ListLemmas.{all_found}
use Rattle.transformations.proofs.movements.SoleLemmas.{distinct_each}
use Rattle.transformations.proofs.ranges.RangesKept.{apart_at}
use Rattle.transformations.specs.MovementDeltas.{gained_at, lost_at, newcomers, placed_before, placed_with}
use Rattle.transformations.specs.Ranges.{in_ranges}
use Rattle.transformations.specs.Rings.{cuts, is_mid, low_ring, reads_at, replaced}
use Rattle.transformations.specs.Valid.{IsSound, IsValid}
use Rattle.transformations.specs.declared.image.Image.{Image}
use Rattle.transformations.specs.declared.keyspace.KeyspaceRow.{KeyspaceRow}
use Rattle.transformations.specs.declared.sequence.SeqRow.{SeqRow}
use Rattle.stream_plan.proofs.coverage.ReadsBefore.{first_inside}
use Rattle.stream_plan.specs.code.Plans.{IsPlanOf}
use Rattle.stream_plan.specs.code.RowSteps.{placed_first, rows_at, rows_by}
use Rattle.stream_plan.specs.Streams.{rows_in, rows_of_range, stream_rows}
use Rattle.stream_plan.specs.declared.stream_row.StreamRow.{StreamRow}

-- ---- row by row

module _ (image : Image) (r : Replication) (mid : Bool) (delta : List DeltaRow) (of_range : TokenRange → List StreamRow)
    (each : (range : TokenRange) → IsToken (last_token range.right) → rows_at (groups_of image.nodes r) mid delta range.left (placement_row image r range) ≡ of_range range) where
  abbrev gs : List Group
  gs = groups_of image.nodes r

  all_rows : (left : Option ℤ) (cuts : List ℤ) → AllByRecursion (λ (row : PlacementRow). IsToken (last_token row.right)) (map (placement_row image r) (rows_from left cuts))
      → rows_by gs mid delta left (map (placement_row image r) (rows_from left cuts)) ≡ flat_map of_range (rows_from left cuts)
  all_rows left [] tokens = by (is_last left) tokens
    where
      by : (b : Bool) → AllByRecursion (λ (row : PlacementRow). IsToken (last_token row.right)) (map (placement_row image r) (if b then [] else (record { left = left; right = Max }) ∷ []))
          → rows_by gs mid delta left (map (placement_row image r) (if b then [] else (record { left = left; right = Max }) ∷ [])) ≡ flat_map of_range (if b then [] else (record { left = left; right = Max }) ∷ [])
      by true all = refl
      by false all = ap (λ l. l ++ []) (each (record { left = left; right = Max }) all.0)
  all_rows left (cut ∷ cuts) tokens =
      let own = each (record { left = left; right = At cut }) tokens.0 in
      let rest = all_rows (Some cut) cuts tokens.1 in
      λ i. own i ++ rest i

-- ---- one range

-- rows for no node are none
no_node : (gs : List Group) (range : TokenRange) (before other gained lost : List ℕ) → gained ≡ [] → rows_in gs range before gained lost ≡ rows_in gs range other gained lost
no_node gs range before other gained lost none = (λ i. rows_in gs range before (none i) lost) ∙ sym (λ i. rows_in gs range other (none i) lost)

module _ (image : Image) (h : IsSound image) (r : Replication) (s : SeqRow) (there : Contains image.sequences s)
    (apart : (x : ℤ) → IsToken x → IsDistinct (λ q t. in_ranges image r q x && in_ranges image r t x) image.sequences)
    (delta : List DeltaRow) (exact : IsExact (gained_at image r s) (lost_at image r s) delta) where
  range_is : (range : TokenRange) → IsToken (last_token range.right) → rows_at (groups_of image.nodes r) (is_mid s.phase) delta range.left (placement_row image r range) ≡ rows_of_range image r s range
  range_is range token =
      let x : ℤ = last_token range.right in
      let gs : List Group = groups_of image.nodes r in
      let shown = exact x token in
      (λ i. rows_in gs range (placed_first (is_mid s.phase) (reads_at image r x) (shown i).0 (shown i).1) (shown i).0 (shown i).1)
      ∙ by x gs (in_ranges image r s x) refl (apart x token)
    where
      by : (x : ℤ) (gs : List Group) (b : Bool) → in_ranges image r s x ≡ b → IsDistinct (λ q t. in_ranges image r q x && in_ranges image r t x) image.sequences
          → rows_in gs range (placed_first (is_mid s.phase) (reads_at image r x) (gained_at image r s x) (lost_at image r s x)) (gained_at image r s x) (lost_at image r s x)
          ≡ rows_in gs range (placed_before image r x) (gained_at image r s x) (lost_at image r s x)
      by x gs true inside alone = ap (λ ns. rows_in gs range ns (gained_at image r s x) (lost_at image r s x)) (first_inside image h r s x there alone inside)
      by x gs false outside alone =
          no_node gs range (placed_first (is_mid s.phase) (reads_at image r x) (gained_at image r s x) (lost_at image r s x)) (placed_before image r x) (gained_at image r s x) (lost_at image r s x)
          (none_outside image r s x h there outside).0

  pub rows_are : AllByRecursion (λ (row : PlacementRow). IsToken (last_token row.right)) (placement_rows image r) → rows_by (groups_of image.nodes r) (is_mid s.phase) delta None (placement_rows image r) ≡ stream_rows image r s
  rows_are tokens = all_rows image r (is_mid s.phase) delta (rows_of_range image r s) range_is None (cuts image) tokens

-- ---- the delta of a keyspace

same_pairs : (image : Image) (r : Replication) (s q : SeqRow) (x : ℤ) → s.out_pairs ≡ q.out_pairs → s.in_pairs ≡ q.in_pairs → placed_with image r s x ≡ placed_with image r q x
unfolding placed_with
same_pairs image r s q x outs ins = λ i. place (groups_of image.nodes r) x (replaced (low_ring image) (outs i) (ins i))

-- a delta that a book has for a replication, and that is exact
pub record HasDelta (gained lost : Replication → ℤ → List ℕ) (r : Replication) (book : List DeltaBookRow) : Type 0 where
  pub delta : List DeltaRow
  pub is : option_map (λ (row : DeltaBookRow). row.delta) (find (λ row. same_replication row.replication r) book) ≡ Some delta
  pub exact : IsExact (gained r) (lost r) delta

module _ (gained lost : Replication → ℤ → List ℕ) (r : Replication) where
  abbrev IsExactRow : DeltaBookRow → Type 0
  IsExactRow row = IsExact (gained row.replication) (lost row.replication) row.delta

  find_delta : (book : List DeltaBookRow) → AllByRecursion IsExactRow book → list_any (λ (row : DeltaBookRow). same_replication row.replication r) book ≡ true → HasDelta gained lost r book
  find_delta [] all has = absurd (false≢true has)
  find_delta (row ∷ book) all has = by (same_replication row.replication r) refl has (find_delta book all.1)
    where
      by : (b : Bool) → same_replication row.replication r ≡ b → (b || list_any (λ (m : DeltaBookRow). same_replication m.replication r) book) ≡ true
          → (list_any (λ (m : DeltaBookRow). same_replication m.replication r) book ≡ true → HasDelta gained lost r book) → HasDelta gained lost r (row ∷ book)
      by true e has rest = record {
        delta = row.delta;
        is = (λ i. option_map (λ (m : DeltaBookRow). m.delta) (cond (e i) (Some row) (find (λ m. same_replication m.replication r) book)));
        exact = (let same : row.replication ≡ r = same_replication-exact row.replication r e in subst (λ q. IsExact (gained q) (lost q) row.delta) same all.0);
      }
      by false e has rest =
          let found = rest has in record {
            delta = found.delta;
            is = (λ i. option_map (λ (m : DeltaBookRow). m.delta) (cond (e i) (Some row) (find (λ m. same_replication m.replication r) book))) ∙ found.is;
            exact = found.exact;
          }

  any_row : (book : List DeltaBookRow) → list_any (λ (row : DeltaBookRow). same_replication row.replication r) book ≡ list_any (λ q. same_replication q r) (map (λ (row : DeltaBookRow). row.replication) book)
  any_row [] = refl
  any_row (row ∷ book) = ap (λ b. same_replication row.replication r || b) (any_row book)

-- the replication of a keyspace is one of those of the keyspaces
has_own : (name : List ℕ) (ks : List KeyspaceRow) (k : KeyspaceRow) → find (λ row. bytes_eq row.name name) ks ≡ Some k → list_any (λ (q : KeyspaceRow). same_replication q.replication k.replication) ks ≡ true
has_own name [] k found = absurd (cc)
has_own name (q ∷ ks) k found = by (bytes_eq q.name name) found (has_own name ks k)
  where
    by : (b : Bool) → cond b (Some q) (find (λ row. bytes_eq row.name name) ks) ≡ Some k
        → (find (λ row. bytes_eq row.name name) ks ≡ Some k → list_any (λ (p : KeyspaceRow). same_replication p.replication k.replication) ks ≡ true)
        → (same_replication q.replication k.replication || list_any (λ (p : KeyspaceRow). same_replication p.replication k.replication) ks) ≡ true
    by true found rest =
        let same : q ≡ k = cc in
        or_left (same_replication q.replication k.replication) (list_any (λ (p : KeyspaceRow). same_replication p.replication k.replication) ks)
        (ap (λ (p : KeyspaceRow). same_replication q.replication p.replication) (sym same) ∙ same_replication-refl q.replication)
    by false found rest =
        or_right (same_replication q.replication k.replication) (list_any (λ (p : KeyspaceRow). same_replication p.replication k.replication) ks) (rest found)

module _ (image : Image) (s : SeqRow) (plan : Plan) (p : IsPlanOf image s plan) (name : List ℕ) (k : KeyspaceRow) (named : keyspace_of image name ≡ Some k) where
  -- the plan has a delta for the keyspace
  pub delta_of : HasDelta (gained_by image plan.row) (lost_by image plan.row) k.replication plan.swap
  delta_of =
      let swaps = p.deltas.swaps in
      find_delta (gained_by image plan.row) (lost_by image plan.row) k.replication plan.swap swaps.exact
      (any_row (gained_by image plan.row) (lost_by image plan.row) k.replication plan.swap ∙ ap (list_any (λ q. same_replication q k.replication)) swaps.rows
      ∙ any_replications (λ q. same_replication q k.replication) image.keyspaces ∙ has_own name image.keyspaces k named)

  there : Contains image.sequences s
  there =
      all_found (Contains image.sequences) (λ (q : SeqRow). q.node == plan.row.node) image.sequences s p.found
      (recursion_from_All (Contains image.sequences) image.sequences (All-contains_itself image.sequences))

  module _ (h : IsValid image) where
    apart : (x : ℤ) → IsToken x → IsDistinct (λ q t. in_ranges image k.replication q x && in_ranges image k.replication t x) image.sequences
    apart x token =
        all_found (λ (e : KeyspaceRow). IsDistinct (λ q t. in_ranges image e.replication q x && in_ranges image e.replication t x) image.sequences) (λ (e : KeyspaceRow). bytes_eq e.name name) image.keyspaces k named
        (distinct_each (λ q t (e : KeyspaceRow). in_ranges image e.replication q x && in_ranges image e.replication t x) image.sequences image.keyspaces (apart_at image h x token))

    pub plan_rows : (delta : List DeltaRow) → option_map (λ (row : DeltaBookRow). row.delta) (find (λ row. same_replication row.replication k.replication) plan.swap) ≡ Some delta
        → AllByRecursion (λ (row : PlacementRow). IsToken (last_token row.right)) (placement_rows image k.replication)
        → rows_by (groups_of image.nodes k.replication) (is_mid s.phase) delta None (placement_rows image k.replication) ≡ stream_rows image k.replication s
    plan_rows delta is tokens =
        let own = delta_of in
        let both : Some own.delta ≡ Some delta = sym own.is ∙ is in
        let same : own.delta ≡ delta = cc in
        let moved : (x : ℤ) → placed_with image k.replication plan.row x ≡ placed_with image k.replication s x = λ x.
        same_pairs image k.replication plan.row s x (ap (λ (q : SeqRow). q.out_pairs) (sym p.row)) (ap (λ (q : SeqRow). q.in_pairs) (sym p.row)) in
        rows_are image h.sound k.replication s there apart delta
        (λ x token. ap (λ d. delta_at d x) (sym same) ∙ own.exact x token
        ∙ (λ i. (newcomers (moved x i) (placed_before image k.replication x), newcomers (placed_before image k.replication x) (moved x i))))
        tokens
