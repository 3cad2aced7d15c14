-- Books of deltas: a replication more, and an image in which a movement gains and loses the same.
use Rattle.std.proofs.Common.{◌≡◌, ℕ, ◌+◌, ◌<◌, ℤ, not, List, [], ◌∷◌, ◌++◌, get_or, length, map, take, refl, sym, ap, ◌∙◌, subst}
use Rattle.std.proofs.lemmas.List.{map-append, take_more}
use Rattle.std.proofs.lemmas.List.Elements.{All-contains_itself, recursion_from_All}
use Rattle.std.specs.List.{AllByRecursion, Contains}
use Rattle.cluster_terms.specs.Arc.{IsToken}
use Rattle.cluster_terms.specs.Ascending.{put}
use Rattle.cluster_terms.specs.Replication.{same_replication}
use Rattle.cluster_terms.specs.declared.replication.Replication.{Replication}
use Rattle.placement_deltas.specs.declared.delta_book.DeltaBookRow.{DeltaBookRow}
use Rattle.placement_deltas.specs.declared.delta_row.DeltaRow.{DeltaRow}
use Rattle.token_ring.specs.declared.range_book.RangeRow.{RangeRow}
use Rattle.transformations.proofs.lists.ListLemmas.{all_both, all_from_map, all_pi, all_weaker, part_all_of, part_filter}
use Rattle.transformations.specs.MovementDeltas.{SameDeltas}
use Rattle.transformations.specs.Orders.{by_node}
use Rattle.transformations.specs.declared.image.Image.{Image}
use Rattle.transformations.specs.declared.keyspace.KeyspaceRow.{KeyspaceRow}
use Rattle.transformations.specs.declared.sequence.SeqRow.{SeqRow}
use Rattle.sequence_plans.proofs.BookLemmas.{own_put}
use Rattle.sequence_plans.specs.code.DeltaParts.{AreExact}
use Rattle.placement_deltas.specs.ExactDeltas.{AreDeltas, IsExact, gained_by, lost_by, no_nodes}
use Rattle.sequence_plans.specs.PlanDeltas.{AreStepDeltas}
use Rattle.placement_deltas.specs.Replications.{replications_of}
use Rattle.sequence_plans.specs.declared.plan_deltas.Deltas.{Deltas}

-- a movement is among those that it is put among
pub own_contained : (s : SeqRow) (sequences : List SeqRow) → Contains (put by_node s sequences) s
own_contained s sequences =
    let all : List SeqRow = put by_node s sequences in
    own_put (Contains all) s sequences (recursion_from_All (Contains all) all (All-contains_itself all))

-- ---- a replication more

all_append : {X : Type 0} (P : X → Type 0) (xs : List X) (x : X) → AllByRecursion P xs → P x → AllByRecursion P (xs ++ x ∷ [])
all_append P [] x all p = (p, tt)
all_append P (y ∷ xs) x all p = (all.0, all_append P xs x all.1 p)

module _ (replications : List Replication) (r : Replication) where
  deltas_more : (gained lost : Replication → ℤ → List ℕ) (book : List DeltaBookRow) (delta : List DeltaRow) → AreDeltas replications gained lost book → IsExact (gained r) (lost r) delta
      → AreDeltas (replications ++ r ∷ []) gained lost (book ++ (record { replication = r; delta = delta }) ∷ [])
  deltas_more gained lost book delta are exact = record {
    rows = map-append (λ (row : DeltaBookRow). row.replication) book ((record { replication = r; delta = delta }) ∷ []) ∙ ap (λ l. l ++ r ∷ []) are.rows;
    exact = all_append (λ row. IsExact (gained row.replication) (lost row.replication) row.delta) book (record { replication = r; delta = delta }) are.exact exact;
  }

  -- the deltas of one replication more are added to each of the three books
  pub steps_more : (image : Image) (s : SeqRow) (gain swap lose : List DeltaBookRow) (deltas : Deltas) (next : List Replication) (gain' swap' lose' : List DeltaBookRow)
      → AreStepDeltas image s replications gain swap lose → AreExact image s r deltas → next ≡ replications ++ r ∷ [] → gain' ≡ gain ++ (record { replication = r; delta = deltas.gain }) ∷ []
      → swap' ≡ swap ++ (record { replication = r; delta = deltas.swap }) ∷ [] → lose' ≡ lose ++ (record { replication = r; delta = deltas.lose }) ∷ []
      → AreStepDeltas image s next gain' swap' lose'
  steps_more image s gain swap lose deltas next gain' swap' lose' are exact more gains swaps loses = record {
    gains = subst (λ (p : List Replication × List DeltaBookRow). AreDeltas p.0 (gained_by image s) no_nodes p.1) (λ i. (sym more i, sym gains i)) (deltas_more (gained_by image s) no_nodes gain deltas.gain are.gains exact.gain);
    swaps = subst (λ (p : List Replication × List DeltaBookRow). AreDeltas p.0 (gained_by image s) (lost_by image s) p.1) (λ i. (sym more i, sym swaps i)) (deltas_more (gained_by image s) (lost_by image s) swap deltas.swap are.swaps exact.swap);
    loses = subst (λ (p : List Replication × List DeltaBookRow). AreDeltas p.0 no_nodes (lost_by image s) p.1) (λ i. (sym more i, sym loses i)) (deltas_more no_nodes (lost_by image s) lose deltas.lose are.loses exact.lose);
  }

-- the replications of the rows so far, with that of the next
pub replications_more : (rows : List RangeRow) (i : ℕ) (row : RangeRow) → i < length rows → row ≡ get_or rows i row
    → map (λ (r : RangeRow). r.replication) (take (i + 1) rows) ≡ map (λ (r : RangeRow). r.replication) (take i rows) ++ row.replication ∷ []
replications_more rows i row within is =
    ap (map (λ (r : RangeRow). r.replication)) (take_more rows i row within ∙ ap (λ (r : RangeRow). take i rows ++ r ∷ []) (sym is))
    ∙ map-append (λ (r : RangeRow). r.replication) (take i rows) (row ∷ [])

-- ---- another image

-- what holds of the replication of each keyspace holds of each replication
all_replications : (P : Replication → Type 0) (keyspaces : List KeyspaceRow) → AllByRecursion (λ k. P k.replication) keyspaces → AllByRecursion P (replications_of keyspaces)
all_replications P [] all = tt
all_replications P (k ∷ ks) all = (all.0, part_all_of P (part_filter (λ r. not (same_replication k.replication r)) (replications_of ks)) (all_replications P ks all.1))

-- under a replication the nodes at each token are the same
abbrev AreSame : (one other : Replication → ℤ → List ℕ) → Replication → Type 0
AreSame one other r = (x : ℤ) → IsToken x → one r x ≡ other r x

deltas_like : (replications : List Replication) (gained lost gained' lost' : Replication → ℤ → List ℕ) (book : List DeltaBookRow) → AllByRecursion (AreSame gained gained') replications
    → AllByRecursion (AreSame lost lost') replications → AreDeltas replications gained lost book → AreDeltas replications gained' lost' book
deltas_like replications gained lost gained' lost' book same_gained same_lost are = record {
  rows = are.rows;
  exact =
      all_both (λ row. IsExact (gained row.replication) (lost row.replication) row.delta) (λ row. AreSame gained gained' row.replication × AreSame lost lost' row.replication)
      (λ row. IsExact (gained' row.replication) (lost' row.replication) row.delta)
      (λ row exact same x token. exact x token ∙ (λ i. (same.0 x token i, same.1 x token i))) book are.exact
      (all_both (λ (row : DeltaBookRow). AreSame gained gained' row.replication) (λ (row : DeltaBookRow). AreSame lost lost' row.replication) (λ row. AreSame gained gained' row.replication × AreSame lost lost' row.replication)
      (λ row g l. (g, l)) book (of_rows (AreSame gained gained') same_gained) (of_rows (AreSame lost lost') same_lost));
}
  where
    of_rows : (P : Replication → Type 0) → AllByRecursion P replications → AllByRecursion (λ (row : DeltaBookRow). P row.replication) book
    of_rows P all = all_from_map P (λ (row : DeltaBookRow). row.replication) book (subst (AllByRecursion P) (sym are.rows) all)

-- what holds of each item at each token holds at each token of each item
pub at_each_token : {X : Type 0} (P : ℤ → X → Type 0) (xs : List X) → ((x : ℤ) → IsToken x → AllByRecursion (P x) xs) → AllByRecursion (λ k. (x : ℤ) → IsToken x → P x k) xs
at_each_token P xs all = all_pi (λ x k. IsToken x → P x k) xs (λ x. all_pi (λ (token : IsToken x) k. P x k) xs (all x))

-- a movement before and one after gain and lose the same at each token, under each keyspace: so the same books tell it
module _ (before after : Image) (s q : SeqRow) (keyspaces : List KeyspaceRow)
    (same : AllByRecursion (λ (k : KeyspaceRow). (x : ℤ) → IsToken x → SameDeltas before after k.replication x s q) keyspaces) where
  same_under : AllByRecursion (λ (r : Replication). (x : ℤ) → IsToken x → SameDeltas before after r x s q) (replications_of keyspaces)
  same_under = all_replications (λ r. (x : ℤ) → IsToken x → SameDeltas before after r x s q) keyspaces same

  pub steps_like : (gain swap lose : List DeltaBookRow) → AreStepDeltas before s (replications_of keyspaces) gain swap lose → AreStepDeltas after q (replications_of keyspaces) gain swap lose
  steps_like gain swap lose are =
      let rs : List Replication = replications_of keyspaces in
      let gains : AllByRecursion (AreSame (gained_by before s) (gained_by after q)) rs =
      all_weaker (λ r. (x : ℤ) → IsToken x → SameDeltas before after r x s q) (AreSame (gained_by before s) (gained_by after q)) (λ r d x token. (d x token).gained) rs same_under in
      let loses : AllByRecursion (AreSame (lost_by before s) (lost_by after q)) rs =
      all_weaker (λ r. (x : ℤ) → IsToken x → SameDeltas before after r x s q) (AreSame (lost_by before s) (lost_by after q)) (λ r d x token. (d x token).lost) rs same_under in
      let none : AllByRecursion (AreSame no_nodes no_nodes) rs =
      all_weaker (λ r. (x : ℤ) → IsToken x → SameDeltas before after r x s q) (AreSame no_nodes no_nodes) (λ r d x token. refl) rs same_under in
      record {
        gains = deltas_like rs (gained_by before s) no_nodes (gained_by after q) no_nodes gain gains none are.gains;
        swaps = deltas_like rs (gained_by before s) (lost_by before s) (gained_by after q) (lost_by after q) swap gains loses are.swaps;
        loses = deltas_like rs no_nodes (lost_by before s) no_nodes (lost_by after q) lose none loses are.loses;
      }
