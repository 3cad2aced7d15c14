-- Quorums of two images, of which each reads what the other writes.
use Rattle.std.proofs.Common.{◌≡◌, ℕ, ◌≤◌, Bool, true, ◌&&◌, ◌||◌, ℤ, List, filter, is_some, length, sym, ◌∙◌, subst}
use Rattle.std.proofs.lemmas.Bool.{and_parts, or_left, or_right}
use Rattle.std.proofs.lemmas.List.Kept.{IsStrictlySortedBy-filter}
use Rattle.std.specs.List.{AllByRecursion}
use Rattle.std.specs.Ordering.{nat_cmp}
use Rattle.cluster_terms.proofs.placement.GroupLemmas.{has}
use Rattle.cluster_terms.proofs.placement.PlacementCounts.{datacenter_few, place_few}
use Rattle.cluster_terms.proofs.quorums.QuorumLemmas.{AreAmong, Ascend, has_filter, quorums_exist, quorums_meet}
use Rattle.cluster_terms.specs.NodeRow.{row_of}
use Rattle.cluster_terms.specs.Quorum.{Meet}
use Rattle.cluster_terms.specs.Replication.{IsReplication, rack_within, total_of}
use Rattle.cluster_terms.specs.declared.node.NodeRow.{NodeRow}
use Rattle.cluster_terms.specs.declared.replication.Replication.{Replication}
use Rattle.cluster_terms.specs.declared.replication.Replication.TheVariants.{Simple, Topology}
use Rattle.transformations.proofs.lists.ListLemmas.{all_both, all_each}
use Rattle.transformations.proofs.quorums.ServedLemmas.{IsServed, reads_ascend, writes_ascend}
use Rattle.transformations.specs.Meeting.{ExistAt, HaveBothOrNone, MeetAt, datacenters_of, local_sets_at}
use Rattle.transformations.specs.Rings.{reads_at, writes_at}
use Rattle.transformations.specs.declared.image.Image.{Image}

-- whether a node stands in a datacenter; and the nodes of a datacenter among some
abbrev pub is_in : List NodeRow → List ℕ → ℕ → Bool
is_in nodes dc n = is_some (rack_within dc (row_of nodes n))

abbrev local : Image → List ℕ → List ℕ → List ℕ
local image dc ns = filter (is_in image.nodes dc) ns

local_ascend : (image : Image) (dc ns : List ℕ) → Ascend ns → Ascend (local image dc ns)
local_ascend image dc ns up = IsStrictlySortedBy-filter nat_cmp (is_in image.nodes dc) ns up

-- ---- how many are read

pub reads_few : (image : Image) (r : Replication) (x : ℤ) → IsServed image r x → length (reads_at image r x) ≤ total_of r
reads_few image r x s = subst (λ ns. length ns ≤ total_of r) (sym s.placed) (place_few x s.ring s.ascending image.nodes r)

-- in a datacenter no more than its factor
abbrev AreFewIn : Image → Replication → ℤ → List ℕ × ℕ → Type 0
AreFewIn image r x f = length (local image f.0 (reads_at image r x)) ≤ f.1

local_few : (image : Image) (r : Replication) (x : ℤ) → IsServed image r x → IsReplication r → AllByRecursion (AreFewIn image r x) (datacenters_of r)
local_few image (Simple rf) x s valid = tt
local_few image (Topology factors) x s valid =
    subst (λ ns. AllByRecursion (λ f. length (local image f.0 ns) ≤ f.1) factors) (sym s.placed) (datacenter_few x s.ring s.ascending image.nodes factors valid.ascending)

-- ---- a write quorum exists exactly where a read quorum does

pub exist_at : (image : Image) (r : Replication) (x : ℤ) → IsServed image r x → ExistAt image r x
exist_at image r x s =
    let reads : List ℕ = reads_at image r x in
    let writes : List ℕ = writes_at image r x in
    record {
      quorums = quorums_exist (total_of r) reads writes (reads_ascend image r x) (writes_ascend image r x) s.written;
      local_quorums = all_each (λ f. HaveBothOrNone (local_sets_at image r f x))
          (λ f. quorums_exist f.1 (local image f.0 reads) (local image f.0 writes) (local_ascend image f.0 reads (reads_ascend image r x)) (local_ascend image f.0 writes (writes_ascend image r x))
          (λ v there. (let both = and_parts (has reads v) (is_in image.nodes f.0 v) (sym (has_filter (is_in image.nodes f.0) reads v) ∙ there) in
          has_filter (is_in image.nodes f.0) writes v ∙ (λ i. s.written v both.0 i && both.1 i)))) (datacenters_of r);
    }

-- ---- quorums meet

-- each of two images reads what the other writes, and what they read is in the same datacenters
pub record AreNear (one other : Image) (r : Replication) (x : ℤ) : Type 0 where
  pub there : AreAmong (reads_at other r x) (writes_at one r x)
  pub back : AreAmong (reads_at one r x) (writes_at other r x)
  pub places : (dc : List ℕ) (v : ℕ) → (has (reads_at one r x) v || has (reads_at other r x) v) ≡ true → is_in one.nodes dc v ≡ is_in other.nodes dc v

module _ (one other : Image) (r : Replication) (x : ℤ) (n : AreNear one other r x) where
  local_there : (dc : List ℕ) → AreAmong (local other dc (reads_at other r x)) (local one dc (writes_at one r x))
  local_there dc v h =
      let both = and_parts (has (reads_at other r x) v) (is_in other.nodes dc v) (sym (has_filter (is_in other.nodes dc) (reads_at other r x) v) ∙ h) in
      let same = n.places dc v (or_right (has (reads_at one r x) v) (has (reads_at other r x) v) both.0) in
      has_filter (is_in one.nodes dc) (writes_at one r x) v ∙ (λ i. n.there v both.0 i && (same ∙ both.1) i)

  local_back : (dc : List ℕ) → AreAmong (local one dc (reads_at one r x)) (local other dc (writes_at other r x))
  local_back dc v h =
      let both = and_parts (has (reads_at one r x) v) (is_in one.nodes dc v) (sym (has_filter (is_in one.nodes dc) (reads_at one r x) v) ∙ h) in
      let same = n.places dc v (or_left (has (reads_at one r x) v) (has (reads_at other r x) v) both.0) in
      has_filter (is_in other.nodes dc) (writes_at other r x) v ∙ (λ i. n.back v both.0 i && (sym same ∙ both.1) i)

  pub meet_at : IsServed one r x → IsServed other r x → IsReplication r → MeetAt one other r x
  meet_at s t valid =
      let reads : List ℕ = reads_at one r x in
      let writes : List ℕ = writes_at one r x in
      let theirs : List ℕ = reads_at other r x in
      let written : List ℕ = writes_at other r x in
      record {
        quorums = record {
          there = quorums_meet (total_of r) reads writes theirs written (reads_few one r x s) (writes_ascend one r x) n.there;
          back = quorums_meet (total_of r) theirs written reads writes (reads_few other r x t) (writes_ascend other r x) n.back;
        };
        local_quorums =
            all_both (AreFewIn one r x) (AreFewIn other r x) (λ f. Meet (local_sets_at one r f x) (local_sets_at other r f x))
            (λ f few less. (let m : Meet (local_sets_at one r f x) (local_sets_at other r f x) = record {
              there = quorums_meet f.1 (local one f.0 reads) (local one f.0 writes) (local other f.0 theirs) (local other f.0 written) few (local_ascend one f.0 writes (writes_ascend one r x)) (local_there f.0);
              back = quorums_meet f.1 (local other f.0 theirs) (local other f.0 written) (local one f.0 reads) (local one f.0 writes) less (local_ascend other f.0 written (writes_ascend other r x)) (local_back f.0);
            } in m)) (datacenters_of r) (local_few one r x s valid) (local_few other r x t valid);
      }
