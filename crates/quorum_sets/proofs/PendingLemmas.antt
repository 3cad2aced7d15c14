-- How many nodes are pending, in all and in a datacenter.
use Rattle.std.proofs.Common.{◌≡◌, ℕ, ◌≤◌, Bool, true, false, not, ◌&&◌, cond, List, [], ◌∷◌, ◌+◌, filter, length, nat_eq, is_some, Option, Some, None, IfSome, refl, ap, sym, ◌∙◌, arith}
use Rattle.std.proofs.Math.Bool.{and-true}
use Rattle.std.proofs.lemmas.List.Filters.{length-filter_both}
use Rattle.std.proofs.lemmas.List.Kept.{IsStrictlySortedBy-filter}
use Rattle.std.proofs.lemmas.Map.Keys.{sorted_from_strictly_increasing}
use Rattle.std.proofs.lemmas.Slice.Eq.{bytes_eq-Decides}
use Rattle.std.specs.Cmp.{nat_cmp_total}
use Rattle.std.specs.List.Sorted.{IsStrictlyIncreasing, IsStrictlySortedBy}
use Rattle.std.specs.Ordering.{nat_cmp}
use Rattle.std.specs.Str.{bytes_eq}
use Rattle.std.specs.Set.{is_member}
use Rattle.cluster_terms.proofs.lists.AscendingLemmas.{ascending_same}
use Rattle.cluster_terms.proofs.quorums.QuorumLemmas.{has_filter, quorums_exist}
use Rattle.cluster_terms.specs.Ascending.{ascending}
use Rattle.cluster_terms.specs.NodeRow.{row_of}
use Rattle.cluster_terms.specs.Quorum.{datacenter_of, local_sets, pending, quorum_of, within, write_need}
use Rattle.cluster_terms.specs.Replication.{rack_within}
use Rattle.cluster_terms.specs.declared.node.NodeRow.{NodeRow}
use Rattle.quorum_sets.specs.Existing.{ExistTogether}

-- a filter keeps no more than there are
pub few_kept : (test : ℕ → Bool) (ns : List ℕ) → length (filter test ns) ≤ length ns
few_kept test ns = let both = length-filter_both test (λ n. not (test n)) (λ n. refl) ns in omega arith

pub few_pending : (reads writes : List ℕ) → length (pending reads writes) ≤ length writes
few_pending reads writes = few_kept (λ n. not (is_member nat_eq reads n)) writes

-- which nodes of a filter are pending
module _ (test : ℕ → Bool) (reads : List ℕ) where
  has_kept : (w : ℕ) → test w ≡ true → is_member nat_eq (filter test reads) w ≡ is_member nat_eq reads w
  has_kept w e = has_filter test reads w ∙ ap (λ x. is_member nat_eq reads w && x) e ∙ and-true (is_member nat_eq reads w)

  pending_kept : (writes : List ℕ) → pending (filter test reads) (filter test writes) ≡ pending reads (filter test writes)
  pending_kept [] = refl
  pending_kept (w ∷ ws) = by (test w) refl (pending_kept ws)
    where
      by : (b : Bool) → test w ≡ b → pending (filter test reads) (filter test ws) ≡ pending reads (filter test ws)
          → pending (filter test reads) (cond b (w ∷ filter test ws) (filter test ws)) ≡ pending reads (cond b (w ∷ filter test ws) (filter test ws))
      by true e more = (λ i. cond (not (has_kept w e i)) (w ∷ more i) (more i))
      by false e more = more

-- among the nodes of a datacenter those are pending that aren't read at all
pending_within : (nodes : List NodeRow) (dc reads writes : List ℕ) → pending (within nodes dc reads) (within nodes dc writes) ≡ pending reads (within nodes dc writes)
pending_within nodes dc reads writes = pending_kept (λ n. is_some (rack_within dc (row_of nodes n))) reads writes

-- ascending nodes that are cut down to a datacenter still ascend
within_ascends : (nodes : List NodeRow) (dc ns : List ℕ) → IsStrictlyIncreasing ns → IsStrictlySortedBy nat_cmp (within nodes dc ns)
within_ascends nodes dc ns up = IsStrictlySortedBy-filter nat_cmp (λ n. is_some (rack_within dc (row_of nodes n))) ns (sorted_from_strictly_increasing ns up)

pub within_in_order : (nodes : List NodeRow) (dc ns : List ℕ) → IsStrictlyIncreasing ns → ascending nat_cmp (within nodes dc ns) ≡ within nodes dc ns
within_in_order nodes dc ns up = ascending_same nat_cmp nat_cmp_total (within nodes dc ns) (within_ascends nodes dc ns up)

-- a datacenter that is found has the name that is looked for
pub found_name : (factors : List (List ℕ × ℕ)) (dc : List ℕ) → IfSome (datacenter_of factors dc) (λ f. f.0 ≡ dc)
found_name [] dc = tt
found_name (f ∷ fs) dc = by (bytes_eq f.0 dc) refl (found_name fs dc)
  where
    by : (b : Bool) → bytes_eq f.0 dc ≡ b → IfSome (datacenter_of fs dc) (λ g. g.0 ≡ dc) → IfSome (cond b (Some f) (datacenter_of fs dc)) (λ g. g.0 ≡ dc)
    by true e more = (bytes_eq-Decides f.0 dc).0 e
    by false e more = more

-- the need of writes in a datacenter
module _ (nodes : List NodeRow) (factors : List (List ℕ × ℕ)) (dc reads writes : List ℕ) (need count : ℕ) where
  pub local_write : IfSome (datacenter_of factors dc) (λ f. need ≡ f.1)
      → count ≡ length (pending reads (within nodes dc writes))
      → IfSome (datacenter_of factors dc) (λ f. quorum_of need + count ≡ write_need (local_sets nodes f reads writes))
  local_write factor counted = by (datacenter_of factors dc) (found_name factors dc) factor
    where
      by : (o : Option (List ℕ × ℕ)) → IfSome o (λ f. f.0 ≡ dc) → IfSome o (λ f. need ≡ f.1) → IfSome o (λ f. quorum_of need + count ≡ write_need (local_sets nodes f reads writes))
      by None name factor = tt
      by (Some f) name factor = rw (name, factor, counted) (ap (λ ns. quorum_of f.1 + length ns) (sym (pending_within nodes dc reads writes)))

-- ---- quorums that exist

-- the needs of QUORUM
module _ (total : ℕ) (reads writes : List ℕ) (read write : ℕ) where
  pub exist_together : IsStrictlyIncreasing reads → IsStrictlyIncreasing writes → read ≡ quorum_of total → write ≡ quorum_of total + length (pending reads writes) → ExistTogether reads read writes write
  exist_together up_reads up_writes is_read is_write = λ among.
      let same = quorums_exist total reads writes (sorted_from_strictly_increasing reads up_reads) (sorted_from_strictly_increasing writes up_writes) among in
      rw (is_read, is_write) same

-- and those of LOCAL_QUORUM, which asks for a factor
module _ (nodes : List NodeRow) (dc reads writes : List ℕ) (factor read count : ℕ) where
  pub exist_local : IsStrictlyIncreasing reads → IsStrictlyIncreasing writes → read ≡ quorum_of factor
      → count ≡ length (pending reads (within nodes dc writes))
      → ExistTogether (within nodes dc reads) read (within nodes dc writes) (read + count)
  exist_local up_reads up_writes is counted = λ among.
      let same = quorums_exist factor (within nodes dc reads) (within nodes dc writes) (within_ascends nodes dc reads up_reads) (within_ascends nodes dc writes up_writes) among in
      let pending_is : count ≡ length (pending (within nodes dc reads) (within nodes dc writes)) = counted ∙ ap length (sym (pending_within nodes dc reads writes)) in
      rw (is, pending_is) same
