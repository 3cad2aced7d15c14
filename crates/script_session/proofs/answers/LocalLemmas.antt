-- The local quorums of a datacenter: what is cut down to it, and the answer to a query of them.
use Rattle.std.proofs.Common.{◌≡◌, ℕ, ℤ, codes, List, Option, Some, None, IfSome, IsSome, option_map, sym, ap, subst, true≢false}
use Rattle.std.proofs.lemmas.Option.{none-some}
use Rattle.cluster_terms.specs.Quorum.{datacenter_of, local_sets, read_need, within, write_need}
use Rattle.cluster_terms.specs.declared.node.NodeRow.{NodeRow}
use Rattle.cluster_terms.specs.declared.replication.Replication.{Replication}
use Rattle.transformations.specs.Meeting.{datacenters_of, local_sets_at}
use Rattle.transformations.specs.Rings.{reads_at, writes_at}
use Rattle.transformations.specs.declared.image.Image.{Image}
use Rattle.transformations.specs.declared.keyspace.KeyspaceRow.{KeyspaceRow}
use Rattle.placement_maps.specs.Served.{keyspace_of, served, served_by}
use Rattle.quorum_sets.proofs.PendingLemmas.{found_name}
use Rattle.script_lang.specs.AnswerTexts.{quorum_text, sets_text}
use Rattle.script_session.specs.Machine.{local_quorums, local_quorums_in}

-- the text of the sets that are cut down by the name is that of the local sets
module _ (P : List ℕ → Type 0) (rows : List NodeRow) (factors : List (List ℕ × ℕ)) (dc reads writes : List ℕ) (epoch need_read need_write : ℕ) where
  pub local_shown : IfSome (datacenter_of factors dc) (λ f. need_read ≡ read_need (local_sets rows f reads writes)) → IfSome (datacenter_of factors dc) (λ f. need_write ≡ write_need (local_sets rows f reads writes))
      → P (sets_text (codes "LOCAL") epoch (need_read, within rows dc reads) (need_write, within rows dc writes))
      → IfSome (datacenter_of factors dc) (λ f. P (quorum_text (codes "LOCAL") epoch (local_sets rows f reads writes)))
  local_shown read write shown = by (datacenter_of factors dc) (found_name factors dc) read write
    where
      by : (o : Option (List ℕ × ℕ)) → IfSome o (λ f. f.0 ≡ dc) → IfSome o (λ f. need_read ≡ read_need (local_sets rows f reads writes)) → IfSome o (λ f. need_write ≡ write_need (local_sets rows f reads writes))
          → IfSome o (λ f. P (quorum_text (codes "LOCAL") epoch (local_sets rows f reads writes)))
      by None name read write = tt
      by (Some f) name read write =
          subst P
          (λ i. sets_text (codes "LOCAL") epoch (read i, within rows (sym name i) reads) (write i, within rows (sym name i) writes)) shown

-- the answer to a query of them
module _ (P : List ℕ → Type 0) (image : Image) (name dc : List ℕ) (t : ℤ) (r : Replication) (reads writes : List ℕ) where
  pub local_answered : Some r ≡ option_map (λ (k : KeyspaceRow). k.replication) (keyspace_of image name) → Some (reads, writes) ≡ served image name t → IsSome (datacenter_of (datacenters_of r) dc)
      → IfSome (datacenter_of (datacenters_of r) dc) (λ f. P (quorum_text (codes "LOCAL") image.epoch (local_sets image.nodes f reads writes)))
      → P (local_quorums image dc t (keyspace_of image name))
  local_answered found sets some shown = by (keyspace_of image name) found sets
    where
      in_some : (k : KeyspaceRow) (o : Option (List ℕ × ℕ)) → IsSome o → IfSome o (λ f. P (quorum_text (codes "LOCAL") image.epoch (local_sets_at image k.replication f t))) → P (local_quorums_in image t k.replication o)
      in_some k None some shown = absurd (true≢false (sym some))
      in_some k (Some f) some shown = shown

      by : (o : Option KeyspaceRow) → Some r ≡ option_map (λ (k : KeyspaceRow). k.replication) o → Some (reads, writes) ≡ option_map (λ (k : KeyspaceRow). served_by image t k.replication) o → P (local_quorums image dc t o)
      by None found sets = absurd (none-some r (sym found))
      by (Some k) found sets =
          let same : r ≡ k.replication = cc found in
          let both : (reads, writes) ≡ served_by image t k.replication = cc sets in
          let read : reads ≡ reads_at image k.replication t = ap (λ (p : List ℕ × List ℕ). p.0) both in
          let written : writes ≡ writes_at image k.replication t = ap (λ (p : List ℕ × List ℕ). p.1) both in
          in_some k (datacenter_of (datacenters_of k.replication) dc) (rw same at some)
          (rw (same, read, written) at shown)
