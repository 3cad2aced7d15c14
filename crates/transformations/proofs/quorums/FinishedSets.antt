-- The last step of a movement leaves what is read as it is.
use Rattle.std.proofs.Common.{◌≡◌, ℕ, true, ◌==◌, find, is_some, Some, inl, ap, ◌∙◌}
use Rattle.cluster_terms.proofs.placement.PlacedByReach.{place-same}
use Rattle.cluster_terms.specs.Group.{place}
use Rattle.cluster_terms.specs.Replication.{groups_of}
use Rattle.transformations.proofs.movements.DoneLemmas.{done}
use Rattle.transformations.proofs.movements.DoneRings.{ring_same}
use Rattle.transformations.proofs.nodes.NodeLemmas.{groups_left, rack_left}
use Rattle.transformations.proofs.quorums.SameSets.{ShareSets, mid}
use Rattle.transformations.specs.Rings.{is_mid, read_ring, reads_at}
use Rattle.transformations.specs.Movements.{leaver}
use Rattle.transformations.specs.Valid.{IsSound}
use Rattle.transformations.specs.declared.image.Image.{Image}
use Rattle.transformations.specs.declared.sequence.SeqRow.{SeqRow}

pub share_done : (image : Image) (s : SeqRow) (epoch : ℕ) → find (λ (q : SeqRow). q.node == s.node) image.sequences ≡ Some s → IsSound image → is_mid s.phase ≡ true → ShareSets image (done image s epoch)
unfolding reads_at
share_done image s epoch found h is r x = inl (record {
  reads = place-same (groups_of image.nodes r) x (read_ring image) (read_ring (done image s epoch)) (ring_same image s found h mid is)
      ∙ ap (λ gs. place gs x (read_ring (done image s epoch))) (groups_left image.nodes (leaver s) r);
  places = λ dc v there i. is_some (rack_left image.nodes (leaver s) dc v i);
})
