use Rattle.std.proofs.Common.{◌≡◌, ◌+◌, [], List, Vec, Global, sym, subst, take, get_or}
use Rattle.std.proofs.lemmas.List.{take_all}
use Rattle.std.specs.List.{list_any}
use Rattle.cluster_terms.specs.Replication.{same_replication}
use Rattle.cluster_terms.specs.declared.replication.Replication.{Replication}
use Rattle.placement_deltas.specs.Replications.{replications_of}
use Rattle.transformations.specs.declared.image.Image.{Image}
use Rattle.transformations.specs.declared.keyspace.KeyspaceRow.{KeyspaceRow}
use Rattle.placement_maps.proofs.ArrangedMaps.{no_slots, slot_new, slot_shown}
use Rattle.placement_maps.specs.code.Arrangements.{Arranges, Fills, arranged}
use Rattle.placement_maps.specs.code.ShownMaps.{AreMapsOf}
use Rattle.placement_maps.specs.declared.arrangement.Slot.{Slot}
use Rattle.range_placements.specs.declared.map_row.MapRow.{MapRow}
use Rattle.placement_maps.proofs.keyspace_maps.slots_of.Goals as goal
use Rattle.placement_maps.proofs.keyspace_maps.slots_of.Goals.{then-not-has+in_ok-slot+in_ok-push, else-not-has}

pub loop-at-init : goal.loop-at-init
loop-at-init g c =
    let image = c.args.image.now in
    let known = c.args.known.now in
    subst (λ (slots : List Slot). Arranges image [] c.in_ok-left.left.items slots known) (sym c.new-slots.ensures.items)
    (subst (λ (left : List Replication). Arranges image [] left [] known) (sym c.in_ok-left.ensures) (no_slots image known c.requires.known))

-- the same lists in other vectors
moved : (image : Image) (rs : List Replication) (known : List MapRow) (left own : Vec Replication Global) (slots all : Vec Slot Global) → left ≡ own → slots ≡ all → Arranges image rs own.items all.items known → Arranges image rs left.items slots.items known
moved image rs known left own slots all same alike are =
    subst (λ (v : Vec Replication Global). Arranges image rs v.items slots.items known) (sym same) (subst (λ (v : Vec Slot Global). Arranges image rs own.items v.items known) (sym alike) are)

-- a replication that a keyspace before has gets no slot, and another one gets the next slot
pub loop-at-preserved : goal.loop-at-preserved
loop-at-preserved g c =
    let image = c.args.image.now in
    let known = c.args.known.now in
    let ks = c.args.keyspaces.now in
    let i = c.loop-at.at in
    let k = c.index-keyspaces-at.result in
    let was = c.loop-at.invariant in
    let is : k ≡ get_or ks i k = c.index-keyspaces-at.is in
    let told : c.has.result ≡ list_any (λ (q : KeyspaceRow). same_replication q.replication k.replication) (take i ks) =
    subst (λ (j : KeyspaceRow). c.has.result ≡ list_any (λ (q : KeyspaceRow). same_replication q.replication j.replication) (take i ks)) (sym is) c.has.ensures in
    let rs = replications_of (take (i + 1) ks) in
    elim c.if-not-has.branch [
      | then-not-has+in_ok-slot+in_ok-push w ↦
          let fills : Fills image k.replication c.loop-at.left.items w.slot_for.new.left.items w.in_ok-slot.slot =
          subst (λ (j : KeyspaceRow). Fills image j.replication c.loop-at.left.items w.slot_for.new.left.items w.in_ok-slot.slot) (sym is) w.in_ok-slot.ensures in
          moved image rs known c.if-not-has.left w.slot_for.new.left c.if-not-has.slots w.push.new.self w.left-is w.slots-is
          (slot_new image ks i k c.loop-at-test.true is c.loop-at.slots.items known c.loop-at.left.items was c.has.result told w.if-not-has.true w.slot_for.new.left.items w.in_ok-slot.slot w.push.new.self.items w.in_ok-push.ensures.items fills)
      | else-not-has w ↦
          moved image rs known c.if-not-has.left c.loop-at.left c.if-not-has.slots c.loop-at.slots w.left-is w.slots-is
          (slot_shown image ks i k c.loop-at-test.true is c.loop-at.slots.items known c.loop-at.left.items was c.has.result told w.if-not-has.false)
    ]

pub returns : goal.returns
returns g c =
    subst (λ (rows : List KeyspaceRow). AreMapsOf c.args.image.now (replications_of rows) (arranged c.loop-at.slots.items c.args.known.now)) (take_all c.loop-at.at c.args.keyspaces.now c.loop-at-test.false) c.loop-at.invariant.given
