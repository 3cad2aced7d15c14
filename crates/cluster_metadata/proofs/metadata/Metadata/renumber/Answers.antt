use Rattle.std.proofs.Common.{◌≡◌, subst, ap, ◌∙◌}
use Rattle.node_directory.specs.Directory.{Registry}
use Rattle.transformations.specs.declared.image.Image.{Image}
use Rattle.cluster_metadata.proofs.NumberLemmas.{fits, renumbered}
use Rattle.cluster_metadata.specs.code.MetadataParts.{DiffersInNumbers}
use Rattle.cluster_metadata.proofs.metadata.Metadata.renumber.Goals as goal

differs : (image image' other other' : Image) → image ≡ image' → other ≡ other' → DiffersInNumbers image' other' → DiffersInNumbers image other
differs image image' other other' is is' = subst (λ (o : Image). DiffersInNumbers image' o → DiffersInNumbers image other) is' (subst (λ (i : Image). DiffersInNumbers i other → DiffersInNumbers image other) is (λ d. d))

pub renumber-requires : goal.renumber-requires
renumber-requires c =
    let apart = differs c.self.inside.image c.args.self.now c.other.inside.image c.args.other.now c.self.view_is c.other.view_is c.requires in
    fits c.self.inside.image c.other.inside.image c.self.inside.directory c.other.inside.directory c.next_id.result apart c.self.invariant.directory c.other.invariant.directory c.next_id.ensures.next
    c.next_id.ensures.valid

pub invariant_of-self-2 : goal.invariant_of-self-2
invariant_of-self-2 c =
    let apart = differs c.self.inside.image c.args.self.now c.other.inside.image c.args.other.now c.self.view_is c.other.view_is c.requires in
    let next : c.next_id.result ≡ c.other.inside.image.next = c.next_id.ensures.next ∙ ap (λ (d : Registry). d.next) c.other.invariant.directory in
    renumbered c.self.inside.image c.other.inside.image apart c.self.inside.directory c.renumber.new.self c.self.inside.maps c.self.inside.in_flight.running.items c.self.inside.in_flight.locks c.other.invariant.valid
    c.other.invariant.replications c.self.invariant (c.in_ok-renumber.ensures.renumbered ∙ ap (λ n. record { rows = c.self.inside.directory.rows; next = n }) next)
