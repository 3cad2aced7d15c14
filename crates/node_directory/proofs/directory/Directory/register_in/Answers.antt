use Rattle.std.proofs.Common.{◌∙◌, arith}
use Rattle.node_directory.proofs.DirectoryChanges.{kept-registered}
use Rattle.node_directory.proofs.directory.Directory.register_in.Goals as goal

pub invariant_of-self : goal.invariant_of-self
invariant_of-self c =
    let entries = rw c.give-key.ensures.entries at c.in-Ok.ensures.entries in
    let more = c.give-key.ensures.spare in
    let less = c.insert.ensures.spare in
    ((kept-registered c.self.inside.nodes.entries c.insert.new.self.entries c.args.self.now c.self.inside.next c.give-key.result c.args.name c.args.dc c.args.rack c.self.invariant.0 c.self.view_is c.requires.free (c.give-key.ensures.name ∙ c.requires.room.named) entries).kept, omega (arith, more, less))

pub returns-clause-registry : goal.returns-clause-registry
returns-clause-registry c =
    let entries = rw c.give-key.ensures.entries at c.in-Ok.ensures.entries in
    (kept-registered c.self.inside.nodes.entries c.insert.new.self.entries c.args.self.now c.self.inside.next c.give-key.result c.args.name c.args.dc c.args.rack c.self.invariant.0 c.self.view_is c.requires.free (c.give-key.ensures.name ∙ c.requires.room.named) entries).shows
