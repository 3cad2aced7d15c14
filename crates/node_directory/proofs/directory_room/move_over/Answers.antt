use Rattle.node_directory.proofs.RoomLemmas.{insert_all-distinct}
use Rattle.node_directory.proofs.directory_room.move_over.Goals as goal

pub returns-clause-entries : goal.returns-clause-entries
returns-clause-entries c =
    let all = rw c.requires.empty at c.in-Ok.ensures.entries in
    rw (c.swap.ensures.x_after, all) (insert_all-distinct c.args.nodes.now.entries c.requires.unique)
