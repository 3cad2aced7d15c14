use Rattle.generated_scripts.proofs.GeneratedLemmas.{if_ok, opened}
use Rattle.generated_scripts.proofs.opening.open.Goals as goal

pub returns : goal.returns
returns c =
    if_ok c.deliver_down.result _ _ _ c.deliver_down.ensures
    (opened c.args.generation.now _ _ c.make_keyspaces.new.generation c.in_ok-register_nodes.ensures c.in_ok-join_nodes.ensures c.in_ok-make_keyspaces.ensures)
