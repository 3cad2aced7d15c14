use Rattle.std.proofs.Common.{refl}
use Rattle.generated_scripts.proofs.GeneratedLemmas.{if_ok, round_done}
use Rattle.generated_scripts.proofs.rounds.run_round.Goals as goal

pub returns : goal.returns
returns c =
    if_ok c.deliver_down.result _ _ _ c.deliver_down.ensures
    (round_done c.args.generation.now c.commit_round.new.generation _ c.args.s c.args.j _ _ c.last_epoch-before.ensures.length c.in_ok-commit_round.ensures c.last_epoch-last.ensures.length refl)
