use Rattle.generated_scripts.proofs.GeneratedLemmas.{if_ok, round_committed}
use Rattle.generated_scripts.proofs.rounds.commit_round.Goals as goal

pub returns : goal.returns
returns c =
    if_ok c.commit_steps.result _ _ _ c.commit_steps.ensures
    (round_committed c.args.generation.now _ _ _ c.commit_token-2.new.self c.args.s c.args.j _ _ _ _ c.drawn-first.ensures.is c.drawn-second.ensures.is c.drawn_token.ensures c.drawn_token-2.ensures
    c.in_ok-register.ensures c.in_ok-register-2.ensures c.in_ok-commit_token.ensures c.in_ok-commit_token-2.ensures)
