use Rattle.generated_scripts.proofs.GeneratedLemmas.{if_ok, scripted}
use Rattle.generated_scripts.proofs.summary.run_script.Goals as goal

pub returns : goal.returns
returns c =
    if_ok c.run_rounds.result _ _ _ c.run_rounds.ensures (scripted c.args.generation.now c.open.new.generation c.args.start c.args.rounds c.requires.begins c.in_ok-open.ensures)
