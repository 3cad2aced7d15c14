-- The end of `gen START N`: the counts of the answers to the generated script.
use Rattle.std.specs.Prelude.{ℕ}
use Rattle.generated_scripts.specs.Generated.{summary}
use Rattle.tcm_session.specs.declared.ending.Ending.{Ending}

-- the end of `gen`
abbrev pub gen_ending : ℕ → ℕ → Ending
gen_ending start rounds = record { status = 0; text = summary start rounds }
