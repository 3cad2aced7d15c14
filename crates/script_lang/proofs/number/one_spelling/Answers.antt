use Rattle.script_lang.proofs.Numerals.{number_law}
use Rattle.script_lang.proofs.TokenTexts.{token_law}
use Rattle.script_lang.proofs.number.one_spelling.Goals as goal

pub returns : goal.returns
returns c = record { number = number_law; token = token_law }
