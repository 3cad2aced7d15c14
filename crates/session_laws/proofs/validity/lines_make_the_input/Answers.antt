use Rattle.session_laws.proofs.LinesLemmas.{HasNoFeed-lines, HasNoFeed-open, lines_whole}
use Rattle.session_laws.proofs.validity.lines_make_the_input.Goals as goal

pub returns : goal.returns
returns c = record { whole = lines_whole; lines = HasNoFeed-lines; rest = HasNoFeed-open }
