use Rattle.transformations.proofs.images.LoopLemmas.{few_widest}
use Rattle.transformations.proofs.ring_rules.too_many_tokens.Goals as goal

pub returns-then-count_all-le-MOST_TOKENS : goal.returns-then-count_all-le-MOST_TOKENS
returns-then-count_all-le-MOST_TOKENS c = few_widest c.args.image.now c.count_all.result c.count_all.ensures c.if-count_all-le-MOST_TOKENS.true
