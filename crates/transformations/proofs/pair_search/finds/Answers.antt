use Rattle.std.proofs.Common.{◌<◌, ◌≤◌, ◌∙◌, length, arith}
use Rattle.std.proofs.lemmas.Bool.{le-ltb}
use Rattle.transformations.proofs.pairs.PairSearch.{has_first, has_none}
use Rattle.transformations.proofs.pair_search.finds.Goals as goal

pub returns-then-below-pairs : goal.returns-then-below-pairs
returns-then-below-pairs c =
    let ps = c.args.pairs.now in
    let n = c.count_below-below.result in
    let in_n : n < length ps = omega arith in
    c.eq.ensures
    ∙ has_first ps c.args.token n c.requires c.count_below-below.ensures.split c.index-pairs-below.result in_n

pub returns-else-below-pairs : goal.returns-else-below-pairs
returns-else-below-pairs c =
    let ps = c.args.pairs.now in
    let n = c.count_below-below.result in
    let past : length ps ≤ n = omega arith in
    le-ltb n (length ps) c.if-below-pairs.false ∙ has_none ps c.args.token n c.count_below-below.ensures.split past
