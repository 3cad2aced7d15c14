use Rattle.std.proofs.Common.{◌<◌, ◌≤◌, ap, ◌∙◌, length, arith}
use Rattle.std.proofs.lemmas.Bool.{le-ltb}
use Rattle.cluster_terms.specs.Pair.{same_pair}
use Rattle.transformations.proofs.pairs.PairSearch.{has_first_pair, has_no_pair}
use Rattle.transformations.proofs.pair_search.finds_pair.Goals as goal

pub returns-then-below-pairs : goal.returns-then-below-pairs
returns-then-below-pairs c =
    let ps = c.args.pairs.now in
    let p = c.args.pair in
    let n = c.count_below-below.result in
    let found = c.index-pairs-below.result in
    let in_n : n < length ps = omega arith in
    c.eq.ensures
    ∙ ap (same_pair p) c.index-pairs-below.is
    ∙ has_first_pair ps p n c.requires c.count_below-below.ensures.split found in_n

pub returns-else-below-pairs : goal.returns-else-below-pairs
returns-else-below-pairs c =
    let ps = c.args.pairs.now in
    let n = c.count_below-below.result in
    let past : length ps ≤ n = omega arith in
    le-ltb n (length ps) c.if-below-pairs.false ∙ has_no_pair ps c.args.pair n c.count_below-below.ensures.split past
