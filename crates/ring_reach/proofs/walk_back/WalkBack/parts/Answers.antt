use Rattle.std.proofs.Common.{◌<◌, ◌≤◌, ◌++◌, List, ap, sym, ◌∙◌, length, subst, arith}
use Rattle.cluster_terms.specs.Pair.{tokens_of}
use Rattle.ring_reach.specs.code.Moved.{AreTokensAmong}
use Rattle.ring_reach.specs.code.WalkBack.{course_of}
use Rattle.ring_reach.specs.code.Windows.{window_bounds, have}
use Rattle.ring_reach.specs.declared.windows.Window.{Window}
use Rattle.ring_reach.proofs.PartLemmas.{part_more, all_parts-have, all_parts-among}
use Rattle.ring_reach.proofs.walk_back.WalkBack.parts.Goals as goal

pub loop-token-preserved : goal.loop-token-preserved
loop-token-preserved c =
    let course = course_of c.args.self.now in
    let tokens = c.args.moved.now in
    let i = c.loop-token.token-index in
    let in_i : i < length tokens = omega arith in
    let inv = c.loop-token.invariant in
    let more = part_more course tokens i c.loop-token.windows.items c.push.new.self.items c.loop-token.left c.token-item.result c.part.result in_i c.token-item.is inv.left inv.rights inv.parts c.part.ensures.reach c.in_ok-push.ensures.items in
    record { asks = c.part.ensures.asks; left = more.left; rights = more.rights; parts = more.parts }

pub returns-clause-reach : goal.returns-clause-reach
returns-clause-reach c x =
    let course = course_of c.args.self.now in
    let tokens = c.args.moved.now in
    let ws = c.loop-token.windows.items in
    let inv = c.loop-token.invariant in
    let all : length tokens ≤ c.loop-token.token-index = omega arith in
    ap (λ (l : List Window). have l x) c.from_ascending.ensures
    ∙ all_parts-have course tokens c.loop-token.token-index ws c.requires.ascending all inv.rights inv.parts x

pub returns-clause-bounds : goal.returns-clause-bounds
returns-clause-bounds c =
    let course = course_of c.args.self.now in
    let tokens = c.args.moved.now in
    subst (λ (ws : List Window). AreTokensAmong (window_bounds ws) (tokens_of course.fixed ++ tokens)) (sym c.from_ascending.ensures)
    (all_parts-among course tokens c.loop-token.windows.items c.loop-token.invariant.parts)
