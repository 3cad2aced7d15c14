use Rattle.std.proofs.Common.{◌≡◌, ◌∷◌, ◌+◌, ◌-◌, ◌<◌, Bool, true, false, cond, Some, None, ap, sym, ◌∙◌, length, drop, subst, arith}
use Rattle.node_directory.specs.Tally.{met, lacks}
use Rattle.ring_reach.specs.code.WalkBack.{AskSame, course_of, met_back}
use Rattle.ring_reach.specs.code.Windows.{is_inside}
use Rattle.ring_reach.proofs.WalkBackLemmas.{back-turn, back-stopped, met_back-asks}
use Rattle.ring_reach.proofs.walk_back.WalkBack.back.Goals as goal

pub returns-then-not-has-clause-left : goal.returns-then-not-has-clause-left
returns-then-not-has-clause-left c =
    let course = course_of c.args.self.now in
    let span = c.args.span.now in
    let ps = c.args.pairs.now in
    let tally = c.args.tally.now in
    let i = c.loop-at.at - 1 in
    let p = c.index-pairs-at.result in
    let out : is_inside p.token span ≡ false = sym c.has.ensures ∙ c.if-not-has.true in
    let next = met course.group p.node (met_back course (drop c.loop-at.at ps) tally) in
    let in_i : i < length ps = omega arith in
    let n : i + 1 ≡ c.loop-at.at = omega arith in
    sym (back-stopped course span ps i tally span.left
    (back-turn course span ps i c.loop-at.at p tally n in_i c.index-pairs-at.is c.loop-at.invariant.goes_on
    ∙ ap (λ (b : Bool). cond b (cond (lacks next) None (Some p.token)) (Some span.left)) out))

pub returns-then-not-lacks-clause-left : goal.returns-then-not-lacks-clause-left
returns-then-not-lacks-clause-left c =
    let course = course_of c.args.self.now in
    let span = c.args.span.now in
    let ps = c.args.pairs.now in
    let tally = c.args.tally.now in
    let i = c.loop-at.at - 1 in
    let p = c.index-pairs-at.result in
    let within : is_inside p.token span ≡ true = sym c.has.ensures ∙ c.if-not-has.false in
    let next = met course.group p.node (met_back course (drop c.loop-at.at ps) tally) in
    let is : c.meet.new.self ≡ next = c.meet.ensures ∙ ap (met course.group p.node) c.loop-at.invariant.met in
    let full : lacks next ≡ false = ap lacks (sym is) ∙ sym c.lacks.ensures ∙ c.if-not-lacks.true in
    let in_i : i < length ps = omega arith in
    let n : i + 1 ≡ c.loop-at.at = omega arith in
    sym (back-stopped course span ps i tally p.token
    (back-turn course span ps i c.loop-at.at p tally n in_i c.index-pairs-at.is c.loop-at.invariant.goes_on
    ∙ ap (λ (b : Bool). cond b (cond (lacks next) None (Some p.token)) (Some span.left)) within
    ∙ ap (λ (b : Bool). cond b None (Some p.token)) full))

pub returns-then-not-has-clause-sizes : goal.returns-then-not-has-clause-sizes
returns-then-not-has-clause-sizes c =
    subst (AskSame c.args.tally.now) (sym c.loop-at.invariant.met) (met_back-asks (course_of c.args.self.now) (drop c.loop-at.at c.args.pairs.now) c.args.tally.now)

pub returns-then-not-lacks-clause-sizes : goal.returns-then-not-lacks-clause-sizes
returns-then-not-lacks-clause-sizes c =
    let course = course_of c.args.self.now in
    let p = c.index-pairs-at.result in
    let rest = drop c.loop-at.at c.args.pairs.now in
    let is : c.meet.new.self ≡ met_back course (p ∷ rest) c.args.tally.now = c.meet.ensures ∙ ap (met course.group p.node) c.loop-at.invariant.met in
    subst (AskSame c.args.tally.now) (sym is) (met_back-asks course (p ∷ rest) c.args.tally.now)

pub returns-clause-sizes : goal.returns-clause-sizes
returns-clause-sizes c =
    subst (AskSame c.args.tally.now) (sym c.loop-at.invariant.met) (met_back-asks (course_of c.args.self.now) (drop c.loop-at.at c.args.pairs.now) c.args.tally.now)
