use Rattle.std.proofs.Common.{◌≡◌, ℤ, Some, None, ap, sym, ◌∙◌, take, drop, subst}
use Rattle.node_directory.specs.Tally.{nothing}
use Rattle.ring_reach.specs.code.WalkBack.{IsPart, course_of, back, met_back}
use Rattle.ring_reach.specs.code.Windows.{window}
use Rattle.ring_reach.proofs.RoundLemmas.{part-first, part-second}
use Rattle.ring_reach.proofs.WalkBackLemmas.{none_yet}
use Rattle.ring_reach.proofs.walk_back.WalkBack.part.Goals as goal

pub returns-in-Some-back-clause-reach : goal.returns-in-Some-back-clause-reach
returns-in-Some-back-clause-reach c =
    let course = course_of c.args.self.now in
    let span = c.args.span in
    let i = c.in-Some.first in
    let empty : c.clear.new.self ≡ none_yet course = c.clear.ensures ∙ (λ j. nothing (sym c.requires.same.nodes j) (sym c.requires.same.racks j)) in
    let front : c.split_at.result.0.now ≡ take i course.fixed = c.split_at.ensures.front ∙ ap (take i) c.pairs.ensures.pairs in
    let ended : back course span (take i course.fixed) (none_yet course) ≡ Some c.in-Some-back.left =
    (λ j. back course span (sym front j) (sym empty j)) ∙ sym c.back.ensures.left ∙ c.in-Some-back.is in
    part-first course span i c.pairs.ensures.ascends c.in-Some.ensures.first c.requires.some c.in-Some-back.left ended

pub returns-clause-reach : goal.returns-clause-reach
returns-clause-reach c =
    let course = course_of c.args.self.now in
    let span = c.args.span in
    let i = c.in-Some.first in
    let empty : c.clear.new.self ≡ none_yet course = c.clear.ensures ∙ (λ j. nothing (sym c.requires.same.nodes j) (sym c.requires.same.racks j)) in
    let front : c.split_at.result.0.now ≡ take i course.fixed = c.split_at.ensures.front ∙ ap (take i) c.pairs.ensures.pairs in
    let rest : c.split_at.result.1.now ≡ drop i course.fixed = c.split_at.ensures.back ∙ ap (drop i) c.pairs.ensures.pairs in
    let none : back course span (take i course.fixed) (none_yet course) ≡ None =
    (λ j. back course span (sym front j) (sym empty j)) ∙ sym c.back.ensures.left ∙ c.in_default-back.is in
    let tally : c.back.new.tally ≡ met_back course (take i course.fixed) (none_yet course) =
    c.back.ensures.tally c.in_default-back.is ∙ (λ j. met_back course (front j) (empty j)) in
    let second : back course span (drop i course.fixed) (met_back course (take i course.fixed) (none_yet course)) ≡ c.back-2.result =
    (λ j. back course span (sym rest j) (sym tally j)) ∙ sym c.back-2.ensures.left in
    subst (λ (t : ℤ). IsPart course span (window t span.right)) (sym c.unwrap_or-left.ensures)
    (part-second course span i c.pairs.ensures.ascends c.in-Some.ensures.first c.requires.some c.back-2.result none second)
