use Rattle.std.proofs.Common.{sym, ◌∙◌, true, false, rules, subst, w64}
use Rattle.std.specs.List.{AllByRecursion}
use Rattle.std.proofs.lemmas.Int.{to_z-of_z}
use Rattle.std.proofs.lemmas.List.{take_all}
use Rattle.cluster_terms.specs.Arc.{IsToken}
use Rattle.token_ring.proofs.RangesApart.{apart_end}
use Rattle.token_ring.proofs.ChosenRows.{first_found, first_last, none_common}
use Rattle.token_ring.proofs.range_list.RangeList.first_common.Goals as goal

pub returns-then-are_apart-clause-first : goal.returns-then-are_apart-clause-first
returns-then-are_apart-clause-first c =
    let none = rw (c.as_slice.ensures.ranges, c.as_slice-2.ensures.ranges) at c.are_apart.ensures c.if-are_apart.true in
    apart_end c.args.a.now c.args.b.now c.args.cuts.now none

pub returns-then-have_both-clause-first : goal.returns-then-have_both-clause-first
returns-then-have_both-clause-first c =
    let number = to_z-of_z w64 c.value.result (search rules) ∙ c.value.ensures in
    first_found c.args.a.now c.args.b.now c.args.cuts.now c.loop-cut.cut-index c.cut-item.result c.loop-cut.invariant.none c.loop-cut-test.true c.cut-item.is (sym (rw number at c.have_both.ensures) ∙ c.if-have_both.true)

pub returns-then-have_both-2-clause-first : goal.returns-then-have_both-2-clause-first
returns-then-have_both-2-clause-first c =
    first_last c.args.a.now c.args.b.now c.args.cuts.now c.loop-cut.cut-index true c.loop-cut.invariant.none c.loop-cut-test.false (sym c.if-have_both-2.true ∙ c.have_both-2.ensures)

pub returns-else-have_both-2-clause-first : goal.returns-else-have_both-2-clause-first
returns-else-have_both-2-clause-first c =
    first_last c.args.a.now c.args.b.now c.args.cuts.now c.loop-cut.cut-index false c.loop-cut.invariant.none c.loop-cut-test.false (sym c.if-have_both-2.false ∙ c.have_both-2.ensures)

pub returns-else-have_both-2-clause-none : goal.returns-else-have_both-2-clause-none
returns-else-have_both-2-clause-none c =
    let tokens = subst (AllByRecursion IsToken) (take_all c.loop-cut.cut-index c.args.cuts.now c.loop-cut-test.false) c.loop-cut.invariant.tokens in
    none_common c.args.a.now c.args.b.now c.args.cuts.now c.requires.ascending tokens c.requires.one c.requires.other _
    (first_last c.args.a.now c.args.b.now c.args.cuts.now c.loop-cut.cut-index false c.loop-cut.invariant.none c.loop-cut-test.false (sym c.if-have_both-2.false ∙ c.have_both-2.ensures))
