use Rattle.std.proofs.Common.{◌≡◌, ◌++◌, ◌∙◌, ◌+◌, ℤ, List, [], ◌∷◌, Some, None, drop, take, sym, ap, subst}
use Rattle.std.proofs.lemmas.List.{append_assoc, append-nil, drop_all, drop_more, take_more}
use Rattle.std.proofs.lemmas.Result.{IfOk-weaker}
use Rattle.std.specs.List.{AllByRecursion}
use Rattle.cluster_terms.specs.Arc.{IsToken}
use Rattle.cluster_terms.specs.Row.{last_token, rows_between, rows_from}
use Rattle.cluster_terms.specs.declared.row.TokenRange.{TokenRange}
use Rattle.token_ring.specs.code.ChosenRanges.{begun_range, chosen_from}
use Rattle.token_ring.specs.TokenRanges.{chosen_by}
use Rattle.token_ring.proofs.chosen_ranges.joined_where.Goals as goal
use Rattle.token_ring.proofs.chosen_ranges.joined_where.Goals.{in-Some+in_ok-copy-2+in_ok-add-2, in_default}

and_token : (ts : List ℤ) (t : ℤ) → AllByRecursion IsToken ts → IsToken t → AllByRecursion IsToken (ts ++ t ∷ [])
and_token [] t tokens token = (token, tt)
and_token (x ∷ ts) t tokens token = (tokens.0, and_token ts t tokens.1 token)

pub loop-cut-preserved : goal.loop-cut-preserved
loop-cut-preserved g c =
    let cuts = c.args.cuts.now in
    let i = c.loop-cut.cut-index in
    let left = c.loop-cut.left in
    let cut = c.cut-item.result in
    let b = c.call-passes.result in
    let so_far = c.loop-cut.invariant.0 in
    let before = so_far.0 in
    let after : List TokenRange = rows_from (Some cut) (drop (i + 1) cuts) in
    let rest : drop i cuts ≡ cut ∷ drop (i + 1) cuts = drop_more cuts i cut c.loop-cut-test.true ∙ ap (λ t. t ∷ drop (i + 1) cuts) (sym c.cut-item.is) in
    let upto : take (i + 1) cuts ≡ take i cuts ++ cut ∷ [] = take_more cuts i cut c.loop-cut-test.true ∙ ap (λ t. take i cuts ++ t ∷ []) (sym c.cut-item.is) in (
      (
        before ++ b ∷ [],
        (λ later.
            c.in_ok-add.ensures after later
            ∙ ap (λ l. c.loop-cut.joining.ranges.items ++ chosen_from c.loop-cut.joining.begun (rows_from left l) (b ∷ later)) (sym rest)
            ∙ so_far.1 (b ∷ later)
            ∙ ap (chosen_from None (rows_between cuts)) (sym (append_assoc before (b ∷ []) later))),
        (λ has answers.
            let told : b ≡ has cut = answers cut b c.copy.ensures.token (subst (λ t. goal.F-post g c.args.test t b) c.in_ok-copy.ensures.copied c.call-passes.ensures) in
            append_assoc before (b ∷ []) (chosen_by has after)
            ∙ (λ j. before ++ told j ∷ chosen_by has after)
            ∙ ap (λ l. before ++ chosen_by has (rows_from left l)) (sym rest)
            ∙ so_far.2 has answers),
      ),
      subst (AllByRecursion IsToken) (sym upto) (and_token (take i cuts) cut c.loop-cut.invariant.1 c.copy.ensures.token),
    )

pub returns-clause-ranges : goal.returns-clause-ranges
returns-clause-ranges g c =
    let cuts = c.args.cuts.now in
    let i = c.loop-cut.cut-index in
    let left = c.loop-cut.left in
    let so_far = c.loop-cut.invariant.0 in
    let before = so_far.0 in
    let gone : rows_from left (drop i cuts) ≡ begun_range c.last_row.result = ap (rows_from left) (drop_all i cuts c.loop-cut-test.false) ∙ sym c.last_row.ensures in
    elim c.match-last_row.branch [
      | in-Some+in_ok-copy-2+in_ok-add-2 w ↦
          let row = w.in-Some.row in
          let b = w.call-is_chosen.result in
          let one : rows_from left (drop i cuts) ≡ row ∷ [] = gone ∙ ap begun_range w.in-Some.is in
          IfOk-weaker c.finish.result _ _
          (λ ranges h. (
            before ++ b ∷ [],
            h
                ∙ ap (λ j. j.ranges.items ++ chosen_from j.begun [] []) w.joining-is
                ∙ w.in_ok-add-2.ensures [] []
                ∙ ap (λ l. c.loop-cut.joining.ranges.items ++ chosen_from c.loop-cut.joining.begun l (b ∷ [])) (sym one)
                ∙ so_far.1 (b ∷ []),
            (λ has answers.
                let told : b ≡ has (last_token row.right) = answers (last_token row.right) b (subst IsToken w.last_token.ensures w.copy-in-Some.ensures.token) (subst (λ t. goal.F-post g c.args.test t b) (w.in_ok-copy-2.ensures.copied ∙ w.last_token.ensures) w.call-is_chosen.ensures) in
                (λ j. before ++ told j ∷ [])
                ∙ ap (λ l. before ++ chosen_by has l) (sym one)
                ∙ so_far.2 has answers),
          ))
          c.finish.ensures
      | in_default w ↦
          let none : rows_from left (drop i cuts) ≡ [] = gone ∙ ap begun_range w.in_default.is in
          IfOk-weaker c.finish.result _ _
          (λ ranges h. (
            before,
            h
                ∙ ap (λ j. j.ranges.items ++ chosen_from j.begun [] []) w.joining-is
                ∙ ap (λ l. c.loop-cut.joining.ranges.items ++ chosen_from c.loop-cut.joining.begun l []) (sym none)
                ∙ so_far.1 []
                ∙ ap (chosen_from None (rows_between cuts)) (append-nil before),
            (λ has answers.
                sym (append-nil before)
                ∙ ap (λ l. before ++ chosen_by has l) (sym none)
                ∙ so_far.2 has answers),
          ))
          c.finish.ensures
    ]
