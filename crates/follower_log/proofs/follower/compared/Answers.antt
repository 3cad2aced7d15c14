use Rattle.std.proofs.Common.{◌≡◌, Ok, true≢false, refl, sym, ap, ◌∙◌}
use Rattle.follower_log.proofs.AdvanceLemmas.{compared_other, compared_same}
use Rattle.follower_log.specs.Follower.{Handed}
use Rattle.follower_log.specs.declared.took.Took.TheVariants.{Held}
use Rattle.follower_log.proofs.follower.compared.Goals as goal

pub returns-then-same-clause-step : goal.returns-then-same-clause-step
returns-then-same-clause-step c f at epochs =
    let step = compared_same f c.args.held.now c.args.came.now (c.same.ensures.0 c.if-same.true) in
    (ap (λ k. Ok (Held k)) (sym at) ∙ sym (ap (λ (h : Handed). h.answer) step), refl)

pub returns-in_ok-copy-2-clause-step : goal.returns-in_ok-copy-2-clause-step
returns-in_ok-copy-2-clause-step c f at epochs =
    let apart : c.args.held.now ≡ c.args.came.now → ⊥ = λ e. true≢false (sym (c.same.ensures.1 e) ∙ c.if-same.false) in
    let step = compared_other f c.args.held.now c.args.came.now epochs apart in
    (rw (c.in_ok-copy.ensures, c.in_ok-copy-2.ensures) (sym (ap (λ (h : Handed). h.answer) step)), refl)
