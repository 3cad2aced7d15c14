use Rattle.std.proofs.Common.{◌≡◌, false, ◌||◌, sym, ap, ◌∙◌}
use Rattle.std.specs.List.{list_any}
use Rattle.std.specs.Ordering.{int_eq}
use Rattle.cluster_terms.specs.declared.token.Pair.{Pair}
use Rattle.transformations.specs.declared.sequence.SeqRow.{SeqRow}
use Rattle.transformations.proofs.commands.RefusalLemmas.{taken-by}
use Rattle.transformations.proofs.refusals.is_taken.Goals as goal

pub returns-else-finds : goal.returns-else-finds
returns-else-finds c =
    let t = c.args.token in
    let image = c.args.image.now in
    let none : list_any (λ (p : Pair). int_eq p.token t) image.tokens ≡ false =
    ap (list_any (λ (p : Pair). int_eq p.token t)) (sym c.as_slice.ensures) ∙ sym c.finds.ensures ∙ c.if-finds.false in
    let brought = c.is_brought.ensures ∙ ap (list_any (λ (s : SeqRow). list_any (λ (p : Pair). int_eq p.token t) s.in_pairs)) c.as_slice-else-finds.ensures in
    brought ∙ sym (taken-by image t ∙ ap (λ b. b || list_any (λ (s : SeqRow). list_any (λ (p : Pair). int_eq p.token t) s.in_pairs) image.sequences) none)
