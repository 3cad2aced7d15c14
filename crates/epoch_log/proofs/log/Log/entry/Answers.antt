use Rattle.std.proofs.Common.{ℕ, ap, ◌∙◌}
use Rattle.std.specs.Option.{option_copied, option_map}
use Rattle.transformations.specs.declared.entry.Entry.{Entry}
use Rattle.epoch_log.proofs.StoredLemmas.{entry_stored}
use Rattle.epoch_log.proofs.log.Log.entry.Goals as goal

pub returns-in_err-_id-clause-entry : goal.returns-in_err-_id-clause-entry
returns-in_err-_id-clause-entry c =
    ap option_copied c.from_residual-in_err-_id.ensures ∙ ap (option_map (λ (e : ℕ × Entry). e.1)) c.in_err-_id.ensures.entry ∙ entry_stored c.self.inside.entries.entries c.args.self.now c.args.epoch c.in_ok-at.at c.self.view_is c.in_ok-at.ensures.0 c.in_ok-at.ensures.1

pub returns-clause-entry : goal.returns-clause-entry
returns-clause-entry c =
    ap (option_map (λ (e : ℕ × Entry). e.1)) c.in_ok-_id.ensures.entry ∙ entry_stored c.self.inside.entries.entries c.args.self.now c.args.epoch c.in_ok-at.at c.self.view_is c.in_ok-at.ensures.0 c.in_ok-at.ensures.1
