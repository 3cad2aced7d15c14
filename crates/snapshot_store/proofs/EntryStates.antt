-- The entries of a log, whose commands are taken over one after another.
use Rattle.std.proofs.Common.{◌≡◌, ℕ, ◌+◌, ◌-◌, ◌<◌, if◌then◌else◌, List, [], ◌∷◌, length, get_or, Some, None, sym, ap, ◌∙◌, subst, arith}
use Rattle.std.specs.List.{slice_get}
use Rattle.std.proofs.lemmas.Bool.{ne_eqb}
use Rattle.std.proofs.lemmas.List.{get_or-map}
use Rattle.std.proofs.lemmas.Option.{get_or_from_slice_get, none-some, slice_get-get_or}
use Rattle.transformations.proofs.histories.HistoryLemmas.{IsNext, next_at, state-more}
use Rattle.transformations.proofs.histories.LogLemmas.{length-commands_of}
use Rattle.transformations.specs.History.{IsHistory, next_image, state_after}
use Rattle.transformations.specs.Log.{commands_of}
use Rattle.transformations.specs.declared.entry.Entry.{Entry}
use Rattle.transformations.specs.declared.image.Image.{Image}
use Rattle.epoch_log.specs.Epochs.{entry_at}

-- the entry after some entries
pub entry_at-next : (log : List Entry) (before : ℕ) → entry_at log (before + 1) ≡ slice_get log before
entry_at-next log before =
    ap (λ b. if b then None else slice_get log (before + 1 - 1)) (ne_eqb (before + 1) 0 (λ e. omega arith))
    ∙ ap (slice_get log) (omega arith)

-- an epoch of the log has an entry
pub entry_not_missing : (log : List Entry) (before : ℕ) → before < length log → None ≡ entry_at log (before + 1) → ⊥
entry_not_missing log before within missing = by log before within (sym (entry_at-next log before) ∙ sym missing)
  where
    by : (log : List Entry) (before : ℕ) → before < length log → slice_get log before ≡ None → ⊥
    by (first ∷ log) before within none = none-some (get_or (first ∷ log) before first) (sym none ∙ slice_get-get_or (first ∷ log) before first within)
    by [] before within none = omega (arith, within)

module _ (log : List Entry) (before : ℕ) (entry : Entry) (within : before < length log) (there : Some entry ≡ entry_at log (before + 1)) where
  command_there : entry.cmd ≡ get_or (commands_of log) before entry.cmd
  command_there =
      let here : get_or log before entry ≡ entry = get_or_from_slice_get log before entry entry (sym (entry_at-next log before) ∙ sym there) in
      sym (get_or-map (λ (e : Entry). e.cmd) log before entry entry.cmd within ∙ ap (λ (e : Entry). e.cmd) here)

  within_commands : before < length (commands_of log)
  within_commands = omega (arith, within, length-commands_of log)

  -- its command can be taken over next, and leads to the next state
  pub is_next : (image : Image) → IsHistory (commands_of log) → image ≡ state_after (commands_of log) before → IsNext image entry.cmd
  is_next image history is = subst (λ (i : Image). IsNext i entry.cmd) (sym is) (next_at (commands_of log) before entry.cmd history within_commands command_there)

  pub next_state : (image image' : Image) → image ≡ state_after (commands_of log) before → image' ≡ next_image image entry.cmd → image' ≡ state_after (commands_of log) (before + 1)
  next_state image image' is enacted =
      enacted ∙ ap (λ i. next_image i entry.cmd) is ∙ state-more (commands_of log) before entry.cmd within_commands command_there
