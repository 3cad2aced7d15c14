-- The entries of a reply, and how far they lead.
use Rattle.std.proofs.Common.{◌≡◌, ℕ, suc, ◌+◌, ◌-◌, ◌<◌, ◌≤◌, ◌==◌, min, ◌&&◌, if◌then◌else◌, List, [], ◌∷◌, ◌++◌, length, get_or, take, drop, nat_lt, Bool, true, false, unwrap_or, Option, Some, None, refl, sym, ap, ◌∙◌, length-drop, arith}
use Rattle.std.specs.List.{slice_get}
use Rattle.std.specs.Option.{IfSome, option_map}
use Rattle.std.proofs.Math.Seq.{take-suc}
use Rattle.std.proofs.lemmas.Bool.{ne_eqb}
use Rattle.std.proofs.lemmas.Bool.Decides.{nat_tests}
use Rattle.std.proofs.lemmas.List.{get_or-drop, length-take}
use Rattle.std.proofs.lemmas.Option.{get_or_from_slice_get}
use Rattle.transformations.proofs.histories.HistoryLemmas.{epoch_after}
use Rattle.transformations.proofs.histories.LogLemmas.{length-commands_of}
use Rattle.transformations.specs.History.{state_after}
use Rattle.transformations.specs.Log.{commands_of}
use Rattle.transformations.specs.declared.entry.Entry.{Entry}
use Rattle.transformations.specs.declared.image.Image.{Image}
use Rattle.catch_up.specs.Replies.{base_epoch, end_epoch, entries_after, image_epoch}
use Rattle.epoch_log.specs.Epochs.{entry_at}

-- ---- the entries after an epoch, one after another

entry_there : (log : List Entry) (before : ℕ) (entry : Entry) → Some entry ≡ entry_at log (before + 1) → get_or log before entry ≡ entry
entry_there log before entry there =
    let later : (before + 1 == 0) ≡ false = ne_eqb (before + 1) 0 (λ zero. omega (arith, zero)) in
    let place : before + 1 - 1 ≡ before = omega arith in
    let here : Some entry ≡ slice_get log before = there ∙ rw (later, place) refl in
    get_or_from_slice_get log before entry entry (sym here)

-- one entry more
pub one_more : (log : List Entry) (epoch before : ℕ) (entry copied : Entry) (entries entries' : List Entry) → epoch ≤ before → before < length log → Some entry ≡ entry_at log (before + 1)
    → copied ≡ entry → entries ≡ take (before - epoch) (drop epoch log) → entries' ≡ entries ++ copied ∷ [] → entries' ≡ take (before + 1 - epoch) (drop epoch log)
one_more log epoch before entry copied entries entries' order within there same are more =
    let n : ℕ = before - epoch in
    let next : before + 1 - epoch ≡ suc n = omega (arith, order) in
    let place : epoch + n ≡ before = omega (arith, order) in
    let inside : n < length (drop epoch log) = omega (arith, order, within, length-drop epoch log) in
    let here : get_or (drop epoch log) n entry ≡ entry = get_or-drop epoch log n entry ∙ ap (λ m. get_or log m entry) place ∙ entry_there log before entry there in
    more ∙ ap (λ (l : List Entry). l ++ copied ∷ []) are ∙ ap (λ (e : Entry). take n (drop epoch log) ++ e ∷ []) (same ∙ sym here)
    ∙ sym (take-suc (drop epoch log) n entry inside) ∙ ap (λ m. take m (drop epoch log)) (sym next)

-- ---- the base of a reply

pub base_between : (last since max : ℕ) → IfSome (base_epoch last since max) (λ base. (since < base) × (base ≤ last))
base_between last since max = by (nat_lt max (last - since)) (nat_lt since (image_epoch last)) refl
  where
    by : (many past : Bool) → nat_lt since (image_epoch last) ≡ past → IfSome (if many && past then Some (image_epoch last) else None) (λ base. (since < base) × (base ≤ last))
    by false past is = tt
    by true false is = tt
    by true true is = (grind (arith, nat_tests), omega arith)

-- ---- how far a reply leads

epoch_at : (log : List Entry) (e : ℕ) → e ≤ length log → (state_after (commands_of log) e).epoch ≡ e
epoch_at log e within = omega (arith, within, epoch_after (take e (commands_of log)), length-take e (commands_of log), length-commands_of log)

pub leads_far : (log : List Entry) (since max : ℕ) (image : Option Image) (entries : List Entry) → since ≤ length log
    → image ≡ option_map (state_after (commands_of log)) (base_epoch (length log) since max) → entries ≡ entries_after log (unwrap_or (base_epoch (length log) since max) since) max
    → min (length log) (since + max) ≤ end_epoch (record { since = since; image = image; entries = entries })
leads_far log since max image entries order states are =
    rw (states, are) (by (base_epoch (length log) since max) (base_between (length log) since max))
  where
    count : (epoch : ℕ) → length (entries_after log epoch max) ≡ min max (length log - epoch)
    count epoch = length-take max (drop epoch log) ∙ ap (min max) (length-drop epoch log)

    by : (base : Option ℕ) → IfSome base (λ base. (since < base) × (base ≤ length log))
        → min (length log) (since + max) ≤ end_epoch (record { since = since; image = option_map (state_after (commands_of log)) base; entries = entries_after log (unwrap_or base since) max })
    by None between = omega (arith, order, count since)
    by (Some base) between = omega (arith, between.0, between.1, count base, epoch_at log base between.1)
