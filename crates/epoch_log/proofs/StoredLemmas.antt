-- Entries that are stored under their ids, in order of epoch.
use Rattle.std.proofs.Common.{◌≡◌, ℕ, ◌+◌, ◌-◌, ◌≤◌, ◌<◌, Bool, true, false, ◌==◌, cond, List, [], ◌∷◌, ◌++◌, length, take, slice_get, nat_eq, Option, Some, None, is_none, IsSome, true≢false, refl, sym, ap, ◌∙◌, arith, length-append}
use Rattle.std.proofs.lemmas.Bool.{and_parts, and_from, ne_eqb}
use Rattle.std.proofs.lemmas.List.{map-append}
use Rattle.std.proofs.lemmas.Option.{slice_get-map}
use Rattle.std.proofs.Math.Seq.{take-append_seam}
use Rattle.std.specs.Map.{values_of, lookup}
use Rattle.std.specs.Option.{option_map, option_to_list}
use Rattle.indexmap.proofs.CallerLemmas.{insert_entry-new}
use Rattle.indexmap.specs.IndexMap.{IndexMap, insert_entry}
use Rattle.transformations.proofs.histories.LogLemmas.{entries_push}
use Rattle.transformations.specs.Log.{AreEntries, are_numbered, entry_with_id, have_own_ids}
use Rattle.transformations.specs.declared.entry.Entry.{Entry}
use Rattle.epoch_log.specs.Epochs.{AreById, AreUpTo, IsStored, entry_at}

-- ---- the first entries of a log

are_numbered-front : (epoch : ℕ) (log more : List Entry) → are_numbered epoch (log ++ more) ≡ true → are_numbered epoch log ≡ true
are_numbered-front epoch [] more all = refl
are_numbered-front epoch (first ∷ log) more all =
    let parts = and_parts (first.epoch == epoch) (are_numbered (epoch + 1) (log ++ more)) all in
    and_from (first.epoch == epoch) (are_numbered (epoch + 1) log) parts.0 (are_numbered-front (epoch + 1) log more parts.1)

entry_with_id-front : (log more : List Entry) (id : ℕ) → entry_with_id (log ++ more) id ≡ None → entry_with_id log id ≡ None
entry_with_id-front [] more id none = refl
entry_with_id-front (first ∷ log) more id none = by (id == first.id) (entry_with_id-front log more id) none
  where
    by : (b : Bool) → (entry_with_id (log ++ more) id ≡ None → entry_with_id log id ≡ None) → cond b (Some first) (entry_with_id (log ++ more) id) ≡ None → cond b (Some first) (entry_with_id log id) ≡ None
    by true rest none = none
    by false rest none = rest none

none_is : (o : Option Entry) → is_none o ≡ true → o ≡ None
none_is None e = refl
none_is (Some entry) e = absurd (true≢false (sym e))

have_own_ids-front : (log more : List Entry) → have_own_ids (log ++ more) ≡ true → have_own_ids log ≡ true
have_own_ids-front [] more all = refl
have_own_ids-front (first ∷ log) more all =
    let parts = and_parts (is_none (entry_with_id (log ++ more) first.id)) (have_own_ids (log ++ more)) all in
    let none = entry_with_id-front log more first.id (none_is (entry_with_id (log ++ more) first.id) parts.0) in
    and_from (is_none (entry_with_id log first.id)) (have_own_ids log) (ap is_none none) (have_own_ids-front log more parts.1)

pub entries_front : (log more : List Entry) → AreEntries (log ++ more) → AreEntries log
entries_front log more all =
    let parts = and_parts (are_numbered 1 (log ++ more)) (have_own_ids (log ++ more)) all in
    and_from (are_numbered 1 log) (have_own_ids log) (are_numbered-front 1 log more parts.0) (have_own_ids-front log more parts.1)

take-last : (log : List Entry) (last : Entry) → take (length (log ++ last ∷ []) - 1) (log ++ last ∷ []) ≡ log
take-last log last =
    let count : length (log ++ last ∷ []) - 1 ≡ length log = omega (arith, length-append log (last ∷ [])) in
    ap (λ n. take n (log ++ last ∷ [])) count ∙ take-append_seam log (last ∷ [])

-- ---- entries under their ids

first_id : (e : ℕ × Entry) (es : List (ℕ × Entry)) → AreById (e ∷ es) → e.0 ≡ e.1.id
first_id e es by_id = cc

other_ids : (e : ℕ × Entry) (es : List (ℕ × Entry)) → AreById (e ∷ es) → AreById es
other_ids e es by_id = cc

-- a look-up by id finds the entry with the id
pub lookup-by_id : (es : List (ℕ × Entry)) → AreById es → (id : ℕ) → lookup (nat_eq id) es ≡ entry_with_id (values_of es) id
lookup-by_id [] by_id id = refl
lookup-by_id (e ∷ es) by_id id =
    let first = first_id e es by_id in
    let rest = lookup-by_id es (other_ids e es by_id) id in
    rw (first, rest) refl

AreById-push : (es : List (ℕ × Entry)) (entry : Entry) → AreById es → AreById (es ++ (entry.id, entry) ∷ [])
AreById-push [] entry by_id = refl
AreById-push (e ∷ es) entry by_id =
    let first = first_id e es by_id in
    let rest : AreById (es ++ (entry.id, entry) ∷ []) = AreById-push es entry (other_ids e es by_id) in
    cc

AreById-front : (es more : List (ℕ × Entry)) → AreById (es ++ more) → AreById es
AreById-front [] more by_id = refl
AreById-front (e ∷ es) more by_id =
    let first = first_id e (es ++ more) by_id in
    let rest : AreById es = AreById-front es more (other_ids e (es ++ more) by_id) in
    cc

-- ---- the greatest id

-- an id above all ids is in no entry
pub none_above : (log : List Entry) (greatest id : ℕ) → AreUpTo greatest log → greatest < id → entry_with_id log id ≡ None
none_above [] greatest id up_to above = refl
none_above (first ∷ log) greatest id up_to above =
    let other : (id == first.id) ≡ false = ne_eqb id first.id (λ same. omega (arith, up_to.0, above, same)) in
    rw other (none_above log greatest id up_to.1 above)

-- another entry raises the greatest id to its own
pub up_to_push : (log : List Entry) (entry : Entry) (greatest now : ℕ) → AreUpTo greatest log → greatest ≤ now → entry.id ≤ now → AreUpTo now (log ++ entry ∷ [])
up_to_push [] entry greatest now up_to rises own = (own, tt)
up_to_push (first ∷ log) entry greatest now up_to rises own =
    (omega (arith, up_to.0, rises), up_to_push log entry greatest now up_to.1 rises own)

pub up_to_front : (log more : List Entry) (greatest : ℕ) → AreUpTo greatest (log ++ more) → AreUpTo greatest log
up_to_front [] more greatest up_to = tt
up_to_front (first ∷ log) more greatest up_to = (up_to.0, up_to_front log more greatest up_to.1)

pub up_to_pop : (es rest : List (ℕ × Entry)) (last : Option (ℕ × Entry)) (greatest : ℕ) → AreUpTo greatest (values_of es) → es ≡ rest ++ option_to_list last → AreUpTo greatest (values_of rest)
up_to_pop es rest last greatest up_to is =
    let values : values_of es ≡ values_of rest ++ values_of (option_to_list last) = ap values_of is ∙ map-append (λ (e : ℕ × Entry). e.1) rest (option_to_list last) in
    up_to_front (values_of rest) (values_of (option_to_list last)) greatest (rw (← values) up_to)

-- ---- the changes of a log

-- what is stored is a log, and it is this one
pub record Stores (es : List (ℕ × Entry)) (log : List Entry) : Type 0 where
  pub stored : IsStored es
  pub shows : values_of es ≡ log

pub stored_push : {S : Type 0} (m new : IndexMap ℕ Entry S) (log : List Entry) (entry : Entry) → IsStored m.entries → values_of m.entries ≡ log → entry.epoch ≡ length log + 1 → entry_with_id log entry.id ≡ None
    → new.entries ≡ insert_entry nat_eq m.entries entry.id entry → Stores new.entries (log ++ entry ∷ [])
stored_push m new log entry stored shows epoch none is =
    let absent : lookup (nat_eq entry.id) m.entries ≡ None = lookup-by_id m.entries stored.0 entry.id ∙ ap (λ log. entry_with_id log entry.id) shows ∙ none in
    let last : new.entries ≡ m.entries ++ (entry.id, entry) ∷ [] = is ∙ insert_entry-new nat_eq m entry.id entry absent in
    let values : values_of new.entries ≡ log ++ entry ∷ [] = ap values_of last ∙ map-append (λ (e : ℕ × Entry). e.1) m.entries ((entry.id, entry) ∷ []) ∙ ap (λ log. log ++ entry ∷ []) shows in
    let before : AreEntries log = rw (← shows) stored.1 in
    record { stored = (rw last (AreById-push m.entries entry stored.0), rw values (entries_push log entry before epoch none)); shows = values }

pub stored_pop : (es rest : List (ℕ × Entry)) (last : Option (ℕ × Entry)) (log : List Entry) → IsStored es → values_of es ≡ log → es ≡ rest ++ option_to_list last → IsSome last
    → Stores rest (take (length log - 1) log)
stored_pop es rest None log stored shows is some = absurd (true≢false (sym some))
stored_pop es rest (Some e) log stored shows is some =
    let values : values_of es ≡ values_of rest ++ e.1 ∷ [] = ap values_of is ∙ map-append (λ (e : ℕ × Entry). e.1) rest (e ∷ []) in
    let before : AreById (rest ++ e ∷ []) = rw (← is) stored.0 in
    let all : AreEntries (values_of rest ++ e.1 ∷ []) = rw (← values) stored.1 in
    record {
      stored = (AreById-front rest (e ∷ []) before, entries_front (values_of rest) (e.1 ∷ []) all);
      shows = sym (take-last (values_of rest) e.1) ∙ ap (λ log. take (length log - 1) log) (sym values ∙ shows);
    }

-- the entry at an epoch is the value that is stored one position before
pub entry_stored : (es : List (ℕ × Entry)) (log : List Entry) (epoch at : ℕ) → values_of es ≡ log → 1 ≤ epoch → at ≡ epoch - 1 → option_map (λ e. e.1) (slice_get es at) ≡ entry_at log epoch
entry_stored es log epoch at shows some place =
    let later : (epoch == 0) ≡ false = ne_eqb epoch 0 (λ zero. omega (arith, zero, some)) in
    let value : option_map (λ e. e.1) (slice_get es at) ≡ slice_get log at = sym (slice_get-map (λ (e : ℕ × Entry). e.1) es at) ∙ ap (λ log. slice_get log at) shows in
    rw (later, ← place) value
