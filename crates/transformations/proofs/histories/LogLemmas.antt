-- The log: how it grows by a commit, and which entry an id finds.
use Rattle.std.proofs.Common.{◌≡◌, ℕ, suc, ◌+◌, Ok, Bool, true, false, ◌==◌, cond, List, [], ◌∷◌, ◌++◌, length, Option, Some, None, is_none, IsTrue, inl, inr, ◌⊎◌, true≢false, refl, sym, ap, ◌∙◌, subst, eq-eqb, append-nil, arith}
use Rattle.std.specs.List.{Contains}
use Rattle.std.proofs.lemmas.Bool.{and_parts, and_from, eqb-true, eqb-false, ne_eqb}
use Rattle.std.proofs.lemmas.List.{map-append}
use Rattle.std.proofs.lemmas.List.Elements.{Contains-append_cases, Contains-push_cases}
use Rattle.std.proofs.lemmas.Option.{none-some}
use Rattle.transformations.proofs.commands.SameLemmas.{same_command_tells}
use Rattle.transformations.proofs.histories.HistoryLemmas.{history_push}
use Rattle.transformations.specs.History.{IsHistory, commit_refusal, is_command}
use Rattle.transformations.specs.Log.{AreEntries, IsLog, are_numbered, commands_of, commit_by, commit_of, entry_with_id, have_own_ids}
use Rattle.transformations.specs.Same.{same_command}
use Rattle.transformations.specs.declared.command.Command.{Command}
use Rattle.transformations.specs.declared.entry.Entry.{Entry}
use Rattle.transformations.specs.declared.refusal.Refusal.{Refusal}

-- ---- one entry more

pub commands_of-push : (log : List Entry) (entry : Entry) → commands_of (log ++ entry ∷ []) ≡ commands_of log ++ entry.cmd ∷ []
commands_of-push log entry = map-append (λ (e : Entry). e.cmd) log (entry ∷ [])

pub length-commands_of : (log : List Entry) → length (commands_of log) ≡ length log
length-commands_of [] = refl
length-commands_of (entry ∷ log) = ap suc (length-commands_of log)

pub are_numbered-push : (epoch : ℕ) (log : List Entry) (entry : Entry) → are_numbered epoch log ≡ true → entry.epoch ≡ epoch + length log → are_numbered epoch (log ++ entry ∷ []) ≡ true
are_numbered-push epoch [] entry all is = and_from (entry.epoch == epoch) true (eq-eqb entry.epoch epoch (omega arith)) refl
are_numbered-push epoch (first ∷ log) entry all is =
    let parts = and_parts (first.epoch == epoch) (are_numbered (epoch + 1) log) all in
    and_from (first.epoch == epoch) (are_numbered (epoch + 1) (log ++ entry ∷ [])) parts.0 (are_numbered-push (epoch + 1) log entry parts.1 (omega arith))

-- an id that finds none has none at the head and none behind it
record FindsNone (id : ℕ) (first : Entry) (log : List Entry) : Type 0 where
  head : (id == first.id) ≡ false
  rest : entry_with_id log id ≡ None

finds_none : (id : ℕ) (first : Entry) (log : List Entry) → entry_with_id (first ∷ log) id ≡ None → FindsNone id first log
finds_none id first log none = by (id == first.id) refl none
  where
    by : (b : Bool) → (id == first.id) ≡ b → cond b (Some first) (entry_with_id log id) ≡ None → FindsNone id first log
    by true e none = absurd (none-some first (sym none))
    by false e none = record { head = e; rest = none }

finds_none-cons : (id : ℕ) (first : Entry) (log : List Entry) → (id == first.id) ≡ false → entry_with_id log id ≡ None → entry_with_id (first ∷ log) id ≡ None
finds_none-cons id first log head rest = ap (λ b. cond b (Some first) (entry_with_id log id)) head ∙ rest

entry_with_id-push : (log : List Entry) (entry : Entry) (id : ℕ) → (id == entry.id) ≡ false → entry_with_id log id ≡ None → entry_with_id (log ++ entry ∷ []) id ≡ None
entry_with_id-push [] entry id apart none = finds_none-cons id entry [] apart refl
entry_with_id-push (first ∷ log) entry id apart none =
    let is = finds_none id first log none in
    finds_none-cons id first (log ++ entry ∷ []) is.head (entry_with_id-push log entry id apart is.rest)

none_is : (o : Option Entry) → is_none o ≡ true → o ≡ None
none_is None e = refl
none_is (Some entry) e = absurd (true≢false (sym e))

apart_both : (a b : ℕ) → (a == b) ≡ false → (b == a) ≡ false
apart_both a b e = ne_eqb b a (λ same. eqb-false a b e (sym same))

pub have_own_ids-push : (log : List Entry) (entry : Entry) → have_own_ids log ≡ true → entry_with_id log entry.id ≡ None → have_own_ids (log ++ entry ∷ []) ≡ true
have_own_ids-push [] entry all none = refl
have_own_ids-push (first ∷ log) entry all none =
    let parts = and_parts (is_none (entry_with_id log first.id)) (have_own_ids log) all in
    let is = finds_none entry.id first log none in
    let still : entry_with_id (log ++ entry ∷ []) first.id ≡ None =
    entry_with_id-push log entry first.id (apart_both entry.id first.id is.head) (none_is (entry_with_id log first.id) parts.0) in
    and_from (is_none (entry_with_id (log ++ entry ∷ []) first.id)) (have_own_ids (log ++ entry ∷ [])) (ap is_none still) (have_own_ids-push log entry parts.1 is.rest)

pub entries_push : (log : List Entry) (entry : Entry) → AreEntries log → entry.epoch ≡ length log + 1 → entry_with_id log entry.id ≡ None → AreEntries (log ++ entry ∷ [])
entries_push log entry all epoch none =
    let parts = and_parts (are_numbered 1 log) (have_own_ids log) all in
    and_from (are_numbered 1 (log ++ entry ∷ [])) (have_own_ids (log ++ entry ∷ []))
    (are_numbered-push 1 log entry parts.0 (omega arith)) (have_own_ids-push log entry parts.1 none)

pub entries_empty : AreEntries []
entries_empty = refl

-- ---- a commit

pub log_push : (log : List Entry) (entry : Entry) → IsLog log → entry.epoch ≡ length log + 1 → entry_with_id log entry.id ≡ None → is_command entry.cmd ≡ true
    → commit_refusal (commands_of log) entry.cmd ≡ None → IsLog (log ++ entry ∷ [])
log_push log entry is epoch none right accepted =
    record {
      entries = entries_push log entry is.entries epoch none;
      history = subst IsHistory (sym (commands_of-push log entry)) (history_push (commands_of log) entry.cmd is.history right accepted);
    }

pub log_kept : (log : List Entry) (id : ℕ) (c : Command) → IsLog log → IsTrue (is_command c) → IsLog (log ++ (commit_of log id c).added)
log_kept log id c is right = by (entry_with_id log id) refl
  where
    same : IsLog (log ++ [])
    same = subst IsLog (sym (append-nil log)) is

    decide : entry_with_id log id ≡ None → (o : Option Refusal) → commit_refusal (commands_of log) c ≡ o → IsLog (log ++ (commit_by log id c None).added)
    decide none (Some refusal) e = rw e same
    decide none None e = rw e (log_push log (record { id = id; epoch = length log + 1; cmd = c }) is refl none right e)

    by : (o : Option Entry) → entry_with_id log id ≡ o → IsLog (log ++ (commit_by log id c o).added)
    by (Some entry) e = same
    by None e = decide e (commit_refusal (commands_of log) c) refl

-- ---- an id that is in the log

abbrev Finds : List Entry → Entry → Type 0
Finds log entry = entry_with_id log entry.id ≡ Some entry

finds_head : (log : List Entry) (entry : Entry) → Finds (entry ∷ log) entry
finds_head log entry = ap (λ b. cond b (Some entry) (entry_with_id log entry.id)) (eq-eqb entry.id entry.id refl)

-- an entry of a list without a common id is the one that its id finds
pub finds_own : (log : List Entry) (entry : Entry) → have_own_ids log ≡ true → Contains log entry → Finds log entry
finds_own [] entry own at = absurd (omega (arith, at.1))
finds_own (first ∷ log) entry own at = cases (Contains-append_cases (first ∷ []) log entry at) (finds_own log entry)
  where
    parts : (is_none (entry_with_id log first.id) ≡ true) × (have_own_ids log ≡ true)
    parts = and_parts (is_none (entry_with_id log first.id)) (have_own_ids log) own

    behind : (b : Bool) → (entry.id == first.id) ≡ b → Finds log entry → entry_with_id log first.id ≡ None → cond b (Some first) (entry_with_id log entry.id) ≡ Some entry
    behind true e found none =
        let same : entry.id ≡ first.id = eqb-true entry.id first.id e in
        absurd (none-some entry (sym none ∙ ap (entry_with_id log) (sym same) ∙ found))
    behind false e found none = found

    cases : Contains (first ∷ []) entry ⊎ Contains log entry → (have_own_ids log ≡ true → Contains log entry → Finds log entry) → Finds (first ∷ log) entry
    cases (inl one) later =
        elim (Contains-push_cases [] first entry one) [
          | inl none ↦ absurd (omega (arith, none.1))
          | inr is ↦ subst (Finds (first ∷ log)) is (finds_head log first)
        ]
    cases (inr more) later = behind (entry.id == first.id) refl (later parts.1 more) (none_is (entry_with_id log first.id) parts.0)

pub id_acts_once : (log : List Entry) (entry : Entry) (c : Command) → IsLog log → Contains log entry → (commit_of log entry.id c).added ≡ []
id_acts_once log entry c is at =
    let found = finds_own log entry (and_parts (are_numbered 1 log) (have_own_ids log) is.entries).1 at in
    ap (λ o. (commit_by log entry.id c o).added) found

pub id_answers_again : (log : List Entry) (entry : Entry) → IsLog log → Contains log entry → (commit_of log entry.id entry.cmd).answer ≡ Ok entry.epoch
id_answers_again log entry is at =
    let found = finds_own log entry (and_parts (are_numbered 1 log) (have_own_ids log) is.entries).1 at in
    let same : same_command entry.cmd entry.cmd ≡ true = (same_command_tells entry.cmd entry.cmd).1 refl in
    ap (λ o. (commit_by log entry.id entry.cmd o).answer) found ∙ rw same refl
