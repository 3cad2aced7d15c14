-- The log in a file: its commands are a history that lines may commit, and the text of a refused line is plain.
use Rattle.std.proofs.Common.{◌≡◌, ℕ, Bool, true, false, if◌then◌else◌, List, [], ◌∷◌, ◌++◌, ◌+◌, ◌==◌, length, Option, Some, None, option_map, Result, Ok, Err, codes, decimal, refl, sym, subst, arith}
use Rattle.std.specs.List.{AllByRecursion}
use Rattle.std.specs.Option.{IfSome}
use Rattle.std.specs.Str.{bytes_eq}
use Rattle.std.proofs.lemmas.Bool.{eqb-true}
use Rattle.std.proofs.lemmas.Option.{IfSome_then, none-some}
use Rattle.std.specs.Fmt.{signed_decimal}
use Rattle.cluster_terms.specs.Replication.{IsReplication}
use Rattle.cluster_terms.specs.ReplicationText.{replication_of, words_of}
use Rattle.transformations.specs.History.{commit_refusal, is_command}
use Rattle.transformations.specs.Log.{commands_of, entry_with_id}
use Rattle.transformations.specs.declared.command.Command.TheVariants.{Keyspace}
use Rattle.transformations.specs.declared.entry.Entry.{Entry}
use Rattle.transformations.specs.declared.refusal.Refusal.{Refusal}
use Rattle.wire_json.proofs.entries.EntryCommands.{HoldsOfKinds, reading_commands}
use Rattle.wire_json.proofs.entries.EntryTokens.{tokens_of_kinds}
use Rattle.wire_json.proofs.headers.HeaderNames.{reading_name}
use Rattle.wire_json.specs.Reading.{reading}
use Rattle.wire_json.specs.declared.line.Line.{Line}
use Rattle.wire_json.specs.declared.line.Line.TheVariants as line
use Rattle.wire_json.specs.declared.line.ReadLineFault.{ReadLineFault}
use Rattle.wire_json.specs.declared.line.ReadLineFault.TheVariants as read
use Rattle.script_lang.proofs.ReplicationWords.{of_replication}
use Rattle.script_lang.proofs.SaidLemmas.{IsFormed}
use Rattle.script_lang.specs.AnswerTexts.{refusal_text}
use Rattle.script_session.specs.Lines.{whole_lines}
use Rattle.script_session.specs.LogFiles.{cause_text, command_refused, entry_cause, entry_read, first_cause, fork_lines, goes_on, header_cause, header_read, id_again, log_after, log_for, log_from, log_in, log_of, next_entry, old_log_of, other_cluster, refused_head, refused_line_text, unless_refused, wrong_epoch}
use Rattle.script_session.specs.Machine.{session_over}
use Rattle.session_laws.specs.Shown.{IsOfNoQuorum}
use Rattle.script_session.specs.code.StepParts.{IsNextEntry}
use Rattle.script_session.specs.declared.refused_line.Cause.{Cause}
use Rattle.script_session.specs.declared.refused_line.Cause.TheVariants as cause
use Rattle.script_session.specs.declared.refused_line.RefusedLine.{RefusedLine}
use Rattle.session_laws.proofs.quorums.AnswerLines.{other_line}
use Rattle.wire_json.specs.EntryTexts.{entry_line}
use Rattle.session_laws.proofs.texts.PlainEntries.{entry_is_line}
use Rattle.session_laws.proofs.texts.PlainImages.{commit_plain}
use Rattle.session_laws.proofs.texts.PlainTexts.{plain_signed, HasPlainNames, is_plain, plain_decimal, plain_joined, plain_name, plain_refusal}
use Rattle.script_session.proofs.steps.SessionLemmas.{IsSession, added_entry, session_empty}
use Rattle.session_laws.proofs.texts.WholeLines.{AreLines, AreLines-append, AreLines-nil}

-- ---- the commands of lines

pub formed_kinds : HoldsOfKinds IsFormed
formed_kinds =
    record {
      register = λ name dc rack n d r. (n, d, r);
      unsafe_join = λ node tokens are. tt;
      keyspace = λ name text n. IfSome_then (replication_of text) {P = IsReplication} {Q = λ r. IsFormed (Keyspace name r)} (of_replication (words_of text)) (λ r is. (n, is));
      drop_keyspace = λ name n. tt;
      prepare_join = λ node tokens are. tt;
      prepare_move = λ node token. tt;
      prepare_replace = λ node gone. tt;
      of_node = λ n. (tt, (tt, (tt, (tt, (tt, (tt, (tt, (tt, (tt, (tt, (tt, (tt, (tt, (tt, (tt, tt)))))))))))))));
    }

-- ---- the next entry of a log

-- an entry that follows a log
record Follows (log : List Entry) (entry : Entry) : Type 0 where
  next : IsNextEntry log entry
  formed : IsFormed entry.cmd

-- no cause means that the epoch is the next, the id is new, and the command isn't refused
unrefused : (log : List Entry) (entry : Entry) → is_command entry.cmd ≡ true → entry_cause log entry ≡ None → IsNextEntry log entry
unrefused log entry right none = epoch (entry.epoch == length log + 1) refl none
  where
    command : entry.epoch ≡ length log + 1 → entry_with_id log entry.id ≡ None → (o : Option Refusal) → commit_refusal (commands_of log) entry.cmd ≡ o
        → first_cause (option_map (cause.Command entry.epoch) o ∷ []) ≡ None → IsNextEntry log entry
    command at fresh None accepted none = record { epoch = at; fresh = fresh; formed = right; accepted = accepted }
    command at fresh (Some r) refused none = absurd (none-some (cause.Command entry.epoch r) (sym none))

    id : entry.epoch ≡ length log + 1 → (o : Option Entry) → entry_with_id log entry.id ≡ o
        → first_cause (option_map (λ (earlier : Entry). cause.Id entry.id earlier.epoch) o ∷ command_refused log entry ∷ []) ≡ None → IsNextEntry log entry
    id at None fresh none = command at fresh (commit_refusal (commands_of log) entry.cmd) refl none
    id at (Some earlier) found none = absurd (none-some (cause.Id entry.id earlier.epoch) (sym none))

    epoch : (b : Bool) → (entry.epoch == length log + 1) ≡ b
        → first_cause ((if b then None else Some (cause.Epoch (length log + 1) entry.epoch)) ∷ id_again log entry ∷ command_refused log entry ∷ []) ≡ None → IsNextEntry log entry
    epoch true same none = id (eqb-true entry.epoch (length log + 1) same) (entry_with_id log entry.id) refl none
    epoch false other none = absurd (none-some (cause.Epoch (length log + 1) entry.epoch) (sym none))

follows : (log : List Entry) (bytes : List ℕ) (entry : Entry) → next_entry log bytes ≡ Ok entry → Follows log entry
unfolding next_entry
follows log bytes entry is = by (reading bytes) refl is
  where
    of_cause : (e : Entry) → reading bytes ≡ Ok (line.Entry e) → (o : Option Cause) → entry_cause log e ≡ o → unless_refused e o ≡ Ok entry → Follows log entry
    of_cause e there None none is =
        let same : e ≡ entry = cc in
        subst (Follows log) same
        (record {
          next = unrefused log e (reading_commands _ tokens_of_kinds bytes e there) none;
          formed = reading_commands IsFormed formed_kinds bytes e there;
        })
    of_cause e there (Some c) some is = absurd (cc)

    by : (r : Result Line ReadLineFault) → reading bytes ≡ r → entry_read log r ≡ Ok entry → Follows log entry
    by (Ok (line.Header came)) there is = absurd (cc)
    by (Ok (line.Entry e)) there is = of_cause e there (entry_cause log e) refl is
    by (Ok (line.Snapshot image)) there is = absurd (cc)
    by (Err (read.Bad rule)) there is = absurd (cc)
    by (Err read.Memory) there is = absurd (cc)

-- ---- the log

-- a log that a session may begin with
abbrev IsFormedLog : List Entry → Type 0
IsFormedLog log = IsSession (session_over log)

formed_next : (log : List Entry) (entry : Entry) → IsFormedLog log → Follows log entry → IsFormedLog (log ++ entry ∷ [])
formed_next log entry is f = (added_entry (session_over log) entry is f.next f.formed).is

formed_from : (first : ℕ) (lines : List (List ℕ)) (log log' : List Entry) → IsFormedLog log → log_from first log lines ≡ Ok log' → IsFormedLog log'
formed_from first [] log log' is e = (let same : log ≡ log' = cc in subst IsFormedLog same is)
formed_from first (bytes ∷ lines) log log' is e = by (next_entry log bytes) refl (λ entry formed rest. formed_from first lines (log ++ entry ∷ []) log' formed rest) e
  where
    by : (r : Result Entry Cause) → next_entry log bytes ≡ r → ((entry : Entry) → IsFormedLog (log ++ entry ∷ []) → log_from first (log ++ entry ∷ []) lines ≡ Ok log' → IsFormedLog log')
        → goes_on 1 (length log + first) r (λ entry. log_from first (log ++ entry ∷ []) lines) ≡ Ok log' → IsFormedLog log'
    by (Ok entry) next later e = later entry (formed_next log entry is (follows log bytes entry next)) e
    by (Err c) next later e = absurd (cc)

-- the log of a cluster, and the log of a file
pub session_for : (want : Option (List ℕ)) (file : List ℕ) (log : List Entry) → log_for want file ≡ Ok log → IsSession (session_over log)
session_for want file log e = by (whole_lines file) e
  where
    after : (o : Option Cause) (lines : List (List ℕ)) → log_after o lines ≡ Ok log → IsFormedLog log
    after None lines e = formed_from 2 lines [] log session_empty e
    after (Some c) lines e = absurd (cc)

    by : (lines : List (List ℕ)) → log_in want lines ≡ Ok log → IsFormedLog log
    by [] e = (let same : [] ≡ log = cc in subst IsFormedLog same session_empty)
    by (bytes ∷ lines) e = after (header_cause want bytes) lines e

pub session_file : (file : List ℕ) (log : List Entry) → log_of file ≡ Ok log → IsSession (session_over log)
session_file file log e = session_for None file log e

-- ---- a line that is refused

-- the names that a cause shows
abbrev pub HasPlainCause : Cause → Type 0
HasPlainCause (cause.Cluster want came) = (is_plain want ≡ true) × (is_plain came ≡ true)
HasPlainCause (cause.Command epoch refusal) = HasPlainNames refusal
HasPlainCause _ = Unit {0}

abbrev pub IfPlain : Option Cause → Type 0
IfPlain o = IfSome o HasPlainCause

first_plain : (os : List (Option Cause)) → AllByRecursion IfPlain os → IfPlain (first_cause os)
first_plain [] all = tt
first_plain (Some c ∷ os) all = all.0
first_plain (None ∷ os) all = first_plain os all.1

plain_epoch : (log : List Entry) (entry : Entry) → IfPlain (wrong_epoch log entry)
plain_epoch log entry = by (entry.epoch == length log + 1)
  where
    by : (b : Bool) → IfPlain (if b then None else Some (cause.Epoch (length log + 1) entry.epoch))
    by true = tt
    by false = tt

plain_id : (log : List Entry) (entry : Entry) → IfPlain (id_again log entry)
plain_id log entry = by (entry_with_id log entry.id)
  where
    by : (o : Option Entry) → IfPlain (option_map (λ (earlier : Entry). cause.Id entry.id earlier.epoch) o)
    by None = tt
    by (Some earlier) = tt

plain_command : (log : List Entry) (entry : Entry) → IsFormedLog log → IsFormed entry.cmd → IfPlain (command_refused log entry)
plain_command log entry is formed = by (commit_refusal (commands_of log) entry.cmd) (commit_plain (commands_of log) entry.cmd is.history.formed formed)
  where
    by : (o : Option Refusal) → IfSome o HasPlainNames → IfPlain (option_map (cause.Command entry.epoch) o)
    by None names = tt
    by (Some r) names = names

plain_cause : (log : List Entry) (entry : Entry) → IsFormedLog log → IsFormed entry.cmd → IfPlain (entry_cause log entry)
plain_cause log entry is formed =
    first_plain (wrong_epoch log entry ∷ id_again log entry ∷ command_refused log entry ∷ []) (plain_epoch log entry, (plain_id log entry, (plain_command log entry is formed, tt)))

-- a line that breaks a rule
abbrev line_refused : ℕ → Result Entry Cause
line_refused rule = Err (cause.Line rule)

refused_next : (log : List Entry) (bytes : List ℕ) (c : Cause) → IsFormedLog log → next_entry log bytes ≡ Err c → HasPlainCause c
unfolding next_entry
refused_next log bytes c is e = by (reading bytes) refl e
  where
    of_cause : (entry : Entry) (o : Option Cause) → IfPlain o → unless_refused entry o ≡ Err c → HasPlainCause c
    of_cause entry None plain e = absurd (cc)
    of_cause entry (Some d) plain e = (let same : d ≡ c = cc in subst HasPlainCause same plain)

    of_rule : (n : ℕ) → line_refused n ≡ Err c → HasPlainCause c
    of_rule n e = (let same : cause.Line n ≡ c = cc in subst HasPlainCause same tt)

    by : (r : Result Line ReadLineFault) → reading bytes ≡ r → entry_read log r ≡ Err c → HasPlainCause c
    by (Ok (line.Header came)) there e = (let same : cause.Header ≡ c = cc in subst HasPlainCause same tt)
    by (Ok (line.Entry entry)) there e = of_cause entry (entry_cause log entry) (plain_cause log entry is (reading_commands IsFormed formed_kinds bytes entry there)) e
    by (Ok (line.Snapshot image)) there e = (let same : cause.NotEntry ≡ c = cc in subst HasPlainCause same tt)
    by (Err (read.Bad rule)) there e = of_rule rule e
    by (Err read.Memory) there e = of_rule 0 e

refused_from : (first : ℕ) (lines : List (List ℕ)) (log : List Entry) (refused : RefusedLine) → IsFormedLog log → log_from first log lines ≡ Err refused → HasPlainCause refused.cause
refused_from first [] log refused is e = absurd (cc)
refused_from first (bytes ∷ lines) log refused is e = by (next_entry log bytes) refl (λ entry formed rest. refused_from first lines (log ++ entry ∷ []) refused formed rest) e
  where
    by : (r : Result Entry Cause) → next_entry log bytes ≡ r
        → ((entry : Entry) → IsFormedLog (log ++ entry ∷ []) → log_from first (log ++ entry ∷ []) lines ≡ Err refused → HasPlainCause refused.cause)
        → goes_on 1 (length log + first) r (λ entry. log_from first (log ++ entry ∷ []) lines) ≡ Err refused → HasPlainCause refused.cause
    by (Ok entry) next later e = later entry (formed_next log entry is (follows log bytes entry next)) e
    by (Err c) next later e =
        let here : RefusedLine = record { file = 1; line = length log + first; cause = c } in
        let same : here ≡ refused = cc in
        subst (λ (x : RefusedLine). HasPlainCause x.cause) same (refused_next log bytes c is next)

-- the names of clusters, in a header and as they are wanted
pub plain_cluster : (want : Option (List ℕ)) (came : List ℕ) → IfSome want (λ w. is_plain w ≡ true) → is_plain came ≡ true → IfPlain (other_cluster want came)
plain_cluster None came plain named = tt
plain_cluster (Some want) came plain named = by (bytes_eq want came)
  where
    by : (b : Bool) → IfPlain (if b then None else Some (cause.Cluster want came))
    by true = tt
    by false = (plain, named)

plain_header : (want : Option (List ℕ)) (bytes : List ℕ) → IfSome want (λ w. is_plain w ≡ true) → IfPlain (header_cause want bytes)
unfolding header_cause
plain_header want bytes plain = by (reading bytes) refl
  where
    by : (r : Result Line ReadLineFault) → reading bytes ≡ r → IfPlain (header_read want r)
    by (Ok (line.Header came)) there = plain_cluster want came plain (plain_name came (reading_name bytes came there))
    by (Ok (line.Entry entry)) there = tt
    by (Ok (line.Snapshot image)) there = tt
    by (Err (read.Bad rule)) there = tt
    by (Err read.Memory) there = tt

cause_plain : (c : Cause) → HasPlainCause c → is_plain (cause_text c) ≡ true
cause_plain (cause.Line rule) names = plain_decimal rule
cause_plain cause.Format names = refl
cause_plain cause.Header names = refl
cause_plain (cause.Cluster want came) names = plain_joined (codes "CLUSTER " ++ want) (codes " ") came names.0 refl names.1
cause_plain (cause.Epoch want came) names = plain_joined (codes "EPOCH " ++ decimal want) (codes " ") (decimal came) (plain_decimal want) refl (plain_decimal came)
cause_plain (cause.Id id epoch) names = plain_joined (codes "ID " ++ decimal id) (codes " ") (decimal epoch) (plain_decimal id) refl (plain_decimal epoch)
cause_plain cause.NotEntry names = refl
cause_plain (cause.Image bad) names = plain_joined (codes "IMAGE " ++ decimal bad.rule) (codes " ") (signed_decimal bad.value) (plain_decimal bad.rule) refl (plain_signed bad.value)
cause_plain (cause.Fork epoch held came) names = plain_decimal epoch
cause_plain (cause.Command epoch r) names = plain_joined (codes "COMMAND " ++ decimal epoch) (codes " ") (refusal_text r) (plain_decimal epoch) refl (plain_refusal r names)

fork_plain : (c : Cause) → AreLines IsOfNoQuorum (fork_lines c)
fork_plain (cause.Line rule) = AreLines-nil IsOfNoQuorum
fork_plain cause.Format = AreLines-nil IsOfNoQuorum
fork_plain cause.Header = AreLines-nil IsOfNoQuorum
fork_plain (cause.Cluster want came) = AreLines-nil IsOfNoQuorum
fork_plain cause.NotEntry = AreLines-nil IsOfNoQuorum
fork_plain (cause.Image bad) = AreLines-nil IsOfNoQuorum
fork_plain (cause.Epoch want came) = AreLines-nil IsOfNoQuorum
fork_plain (cause.Id id epoch) = AreLines-nil IsOfNoQuorum
fork_plain (cause.Command epoch r) = AreLines-nil IsOfNoQuorum
fork_plain (cause.Fork epoch held came) = AreLines-append IsOfNoQuorum (entry_line held) (entry_line came) (entry_is_line held) (entry_is_line came)

pub refused_text_lines : (refused : RefusedLine) → HasPlainCause refused.cause → AreLines IsOfNoQuorum (refused_line_text refused)
unfolding refused_line_text
refused_text_lines refused names =
    let place : is_plain (codes "REFUSED " ++ decimal refused.file ++ codes " " ++ decimal refused.line) ≡ true =
    plain_joined (codes "REFUSED " ++ decimal refused.file) (codes " ") (decimal refused.line) (plain_decimal refused.file) refl (plain_decimal refused.line) in
    let head : AreLines IsOfNoQuorum (refused_head refused) =
    other_line (codes "REFUSED " ++ decimal refused.file ++ codes " " ++ decimal refused.line ++ codes " " ++ cause_text refused.cause)
    (plain_joined (codes "REFUSED " ++ decimal refused.file ++ codes " " ++ decimal refused.line) (codes " ") (cause_text refused.cause) place refl (cause_plain refused.cause names))
    (λ e. omega arith) (λ e. omega arith) in
    AreLines-append IsOfNoQuorum (refused_head refused) (fork_lines refused.cause) head (fork_plain refused.cause)

pub refused_lines : (want : Option (List ℕ)) (file : List ℕ) (refused : RefusedLine) → IfSome want (λ w. is_plain w ≡ true) → log_for want file ≡ Err refused → AreLines IsOfNoQuorum (refused_line_text refused)
refused_lines want file refused plain e = refused_text_lines refused (by (whole_lines file) e)
  where
    after : (o : Option Cause) → IfPlain o → (lines : List (List ℕ)) → log_after o lines ≡ Err refused → HasPlainCause refused.cause
    after None named lines e = refused_from 2 lines [] refused session_empty e
    after (Some c) named lines e =
        let here : RefusedLine = record { file = 1; line = 1; cause = c } in
        let same : here ≡ refused = cc in
        subst (λ (x : RefusedLine). HasPlainCause x.cause) same named

    by : (lines : List (List ℕ)) → log_in want lines ≡ Err refused → HasPlainCause refused.cause
    by [] e = absurd (cc)
    by (bytes ∷ lines) e = after (header_cause want bytes) (plain_header want bytes plain) lines e

pub old_refused_lines : (file : List ℕ) (refused : RefusedLine) → old_log_of file ≡ Err refused → AreLines IsOfNoQuorum (refused_line_text refused)
old_refused_lines file refused e = refused_text_lines refused (refused_from 1 (whole_lines file) [] refused session_empty e)
