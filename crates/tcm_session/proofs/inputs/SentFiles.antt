-- A script that is sent again over the log file that a fault left.
use Rattle.std.proofs.Common.{◌≡◌, ◌⊎◌, inl, inr, ℕ, ◌≤◌, ◌<◌, Bool, true, false, if◌then◌else◌, nat_le, List, [], ◌∷◌, ◌++◌, flat_map, length, map, take, Option, Some, None, Ok, IsTrue, refl, sym, ap, ◌∙◌, subst, append_assoc, append-nil, length-append, arith}
use Rattle.std.proofs.lemmas.Bool.Decides.{nat_tests}
use Rattle.std.proofs.lemmas.Grind.{flat_map-append}
use Rattle.std.proofs.lemmas.List.{append_cancel_left, take-append-le, take_all, take_at}
use Rattle.std.proofs.lemmas.Slice.Eq.{bytes_eq-Decides}
use Rattle.std.specs.Io.{StartsWith}
use Rattle.std.specs.List.{AllByRecursion}
use Rattle.cluster_terms.specs.Name.{is_name}
use Rattle.serde_json.specs.Written.{compact_text}
use Rattle.tcm_edges.specs.Files.{content}
use Rattle.transformations.specs.declared.entry.Entry.{Entry}
use Rattle.wire_json.proofs.headers.HeadersReadBack.{header_reads_back}
use Rattle.wire_json.specs.EntryTexts.{entry_line, entry_text}
use Rattle.wire_json.specs.Header.{header_data, header_line, header_text}
use Rattle.script_lang.specs.AnswerTexts.{line}
use Rattle.tcm_session.specs.Left.{LeavesLog, StopsIn, next_added}
use Rattle.script_session.specs.Lines.{HasNoFeed, whole_lines}
use Rattle.script_session.specs.LogFiles.{base_of, entry_lines, header_cause, header_read, lines_or_header, log_after, log_for, log_from, log_in}
use Rattle.script_session.specs.Machine.{SessionState, entries_added, reply, session_after, session_over}
use Rattle.script_session.specs.declared.refused_line.Cause.{Cause}
use Rattle.script_session.specs.declared.refused_line.Cause.TheVariants as cause
use Rattle.tcm_session.specs.Outcome.{Outcome}
use Rattle.tcm_session.specs.SentAgain.{AreAccepted, GoesOn, file_after, log_at}
use Rattle.script_session.proofs.answers.AnswersLemmas.{entries_added-append}
use Rattle.session_laws.proofs.FileLogs.{session_for}
use Rattle.tcm_session.proofs.inputs.BegunLines.{HasNoFeed-take}
use Rattle.session_laws.proofs.LinesLemmas.{HasNoFeed-lines, whole_lines-none}
use Rattle.session_laws.proofs.texts.PlainEntries.{plain_data}
use Rattle.session_laws.proofs.texts.PlainTexts.{HasNoFeed-plain}
use Rattle.tcm_session.proofs.log_files.LogLines.{FitAdded, entries_plain, entry_lines-texts, entry_plain, fit_reply, lines_of_lines, log_from-append, log_reads}
use Rattle.session_laws.proofs.AskedReplies.{log_grows}
use Rattle.tcm_session.proofs.inputs.SentLemmas.{comes_to_same}
use Rattle.tcm_session.proofs.runs.StopLemmas.{entry_lines-append, front_of_nothing}

-- ---- what a log file keeps when a script begins: the line of a header, and the lines of a log

record Begins (cluster file : List ℕ) (log : List Entry) : Type 0 where
  header : List ℕ
  lines : List (List ℕ)
  base : base_of cluster file ≡ flat_map line (header ∷ lines)
  plain : AllByRecursion HasNoFeed (header ∷ lines)
  good : header_cause (Some cluster) header ≡ None
  makes : log_from 2 [] lines ≡ Ok log

header_plain : (cluster : List ℕ) → HasNoFeed (header_text cluster)
unfolding header_text
header_plain cluster = HasNoFeed-plain (compact_text (header_data cluster)) (plain_data (header_data cluster))

header_accepted : (cluster : List ℕ) → IsTrue (is_name cluster) → header_cause (Some cluster) (header_text cluster) ≡ None
unfolding header_cause
header_accepted cluster named =
    ap (header_read (Some cluster)) (header_reads_back cluster named)
    ∙ ap (λ b. if b then None else Some (cause.Cluster cluster cluster)) ((bytes_eq-Decides cluster cluster).1 refl)

begins : (cluster file : List ℕ) (log : List Entry) → IsTrue (is_name cluster) → log_for (Some cluster) file ≡ Ok log → Begins cluster file log
begins cluster file log named is = by (whole_lines file) refl is
  where
    after : (header : List ℕ) (lines : List (List ℕ)) → whole_lines file ≡ header ∷ lines → (o : Option Cause) → header_cause (Some cluster) header ≡ o → log_after o lines ≡ Ok log → Begins cluster file log
    after header lines whole None good is =
        record {
          header = header;
          lines = lines;
          base = ap (lines_or_header cluster) whole;
          plain = subst (AllByRecursion HasNoFeed) whole (HasNoFeed-lines file);
          good = good;
          makes = is;
        }
    after header lines whole (Some c) bad is = absurd (cc)

    by : (ls : List (List ℕ)) → whole_lines file ≡ ls → log_in (Some cluster) ls ≡ Ok log → Begins cluster file log
    by [] none is = record {
      header = header_text cluster;
      lines = [];
      base = ap (lines_or_header cluster) none ∙ sym (append-nil (header_line cluster));
      plain = (header_plain cluster, tt);
      good = header_accepted cluster named;
      makes = is;
    }
    by (header ∷ lines) whole is = after header lines whole (header_cause (Some cluster) header) refl is

-- ---- then the lines of the entries that some lines added, and a part of a line

module _ (cluster file : List ℕ) (log : List Entry) (named : IsTrue (is_name cluster)) (is : log_for (Some cluster) file ≡ Ok log) where
  abbrev base : List ℕ
  base = base_of cluster file

  begun : Begins cluster file log
  begun = begins cluster file log named is

  -- its lines
  lines_with : (es : List Entry) (part : List ℕ) → HasNoFeed part → whole_lines (base ++ (entry_lines es ++ part)) ≡ (begun.header ∷ begun.lines) ++ map entry_text es
  lines_with es part plain =
      ap (λ t. whole_lines (t ++ (entry_lines es ++ part))) begun.base
      ∙ lines_of_lines (begun.header ∷ begun.lines) (entry_lines es ++ part) begun.plain
      ∙ ap (λ ls. (begun.header ∷ begun.lines) ++ ls)
      (ap (λ t. whole_lines (t ++ part)) (entry_lines-texts es) ∙ lines_of_lines (map entry_text es) part (entries_plain es)
      ∙ ap (λ ls. map entry_text es ++ ls) (whole_lines-none part plain) ∙ append-nil (map entry_text es))

  goes_on_at : (lines done rest : List (List ℕ)) (part : List ℕ) → lines ≡ done ++ rest → HasNoFeed part
      → GoesOn cluster log lines file (base ++ (entry_lines (entries_added (session_over log) done) ++ part))
  goes_on_at lines done rest part split plain = record { n = length done; reads = reads; same = same }
    where
      es : List Entry
      es = entries_added (session_over log) done

      file' : List ℕ
      file' = base ++ (entry_lines es ++ part)

      front : take (length done) lines ≡ done
      front = ap (take (length done)) split ∙ take_at done rest (length done) refl

      log' : List Entry
      log' = log_at log lines (length done)

      log_is : log' ≡ log ++ es
      log_is = ap (λ ls. (session_after (session_over log) ls).log) front ∙ log_grows (session_over log) done

      whole : whole_lines file' ≡ begun.header ∷ (begun.lines ++ map entry_text es)
      whole = lines_with es part plain

      reads : log_for (Some cluster) file' ≡ Ok log'
      reads = ap (log_in (Some cluster)) whole ∙ ap (λ o. log_after o (begun.lines ++ map entry_text es)) begun.good ∙ log_from-append 2 [] begun.lines (map entry_text es) log begun.makes
          ∙ log_reads 2 (session_over log) (session_for (Some cluster) file log is) done ∙ ap (λ ls. Ok (session_after (session_over log) ls).log) (sym front)

      kept : base_of cluster file' ≡ base ++ entry_lines es
      kept = ap (lines_or_header cluster) whole ∙ flat_map-append line (begun.header ∷ begun.lines) (map entry_text es) ∙ (λ i. sym begun.base i ++ sym (entry_lines-texts es) i)

      same : AreAccepted (session_over log) lines → file_after cluster file' log' lines ≡ file_after cluster file log lines
      same ok =
          let later = entries_added (session_over log') lines in
          let logs : (log ++ es) ++ later ≡ log ++ entries_added (session_over log) lines =
          ap (λ l. l ++ later) (sym log_is) ∙ sym (log_grows (session_over log') lines) ∙ (comes_to_same log lines (length done) ok).logs ∙ log_grows (session_over log) lines in
          let all : es ++ later ≡ entries_added (session_over log) lines = append_cancel_left log (es ++ later) (entries_added (session_over log) lines) (sym (append_assoc log es later) ∙ logs) in
          ap (λ t. t ++ entry_lines later) kept ∙ append_assoc base (entry_lines es) (entry_lines later)
          ∙ ap (λ t. base ++ t) (sym (entry_lines-append es later) ∙ ap entry_lines all)

-- ---- a part of the next entry's line

-- a front of a line is within the line, or is all of it
front_of_line : (text : List ℕ) → HasNoFeed text → (part : List ℕ) → StartsWith (line text) part → HasNoFeed part ⊎ (part ≡ line text)
front_of_line text plain part starts = by (nat_le (length part) (length text)) refl
  where
    by : (b : Bool) → nat_le (length part) (length text) ≡ b → HasNoFeed part ⊎ (part ≡ line text)
    by true e =
        let within : length part ≤ length text = grind (arith, nat_tests) in
        inl (subst HasNoFeed (sym (take-append-le (length part) text (10 ∷ []) within) ∙ starts) (HasNoFeed-take (length part) text plain))
    by false e =
        let beyond : length text < length part = grind (arith, nat_tests) in
        let all : length (line text) ≤ length part = omega (arith, length-append text (10 ∷ []), beyond) in
        inr (sym starts ∙ take_all (length part) (line text) all)

-- what is added of the next line: no whole line, or all that it adds
next_part : (s : SessionState) (rest : List (List ℕ)) (part : List ℕ) → StartsWith (next_added s rest) part → HasNoFeed part ⊎ (part ≡ next_added s rest)
next_part s [] part starts = inr (front_of_nothing part starts)
next_part s (bytes ∷ rest) part starts = by (reply s bytes).added (fit_reply s bytes) starts
  where
    by : (added : List Entry) → FitAdded s.log added → StartsWith (entry_lines added) part → HasNoFeed part ⊎ (part ≡ entry_lines added)
    by [] fit starts = inr (front_of_nothing part starts)
    by (entry ∷ more) fit starts =
        let one : entry_lines (entry ∷ more) ≡ line (entry_text entry) = ap (λ m. entry_line entry ++ entry_lines m) fit.1 ∙ append-nil (entry_line entry) in
        of (front_of_line (entry_text entry) (entry_plain entry) part (subst (λ t. StartsWith t part) one starts)) one
      where
        of : HasNoFeed part ⊎ (part ≡ line (entry_text entry)) → entry_lines (entry ∷ more) ≡ line (entry_text entry) → HasNoFeed part ⊎ (part ≡ entry_lines (entry ∷ more))
        of (inl plain) one = inl plain
        of (inr all) one = inr (all ∙ sym one)

-- ---- what a fault left

goes_on_from : (cluster file : List ℕ) (log : List Entry) → IsTrue (is_name cluster) → log_for (Some cluster) file ≡ Ok log → (lines : List (List ℕ)) (last printed added : List ℕ) → StopsIn (session_over log) lines last printed added
    → GoesOn cluster log lines file (base_of cluster file ++ added)
goes_on_from cluster file log named is lines last printed added s =
    subst (λ t. GoesOn cluster log lines file (base_of cluster file ++ t)) (sym s.adds) (by s.rest s.split (next_part (session_after (session_over log) s.done) s.rest s.entry_part s.next.of_entry))
  where
    es : List Entry
    es = entries_added (session_over log) s.done

    here : SessionState
    here = session_after (session_over log) s.done

    by : (rest : List (List ℕ)) → lines ≡ s.done ++ rest → HasNoFeed s.entry_part ⊎ (s.entry_part ≡ next_added here rest) → GoesOn cluster log lines file (base_of cluster file ++ (entry_lines es ++ s.entry_part))
    by rest split (inl plain) = goes_on_at cluster file log named is lines s.done rest s.entry_part split plain
    by [] split (inr all) = goes_on_at cluster file log named is lines s.done [] s.entry_part split (subst HasNoFeed (sym all) tt)
    by (bytes ∷ rest) split (inr all) =
        let added' = (reply here bytes).added in
        let grown : entry_lines es ++ s.entry_part ≡ entry_lines (entries_added (session_over log) (s.done ++ bytes ∷ [])) ++ [] =
        ap (λ t. entry_lines es ++ t) all ∙ sym (entry_lines-append es added') ∙ ap (λ t. entry_lines (es ++ t)) (sym (append-nil added'))
        ∙ ap entry_lines (sym (entries_added-append (session_over log) s.done (bytes ∷ []))) ∙ sym (append-nil _) in
        subst (λ t. GoesOn cluster log lines file (base_of cluster file ++ t)) (sym grown)
        (goes_on_at cluster file log named is lines (s.done ++ bytes ∷ []) rest [] (split ∙ sym (append_assoc s.done (bytes ∷ []) rest)) tt)

pub left_goes_on : (cluster : List ℕ) (o : Outcome) (printed : List ℕ) (status : ℕ) (file file' : Option (List ℕ)) → IsTrue (is_name cluster) → log_for (Some cluster) (content file) ≡ Ok o.log → LeavesLog cluster o printed status file file'
    → GoesOn cluster o.log o.lines (content file) (content file')
left_goes_on cluster o printed status file file' named is (inl same) =
    subst (λ f. GoesOn cluster o.log o.lines (content file) (content f)) (sym same.0) (record { n = 0; reads = is; same = λ ok. refl })
left_goes_on cluster o printed status file file' named is (inr grown) =
    subst (λ f. GoesOn cluster o.log o.lines (content file) (content f)) (sym grown.holds)
    (goes_on_from cluster (content file) o.log named is o.lines o.last printed grown.added grown.stops)
