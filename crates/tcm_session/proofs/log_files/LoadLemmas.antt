-- Taking over the lines of a log file, one by one.
use Rattle.std.proofs.Common.{◌≡◌, ℕ, ◌+◌, List, [], ◌∷◌, ◌++◌, length, Option, None, Some, Result, Ok, Err, IsOkAnd, refl, sym, ap, ◌∙◌, subst}
use Rattle.transformations.specs.declared.entry.Entry.{Entry}
use Rattle.script_session.specs.Lines.{HasNoFeed, open_line, whole_lines}
use Rattle.script_session.specs.LogFiles.{goes_on, header_cause, log_after, log_for, log_from, log_in, next_entry}
use Rattle.tcm_session.specs.code.Loading.{IsAfterHeader, IsOpened, IsUnopened}
use Rattle.tcm_session.specs.declared.files.log_file.LogFault.{LogFault}
use Rattle.tcm_session.specs.declared.files.log_file.LogFault.TheVariants.{Refused}
use Rattle.script_session.specs.Machine.{SessionState, session_over}
use Rattle.script_session.specs.code.StepParts.{TakesLine, with_next}
use Rattle.script_session.specs.declared.refused_line.Cause.{Cause}
use Rattle.script_session.specs.declared.refused_line.RefusedLine.{RefusedLine}
use Rattle.session_laws.proofs.LinesLemmas.{open_line-line, open_line-none, whole_lines-line, whole_lines-none}

-- the fault at a refused line
abbrev pub refused_line : ℕ → Cause → RefusedLine
refused_line number cause = record { file = 1; line = number; cause = cause }

-- a log that is refused there
abbrev log_refused : RefusedLine → Result (List Entry) RefusedLine
log_refused refused = Err refused

-- ---- lines of entries

-- the lines so far made the log of this session, and the rest is to come
pub record Loads (first : ℕ) (lines : List ℕ) (session : SessionState) (rest : List ℕ) : Type 0 where
  pub makes : log_from first [] (whole_lines lines) ≡ log_from first session.log (whole_lines rest)
  pub over : session ≡ session_over session.log
  pub opened : open_line lines ≡ open_line rest

pub loads_begin : (first : ℕ) (lines : List ℕ) → Loads first lines (session_over []) lines
loads_begin first lines = record { makes = refl; over = refl; opened = refl }

-- what taking the next line came to
module _ (first : ℕ) (lines : List ℕ) (session session' : SessionState) (rest l more : List ℕ) (so_far : Loads first lines session rest) (e : rest ≡ l ++ 10 ∷ more) (plain : HasNoFeed l) (o : Option Cause) (takes : TakesLine o (next_entry session.log l) session session') where
  abbrev after_line : Result Entry Cause → Result (List Entry) RefusedLine
  after_line r = goes_on 1 (length session.log + first) r (λ entry. log_from first (session.log ++ entry ∷ []) (whole_lines more))

  next_line : log_from first [] (whole_lines lines) ≡ after_line (next_entry session.log l)
  next_line = so_far.makes ∙ ap (λ x. log_from first session.log (whole_lines x)) e ∙ ap (log_from first session.log) (whole_lines-line l more plain)

  pub loads_taken : o ≡ None → Loads first lines session' more
  loads_taken none = by (next_entry session.log l) next_line (subst (λ x. TakesLine x (next_entry session.log l) session session') none takes)
    where
      by : (r : Result Entry Cause) → log_from first [] (whole_lines lines) ≡ after_line r → IsOkAnd r (λ entry. session' ≡ with_next session entry) → Loads first lines session' more
      by (Ok entry) next is =
          let log : session'.log ≡ session.log ++ entry ∷ [] = ap (λ (s : SessionState). s.log) is in
          record {
            makes = next ∙ ap (λ x. log_from first x (whole_lines more)) (sym log);
            over = is ∙ ap (λ (s : SessionState). record { log = session.log ++ entry ∷ []; followers = s.followers; replies = s.replies }) so_far.over ∙ ap session_over (sym log);
            opened = so_far.opened ∙ ap open_line e ∙ open_line-line l more plain;
          }
      by (Err cause) next is = absurd is

  pub loads_refused : (cause : Cause) → o ≡ Some cause → (epoch : ℕ) → epoch ≡ length session'.log → (fault : LogFault) → fault ≡ Refused (refused_line (epoch + first) cause)
      → IsUnopened (log_from first [] (whole_lines lines)) fault
  loads_refused cause some epoch is fault fault_is =
      let refused = subst (λ x. TakesLine x (next_entry session.log l) session session') some takes in
      subst (IsUnopened (log_from first [] (whole_lines lines))) (sym fault_is)
      (next_line ∙ ap after_line refused.0 ∙ ap (λ n. log_refused (refused_line (n + first) cause)) (sym (is ∙ ap (λ (s : SessionState). length s.log) refused.1)))

-- no line is left
pub loads_end : (first : ℕ) (lines : List ℕ) (session : SessionState) (rest : List ℕ) → Loads first lines session rest → HasNoFeed rest → IsOpened (log_from first [] (whole_lines lines)) (open_line lines) session (length rest)
loads_end first lines session rest so_far plain =
    record {
      log = so_far.makes ∙ ap (log_from first session.log) (whole_lines-none rest plain);
      over = so_far.over;
      rest = sym (ap length (so_far.opened ∙ open_line-none rest plain));
    }

-- ---- the header

pub header_none : (want : Option (List ℕ)) (file : List ℕ) → HasNoFeed file → IsAfterHeader want file file
header_none want file plain = record { log = ap (log_in want) none ∙ ap (log_from 2 []) (sym none); opened = refl }
  where
    none : whole_lines file ≡ []
    none = whole_lines-none file plain

module _ (want : Option (List ℕ)) (file l more : List ℕ) (e : file ≡ l ++ 10 ∷ more) (plain : HasNoFeed l) where
  first_line : log_for want file ≡ log_after (header_cause want l) (whole_lines more)
  first_line = ap (λ x. log_in want (whole_lines x)) e ∙ ap (log_in want) (whole_lines-line l more plain)

  pub header_good : None ≡ header_cause want l → IsAfterHeader want file more
  header_good none = record { log = first_line ∙ ap (λ o. log_after o (whole_lines more)) (sym none); opened = ap open_line e ∙ open_line-line l more plain }

  pub header_refused : (cause : Cause) → Some cause ≡ header_cause want l → (fault : LogFault) → fault ≡ Refused (refused_line 1 cause) → IsUnopened (log_for want file) fault
  header_refused cause some fault is = subst (IsUnopened (log_for want file)) (sym is) (first_line ∙ ap (λ o. log_after o (whole_lines more)) (sym some))
