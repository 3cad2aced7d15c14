-- From what was read and written to the outcome of a script.
use Rattle.std.proofs.Common.{◌≡◌, ℕ, ◌+◌, ◌-◌, ◌<◌, ◌≤◌, Bool, true, false, cond, leb, List, [], ◌∷◌, ◌++◌, length, take, Option, Some, None, IfSome, refl, sym, ap, ◌∙◌, subst, append_assoc, append-nil, length-append, arith}
use Rattle.std.proofs.Math.Seq.{take-append-add}
use Rattle.std.proofs.lemmas.Bool.Decides.{nat_tests}
use Rattle.std.proofs.lemmas.List.{take_at}
use Rattle.std.specs.Io.KnownBytes.{Appends, Consumes, IsAtEnd}
use Rattle.tcm_edges.specs.Files.{Files}
use Rattle.tcm_session.specs.code.Endings.{ending_lines, ending_status, ending_text}
use Rattle.tcm_session.specs.Left.{StopsIn, StopsNext, next_added, next_text}
use Rattle.script_session.specs.Lines.{whole_lines, open_line, if_any, script_lines}
use Rattle.script_session.specs.LogFiles.{Gains, entry_lines, with_added}
use Rattle.script_session.specs.Machine.{SessionState, answers, entries_added, reply, session_after, session_over}
use Rattle.tcm_session.specs.Commit.{Start, files_with, large_outcome, script_outcome, whole_outcome}
use Rattle.tcm_session.specs.Outcome.{Outcome, input_limit, printed_by, too_large_text}
use Rattle.tcm_session.specs.Run.{told}
use Rattle.tcm_session.specs.code.Runs.{MayHold, ReadsTo, Standing, StopsAt, standing}
use Rattle.tcm_session.specs.code.Stops.{Stopped, StopsThere}
use Rattle.tcm_session.specs.declared.run_fault.RunFault.{RunFault}
use Rattle.tcm_session.specs.declared.run_fault.RunFault.TheVariants as fault
use Rattle.tcm_session.specs.declared.scripts.pieces.ReadEnd.{ReadEnd}
use Rattle.tcm_session.specs.declared.scripts.pieces.ReadEnd.TheVariants as end
use Rattle.script_session.proofs.answers.AnswersLemmas.{answers-append, entries_added-append}
use Rattle.script_session.proofs.steps.GainLemmas.{with_added-append, with_added-nil}
use Rattle.tcm_session.proofs.inputs.BegunLines.{answers-any_kept, entries_added-any_kept}
use Rattle.session_laws.proofs.LinesLemmas.{whole_lines-append}
use Rattle.tcm_session.proofs.runs.StopLemmas.{Adds-of_gains, Stopped-after, Stopped-map, StopsIn-lines, StopsIn-more, StopsIn-next, StopsIn-session, StopsIn-then, all_done, entry_lines-append}

-- ---- the outcome by the length of the input

leb-true : (m n : ℕ) → m ≤ n → leb m n ≡ true
leb-true m n h = grind (arith, nat_tests)

leb-false : (m n : ℕ) → n < m → leb m n ≡ false
leb-false m n h = grind (arith, nat_tests)

short : (start : Start) (input : List ℕ) → length input ≤ input_limit → script_outcome start input ≡ whole_outcome start input
unfolding script_outcome
short start input h = ap (λ b. cond b (whole_outcome start input) (large_outcome start input)) (leb-true (length input) input_limit h)

long : (start : Start) (input : List ℕ) → input_limit < length input → script_outcome start input ≡ large_outcome start input
unfolding script_outcome
long start input h = ap (λ b. cond b (whole_outcome start input) (large_outcome start input)) (leb-false (length input) input_limit h)

-- it reads the input, and answers lines from the log that it begins with
pub script_reads : (start : Start) (input : List ℕ) → (script_outcome start input).reads ≡ true
unfolding script_outcome
script_reads start input = by (leb (length input) input_limit)
  where
    by : (b : Bool) → (cond b (whole_outcome start input) (large_outcome start input)).reads ≡ true
    by true = refl
    by false = refl

pub script_log : (start : Start) (input : List ℕ) → (script_outcome start input).log ≡ start.log
unfolding script_outcome
script_log start input = by (leb (length input) input_limit)
  where
    by : (b : Bool) → (cond b (whole_outcome start input) (large_outcome start input)).log ≡ start.log
    by true = refl
    by false = refl

-- ---- what is left of an input, and the whole of it

abbrev pub rest_of : Option (List ℕ) → List ℕ
rest_of None = []
rest_of (Some xs) = xs

told_input : (left left' : Option (List ℕ)) (bytes : List ℕ) → Consumes left left' bytes → IfSome left (λ xs. xs ≡ bytes ++ rest_of left')
told_input None left' bytes h = tt
told_input (Some xs) None bytes h = absurd h
told_input (Some xs) (Some ys) bytes h = h

-- the input of a run that reads nothing
pub told_rest : (left : Option (List ℕ)) → IfSome left (λ xs. xs ≡ rest_of left)
told_rest None = tt
told_rest (Some xs) = refl

rest_at_end : (left : Option (List ℕ)) → IsAtEnd left → rest_of left ≡ []
rest_at_end None h = refl
rest_at_end (Some xs) h = h

-- ---- the lines of an input begin with the lines of a front of it

record LinesBegin (lines front : List (List ℕ)) : Type 0 where
  more : List (List ℕ)
  is : lines ≡ front ++ more

lines_begin : (a b : List ℕ) (others : List (List ℕ)) → LinesBegin (whole_lines (a ++ b) ++ others) (whole_lines a)
lines_begin a b others =
    record {
      more = whole_lines (open_line a ++ b) ++ others;
      is = ap (λ x. x ++ others) (whole_lines-append a b) ∙ append_assoc (whole_lines a) (whole_lines (open_line a ++ b)) others;
    }

-- the lines of a front that is within the limit are a front of the lines that are answered
outcome_begins : (start : Start) (front rest : List ℕ) → length front ≤ input_limit → LinesBegin (script_outcome start (front ++ rest)).lines (whole_lines front)
outcome_begins start front rest fits = by (leb (length (front ++ rest)) input_limit) refl
  where
    by : (b : Bool) → leb (length (front ++ rest)) input_limit ≡ b → LinesBegin (script_outcome start (front ++ rest)).lines (whole_lines front)
    by true e =
        let within : length (front ++ rest) ≤ input_limit = grind (arith, nat_tests) in
        let begun = lines_begin front rest (if_any (open_line (front ++ rest))) in
        record { more = begun.more; is = ap (λ (o : Outcome). o.lines) (short start (front ++ rest) within) ∙ begun.is }
    by false e =
        let beyond : input_limit < length (front ++ rest) = grind (arith, nat_tests) in
        let full : length front + (input_limit - length front) ≡ input_limit = omega arith in
        let cut : take input_limit (front ++ rest) ≡ front ++ take (input_limit - length front) rest =
        ap (λ n. take n (front ++ rest)) (sym full) ∙ take-append-add front rest (input_limit - length front) in
        let begun = lines_begin front (take (input_limit - length front) rest) [] in
        record {
          more = begun.more;
          is = ap (λ (o : Outcome). o.lines) (long start (front ++ rest) beyond) ∙ ap whole_lines cut
              ∙ sym (append-nil (whole_lines (front ++ take (input_limit - length front) rest))) ∙ begun.is;
        }

-- ---- the input of a run, and what belongs to its outcome

-- a run stopped within the lines of an outcome; where P holds, no part of what is next is printed or added
pub record StopsOn (P : Type 0) (o : Outcome) (printed added : List ℕ) : Type 0 where
  pub stops : StopsIn (session_over o.log) o.lines o.last printed added
  pub none : P → (stops.answer_part ≡ []) × (stops.entry_part ≡ [])

-- there is an input, within whose outcome a run stopped
pub record Begins_outcome (P : Type 0) (start : Start) (l w w' : Option (List ℕ)) (f f' : Option Files) : Type 0 where
  pub input : List ℕ
  pub told : IfSome l (λ bytes. bytes ≡ input)
  pub stopped : Stopped (StopsOn P (script_outcome start input)) start.file w w' f f'

-- a script stands at its beginning
abbrev pub at_start : Start → Option (List ℕ) → Option Files → Standing
at_start start w f = standing (session_over start.log) [] w f

-- reading stopped at a fault
pub begins_stopped : (start : Start) (e : RunFault) (l l' w w' : Option (List ℕ)) (f f' : Option Files) → StopsAt start.file e input_limit l (at_start start w f) (told l' w' f') → Begins_outcome (e ≡ fault.Source) start l w w' f f'
begins_stopped start e l l' w w' f f' stops =
    let P = e ≡ fault.Source in
    let session = session_over start.log in
    let front = whole_lines stops.bytes in
    let o = script_outcome start (stops.bytes ++ rest_of l') in
    let begun = outcome_begins start stops.bytes (rest_of l') stops.bounded in
    let over : session_over o.log ≡ session = ap session_over (script_log start (stops.bytes ++ rest_of l')) in
    let step : (printed added : List ℕ) → StopsThere P session front printed added → StopsOn P o printed added =
    λ printed added s. record {
      stops = StopsIn-session session (session_over o.log) o.lines o.last printed added over
          (StopsIn-lines session (front ++ begun.more) o.lines o.last printed added begun.is (StopsIn-more session front begun.more o.last printed added s.stops));
      none = λ is. let done = all_done session front printed added s.stops (s.all is) in (done.front_is, done.part_is);
    } in
    record {
      input = stops.bytes ++ rest_of l';
      told = told_input l l' stops.bytes stops.consumed;
      stopped = Stopped-map (StopsThere P session front) (StopsOn P o) start.file w w' f f' step stops.stopped;
    }

-- after a failed read all answers to the lines that were read are printed
pub answered_stopped : (start : Start) (e : RunFault) (l l' w w' : Option (List ℕ)) (f f' : Option Files) (stops : StopsAt start.file e input_limit l (at_start start w f) (told l' w' f')) → e ≡ fault.Source
    → Appends w w' (answers (session_over start.log) (whole_lines stops.bytes))
answered_stopped start e l l' w w' f f' stops is =
    let s = stops.stopped.stops in
    subst (Appends w w') (all_done (session_over start.log) (whole_lines stops.bytes) stops.stopped.printed stops.stopped.added s.stops (s.all is)).printed_is stops.stopped.wrote

-- the input of a script that was read to its end, or up to the limit, and what its outcome says
pub record Ended (start : Start) (ending : ReadEnd) (l : Option (List ℕ)) (bytes : List ℕ) (at' : Standing) : Type 0 where
  pub input : List ℕ
  pub told : IfSome l (λ xs. xs ≡ input)
  pub status : (script_outcome start input).status ≡ ending_status ending
  pub printed : printed_by (script_outcome start input) ≡ answers (session_over start.log) (whole_lines bytes) ++ ending_text ending at'.session at'.begun
  -- the lines that end before, and what is printed and added last
  pub lines : (script_outcome start input).lines ≡ whole_lines bytes ++ ending_lines ending (open_line bytes)
  pub last_text : next_text at'.session (ending_lines ending (open_line bytes)) (script_outcome start input).last ≡ ending_text ending at'.session at'.begun
  pub last_added : next_added at'.session (ending_lines ending (open_line bytes)) ≡ entry_lines (entries_added at'.session (ending_lines ending at'.begun))
  pub files : (script_outcome start input).files
      ≡ with_added start.file (entry_lines (entries_added at'.session (ending_lines ending at'.begun)))
      (with_added start.file (entry_lines (entries_added (session_over start.log) (whole_lines bytes))) start.files)

-- what an open line prints and adds
text_any : (session : SessionState) (o : List ℕ) → next_text session (if_any o) [] ≡ answers session (if_any o)
text_any session [] = refl
text_any session (byte ∷ o) = sym (append-nil (reply session (byte ∷ o)).text)

added_any : (session : SessionState) (o : List ℕ) → next_added session (if_any o) ≡ entry_lines (entries_added session (if_any o))
added_any session [] = refl
added_any session (byte ∷ o) = ap entry_lines (sym (append-nil (reply session (byte ∷ o)).added))

module _ (start : Start) (l l' w : Option (List ℕ)) (f : Option Files) (at' : Standing) where
  ended_at_end : (reads : ReadsTo start.file end.AtEnd l l' (at_start start w f) at') → Ended start end.AtEnd l reads.bytes at'
  ended_at_end reads =
      let lines = whole_lines reads.bytes in
      let opened = if_any (open_line reads.bytes) in
      let nothing : rest_of l' ≡ [] = rest_at_end l' reads.ends.0 in
      let bare : (reads.bytes ++ reads.past) ++ rest_of l' ≡ reads.bytes =
      ap (λ x. (reads.bytes ++ x) ++ rest_of l') reads.ends.2 ∙ ap (λ x. (reads.bytes ++ []) ++ x) nothing ∙ append-nil _ ∙ append-nil reads.bytes in
      let is : script_outcome start ((reads.bytes ++ reads.past) ++ rest_of l') ≡ whole_outcome start reads.bytes = ap (script_outcome start) bare ∙ short start reads.bytes reads.ends.1 in
      let kept_text : answers at'.session opened ≡ answers at'.session (if_any at'.begun) =
      sym (answers-any_kept at'.session (open_line reads.bytes)) ∙ ap (λ x. answers at'.session (if_any x)) (sym reads.takes.begun) in
      let kept_added : entries_added at'.session opened ≡ entries_added at'.session (if_any at'.begun) =
      sym (entries_added-any_kept at'.session (open_line reads.bytes)) ∙ ap (λ x. entries_added at'.session (if_any x)) (sym reads.takes.begun) in
      let last_text : answers (session_after (session_over start.log) lines) opened ≡ answers at'.session (if_any at'.begun) =
      ap (λ x. answers x opened) (sym reads.takes.session) ∙ kept_text in
      let last_added : entries_added (session_after (session_over start.log) lines) opened ≡ entries_added at'.session (if_any at'.begun) =
      ap (λ x. entries_added x opened) (sym reads.takes.session) ∙ kept_added in
      let added : entry_lines (entries_added (session_over start.log) (script_lines reads.bytes)) ≡ entry_lines (entries_added (session_over start.log) lines) ++ entry_lines (entries_added at'.session (if_any at'.begun)) =
      ap entry_lines (entries_added-append (session_over start.log) lines opened) ∙ entry_lines-append (entries_added (session_over start.log) lines) (entries_added (session_after (session_over start.log) lines) opened)
      ∙ ap (λ es. entry_lines (entries_added (session_over start.log) lines) ++ entry_lines es) last_added in
      record {
        input = (reads.bytes ++ reads.past) ++ rest_of l';
        told = told_input l l' (reads.bytes ++ reads.past) reads.consumed;
        status = ap (λ (o : Outcome). o.status) is;
        printed = ap printed_by is ∙ append-nil _ ∙ answers-append (session_over start.log) lines opened ∙ ap (λ x. answers (session_over start.log) lines ++ x) last_text;
        lines = ap (λ (o : Outcome). o.lines) is;
        last_text = ap (λ (o : Outcome). next_text at'.session opened o.last) is ∙ text_any at'.session (open_line reads.bytes) ∙ kept_text;
        last_added = added_any at'.session (open_line reads.bytes) ∙ ap entry_lines kept_added;
        files = ap (λ (o : Outcome). o.files) is ∙ ap (λ t. with_added start.file t start.files) added
            ∙ with_added-append start.file (entry_lines (entries_added (session_over start.log) lines)) (entry_lines (entries_added at'.session (if_any at'.begun))) start.files;
      }

  ended_past : (reads : ReadsTo start.file end.PastLimit l l' (at_start start w f) at') → Ended start end.PastLimit l reads.bytes at'
  ended_past reads =
      let whole : (reads.bytes ++ reads.past) ++ rest_of l' ≡ reads.bytes ++ (reads.past ++ rest_of l') = append_assoc reads.bytes reads.past (rest_of l') in
      let size : length ((reads.bytes ++ reads.past) ++ rest_of l') ≡ length reads.bytes + length reads.past + length (rest_of l') =
      length-append (reads.bytes ++ reads.past) (rest_of l') ∙ ap (λ n. n + length (rest_of l')) (length-append reads.bytes reads.past) in
      let beyond : input_limit < length ((reads.bytes ++ reads.past) ++ rest_of l') = omega (arith, size, reads.ends.0, reads.ends.1) in
      let cut : take input_limit ((reads.bytes ++ reads.past) ++ rest_of l') ≡ reads.bytes =
      ap (take input_limit) whole ∙ take_at reads.bytes (reads.past ++ rest_of l') input_limit reads.ends.0 in
      let is : script_outcome start ((reads.bytes ++ reads.past) ++ rest_of l') ≡ large_outcome start ((reads.bytes ++ reads.past) ++ rest_of l') =
      long start ((reads.bytes ++ reads.past) ++ rest_of l') beyond in
      record {
        input = (reads.bytes ++ reads.past) ++ rest_of l';
        told = told_input l l' (reads.bytes ++ reads.past) reads.consumed;
        status = ap (λ (o : Outcome). o.status) is;
        printed = ap printed_by is ∙ ap (λ x. answers (session_over start.log) (whole_lines x) ++ too_large_text) cut;
        lines = ap (λ (o : Outcome). o.lines) is ∙ ap whole_lines cut ∙ sym (append-nil (whole_lines reads.bytes));
        last_text = ap (λ (o : Outcome). o.last) is;
        last_added = refl;
        files = ap (λ (o : Outcome). o.files) is ∙ ap (λ x. files_with start (whole_lines x)) cut
            ∙ sym (with_added-nil start.file (with_added start.file (entry_lines (entries_added (session_over start.log) (whole_lines reads.bytes))) start.files));
      }

  pub ended : (ending : ReadEnd) (reads : ReadsTo start.file ending l l' (at_start start w f) at') → Ended start ending l reads.bytes at'
  ended end.AtEnd reads = ended_at_end reads
  ended end.PastLimit reads = ended_past reads

-- a fault came after the script was read
pub ended_stopped : (P : Type 0) (start : Start) (ending : ReadEnd) (l l' w w' : Option (List ℕ)) (f f' : Option Files) (at' : Standing) (reads : ReadsTo start.file ending l l' (at_start start w f) at')
    → (is : Ended start ending l reads.bytes at') → (P → ⊥)
    → Stopped (StopsNext (ending_text ending at'.session at'.begun) (entry_lines (entries_added at'.session (ending_lines ending at'.begun)))) start.file at'.written w' at'.files f'
    → Stopped (StopsOn P (script_outcome start is.input)) start.file w w' f f'
ended_stopped P start ending l l' w w' f f' at' reads is never stopped =
    let session = session_over start.log in
    let front = whole_lines reads.bytes in
    let later = ending_lines ending (open_line reads.bytes) in
    let here = session_after session front in
    let o = script_outcome start is.input in
    let text = ending_text ending at'.session at'.begun in
    let entry = entry_lines (entries_added at'.session (ending_lines ending at'.begun)) in
    let over : session_over o.log ≡ session = ap session_over (script_log start is.input) in
    let last_text : text ≡ next_text here later o.last = sym is.last_text ∙ ap (λ x. next_text x later o.last) reads.takes.session in
    let last_added : entry ≡ next_added here later = sym is.last_added ∙ ap (λ x. next_added x later) reads.takes.session in
    let step : (printed added : List ℕ) → StopsNext text entry printed added → StopsOn P o (answers session front ++ printed) (entry_lines (entries_added session front) ++ added) =
    λ printed added next.
    let there : StopsNext (next_text here later o.last) (next_added here later) printed added = subst (λ x. StopsNext x (next_added here later) printed added) last_text (subst (λ x. StopsNext text x printed added) last_added next) in
    let all = StopsIn-then session front later o.last printed added (StopsIn-next here later o.last printed added there) in
    record {
      stops = StopsIn-session session (session_over o.log) o.lines o.last _ _ over (StopsIn-lines session (front ++ later) o.lines o.last _ _ is.lines all);
      none = λ p. absurd (never p);
    } in
    Stopped-after (StopsNext text entry) (StopsOn P o) start.file w at'.written w' f at'.files f' (answers session front) (entry_lines (entries_added session front)) step
    reads.takes.answered (Adds-of_gains start.file _ f at'.files reads.takes.files) stopped

-- ---- files that a store may hold

pub held_gained : (name : Option (List ℕ)) (text : List ℕ) (old new : Option Files) (all : Files) → MayHold old all → Gains name text old new → MayHold new (with_added name text all)
held_gained name text None new all held gained = subst (λ f. MayHold f (with_added name text all)) (sym gained) tt
held_gained name text (Some these) new all held gained = subst (λ f. MayHold f (with_added name text all)) (sym gained) (ap (with_added name text) held)
