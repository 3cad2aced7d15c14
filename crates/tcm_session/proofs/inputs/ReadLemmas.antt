-- Lemmas on reading a script in pieces.
use Rattle.std.proofs.Common.{◌≡◌, ℕ, ◌+◌, ◌≤◌, List, [], ◌++◌, length, Option, refl, sym, ap, ◌∙◌, subst, append_assoc, append-nil, length-append, arith}
use Rattle.std.specs.Io.KnownBytes.{Appends, Consumes, Keeps}
use Rattle.std.proofs.KnownBytes.{Consumes-trans, Consumes-nil, Consumes-kept, Appends-trans, Appends-nil}
use Rattle.tcm_edges.specs.Files.{Files}
use Rattle.tcm_session.specs.code.RunFaults.{counts_after}
use Rattle.tcm_session.specs.Left.{StopsIn}
use Rattle.script_session.specs.Lines.{HasNoFeed, whole_lines, open_line}
use Rattle.script_session.specs.LogFiles.{Gains, entry_lines}
use Rattle.script_session.specs.Machine.{answers, entries_added, session_after}
use Rattle.tcm_session.specs.Outcome.{input_limit}
use Rattle.tcm_session.specs.Counts.{Counts}
use Rattle.tcm_session.specs.Run.{Told, told}
use Rattle.tcm_session.specs.code.Runs.{IsBegun, ReadsOnce, ReadsTo, Standing, StopsAt, Takes, kept_of, lines_ended}
use Rattle.tcm_session.specs.code.Stops.{Stopped, StopsThere}
use Rattle.tcm_session.specs.declared.run_fault.RunFault.{RunFault}
use Rattle.tcm_session.specs.declared.run_fault.RunFault.TheVariants as fault
use Rattle.tcm_session.specs.declared.scripts.pieces.ReadEnd.TheVariants as end
use Rattle.script_session.proofs.answers.AnswersLemmas.{answers-append, entries_added-append, session_after-append}
use Rattle.script_session.proofs.steps.GainLemmas.{Gains-append, Gains-nil}
use Rattle.tcm_session.proofs.inputs.BegunLines.{IsBegun-kept, answers-kept, lines-carried, entries_added-kept, kept_of-short, session_after-kept, open_line-kept}
use Rattle.tcm_session.proofs.runs.RunCauses.{not_source}
use Rattle.tcm_session.proofs.runs.StopLemmas.{Adds-of_gains, Stopped-after, Stopped-map, Stopped-none, StopsIn-none, StopsThere-lines, StopsThere-same, StopsThere-session, StopsThere-then, entry_lines-append}
use Rattle.session_laws.proofs.LinesLemmas.{HasNoFeed-open, whole_lines-append, open_line-append, whole_lines-none, open_line-none}

-- the lines of two pieces after an open line
lines_of_two : (o a b : List ℕ) → whole_lines (o ++ (a ++ b)) ≡ whole_lines (o ++ a) ++ whole_lines (open_line (o ++ a) ++ b)
lines_of_two o a b = ap whole_lines (sym (append_assoc o a b)) ∙ whole_lines-append (o ++ a) b

begun_of_two : (o a b : List ℕ) → open_line (o ++ (a ++ b)) ≡ open_line (open_line (o ++ a) ++ b)
begun_of_two o a b = ap open_line (sym (append_assoc o a b)) ∙ open_line-append (o ++ a) b

-- nothing was taken
pub Takes-nil : (file : Option (List ℕ)) (at : Standing) → IsBegun at.begun → Takes file [] at at
Takes-nil file at begun =
    let none : lines_ended at [] ≡ [] = ap whole_lines (append-nil at.begun) ∙ whole_lines-none at.begun begun.plain in
    record {
      session = ap (session_after at.session) (sym none);
      begun = sym (ap (λ o. kept_of (open_line o)) (append-nil at.begun) ∙ ap kept_of (open_line-none at.begun begun.plain) ∙ kept_of-short at.begun begun.few);
      answered = subst (Appends at.written at.written) (ap (answers at.session) (sym none)) (Appends-nil at.written);
      files = subst (λ ls. Gains file (entry_lines (entries_added at.session ls)) at.files at.files) (sym none) (Gains-nil file at.files);
    }

module _ (file : Option (List ℕ)) (a : List ℕ) (at at₁ : Standing) (first : Takes file a at at₁) where
  opened_plain : HasNoFeed (open_line (at.begun ++ a))
  opened_plain = HasNoFeed-open (at.begun ++ a)

  -- what a later piece makes from there, in terms of the beginning
  later_lines : (b : List ℕ) → lines_ended at (a ++ b) ≡ lines_ended at a ++ whole_lines (open_line (at.begun ++ a) ++ b)
  later_lines b = lines_of_two at.begun a b

  later_answers : (b : List ℕ) → answers at.session (lines_ended at (a ++ b)) ≡ answers at.session (lines_ended at a) ++ answers at₁.session (lines_ended at₁ b)
  later_answers b =
      let same : answers (session_after at.session (lines_ended at a)) (whole_lines (open_line (at.begun ++ a) ++ b)) ≡ answers at₁.session (lines_ended at₁ b) =
      ap (λ l. answers l (whole_lines (open_line (at.begun ++ a) ++ b))) (sym first.session)
      ∙ sym (answers-kept at₁.session (open_line (at.begun ++ a)) b opened_plain)
      ∙ ap (λ x. answers at₁.session (whole_lines (x ++ b))) (sym first.begun) in
      ap (answers at.session) (later_lines b) ∙ answers-append at.session (lines_ended at a) (whole_lines (open_line (at.begun ++ a) ++ b))
      ∙ ap (λ t. answers at.session (lines_ended at a) ++ t) same

  later_added : (b : List ℕ) → entries_added at.session (lines_ended at (a ++ b)) ≡ entries_added at.session (lines_ended at a) ++ entries_added at₁.session (lines_ended at₁ b)
  later_added b =
      let same : entries_added (session_after at.session (lines_ended at a)) (whole_lines (open_line (at.begun ++ a) ++ b)) ≡ entries_added at₁.session (lines_ended at₁ b) =
      ap (λ l. entries_added l (whole_lines (open_line (at.begun ++ a) ++ b))) (sym first.session)
      ∙ sym (entries_added-kept at₁.session (open_line (at.begun ++ a)) b opened_plain)
      ∙ ap (λ x. entries_added at₁.session (whole_lines (x ++ b))) (sym first.begun) in
      ap (entries_added at.session) (later_lines b) ∙ entries_added-append at.session (lines_ended at a) (whole_lines (open_line (at.begun ++ a) ++ b))
      ∙ ap (λ t. entries_added at.session (lines_ended at a) ++ t) same

  later_session : (b : List ℕ) → session_after at.session (lines_ended at (a ++ b)) ≡ session_after at₁.session (lines_ended at₁ b)
  later_session b =
      ap (session_after at.session) (later_lines b) ∙ session_after-append at.session (lines_ended at a) (whole_lines (open_line (at.begun ++ a) ++ b))
      ∙ ap (λ l. session_after l (whole_lines (open_line (at.begun ++ a) ++ b))) (sym first.session)
      ∙ sym (session_after-kept at₁.session (open_line (at.begun ++ a)) b opened_plain)
      ∙ ap (λ x. session_after at₁.session (whole_lines (x ++ b))) (sym first.begun)

  -- two pieces, one after the other
  pub Takes-then : (b : List ℕ) (at₂ : Standing) → Takes file b at₁ at₂ → Takes file (a ++ b) at at₂
  Takes-then b at₂ second =
      record {
        session = second.session ∙ sym (later_session b);
        begun = second.begun ∙ ap (λ x. kept_of (open_line (x ++ b))) first.begun
            ∙ open_line-kept (open_line (at.begun ++ a)) b opened_plain ∙ sym (ap kept_of (begun_of_two at.begun a b));
        answered = subst (Appends at.written at₂.written) (sym (later_answers b)) (Appends-trans at.written at₁.written at₂.written _ _ first.answered second.answered);
        files = subst (λ t. Gains file t at.files at₂.files)
            (sym (ap entry_lines (later_added b) ∙ entry_lines-append (entries_added at.session (lines_ended at a)) (entries_added at₁.session (lines_ended at₁ b))))
            (Gains-append file _ _ at.files at₁.files at₂.files first.files second.files);
      }

  -- a piece, and a part of the next
  pub StopsAt-then : (e : RunFault) (most : ℕ) (l l₁ : Option (List ℕ)) (after : Told) → Consumes l l₁ a → StopsAt file e most l₁ at₁ after → StopsAt file e (length a + most) l at after
  StopsAt-then e most l l₁ after consumed second =
      let P = e ≡ fault.Source in
      let b = second.bytes in
      let lines = lines_ended at a in
      let later = whole_lines (open_line (at.begun ++ a) ++ b) in
      let here = session_after at.session lines in
      let begun : lines_ended at₁ b ≡ whole_lines (kept_of (open_line (at.begun ++ a)) ++ b) = ap (λ x. whole_lines (x ++ b)) first.begun in
      let step : (printed added : List ℕ) → StopsThere P at₁.session (lines_ended at₁ b) printed added
      → StopsThere P at.session (lines_ended at (a ++ b)) (answers at.session lines ++ printed) (entry_lines (entries_added at.session lines) ++ added) =
      λ printed added s.
      let kept : StopsThere P here (whole_lines (kept_of (open_line (at.begun ++ a)) ++ b)) printed added =
      StopsThere-lines P here (lines_ended at₁ b) _ printed added (sym begun) (StopsThere-session P at₁.session here (lines_ended at₁ b) printed added (sym first.session) s) in
      let all : StopsThere P here later printed added = lines-carried (λ ls. StopsThere P here ls printed added) here (StopsThere-same P here printed added) (open_line (at.begun ++ a)) b opened_plain kept in
      StopsThere-lines P at.session (lines ++ later) (lines_ended at (a ++ b)) _ _ (later_lines b) (StopsThere-then P at.session lines later printed added all) in
      record {
        bytes = a ++ b;
        consumed = Consumes-trans l l₁ after.left a b consumed second.consumed;
        bounded = omega (arith, length-append a b, second.bounded);
        stopped = Stopped-after (StopsThere P at₁.session (lines_ended at₁ b)) (StopsThere P at.session (lines_ended at (a ++ b))) file at.written at₁.written after.written at.files at₁.files after.files
            (answers at.session lines) (entry_lines (entries_added at.session lines)) step first.answered (Adds-of_gains file _ at.files at₁.files first.files) second.stopped;
      }

-- a read that failed
pub StopsAt-none : (file : Option (List ℕ)) (e : RunFault) (most : ℕ) (l l' : Option (List ℕ)) (at : Standing) → Keeps l l' → IsBegun at.begun → StopsAt file e most l at (told l' at.written at.files)
StopsAt-none file e most l l' at kept begun =
    let none : lines_ended at [] ≡ [] = ap whole_lines (append-nil at.begun) ∙ whole_lines-none at.begun begun.plain in
    record {
      bytes = [];
      consumed = Consumes-kept l l l' [] (Consumes-nil l) kept;
      bounded = omega arith;
      stopped = Stopped-none (StopsThere (e ≡ fault.Source) at.session (lines_ended at [])) file at.written at.files at.files refl (record { stops = StopsIn-none at.session (lines_ended at []) []; all = λ is. none });
    }

-- the files are given otherwise
pub StopsAt-told : (file : Option (List ℕ)) (e : RunFault) (most : ℕ) (l l' : Option (List ℕ)) (at : Standing) (w' : Option (List ℕ)) (f left : Option Files) → left ≡ f → StopsAt file e most l at (told l' w' f)
    → StopsAt file e most l at (told l' w' left)
StopsAt-told file e most l l' at w' f left same s = subst (λ files. StopsAt file e most l at (told l' w' files)) (sym same) s

-- a piece of which not all lines are done, for no fault of the source
pub StopsAt-piece : (file : Option (List ℕ)) (e : RunFault) (most : ℕ) (l : Option (List ℕ)) (at : Standing) (after : Told) (bytes : List ℕ) (n n' : Counts) → n.source ≡ 0 → n'.source ≡ 0
    → Consumes l after.left bytes → length bytes ≤ most → Stopped (StopsIn at.session (lines_ended at bytes) []) file at.written after.written at.files after.files → n' ≡ counts_after e n
    → StopsAt file e most l at after
StopsAt-piece file e most l at after bytes n n' none none' consumed fits stopped cause =
    record {
      bytes = bytes;
      consumed = consumed;
      bounded = fits;
      stopped = Stopped-map (StopsIn at.session (lines_ended at bytes) []) (StopsThere (e ≡ fault.Source) at.session (lines_ended at bytes)) file at.written after.written at.files after.files
          (λ printed added s. record { stops = s; all = λ is. absurd (not_source e n n' none none' cause is) }) stopped;
    }

-- ---- the loop over reads

-- what is read so far is taken
pub record ReadsSoFar (file : Option (List ℕ)) (taken : ℕ) (left left' : Option (List ℕ)) (at at' : Standing) : Type 0 where
  pub bytes : List ℕ
  pub count : length bytes ≡ taken
  pub consumed : Consumes left left' bytes
  pub takes : Takes file bytes at at'

pub ReadsSoFar-none : (file : Option (List ℕ)) (l : Option (List ℕ)) (at : Standing) → IsBegun at.begun → ReadsSoFar file 0 l l at at
ReadsSoFar-none file l at begun = record { bytes = []; count = refl; consumed = Consumes-nil l; takes = Takes-nil file at begun }

module _ (file : Option (List ℕ)) (taken : ℕ) (l l₁ : Option (List ℕ)) (at at₁ : Standing) (so_far : ReadsSoFar file taken l l₁ at at₁) where
  pub ReadsSoFar-more : (n : ℕ) (l₂ : Option (List ℕ)) (at₂ : Standing) → ReadsOnce file n l₁ l₂ at₁ at₂ → ReadsSoFar file (taken + n) l l₂ at at₂
  ReadsSoFar-more n l₂ at₂ once =
      record {
        bytes = so_far.bytes ++ once.bytes;
        count = length-append so_far.bytes once.bytes ∙ (λ i. so_far.count i + once.count i);
        consumed = Consumes-trans l l₁ l₂ so_far.bytes once.bytes so_far.consumed once.consumed;
        takes = Takes-then file so_far.bytes at at₁ so_far.takes once.bytes at₂ once.takes;
      }

  pub ReadsSoFar-stop : (e : RunFault) (most all : ℕ) (after : Told) → taken + most ≤ all → StopsAt file e most l₁ at₁ after → StopsAt file e all l at after
  ReadsSoFar-stop e most all after fits part =
      let stops = StopsAt-then file so_far.bytes at at₁ so_far.takes e most l l₁ after so_far.consumed part in
      record { bytes = stops.bytes; consumed = stops.consumed; bounded = omega (arith, stops.bounded, so_far.count); stopped = stops.stopped }

  -- what is kept of the line that has begun
  pub ReadsSoFar-begun : IsBegun at₁.begun
  ReadsSoFar-begun = subst IsBegun (sym so_far.takes.begun) (IsBegun-kept (open_line (at.begun ++ so_far.bytes)) (HasNoFeed-open (at.begun ++ so_far.bytes)))

  -- nothing more was read
  pub ReadsSoFar-none_more : (e : RunFault) (all : ℕ) (l₂ : Option (List ℕ)) → taken ≤ all → Keeps l₁ l₂ → StopsAt file e all l at (told l₂ at₁.written at₁.files)
  ReadsSoFar-none_more e all l₂ fits kept = ReadsSoFar-stop e 0 all (told l₂ at₁.written at₁.files) (omega arith) (StopsAt-none file e 0 l₁ l₂ at₁ kept ReadsSoFar-begun)

  -- the input is at its end after a read of nothing
  pub ReadsTo-end : (n : ℕ) (l₂ : Option (List ℕ)) (at₂ : Standing) → taken ≤ input_limit → n ≡ 0 → ReadsOnce file n l₁ l₂ at₁ at₂ → ReadsTo file end.AtEnd l l₂ at at₂
  ReadsTo-end n l₂ at₂ fits none once =
      let more = ReadsSoFar-more n l₂ at₂ once in
      record {
        bytes = more.bytes;
        past = [];
        consumed = subst (Consumes l l₂) (sym (append-nil more.bytes)) more.consumed;
        ends = (once.at_end none, omega (arith, more.count), refl);
        takes = more.takes;
      }
