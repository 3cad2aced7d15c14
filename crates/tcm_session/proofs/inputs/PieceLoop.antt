-- The loop that takes a piece of a script.
use Rattle.std.proofs.Common.{◌≡◌, ℕ, List, [], ◌∷◌, ◌++◌, Option, refl, sym, ap, ◌∙◌, subst, append_assoc, append-nil}
use Rattle.std.specs.Io.KnownBytes.{Appends}
use Rattle.std.proofs.KnownBytes.{Appends-nil, Appends-trans}
use Rattle.tcm_edges.specs.Files.{Files}
use Rattle.tcm_session.specs.Left.{StopsIn, StopsNext}
use Rattle.script_session.specs.Lines.{HasNoFeed, whole_lines, open_line}
use Rattle.script_session.specs.LogFiles.{Gains, entry_lines}
use Rattle.script_session.specs.Machine.{Reply, answers, entries_added, replied, reply, session_after}
use Rattle.tcm_session.specs.code.Runs.{IsBegun, Standing, Takes, kept_of, lines_ended}
use Rattle.tcm_session.specs.code.Stops.{Stopped}
use Rattle.script_session.proofs.answers.AnswersLemmas.{answers-append, entries_added-append, session_after-append}
use Rattle.script_session.proofs.steps.GainLemmas.{Gains-append, Gains-nil}
use Rattle.tcm_session.proofs.inputs.BegunLines.{IsBegun-nil, one_begun, one_line, reply-kept}
use Rattle.session_laws.proofs.LinesLemmas.{HasNoFeed-append, open_line-none, whole_lines-none}
use Rattle.tcm_session.proofs.runs.StopLemmas.{Adds-of_gains, Stopped-after, Stopped-none, StopsIn-lines, StopsIn-next, StopsIn-none, StopsIn-then, entry_lines-append}

-- the lines of the piece that are done, and what is left of it
pub record Feeds (file : Option (List ℕ)) (at : Standing) (piece : List ℕ) (at' : Standing) (rest : List ℕ) : Type 0 where
  pub done : List (List ℕ)
  pub lines : lines_ended at piece ≡ done ++ lines_ended at' rest
  pub session : at'.session ≡ session_after at.session done
  pub wrote : Appends at.written at'.written (answers at.session done)
  pub files : Gains file (entry_lines (entries_added at.session done)) at.files at'.files
  pub opened : open_line (at.begun ++ piece) ≡ open_line (at'.begun ++ rest)
  pub begun : IsBegun at'.begun

-- nothing is taken yet
pub Feeds-begin : (file : Option (List ℕ)) (at : Standing) (piece : List ℕ) → IsBegun at.begun → Feeds file at piece at piece
Feeds-begin file at piece begun =
    record { done = []; lines = refl; session = refl; wrote = Appends-nil at.written; files = Gains-nil file at.files; opened = refl; begun = begun }

module _ (file : Option (List ℕ)) (at : Standing) (piece : List ℕ) (at₁ : Standing) (rest l more : List ℕ) (f : Feeds file at piece at₁ rest) (e : rest ≡ l ++ 10 ∷ more) (plain : HasNoFeed l) where
  -- the lines that the rest ends
  next_lines : lines_ended at₁ rest ≡ (at₁.begun ++ l) ∷ whole_lines more
  next_lines = ap (λ x. whole_lines (at₁.begun ++ x)) e ∙ one_line at₁.begun l more f.begun.plain plain

  -- the reply to the next line, of which not all may be kept
  next_reply : reply at₁.session (kept_of (at₁.begun ++ l)) ≡ reply (session_after at.session f.done) (at₁.begun ++ l)
  next_reply = reply-kept at₁.session (at₁.begun ++ l) ∙ ap (λ s. reply s (at₁.begun ++ l)) f.session

  -- the next line is answered
  pub Feeds-line : (at₂ : Standing) → at₂.begun ≡ [] → Appends at₁.written at₂.written (reply at₁.session (kept_of (at₁.begun ++ l))).text
      → at₂.session ≡ replied at₁.session (reply at₁.session (kept_of (at₁.begun ++ l)))
      → Gains file (entry_lines (reply at₁.session (kept_of (at₁.begun ++ l))).added) at₁.files at₂.files → Feeds file at piece at₂ more
  Feeds-line at₂ none wrote next gained =
      let line = at₁.begun ++ l in
      let here = session_after at.session f.done in
      let lines : lines_ended at₂ more ≡ whole_lines more = ap (λ o. whole_lines (o ++ more)) none in
      record {
        done = f.done ++ line ∷ [];
        lines = f.lines ∙ ap (λ ls. f.done ++ ls) (next_lines ∙ ap (λ ls. line ∷ ls) (sym lines)) ∙ sym (append_assoc f.done (line ∷ []) (lines_ended at₂ more));
        session = next ∙ (λ i. replied (f.session i) (next_reply i)) ∙ sym (session_after-append at.session f.done (line ∷ []));
        wrote = subst (Appends at.written at₂.written)
            (ap (λ (r : Reply). answers at.session f.done ++ r.text) next_reply ∙ ap (λ t. answers at.session f.done ++ t) (sym (append-nil (reply here line).text))
            ∙ sym (answers-append at.session f.done (line ∷ [])))
            (Appends-trans at.written at₁.written at₂.written _ _ f.wrote wrote);
        files = subst (λ t. Gains file t at.files at₂.files)
            (ap (λ (r : Reply). entry_lines (entries_added at.session f.done) ++ entry_lines r.added) next_reply
            ∙ sym (entry_lines-append (entries_added at.session f.done) (reply here line).added)
            ∙ ap (λ es. entry_lines (entries_added at.session f.done ++ es)) (sym (append-nil (reply here line).added))
            ∙ ap entry_lines (sym (entries_added-append at.session f.done (line ∷ []))))
            (Gains-append file _ _ at.files at₁.files at₂.files f.files gained);
        opened = f.opened ∙ ap (λ x. open_line (at₁.begun ++ x)) e ∙ one_begun at₁.begun l more f.begun.plain plain ∙ ap (λ o. open_line (o ++ more)) (sym none);
        begun = subst IsBegun (sym none) IsBegun-nil;
      }

  -- the next line stopped
  pub Feeds-part : (w₂ : Option (List ℕ)) (f₂ : Option Files)
      → Stopped (StopsNext (reply at₁.session (kept_of (at₁.begun ++ l))).text (entry_lines (reply at₁.session (kept_of (at₁.begun ++ l))).added)) file at₁.written w₂ at₁.files f₂
      → Stopped (StopsIn at.session (lines_ended at piece) []) file at.written w₂ at.files f₂
  Feeds-part w₂ f₂ stopped =
      let line = at₁.begun ++ l in
      let here = session_after at.session f.done in
      let all : lines_ended at piece ≡ f.done ++ line ∷ whole_lines more = f.lines ∙ ap (λ ls. f.done ++ ls) next_lines in
      let step : (printed added : List ℕ) → StopsNext (reply at₁.session (kept_of line)).text (entry_lines (reply at₁.session (kept_of line)).added) printed added
      → StopsIn at.session (lines_ended at piece) [] (answers at.session f.done ++ printed) (entry_lines (entries_added at.session f.done) ++ added) =
      λ printed added next. StopsIn-lines at.session (f.done ++ line ∷ whole_lines more) (lines_ended at piece) [] _ _ all
      (StopsIn-then at.session f.done (line ∷ whole_lines more) [] printed added
      (StopsIn-next here (line ∷ whole_lines more) [] printed added (subst (λ (r : Reply). StopsNext r.text (entry_lines r.added) printed added) next_reply next))) in
      Stopped-after (StopsNext (reply at₁.session (kept_of line)).text (entry_lines (reply at₁.session (kept_of line)).added)) (StopsIn at.session (lines_ended at piece) [])
      file at.written at₁.written w₂ at.files at₁.files f₂ (answers at.session f.done) (entry_lines (entries_added at.session f.done)) step f.wrote (Adds-of_gains file _ at.files at₁.files f.files) stopped

-- before the next line
pub Feeds-stop : (file : Option (List ℕ)) (at : Standing) (piece : List ℕ) (at₁ : Standing) (rest : List ℕ) → Feeds file at piece at₁ rest → Stopped (StopsIn at.session (lines_ended at piece) []) file at.written at₁.written at.files at₁.files
Feeds-stop file at piece at₁ rest f =
    let here = session_after at.session f.done in
    let step : (printed added : List ℕ) → StopsIn here (lines_ended at₁ rest) [] printed added
    → StopsIn at.session (lines_ended at piece) [] (answers at.session f.done ++ printed) (entry_lines (entries_added at.session f.done) ++ added) =
    λ printed added s. StopsIn-lines at.session (f.done ++ lines_ended at₁ rest) (lines_ended at piece) [] _ _ f.lines (StopsIn-then at.session f.done (lines_ended at₁ rest) [] printed added s) in
    Stopped-after (StopsIn here (lines_ended at₁ rest) []) (StopsIn at.session (lines_ended at piece) [])
    file at.written at₁.written at₁.written at.files at₁.files at₁.files (answers at.session f.done) (entry_lines (entries_added at.session f.done)) step f.wrote (Adds-of_gains file _ at.files at₁.files f.files)
    (Stopped-none (StopsIn here (lines_ended at₁ rest) []) file at₁.written at₁.files at₁.files refl (StopsIn-none here (lines_ended at₁ rest) []))

-- no line is left: the rest is of the line that has begun
pub Feeds-end : (file : Option (List ℕ)) (at : Standing) (piece : List ℕ) (at₁ : Standing) (rest : List ℕ) (begun' : List ℕ) → Feeds file at piece at₁ rest → HasNoFeed rest → begun' ≡ kept_of (at₁.begun ++ rest)
    → Takes file piece at (record at₁ { begun = begun' })
Feeds-end file at piece at₁ rest begun' f plain kept =
    let bare = HasNoFeed-append at₁.begun rest f.begun.plain plain in
    let none = whole_lines-none (at₁.begun ++ rest) bare in
    let all : f.done ≡ lines_ended at piece = sym (f.lines ∙ ap (λ ls. f.done ++ ls) none ∙ append-nil f.done) in
    record {
      session = f.session ∙ ap (session_after at.session) all;
      begun = kept ∙ sym (ap kept_of (f.opened ∙ open_line-none (at₁.begun ++ rest) bare));
      answered = subst (λ ls. Appends at.written at₁.written (answers at.session ls)) all f.wrote;
      files = subst (λ ls. Gains file (entry_lines (entries_added at.session ls)) at.files at₁.files) all f.files;
    }
