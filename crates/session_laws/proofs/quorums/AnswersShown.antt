-- Each line of the answers of a session that shows quorums is the text of a shown answer.
use Rattle.std.proofs.Common.{◌≡◌, ℕ, List, [], ◌∷◌, ◌++◌, Option, Some, None, refl, sym, subst, arith}
use Rattle.std.proofs.lemmas.List.{append-nil}
use Rattle.std.proofs.lemmas.List.Elements.{Contains-append_left, Contains-append_right}
use Rattle.script_lang.specs.Grammar.{line_of}
use Rattle.script_lang.specs.AnswerTexts.{line}
use Rattle.script_session.specs.Lines.{open_line}
use Rattle.script_session.specs.Machine.{SessionState, answers, reply, session_next}
use Rattle.session_laws.specs.Shown.{BeginsWithWord, IsOfNoQuorum, IsShownLine, LinesAreShown, Shown, and_shown, shown, shown_by, shown_text}
use Rattle.session_laws.proofs.quorums.AnswerLines.{other_lines, shown_lines}
use Rattle.script_session.proofs.steps.SessionLemmas.{IsSession, after_reply}
use Rattle.session_laws.proofs.quorums.ShownAnswers.{texts}
use Rattle.session_laws.proofs.texts.WholeLines.{AreLines, AreLines-append, AreLines-front, AreLines-nil, AreLines-weaker}

-- a line that shows quorums is the text of one of some answers
abbrev pub IsTold : List Shown → List ℕ → Type 0
IsTold answers l = BeginsWithWord l → IsShownLine answers l

-- the lines of the answers to some lines
pub lines_of : (session : SessionState) → IsSession session → (lines : List (List ℕ)) → AreLines (IsTold (shown session lines)) (answers session lines)
lines_of session is [] = AreLines-nil (IsTold [])
lines_of session is (bytes ∷ lines) = by (lines_of (session_next session bytes) (after_reply session bytes is).is lines) (shown_by session (line_of bytes)) refl
  where
    later : List Shown
    later = shown (session_next session bytes) lines

    by : AreLines (IsTold later) (answers (session_next session bytes) lines) → (o : Option Shown) → shown_by session (line_of bytes) ≡ o
        → AreLines (IsTold (and_shown o later)) ((reply session bytes).text ++ answers (session_next session bytes) lines)
    by rest None e =
        AreLines-append (IsTold later) (reply session bytes).text (answers (session_next session bytes) lines)
        (AreLines-weaker IsOfNoQuorum (IsTold later) (λ l none begins. absurd (none begins)) (reply session bytes).text (other_lines session bytes is e)) rest
    by rest (Some s) e =
        let own : AreLines (IsTold (s ∷ later)) (shown_text s) =
        AreLines-weaker (λ l. line l ≡ shown_text s) (IsTold (s ∷ later)) (λ l text begins. record { shown = s; among = Contains-append_left (s ∷ []) later s (0, omega arith, refl); text = text })
        (shown_text s) (shown_lines s) in
        let more : AreLines (IsTold (s ∷ later)) (answers (session_next session bytes) lines) =
        AreLines-weaker (IsTold later) (IsTold (s ∷ later))
        (λ l told begins. let is = told begins in record { shown = is.shown; among = Contains-append_right (s ∷ []) later is.shown is.among; text = is.text })
        (answers (session_next session bytes) lines) rest in
        AreLines-append (IsTold (s ∷ later)) (reply session bytes).text (answers (session_next session bytes) lines) (subst (AreLines (IsTold (s ∷ later))) (sym (texts session bytes s e)) own) more

pub answers_whole : (session : SessionState) → IsSession session → (lines : List (List ℕ)) → open_line (answers session lines) ≡ []
answers_whole session is lines = (lines_of session is lines).whole

pub answers_shown : (session : SessionState) → IsSession session → (lines : List (List ℕ)) → LinesAreShown (answers session lines) (shown session lines)
answers_shown session is lines = AreLines-front (IsTold (shown session lines)) (answers session lines) (answers session lines) [] (sym (append-nil (answers session lines))) (lines_of session is lines)
