-- Entries whose answers are printed.
use Rattle.std.proofs.Common.{◌≡◌, ◌≢◌, ℕ, ◌≤◌, List, [], ◌∷◌, ◌++◌, drop, length, refl, sym, ap, ◌∙◌, subst, append_assoc, append-nil, length-append, arith}
use Rattle.std.specs.Io.{StartsWith}
use Rattle.std.proofs.KnownBytes.{starts_with_rest}
use Rattle.std.proofs.Transfers.{starts_with_length, starts_with_of_append, starts_with_of_eq}
use Rattle.std.proofs.lemmas.List.{append_cancel_left}
use Rattle.script_session.specs.LogFiles.{entry_lines}
use Rattle.script_session.specs.Machine.{SessionState, answers, entries_added, replied, reply, session_after}
use Rattle.script_session.proofs.answers.AnswersLemmas.{answers-append}
use Rattle.script_session.proofs.steps.SessionLemmas.{IsSession, after_lines}
use Rattle.session_laws.proofs.AnsweredLines.{line_answered}
use Rattle.tcm_session.specs.Left.{HoldsAnswered, StopsIn, StopsNext, next_added, next_text}
use Rattle.tcm_session.proofs.runs.StopLemmas.{entry_lines-append, starts-after}

-- the same first part is left out of a text and of its front
starts_behind : (first text front : List ℕ) → StartsWith (first ++ text) (first ++ front) → StartsWith text front
starts_behind first text front starts =
    let rest = drop (length (first ++ front)) (first ++ text) in
    starts_with_of_append text front rest
    (append_cancel_left first text (front ++ rest) (starts_with_rest (first ++ text) (first ++ front) starts ∙ append_assoc first front rest))

-- a text of no bytes
no_bytes : (text : List ℕ) → length text ≤ 0 → text ≡ []
no_bytes [] none = refl
no_bytes (x ∷ text) none = absurd (omega (arith, none))

-- the last of some answers is as long as they are, or shorter
last_within : (session : SessionState) (before : List (List ℕ)) (bytes : List ℕ) → length (reply (session_after session before) bytes).text ≤ length (answers session (before ++ bytes ∷ []))
last_within session before bytes =
    let text = (reply (session_after session before) bytes).text in
    omega (arith, ap length (answers-append session before (bytes ∷ [])), length-append (answers session before) (text ++ []), length-append text [])

module _ (last : List ℕ) where
  -- by the lines that are done and those before an answered line
  holds : (session : SessionState) (done rest before : List (List ℕ)) (bytes : List ℕ) (after : List (List ℕ)) (front part : List ℕ) → done ++ rest ≡ before ++ bytes ∷ after
      → StopsNext (next_text (session_after session done) rest last) (next_added (session_after session done) rest) front part
      → (reply (session_after session before) bytes).text ≢ []
      → StartsWith (answers session done ++ front) (answers session (before ++ bytes ∷ []))
      → StartsWith (entry_lines (entries_added session done) ++ part) (entry_lines (entries_added session (before ++ bytes ∷ [])))
  holds session [] rest [] bytes after front part split next some starts =
      let text = (reply session bytes).text in
      let here : StopsNext text (entry_lines (reply session bytes).added) front part = subst (λ r. StopsNext (next_text session r last) (next_added session r) front part) split next in
      let begun : front ≢ [] = λ none. some (no_bytes text (omega (arith, starts_with_length front (text ++ []) starts, ap length none, length-append text []))) in
      starts_with_of_eq part (entry_lines ((reply session bytes).added ++ [])) (here.order begun ∙ ap entry_lines (sym (append-nil (reply session bytes).added)))
  holds session [] rest (x ∷ before) bytes after front part split next some starts =
      let later = replied session (reply session x) in
      let text = (reply session x).text in
      let here : StopsNext text (entry_lines (reply session x).added) front part = subst (λ r. StopsNext (next_text session r last) (next_added session r) front part) split next in
      let most = starts_with_length text front here.of_text in
      let least = starts_with_length front (text ++ answers later (before ++ bytes ∷ [])) starts in
      absurd (some (no_bytes _ (omega (arith, most, least, length-append text (answers later (before ++ bytes ∷ [])), last_within later before bytes))))
  holds session (d ∷ done) rest [] bytes after front part split next some starts =
      let same : d ≡ bytes = cc in
      let added = (reply session d).added in
      let later = entries_added (replied session (reply session d)) done in
      subst (λ (b : List ℕ). StartsWith (entry_lines (added ++ later) ++ part) (entry_lines ((reply session b).added ++ []))) same
      (starts_with_of_append (entry_lines (added ++ later) ++ part) (entry_lines (added ++ [])) (entry_lines later ++ part)
      (ap (λ t. t ++ part) (entry_lines-append added later) ∙ append_assoc (entry_lines added) (entry_lines later) part
      ∙ ap (λ es. entry_lines es ++ (entry_lines later ++ part)) (sym (append-nil added))))
  holds session (d ∷ done) rest (b ∷ before) bytes after front part split next some starts =
      let same : d ≡ b = cc in
      let tail : done ++ rest ≡ before ++ bytes ∷ after = cc in
      let later = replied session (reply session d) in
      let text = (reply session d).text in
      let added = (reply session d).added in
      let some' : (reply (session_after later before) bytes).text ≢ [] = subst (λ (x : List ℕ). (reply (session_after (replied session (reply session x)) before) bytes).text ≢ []) (sym same) some in
      let starts' : StartsWith ((text ++ answers later done) ++ front) (text ++ answers later (before ++ bytes ∷ [])) =
      subst (λ (x : List ℕ). StartsWith ((text ++ answers later done) ++ front) ((reply session x).text ++ answers (replied session (reply session x)) (before ++ bytes ∷ []))) (sym same) starts in
      let behind : StartsWith (answers later done ++ front) (answers later (before ++ bytes ∷ [])) =
      starts_behind text _ _ (subst (λ t. StartsWith t (text ++ answers later (before ++ bytes ∷ []))) (append_assoc text (answers later done) front) starts') in
      let it = holds later done rest before bytes after front part tail next some' behind in
      let all = entries_added later (before ++ bytes ∷ []) in
      let whole : StartsWith (entry_lines (added ++ entries_added later done) ++ part) (entry_lines (added ++ all)) =
      subst (λ t. StartsWith t (entry_lines (added ++ all))) (sym (ap (λ t. t ++ part) (entry_lines-append added (entries_added later done)) ∙ append_assoc (entry_lines added) (entry_lines (entries_added later done)) part))
      (subst (StartsWith (entry_lines added ++ (entry_lines (entries_added later done) ++ part))) (sym (entry_lines-append added all)) (starts-after (entry_lines added) _ _ it)) in
      subst (λ (x : List ℕ). StartsWith (entry_lines (added ++ entries_added later done) ++ part) (entry_lines ((reply session x).added ++ entries_added (replied session (reply session x)) (before ++ bytes ∷ [])))) same whole

pub holds_answered : (session : SessionState) (lines : List (List ℕ)) (last printed added : List ℕ) → IsSession session → StopsIn session lines last printed added → HoldsAnswered session lines printed added
holds_answered session lines last printed added is s before bytes after split starts =
    let some : (reply (session_after session before) bytes).text ≢ [] = line_answered (session_after session before) bytes (after_lines session before is).is in
    subst (λ t. StartsWith t (entry_lines (entries_added session (before ++ bytes ∷ [])))) (sym s.adds)
    (holds last session s.done s.rest before bytes after s.answer_part s.entry_part (sym s.split ∙ split) s.next some
    (subst (λ t. StartsWith t (answers session (before ++ bytes ∷ []))) s.prints starts))
