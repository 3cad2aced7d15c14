-- Lemmas on the answers to some lines, and on the entries that they add.
use Rattle.std.proofs.Common.{◌≡◌, ℕ, IfErr, IsErrAnd, List, [], ◌∷◌, ◌++◌, Option, Result, Ok, Err, refl, sym, ap, ◌∙◌, subst, append_assoc}
use Rattle.script_lang.specs.Grammar.{line_of}
use Rattle.script_session.specs.Machine.{Reply, SessionState, answers, entries_added, replied, reply, reply_to, session_after, session_next}
use Rattle.script_lang.specs.declared.script_line.ScriptLine.{ScriptLine}

-- lines and more lines
pub answers-append : (session : SessionState) (a b : List (List ℕ)) → answers session (a ++ b) ≡ answers session a ++ answers (session_after session a) b
answers-append session [] b = refl
answers-append session (l ∷ a) b =
    ap (λ t. (reply session l).text ++ t) (answers-append (session_next session l) a b)
    ∙ sym (append_assoc (reply session l).text (answers (session_next session l) a) _)

pub session_after-append : (session : SessionState) (a b : List (List ℕ)) → session_after session (a ++ b) ≡ session_after (session_after session a) b
session_after-append session [] b = refl
session_after-append session (l ∷ a) b = session_after-append (session_next session l) a b

pub entries_added-append : (session : SessionState) (a b : List (List ℕ)) → entries_added session (a ++ b) ≡ entries_added session a ++ entries_added (session_after session a) b
entries_added-append session [] b = refl
entries_added-append session (l ∷ a) b =
    ap (λ es. (reply session l).added ++ es) (entries_added-append (session_next session l) a b)
    ∙ sym (append_assoc (reply session l).added (entries_added (session_next session l) a) _)

-- the reply to a line is the reply to what it says
pub reply-said : (session : SessionState) (bytes : List ℕ) (said : Option ScriptLine) → said ≡ line_of bytes → reply_to session said ≡ reply session bytes
unfolding reply
reply-said session bytes said e = ap (reply_to session) e

-- a line with the same reply
pub answers-same : (session : SessionState) (a b : List ℕ) (lines : List (List ℕ)) → reply session a ≡ reply session b → answers session (a ∷ lines) ≡ answers session (b ∷ lines)
answers-same session a b lines e = ap (λ (r : Reply). r.text ++ answers (replied session r) lines) e

pub session_after-same : (session : SessionState) (a b : List ℕ) (lines : List (List ℕ)) → reply session a ≡ reply session b → session_after session (a ∷ lines) ≡ session_after session (b ∷ lines)
session_after-same session a b lines e = ap (λ (r : Reply). session_after (replied session r) lines) e

pub entries_added-same : (session : SessionState) (a b : List ℕ) (lines : List (List ℕ)) → reply session a ≡ reply session b → entries_added session (a ∷ lines) ≡ entries_added session (b ∷ lines)
entries_added-same session a b lines e = ap (λ (r : Reply). r.added ++ entries_added (replied session r) lines) e

-- what holds at the fault that a `?` passes on
pub at_fault : {T E : Type 0} (Q : E → Type 0) (r : Result T E) (e : E) → IsErrAnd r (λ y. y ≡ e) → Q e → IfErr r Q
at_fault Q (Ok x) e h q = tt
at_fault Q (Err y) e h q = subst Q (sym h) q
