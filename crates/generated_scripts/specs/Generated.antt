-- The summary of the answers to the generated script.
use Rattle.std.specs.Prelude.{ℕ, zero, suc, ◌+◌, Bool, false, true, if◌then◌else◌, List, [], ◌∷◌, ◌++◌, length, filter, ◌==◌, codes, decimal}
use Rattle.std.specs.List.{starts_with}
use Rattle.script_lang.specs.AnswerTexts.{line}
use Rattle.generated_scripts.specs.GeneratedLines.{generated_lines}
use Rattle.script_session.specs.Machine.{epoch_of_follower, follower_named, reply, session_next, session_over}
use Rattle.script_session.specs.declared.session.followers.NamedFollower.{NamedFollower}
use Rattle.generated_scripts.specs.declared.kinds.AnswerKind.{AnswerKind}
use Rattle.generated_scripts.specs.declared.kinds.AnswerKind.TheVariants.{Accepted, Refused, Other}
use Rattle.generated_scripts.specs.declared.generation.Generation.{Generation}

-- ---- the answers

-- what the answers to refused commits begin with, from the refusal with number 1 on
abbrev pub refusals : List (List ℕ)
refusals =
    codes "NO NAME-TAKEN" ∷ codes "NO NODES-FULL" ∷ codes "NO NO-NODE" ∷ codes "NO NODE-STATE" ∷ codes "NO IN-SEQUENCE"
    ∷ codes "NO NO-SEQUENCE" ∷ codes "NO WRONG-STEP" ∷ codes "NO TOKEN-TAKEN" ∷ codes "NO NO-TOKENS"
    ∷ codes "NO TOKENS-FULL" ∷ codes "NO NOT-ONE-TOKEN" ∷ codes "NO OTHER-RACK" ∷ codes "NO NOT-IDLE"
    ∷ codes "NO NO-KEYSPACE" ∷ codes "NO KEYSPACES-FULL" ∷ codes "NO TOO-FEW-NODES" ∷ codes "NO LOCKED"
    ∷ codes "NO ID-REUSED" ∷ codes "NO EPOCHS-FULL" ∷ codes "NO KEYSPACE-LOCKED" ∷ []

-- whether a text begins with another one
unfoldable pub begins : List ℕ → List ℕ → Bool
begins text front = starts_with ◌==◌ text front

-- the kind of an answer that accepts no commit: the refusal of the first of these texts that it begins with, where the
-- first text has this number; or any other answer
abbrev pub refused_kind : ℕ → List (List ℕ) → List ℕ → AnswerKind
refused_kind number [] text = Other
refused_kind number (front ∷ fronts) text =
    if begins text front then Refused number else refused_kind (number + 1) fronts text

-- the kind of an answer: a commit that is accepted, a refusal with its number, or any other answer
unfoldable pub kind_of : List ℕ → AnswerKind
kind_of text = if begins text (codes "OK ") then Accepted else refused_kind 1 refusals text

-- the session and the kinds of the answers before the first line
abbrev pub nothing_generated : Generation
nothing_generated = record { session = session_over []; kinds = [] }

-- the session and the kinds of the answers once a line is answered
abbrev pub after_line : Generation → List ℕ → Generation
after_line g bytes =
    record { session = session_next g.session bytes; kinds = g.kinds ++ kind_of (reply g.session bytes).text ∷ [] }

-- the session and the kinds of the answers once lines are answered, one after another
abbrev pub after_lines : Generation → List (List ℕ) → Generation
after_lines g [] = g
after_lines g (bytes ∷ lines) = after_lines (after_line g bytes) lines

-- ---- the summary

-- whether an answer accepts a commit
abbrev pub is_accepted : AnswerKind → Bool
is_accepted Accepted = true
is_accepted _ = false

-- whether an answer is the refusal with this number
abbrev pub is_refused : ℕ → AnswerKind → Bool
is_refused number (Refused n) = n == number
is_refused number _ = false

-- the line of a label and a number
abbrev pub count_line : List ℕ → ℕ → List ℕ
count_line label n = line (label ++ decimal n)

-- a text, unless the number is 0
abbrev pub if_came : ℕ → List ℕ → List ℕ
if_came zero text = []
if_came (suc n) text = text

-- the line of a refusal, with the number of its answers, if it came
abbrev pub refused_line : List AnswerKind → ℕ → List ℕ
refused_line kinds number =
    let count = length (filter (is_refused number) kinds) in
    if_came count (line (codes "REFUSED " ++ decimal number ++ codes " " ++ decimal count))

-- the lines of `count` refusals, from the refusal with this number on
unfoldable pub refused_lines : List AnswerKind → ℕ → ℕ → List ℕ
refused_lines kinds number zero = []
refused_lines kinds number (suc count) = refused_line kinds number ++ refused_lines kinds (number + 1) count

-- the numbers of lines, of accepted commits and of each refusal that came
unfoldable pub answers_text : List AnswerKind → List ℕ
answers_text kinds =
    count_line (codes "LINES ") (length kinds) ++ count_line (codes "OK ") (length (filter is_accepted kinds))
    ++ refused_lines kinds 1 20

-- these numbers, the last epoch, and the epoch of follower f
unfoldable pub counts_text : Generation → List ℕ
counts_text g =
    answers_text g.kinds ++ count_line (codes "EPOCH ") (length g.session.log)
    ++ count_line (codes "FOLLOWER ") (epoch_of_follower (follower_named g.session.followers (codes "f")))

-- what `gen START N` comes to
abbrev pub generation_of : ℕ → ℕ → Generation
generation_of start rounds = after_lines nothing_generated (generated_lines start rounds)

-- what `gen START N` prints
unfoldable pub summary : ℕ → ℕ → List ℕ
summary start rounds =
    line (codes "GEN " ++ decimal start ++ codes " " ++ decimal rounds) ++ counts_text (generation_of start rounds)
