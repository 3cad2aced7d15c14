-- What `gen` prints: no line of it begins with the word of an answer with quorums.
use Rattle.std.proofs.Common.{ℕ, zero, suc, ◌+◌, inl, inr, List, ◌++◌, length, filter, get_or, codes, decimal, refl, ap, arith}
use Rattle.script_lang.specs.AnswerTexts.{line}
use Rattle.generated_scripts.specs.Generated.{answers_text, count_line, counts_text, generation_of, if_came, is_accepted, is_refused, refused_line, refused_lines, summary}
use Rattle.script_session.specs.Machine.{epoch_of_follower, follower_named}
use Rattle.session_laws.specs.Shown.{BeginsWithWord, IsOfNoQuorum}
use Rattle.generated_scripts.specs.declared.generation.Generation.{Generation}
use Rattle.generated_scripts.specs.declared.kinds.AnswerKind.{AnswerKind}
use Rattle.session_laws.proofs.quorums.AnswerLines.{other_line}
use Rattle.session_laws.proofs.texts.PlainTexts.{plain_decimal, plain_joined}
use Rattle.session_laws.proofs.texts.WholeLines.{AreLines, AreLines-append, AreLines-line, AreLines-nil}

-- the number of lines begins as the word of a local answer does, and goes on otherwise
count_of_lines : (n : ℕ) → AreLines IsOfNoQuorum (count_line (codes "LINES ") n)
count_of_lines n = AreLines-line IsOfNoQuorum (codes "LINES " ++ decimal n) (plain_decimal n) none
  where
    none : BeginsWithWord (codes "LINES " ++ decimal n) → ⊥
    none (inl e) = (let first = ap (λ t. get_or t 0 0) e in omega (arith, first))
    none (inr e) = (let second = ap (λ t. get_or t 1 0) e in omega (arith, second))

-- the numbers of the refusals that came
refusal_line : (kinds : List AnswerKind) (number : ℕ) → AreLines IsOfNoQuorum (refused_line kinds number)
refusal_line kinds number = by (length (filter (is_refused number) kinds))
  where
    by : (count : ℕ) → AreLines IsOfNoQuorum (if_came count (line (codes "REFUSED " ++ decimal number ++ codes " " ++ decimal count)))
    by zero = AreLines-nil IsOfNoQuorum
    by (suc n) =
        other_line (codes "REFUSED " ++ decimal number ++ codes " " ++ decimal (suc n)) (plain_joined (codes "REFUSED " ++ decimal number) (codes " ") (decimal (suc n)) (plain_decimal number) refl (plain_decimal (suc n)))
        (λ e. omega arith) (λ e. omega arith)

refusal_lines : (kinds : List AnswerKind) (number count : ℕ) → AreLines IsOfNoQuorum (refused_lines kinds number count)
unfolding refused_lines
refusal_lines kinds number zero = AreLines-nil IsOfNoQuorum
refusal_lines kinds number (suc count) = AreLines-append IsOfNoQuorum (refused_line kinds number) (refused_lines kinds (number + 1) count) (refusal_line kinds number) (refusal_lines kinds (number + 1) count)

answer_lines : (kinds : List AnswerKind) → AreLines IsOfNoQuorum (answers_text kinds)
unfolding answers_text
answer_lines kinds =
    let accepted = length (filter is_accepted kinds) in
    AreLines-append IsOfNoQuorum (count_line (codes "LINES ") (length kinds) ++ count_line (codes "OK ") accepted) (refused_lines kinds 1 20)
    (AreLines-append IsOfNoQuorum (count_line (codes "LINES ") (length kinds)) (count_line (codes "OK ") accepted) (count_of_lines (length kinds))
    (other_line (codes "OK " ++ decimal accepted) (plain_decimal accepted) (λ e. omega arith) (λ e. omega arith)))
    (refusal_lines kinds 1 20)

count_lines : (g : Generation) → AreLines IsOfNoQuorum (counts_text g)
unfolding counts_text
count_lines g =
    let last = length g.session.log in
    let follower = epoch_of_follower (follower_named g.session.followers (codes "f")) in
    AreLines-append IsOfNoQuorum (answers_text g.kinds ++ count_line (codes "EPOCH ") last) (count_line (codes "FOLLOWER ") follower)
    (AreLines-append IsOfNoQuorum (answers_text g.kinds) (count_line (codes "EPOCH ") last) (answer_lines g.kinds)
    (other_line (codes "EPOCH " ++ decimal last) (plain_decimal last) (λ e. omega arith) (λ e. omega arith)))
    (other_line (codes "FOLLOWER " ++ decimal follower) (plain_decimal follower) (λ e. omega arith) (λ e. omega arith))

pub summary_lines : (start rounds : ℕ) → AreLines IsOfNoQuorum (summary start rounds)
unfolding summary
summary_lines start rounds =
    let head = codes "GEN " ++ decimal start ++ codes " " ++ decimal rounds in
    AreLines-append IsOfNoQuorum (line head) (counts_text (generation_of start rounds))
    (other_line head (plain_joined (codes "GEN " ++ decimal start) (codes " ") (decimal rounds) (plain_decimal start) refl (plain_decimal rounds)) (λ e. omega arith) (λ e. omega arith))
    (count_lines (generation_of start rounds))
