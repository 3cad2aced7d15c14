-- What is kept of a line that has begun: its reply is that of the whole line.
use Rattle.std.proofs.Common.{◌≡◌, ℕ, ◌+◌, ◌-◌, ◌≤◌, min, suc, zero, Bool, true, false, if◌then◌else◌, ◌==◌, nat_le, List, [], ◌∷◌, ◌++◌, length, take, Option, None, ◌⊎◌, inl, inr, refl, sym, ap, ◌∙◌, subst, append_assoc, length-take, arith}
use Rattle.std.proofs.Math.Seq.{take-append-add}
use Rattle.std.proofs.lemmas.Bool.{eqb-true}
use Rattle.std.proofs.lemmas.Bool.Decides.{nat_tests}
use Rattle.std.proofs.lemmas.List.{take-append-le, take_all, take_at, length-take-le}
use Rattle.cluster_terms.specs.ReplicationText.{words_of}
use Rattle.script_lang.specs.Grammar.{line_of, line_of_words}
use Rattle.script_lang.specs.declared.script_line.ScriptLine.{ScriptLine}
use Rattle.script_session.specs.Lines.{HasNoFeed, if_any, open_line, whole_lines}
use Rattle.script_session.specs.Machine.{SessionState, answers, entries_added, reply, reply_to, session_after}
use Rattle.tcm_session.specs.code.Runs.{IsBegun, kept_of, most_kept}
use Rattle.script_session.proofs.answers.AnswersLemmas.{answers-same, entries_added-same, session_after-same}
use Rattle.session_laws.proofs.LinesLemmas.{HasNoFeed-append, open_line-line, open_line-none, whole_lines-line, whole_lines-none}

-- ---- what is kept

pub kept_of-short : (bytes : List ℕ) → length bytes ≤ most_kept → kept_of bytes ≡ bytes
kept_of-short bytes few = take_all most_kept bytes few

pub kept_of-few : (bytes : List ℕ) → length (kept_of bytes) ≤ most_kept
kept_of-few bytes = omega (arith, length-take most_kept bytes)

-- bytes added to what is kept
pub kept_of-append : (o b : List ℕ) → kept_of (kept_of o ++ b) ≡ kept_of (o ++ b)
kept_of-append o b = by (nat_le (length o) most_kept) refl
  where
    by : (t : Bool) → nat_le (length o) most_kept ≡ t → kept_of (kept_of o ++ b) ≡ kept_of (o ++ b)
    by true e = let few : length o ≤ most_kept = grind (arith, nat_tests) in ap (λ x. kept_of (x ++ b)) (kept_of-short o few)
    by false e =
        let long : most_kept ≤ length o = grind (arith, nat_tests) in
        take_at (kept_of o) b most_kept (length-take-le most_kept o long) ∙ sym (take-append-le most_kept o b long)

-- no more than there is room for is added to what is kept
pub kept_of-extend : (o b : List ℕ) (n : ℕ) → length o ≤ most_kept → n ≡ min (most_kept - length o) (length b) → o ++ take n b ≡ kept_of (o ++ b)
kept_of-extend o b n few is =
    let full : most_kept ≡ length o + (most_kept - length o) = omega arith in
    ap (λ x. o ++ x) (ap (λ m. take m b) is ∙ by (nat_le (most_kept - length o) (length b)) refl)
    ∙ sym (ap (λ m. take m (o ++ b)) full ∙ take-append-add o b (most_kept - length o))
  where
    by : (t : Bool) → nat_le (most_kept - length o) (length b) ≡ t → take (min (most_kept - length o) (length b)) b ≡ take (most_kept - length o) b
    by true e =
        let within : most_kept - length o ≤ length b = grind (arith, nat_tests) in
        let same : min (most_kept - length o) (length b) ≡ most_kept - length o = omega arith in
        ap (λ m. take m b) same
    by false e =
        let beyond : length b ≤ most_kept - length o = grind (arith, nat_tests) in
        let same : min (most_kept - length o) (length b) ≡ length b = omega arith in
        let all : length b ≤ length b = omega arith in
        ap (λ m. take m b) same ∙ take_all (length b) b all ∙ sym (take_all (most_kept - length o) b beyond)

pub HasNoFeed-take : (n : ℕ) (bytes : List ℕ) → HasNoFeed bytes → HasNoFeed (take n bytes)
HasNoFeed-take zero bytes plain = tt
HasNoFeed-take (suc n) [] plain = tt
HasNoFeed-take (suc n) (c ∷ bytes) plain = (plain.0, HasNoFeed-take n bytes plain.1)

pub HasNoFeed-kept : (bytes : List ℕ) → HasNoFeed bytes → HasNoFeed (kept_of bytes)
HasNoFeed-kept bytes plain = HasNoFeed-take most_kept bytes plain

pub IsBegun-kept : (bytes : List ℕ) → HasNoFeed bytes → IsBegun (kept_of bytes)
IsBegun-kept bytes plain = record { plain = HasNoFeed-kept bytes plain; few = kept_of-few bytes }

pub IsBegun-nil : IsBegun []
IsBegun-nil = record { plain = tt; few = omega arith }

-- ---- its reply

line_of-kept : (bytes : List ℕ) → line_of (kept_of bytes) ≡ line_of bytes
unfolding line_of
line_of-kept bytes = by (nat_le (length bytes) 16384) refl
  where
    read : List ℕ → Option ScriptLine
    read x = if nat_le (length x) 16384 then line_of_words (words_of x) else None

    by : (t : Bool) → nat_le (length bytes) 16384 ≡ t → read (kept_of bytes) ≡ read bytes
    by true e = let few : length bytes ≤ most_kept = grind (arith, nat_tests) in ap read (kept_of-short bytes few)
    by false e =
        let long : most_kept ≤ length bytes = grind (arith, nat_tests) in
        let full : length (kept_of bytes) ≡ most_kept = length-take-le most_kept bytes long in
        let too_long : nat_le (length (kept_of bytes)) 16384 ≡ false = grind (arith, nat_tests, full) in
        ap (λ t. if t then line_of_words (words_of (kept_of bytes)) else None) too_long ∙ sym (ap (λ t. if t then line_of_words (words_of bytes) else None) e)

pub reply-kept : (session : SessionState) (bytes : List ℕ) → reply session (kept_of bytes) ≡ reply session bytes
unfolding reply
reply-kept session bytes = ap (reply_to session) (line_of-kept bytes)

reply-kept_append : (session : SessionState) (o b : List ℕ) → reply session (kept_of o ++ b) ≡ reply session (o ++ b)
reply-kept_append session o b = sym (reply-kept session (kept_of o ++ b)) ∙ ap (reply session) (kept_of-append o b) ∙ reply-kept session (o ++ b)

-- ---- the lines of what is kept, and of what follows

-- bytes with a first line feed
record Ends (bytes : List ℕ) : Type 0 where
  line : List ℕ
  more : List ℕ
  plain : HasNoFeed line
  is : bytes ≡ line ++ 10 ∷ more

ends : (bytes : List ℕ) → HasNoFeed bytes ⊎ Ends bytes
ends [] = inl tt
ends (c ∷ bytes) = by (c == 10) refl (ends bytes)
  where
    by : (t : Bool) → (c == 10) ≡ t → HasNoFeed bytes ⊎ Ends bytes → HasNoFeed (c ∷ bytes) ⊎ Ends (c ∷ bytes)
    by true e rest = inr (record { line = []; more = bytes; plain = tt; is = ap (λ x. x ∷ bytes) (eqb-true c 10 e) })
    by false e (inl plain) = inl (e, plain)
    by false e (inr it) = inr (record { line = c ∷ it.line; more = it.more; plain = (e, it.plain); is = ap (λ l. c ∷ l) it.is })

-- the lines of a line that has begun, its end, and what follows
pub one_line : (o l more : List ℕ) → HasNoFeed o → HasNoFeed l → whole_lines (o ++ (l ++ 10 ∷ more)) ≡ (o ++ l) ∷ whole_lines more
one_line o l more p q = ap whole_lines (sym (append_assoc o l (10 ∷ more))) ∙ whole_lines-line (o ++ l) more (HasNoFeed-append o l p q)

pub one_begun : (o l more : List ℕ) → HasNoFeed o → HasNoFeed l → open_line (o ++ (l ++ 10 ∷ more)) ≡ open_line more
one_begun o l more p q = ap open_line (sym (append_assoc o l (10 ∷ more))) ∙ open_line-line (o ++ l) more (HasNoFeed-append o l p q)

-- what depends on the replies to lines alone
record DependsOnReplies {T : Type 0} (f : List (List ℕ) → T) (session : SessionState) : Type 0 where
  same : (a b : List ℕ) (lines : List (List ℕ)) → reply session a ≡ reply session b → f (a ∷ lines) ≡ f (b ∷ lines)

lines-kept : {T : Type 0} (f : List (List ℕ) → T) (session : SessionState) → DependsOnReplies f session → (o b : List ℕ) → HasNoFeed o → f (whole_lines (kept_of o ++ b)) ≡ f (whole_lines (o ++ b))
lines-kept f session depends o b plain = by (ends b)
  where
    kept_plain : HasNoFeed (kept_of o)
    kept_plain = HasNoFeed-kept o plain

    by : HasNoFeed b ⊎ Ends b → f (whole_lines (kept_of o ++ b)) ≡ f (whole_lines (o ++ b))
    by (inl none) = ap f (whole_lines-none (kept_of o ++ b) (HasNoFeed-append (kept_of o) b kept_plain none) ∙ sym (whole_lines-none (o ++ b) (HasNoFeed-append o b plain none)))
    by (inr it) =
        ap (λ x. f (whole_lines (kept_of o ++ x))) it.is ∙ ap f (one_line (kept_of o) it.line it.more kept_plain it.plain)
        ∙ depends.same (kept_of o ++ it.line) (o ++ it.line) (whole_lines it.more) (reply-kept_append session o it.line)
        ∙ sym (ap (λ x. f (whole_lines (o ++ x))) it.is ∙ ap f (one_line o it.line it.more plain it.plain))

-- what holds of lines, if it holds of a first line for any with the same reply
pub lines-carried : (F : List (List ℕ) → Type 0) (session : SessionState) → ((x y : List ℕ) (lines : List (List ℕ)) → reply session x ≡ reply session y → F (x ∷ lines) → F (y ∷ lines)) → (o b : List ℕ) → HasNoFeed o
    → F (whole_lines (kept_of o ++ b)) → F (whole_lines (o ++ b))
lines-carried F session carry o b plain = by (ends b)
  where
    kept_plain : HasNoFeed (kept_of o)
    kept_plain = HasNoFeed-kept o plain

    by : HasNoFeed b ⊎ Ends b → F (whole_lines (kept_of o ++ b)) → F (whole_lines (o ++ b))
    by (inl none) = subst F (whole_lines-none (kept_of o ++ b) (HasNoFeed-append (kept_of o) b kept_plain none) ∙ sym (whole_lines-none (o ++ b) (HasNoFeed-append o b plain none)))
    by (inr it) = λ given.
        let kept : whole_lines (kept_of o ++ b) ≡ (kept_of o ++ it.line) ∷ whole_lines it.more = ap (λ x. whole_lines (kept_of o ++ x)) it.is ∙ one_line (kept_of o) it.line it.more kept_plain it.plain in
        let all : whole_lines (o ++ b) ≡ (o ++ it.line) ∷ whole_lines it.more = ap (λ x. whole_lines (o ++ x)) it.is ∙ one_line o it.line it.more plain it.plain in
        subst F (sym all) (carry (kept_of o ++ it.line) (o ++ it.line) (whole_lines it.more) (reply-kept_append session o it.line) (subst F kept given))

pub answers-kept : (session : SessionState) (o b : List ℕ) → HasNoFeed o → answers session (whole_lines (kept_of o ++ b)) ≡ answers session (whole_lines (o ++ b))
answers-kept session o b plain = lines-kept (answers session) session (record { same = answers-same session }) o b plain

pub session_after-kept : (session : SessionState) (o b : List ℕ) → HasNoFeed o → session_after session (whole_lines (kept_of o ++ b)) ≡ session_after session (whole_lines (o ++ b))
session_after-kept session o b plain = lines-kept (session_after session) session (record { same = session_after-same session }) o b plain

pub entries_added-kept : (session : SessionState) (o b : List ℕ) → HasNoFeed o → entries_added session (whole_lines (kept_of o ++ b)) ≡ entries_added session (whole_lines (o ++ b))
entries_added-kept session o b plain = lines-kept (entries_added session) session (record { same = entries_added-same session }) o b plain

pub open_line-kept : (o b : List ℕ) → HasNoFeed o → kept_of (open_line (kept_of o ++ b)) ≡ kept_of (open_line (o ++ b))
open_line-kept o b plain = by (ends b)
  where
    kept_plain : HasNoFeed (kept_of o)
    kept_plain = HasNoFeed-kept o plain

    by : HasNoFeed b ⊎ Ends b → kept_of (open_line (kept_of o ++ b)) ≡ kept_of (open_line (o ++ b))
    by (inl none) =
        ap kept_of (open_line-none (kept_of o ++ b) (HasNoFeed-append (kept_of o) b kept_plain none)) ∙ kept_of-append o b
        ∙ sym (ap kept_of (open_line-none (o ++ b) (HasNoFeed-append o b plain none)))
    by (inr it) =
        ap (λ x. kept_of (open_line (kept_of o ++ x))) it.is ∙ ap kept_of (one_begun (kept_of o) it.line it.more kept_plain it.plain)
        ∙ sym (ap (λ x. kept_of (open_line (o ++ x))) it.is ∙ ap kept_of (one_begun o it.line it.more plain it.plain))

-- ---- an open line at the end of an input

if_any-kept : {T : Type 0} (f : List (List ℕ) → T) (session : SessionState) → DependsOnReplies f session → (o : List ℕ) → f (if_any (kept_of o)) ≡ f (if_any o)
if_any-kept f session depends [] = refl
if_any-kept f session depends (c ∷ o) = depends.same (kept_of (c ∷ o)) (c ∷ o) [] (reply-kept session (c ∷ o))

pub answers-any_kept : (session : SessionState) (o : List ℕ) → answers session (if_any (kept_of o)) ≡ answers session (if_any o)
answers-any_kept session o = if_any-kept (answers session) session (record { same = answers-same session }) o

pub entries_added-any_kept : (session : SessionState) (o : List ℕ) → entries_added session (if_any (kept_of o)) ≡ entries_added session (if_any o)
entries_added-any_kept session o = if_any-kept (entries_added session) session (record { same = entries_added-same session }) o
