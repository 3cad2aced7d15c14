-- Texts of answers hold no line feed but at the ends of their lines.
use Rattle.std.proofs.Common.{◌≡◌, ℕ, zero, suc, ◌/◌, ◌%◌, ◌≤◌, ℤ, pos, negsuc, Bool, true, false, cond, not, ◌&&◌, ◌==◌, inl, inr, length, nat_le, List, [], ◌∷◌, ◌++◌, flat_map, get_or, Option, Some, None, codes, decimal, refl, sym, ap, ◌∙◌, subst, arith}
use Rattle.std.proofs.lemmas.Bool.{false≢true, and_parts}
use Rattle.std.proofs.lemmas.Bool.Decides.{eqb_tells, nat_tests}
use Rattle.std.proofs.lemmas.List.Folds.{list_all-append}
use Rattle.std.specs.Fmt.{digit_glyph, digits, digits_onto, signed_decimal}
use Rattle.std.specs.List.{AllByRecursion, list_all}
use Rattle.cluster_terms.specs.Name.{is_name, is_name_byte}
use Rattle.cluster_terms.specs.declared.token.Pair.{Pair}
use Rattle.cluster_terms.specs.declared.token.RightEnd.{RightEnd}
use Rattle.cluster_terms.specs.declared.token.RightEnd.TheVariants.{At, Max}
use Rattle.transformations.specs.Words.{movement_word, phase_word}
use Rattle.transformations.specs.declared.refusal.Refusal.{Refusal}
use Rattle.transformations.specs.declared.refusal.Refusal.TheVariants.{NameTaken, NodesFull, NoNode, WrongState, InSequence, NoSequence, WrongStep, TokenTaken, NoTokens, TokensFull, NotOneToken, OtherRack, NotIdle, NoKeyspace, KeyspacesFull, TooFewNodes, Locked, IdReused, EpochsFull, KeyspaceLocked}
use Rattle.transformations.specs.declared.sequence.Kind.{Kind}
use Rattle.transformations.specs.declared.sequence.Kind.TheVariants as kind
use Rattle.transformations.specs.declared.sequence.Phase.{Phase}
use Rattle.transformations.specs.declared.sequence.Phase.TheVariants as phase
use Rattle.transformations.specs.declared.state.NodeState.{NodeState}
use Rattle.transformations.specs.declared.state.NodeState.TheVariants as state
use Rattle.script_lang.specs.AnswerTexts.{left_text, list_text, listed, pair_text, pairs_text, refusal_text, right_text, state_text, tokens_text}
use Rattle.script_session.specs.Lines.{HasNoFeed}

-- whether no byte is a line feed
abbrev pub is_plain : List ℕ → Bool
is_plain bytes = list_all (λ byte. not (byte == 10)) bytes

not_true : (b : Bool) → not b ≡ true → b ≡ false
not_true true h = sym h
not_true false h = refl

pub HasNoFeed-plain : (bytes : List ℕ) → is_plain bytes ≡ true → HasNoFeed bytes
HasNoFeed-plain [] h = tt
HasNoFeed-plain (c ∷ bytes) h = (
  not_true (c == 10) ((and_parts (not (c == 10)) (is_plain bytes) h).0),
  HasNoFeed-plain bytes ((and_parts (not (c == 10)) (is_plain bytes) h).1),
)

pub plain_both : (a b : List ℕ) → is_plain a ≡ true → is_plain b ≡ true → is_plain (a ++ b) ≡ true
plain_both a b p q = list_all-append (λ byte. not (byte == 10)) a b ∙ (λ i. p i && q i)

-- two texts with another one between them
pub plain_joined : (a s b : List ℕ) → is_plain a ≡ true → is_plain s ≡ true → is_plain b ≡ true → is_plain (a ++ s ++ b) ≡ true
plain_joined a s b p q r = plain_both (a ++ s) b (plain_both a s p q) r

-- ---- names

plain_name_byte : (c : ℕ) → is_name_byte c ≡ true → not (c == 10) ≡ true
plain_name_byte c h = elim (eqb_tells c 10) [ inl p ↦ subst (λ (x : ℕ). is_name_byte x ≡ true → not (c == 10) ≡ true) (sym p.1) (λ e. absurd (false≢true e)) h | inr p ↦ ap not p.0 ]

plain_names : (bytes : List ℕ) → list_all is_name_byte bytes ≡ true → is_plain bytes ≡ true
plain_names [] h = refl
plain_names (c ∷ bytes) h =
    let one : not (c == 10) ≡ true = plain_name_byte c ((and_parts (is_name_byte c) (list_all is_name_byte bytes) h).0) in
    let rest : is_plain bytes ≡ true = plain_names bytes ((and_parts (is_name_byte c) (list_all is_name_byte bytes) h).1) in
    (λ i. one i && rest i)

pub plain_name : (text : List ℕ) → is_name text ≡ true → is_plain text ≡ true
plain_name text h = plain_names text ((and_parts (nat_le 1 (length text) && nat_le (length text) 32) (list_all is_name_byte text) h).1)

-- ---- numbers

-- the bytes of decimal digits
abbrev pub IsDigit : ℕ → Type 0
IsDigit c = (48 ≤ c) × (c ≤ 57)

glyph_digit : (n : ℕ) → IsDigit (digit_glyph false (n % 10))
glyph_digit n = (grind (arith, nat_tests), grind (arith, nat_tests))

digits_all : (k n : ℕ) (acc : List ℕ) → AllByRecursion IsDigit acc → AllByRecursion IsDigit (digits_onto k 10 false n acc)
digits_all zero n acc h = h
digits_all (suc k) n acc h = by (n / 10 == 0) (digits_all k (n / 10) (digit_glyph false (n % 10) ∷ acc) (glyph_digit n, h))
  where
    by : (b : Bool) → AllByRecursion IsDigit (digits_onto k 10 false (n / 10) (digit_glyph false (n % 10) ∷ acc))
        → AllByRecursion IsDigit (cond b (digit_glyph false (n % 10) ∷ acc) (digits_onto k 10 false (n / 10) (digit_glyph false (n % 10) ∷ acc)))
    by true rest = (glyph_digit n, h)
    by false rest = rest

pub decimal_all : (n : ℕ) → AllByRecursion IsDigit (decimal n)
unfolding digits
decimal_all n = digits_all 64 n [] tt

plain_digits : (bytes : List ℕ) → AllByRecursion IsDigit bytes → is_plain bytes ≡ true
plain_digits [] h = refl
plain_digits (c ∷ bytes) h =
    let one : not (c == 10) ≡ true = grind (arith, nat_tests, h.0.0) in
    let rest : is_plain bytes ≡ true = plain_digits bytes h.1 in
    (λ i. one i && rest i)

pub plain_decimal : (n : ℕ) → is_plain (decimal n) ≡ true
plain_decimal n = plain_digits (decimal n) (decimal_all n)

pub plain_signed : (t : ℤ) → is_plain (signed_decimal t) ≡ true
plain_signed (pos n) = plain_decimal n
plain_signed (negsuc n) = plain_decimal (suc n)

-- the first byte of a number that a space follows is a digit, or that space
pub first_digit : (digits more : List ℕ) → AllByRecursion IsDigit digits → get_or (digits ++ 32 ∷ more) 0 0 ≤ 57
first_digit [] more h = omega arith
first_digit (c ∷ digits) more h = h.0.1

-- ---- words

plain_later : {X : Type 0} (text : X → List ℕ) → ((x : X) → is_plain (text x) ≡ true) → (xs : List X) → is_plain (flat_map (λ y. codes "," ++ text y) xs) ≡ true
plain_later text each [] = refl
plain_later text each (x ∷ xs) = plain_both (text x) (flat_map (λ y. codes "," ++ text y) xs) (each x) (plain_later text each xs)

pub plain_listed : {X : Type 0} (text : X → List ℕ) → ((x : X) → is_plain (text x) ≡ true) → (xs : List X) → is_plain (listed text xs) ≡ true
plain_listed text each [] = refl
plain_listed text each (x ∷ xs) = plain_both (text x) (flat_map (λ y. codes "," ++ text y) xs) (each x) (plain_later text each xs)

pub plain_list : (ns : List ℕ) → is_plain (list_text ns) ≡ true
plain_list ns = plain_listed decimal plain_decimal ns

pub plain_tokens : (ts : List ℤ) → is_plain (tokens_text ts) ≡ true
plain_tokens ts = plain_listed signed_decimal plain_signed ts

pub plain_pairs : (ps : List Pair) → is_plain (pairs_text ps) ≡ true
plain_pairs ps = plain_listed pair_text (λ p. plain_joined (signed_decimal p.token) (codes "@") (decimal p.node) (plain_signed p.token) refl (plain_decimal p.node)) ps

pub plain_state : (s : NodeState) → is_plain (state_text s) ≡ true
plain_state state.Left = refl
plain_state state.Bootstrapping = refl
plain_state state.Moving = refl
plain_state state.Leaving = refl
plain_state state.BootReplacing = refl
plain_state state.Joined = refl
plain_state state.Registered = refl

pub plain_kind : (k : Kind) → is_plain (movement_word k) ≡ true
plain_kind kind.Join = refl
plain_kind kind.Move = refl
plain_kind kind.Leave = refl
plain_kind kind.Replace = refl

pub plain_phase : (p : Phase) → is_plain (phase_word p) ≡ true
plain_phase phase.Prepared = refl
plain_phase phase.Started = refl
plain_phase phase.Mid = refl

pub plain_left : (left : Option ℤ) → is_plain (left_text left) ≡ true
plain_left None = refl
plain_left (Some t) = plain_signed t

pub plain_right : (right : RightEnd) → is_plain (right_text right) ≡ true
plain_right (At t) = plain_signed t
plain_right Max = refl

-- ---- refusals

-- the names that a refusal shows
abbrev pub HasPlainNames : Refusal → Type 0
HasPlainNames (OtherRack dc rack) = (is_plain dc ≡ true) × (is_plain rack ≡ true)
HasPlainNames (TooFewNodes k) = is_plain k ≡ true
HasPlainNames _ = Unit {0}

pub plain_refusal : (r : Refusal) → HasPlainNames r → is_plain (refusal_text r) ≡ true
unfolding refusal_text
plain_refusal (NameTaken n) names = plain_decimal n
plain_refusal NodesFull names = refl
plain_refusal NoNode names = refl
plain_refusal (WrongState s) names = plain_state s
plain_refusal (InSequence n) names = plain_decimal n
plain_refusal NoSequence names = refl
plain_refusal (WrongStep k p) names = plain_joined (movement_word k) (codes " ") (phase_word p) (plain_kind k) refl (plain_phase p)
plain_refusal (TokenTaken t) names = plain_signed t
plain_refusal NoTokens names = refl
plain_refusal TokensFull names = refl
plain_refusal (NotOneToken c) names = plain_decimal c
plain_refusal (OtherRack dc rack) names = plain_joined dc (codes " ") rack names.0 refl names.1
plain_refusal (NotIdle n) names = plain_decimal n
plain_refusal NoKeyspace names = refl
plain_refusal KeyspacesFull names = refl
plain_refusal (TooFewNodes k) names = names
plain_refusal (Locked n end) names = plain_joined (decimal n) (codes " ") (right_text end) (plain_decimal n) refl (plain_right end)
plain_refusal (IdReused e) names = plain_decimal e
plain_refusal EpochsFull names = refl
plain_refusal (KeyspaceLocked n o end) names =
    plain_joined (decimal n) (codes " ") (decimal o ++ codes " " ++ right_text end) (plain_decimal n) refl (plain_joined (decimal o) (codes " ") (right_text end) (plain_decimal o) refl (plain_right end))
