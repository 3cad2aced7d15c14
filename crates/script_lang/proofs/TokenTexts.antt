-- Tokens: what `token_of` says of a text.
use Rattle.std.proofs.Common.{zero, suc, refl, ◌∙◌, ◌≡◌, ◌↔◌, ℕ, ◌+◌, ◌-◌, ◌^◌, ◌<◌, ◌&&◌, ◌⊎◌, inl, inr, if◌then◌else◌, ℤ, pos, negsuc, neg_ℤ, List, [], ◌∷◌, length, take, drop, get_or, Option, Some, None, nat_lt, nat_le, arith, sym, ap, subst}
use Rattle.std.specs.Fmt.{decimal, signed_decimal}
use Rattle.std.proofs.lemmas.Bool.{cases_eq, cond-true}
use Rattle.std.proofs.lemmas.Bool.Decides.{nat_tests}
use Rattle.std.proofs.lemmas.Fmt.{decimal_nonempty}
use Rattle.std.proofs.lemmas.Int.{ints}
use Rattle.std.proofs.lemmas.List.{take_rest}
use Rattle.std.proofs.lemmas.Option.{cond_some}
use Rattle.cluster_terms.specs.Arc.{IsToken}
use Rattle.script_lang.specs.Grammar.{number_below, token_of}
use Rattle.script_lang.proofs.Numerals.{start, told, written, refused, number_below_is}

-- the token n, and the token -n where n is not 0
abbrev pub token_from : Option ℕ → Option ℤ
token_from None = None
token_from (Some n) = if nat_lt n (2 ^ 63) then Some (pos n) else None

abbrev pub token_below : Option ℕ → Option ℤ
token_below None = None
token_below (Some n) = if nat_le 1 n && nat_lt n (2 ^ 63 + 1) then Some (neg_ℤ (pos n)) else None

-- a token by the first byte of its text
pub token_plain : (text : List ℕ) → (get_or text 0 0 ≡ 45 → ⊥) → token_of text ≡ token_from (number_below (2 ^ 64) text)
unfolding token_of
token_plain [] plain =
    let none : number_below (2 ^ 64) [] ≡ None = refused (2 ^ 64) [] (λ n below e. let some = decimal_nonempty n below in let long = ap length e in omega arith) in
    grind arith
token_plain (c ∷ cs) plain = grind (arith, nat_tests, number_below_is (2 ^ 63) (c ∷ cs))

pub token_minus : (text : List ℕ) → get_or text 0 0 ≡ 45 → token_of text ≡ token_below (number_below (2 ^ 64) (take (length text - 1) (drop 1 text)))
unfolding token_of
token_minus [] minus = absurd (omega arith)
token_minus (c ∷ cs) minus = rw take_rest (grind (arith, nat_tests, number_below_is (2 ^ 63 + 1) cs))

-- a text that begins with no minus sign has the digits of its token
plain_told : (t : ℤ) (text : List ℕ) (wide : Option ℕ) → number_below (2 ^ 64) text ≡ wide → token_from wide ≡ Some t → (text ≡ signed_decimal t) × IsToken t
plain_told t text None e is = absurd (cc)
plain_told t text (Some n) e is =
    let has = told (2 ^ 64) n text e in
    let parts = cond_some (nat_lt n (2 ^ 63)) (pos n) t is in
    let small : n < 2 ^ 63 = grind (arith, nat_tests, parts.0) in
    subst (λ (z : ℤ). (text ≡ signed_decimal z) × IsToken z) parts.1 (has.0, (omega (arith, ints), omega (arith, ints)))

-- a minus sign stands before the digits of a token below 0
minus_told : (t : ℤ) (cs : List ℕ) (wide : Option ℕ) → number_below (2 ^ 64) cs ≡ wide → token_below wide ≡ Some t → (45 ∷ cs ≡ signed_decimal t) × IsToken t
minus_told t cs None e is = absurd (cc)
minus_told t cs (Some zero) e is = absurd (grind (arith, nat_tests))
minus_told t cs (Some (suc m)) e is =
    let has = told (2 ^ 64) (suc m) cs e in
    let parts = cond_some (nat_le 1 (suc m) && nat_lt (suc m) (2 ^ 63 + 1)) (negsuc m) t is in
    let small : m < 2 ^ 63 = grind (arith, nat_tests, parts.0) in
    subst (λ (z : ℤ). (45 ∷ cs ≡ signed_decimal z) × IsToken z) parts.1 (ap (λ (ds : List ℕ). 45 ∷ ds) has.0, (omega (arith, ints), omega (arith, ints)))

at_minus : (cs : List ℕ) → token_of (45 ∷ cs) ≡ token_below (number_below (2 ^ 64) cs)
unfolding token_of
at_minus cs = grind (arith, nat_tests, number_below_is (2 ^ 63 + 1) cs)

token_told : (t : ℤ) (text : List ℕ) → token_of text ≡ Some t → (text ≡ signed_decimal t) × IsToken t
unfolding token_of
token_told t [] e = absurd (cc)
token_told t (c ∷ cs) e = by_first (cases_eq c 45)
  where
    by_first : (c ≡ 45) ⊎ (c ≡ 45 → ⊥) → (c ∷ cs ≡ signed_decimal t) × IsToken t
    by_first (inl minus) =
        subst (λ (b : ℕ). (b ∷ cs ≡ signed_decimal t) × IsToken t) (sym minus)
        (minus_told t cs (number_below (2 ^ 64) cs) refl (sym (at_minus cs) ∙ (ap (λ (b : ℕ). token_of (b ∷ cs)) (sym minus) ∙ e)))
    by_first (inr plain) = plain_told t (c ∷ cs) (number_below (2 ^ 64) (c ∷ cs)) refl (sym (token_plain (c ∷ cs) plain) ∙ e)

token_written : (t : ℤ) (text : List ℕ) → (text ≡ signed_decimal t) × IsToken t → token_of text ≡ Some t
token_written (pos n) text h =
    let small : n < 2 ^ 63 = omega (arith, ints) in
    let first = start n (omega arith) in
    let same = ap (λ (ds : List ℕ). get_or ds 0 0) h.0 in
    let number = written (2 ^ 64) n text (omega arith) (omega arith) h.0 in
    token_plain text (λ minus. omega arith) ∙ (ap token_from number ∙ cond-true (nat_lt n (2 ^ 63)) (Some (pos n)) None (grind (arith, nat_tests)))
token_written (negsuc n) text h =
    let small : n < 2 ^ 63 = omega (arith, ints) in
    let number = written (2 ^ 64) (suc n) (decimal (suc n)) (omega arith) (omega arith) refl in
    ap token_of h.0 ∙ (at_minus (decimal (suc n)) ∙ (ap token_below number ∙ cond-true (nat_le 1 (suc n) && nat_lt (suc n) (2 ^ 63 + 1)) (Some (negsuc n)) None (grind (arith, nat_tests))))

-- a token has one text
pub token_law : (t : ℤ) (text : List ℕ) → (token_of text ≡ Some t) ↔ ((text ≡ signed_decimal t) × IsToken t)
token_law t text = (token_told t text, token_written t text)
