-- The texts of factors: each is one or two digits.
use Rattle.std.proofs.Common.{◌≡◌, ℕ, ◌+◌, ◌-◌, ◌/◌, ◌%◌, ◌<◌, ◌≤◌, List, [], ◌∷◌, length, get_or, Some, None, arith, sym, ◌∙◌, ◌⊎◌, inl, inr, ap}
use Rattle.std.specs.Fmt.{decimal}
use Rattle.std.specs.Str.Parse.{digits_value}
use Rattle.std.proofs.lemmas.Bool.{cases_lt}
use Rattle.std.proofs.lemmas.Bool.Decides.{nat_tests}
use Rattle.std.proofs.lemmas.Fmt.{decimal_is_IsNumeral, decimal_digit, decimal_step}
use Rattle.std.proofs.lemmas.Slice.Eq.{bytes_eq-Decides}
use Rattle.cluster_terms.specs.Rf.{IsFactor, factor_of}

-- the digits of a factor write it
pub written : (n : ℕ) (text : List ℕ) → IsFactor n → text ≡ decimal n → factor_of text ≡ Some n
unfolding factor_of
written n text is e =
    let same : digits_value 10 text ≡ n = ap (digits_value 10) e ∙ (decimal_is_IsNumeral n (omega (arith, is))).1 in
    grind (arith, nat_tests, bytes_eq-Decides text (decimal (digits_value 10 text)), is)

-- a text that has the digits of no factor writes none
pub refused : (text : List ℕ) → ((n : ℕ) → IsFactor n → text ≡ decimal n → ⊥) → factor_of text ≡ None
unfolding factor_of
refused text not_digits =
    grind (arith, nat_tests, bytes_eq-Decides text (decimal (digits_value 10 text)), not_digits (digits_value 10 text))

-- the digits of a factor
pub two_digits : (n : ℕ) → 10 ≤ n → n ≤ 16 → decimal n ≡ 49 ∷ ((38 + n) ∷ [])
two_digits n low high =
    let q : n / 10 ≡ 1 = omega arith in
    let r : 48 + n % 10 ≡ 38 + n = omega arith in
    decimal_step n low (omega arith) ∙ (let one : decimal (n / 10) ≡ 49 ∷ [] = ap decimal q ∙ decimal_digit 1 (omega arith) in cc)

-- a digit from 1 to 9 is a factor's text
pub one_digit : (c : ℕ) → 49 ≤ c → c ≤ 57 → factor_of (c ∷ []) ≡ Some (c - 48)
one_digit c low high =
    let at : 48 + (c - 48) ≡ c = omega arith in
    written (c - 48) (c ∷ []) (omega arith, omega arith) (ap (λ d. d ∷ []) (sym at) ∙ sym (decimal_digit (c - 48) (omega arith)))

-- 1 and a digit up to 6 is one
pub ten_and : (c : ℕ) → 48 ≤ c → c ≤ 54 → factor_of (49 ∷ (c ∷ [])) ≡ Some (10 + (c - 48))
ten_and c low high =
    let at : 38 + (10 + (c - 48)) ≡ c = omega arith in
    written (10 + (c - 48)) (49 ∷ (c ∷ [])) (omega arith, omega arith) (ap (λ d. 49 ∷ (d ∷ [])) (sym at) ∙ sym (two_digits (10 + (c - 48)) (omega arith) (omega arith)))

-- the same, read from a text
pub one_digit_at : (text : List ℕ) → length text ≡ 1 → 49 ≤ get_or text 0 0 → get_or text 0 0 ≤ 57 → factor_of text ≡ Some (get_or text 0 0 - 48)
one_digit_at [] size low high = absurd (omega arith)
one_digit_at (c ∷ []) size low high = one_digit c low high
one_digit_at (c ∷ (d ∷ ds)) size low high = absurd (omega arith)

pub ten_and_at : (text : List ℕ) → length text ≡ 2 → get_or text 0 0 ≡ 49 → 48 ≤ get_or text 1 0 → get_or text 1 0 ≤ 54 → factor_of text ≡ Some (10 + (get_or text 1 0 - 48))
ten_and_at [] size first low high = absurd (omega arith)
ten_and_at (b ∷ []) size first low high = absurd (omega arith)
ten_and_at (b ∷ (c ∷ [])) size first low high = ap (λ (d : ℕ). factor_of (d ∷ (c ∷ []))) first ∙ ten_and c low high
ten_and_at (b ∷ (c ∷ (d ∷ ds))) size first low high = absurd (omega arith)

-- no other text is one
pub no_factor : (text : List ℕ) → ((c : ℕ) → 49 ≤ c → c ≤ 57 → text ≡ c ∷ [] → ⊥) → ((c : ℕ) → 48 ≤ c → c ≤ 54 → text ≡ 49 ∷ (c ∷ []) → ⊥) → factor_of text ≡ None
no_factor text not_one not_two = refused text (λ n is e. by_size n is e (cases_lt n 10))
  where
    by_size : (n : ℕ) → IsFactor n → text ≡ decimal n → (n < 10) ⊎ (10 ≤ n) → ⊥
    by_size n is e (inl small) = not_one (48 + n) (omega (arith, is)) (omega arith) (e ∙ decimal_digit n small)
    by_size n is e (inr large) = not_two (38 + n) (omega arith) (omega (arith, is)) (e ∙ two_digits n large is.1)
