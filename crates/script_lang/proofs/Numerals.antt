-- Numbers in decimal digits: what `number_below` says of a text, and how its digits are read.
use Rattle.std.proofs.Common.{◌↔◌, refl, ◌≡◌, ◌≢◌, ℕ, ◌^◌, ◌+◌, ◌*◌, ◌<◌, ◌≤◌, ◌&&◌, ◌||◌, ◌==◌, true, false, if◌then◌else◌, List, [], ◌∷◌, length, Option, Some, None, nat_lt, nat_le, arith, sym, ◌∙◌, ◌⊎◌, inl, inr, ap, subst, get_or}
use Rattle.std.specs.Fmt.{decimal}
use Rattle.std.specs.Char.{digit_value}
use Rattle.std.specs.Option.{SomeIff}
use Rattle.std.specs.Str.Parse.{digits_value, digits_value_after, AllDigits}
use Rattle.std.proofs.lemmas.Bool.{cases_lt}
use Rattle.std.proofs.lemmas.Bool.Decides.{nat_tests}
use Rattle.std.proofs.lemmas.Fmt.{decimal_is_IsNumeral, decimal_digit, decimal-digits_value, decimal_nonempty, decimal_injective, first_decimal}
use Rattle.std.proofs.lemmas.Slice.Eq.{bytes_eq-Decides}
use Rattle.std.proofs.lemmas.Str.Parse.{IsNumeralModel, numerals_by_value, tells_digits, digit_at}
use Rattle.script_lang.specs.Grammar.{number_below}

own : IsNumeralModel (AllDigits 10) (digits_value 10)
own = numerals_by_value (AllDigits 10) tells_digits

-- what a text writes as a number below a limit is the number whose digits it has
pub told : (limit n : ℕ) (text : List ℕ) → number_below limit text ≡ Some n → (text ≡ decimal n) × (n < limit)
unfolding number_below
told limit n text e = grind (arith, nat_tests, bytes_eq-Decides text (decimal (digits_value 10 text)))

-- the digits of a number below the limit write it
pub written : (limit n : ℕ) (text : List ℕ) → n < 2 ^ 64 → n < limit → text ≡ decimal n → number_below limit text ≡ Some n
unfolding number_below
written limit n text fits below e =
    let same : digits_value 10 text ≡ n = ap (digits_value 10) e ∙ (decimal_is_IsNumeral n fits).1 in
    grind (arith, nat_tests, bytes_eq-Decides text (decimal (digits_value 10 text)))

-- a text that has the digits of no number below the limit is none
pub refused : (limit : ℕ) (text : List ℕ) → ((n : ℕ) → n < limit → text ≡ decimal n → ⊥) → number_below limit text ≡ None
unfolding number_below
refused limit text not_digits =
    grind (arith, nat_tests, bytes_eq-Decides text (decimal (digits_value 10 text)), not_digits (digits_value 10 text))

-- the digits of a number begin with a digit, and with 0 only where there is one digit
pub start : (n : ℕ) → n < 2 ^ 64 → (48 ≤ get_or (decimal n) 0 0) × (get_or (decimal n) 0 0 ≢ 43) × (get_or (decimal n) 0 0 ≡ 48 → length (decimal n) ≡ 1)
start n fits =
    let digit = digit_at (decimal n) 0 (decimal_is_IsNumeral n fits).0.1 (decimal_nonempty n fits) in
    (digit.0, (λ plus. omega arith), by_size (cases_lt 0 n))
  where
    by_size : (0 < n) ⊎ (n ≤ 0) → get_or (decimal n) 0 0 ≡ 48 → length (decimal n) ≡ 1
    by_size (inl some) zero = (let first = first_decimal n some fits in absurd (omega arith))
    by_size (inr none) zero = ap length (decimal_digit n (omega arith))

-- an empty text and one that begins with a leading zero are no number
pub refused_at_start : (text : List ℕ) → ((length text == 0) || ((get_or text 0 0 == 48) && nat_le 2 (length text))) ≡ true → number_below (2 ^ 64) text ≡ None
refused_at_start text odd = refused (2 ^ 64) text (λ n below e. let at = start n below in let some = decimal_nonempty n below in let same = ap (λ (t : List ℕ). get_or t 0 0) e in let long = ap length e in grind (arith, nat_tests, at.1))

-- ---- the digits of a number, from the left

-- the number so far and the digits that are left write what all the digits write
pub record ReadsDigits (ds : List ℕ) (n : ℕ) (left : List ℕ) : Type 0 where
  pub value : digits_value_after 10 n left ≡ digits_value 10 ds
  pub fits : n < 2 ^ 64
  pub to : AllDigits 10 ds → AllDigits 10 left
  pub from : AllDigits 10 left → AllDigits 10 ds

pub reads_start : (ds : List ℕ) → ReadsDigits ds 0 ds
reads_start ds = record { value = refl; fits = omega arith; to = λ d. d; from = λ d. d }

-- the next digit
pub reads_more : (ds : List ℕ) (n c : ℕ) (cs left : List ℕ) → left ≡ c ∷ cs → ReadsDigits ds n left → (digit_value c < 10) × (n * 10 + digit_value c < 2 ^ 64) → ReadsDigits ds (n * 10 + digit_value c) cs
reads_more ds n c cs left e h next = at (subst (ReadsDigits ds n) e h)
  where
    at : ReadsDigits ds n (c ∷ cs) → ReadsDigits ds (n * 10 + digit_value c) cs
    at h = record { value = h.value; fits = next.1; to = λ d. (h.to d).1; from = λ d. h.from (next.0, d) }

-- further digits make a number no smaller
after-ge : (n : ℕ) (ds : List ℕ) → n ≤ digits_value_after 10 n ds
after-ge n [] = omega arith
after-ge n (c ∷ cs) = omega (arith, after-ge (n * 10 + digit_value c) cs)

-- what is read of a text: its number, where all bytes are digits and the number fits
abbrev pub IsRead : List ℕ → Option ℕ → Type 0
IsRead ds r = SomeIff r (AllDigits 10 ds × (digits_value 10 ds < 2 ^ 64)) (digits_value 10 ds)

pub reads_end : (ds : List ℕ) (n : ℕ) (left : List ℕ) → left ≡ [] → ReadsDigits ds n left → IsRead ds (Some n)
reads_end ds n left e h = at (subst (ReadsDigits ds n) e h)
  where
    at : ReadsDigits ds n [] → IsRead ds (Some n)
    at h = ((h.from tt, omega (arith, h.value, h.fits)), h.value)

pub reads_none : (ds : List ℕ) (n c : ℕ) (cs left : List ℕ) → left ≡ c ∷ cs → ReadsDigits ds n left → ((digit_value c < 10) × (n * 10 + digit_value c < 2 ^ 64) → ⊥) → IsRead ds None
reads_none ds n c cs left e h odd = at (subst (ReadsDigits ds n) e h)
  where
    at : ReadsDigits ds n (c ∷ cs) → IsRead ds None
    at h is = odd ((h.to is.0).0, omega (arith, is.1, h.value, after-ge (n * 10 + digit_value c) cs))

-- what is read of a text that is not empty and has no leading zero is its number
pub read_is : (text : List ℕ) (r : Option ℕ) → ((length text == 0) || ((get_or text 0 0 == 48) && nat_le 2 (length text))) ≡ false → IsRead text r → r ≡ number_below (2 ^ 64) text
read_is text r plain h = read_at r h
  where
    some : 0 < length text
    some = grind (arith, nat_tests)

    single : get_or text 0 0 ≡ 48 → length text ≡ 1
    single zero = grind (arith, nat_tests)

    numeral : (n : ℕ) → n < 2 ^ 64 → AllDigits 10 (decimal n) × (digits_value 10 (decimal n) < 2 ^ 64)
    numeral n below = let is = decimal_is_IsNumeral n below in (is.0.1, omega arith)

    read_at : (r : Option ℕ) → IsRead text r → r ≡ number_below (2 ^ 64) text
    read_at (Some x) h =
        let fits : x < 2 ^ 64 = omega arith in
        let same : decimal (digits_value 10 text) ≡ text = decimal-digits_value own text h.0.0 some single h.0.1 in
        sym (written (2 ^ 64) x text fits fits (sym same ∙ ap decimal (sym h.1)))
    read_at None h = sym (refused (2 ^ 64) text (λ n below e. h (subst (λ (t : List ℕ). AllDigits 10 t × (digits_value 10 t < 2 ^ 64)) (sym e) (numeral n below))))

-- a number, where it is below a further limit
abbrev pub kept_below : ℕ → Option ℕ → Option ℕ
kept_below limit None = None
kept_below limit (Some n) = if nat_lt n limit then Some n else None

-- a number below a limit is a number below 2^64 that is below the limit
pub number_below_is : (limit : ℕ) (text : List ℕ) → limit ≤ 2 ^ 64 → number_below limit text ≡ kept_below limit (number_below (2 ^ 64) text)
number_below_is limit text le = by_wide (number_below (2 ^ 64) text) refl
  where
    by_wide : (wide : Option ℕ) → number_below (2 ^ 64) text ≡ wide → number_below limit text ≡ kept_below limit wide
    by_wide None e = refused limit text (λ n below same. let here = written (2 ^ 64) n text (omega arith) (omega arith) same in cc)
    by_wide (Some n) e = let has = told (2 ^ 64) n text e in by_size n has.0 has.1 (cases_lt n limit)
      where
        by_size : (n : ℕ) → text ≡ decimal n → n < 2 ^ 64 → (n < limit) ⊎ (limit ≤ n) → number_below limit text ≡ kept_below limit (Some n)
        by_size n is fits (inl below) = let here = written limit n text fits below is in grind (arith, nat_tests)
        by_size n is fits (inr past) =
            let none : number_below limit text ≡ None =
            refused limit text (λ m below same. let equal : m ≡ n = decimal_injective m n (omega arith) fits (sym same ∙ is) in omega arith)
            in grind (arith, nat_tests)

-- a number has one text
pub number_law : (limit n : ℕ) (text : List ℕ) → limit ≤ 2 ^ 64 → (number_below limit text ≡ Some n) ↔ ((text ≡ decimal n) × (n < limit))
number_law limit n text le = (told limit n text, λ h. written limit n text (omega arith) h.1 h.0)
