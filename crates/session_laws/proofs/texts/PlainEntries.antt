-- The line of an entry holds no line feed before its end.
use Rattle.std.proofs.Common.{◌≡◌, ℕ, ◌+◌, ◌/◌, ◌%◌, Bool, true, false, not, ◌&&◌, ◌||◌, ◌==◌, cond, nat_lt, List, [], ◌∷◌, ◌++◌, refl, subst, sym, arith}
use Rattle.std.proofs.lemmas.Bool.Decides.{nat_tests}
use Rattle.std.specs.Char.{digit_char}
use Rattle.json.specs.Print.{escape, escape_byte, escape_letter, quoted}
use Rattle.serde_json.specs.Data.{Data, Items, Members, Num, null, boolean, number, string, array, object, unsigned, negative, float, no_items, item, no_members, member}
use Rattle.serde_json.specs.Written.{comma_if, compact_text, items_text, members_text, number_text}
use Rattle.transformations.specs.declared.entry.Entry.{Entry}
use Rattle.wire_json.specs.EntryTexts.{entry_data, entry_line, entry_text}
use Rattle.session_laws.specs.Shown.{IsOfNoQuorum}
use Rattle.session_laws.proofs.quorums.AnswerLines.{other_line}
use Rattle.session_laws.proofs.texts.PlainTexts.{is_plain, plain_both, plain_decimal, plain_signed}
use Rattle.session_laws.proofs.texts.WholeLines.{AreLines}

-- ---- the text of JSON data

plain_letter : (a b c d e f : Bool) (x : ℕ) → (x == 10) ≡ false → (cond a x (cond b 98 (cond c 102 (cond d 110 (cond e 114 (cond f 116 0))))) == 10) ≡ false
plain_letter true b c d e f x h = h
plain_letter false true c d e f x h = refl
plain_letter false false true d e f x h = refl
plain_letter false false false true e f x h = refl
plain_letter false false false false true f x h = refl
plain_letter false false false false false true x h = refl
plain_letter false false false false false false x h = refl

plain_digit : (d : ℕ) → (digit_char d == 10) ≡ false
plain_digit d = by (nat_lt d 10)
  where
    by : (b : Bool) → (cond b (48 + d) (87 + d) == 10) ≡ false
    by true = grind (arith, nat_tests)
    by false = grind (arith, nat_tests)

-- one byte, or two, that are no line feeds
plain_one : (x : ℕ) → (x == 10) ≡ false → is_plain (x ∷ []) ≡ true
plain_one x h = (λ i. not (h i) && true)

plain_other : (x : ℕ) → (x == 10) ≡ false → is_plain (escape_byte x) ≡ true
unfolding escape_byte
plain_other x h = by (nat_lt 0 (escape_letter x)) (nat_lt x 32)
  where
    letter : (escape_letter x == 10) ≡ false
    letter = plain_letter ((x == 34) || (x == 92)) (x == 8) (x == 12) (x == 10) (x == 13) (x == 9) x h

    hex : is_plain (92 ∷ 117 ∷ 48 ∷ 48 ∷ digit_char (x / 16) ∷ digit_char (x % 16) ∷ []) ≡ true
    hex = (λ i. not (plain_digit (x / 16) i) && (not (plain_digit (x % 16) i) && true))

    by : (b c : Bool) → is_plain (cond b (92 ∷ escape_letter x ∷ []) (cond c (92 ∷ 117 ∷ 48 ∷ 48 ∷ digit_char (x / 16) ∷ digit_char (x % 16) ∷ []) (x ∷ []))) ≡ true
    by true c = (λ i. not (letter i) && true)
    by false true = hex
    by false false = plain_one x h

plain_feed : is_plain (escape_byte 10) ≡ true
unfolding escape_byte
plain_feed = refl

plain_escaped : (x : ℕ) → is_plain (escape_byte x) ≡ true
plain_escaped x = by (x == 10) refl
  where
    by : (b : Bool) → (x == 10) ≡ b → is_plain (escape_byte x) ≡ true
    by true is = (let same : x ≡ 10 = grind (arith, nat_tests) in subst (λ y. is_plain (escape_byte y) ≡ true) (sym same) plain_feed)
    by false is = plain_other x is

plain_escape : (s : List ℕ) → is_plain (escape s) ≡ true
plain_escape [] = refl
plain_escape (x ∷ s) = plain_both (escape_byte x) (escape s) (plain_escaped x) (plain_escape s)

plain_quoted : (s : List ℕ) → is_plain (quoted s) ≡ true
plain_quoted s = plain_both (escape s) (34 ∷ []) (plain_escape s) refl

plain_number : (n : Num) → is_plain (number_text n) ≡ true
plain_number (unsigned n) = plain_decimal n
plain_number (negative z) = plain_signed z
plain_number (float x) = refl

plain_comma : (later : Bool) → is_plain (comma_if later) ≡ true
plain_comma true = refl
plain_comma false = refl

mutual
  pub plain_data : (d : Data) → is_plain (compact_text d) ≡ true
  plain_data null = refl
  plain_data (boolean true) = refl
  plain_data (boolean false) = refl
  plain_data (number n) = plain_number n
  plain_data (string s) = plain_quoted s
  plain_data (array ds) = plain_items false ds
  plain_data (object ms) = plain_members false ms

  plain_items : (later : Bool) (ds : Items) → is_plain (items_text later ds) ≡ true
  plain_items later no_items = refl
  plain_items later (item d ds) =
      plain_both (comma_if later) (compact_text d ++ items_text true ds) (plain_comma later) (plain_both (compact_text d) (items_text true ds) (plain_data d) (plain_items true ds))

  plain_members : (later : Bool) (ms : Members) → is_plain (members_text later ms) ≡ true
  plain_members later no_members = refl
  plain_members later (member k d ms) =
      plain_both (comma_if later) (quoted k ++ 58 ∷ (compact_text d ++ members_text true ms)) (plain_comma later)
      (plain_both (quoted k) (58 ∷ (compact_text d ++ members_text true ms)) (plain_quoted k)
      (plain_both (compact_text d) (members_text true ms) (plain_data d) (plain_members true ms)))

-- ---- entries

-- an entry's line begins with a brace
pub entry_is_line : (entry : Entry) → AreLines IsOfNoQuorum (entry_line entry)
unfolding entry_text
entry_is_line entry = other_line (compact_text (entry_data entry)) (plain_data (entry_data entry)) (λ e. omega arith) (λ e. omega arith)
