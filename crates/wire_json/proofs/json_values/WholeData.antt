-- JSON data of texts, whole numbers, true and false: how long its text is, and that its text reads as the data.
use Rattle.std.proofs.Common.{◌≡◌, ℕ, suc, ◌+◌, ◌*◌, ◌/◌, ◌%◌, ◌^◌, ◌<◌, ◌≤◌, pos, negsuc, max, Bool, true, false, cond, List, [], ◌∷◌, ◌++◌, length, Some, option_map, option_and_then, IsUtf8, codes, decimal, refl, sym, ap, ap₂, ◌∙◌, arith, append-nil, length-append, nat_lt}
use Rattle.std.proofs.lemmas.Fmt.{IsAscii-decimal, length-decimal-le}
use Rattle.std.proofs.lemmas.Str.{IsUtf8-append, IsUtf8-from_ascii, IsUtf8-nil}
use Rattle.std.proofs.lemmas.Str.Ascii.{IsAscii-nil, IsAscii-cons}
use Rattle.std.specs.Char.{digit_char}
use Rattle.json.specs.Json as json
use Rattle.json.specs.Lex.{tokens}
use Rattle.json.specs.Print.{IsNumber, escape, escape_byte, escape_letter, quoted}
use Rattle.json.specs.Tree as tree
use Rattle.json.proofs.Printed.Decimals.{IsNumber-decimal, IsNumber-signed_decimal}
use Rattle.json.proofs.Printed.Tokens.{tokens-print}
use Rattle.json.proofs.Printed.Trees.{value-json_tokens, ArePrintable-json_tokens}
use Rattle.json.proofs.Printed.Utf8.{IsUtf8-quoted}
use Rattle.serde_json.specs.Data.{Num, unsigned, negative, float, Data, null, boolean, number, string, array, object, Items, no_items, item, Members, no_members, member, put, depth, items_depth, members_depth}
use Rattle.serde_json.specs.Read.{number_of, of_json, of_items, of_members, max_depth, read}
use Rattle.serde_json.specs.Written.{comma_if, compact_text, items_text, members_text, number_text, outline, items_outline, members_outline}
use Rattle.serde_json.proofs.Numbers.{number_of-decimal, number_of-negative}
use Rattle.serde_json.proofs.Texts.{print-outline}
use Rattle.wire_json.proofs.json_values.TextBytes.{IsUtf8-tested}

-- ---- such data

-- a whole number of 64 bits
abbrev pub IsWholeNumber : Num → Type 0
IsWholeNumber (unsigned n) = n < 2 ^ 64
IsWholeNumber (negative (pos n)) = ⊥
IsWholeNumber (negative (negsuc n)) = n < 2 ^ 63
IsWholeNumber (float x) = ⊥

-- members put into an object, one after another
abbrev pub put_members : Members → Members → Members
put_members no_members found = found
put_members (member key value members) found = put_members members (put key value found)

-- texts, whole numbers, true and false, lists of these, and objects of these, whose keys ascend
abbrev mutual
  pub IsWhole : Data → Type 0
  IsWhole null = ⊥
  IsWhole (boolean b) = Unit {0}
  IsWhole (number n) = IsWholeNumber n
  IsWhole (string text) = IsUtf8 text
  IsWhole (array items) = AreWhole items
  IsWhole (object members) = HasWhole members × (put_members members no_members ≡ members)

  pub AreWhole : Items → Type 0
  AreWhole no_items = Unit {0}
  AreWhole (item value items) = IsWhole value × AreWhole items

  pub HasWhole : Members → Type 0
  HasWhole no_members = Unit {0}
  HasWhole (member key value members) = IsUtf8 key × IsWhole value × HasWhole members

-- ---- how long its text is

abbrev mutual
  pub most : Data → ℕ
  most null = 0
  most (boolean b) = 5
  most (number n) = 21
  most (string text) = 6 * length text + 2
  most (array items) = 1 + items_most items
  most (object members) = 1 + members_most members

  pub items_most : Items → ℕ
  items_most no_items = 1
  items_most (item value items) = 1 + (most value + items_most items)

  pub members_most : Members → ℕ
  members_most no_members = 1
  members_most (member key value members) = 1 + ((6 * length key + 2) + (1 + (most value + members_most members)))

-- a text is UTF-8, and has at most so many bytes
abbrev pub Fits : ℕ → List ℕ → Type 0
Fits n text = IsUtf8 text × (length text ≤ n)

Fits-append : (m n : ℕ) (s t : List ℕ) → Fits m s → Fits n t → Fits (m + n) (s ++ t)
Fits-append m n s t f g = (IsUtf8-append s t f.0 g.0, omega (arith, length-append s t))

Fits-one : (c : ℕ) → c < 128 → Fits 1 (c ∷ [])
Fits-one c small = (IsUtf8-from_ascii (c ∷ []) (IsAscii-cons c [] small IsAscii-nil), omega arith)

length-escape_byte : (x : ℕ) → length (escape_byte x) ≤ 6
unfolding escape_byte
length-escape_byte x =
    by (nat_lt 0 (escape_letter x)) (nat_lt x 32) (92 ∷ escape_letter x ∷ []) (92 ∷ 117 ∷ 48 ∷ 48 ∷ digit_char (x / 16) ∷ digit_char (x % 16) ∷ []) (x ∷ [])
    (omega arith) (omega arith) (omega arith)
  where
    by : (b c : Bool) (s t u : List ℕ) → length s ≤ 6 → length t ≤ 6 → length u ≤ 6 → length (cond b s (cond c t u)) ≤ 6
    by true c s t u p q r = p
    by false true s t u p q r = q
    by false false s t u p q r = r

length-escape : (text : List ℕ) → length (escape text) ≤ 6 * length text
length-escape [] = omega arith
length-escape (x ∷ xs) = omega (arith, length-append (escape_byte x) (escape xs), length-escape_byte x, length-escape xs)

Fits-quoted : (text : List ℕ) → IsUtf8 text → Fits (6 * length text + 2) (quoted text)
Fits-quoted text utf8 = (IsUtf8-quoted text utf8, omega (arith, length-append (escape text) (34 ∷ []), length-escape text))

Fits-comma : (later : Bool) → Fits 1 (comma_if later)
Fits-comma true = Fits-one 44 (omega arith)
Fits-comma false = (IsUtf8-nil, omega arith)

Fits-number : (n : Num) → IsWholeNumber n → Fits 21 (number_text n)
Fits-number (unsigned n) h = (IsUtf8-from_ascii (decimal n) (IsAscii-decimal n h), omega (arith, length-decimal-le 20 n (omega arith) (omega arith) h))
Fits-number (negative (pos n)) h = absurd h
Fits-number (negative (negsuc n)) h =
    let fits : suc n < 2 ^ 64 = omega arith in
    (IsUtf8-from_ascii (45 ∷ decimal (suc n)) (IsAscii-cons 45 (decimal (suc n)) (omega arith) (IsAscii-decimal (suc n) fits)), omega (arith, length-decimal-le 20 (suc n) (omega arith) (omega arith) fits))
Fits-number (float x) h = absurd h

Fits-boolean : (b : Bool) → Fits 5 (compact_text (boolean b))
Fits-boolean true = (IsUtf8-tested (codes "true") refl, omega arith)
Fits-boolean false = (IsUtf8-tested (codes "false") refl, omega arith)

mutual
  pub Fits-text : (value : Data) → IsWhole value → Fits (most value) (compact_text value)
  Fits-text null h = absurd h
  Fits-text (boolean b) h = Fits-boolean b
  Fits-text (number n) h = Fits-number n h
  Fits-text (string text) h = Fits-quoted text h
  Fits-text (array items) h = Fits-append 1 (items_most items) (91 ∷ []) (items_text false items) (Fits-one 91 (omega arith)) (Fits-items false items h)
  Fits-text (object members) h = Fits-append 1 (members_most members) (123 ∷ []) (members_text false members) (Fits-one 123 (omega arith)) (Fits-members false members h.0)

  Fits-items : (later : Bool) (items : Items) → AreWhole items → Fits (items_most items) (items_text later items)
  Fits-items later no_items h = Fits-one 93 (omega arith)
  Fits-items later (item value items) h =
      Fits-append 1 (most value + items_most items) (comma_if later) (compact_text value ++ items_text true items) (Fits-comma later)
      (Fits-append (most value) (items_most items) (compact_text value) (items_text true items) (Fits-text value h.0) (Fits-items true items h.1))

  Fits-members : (later : Bool) (members : Members) → HasWhole members → Fits (members_most members) (members_text later members)
  Fits-members later no_members h = Fits-one 125 (omega arith)
  Fits-members later (member key value members) h =
      let rest = compact_text value ++ members_text true members in
      Fits-append 1 _ (comma_if later) (quoted key ++ 58 ∷ rest) (Fits-comma later)
      (Fits-append (6 * length key + 2) _ (quoted key) (58 ∷ rest) (Fits-quoted key h.0)
      (Fits-append 1 _ (58 ∷ []) rest (Fits-one 58 (omega arith))
      (Fits-append (most value) (members_most members) (compact_text value) (members_text true members) (Fits-text value h.1) (Fits-members true members h.2))))

-- ---- its text reads as the data

IsNumber-whole : (n : Num) → IsWholeNumber n → IsNumber (number_text n)
IsNumber-whole (unsigned n) h = IsNumber-decimal n h
IsNumber-whole (negative (pos n)) h = absurd h
IsNumber-whole (negative (negsuc n)) h = IsNumber-signed_decimal (negsuc n) (omega arith)
IsNumber-whole (float x) h = absurd h

number_of-whole : (n : Num) → IsWholeNumber n → number_of (number_text n) ≡ Some n
number_of-whole (unsigned n) h = number_of-decimal n h
number_of-whole (negative (pos n)) h = absurd h
number_of-whole (negative (negsuc n)) h = number_of-negative n h
number_of-whole (float x) h = absurd h

mutual
  HasNumbers-outline : (value : Data) → IsWhole value → tree.HasNumbers (outline value)
  HasNumbers-outline null h = absurd h
  HasNumbers-outline (boolean b) h = tt
  HasNumbers-outline (number n) h = IsNumber-whole n h
  HasNumbers-outline (string text) h = tt
  HasNumbers-outline (array items) h = HasNumbers-items items h
  HasNumbers-outline (object members) h = HasNumbers-members members h.0

  HasNumbers-items : (items : Items) → AreWhole items → tree.ItemsHaveNumbers (items_outline items)
  HasNumbers-items no_items h = tt
  HasNumbers-items (item value items) h = (HasNumbers-outline value h.0, HasNumbers-items items h.1)

  HasNumbers-members : (members : Members) → HasWhole members → tree.MembersHaveNumbers (members_outline members)
  HasNumbers-members no_members h = tt
  HasNumbers-members (member key value members) h = (HasNumbers-outline value h.1, HasNumbers-members members h.2)

mutual
  depth-outline : (value : Data) → tree.depth (outline value) ≡ depth value
  depth-outline null = refl
  depth-outline (boolean b) = refl
  depth-outline (number n) = refl
  depth-outline (string text) = refl
  depth-outline (array items) = ap suc (items_depth-outline items)
  depth-outline (object members) = ap suc (members_depth-outline members)

  items_depth-outline : (items : Items) → tree.items_depth (items_outline items) ≡ items_depth items
  items_depth-outline no_items = refl
  items_depth-outline (item value items) = ap₂ max (depth-outline value) (items_depth-outline items)

  members_depth-outline : (members : Members) → tree.members_depth (members_outline members) ≡ members_depth members
  members_depth-outline no_members = refl
  members_depth-outline (member key value members) = ap₂ max (depth-outline value) (members_depth-outline members)

mutual
  of_json-outline : (value : Data) → IsWhole value → of_json (outline value) ≡ Some value
  of_json-outline null h = absurd h
  of_json-outline (boolean b) h = refl
  of_json-outline (number n) h = ap (option_map number) (number_of-whole n h)
  of_json-outline (string text) h = refl
  of_json-outline (array items) h = ap (option_map array) (of_items-outline items h)
  of_json-outline (object members) h = ap (option_map object) (of_members-outline members no_members h.0 ∙ ap Some h.1)

  of_items-outline : (items : Items) → AreWhole items → of_items (items_outline items) ≡ Some items
  of_items-outline no_items h = refl
  of_items-outline (item value items) h =
      ap (option_and_then (λ d. option_map (item d) (of_items (items_outline items)))) (of_json-outline value h.0) ∙ ap (option_map (item value)) (of_items-outline items h.1)

  of_members-outline : (members found : Members) → HasWhole members → of_members (members_outline members) found ≡ Some (put_members members found)
  of_members-outline no_members found h = refl
  of_members-outline (member key value members) found h =
      ap (option_and_then (λ d. of_members (members_outline members) (put key d found))) (of_json-outline value h.1) ∙ of_members-outline members (put key value found) h.2

pub read-text : (value : Data) → IsWhole value → depth value ≤ max_depth → read (compact_text value) ≡ Some value
read-text value h shallow =
    let j = outline value in
    let own : tokens (compact_text value) ≡ tree.json_tokens j ++ [] =
    ap tokens (sym (print-outline value)) ∙ tokens-print (tree.json_tokens j) (ArePrintable-json_tokens j (HasNumbers-outline value h)) ∙ sym (append-nil (tree.json_tokens j)) in
    let parsed : json.value max_depth (tokens (compact_text value)) ≡ Some (j, []) = ap (json.value max_depth) own ∙ value-json_tokens j max_depth [] (omega (arith, depth-outline value)) in
    ap (λ o. option_and_then of_json (option_and_then (λ p. json.if_last p.0 p.1) o)) parsed ∙ of_json-outline value h
