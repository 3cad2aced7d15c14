-- Tokens as the items of a JSON value.
use Rattle.std.proofs.Common.{◌≡◌, ℕ, ℤ, ◌+◌, ◌<◌, ◌≤◌, true, false, List, [], ◌∷◌, length, drop, Option, Some, None, option_map, option_and_then, refl, sym, ap, ◌∙◌, arith, length-drop, suc, if◌then◌else◌, ◌⊎◌, inl, inr}
use Rattle.std.proofs.lemmas.Bool.Decides.{nat_tests}
use Rattle.serde_json.specs.View.{items_view, view}
use Rattle.serde_json.specs.declared.value.Value.{Value}
use Rattle.transformations.specs.History.{are_tokens, ascend}
use Rattle.wire_json.specs.Values.{each_of, list_of, token_of}

-- ---- ascending tokens

-- one token or none ascends
one_ascends : (tokens : List ℤ) → length tokens ≤ 1 → ascend tokens ≡ true
one_ascends [] few = refl
one_ascends (t ∷ []) few = refl
one_ascends (t ∷ u ∷ tokens) few = absurd (omega arith)

pub ascend-end : (tokens : List ℤ) (i : ℕ) → length tokens ≤ i + 1 → ascend (drop i tokens) ≡ true
ascend-end tokens i past = one_ascends (drop i tokens) (omega (arith, length-drop i tokens))

-- ---- a command's tokens

-- there are as many tokens as values
length-each : (values : List Value) (tokens : List ℤ) → each_of token_of (items_view values) ≡ Some tokens → length tokens ≡ length values
length-each [] [] is = refl
length-each [] (t ∷ tokens) is = absurd (cc)
length-each (v ∷ values) tokens is = by (token_of (view v)) (each_of token_of (items_view values)) (λ ts e. length-each values ts e) is
  where
    by : (o : Option ℤ) (rest : Option (List ℤ)) → ((ts : List ℤ) → rest ≡ Some ts → length ts ≡ length values) → option_and_then (λ t. option_map (λ ts. t ∷ ts) rest) o ≡ Some tokens → length tokens ≡ suc (length values)
    by None rest e is = absurd (cc)
    by (Some t) None e is = absurd (cc)
    by (Some t) (Some ts) e is =
        let same : t ∷ ts ≡ tokens = cc in
        sym (ap length same) ∙ ap suc (e ts refl)

-- no values, or too many, are no tokens of a command
pub no_list : (values : List Value) → (length values ≡ 0) ⊎ (256 < length values) → list_of (items_view values) ≡ None
no_list values count = by (each_of token_of (items_view values)) refl
  where
    by : (o : Option (List ℤ)) → each_of token_of (items_view values) ≡ o → option_and_then (λ tokens. if are_tokens tokens then Some tokens else None) o ≡ None
    by None is = refl
    by (Some tokens) is =
        let same = length-each values tokens is in
        let wrong : are_tokens tokens ≡ false = elim count [ inl none ↦ grind (arith, nat_tests) | inr many ↦ grind (arith, nat_tests) ] in
        ap (λ b. if b then Some tokens else None) wrong

-- 1 to 256 values are tokens of a command where they are ascending tokens
pub list_by_order : (values : List Value) → 1 ≤ length values → length values ≤ 256
    → list_of (items_view values) ≡ option_and_then (λ tokens. if ascend tokens then Some tokens else None) (each_of token_of (items_view values))
list_by_order values some few = by (each_of token_of (items_view values)) refl
  where
    by : (o : Option (List ℤ)) → each_of token_of (items_view values) ≡ o
        → option_and_then (λ tokens. if are_tokens tokens then Some tokens else None) o ≡ option_and_then (λ tokens. if ascend tokens then Some tokens else None) o
    by None is = refl
    by (Some tokens) is =
        let same = length-each values tokens is in
        let all : are_tokens tokens ≡ ascend tokens = grind (arith, nat_tests) in
        ap (λ b. if b then Some tokens else None) all
