-- Lemmas on the refusals of commands.
use Rattle.std.proofs.Common.{◌≡◌, ◌+◌, ◌-◌, ◌^◌, ◌≤◌, Bool, false, ◌||◌, ℤ, List, [], ◌∷◌, ◌++◌, length, map, min, None, nat_lt, refl, ap, ◌∙◌, arith, length-append}
use Rattle.std.proofs.lemmas.Bool.Decides.{nat_tests}
use Rattle.std.proofs.lemmas.List.{length-map}
use Rattle.std.proofs.lemmas.List.Folds.{list_any-append}
use Rattle.std.proofs.lemmas.Map.Made.{distinct_count-le}
use Rattle.std.specs.List.{flat_map, list_any}
use Rattle.std.specs.Ordering.{int_eq}
use Rattle.cluster_terms.specs.declared.token.Pair.{Pair}
use Rattle.transformations.specs.Refusals.{is_taken, most_tokens, refused_if, tokens_full, tokens_with}
use Rattle.transformations.specs.Rings.{widest}
use Rattle.transformations.specs.declared.image.Image.{Image}
use Rattle.transformations.specs.declared.refusal.Refusal.TheVariants.{TokensFull}
use Rattle.transformations.specs.declared.sequence.SeqRow.{SeqRow}

-- ---- tokens that are taken

list_any-flat_map : {X Y : Type 0} (p : Y → Bool) (f : X → List Y) (xs : List X) → list_any p (flat_map f xs) ≡ list_any (λ x. list_any p (f x)) xs
list_any-flat_map p f [] = refl
list_any-flat_map p f (x ∷ xs) = list_any-append p (f x) (flat_map f xs) ∙ ap (λ b. list_any p (f x) || b) (list_any-flat_map p f xs)

-- a token is taken where a pair of the ring has it, or a movement brings it
pub taken-by : (image : Image) (t : ℤ) → is_taken image t
    ≡ (list_any (λ (p : Pair). int_eq p.token t) image.tokens || list_any (λ (s : SeqRow). list_any (λ (p : Pair). int_eq p.token t) s.in_pairs) image.sequences)
taken-by image t =
    list_any-append (λ (p : Pair). int_eq p.token t) image.tokens (flat_map (λ (s : SeqRow). s.in_pairs) image.sequences)
    ∙ ap (λ b. list_any (λ (p : Pair). int_eq p.token t) image.tokens || b) (list_any-flat_map (λ (p : Pair). int_eq p.token t) (λ (s : SeqRow). s.in_pairs) image.sequences)

-- ---- how many tokens there are

-- no more tokens differ than there are pairs and tokens
pub few_tokens : (image : Image) (tokens : List ℤ) → min (length (widest image) + length tokens) (2 ^ 64 - 1) ≤ most_tokens → tokens_full image tokens ≡ None
few_tokens image tokens few =
    let all = distinct_count-le int_eq (map (λ (p : Pair). p.token) (widest image) ++ tokens) in
    let long = length-append (map (λ (p : Pair). p.token) (widest image)) tokens in
    let pairs = length-map (widest image) (λ (p : Pair). p.token) in
    let is : nat_lt most_tokens (tokens_with image tokens) ≡ false = grind (arith, nat_tests) in
    ap (λ b. refused_if b TokensFull) is
