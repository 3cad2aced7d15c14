-- The nodes with too many pairs, by counts.
use Rattle.std.proofs.Common.{◌≡◌, ℕ, ◌<◌, Bool, false, List, [], ◌∷◌, cond, find, get_or, length, nat_le, nat_lt, None, Some, Option, option_map, pos, refl, sym, ap, ◌∙◌, arith}
use Rattle.std.proofs.lemmas.Bool.Decides.{nat_tests}
use Rattle.std.proofs.lemmas.List.{length-map}
use Rattle.std.proofs.lemmas.Option.{none-some}
use Rattle.std.specs.List.{AllByRecursion}
use Rattle.cluster_terms.specs.declared.node.NodeRow.{NodeRow}
use Rattle.transformations.proofs.lists.ListLemmas.{all_weaker, none_found}
use Rattle.transformations.specs.ImageRules.{rule_3, rule_9}
use Rattle.transformations.specs.States.{node_tokens}
use Rattle.transformations.specs.Movements.{owned}
use Rattle.transformations.specs.declared.image.Image.{Image}

-- nothing is found where nothing is shown
pub map_none : {A B : Type 0} (f : A → B) (found : Option A) → option_map f found ≡ None → found ≡ None
map_none f None h = refl
map_none f (Some x) h = absurd (none-some (f x) (sym h))

find_alike_at : {X : Type 0} (f g : X → Bool) (xs : List X) → AllByRecursion (λ x. f x ≡ g x) xs → find f xs ≡ find g xs
find_alike_at f g [] all = refl
find_alike_at f g (x ∷ xs) all = λ i. cond (all.0 i) (Some x) (find_alike_at f g xs all.1 i)

-- all ids are below the next id
pub ids_below : (image : Image) → rule_3 image ≡ None → AllByRecursion (λ row. row.id < image.next) image.nodes
ids_below image none =
    all_weaker (λ (row : NodeRow). nat_le image.next row.id ≡ false) (λ row. row.id < image.next) (λ row test. grind (arith, nat_tests, test)) image.nodes
    (none_found (λ (row : NodeRow). nat_le image.next row.id) image.nodes (map_none (λ (row : NodeRow). pos row.id) (find (λ (row : NodeRow). nat_le image.next row.id) image.nodes) none))

pub over_counted : (image : Image) (counts : List ℕ) → rule_3 image ≡ None → ((n : ℕ) → n < image.next → get_or counts n 0 ≡ length (owned image.tokens n))
    → option_map (λ row. pos row.id) (find (λ row. nat_lt 256 (get_or counts row.id 0)) image.nodes) ≡ rule_9 image
over_counted image counts none each =
    ap (option_map (λ (row : NodeRow). pos row.id)) (find_alike_at (λ (row : NodeRow). nat_lt 256 (get_or counts row.id 0)) (λ row. nat_lt 256 (length (node_tokens image row.id))) image.nodes
    (all_weaker (λ (row : NodeRow). row.id < image.next) (λ row. nat_lt 256 (get_or counts row.id 0) ≡ nat_lt 256 (length (node_tokens image row.id)))
    (λ row low. ap (nat_lt 256) (each row.id low ∙ sym (length-map (owned image.tokens row.id) (λ p. p.token)))) image.nodes (ids_below image none)))
