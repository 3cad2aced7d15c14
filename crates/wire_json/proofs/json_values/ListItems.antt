-- Lists of one form, read and written an item at a time.
use Rattle.std.proofs.Common.{◌≡◌, ℕ, ◌≤◌, false, List, [], ◌∷◌, ◌++◌, length, map, take, Option, Some, option_map, option_and_then, refl, ap, ◌∙◌, arith}
use Rattle.std.proofs.lemmas.List.{take_all}
use Rattle.std.specs.List.{AllByRecursion}
use Rattle.serde_json.specs.Data.{Data, depth, items_depth}
use Rattle.serde_json.specs.View.{items_of, items_view, view}
use Rattle.serde_json.specs.Written.{has_float, items_have_float}
use Rattle.serde_json.specs.declared.value.Value.{Value}
use Rattle.wire_json.specs.EntryTexts.{list_items}
use Rattle.wire_json.specs.Values.{each_of}
use Rattle.wire_json.proofs.json_values.WholeData.{AreWhole, IsWhole}

-- ---- reading

-- some items, and those of the values from a place on
abbrev pub with_rest : {A : Type 0} → (Data → Option A) → List A → List Value → Option (List A)
with_rest form front values = option_map (λ xs. front ++ xs) (each_of form (items_view values))

-- ---- writing

-- values of all items are the items of their list
pub items_view-all : {A : Type 0} (data_of : A → Data) (values : List Value) (xs : List A) (i : ℕ) → map view values ≡ map data_of (take i xs) → length xs ≤ i → items_view values ≡ list_items data_of xs
items_view-all data_of values xs i are past = ap items_of (are ∙ ap (map data_of) (take_all i xs past))

-- ---- reading what was written

-- each item of a list reads as itself
pub each_there : {A : Type 0} (form : Data → Option A) (data_of : A → Data) (Is : A → Type 0) → ((x : A) → Is x → form (data_of x) ≡ Some x)
    → (xs : List A) → AllByRecursion Is xs → each_of form (list_items data_of xs) ≡ Some xs
each_there form data_of Is there [] all = refl
each_there form data_of Is there (x ∷ xs) all =
    ap (option_and_then (λ y. option_map (λ ys. y ∷ ys) (each_of form (list_items data_of xs)))) (there x all.0) ∙ ap (option_map (λ ys. x ∷ ys)) (each_there form data_of Is there xs all.1)

-- ---- what holds of the values of a list

-- none has a float, all are whole, and they are nested at most so deep
pub list_whole : {A : Type 0} (data_of : A → Data) → ((x : A) → has_float (data_of x) ≡ false) → (xs : List A) → items_have_float (list_items data_of xs) ≡ false
list_whole data_of each [] = refl
list_whole data_of each (x ∷ xs) = let here = each x in let rest = list_whole data_of each xs in rw (here, rest)

pub AreWhole-list : {A : Type 0} (data_of : A → Data) (Is : A → Type 0) → ((x : A) → Is x → IsWhole (data_of x)) → (xs : List A) → AllByRecursion Is xs → AreWhole (list_items data_of xs)
AreWhole-list data_of Is each [] all = tt
AreWhole-list data_of Is each (x ∷ xs) all = (each x all.0, AreWhole-list data_of Is each xs all.1)

pub depth-list : {A : Type 0} (data_of : A → Data) (n : ℕ) → ((x : A) → depth (data_of x) ≤ n) → (xs : List A) → items_depth (list_items data_of xs) ≤ n
depth-list data_of n each [] = omega arith
depth-list data_of n each (x ∷ xs) = omega (arith, each x, depth-list data_of n each xs)
