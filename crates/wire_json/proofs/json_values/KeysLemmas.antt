-- The keys of an object beside some wanted keys.
use Rattle.std.proofs.Common.{◌≡◌, ℕ, ◌+◌, ◌<◌, ◌≤◌, ◌&&◌, Bool, true, false, List, [], ◌∷◌, length, get_or, map, drop, not, Bor, String, Global, string_bytes, Option, Some, None, is_some, MatchOption, refl, sym, ap, ◌∙◌}
use Rattle.std.specs.Cmp.Lexicographic.{pointwise}
use Rattle.std.specs.Str.{bytes_eq}
use Rattle.std.proofs.lemmas.List.{drop_more, drop_all}
use Rattle.serde_json.proofs.Views.{Entry}
use Rattle.serde_json.specs.View.{members_view}
use Rattle.wire_json.specs.Values.{keys_of}

-- whether the texts of some keys are the wanted keys
abbrev pub same_from : List (String Global) → List (Bor (List ℕ)) → Bool
same_from found wanted = pointwise bytes_eq (map string_bytes found) (map (λ key. key.now) wanted)

-- the keys of a map are those of the object that it stands for
pub keys_of-members_view : (entries : List Entry) → keys_of (members_view entries) ≡ map string_bytes (map (λ (e : Entry). e.0) entries)
keys_of-members_view [] = refl
keys_of-members_view (e ∷ es) = ap (λ keys. string_bytes e.0 ∷ keys) (keys_of-members_view es)

-- one more key, beside one more wanted key
pub same_from-more : (key : String Global) (rest : List (String Global)) (wanted : List (Bor (List ℕ))) (i : ℕ) (d : Bor (List ℕ)) → i < length wanted
    → same_from (key ∷ rest) (drop i wanted) ≡ (bytes_eq (string_bytes key) (get_or wanted i d).now && same_from rest (drop (i + 1) wanted))
same_from-more key rest wanted i d within = ap (same_from (key ∷ rest)) (drop_more wanted i d within)

-- no key, beside one more wanted key
pub same_from-fewer : (wanted : List (Bor (List ℕ))) (i : ℕ) (d : Bor (List ℕ)) → i < length wanted → same_from [] (drop i wanted) ≡ false
same_from-fewer wanted i d within = ap (same_from []) (drop_more wanted i d within)

-- past the last wanted key
pub same_from-end : (found : List (String Global)) (wanted : List (Bor (List ℕ))) (i : ℕ) → length wanted ≤ i → same_from found (drop i wanted) ≡ same_from found []
same_from-end found wanted i past = ap (same_from found) (drop_all i wanted past)

-- what the keys of a map answer is what the keys of its object answer
pub of_object : (entries : List Entry) (all : List (String Global)) (wanted : List (Bor (List ℕ))) (b : Bool) → all ≡ map (λ (e : Entry). e.0) entries
    → b ≡ same_from all wanted → b ≡ pointwise bytes_eq (keys_of (members_view entries)) (map (λ key. key.now) wanted)
of_object entries all wanted b is told =
    told ∙ ap (λ ks. pointwise bytes_eq ks (map (λ (key : Bor (List ℕ)). key.now) wanted)) (ap (map string_bytes) is ∙ sym (keys_of-members_view entries))

-- a key that is not the wanted key
pub wrong_key : (all found rest : List (String Global)) (key : String Global) (text : List ℕ) (wanted : List (Bor (List ℕ))) (i : ℕ) (d : Bor (List ℕ)) (b : Bool) → same_from all wanted ≡ same_from found (drop i wanted) → i < length wanted
    → found ≡ key ∷ rest → text ≡ string_bytes key → b ≡ bytes_eq text (get_or wanted i d).now → b ≡ false → false ≡ same_from all wanted
wrong_key all found rest key text wanted i d b so_far within is read test other =
    let here : same_from found (drop i wanted) ≡ (bytes_eq (string_bytes key) (get_or wanted i d).now && same_from rest (drop (i + 1) wanted)) =
    ap (λ ks. same_from ks (drop i wanted)) is ∙ same_from-more key rest wanted i d within in
    let differs : bytes_eq (string_bytes key) (get_or wanted i d).now ≡ false = ap (λ t. bytes_eq t (get_or wanted i d).now) (sym read) ∙ sym test ∙ other in
    sym (so_far ∙ here ∙ ap (λ b. b && same_from rest (drop (i + 1) wanted)) differs)

-- no key where one is wanted
pub no_key : (all found after : List (String Global)) (wanted : List (Bor (List ℕ))) (i : ℕ) (d : Bor (List ℕ)) (r : Option (Bor (String Global))) → same_from all wanted ≡ same_from found (drop i wanted) → i < length wanted
    → MatchOption r ((found ≡ []) × (after ≡ [])) (λ x. found ≡ x.now ∷ after) → r ≡ None → false ≡ same_from all wanted
no_key all found after wanted i d (Some x) so_far within step none = absurd (cc)
no_key all found after wanted i d None so_far within step none =
    sym (so_far ∙ ap (λ ks. same_from ks (drop i wanted)) step.0 ∙ same_from-fewer wanted i d within)

-- whether no key is left where none is wanted
pub no_more : (all found after : List (String Global)) (wanted : List (Bor (List ℕ))) (i : ℕ) (r : Option (Bor (String Global))) (b : Bool) → same_from all wanted ≡ same_from found (drop i wanted) → length wanted ≤ i
    → MatchOption r ((found ≡ []) × (after ≡ [])) (λ x. found ≡ x.now ∷ after) → is_some r ≡ not b → b ≡ same_from all wanted
no_more all found after wanted i (Some x) true so_far past step test = absurd (cc)
no_more all found after wanted i (Some x) false so_far past step test =
    sym (so_far ∙ same_from-end found wanted i past ∙ ap (λ ks. same_from ks []) step)
no_more all found after wanted i None true so_far past step test =
    sym (so_far ∙ same_from-end found wanted i past ∙ ap (λ ks. same_from ks []) step.0)
no_more all found after wanted i None false so_far past step test = absurd (cc)
