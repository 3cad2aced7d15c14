-- The members of an object, one after another, beside its wanted keys.
use Rattle.std.proofs.Common.{◌≡◌, ℕ, suc, ◌&&◌, Bool, true, false, List, [], ◌∷◌, length, drop, String, Global, string_bytes, Bor, Option, Some, None, is_some, option_map, cond, BTreeMap, string_cmp, refl, sym, ap, ◌∙◌, arith}
use Rattle.std.proofs.lemmas.List.Elements.{recursion_from_All}
use Rattle.std.specs.BTreeMap as btree
use Rattle.std.specs.Bool.{⊤}
use Rattle.std.specs.List.{All, AllByRecursion}
use Rattle.std.specs.Str.{bytes_eq}
use Rattle.std.proofs.lemmas.Slice.Eq.{bytes_eq-Decides}
use Rattle.serde_json.proofs.Views.{Entry, view-lookup}
use Rattle.serde_json.specs.Data.{Data, null, boolean, number, string, array, object, Members}
use Rattle.serde_json.specs.Find.{as_object, get}
use Rattle.serde_json.specs.View.{members_view, view}
use Rattle.serde_json.specs.declared.value.Value.{Value}
use Rattle.wire_json.specs.code.ObjectMembers.{AreMembers, first_at}
use Rattle.wire_json.specs.Values.{are_keys, has_keys}

-- ---- the members of an object

object_is : (value : Data) (ms : Members) → Some ms ≡ as_object value → value ≡ object ms
object_is null ms is = absurd (cc)
object_is (boolean b) ms is = absurd (cc)
object_is (number n) ms is = absurd (cc)
object_is (string s) ms is = absurd (cc)
object_is (array ds) ms is = absurd (cc)
object_is (object found) ms is = (let same : ms ≡ found = cc in ap object (sym same))

-- what a map finds at its keys, its object has at them
found_in_object : (value : Data) (m : BTreeMap (String Global) Value) (es : List Entry) → value ≡ object (members_view m.entries)
    → AllByRecursion (λ (e : Entry). btree.get string_cmp m e.0 ≡ Some e.1) es → AllByRecursion (λ (e : Entry). get (string_bytes e.0) value ≡ Some (view e.1)) es
found_in_object value m [] is all = tt
found_in_object value m (e ∷ es) is all = (ap (get (string_bytes e.0)) is ∙ sym (view-lookup (string_bytes e.0) m.entries) ∙ ap (option_map view) all.0, found_in_object value m es is all.1)

pub are_members : (value : Data) (m : BTreeMap (String Global) Value) → Some (members_view m.entries) ≡ as_object value → All (λ (e : Entry). btree.get string_cmp m e.0 ≡ Some e.1) m.entries → AreMembers value m.entries
are_members value m is all =
    let of_object = object_is value (members_view m.entries) is in
    record { all = of_object; found = found_in_object value m m.entries of_object (recursion_from_All _ m.entries all) }

-- ---- wanted keys

-- the keys are the wanted ones if the first is, and the rest are
keys_step : (key : List ℕ) (keys : List (List ℕ)) (es : List Entry) → are_keys (key ∷ keys) (members_view es) ≡ (is_some (first_at key es) && are_keys keys (members_view (drop 1 es)))
keys_step key keys [] = refl
keys_step key keys (e ∷ es) = by (bytes_eq (string_bytes e.0) key)
  where
    by : (b : Bool) → (b && are_keys keys (members_view es)) ≡ (is_some (cond b (Some e.1) None) && are_keys keys (members_view es))
    by true = refl
    by false = refl

-- other keys than members
other_length : (keys : List (List ℕ)) (es : List Entry) → (length keys ≡ length es → ⊥) → are_keys keys (members_view es) ≡ false
other_length [] [] other = absurd (other refl)
other_length [] (e ∷ es) other = refl
other_length (key ∷ keys) [] other = refl
other_length (key ∷ keys) (e ∷ es) other = rw (other_length keys es (λ same. other (ap suc same))) (by (bytes_eq (string_bytes e.0) key))
  where
    by : (b : Bool) → (b && false) ≡ false
    by true = refl
    by false = refl

pub has_other_keys : (value : Data) (es : List Entry) (n : ℕ) → Some (members_view es) ≡ as_object value → (length es ≡ n → ⊥) → (keys : List (List ℕ)) → length keys ≡ n → has_keys keys value ≡ false
has_other_keys value es n is other keys same = rw (sym is) (other_length keys es (λ h. other (sym h ∙ same)))

-- the first members have the wanted keys, one after another
abbrev pub AreTaken : List (List ℕ) → List Entry → Type 0
AreTaken [] es = ⊤
AreTaken (key ∷ keys) es = (is_some (first_at key es) ≡ true) × AreTaken keys (drop 1 es)

are_taken : (keys : List (List ℕ)) (es : List Entry) → length es ≡ length keys → AreTaken keys es → are_keys keys (members_view es) ≡ true
are_taken [] [] same taken = refl
are_taken [] (e ∷ es) same taken = absurd (omega (arith, same))
are_taken (key ∷ keys) [] same taken = absurd (omega (arith, same))
are_taken (key ∷ keys) (e ∷ es) same taken =
    let later : length es ≡ length keys = omega (arith, same) in
    keys_step key keys (e ∷ es) ∙ rw (taken.0) (are_taken keys es later taken.1)

pub has_taken : (value : Data) (es : List Entry) (keys : List (List ℕ)) → (length es ≡ length keys) × AreMembers value es → AreTaken keys es → has_keys keys value ≡ true
has_taken value es keys both taken = rw both.1.all (are_taken keys es both.0 taken)

-- a first member with the wanted key stands at this key
pub found_first : (value : Data) (key : List ℕ) (es : List Entry) (v : Value) → AllByRecursion (λ (m : Entry). get (string_bytes m.0) value ≡ Some (view m.1)) es → Some v ≡ first_at key es → get key value ≡ Some (view v)
found_first value key [] v all is = absurd (cc)
found_first value key (e ∷ es) v all is = by (bytes_eq (string_bytes e.0) key) refl is
  where
    by : (b : Bool) → bytes_eq (string_bytes e.0) key ≡ b → Some v ≡ cond b (Some e.1) None → get key value ≡ Some (view v)
    by true same is =
        let key_is : string_bytes e.0 ≡ key = (bytes_eq-Decides (string_bytes e.0) key).0 same in
        let value_is : e.1 ≡ v = cc in
        sym (ap (λ k. get k value) key_is) ∙ all.0 ∙ ap (λ v. Some (view v)) value_is
    by false other is = absurd (cc)

pub found_next : (value : Data) (key : List ℕ) (es rest : List Entry) (v : Value) → AllByRecursion (λ (m : Entry). get (string_bytes m.0) value ≡ Some (view m.1)) es → rest ≡ drop 1 es → Some v ≡ first_at key rest → get key value ≡ Some (view v)
found_next value key [] rest v all after is = found_first value key [] v tt (is ∙ ap (first_at key) after)
found_next value key (e ∷ es) rest v all after is = found_first value key es v all.1 (is ∙ ap (first_at key) after)

-- an object with one member has the wanted key if and only if the member has
pub has_one : (value : Data) (es : List Entry) (key : List ℕ) (r : Option (Bor Value)) → (length es ≡ 1) × AreMembers value es → option_map (λ v. v.now) r ≡ first_at key es → is_some r ≡ has_keys (key ∷ []) value
has_one value es key (Some v) both is = sym (has_taken value es (key ∷ []) both (ap is_some (sym is), tt))
has_one value es key None both is = sym (rw both.1.all (keys_step key [] es ∙ ap (λ o. is_some o && are_keys [] (members_view (drop 1 es))) (sym is)))
