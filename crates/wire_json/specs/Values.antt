-- Typed values at the keys of a JSON object.
use Rattle.std.specs.Prelude.{ℕ, ◌^◌, ℤ, Bool, false, if◌then◌else◌, List, [], ◌∷◌, Option, Some, None, option_map, option_and_then, unwrap_or, nat_lt}
use Rattle.std.specs.Cmp.Lexicographic.{pointwise}
use Rattle.std.specs.Str.{bytes_eq}
use Rattle.cluster_terms.specs.Name.{is_name}
use Rattle.cluster_terms.specs.ReplicationText.{replication_of}
use Rattle.cluster_terms.specs.declared.replication.Replication.{Replication}
use Rattle.serde_json.specs.Data.{Data, Items, no_items, item, Members, no_members, member}
use Rattle.serde_json.specs.Find.{get, as_array, as_bool, as_number, as_object, as_str, as_i64, as_u64}
use Rattle.transformations.specs.History.{are_tokens}

-- continues with the value, if there is one
infixl 10 ◌>>=◌
abbrev pub ◌>>=◌ : {A B : Type 0} → Option A → (A → Option B) → Option B
o >>= f = option_and_then f o

-- the keys of an object, in the order of its members
abbrev pub keys_of : Members → List (List ℕ)
keys_of no_members = []
keys_of (member key value members) = key ∷ keys_of members

-- whether the keys of an object are exactly these, in this order
abbrev pub are_keys : List (List ℕ) → Members → Bool
are_keys keys members = pointwise bytes_eq (keys_of members) keys

-- whether a value is an object with exactly these keys
abbrev pub has_keys : List (List ℕ) → Data → Bool
has_keys keys value = unwrap_or (option_map (are_keys keys) (as_object value)) false

-- the text at a key
abbrev pub text_at : List ℕ → Data → Option (List ℕ)
text_at key value = option_and_then as_str (get key value)

-- the whole number below 2^64 at a key
abbrev pub number_at : List ℕ → Data → Option ℕ
number_at key value = option_and_then as_u64 (option_and_then as_number (get key value))

-- true or false at a key
abbrev pub flag_at : List ℕ → Data → Option Bool
flag_at key value = option_and_then as_bool (get key value)

-- the name at a key
abbrev pub name_at : List ℕ → Data → Option (List ℕ)
name_at key value = option_and_then (λ text. if is_name text then Some text else None) (text_at key value)

-- the replication at a key
abbrev pub replication_at : List ℕ → Data → Option Replication
replication_at key value = option_and_then replication_of (text_at key value)

-- a node: a number below 2^32
abbrev pub node_by : ℕ → Option ℕ
node_by n = if nat_lt n (2 ^ 32) then Some n else None

-- the node in a value, a whole number
abbrev pub node_in : Data → Option ℕ
node_in value = option_and_then node_by (option_and_then as_u64 (as_number value))

-- the node at a key
abbrev pub node_at : List ℕ → Data → Option ℕ
node_at key value = option_and_then node_by (number_at key value)

-- a token: a whole number from -2^63 to 2^63 - 1
abbrev pub token_of : Data → Option ℤ
token_of value = option_and_then as_i64 (as_number value)

-- the token at a key
abbrev pub token_at : List ℕ → Data → Option ℤ
token_at key value = option_and_then token_of (get key value)

-- a list whose items are all of one form
abbrev pub each_of : {A : Type 0} → (Data → Option A) → Items → Option (List A)
each_of form no_items = Some []
each_of form (item value values) = option_and_then (λ x. option_map (λ xs. x ∷ xs) (each_of form values)) (form value)

-- such a list at a key
abbrev pub each_at : {A : Type 0} → (Data → Option A) → List ℕ → Data → Option (List A)
each_at form key value = option_and_then (each_of form) (option_and_then as_array (get key value))

-- a list of 1 to 256 tokens that ascend
abbrev pub list_of : Items → Option (List ℤ)
list_of values = option_and_then (λ tokens. if are_tokens tokens then Some tokens else None) (each_of token_of values)

-- such a list at a key
abbrev pub tokens_at : List ℕ → Data → Option (List ℤ)
tokens_at key value = option_and_then list_of (option_and_then as_array (get key value))
