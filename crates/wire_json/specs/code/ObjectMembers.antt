-- The members of a JSON object, one after another, and typed values.
use Rattle.std.specs.Prelude.{ℕ, ◌≡◌, ℤ, ◌&&◌, if◌then◌else◌, List, [], ◌∷◌, Option, Some, None, option_and_then, nat_le, String, string_bytes}
use Rattle.std.specs.List.{AllByRecursion}
use Rattle.std.specs.Str.{bytes_eq}
use Rattle.std.specs.declared.alloc.Global.{Global}
use Rattle.cluster_terms.specs.Name.{is_name}
use Rattle.cluster_terms.specs.ReplicationText.{replication_of}
use Rattle.cluster_terms.specs.declared.replication.Replication.{Replication}
use Rattle.serde_json.specs.Data.{Data, object}
use Rattle.serde_json.specs.Find.{as_array, as_number, as_str, as_u64, get}
use Rattle.serde_json.specs.View.{members_view, view}
use Rattle.serde_json.specs.declared.value.Value.{Value}
use Rattle.transformations.specs.History.{most_epochs}
use Rattle.wire_json.specs.Values.{list_of}

-- these are the members of an object: each value is found at its key
pub record AreMembers (value : Data) (members : List (String Global × Value)) : Type 0 where
  pub all : value ≡ object (members_view members)
  pub found : AllByRecursion (λ m. get (string_bytes m.0) value ≡ Some (view m.1)) members

-- the value of the first member, if its key is this one
abbrev pub first_at : List ℕ → List (String Global × Value) → Option Value
first_at key [] = None
first_at key (m ∷ ms) = if bytes_eq (string_bytes m.0) key then Some m.1 else None

-- the name in a value
abbrev pub name_in : Data → Option (List ℕ)
name_in value = option_and_then (λ text. if is_name text then Some text else None) (as_str value)

-- the replication in a value
abbrev pub replication_in : Data → Option Replication
replication_in value = option_and_then replication_of (as_str value)

-- the list of 1 to 256 tokens that ascend in a value
abbrev pub tokens_in : Data → Option (List ℤ)
tokens_in value = option_and_then list_of (as_array value)

-- the epoch of an entry
abbrev pub epoch_in : Data → Option ℕ
epoch_in value = option_and_then (λ n. if nat_le 1 n && nat_le n most_epochs then Some n else None) (option_and_then as_u64 (as_number value))
