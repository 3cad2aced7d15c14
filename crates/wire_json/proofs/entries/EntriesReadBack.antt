-- The text of an entry reads as the entry.
use Rattle.std.proofs.Common.{◌≡◌, ℕ, ℤ, ◌+◌, ◌*◌, ◌^◌, ◌<◌, ◌≤◌, ◌&&◌, pos, negsuc, true, if◌then◌else◌, List, [], ◌∷◌, ◌++◌, length, Option, Some, None, option_map, option_and_then, Ok, IsTrue, IsUtf8, nat_le, nat_lt, codes, refl, ap, ◌∙◌, arith, lt-ltb}
use Rattle.std.specs.List.{AllByRecursion}
use Rattle.std.proofs.lemmas.Bool.{and_from, le-leb}
use Rattle.std.proofs.lemmas.Bool.Decides.{nat_tests}
use Rattle.std.proofs.lemmas.Int.{ints}
use Rattle.cluster_terms.specs.Arc.{IsToken}
use Rattle.cluster_terms.specs.Name.{is_name}
use Rattle.cluster_terms.proofs.texts.RoundTrip.{round_trip}
use Rattle.serde_json.specs.Data.{Data, depth, items_depth}
use Rattle.serde_json.specs.Find.{of_integer}
use Rattle.serde_json.specs.Written.{compact_text}
use Rattle.transformations.specs.History.{are_tokens, is_command}
use Rattle.transformations.specs.Words.{goal_word, movement_word}
use Rattle.transformations.specs.declared.command.Command.{Command}
use Rattle.transformations.specs.declared.command.Command.TheVariants.{Register, Unregister, UnsafeJoin, Keyspace, DropKeyspace, PrepareJoin, PrepareMove, PrepareLeave, PrepareReplace, Step, Cancel}
use Rattle.transformations.specs.declared.entry.Entry.{Entry}
use Rattle.transformations.specs.declared.sequence.Goal.{Goal}
use Rattle.transformations.specs.declared.sequence.Goal.TheVariants as goal
use Rattle.transformations.specs.declared.sequence.Kind.{Kind}
use Rattle.transformations.specs.declared.sequence.Kind.TheVariants as kind
use Rattle.wire_json.specs.Entries.{HasValues, IsEntry, IsNode}
use Rattle.wire_json.specs.Kinds as spec
use Rattle.wire_json.specs.Reading.{entry_of, line_in, most_bytes, reading}
use Rattle.wire_json.specs.EntryTexts.{command_data, entry_data, node_data, entry_text, list_items, token_data, tokens_data}
use Rattle.wire_json.specs.Values.{list_of, token_of}
use Rattle.wire_json.specs.declared.line.Line.TheVariants as line
use Rattle.wire_json.proofs.json_values.ListItems.{each_there, AreWhole-list, depth-list}
use Rattle.wire_json.proofs.json_values.ReadingLemmas.{reading-text}
use Rattle.wire_json.proofs.json_values.TextBytes.{IsShort-name, IsShort-replication, IsUtf8-replication, IsUtf8-tested, IsUtf8-name}
use Rattle.wire_json.proofs.json_values.WholeData.{Fits-text, IsWhole, AreWhole, IsWholeNumber, items_most, most}

-- ---- values that are there

pub node_there : (n : ℕ) → IsNode n → (if nat_lt n (2 ^ 32) then Some n else None) ≡ Some n
node_there n h = ap (λ b. if b then Some n else None) (lt-ltb n (2 ^ 32) h)

pub name_there : (text : List ℕ) → IsTrue (is_name text) → (if is_name text then Some text else None) ≡ Some text
name_there text h = ap (λ b. if b then Some text else None) h

one : {A D : Type 0} (f : A → D) (x : A) (ox : Option A) → ox ≡ Some x → option_and_then (λ a. Some (f a)) ox ≡ Some (f x)
one f x ox p = ap (option_and_then (λ a. Some (f a))) p

two : {A B D : Type 0} (f : A → B → D) (x : A) (y : B) (ox : Option A) (oy : Option B) → ox ≡ Some x → oy ≡ Some y → option_and_then (λ a. option_and_then (λ b. Some (f a b)) oy) ox ≡ Some (f x y)
two f x y ox oy p q = ap (option_and_then (λ a. option_and_then (λ b. Some (f a b)) oy)) p ∙ one (f x) y oy q

three : {A B C D : Type 0} (f : A → B → C → D) (x : A) (y : B) (z : C) (ox : Option A) (oy : Option B) (oz : Option C) → ox ≡ Some x → oy ≡ Some y → oz ≡ Some z
    → option_and_then (λ a. option_and_then (λ b. option_and_then (λ c. Some (f a b c)) oz) oy) ox ≡ Some (f x y z)
three f x y z ox oy oz p q r = ap (option_and_then (λ a. option_and_then (λ b. option_and_then (λ c. Some (f a b c)) oz) oy)) p ∙ two (f x) y z oy oz q r

-- ---- tokens

pub token_there : (token : ℤ) → IsToken token → token_of (token_data token) ≡ Some token
token_there (pos n) is = (let below : n < 2 ^ 63 = omega (arith, ints, is.1) in ap (λ b. if b then Some (pos n) else None) (lt-ltb n (2 ^ 63) below))
token_there (negsuc n) is = refl

list_there : (tokens : List ℤ) → AllByRecursion IsToken tokens → are_tokens tokens ≡ true → list_of (list_items token_data tokens) ≡ Some tokens
list_there tokens all are =
    ap (option_and_then (λ ts. if are_tokens ts then Some ts else None)) (each_there token_of token_data IsToken token_there tokens all) ∙ ap (λ b. if b then Some tokens else None) are

-- ---- a command's object is the command

step_there : (g : Goal) (k : Kind) (node : ℕ) → IsNode node → spec.command_of (node_data (goal_word g ++ movement_word k) node) ≡ Some (Step g k node)
unfolding spec.command_of spec.node_kinds
step_there goal.Start kind.Join node h = ap (option_map (Step goal.Start kind.Join)) (node_there node h)
step_there goal.Mid kind.Join node h = ap (option_map (Step goal.Mid kind.Join)) (node_there node h)
step_there goal.Finish kind.Join node h = ap (option_map (Step goal.Finish kind.Join)) (node_there node h)
step_there goal.Start kind.Move node h = ap (option_map (Step goal.Start kind.Move)) (node_there node h)
step_there goal.Mid kind.Move node h = ap (option_map (Step goal.Mid kind.Move)) (node_there node h)
step_there goal.Finish kind.Move node h = ap (option_map (Step goal.Finish kind.Move)) (node_there node h)
step_there goal.Start kind.Leave node h = ap (option_map (Step goal.Start kind.Leave)) (node_there node h)
step_there goal.Mid kind.Leave node h = ap (option_map (Step goal.Mid kind.Leave)) (node_there node h)
step_there goal.Finish kind.Leave node h = ap (option_map (Step goal.Finish kind.Leave)) (node_there node h)
step_there goal.Start kind.Replace node h = ap (option_map (Step goal.Start kind.Replace)) (node_there node h)
step_there goal.Mid kind.Replace node h = ap (option_map (Step goal.Mid kind.Replace)) (node_there node h)
step_there goal.Finish kind.Replace node h = ap (option_map (Step goal.Finish kind.Replace)) (node_there node h)

command_there : (command : Command) → HasValues command → is_command command ≡ true → spec.command_of (command_data command) ≡ Some command
unfolding spec.command_of spec.node_kinds spec.register_of spec.unsafe_join_of spec.prepare_join_of spec.set_keyspace_of spec.drop_keyspace_of spec.prepare_move_of spec.prepare_replace_of
command_there (Register name dc rack) h is = three Register name dc rack _ _ _ (name_there name h.0) (name_there dc h.1) (name_there rack h.2)
command_there (Unregister node) h is = ap (option_map Unregister) (node_there node h)
command_there (UnsafeJoin node tokens) h is = two UnsafeJoin node tokens _ _ (node_there node h.0) (list_there tokens h.1 is)
command_there (Keyspace name r) h is = two Keyspace name r _ _ (name_there name h.0) (round_trip r h.1)
command_there (DropKeyspace name) h is = one DropKeyspace name _ (name_there name h)
command_there (PrepareJoin node tokens) h is = two PrepareJoin node tokens _ _ (node_there node h.0) (list_there tokens h.1 is)
command_there (PrepareMove node token) h is = two PrepareMove node token _ _ (node_there node h.0) (token_there token h.1)
command_there (PrepareLeave node) h is = ap (option_map PrepareLeave) (node_there node h)
command_there (PrepareReplace node gone) h is = two PrepareReplace node gone _ _ (node_there node h.0) (node_there gone h.1)
command_there (Step g k node) h is = step_there g k node h
command_there (Cancel node) h is = ap (option_map Cancel) (node_there node h)

entry_there : (entry : Entry) → IsEntry entry → entry_of (entry_data entry) ≡ Ok entry
unfolding entry_of
entry_there entry is =
    let epoch : (nat_le 1 entry.epoch && nat_le entry.epoch 65536) ≡ true = and_from _ _ (le-leb _ _ is.first) (le-leb _ _ is.last) in
    let command = command_there entry.cmd is.values is.tokens in
    rw (epoch, command)

line_there : (entry : Entry) → IsEntry entry → line_in (entry_data entry) ≡ Ok (line.Entry entry)
unfolding line_in
line_there entry is = (let there = entry_there entry is in rw there)

-- ---- its data can be written

pub whole_token : (token : ℤ) → IsToken token → IsWholeNumber (of_integer token)
whole_token (pos n) is = omega (arith, ints, is.1)
whole_token (negsuc n) is = omega (arith, ints, is.0)

whole_tokens : (tokens : List ℤ) → AllByRecursion IsToken tokens → AreWhole (list_items token_data tokens)
whole_tokens tokens all = AreWhole-list token_data IsToken whole_token tokens all

most-tokens : (tokens : List ℤ) → items_most (list_items token_data tokens) ≡ 1 + 22 * length tokens
most-tokens [] = refl
most-tokens (t ∷ ts) = omega (arith, most-tokens ts)

depth-tokens : (tokens : List ℤ) → items_depth (list_items token_data tokens) ≤ 0
depth-tokens tokens = depth-list token_data 0 (λ token. omega arith) tokens

few : (tokens : List ℤ) → are_tokens tokens ≡ true → length tokens ≤ 256
few tokens is = grind (arith, nat_tests)

-- the data of a command: it is whole, short and flat
pub record IsFine (value : Data) : Type 0 where
  pub whole : IsWhole value
  pub short : most value ≤ 5840
  pub flat : depth value ≤ 2

fine_node : (word : List ℕ) (node : ℕ) → IsUtf8 word → length word ≤ 20 → IsNode node → IsFine (node_data word node)
fine_node word node utf8 short h = record {
  whole = ((IsUtf8-tested (codes "kind") refl, utf8, (IsUtf8-tested (codes "node") refl, omega arith, tt)), refl);
  short = omega arith;
  flat = omega arith;
}

fine_tokens : (word : List ℕ) (node : ℕ) (tokens : List ℤ) → IsUtf8 word → length word ≤ 12 → IsNode node → AllByRecursion IsToken tokens → are_tokens tokens ≡ true → IsFine (tokens_data word node tokens)
fine_tokens word node tokens utf8 short h all are = record {
  whole = ((IsUtf8-tested (codes "kind") refl, utf8, (IsUtf8-tested (codes "node") refl, omega arith, (IsUtf8-tested (codes "tokens") refl, whole_tokens tokens all, tt))), refl);
  short = omega (arith, most-tokens tokens, few tokens are);
  flat = omega (arith, depth-tokens tokens);
}

fine_step : (g : Goal) (k : Kind) (node : ℕ) → IsNode node → IsFine (node_data (goal_word g ++ movement_word k) node)
fine_step goal.Start kind.Join node h = fine_node (codes "start-join") node (IsUtf8-tested _ refl) (omega arith) h
fine_step goal.Mid kind.Join node h = fine_node (codes "mid-join") node (IsUtf8-tested _ refl) (omega arith) h
fine_step goal.Finish kind.Join node h = fine_node (codes "finish-join") node (IsUtf8-tested _ refl) (omega arith) h
fine_step goal.Start kind.Move node h = fine_node (codes "start-move") node (IsUtf8-tested _ refl) (omega arith) h
fine_step goal.Mid kind.Move node h = fine_node (codes "mid-move") node (IsUtf8-tested _ refl) (omega arith) h
fine_step goal.Finish kind.Move node h = fine_node (codes "finish-move") node (IsUtf8-tested _ refl) (omega arith) h
fine_step goal.Start kind.Leave node h = fine_node (codes "start-leave") node (IsUtf8-tested _ refl) (omega arith) h
fine_step goal.Mid kind.Leave node h = fine_node (codes "mid-leave") node (IsUtf8-tested _ refl) (omega arith) h
fine_step goal.Finish kind.Leave node h = fine_node (codes "finish-leave") node (IsUtf8-tested _ refl) (omega arith) h
fine_step goal.Start kind.Replace node h = fine_node (codes "start-replace") node (IsUtf8-tested _ refl) (omega arith) h
fine_step goal.Mid kind.Replace node h = fine_node (codes "mid-replace") node (IsUtf8-tested _ refl) (omega arith) h
fine_step goal.Finish kind.Replace node h = fine_node (codes "finish-replace") node (IsUtf8-tested _ refl) (omega arith) h

fine_command : (command : Command) → HasValues command → is_command command ≡ true → IsFine (command_data command)
fine_command (Register name dc rack) h is =
    let n = IsShort-name name h.0 in let d = IsShort-name dc h.1 in let r = IsShort-name rack h.2 in record {
      whole = (
        (
          IsUtf8-tested (codes "dc") refl,
          IsUtf8-name dc h.1,
          (
            IsUtf8-tested (codes "kind") refl,
            IsUtf8-tested (codes "register") refl,
            (IsUtf8-tested (codes "name") refl, IsUtf8-name name h.0, (IsUtf8-tested (codes "rack") refl, IsUtf8-name rack h.2, tt)),
          ),
        ),
        refl,
      );
      short = omega (arith, n.1, d.1, r.1);
      flat = omega arith;
    }
fine_command (Unregister node) h is = fine_node (codes "unregister") node (IsUtf8-tested (codes "unregister") refl) (omega arith) h
fine_command (UnsafeJoin node tokens) h is = fine_tokens (codes "unsafe-join") node tokens (IsUtf8-tested (codes "unsafe-join") refl) (omega arith) h.0 h.1 is
fine_command (Keyspace name r) h is =
    let n = IsShort-name name h.0 in let t = IsShort-replication r h.1 in record {
      whole = (
        (
          IsUtf8-tested (codes "kind") refl,
          IsUtf8-tested (codes "keyspace") refl,
          (
            IsUtf8-tested (codes "name") refl,
            IsUtf8-name name h.0,
            (IsUtf8-tested (codes "replication") refl, IsUtf8-replication r h.1, tt),
          ),
        ),
        refl,
      );
      short = omega (arith, n.1, t.1);
      flat = omega arith;
    }
fine_command (DropKeyspace name) h is =
    let n = IsShort-name name h in record {
      whole = ((IsUtf8-tested (codes "kind") refl, IsUtf8-tested (codes "drop-keyspace") refl, (IsUtf8-tested (codes "name") refl, IsUtf8-name name h, tt)), refl);
      short = omega (arith, n.1);
      flat = omega arith;
    }
fine_command (PrepareJoin node tokens) h is = fine_tokens (codes "prepare-join") node tokens (IsUtf8-tested (codes "prepare-join") refl) (omega arith) h.0 h.1 is
fine_command (PrepareMove node token) h is = record {
  whole = (
    (
      IsUtf8-tested (codes "kind") refl,
      IsUtf8-tested (codes "prepare-move") refl,
      (
        IsUtf8-tested (codes "node") refl,
        omega (arith, h.0),
        (IsUtf8-tested (codes "token") refl, whole_token token h.1, tt),
      ),
    ),
    refl,
  );
  short = omega arith;
  flat = omega arith;
}
fine_command (PrepareLeave node) h is = fine_node (codes "prepare-leave") node (IsUtf8-tested (codes "prepare-leave") refl) (omega arith) h
fine_command (PrepareReplace node gone) h is = record {
  whole = (
    (
      IsUtf8-tested (codes "gone") refl,
      omega (arith, h.1),
      (
        IsUtf8-tested (codes "kind") refl,
        IsUtf8-tested (codes "prepare-replace") refl,
        (IsUtf8-tested (codes "node") refl, omega (arith, h.0), tt),
      ),
    ),
    refl,
  );
  short = omega arith;
  flat = omega arith;
}
fine_command (Step g k node) h is = fine_step g k node h
fine_command (Cancel node) h is = fine_node (codes "cancel") node (IsUtf8-tested (codes "cancel") refl) (omega arith) h

pub whole_entry : (entry : Entry) → IsEntry entry → IsWhole (entry_data entry)
whole_entry entry is =
    let command = fine_command entry.cmd is.values is.tokens in (
      (IsUtf8-tested (codes "command") refl, command.whole, (IsUtf8-tested (codes "entry") refl, is.id, (IsUtf8-tested (codes "epoch") refl, omega (arith, is.last), tt))),
      refl,
    )

pub short_entry : (entry : Entry) → IsEntry entry → most (entry_data entry) ≤ 5999
short_entry entry is = (let command = fine_command entry.cmd is.values is.tokens in omega (arith, command.short))

flat_entry : (entry : Entry) → IsEntry entry → depth (entry_data entry) ≤ 127
flat_entry entry is = (let command = fine_command entry.cmd is.values is.tokens in omega (arith, command.flat))

-- ---- the round trip

pub entry_reads_back : (entry : Entry) → IsEntry entry → reading (entry_text entry) ≡ Ok (line.Entry entry)
unfolding entry_text
entry_reads_back entry is =
    let value = entry_data entry in
    let whole = whole_entry entry is in
    let short : length (compact_text value) ≤ most_bytes = omega (arith, (Fits-text value whole).1, short_entry entry is) in
    reading-text value whole (flat_entry entry is) short ∙ line_there entry is
