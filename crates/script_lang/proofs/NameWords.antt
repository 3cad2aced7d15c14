-- The commands and lines that have names: what the definitions make of words that are names.
use Rattle.std.proofs.Common.{◌≡◌, ℕ, ◌^◌, ◌∙◌, if◌then◌else◌, List, [], ◌∷◌, length, map, Option, Some, None, get_or, arith, ap}
use Rattle.std.proofs.lemmas.Bool.{cond-true}
use Rattle.std.proofs.lemmas.Option.{cond_some}
use Rattle.cluster_terms.specs.Name.{is_name}
use Rattle.transformations.specs.declared.command.Command.TheVariants.{Register, DropKeyspace}
use Rattle.script_lang.specs.Grammar.{deliver_in, register_command, drop_keyspace_command, follower_in, number_below}
use Rattle.script_lang.specs.declared.script_line.ScriptLine.TheVariants.{Deliver, Follower}

-- the name that a word is, if it is one
abbrev pub name_in : List ℕ → Option (List ℕ)
name_in text = if is_name text then Some text else None

-- NAME
pub drop_keyspace_named : {B : Type 0} (word : B → List ℕ) (words : List B) (d : B) (name : List ℕ) → length words ≡ 1 → name_in (word (get_or words 0 d)) ≡ Some name → drop_keyspace_command (map word words) ≡ Some (DropKeyspace name)
unfolding drop_keyspace_command
drop_keyspace_named word [] d name one is = absurd (omega arith)
drop_keyspace_named word (w ∷ []) d name one is =
    let parts = cond_some (is_name (word w)) (word w) name is in
    cond-true (is_name (word w)) (Some (DropKeyspace (word w))) None parts.0 ∙ ap (λ (text : List ℕ). Some (DropKeyspace text)) parts.1
drop_keyspace_named word (w ∷ v ∷ ws) d name one is = absurd (omega arith)

-- F
pub follower_named : {B : Type 0} (word : B → List ℕ) (words : List B) (d : B) (name : List ℕ) → length words ≡ 1 → name_in (word (get_or words 0 d)) ≡ Some name → follower_in (map word words) ≡ Some (Follower name)
unfolding follower_in
follower_named word [] d name one is = absurd (omega arith)
follower_named word (w ∷ []) d name one is =
    let parts = cond_some (is_name (word w)) (word w) name is in
    cond-true (is_name (word w)) (Some (Follower (word w))) None parts.0 ∙ ap (λ (text : List ℕ). Some (Follower text)) parts.1
follower_named word (w ∷ v ∷ ws) d name one is = absurd (omega arith)

-- F E
pub deliver_named : {B : Type 0} (word : B → List ℕ) (words : List B) (d : B) (name : List ℕ) (epoch : ℕ) → length words ≡ 2 → name_in (word (get_or words 0 d)) ≡ Some name → number_below (2 ^ 64) (word (get_or words 1 d)) ≡ Some epoch → deliver_in (map word words) ≡ Some (Deliver name epoch)
unfolding deliver_in
deliver_named word [] d name epoch two is_n is_e = absurd (omega arith)
deliver_named word (w ∷ []) d name epoch two is_n is_e = absurd (omega arith)
deliver_named word (w ∷ v ∷ []) d name epoch two is_n is_e =
    let parts = cond_some (is_name (word w)) (word w) name is_n in
    grind (arith, parts.0, parts.1, is_e)
deliver_named word (w ∷ v ∷ u ∷ ws) d name epoch two is_n is_e = absurd (omega arith)

-- NAME DC RACK
pub register_named : {B : Type 0} (word : B → List ℕ) (words : List B) (d : B) (name dc rack : List ℕ) → length words ≡ 3 → name_in (word (get_or words 0 d)) ≡ Some name → name_in (word (get_or words 1 d)) ≡ Some dc → name_in (word (get_or words 2 d)) ≡ Some rack → register_command (map word words) ≡ Some (Register name dc rack)
unfolding register_command
register_named word [] d name dc rack three is_n is_d is_r = absurd (omega arith)
register_named word (w ∷ []) d name dc rack three is_n is_d is_r = absurd (omega arith)
register_named word (w ∷ v ∷ []) d name dc rack three is_n is_d is_r = absurd (omega arith)
register_named word (w ∷ v ∷ u ∷ []) d name dc rack three is_n is_d is_r =
    let first = cond_some (is_name (word w)) (word w) name is_n in
    let second = cond_some (is_name (word v)) (word v) dc is_d in
    let third = cond_some (is_name (word u)) (word u) rack is_r in
    grind (arith, first.0, first.1, second.0, second.1, third.0, third.1)
register_named word (w ∷ v ∷ u ∷ t ∷ ws) d name dc rack three is_n is_d is_r = absurd (omega arith)
