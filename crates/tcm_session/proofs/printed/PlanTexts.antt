-- The end of `plan`: it is final, and no line of it begins with the word of an answer with quorums.
use Rattle.std.proofs.Common.{◌≡◌, ◌≢◌, ℕ, true, List, [], ◌∷◌, ◌++◌, flat_map, length, Option, None, Some, codes, decimal, refl, arith}
use Rattle.tcm_edges.specs.Files.{Files}
use Rattle.cluster_terms.specs.Name.{is_name}
use Rattle.transformations.specs.declared.image.Image.{Image}
use Rattle.stream_plan.specs.Streams.{streams}
use Rattle.stream_plan.specs.declared.stream_row.StreamFrom.{StreamFrom}
use Rattle.stream_plan.specs.declared.stream_row.StreamFrom.TheVariants.{AnyOf, Strict}
use Rattle.stream_plan.specs.declared.stream_row.StreamRow.{StreamRow}
use Rattle.script_lang.specs.AnswerTexts.{left_text, list_text, right_text}
use Rattle.session_laws.specs.Shown.{IsOfNoQuorum}
use Rattle.session_laws.proofs.quorums.AnswerLines.{other_line}
use Rattle.session_laws.proofs.texts.PlainTexts.{is_plain, plain_both, plain_decimal, plain_joined, plain_left, plain_list, plain_name, plain_right}
use Rattle.session_laws.proofs.texts.WholeLines.{AreLines, AreLines-append, AreLines-nil}
use Rattle.tcm_session.specs.code.Runs.{IsEnd}
use Rattle.tcm_session.specs.files.StreamPlan.{from_text, last_state, log_plan, plan_ending, plan_head, plan_in, plan_unless, range_text, row_text}
use Rattle.tcm_session.proofs.log_files.LookedRuns.{looked_ends, looked_lines}

plain_from : (from : StreamFrom) → is_plain (from_text from) ≡ true
plain_from (Strict source) = plain_both (codes "from ") (decimal source) refl (plain_decimal source)
plain_from (AnyOf nodes) = plain_both (codes "any ") (list_text nodes) refl (plain_list nodes)

line_of_row : (row : StreamRow) → AreLines IsOfNoQuorum (row_text row)
line_of_row row =
    let range = plain_both (codes "(" ++ left_text row.left ++ codes "," ++ right_text row.right) (codes "]")
    (plain_joined (codes "(" ++ left_text row.left) (codes ",") (right_text row.right) (plain_both (codes "(") (left_text row.left) refl (plain_left row.left)) refl (plain_right row.right)) refl in
    let to = plain_joined (range_text row.left row.right) (codes " to ") (decimal row.to) range refl (plain_decimal row.to) in
    other_line (range_text row.left row.right ++ codes " to " ++ decimal row.to ++ codes " " ++ from_text row.from)
    (plain_joined (range_text row.left row.right ++ codes " to " ++ decimal row.to) (codes " ") (from_text row.from) to refl (plain_from row.from)) (λ e. omega arith) (λ e. omega arith)

lines_of_rows : (rows : List StreamRow) → AreLines IsOfNoQuorum (flat_map row_text rows)
lines_of_rows [] = AreLines-nil IsOfNoQuorum
lines_of_rows (row ∷ rows) = AreLines-append IsOfNoQuorum (row_text row) (flat_map row_text rows) (line_of_row row) (lines_of_rows rows)

head_line : (epoch n : ℕ) (keyspace : List ℕ) (count : ℕ) → is_name keyspace ≡ true → AreLines IsOfNoQuorum (plan_head epoch n keyspace count)
head_line epoch n keyspace count named =
    let plan = plain_both (codes "PLAN ") (decimal epoch) refl (plain_decimal epoch) in
    let node = plain_joined (codes "PLAN " ++ decimal epoch) (codes " ") (decimal n) plan refl (plain_decimal n) in
    let name = plain_joined (codes "PLAN " ++ decimal epoch ++ codes " " ++ decimal n) (codes " ") keyspace node refl (plain_name keyspace named) in
    other_line (codes "PLAN " ++ decimal epoch ++ codes " " ++ decimal n ++ codes " " ++ keyspace ++ codes " " ++ decimal count)
    (plain_joined (codes "PLAN " ++ decimal epoch ++ codes " " ++ decimal n ++ codes " " ++ keyspace) (codes " ") (decimal count) name refl (plain_decimal count)) (λ e. omega arith) (λ e. omega arith)

state_lines : (n : ℕ) (keyspace : List ℕ) → is_name keyspace ≡ true → (image : Image) → (plan_in n keyspace image).status ≢ 7 → AreLines IsOfNoQuorum (plan_in n keyspace image).text
state_lines n keyspace named image = by (streams image n keyspace)
  where
    by : (o : Option (List StreamRow)) → (plan_unless image n keyspace o).status ≢ 7 → AreLines IsOfNoQuorum (plan_unless image n keyspace o).text
    by None other = absurd (other refl)
    by (Some rows) other =
        AreLines-append IsOfNoQuorum (plan_head image.epoch n keyspace (length rows)) (flat_map row_text rows) (head_line image.epoch n keyspace (length rows) named) (lines_of_rows rows)

-- the lines of the plan, unless the name of an absent file, or why there is no plan, is printed
pub plan_lines : (name : List ℕ) (n : ℕ) (keyspace : List ℕ) → is_name keyspace ≡ true → (seen : ℕ → Files) → (plan_ending name n keyspace seen).status ≢ 7 → AreLines IsOfNoQuorum (plan_ending name n keyspace seen).text
plan_lines name n keyspace named seen = looked_lines (log_plan n keyspace) (λ log. state_lines n keyspace named (last_state log)) name seen

-- the end is final
state_ends : (n : ℕ) (keyspace : List ℕ) (image : Image) → IsEnd (plan_in n keyspace image).status
state_ends n keyspace image = by (streams image n keyspace)
  where
    by : (o : Option (List StreamRow)) → IsEnd (plan_unless image n keyspace o).status
    by None = refl
    by (Some rows) = refl

pub plan_ends : (name : List ℕ) (n : ℕ) (keyspace : List ℕ) (seen : ℕ → Files) → IsEnd (plan_ending name n keyspace seen).status
plan_ends name n keyspace seen = looked_ends (log_plan n keyspace) (λ log. state_ends n keyspace (last_state log)) name seen
