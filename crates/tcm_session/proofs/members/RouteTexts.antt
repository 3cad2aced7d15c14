-- The end of `cms`: it is final, and no line of it begins with the word of an answer with quorums.
use Rattle.std.proofs.Common.{◌≡◌, ◌≢◌, ℕ, true, List, [], ◌∷◌, ◌++◌, length, Option, None, Some, codes, decimal, refl, arith}
use Rattle.tcm_edges.specs.Files.{Files}
use Rattle.node_sets.specs.NodeSets.{without}
use Rattle.transformations.specs.History.{state_after}
use Rattle.transformations.specs.Log.{commands_of}
use Rattle.transformations.specs.declared.image.Image.{Image}
use Rattle.cms_members.specs.Majority.{majority_of}
use Rattle.cms_members.specs.Route.{route_of}
use Rattle.cms_members.specs.Service.{Service, service_after, service_of}
use Rattle.cms_members.specs.declared.change.Change.{Change}
use Rattle.cms_members.specs.declared.change.Change.TheVariants.{Start, Finish, Stop, Remove}
use Rattle.script_lang.specs.AnswerTexts.{list_text}
use Rattle.session_laws.specs.Shown.{IsOfNoQuorum}
use Rattle.session_laws.proofs.quorums.AnswerLines.{other_line}
use Rattle.session_laws.proofs.texts.PlainTexts.{is_plain, plain_both, plain_decimal, plain_joined, plain_list}
use Rattle.session_laws.proofs.texts.WholeLines.{AreLines, AreLines-append, AreLines-nil}
use Rattle.tcm_session.specs.code.Runs.{IsEnd}
use Rattle.tcm_session.specs.files.MemberRoute.{change_line, change_lines, change_text, first_unjoined, line_and_more, log_route, needs_text, route_ending, route_head, route_in, route_text, route_unless}
use Rattle.tcm_session.proofs.log_files.LookedRuns.{looked_ends, looked_lines}

needs_plain : (voting : List ℕ) → is_plain (needs_text voting) ≡ true
needs_plain voting = plain_joined (codes " needs " ++ decimal (majority_of voting)) (codes " of ") (list_text voting) (plain_decimal (majority_of voting)) refl (plain_list voting)

line_of_change : (change : Change) (after : Service) → AreLines IsOfNoQuorum (change_line change after)
line_of_change (Start n) after =
    other_line (change_text (Start n) ++ needs_text after.voting) (plain_both (change_text (Start n)) (needs_text after.voting) (plain_decimal n) (needs_plain after.voting)) (λ e. omega arith) (λ e. omega arith)
line_of_change (Finish n) after =
    other_line (change_text (Finish n) ++ needs_text after.voting) (plain_both (change_text (Finish n)) (needs_text after.voting) (plain_decimal n) (needs_plain after.voting)) (λ e. omega arith) (λ e. omega arith)
line_of_change (Stop n) after =
    other_line (change_text (Stop n) ++ needs_text after.voting) (plain_both (change_text (Stop n)) (needs_text after.voting) (plain_decimal n) (needs_plain after.voting)) (λ e. omega arith) (λ e. omega arith)
line_of_change (Remove n) after =
    other_line (change_text (Remove n) ++ needs_text after.voting) (plain_both (change_text (Remove n)) (needs_text after.voting) (plain_decimal n) (needs_plain after.voting)) (λ e. omega arith) (λ e. omega arith)

lines_of_changes : (s : Service) (changes : List Change) → AreLines IsOfNoQuorum (change_lines s changes)
lines_of_changes s [] = AreLines-nil IsOfNoQuorum
lines_of_changes s (c ∷ cs) = by (service_after s c) (λ t. lines_of_changes t cs)
  where
    by : (o : Option Service) → ((t : Service) → AreLines IsOfNoQuorum (change_lines t cs)) → AreLines IsOfNoQuorum (line_and_more c o (λ (t : Service). change_lines t cs))
    by None more = AreLines-nil IsOfNoQuorum
    by (Some t) more = AreLines-append IsOfNoQuorum (change_line c t) (change_lines t cs) (line_of_change c t) (more t)

text_lines : (from to : List ℕ) → AreLines IsOfNoQuorum (route_text from to)
unfolding route_text
text_lines from to =
    let changes = route_of from to in
    AreLines-append IsOfNoQuorum (route_head changes) (change_lines (service_of from) changes)
    (other_line (codes "CMS " ++ decimal (length changes)) (plain_decimal (length changes)) (λ e. omega arith) (λ e. omega arith))
    (lines_of_changes (service_of from) changes)

image_lines : (from to : List ℕ) (image : Image) → (route_in from to image).status ≢ 7 → AreLines IsOfNoQuorum (route_in from to image).text
image_lines from to image = by (first_unjoined image (without to from))
  where
    by : (o : Option ℕ) → (route_unless from to image o).status ≢ 7 → AreLines IsOfNoQuorum (route_unless from to image o).text
    by None other = text_lines from to
    by (Some n) other = absurd (other refl)

-- the lines of the route, unless the name of an absent file or a node that isn't JOINED is printed
pub route_lines : (name from to : List ℕ) (seen : ℕ → Files) → (route_ending name from to seen).status ≢ 7 → AreLines IsOfNoQuorum (route_ending name from to seen).text
route_lines name from to seen = looked_lines (log_route from to) (λ log. image_lines from to (state_after (commands_of log) (length log))) name seen

-- the end is final
image_ends : (from to : List ℕ) (image : Image) → IsEnd (route_in from to image).status
image_ends from to image = by (first_unjoined image (without to from))
  where
    by : (o : Option ℕ) → IsEnd (route_unless from to image o).status
    by None = refl
    by (Some n) = refl

pub route_ends : (name from to : List ℕ) (seen : ℕ → Files) → IsEnd (route_ending name from to seen).status
route_ends name from to seen = looked_ends (log_route from to) (λ log. image_ends from to (state_after (commands_of log) (length log))) name seen
