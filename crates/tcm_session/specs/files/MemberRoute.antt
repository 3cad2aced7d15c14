-- The route from one set of members of the metadata service to another, which `cms LOG FROM TO` prints.
use Rattle.std.specs.Prelude.{ℕ, Bool, true, false, not, List, [], ◌∷◌, ◌++◌, find, length, min, Option, Some, None, codes, decimal}
use Rattle.tcm_edges.specs.Files.{Files}
use Rattle.node_sets.specs.NodeSets.{without}
use Rattle.transformations.specs.History.{state_after}
use Rattle.transformations.specs.Log.{commands_of}
use Rattle.transformations.specs.States.{node_state}
use Rattle.transformations.specs.declared.entry.Entry.{Entry}
use Rattle.transformations.specs.declared.image.Image.{Image}
use Rattle.transformations.specs.declared.state.NodeState.{NodeState}
use Rattle.transformations.specs.declared.state.NodeState.TheVariants.{Joined}
use Rattle.cms_members.specs.Accepted.{AllMeet, Arrives, IsShortest, NeverFewer}
use Rattle.cms_members.specs.Majority.{majority_of}
use Rattle.cms_members.specs.Route.{route_of}
use Rattle.cms_members.specs.Service.{Service, service_after, service_of}
use Rattle.cms_members.specs.declared.change.Change.{Change}
use Rattle.cms_members.specs.declared.change.Change.TheVariants.{Start, Finish, Stop, Remove}
use Rattle.script_lang.specs.AnswerTexts.{line, list_text, no_text, state_text}
use Rattle.tcm_session.specs.declared.ending.Ending.{Ending}
use Rattle.tcm_session.specs.files.LookedEnds.{looked_end}

-- ---- the route and its text

-- all changes of the route are accepted and lead from one set to the other; majorities before and after each change
-- meet; there are never fewer voting members than the lesser of the two counts; and no accepted way is shorter
pub record IsSafeRoute (from to : List ℕ) : Type 0 where
  pub arrives : Arrives from (route_of from to) to
  pub meet : AllMeet (service_of from) (route_of from to)
  pub never_fewer : NeverFewer (min (length from) (length to)) (service_of from) (route_of from to)
  pub shortest : IsShortest from (route_of from to) to

-- a change and its node
abbrev pub change_text : Change → List ℕ
change_text (Start n) = codes "START " ++ decimal n
change_text (Finish n) = codes "FINISH " ++ decimal n
change_text (Stop n) = codes "STOP " ++ decimal n
change_text (Remove n) = codes "REMOVE " ++ decimal n

-- how many of the voting members are a majority, and these members
abbrev pub needs_text : List ℕ → List ℕ
needs_text voting = codes " needs " ++ decimal (majority_of voting) ++ codes " of " ++ list_text voting

-- the line of a change, with the voting members after it
abbrev pub change_line : Change → Service → List ℕ
change_line change after = line (change_text change ++ needs_text after.voting)

-- the line of a change and those of the changes after it, unless the change is refused
abbrev pub line_and_more : Change → Option Service → (Service → List ℕ) → List ℕ
line_and_more change None more = []
line_and_more change (Some after) more = change_line change after ++ more after

-- the lines of changes, up to the first that is refused
abbrev pub change_lines : Service → List Change → List ℕ
change_lines service [] = []
change_lines service (change ∷ changes) =
    line_and_more change (service_after service change) (λ after. change_lines after changes)

-- the line with the number of changes of a route
abbrev pub route_head : List Change → List ℕ
route_head changes = line (codes "CMS " ++ decimal (length changes))

-- the text of the route: the number of its changes, and their lines
unfoldable pub route_text : List ℕ → List ℕ → List ℕ
route_text from to = route_head (route_of from to) ++ change_lines (service_of from) (route_of from to)

-- ---- the nodes that join

-- whether a node may join the members: it is registered, and JOINED
abbrev pub is_joined : Option NodeState → Bool
is_joined (Some Joined) = true
is_joined _ = false

-- the first of some nodes that isn't JOINED
abbrev pub first_unjoined : Image → List ℕ → Option ℕ
first_unjoined image ns = find (λ n. not (is_joined (node_state image n))) ns

-- why a node that isn't JOINED doesn't join the members: it isn't registered, or it is in this state
abbrev pub unjoined_text : ℕ → Option NodeState → List ℕ
unjoined_text n None = no_text (codes "NO-NODE " ++ decimal n)
unjoined_text n (Some state) = no_text (codes "NODE-STATE " ++ decimal n ++ codes " " ++ state_text state)

-- ---- the end

-- the end by the first node that isn't JOINED, or if there is none
abbrev pub route_unless : List ℕ → List ℕ → Image → Option ℕ → Ending
route_unless from to image None = record { status = 0; text = route_text from to }
route_unless from to image (Some n) = record { status = 7; text = unjoined_text n (node_state image n) }

-- of the nodes that join, each must be JOINED
abbrev pub route_in : List ℕ → List ℕ → Image → Ending
route_in from to image = route_unless from to image (first_unjoined image (without to from))

-- the end of `cms` in the last state of a log
abbrev pub log_route : List ℕ → List ℕ → List Entry → Ending
log_route from to log = route_in from to (state_after (commands_of log) (length log))

-- the end of `cms`
abbrev pub route_ending : List ℕ → List ℕ → List ℕ → (ℕ → Files) → Ending
route_ending name from to seen = looked_end name (log_route from to) seen
