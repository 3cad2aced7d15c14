-- What a list of changes makes of the members.
use Rattle.std.specs.Prelude.{◌≡◌, ℕ, ◌≤◌, ⊤, List, [], ◌∷◌, length, Option, Some, option_and_then, IfSome}
use Rattle.cms_members.specs.Majority.{MajoritiesMeet}
use Rattle.cms_members.specs.Service.{Service, service_after, service_of}
use Rattle.cms_members.specs.declared.change.Change.{Change}

-- the service after a list of changes, or none if one of them is refused
abbrev pub service_after_all : Service → List Change → Option Service
service_after_all s [] = Some s
service_after_all s (c ∷ cs) = option_and_then (λ t. service_after_all t cs) (service_after s c)

-- all these changes are accepted, and lead from one set of members to another
abbrev pub Arrives : List ℕ → List Change → List ℕ → Type 0
Arrives from changes to = service_after_all (service_of from) changes ≡ Some (service_of to)

-- at each change, up to the first that is refused, the majorities of the voting members before and after it meet
abbrev pub AllMeet : Service → List Change → Type 0
AllMeet s [] = ⊤
AllMeet s (c ∷ cs) = IfSome (service_after s c) (λ t. MajoritiesMeet s.voting t.voting × AllMeet t cs)

-- there are at least so many voting members, from the start up to the first change that is refused
abbrev pub NeverFewer : ℕ → Service → List Change → Type 0
NeverFewer least s [] = least ≤ length s.voting
NeverFewer least s (c ∷ cs) = (least ≤ length s.voting) × IfSome (service_after s c) (λ t. NeverFewer least t cs)

-- no list of accepted changes from one set of members to another is shorter than this one
abbrev pub IsShortest : List ℕ → List Change → List ℕ → Type 0
IsShortest from changes to = (others : List Change) → Arrives from others to → length changes ≤ length others
