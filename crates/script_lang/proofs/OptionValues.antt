-- What holds of the value in an option.
use Rattle.std.proofs.Common.{◌≡◌, Bool, true, false, cond, if◌then◌else◌, List, [], ◌∷◌, Option, Some, None, option_map, option_and_then, refl}
use Rattle.std.specs.List.{AllByRecursion, find}
use Rattle.std.specs.Option.{IfSome}

pub mapped : {X Y : Type 0} (f : X → Y) (Q : Y → Type 0) (o : Option X) → IfSome o (λ x. Q (f x)) → IfSome (option_map f o) Q
mapped f Q None h = tt
mapped f Q (Some x) h = h

pub each_mapped : {X Y : Type 0} (f : X → Y) (Q : Y → Type 0) → ((x : X) → Q (f x)) → (o : Option X) → IfSome (option_map f o) Q
each_mapped f Q all None = tt
each_mapped f Q all (Some x) = all x

pub chained : {X Y : Type 0} (f : X → Option Y) (P : X → Type 0) (Q : Y → Type 0) → ((x : X) → P x → IfSome (f x) Q) → (o : Option X) → IfSome o P → IfSome (option_and_then f o) Q
chained f P Q all None h = tt
chained f P Q all (Some x) h = all x h

pub each_chained : {X Y : Type 0} (f : X → Option Y) (Q : Y → Type 0) → ((x : X) → IfSome (f x) Q) → (o : Option X) → IfSome (option_and_then f o) Q
each_chained f Q all None = tt
each_chained f Q all (Some x) = all x

pub either : {X : Type 0} (Q : X → Type 0) (b : Bool) (o p : Option X) → IfSome o Q → IfSome p Q → IfSome (if b then o else p) Q
either Q true o p h k = h
either Q false o p h k = k

pub where_true : {X : Type 0} (Q : X → Type 0) (b : Bool) (x : X) → (b ≡ true → Q x) → IfSome (if b then Some x else None) Q
where_true Q true x h = h refl
where_true Q false x h = tt

-- what holds of each item holds of the one that is found
pub each_found : {X Y : Type 0} (f : X → Y) (Q : Y → Type 0) (test : X → Bool) (xs : List X) → AllByRecursion (λ x. Q (f x)) xs → IfSome (option_map f (find test xs)) Q
each_found f Q test [] all = tt
each_found f Q test (x ∷ xs) all = by (test x) (each_found f Q test xs all.1)
  where
    by : (b : Bool) → IfSome (option_map f (find test xs)) Q → IfSome (option_map f (cond b (Some x) (find test xs))) Q
    by true found = all.0
    by false found = found
