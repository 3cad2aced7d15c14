-- Lists with some items left out or put in: what holds of them still.
use Rattle.std.proofs.Common.{◌≡◌, ◌+◌, ◌≤◌, Bool, true, false, not, cond, ◌||◌, List, [], ◌∷◌, ◌++◌, map, filter, flat_map, find, length, Some, None, refl, sym, subst, ap, arith}
use Rattle.std.proofs.lemmas.List.Sorted.{IsPermutation-append_comm, IsPermutation-append_left, IsPermutation-cons, IsPermutation-refl, IsPermutation-trans}
use Rattle.std.proofs.lemmas.Map.Keys.{IsDistinct-head, IsDistinct-tail}
use Rattle.std.proofs.lemmas.Option.{none-some}
use Rattle.std.specs.List.{AllByRecursion, IsDistinct, list_any}
use Rattle.std.specs.List.Sorted.{IsPermutation, IsStrictlySortedBy}
use Rattle.std.specs.Ordering.{eq_by_cmp, match_ordering}
use Rattle.std.specs.declared.cmp.Ordering.{Ordering}
use Rattle.std.specs.declared.cmp.Ordering.TheVariants.{Less, Equal, Greater}
use Rattle.std.proofs.Common.{append_assoc}
use Rattle.std.proofs.lemmas.Bool.{false≢true, or_left as or_true_left, or_right as or_true_right}
use Rattle.std.specs.Set.{is_member}
use Rattle.cluster_terms.proofs.lists.AscendingLemmas.{All-put_all}
use Rattle.cluster_terms.proofs.placement.GroupLemmas.{or_elim}
use Rattle.cluster_terms.proofs.lists.PutPermutes.{put_permutes}
use Rattle.cluster_terms.specs.Ascending.{put, put_all}
use Rattle.cluster_terms.specs.Pair.{has_pair, without_pairs}
use Rattle.cluster_terms.specs.declared.token.Pair.{Pair}

-- ---- what holds of each item

pub all_weaker : {X : Type 0} (P Q : X → Type 0) → ((x : X) → P x → Q x) → (xs : List X) → AllByRecursion P xs → AllByRecursion Q xs
all_weaker P Q step [] all = tt
all_weaker P Q step (x ∷ xs) all = (step x all.0, all_weaker P Q step xs all.1)

-- the same from two facts
pub all_both : {X : Type 0} (P Q R : X → Type 0) → ((x : X) → P x → Q x → R x) → (xs : List X) → AllByRecursion P xs → AllByRecursion Q xs → AllByRecursion R xs
all_both P Q R step [] all more = tt
all_both P Q R step (x ∷ xs) all more = (step x all.0 more.0, all_both P Q R step xs all.1 more.1)

pub all_append : {X : Type 0} (P : X → Type 0) (xs ys : List X) → AllByRecursion P xs → AllByRecursion P ys → AllByRecursion P (xs ++ ys)
all_append P [] ys all more = more
all_append P (x ∷ xs) ys all more = (all.0, all_append P xs ys all.1 more)

pub all_map : {X Y : Type 0} (P : Y → Type 0) (f : X → Y) (xs : List X) → AllByRecursion (λ x. P (f x)) xs → AllByRecursion P (map f xs)
all_map P f [] all = tt
all_map P f (x ∷ xs) all = (all.0, all_map P f xs all.1)

pub all_from_map : {X Y : Type 0} (P : Y → Type 0) (f : X → Y) (xs : List X) → AllByRecursion P (map f xs) → AllByRecursion (λ x. P (f x)) xs
all_from_map P f [] all = tt
all_from_map P f (x ∷ xs) all = (all.0, all_from_map P f xs all.1)

pub all_flat_map : {X Y : Type 0} (P : Y → Type 0) (f : X → List Y) (xs : List X) → AllByRecursion (λ x. AllByRecursion P (f x)) xs → AllByRecursion P (flat_map f xs)
all_flat_map P f [] all = tt
all_flat_map P f (x ∷ xs) all = all_append P (f x) (flat_map f xs) all.0 (all_flat_map P f xs all.1)

pub all_each : {X : Type 0} (P : X → Type 0) → ((x : X) → P x) → (xs : List X) → AllByRecursion P xs
all_each P each [] = tt
all_each P each (x ∷ xs) = (each x, all_each P each xs)

pub all_pi : {X Y : Type 0} (P : Y → X → Type 0) (xs : List X) → ((y : Y) → AllByRecursion (P y) xs) → AllByRecursion (λ x. (y : Y) → P y x) xs
all_pi P [] each = tt
all_pi P (x ∷ xs) each = (λ y. (each y).0, all_pi P xs (λ y. (each y).1))

pub all_none : {X : Type 0} (P : X → Type 0) (xs : List X) → xs ≡ [] → AllByRecursion P xs
all_none P xs none = subst (λ l. AllByRecursion P l) (sym none) tt

-- those that pass a test
pub all_filter : {X : Type 0} (p : X → Bool) (P : X → Type 0) (xs : List X) → AllByRecursion (λ x. p x ≡ true → P x) xs → AllByRecursion P (filter p xs)
all_filter p P [] all = tt
all_filter p P (x ∷ xs) all = by (p x) refl (all_filter p P xs all.1)
  where
    by : (b : Bool) → p x ≡ b → AllByRecursion P (filter p xs) → AllByRecursion P (cond b (x ∷ filter p xs) (filter p xs))
    by true e rest = (all.0 e, rest)
    by false e rest = rest

-- both parts of a test

-- no item passes a test
or_left : (a b : Bool) → (a || b) ≡ false → a ≡ false
or_left a b h = grind arith

or_right : (a b : Bool) → (a || b) ≡ false → b ≡ false
or_right a b h = grind arith

pub all_false : {X : Type 0} (p : X → Bool) (xs : List X) → list_any p xs ≡ false → AllByRecursion (λ x. p x ≡ false) xs
all_false p [] h = tt
all_false p (x ∷ xs) h = (or_left (p x) (list_any p xs) h, all_false p xs (or_right (p x) (list_any p xs) h))

pub any_false : {X : Type 0} (p : X → Bool) (xs : List X) → AllByRecursion (λ x. p x ≡ false) xs → list_any p xs ≡ false
any_false p [] all = refl
any_false p (x ∷ xs) all = rw all.0 (any_false p xs all.1)

-- an item passes, and something holds of it
pub any_holds : {X : Type 0} (p : X → Bool) (P : X → Type 0) (R : Type 0) (xs : List X) → AllByRecursion P xs → ((x : X) → P x → p x ≡ true → R) → list_any p xs ≡ true → R
any_holds p P R [] all then there = absurd (false≢true there)
any_holds p P R (x ∷ xs) all then there = or_elim (p x) (list_any p xs) there (λ here. then x all.0 here) (λ more. any_holds p P R xs all.1 then more)

-- ---- what holds of each member

pub all_members : {X : Type 0} (e : X → X → Bool) (itself : (x : X) → e x x ≡ true) (P : X → Type 0) (xs : List X)
    → ((x : X) → is_member e xs x ≡ true → P x) → AllByRecursion P xs
all_members e itself P [] each = tt
all_members e itself P (x ∷ xs) each = (
  each x (or_true_left (e x x) (is_member e xs x) (itself x)),
  all_members e itself P xs (λ y there. each y (or_true_right (e y x) (is_member e xs y) there)),
)

pub member_holds : {X : Type 0} (e : X → X → Bool) (tells : (x y : X) → e x y ≡ true → x ≡ y) (P : X → Type 0) (xs : List X)
    → AllByRecursion P xs → (x : X) → is_member e xs x ≡ true → P x
member_holds e tells P [] all x there = absurd (false≢true there)
member_holds e tells P (y ∷ ys) all x there =
    or_elim (e x y) (is_member e ys x) there
    (λ same. subst P (sym (tells x y same)) all.0)
    (λ more. member_holds e tells P ys all.1 x more)

-- ---- what is found

pub found_passes : {X : Type 0} (p : X → Bool) (xs : List X) (x : X) → find p xs ≡ Some x → p x ≡ true
found_passes p [] x h = absurd (none-some x h)
found_passes p (y ∷ ys) x h = by (p y) refl (found_passes p ys x)
  where
    by : (b : Bool) → p y ≡ b → (find p ys ≡ Some x → p x ≡ true) → p x ≡ true
    by true e rest = let is : Some y ≡ Some x = rw e at h in let same : y ≡ x = cc in rw (← same) e
    by false e rest = rest (rw e at h)

pub all_found : {X : Type 0} (P : X → Type 0) (p : X → Bool) (xs : List X) (x : X) → find p xs ≡ Some x → AllByRecursion P xs → P x
all_found P p [] x h all = absurd (none-some x h)
all_found P p (y ∷ ys) x h all = by (p y) refl (λ found. all_found P p ys x found all.1)
  where
    by : (b : Bool) → p y ≡ b → (find p ys ≡ Some x → P x) → P x
    by true e rest = let is : Some y ≡ Some x = rw e at h in let same : y ≡ x = cc in rw (← same) all.0
    by false e rest = rest (rw e at h)

pub none_found : {X : Type 0} (p : X → Bool) (xs : List X) → find p xs ≡ None → AllByRecursion (λ x. p x ≡ false) xs
none_found p [] h = tt
none_found p (y ∷ ys) h = by (p y) refl (none_found p ys)
  where
    by : (b : Bool) → p y ≡ b → (find p ys ≡ None → AllByRecursion (λ x. p x ≡ false) ys) → (p y ≡ false) × AllByRecursion (λ x. p x ≡ false) ys
    by true e rest = let is : Some y ≡ None = rw e at h in absurd (none-some y (sym is))
    by false e rest = (e, rest (rw e at h))

pub find_none : {X : Type 0} (p : X → Bool) (xs : List X) → AllByRecursion (λ x. p x ≡ false) xs → find p xs ≡ None
find_none p [] all = refl
find_none p (x ∷ xs) all = rw all.0 (find_none p xs all.1)

-- ---- filters that keep all, or none

pub filter_all : {X : Type 0} (p : X → Bool) (xs : List X) → AllByRecursion (λ x. p x ≡ true) xs → filter p xs ≡ xs
filter_all p [] all = refl
filter_all p (x ∷ xs) all = rw all.0 (ap (λ l. x ∷ l) (filter_all p xs all.1))

pub filter_none : {X : Type 0} (p : X → Bool) (xs : List X) → AllByRecursion (λ x. p x ≡ false) xs → filter p xs ≡ []
filter_none p [] all = refl
filter_none p (x ∷ xs) all = rw all.0 (filter_none p xs all.1)

-- ---- lists of which some items are left

pub data IsPart {X : Type 0} : List X → List X → Type 0 where
  nothing : IsPart [] []
  kept : {x : X} {xs ys : List X} → IsPart xs ys → IsPart (x ∷ xs) (x ∷ ys)
  dropped : {y : X} {xs ys : List X} → IsPart xs ys → IsPart xs (y ∷ ys)

pub part_none : {X : Type 0} (ys : List X) → IsPart [] ys
part_none [] = nothing
part_none (y ∷ ys) = dropped (part_none ys)

pub part_all : {X : Type 0} (ys : List X) → IsPart ys ys
part_all [] = nothing
part_all (y ∷ ys) = kept (part_all ys)

pub part_filter : {X : Type 0} (p : X → Bool) (xs : List X) → IsPart (filter p xs) xs
part_filter p [] = nothing
part_filter p (x ∷ xs) = by (p x) (part_filter p xs)
  where
    by : (b : Bool) → IsPart (filter p xs) xs → IsPart (cond b (x ∷ filter p xs) (filter p xs)) (x ∷ xs)
    by true rest = kept rest
    by false rest = dropped rest

pub part_without_pairs : (ps gone : List Pair) → IsPart (without_pairs ps gone) ps
part_without_pairs ps gone = part_filter (λ p. not (has_pair gone p)) ps

pub part_map : {X Y : Type 0} (f : X → Y) {xs ys : List X} → IsPart xs ys → IsPart (map f xs) (map f ys)
part_map f nothing = nothing
part_map f (kept part) = kept (part_map f part)
part_map f (dropped part) = dropped (part_map f part)

pub part_append : {X : Type 0} {xs ys us vs : List X} → IsPart xs ys → IsPart us vs → IsPart (xs ++ us) (ys ++ vs)
part_append nothing more = more
part_append (kept part) more = kept (part_append part more)
part_append (dropped part) more = dropped (part_append part more)

pub part_trans : {X : Type 0} {xs ys zs : List X} → IsPart xs ys → IsPart ys zs → IsPart xs zs
part_trans part nothing = part
part_trans (kept part) (kept more) = kept (part_trans part more)
part_trans (dropped part) (kept more) = dropped (part_trans part more)
part_trans part (dropped more) = dropped (part_trans part more)

pub part_all_of : {X : Type 0} (P : X → Type 0) {xs ys : List X} → IsPart xs ys → AllByRecursion P ys → AllByRecursion P xs
part_all_of P nothing all = tt
part_all_of P (kept part) all = (all.0, part_all_of P part all.1)
part_all_of P (dropped part) all = part_all_of P part all.1

pub part_length : {X : Type 0} {xs ys : List X} → IsPart xs ys → length xs ≤ length ys
part_length nothing = omega arith
part_length (kept part) = let rest = part_length part in omega arith
part_length (dropped part) = let rest = part_length part in omega arith

pub part_distinct : {X : Type 0} (e : X → X → Bool) {xs ys : List X} → IsPart xs ys → IsDistinct e ys → IsDistinct e xs
unfolding IsDistinct
part_distinct e nothing d = d
part_distinct e (kept part) d = (part_all_of _ part d.0, part_distinct e part d.1)
part_distinct e (dropped part) d = part_distinct e part d.1

pub part_sorted : {X : Type 0} (r : X → X → Ordering) {xs ys : List X} → IsPart xs ys → IsStrictlySortedBy r ys → IsStrictlySortedBy r xs
unfolding IsStrictlySortedBy
part_sorted r nothing up = up
part_sorted r (kept part) up = (part_all_of _ part up.0, part_sorted r part up.1)
part_sorted r (dropped part) up = part_sorted r part up.1

-- what some of the items have
pub part_flat : {X Y : Type 0} (f : X → List Y) (p : X → Bool) (xs : List X) → IsPart (flat_map f (filter p xs)) (flat_map f xs)
part_flat f p [] = nothing
part_flat f p (x ∷ xs) = by (p x) (part_flat f p xs)
  where
    by : (b : Bool) → IsPart (flat_map f (filter p xs)) (flat_map f xs) → IsPart (flat_map f (cond b (x ∷ filter p xs) (filter p xs))) (f x ++ flat_map f xs)
    by true rest = part_append (part_all (f x)) rest
    by false rest = part_append (part_none (f x)) rest

pub part_any : {X : Type 0} (p : X → Bool) {xs ys : List X} → IsPart xs ys → list_any p xs ≡ true → list_any p ys ≡ true
part_any p nothing h = h
part_any p (kept {x} {xs} {ys} part) h = or_elim (p x) (list_any p xs) h (λ here. or_true_left (p x) (list_any p ys) here) (λ more. or_true_right (p x) (list_any p ys) (part_any p part more))
part_any p (dropped {y} {xs} {ys} part) h = or_true_right (p y) (list_any p ys) (part_any p part h)

pub part_front : {X : Type 0} (xs ys : List X) → IsPart xs (xs ++ ys)
part_front [] ys = part_none ys
part_front (x ∷ xs) ys = kept (part_front xs ys)

pub part_back : {X : Type 0} (xs ys : List X) → IsPart ys (xs ++ ys)
part_back [] ys = part_all ys
part_back (x ∷ xs) ys = dropped (part_back xs ys)

-- ---- distinct lists

pub distinct_append : {X : Type 0} (e : X → X → Bool) (xs ys : List X) → IsDistinct e xs → IsDistinct e ys → AllByRecursion (λ x. AllByRecursion (λ y. e x y ≡ false) ys) xs → IsDistinct e (xs ++ ys)
unfolding IsDistinct
distinct_append e [] ys d more apart = more
distinct_append e (x ∷ xs) ys d more apart = (all_append (λ y. e x y ≡ false) xs ys d.0 apart.0, distinct_append e xs ys d.1 more apart.1)

pub distinct_by : {X Y : Type 0} (e : Y → Y → Bool) (f : X → Y) (xs : List X) → IsDistinct e (map f xs) → IsDistinct (λ x y. e (f x) (f y)) xs
unfolding IsDistinct
distinct_by e f [] d = tt
distinct_by e f (x ∷ xs) d = (all_from_map (λ y. e (f x) y ≡ false) f xs d.0, distinct_by e f xs d.1)

-- ---- permutations

-- the first of three lists goes behind the second
pub exchanged : {X : Type 0} (xs ys zs : List X) → IsPermutation (xs ++ (ys ++ zs)) (ys ++ (xs ++ zs))
exchanged xs ys zs =
    let moved : IsPermutation ((xs ++ ys) ++ zs) ((ys ++ xs) ++ zs) = IsPermutation-append_left zs (xs ++ ys) (ys ++ xs) (IsPermutation-append_comm xs ys) in
    rw (← append_assoc xs ys zs, ← append_assoc ys xs zs) moved

-- items put into a list, of which none is equal to another
pub put_all_permutes : {X : Type 0} (r : X → X → Ordering) (xs ys : List X) → IsDistinct (eq_by_cmp r) (xs ++ ys) → IsPermutation (xs ++ ys) (put_all r xs ys)
put_all_permutes r [] ys d = IsPermutation-refl ys
put_all_permutes {X} r (x ∷ xs) ys d =
    let P : X → Type 0 = λ y. eq_by_cmp r x y ≡ false in
    let apart : AllByRecursion P (xs ++ ys) = IsDistinct-head (eq_by_cmp r) x (xs ++ ys) d in
    let rest = put_all_permutes r xs ys (IsDistinct-tail (eq_by_cmp r) x (xs ++ ys) d) in
    let all : AllByRecursion P (put_all r xs ys) = All-put_all r P xs ys (part_all_of P (part_front xs ys) apart) (part_all_of P (part_back xs ys) apart) in
    IsPermutation-trans (x ∷ (xs ++ ys)) (x ∷ put_all r xs ys) (put r x (put_all r xs ys))
    (IsPermutation-cons x (xs ++ ys) (put_all r xs ys) rest)
    (put_permutes r x (put_all r xs ys) all)

-- ---- how many items pass a test

pub length-filter_put : {X : Type 0} (r : X → X → Ordering) (p : X → Bool) (x : X) (ys : List X) → length (filter p (put r x ys)) ≤ length (filter p (x ∷ ys))
length-filter_put r p x [] = omega arith
length-filter_put r p x (y ∷ ys) = by (r x y) (p x) refl (p y) refl (length-filter_put r p x ys)
  where
    by : (o : Ordering) (b : Bool) → p x ≡ b → (c : Bool) → p y ≡ c → length (filter p (put r x ys)) ≤ length (filter p (x ∷ ys)) → length (filter p (match_ordering o (x ∷ (y ∷ ys)) (x ∷ ys) (y ∷ put r x ys))) ≤ length (filter p (x ∷ (y ∷ ys)))
    by Less b e c f rest = omega arith
    by Equal true e true f rest = rw (e, f) (omega arith)
    by Equal true e false f rest = rw (e, f) (omega arith)
    by Equal false e true f rest = rw (e, f) (omega arith)
    by Equal false e false f rest = rw (e, f) (omega arith)
    by Greater true e true f rest = (let step = rw e at rest in rw (e, f) (omega arith))
    by Greater true e false f rest = (let step = rw e at rest in rw (e, f) (omega arith))
    by Greater false e true f rest = (let step = rw e at rest in rw (e, f) (omega arith))
    by Greater false e false f rest = (let step = rw e at rest in rw (e, f) (omega arith))

pub length-filter_put_all : {X : Type 0} (r : X → X → Ordering) (p : X → Bool) (xs ys : List X) → length (filter p (put_all r xs ys)) ≤ length (filter p xs) + length (filter p ys)
length-filter_put_all r p [] ys = omega arith
length-filter_put_all r p (x ∷ xs) ys = by (p x) refl (length-filter_put_all r p xs ys) (length-filter_put r p x (put_all r xs ys))
  where
    by : (b : Bool) → p x ≡ b → length (filter p (put_all r xs ys)) ≤ length (filter p xs) + length (filter p ys) → length (filter p (put r x (put_all r xs ys))) ≤ length (filter p (x ∷ put_all r xs ys)) → length (filter p (put r x (put_all r xs ys))) ≤ length (filter p (x ∷ xs)) + length (filter p ys)
    by true e rest here = (let step = rw e at here in rw e (omega arith))
    by false e rest here = (let step = rw e at here in rw e (omega arith))
