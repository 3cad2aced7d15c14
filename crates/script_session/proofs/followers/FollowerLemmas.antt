-- The followers of a session, by their names.
use Rattle.std.proofs.Common.{◌≡◌, ℕ, suc, ◌+◌, ◌<◌, ◌≤◌, Bool, true, false, cond, not, ltb, if◌then◌else◌, List, [], ◌∷◌, ◌++◌, get_or, set, position, length, Some, None, refl, sym, ap, ◌∙◌, subst, arith}
use Rattle.std.specs.List.{position_or_len}
use Rattle.std.specs.Str.{bytes_eq}
use Rattle.std.proofs.lemmas.Bool.{ltb-false, ltb-true}
use Rattle.std.proofs.lemmas.Slice.Eq.{bytes_eq-Decides}
use Rattle.std.proofs.lemmas.Option.{none-some}
use Rattle.transformations.proofs.lists.ListLemmas.{all_append, all_found, all_weaker}
use Rattle.transformations.specs.declared.entry.Entry.{Entry}
use Rattle.follower_log.specs.Follower.{FollowerState}
use Rattle.follower_log.proofs.GrowthLemmas.{stands_on}
use Rattle.script_session.specs.Machine.{follower_named, with_follower}
use Rattle.script_session.specs.StepEnds.{FollowsLog}
use Rattle.script_session.specs.code.StepParts.{AllFollow}
use Rattle.script_session.specs.declared.session.followers.NamedFollower.{NamedFollower}

-- ---- by place

abbrev pub named : List ℕ → NamedFollower → Bool
named name f = bytes_eq f.name name

abbrev place_in : List ℕ → List NamedFollower → ℕ
place_in name fs = position_or_len (named name) fs

-- the follower with a name, at its place
pub record Placed (name : List ℕ) (fs : List NamedFollower) (at : ℕ) : Type 0 where
  pub within : at < length fs
  pub found : (d : NamedFollower) → follower_named fs name ≡ Some (get_or fs at d)
  pub moved : (d : NamedFollower) (x : FollowerState) → set fs at (record (get_or fs at d) { follower = x }) ≡ with_follower fs name x

found_in : (name : List ℕ) (fs : List NamedFollower) (d : NamedFollower) → place_in name fs < length fs → follower_named fs name ≡ Some (get_or fs (place_in name fs) d)
found_in name [] d within = absurd (omega (arith, within))
found_in name (f ∷ fs) d within = by (named name f) refl (found_in name fs d)
  where
    by : (b : Bool) → named name f ≡ b → (place_in name fs < length fs → follower_named fs name ≡ Some (get_or fs (place_in name fs) d))
        → cond b (Some f) (follower_named fs name) ≡ Some (get_or (f ∷ fs) (cond (not b) (1 + place_in name fs) 0) d)
    by true e later = refl
    by false e later =
        let next : 1 + place_in name fs ≡ suc (place_in name fs) = omega arith in
        later (omega (arith, within, ap (λ t. cond (not t) (1 + place_in name fs) 0) e)) ∙ ap (λ n. Some (get_or (f ∷ fs) n d)) (sym next)

moved_in : (name : List ℕ) (fs : List NamedFollower) (d : NamedFollower) (x : FollowerState) → place_in name fs < length fs
    → set fs (place_in name fs) (record (get_or fs (place_in name fs) d) { follower = x }) ≡ with_follower fs name x
moved_in name [] d x within = absurd (omega (arith, within))
moved_in name (f ∷ fs) d x within = by (named name f) refl (moved_in name fs d x)
  where
    by : (b : Bool) → named name f ≡ b → (place_in name fs < length fs → set fs (place_in name fs) (record (get_or fs (place_in name fs) d) { follower = x }) ≡ with_follower fs name x)
        → set (f ∷ fs) (cond (not b) (1 + place_in name fs) 0) (record (get_or (f ∷ fs) (cond (not b) (1 + place_in name fs) 0) d) { follower = x })
        ≡ (if b then record f { follower = x } ∷ fs else f ∷ with_follower fs name x)
    by true e later = refl
    by false e later =
        let next : 1 + place_in name fs ≡ suc (place_in name fs) = omega arith in
        ap (λ n. set (f ∷ fs) n (record (get_or (f ∷ fs) n d) { follower = x })) next
        ∙ ap (λ l. f ∷ l) (later (omega (arith, within, ap (λ t. cond (not t) (1 + place_in name fs) 0) e)))

pub placed : (name : List ℕ) (fs : List NamedFollower) (at : ℕ) → position (named name) fs ≡ Some at → Placed name fs at
placed name fs at e = by (ltb (place_in name fs) (length fs)) refl e
  where
    by : (b : Bool) → ltb (place_in name fs) (length fs) ≡ b → cond b (Some (place_in name fs)) None ≡ Some at → Placed name fs at
    by true less e =
        let within : place_in name fs < length fs = omega (arith, ltb-true (place_in name fs) (length fs) less) in
        let same : place_in name fs ≡ at = cc in
        subst (Placed name fs) same (record { within = within; found = λ d. found_in name fs d within; moved = λ d x. moved_in name fs d x within })
    by false less e = absurd (none-some at e)

none_in : (name : List ℕ) (fs : List NamedFollower) → length fs ≤ place_in name fs → follower_named fs name ≡ None
none_in name [] past = refl
none_in name (f ∷ fs) past = by (named name f) refl (none_in name fs)
  where
    by : (b : Bool) → named name f ≡ b → (length fs ≤ place_in name fs → follower_named fs name ≡ None) → cond b (Some f) (follower_named fs name) ≡ None
    by true e later = absurd (omega (arith, past, ap (λ t. cond (not t) (1 + place_in name fs) 0) e))
    by false e later = later (omega (arith, past, ap (λ t. cond (not t) (1 + place_in name fs) 0) e))

pub unplaced : (name : List ℕ) (fs : List NamedFollower) → position (named name) fs ≡ None → follower_named fs name ≡ None
unplaced name fs e = by (ltb (place_in name fs) (length fs)) refl e
  where
    by : (b : Bool) → ltb (place_in name fs) (length fs) ≡ b → cond b (Some (place_in name fs)) None ≡ None → follower_named fs name ≡ None
    by true less e = absurd (none-some (place_in name fs) (sym e))
    by false less e = none_in name fs (ltb-false (place_in name fs) (length fs) less)

-- ---- by name

pub same_bytes : (a b : List ℕ) → bytes_eq a b ≡ true → a ≡ b
same_bytes a b is = (bytes_eq-Decides a b).0 is

pub named_name : (fs : List NamedFollower) (name : List ℕ) (f : NamedFollower) → follower_named fs name ≡ Some f → f.name ≡ name
named_name [] name f e = absurd (none-some f e)
named_name (g ∷ fs) name f e = by (named name g) refl e (named_name fs name f)
  where
    by : (b : Bool) → named name g ≡ b → cond b (Some g) (follower_named fs name) ≡ Some f → (follower_named fs name ≡ Some f → f.name ≡ name) → f.name ≡ name
    by true is e later = (let same : g ≡ f = cc in ap (λ (x : NamedFollower). x.name) (sym same) ∙ same_bytes g.name name is)
    by false is e later = later e

pub with_named : (fs : List NamedFollower) (name : List ℕ) (f : NamedFollower) (x : FollowerState) → follower_named fs name ≡ Some f
    → follower_named (with_follower fs name x) name ≡ Some (record f { follower = x })
with_named [] name f x e = absurd (none-some f e)
with_named (g ∷ fs) name f x e = by (named name g) refl e (with_named fs name f x)
  where
    by : (b : Bool) → named name g ≡ b → cond b (Some g) (follower_named fs name) ≡ Some f
        → (follower_named fs name ≡ Some f → follower_named (with_follower fs name x) name ≡ Some (record f { follower = x }))
        → follower_named (if b then record g { follower = x } ∷ fs else g ∷ with_follower fs name x) name ≡ Some (record f { follower = x })
    by true is e later = (let same : g ≡ f = cc in ap (λ t. cond t (Some (record g { follower = x })) (follower_named fs name)) is ∙ ap (λ (h : NamedFollower). Some (record h { follower = x })) same)
    by false is e later = ap (λ t. cond t (Some g) (follower_named (with_follower fs name x) name)) is ∙ later e

-- other followers are found as before
pub other_with : (fs : List NamedFollower) (to name : List ℕ) (after : FollowerState) → bytes_eq to name ≡ false → follower_named (with_follower fs to after) name ≡ follower_named fs name
other_with [] to name after other = refl
other_with (g ∷ fs) to name after other = by (other_with fs to name after other) (named to g) refl
  where
    by : follower_named (with_follower fs to after) name ≡ follower_named fs name → (b : Bool) → named to g ≡ b
        → follower_named (if b then record g { follower = after } ∷ fs else g ∷ with_follower fs to after) name ≡ (if bytes_eq g.name name then Some g else follower_named fs name)
    by later true is =
        let apart : bytes_eq g.name name ≡ false = subst (λ n. bytes_eq n name ≡ false) (sym (same_bytes g.name to is)) other in
        rw apart refl
    by later false is = ap (λ o. if bytes_eq g.name name then Some g else o) later

-- a follower that stays where it is
pub with_itself : (fs : List NamedFollower) (name : List ℕ) (f : NamedFollower) → follower_named fs name ≡ Some f → with_follower fs name f.follower ≡ fs
with_itself [] name f e = refl
with_itself (g ∷ fs) name f e = by (named name g) refl e (with_itself fs name f)
  where
    by : (b : Bool) → named name g ≡ b → cond b (Some g) (follower_named fs name) ≡ Some f → (follower_named fs name ≡ Some f → with_follower fs name f.follower ≡ fs)
        → (if b then record g { follower = f.follower } ∷ fs else g ∷ with_follower fs name f.follower) ≡ g ∷ fs
    by true is e later = (let same : g ≡ f = cc in ap (λ (h : NamedFollower). record g { follower = h.follower } ∷ fs) (sym same))
    by false is e later = ap (λ l. g ∷ l) (later e)

-- ---- they follow the log

pub named_follows : (log : List Entry) (fs : List NamedFollower) (name : List ℕ) (f : NamedFollower) → AllFollow log fs → follower_named fs name ≡ Some f → FollowsLog log f.follower
named_follows log fs name f all found = all_found (λ (f : NamedFollower). FollowsLog log f.follower) (named name) fs f found all

-- it isn't past the log
pub named_within : (log : List Entry) (fs : List NamedFollower) (name : List ℕ) (f : NamedFollower) (epoch : ℕ) → AllFollow log fs → follower_named fs name ≡ Some f → epoch ≡ f.follower.image.epoch → epoch ≤ length log
named_within log fs name f epoch all found is = omega (arith, is, (named_follows log fs name f all found).stands.within)

pub all_follow_with : (log : List Entry) (fs : List NamedFollower) (name : List ℕ) (x : FollowerState) → AllFollow log fs → FollowsLog log x → AllFollow log (with_follower fs name x)
all_follow_with log [] name x all follows = tt
all_follow_with log (f ∷ fs) name x all follows = by (named name f) (all_follow_with log fs name x all.1 follows)
  where
    by : (b : Bool) → AllFollow log (with_follower fs name x) → AllFollow log (if b then record f { follower = x } ∷ fs else f ∷ with_follower fs name x)
    by true later = (follows, all.1)
    by false later = (all.0, later)

pub all_follow_on : (log : List Entry) (entry : Entry) (fs : List NamedFollower) → entry.epoch ≡ length log + 1 → AllFollow log fs → AllFollow (log ++ entry ∷ []) fs
all_follow_on log entry fs next all =
    all_weaker (λ (f : NamedFollower). FollowsLog log f.follower) (λ (f : NamedFollower). FollowsLog (log ++ entry ∷ []) f.follower)
    (λ f follows. record { taken = follows.taken; stands = stands_on log entry follows.taken f.follower next follows.stands }) fs all

pub all_follow_pushed : (log : List Entry) (fs : List NamedFollower) (f : NamedFollower) → AllFollow log fs → FollowsLog log f.follower → AllFollow log (fs ++ f ∷ [])
all_follow_pushed log fs f all follows = all_append (λ (f : NamedFollower). FollowsLog log f.follower) fs (f ∷ []) all (follows, tt)
