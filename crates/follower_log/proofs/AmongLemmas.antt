-- An entry of a log among those whose epochs are tested.
use Rattle.std.proofs.Common.{◌≡◌, ℕ, zero, suc, ◌+◌, ◌<◌, ◌≤◌, Bool, true, false, ◌==◌, List, [], ◌∷◌, length, filter, drop, nat_lt, Option, Some, None, inl, inr, ◌⊎◌, refl, sym, ap, ◌∙◌, subst, eq-eqb, get_or, arith}
use Rattle.std.proofs.lemmas.Bool.{and_parts, eqb-true, ne_eqb}
use Rattle.std.proofs.lemmas.Bool.Decides.{nat_tests}
use Rattle.std.specs.Cmp.{nat_cmp_is}
use Rattle.std.specs.List.{AllByRecursion, Contains}
use Rattle.std.specs.Ordering.{nat_cmp}
use Rattle.std.specs.declared.cmp.Ordering.TheVariants.{Greater}
use Rattle.cluster_terms.specs.Ascending.{put}
use Rattle.transformations.proofs.lists.ListLemmas.{all_filter, all_weaker, filter_all, find_none}
use Rattle.transformations.specs.Log.{are_numbered}
use Rattle.transformations.specs.declared.entry.Entry.{Entry}
use Rattle.follower_log.proofs.EntriesByEpoch.{put_first}
use Rattle.follower_log.proofs.PrefixLemmas.{among, numbered_from}
use Rattle.follower_log.specs.Follower.{by_epoch, waiting_at}

-- ---- an entry among entries that are numbered

-- an entry is the first one, or among the others
abbrev pub Place : Entry → Entry → List Entry → Type 0
Place entry first rest = (entry ≡ first) ⊎ Contains rest entry

pub place_in : (entry first : Entry) (rest : List Entry) → Contains (first ∷ rest) entry → Place entry first rest
place_in entry first rest (k, within, is) = by k within is
  where
    by : (k : ℕ) → k < length (first ∷ rest) → get_or (first ∷ rest) k entry ≡ entry → Place entry first rest
    by zero within is = inl (sym is)
    by (suc k) within is = inr (k, omega (arith, within), is)

nowhere : (entry : Entry) → Contains [] entry → ⊥
nowhere entry (k, within, is) = omega (arith, within)

record IsNumbered (m : ℕ) (first : Entry) (rest : List Entry) : Type 0 where
  own : first.epoch ≡ m
  others : are_numbered (m + 1) rest ≡ true

numbered_first : (m : ℕ) (first : Entry) (rest : List Entry) → are_numbered m (first ∷ rest) ≡ true → IsNumbered m first rest
numbered_first m first rest all =
    let parts = and_parts (first.epoch == m) (are_numbered (m + 1) rest) all in
    record { own = eqb-true first.epoch m parts.0; others = parts.1 }

epoch_of_first : (m : ℕ) (entry first : Entry) (rest : List Entry) → IsNumbered m first rest → entry ≡ first → entry.epoch ≡ m
epoch_of_first m entry first rest is same = ap (λ (x : Entry). x.epoch) same ∙ is.own

-- its epoch is one of theirs
abbrev IsWithin : ℕ → List Entry → Entry → Type 0
IsWithin m rest entry = (m ≤ entry.epoch) × (entry.epoch < m + length rest)

pub epoch_within : (m : ℕ) (rest : List Entry) (entry : Entry) → are_numbered m rest ≡ true → Contains rest entry → IsWithin m rest entry
epoch_within m [] entry all in_it = absurd (nowhere entry in_it)
epoch_within m (first ∷ rest) entry all in_it =
    let is = numbered_first m first rest all in
    by is (epoch_within (m + 1) rest entry is.others) (place_in entry first rest in_it)
  where
    by : IsNumbered m first rest → (Contains rest entry → IsWithin (m + 1) rest entry) → Place entry first rest → IsWithin m (first ∷ rest) entry
    by is later (inl same) = (let e = epoch_of_first m entry first rest is same in (omega (arith, e), omega (arith, e)))
    by is later (inr in_rest) = (let all = later in_rest in (omega (arith, all.0), omega (arith, all.1)))

-- it is among those after an epoch below its own
pub contains_drop : (k m : ℕ) (rest : List Entry) (entry : Entry) → are_numbered m rest ≡ true → Contains rest entry → m + k ≤ entry.epoch → Contains (drop k rest) entry
contains_drop zero m rest entry all in_it up = in_it
contains_drop (suc k) m [] entry all in_it up = absurd (nowhere entry in_it)
contains_drop (suc k) m (first ∷ rest) entry all in_it up =
    let is = numbered_first m first rest all in
    by is (λ in_rest. contains_drop k (m + 1) rest entry is.others in_rest (omega (arith, up))) (place_in entry first rest in_it)
  where
    by : IsNumbered m first rest → (Contains rest entry → Contains (drop k rest) entry) → Place entry first rest → Contains (drop k rest) entry
    by is later (inl same) = (let e = epoch_of_first m entry first rest is same in absurd (omega (arith, e, up)))
    by is later (inr in_rest) = later in_rest

-- ---- the entries of some epochs

-- the first is among them or not, and the others are
pub among_yes : (test : ℕ → Bool) (first : Entry) (rest : List Entry) → test first.epoch ≡ true → among test (first ∷ rest) ≡ first ∷ among test rest
among_yes test first rest is = rw is refl

pub among_no : (test : ℕ → Bool) (first : Entry) (rest : List Entry) → test first.epoch ≡ false → among test (first ∷ rest) ≡ among test rest
among_no test first rest is = rw is refl

-- what holds of each entry from an epoch on holds of those among entries that are numbered from there
among_from : (test : ℕ → Bool) (m : ℕ) (rest : List Entry) → are_numbered m rest ≡ true → (P : Entry → Type 0) → ((e : Entry) → m ≤ e.epoch → P e) → AllByRecursion P (among test rest)
among_from test m rest all P holds = all_filter (λ (e : Entry). test e.epoch) P rest (all_weaker (λ (e : Entry). m ≤ e.epoch) (λ e. test e.epoch ≡ true → P e) (λ e up is. holds e up) rest (numbered_from m rest all))

-- two tests that agree from an epoch on find the same entries
pub among_alike : (test other : ℕ → Bool) (m : ℕ) (rest : List Entry) → are_numbered m rest ≡ true → ((e : ℕ) → m ≤ e → test e ≡ other e) → among test rest ≡ among other rest
among_alike test other m [] all alike = refl
among_alike test other m (first ∷ rest) all alike =
    let is = numbered_first m first rest all in
    let same : test first.epoch ≡ other first.epoch = alike first.epoch (omega (arith, is.own)) in
    by same (among_alike test other (m + 1) rest is.others (λ e up. alike e (omega (arith, up)))) (other first.epoch) refl
  where
    by : test first.epoch ≡ other first.epoch → among test rest ≡ among other rest → (b : Bool) → other first.epoch ≡ b → among test (first ∷ rest) ≡ among other (first ∷ rest)
    by same others true e = among_yes test first rest (same ∙ e) ∙ ap (λ l. first ∷ l) others ∙ sym (among_yes other first rest e)
    by same others false e = among_no test first rest (same ∙ e) ∙ others ∙ sym (among_no other first rest e)

-- the one of an epoch is found if its epoch is tested
abbrev pub found : Bool → Entry → Option Entry
found true entry = Some entry
found false entry = None

-- a search for an epoch passes an entry of another epoch
passes : (test : ℕ → Bool) (epoch : ℕ) (first : Entry) (rest : List Entry) → (epoch == first.epoch) ≡ false → waiting_at (among test (first ∷ rest)) epoch ≡ waiting_at (among test rest) epoch
passes test epoch first rest other = by (test first.epoch) refl
  where
    by : (b : Bool) → test first.epoch ≡ b → waiting_at (among test (first ∷ rest)) epoch ≡ waiting_at (among test rest) epoch
    by true e = rw (e, other) refl
    by false e = rw e refl

none_below : (test : ℕ → Bool) (epoch m : ℕ) (rest : List Entry) → are_numbered m rest ≡ true → epoch < m → waiting_at (among test rest) epoch ≡ None
none_below test epoch m rest all low = find_none (λ (e : Entry). epoch == e.epoch) (among test rest) (among_from test m rest all (λ e. (epoch == e.epoch) ≡ false) (λ e up. ne_eqb epoch e.epoch (λ same. omega (arith, same, low, up))))

pub found_among : (test : ℕ → Bool) (m : ℕ) (rest : List Entry) (entry : Entry) → are_numbered m rest ≡ true → Contains rest entry → waiting_at (among test rest) entry.epoch ≡ found (test entry.epoch) entry
found_among test m [] entry all in_it = absurd (nowhere entry in_it)
found_among test m (first ∷ rest) entry all in_it =
    let is = numbered_first m first rest all in
    by is (found_among test (m + 1) rest entry is.others) (place_in entry first rest in_it)
  where
    here : IsNumbered m first rest → (b : Bool) → test first.epoch ≡ b → waiting_at (among test (first ∷ rest)) first.epoch ≡ found (test first.epoch) first
    here is true e = rw (e, eq-eqb first.epoch first.epoch refl) refl
    here is false e = rw e (none_below test first.epoch (m + 1) rest is.others (omega (arith, is.own)))

    by : IsNumbered m first rest → (Contains rest entry → waiting_at (among test rest) entry.epoch ≡ found (test entry.epoch) entry) → Place entry first rest
        → waiting_at (among test (first ∷ rest)) entry.epoch ≡ found (test entry.epoch) entry
    by is later (inl same) = subst (λ (x : Entry). waiting_at (among test (first ∷ rest)) x.epoch ≡ found (test x.epoch) x) (sym same) (here is (test first.epoch) refl)
    by is later (inr in_rest) =
        let low = (epoch_within (m + 1) rest entry is.others in_rest).0 in
        passes test entry.epoch first rest (ne_eqb entry.epoch first.epoch (λ same. omega (arith, same, is.own, low))) ∙ later in_rest

-- an entry that is put among them is one more epoch that is tested
pub put_before : (test : ℕ → Bool) (entry : Entry) (m : ℕ) (rest : List Entry) → are_numbered m rest ≡ true → entry.epoch < m → put by_epoch entry (among test rest) ≡ entry ∷ among test rest
put_before test entry m rest all low = put_first entry (among test rest) (among_from test m rest all (λ e. entry.epoch < e.epoch) (λ e up. omega (arith, low, up)))

pub record OneMore (test more : ℕ → Bool) (epoch : ℕ) : Type 0 where
  pub has : more epoch ≡ true
  pub keeps : (e : ℕ) → (e == epoch) ≡ false → more e ≡ test e

pub put_among : (test more : ℕ → Bool) (m : ℕ) (rest : List Entry) (entry : Entry) → are_numbered m rest ≡ true → Contains rest entry → OneMore test more entry.epoch → test entry.epoch ≡ false
    → put by_epoch entry (among test rest) ≡ among more rest
put_among test more m [] entry all in_it one new = absurd (nowhere entry in_it)
put_among test more m (first ∷ rest) entry all in_it one new =
    let is = numbered_first m first rest all in
    by is (λ in_rest. put_among test more (m + 1) rest entry is.others in_rest one new) (place_in entry first rest in_it)
  where
    skip : put by_epoch entry (among test rest) ≡ among more rest → nat_cmp entry.epoch first.epoch ≡ Greater → more first.epoch ≡ test first.epoch → (b : Bool) → test first.epoch ≡ b
        → put by_epoch entry (among test (first ∷ rest)) ≡ among more (first ∷ rest)
    skip others greater kept true e =
        ap (put by_epoch entry) (among_yes test first rest e)
        ∙ (rw greater (ap (λ l. first ∷ l) others)) ∙ sym (among_yes more first rest (kept ∙ e))
    skip others greater kept false e = ap (put by_epoch entry) (among_no test first rest e) ∙ others ∙ sym (among_no more first rest (kept ∙ e))

    by : IsNumbered m first rest → (Contains rest entry → put by_epoch entry (among test rest) ≡ among more rest) → Place entry first rest → put by_epoch entry (among test (first ∷ rest)) ≡ among more (first ∷ rest)
    by is later (inl same) =
        let epoch : entry.epoch ≡ first.epoch = ap (λ (x : Entry). x.epoch) same in
        let own : first.epoch ≡ m = is.own in
        let others : among more rest ≡ among test rest = among_alike more test (m + 1) rest is.others (λ e up. one.keeps e (ne_eqb e entry.epoch (λ at. omega (arith, at, epoch, own, up)))) in
        ap (put by_epoch entry) (among_no test first rest (ap test (sym epoch) ∙ new))
        ∙ put_before test entry (m + 1) rest is.others (omega (arith, epoch, own))
        ∙ ap (λ x. x ∷ among test rest) same ∙ ap (λ l. first ∷ l) (sym others) ∙ sym (among_yes more first rest (ap more (sym epoch) ∙ one.has))
    by is later (inr in_rest) =
        let above = (epoch_within (m + 1) rest entry is.others in_rest).0 in
        let own : first.epoch ≡ m = is.own in
        let kept = one.keeps first.epoch (ne_eqb first.epoch entry.epoch (λ at. omega (arith, at, own, above))) in
        skip (later in_rest) (sym (nat_cmp_is entry.epoch first.epoch Greater (omega (arith, own, above)))) kept (test first.epoch) refl

-- those above an epoch
abbrev above : ℕ → List Entry → List Entry
above b rest = filter (λ (e : Entry). nat_lt b e.epoch) rest

none_dropped : (test : ℕ → Bool) (b m : ℕ) (rest : List Entry) → are_numbered m rest ≡ true → b < m → above b (among test rest) ≡ among test rest
none_dropped test b m rest all low = filter_all (λ (e : Entry). nat_lt b e.epoch) (among test rest) (among_from test m rest all (λ e. nat_lt b e.epoch ≡ true) (λ e up. grind (arith, nat_tests, low, up)))

pub filter_above : (test : ℕ → Bool) (n b m : ℕ) (rest : List Entry) → are_numbered m rest ≡ true → b + 1 ≡ m + n → above b (among test rest) ≡ among test (drop n rest)
filter_above test zero b m rest all at = none_dropped test b m rest all (omega (arith, at))
filter_above test (suc n) b m [] all at = refl
filter_above test (suc n) b m (first ∷ rest) all at =
    let is = numbered_first m first rest all in
    let own : first.epoch ≡ m = is.own in
    by (filter_above test n b (m + 1) rest is.others (omega (arith, at))) (grind (arith, nat_tests)) (test first.epoch) refl
  where
    by : above b (among test rest) ≡ among test (drop n rest) → nat_lt b first.epoch ≡ false → (t : Bool) → test first.epoch ≡ t → above b (among test (first ∷ rest)) ≡ among test (drop n rest)
    by others low true e = rw (e, low) others
    by others low false e = rw e others
