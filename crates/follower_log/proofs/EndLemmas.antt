-- A follower that lacks one entry of a log alone, the next one, comes to the end of the log with it.
use Rattle.std.proofs.Common.{◌≡◌, ℕ, ◌+◌, ◌<◌, ◌≤◌, Bool, true, false, ◌==◌, ◌&&◌, if◌then◌else◌, List, [], ◌∷◌, drop, length, is_none, nat_lt, nat_le, Option, None, Some, Ok, inl, inr, ◌⊎◌, true≢false, refl, sym, ap, ◌∙◌, subst, length-drop, arith}
use Rattle.std.proofs.Math.ListN.{drop_of_length-le}
use Rattle.std.proofs.lemmas.Bool.{and_parts, eqb-true}
use Rattle.std.proofs.lemmas.Bool.Decides.{nat_tests}
use Rattle.std.specs.List.{Contains}
use Rattle.cluster_terms.specs.Ascending.{put}
use Rattle.transformations.proofs.lists.ListLemmas.{all_each, filter_all, part_filter, part_length}
use Rattle.transformations.specs.History.{state_after}
use Rattle.transformations.specs.Log.{IsLog, are_numbered, commands_of}
use Rattle.transformations.specs.declared.entry.Entry.{Entry}
use Rattle.transformations.specs.declared.image.Image.{Image}
use Rattle.follower_log.proofs.AmongLemmas.{Place, among_no, among_yes, contains_drop, epoch_within, place_in, put_before}
use Rattle.follower_log.proofs.PrefixLemmas.{GoesOn, among, goes_on, log_follows, state_plus}
use Rattle.follower_log.proofs.ShowsLemmas.{epoch_of_state, next_waits, numbers_after, numbers_of}
use Rattle.follower_log.specs.Follower.{FollowerState, Handed, Performs, advanced, by_epoch, hand_above, hand_entry, lacks_only, stays, waiting_at}
use Rattle.follower_log.specs.Prefix.{StandsFor, Taken, has_entry}
use Rattle.follower_log.specs.declared.took.Took.TheVariants.{At, Full, Old}

-- ---- as many entries as there are

whole : (test : ℕ → Bool) (rest : List Entry) → length (among test rest) ≡ length rest → among test rest ≡ rest
whole test [] same = refl
whole test (first ∷ rest) same = by (whole test rest) (test first.epoch) refl
  where
    by : (length (among test rest) ≡ length rest → among test rest ≡ rest) → (b : Bool) → test first.epoch ≡ b → among test (first ∷ rest) ≡ first ∷ rest
    by others true is =
        let long = ap length (sym (among_yes test first rest is)) ∙ same in
        among_yes test first rest is ∙ ap (λ (l : List Entry). first ∷ l) (others (omega (arith, long)))
    by others false is =
        let long = ap length (sym (among_no test first rest is)) ∙ same in
        absurd (omega (arith, long, part_length (part_filter (λ (e : Entry). test e.epoch) rest)))

everything : (rest : List Entry) → among (λ _. true) rest ≡ rest
everything rest = filter_all (λ _. true) rest (all_each (λ _. true ≡ true) (λ _. refl) rest)

-- ---- the entry that is lacking, put among those that wait

none_there : (o : Option Entry) → is_none o ≡ true → o ≡ None
none_there None is = refl
none_there (Some entry) is = absurd (true≢false (sym is))

module _ (log : List Entry) (taken : Taken) (f : FollowerState) (entry : Entry) (is : IsLog log) (there : Contains log entry) (stands : StandsFor log taken f)
    (lacks : lacks_only f entry.epoch (length log) ≡ true) where
  abbrev k : ℕ
  k = f.image.epoch

  parts : ((entry.epoch == k + 1) ≡ true) × ((is_none (waiting_at f.waiting entry.epoch) && (entry.epoch + length f.waiting == length log)) ≡ true)
  parts = and_parts (entry.epoch == k + 1) (is_none (waiting_at f.waiting entry.epoch) && (entry.epoch + length f.waiting == length log)) lacks

  ends_so : (is_none (waiting_at f.waiting entry.epoch) ≡ true) × ((entry.epoch + length f.waiting == length log) ≡ true)
  ends_so = and_parts (is_none (waiting_at f.waiting entry.epoch)) (entry.epoch + length f.waiting == length log) parts.1

  epoch : entry.epoch ≡ k + 1
  epoch = eqb-true entry.epoch (k + 1) parts.0

  none : waiting_at f.waiting (k + 1) ≡ None
  none = ap (waiting_at f.waiting) (sym epoch) ∙ none_there (waiting_at f.waiting entry.epoch) ends_so.0

  count : k + 1 + length f.waiting ≡ length log
  count = omega (arith, epoch, eqb-true (entry.epoch + length f.waiting) (length log) ends_so.1)

  untaken : has_entry taken (k + 1) ≡ false
  untaken = (next_waits log taken f is stands).0 none

  put_whole : put by_epoch entry f.waiting ≡ drop k log
  put_whole = by (drop k log) refl
    where
      by : (rest : List Entry) → drop k log ≡ rest → put by_epoch entry f.waiting ≡ drop k log
      by [] end = absurd (omega (arith, count, length-drop k log, ap length end))
      by (first ∷ rest) more =
          let numbered : are_numbered (k + 1) (first ∷ rest) ≡ true = subst (λ l. are_numbered (k + 1) l ≡ true) more (numbers_after log k is stands.within) in
          let tests = and_parts (first.epoch == k + 1) (are_numbered (k + 1 + 1) rest) numbered in
          let at : first.epoch ≡ k + 1 = eqb-true first.epoch (k + 1) tests.0 in
          let in_rest : Contains (first ∷ rest) entry = subst (λ l. Contains l entry) more (contains_drop k 1 log entry (numbers_of log is) there (omega (arith, epoch))) in
          let waits : f.waiting ≡ among (has_entry taken) rest = stands.waiting ∙ ap (among (has_entry taken)) more ∙ among_no (has_entry taken) first rest (ap (has_entry taken) at ∙ untaken) in
          let long : length (among (has_entry taken) rest) ≡ length rest = omega (arith, ap length waits, count, length-drop k log, ap length more) in
          let low : entry.epoch < k + 1 + 1 = omega (arith, epoch) in
          ap (put by_epoch entry) waits ∙ put_before (has_entry taken) entry (k + 1 + 1) rest tests.1 low
          ∙ ap (λ (l : List Entry). entry ∷ l) (whole (has_entry taken) rest long)
          ∙ ap (λ (e : Entry). e ∷ rest) (same tests.1 (place_in entry first rest in_rest)) ∙ sym more
        where
          same : are_numbered (k + 1 + 1) rest ≡ true → Place entry first rest → entry ≡ first
          same numbers (inl it) = it
          same numbers (inr later) = (let low = (epoch_within (k + 1 + 1) rest entry numbers later).0 in absurd (omega (arith, low, epoch)))

  -- ---- the advance over all entries

  abbrev step : Handed
  step = advanced (state_after (commands_of log) k) (drop k log)

  abbrev ends : FollowerState
  ends = record { image = state_after (commands_of log) (length log); waiting = [] }

  goes : GoesOn (λ _. true) (state_after (commands_of log) k) (drop k log) step
  goes =
      subst (λ w. GoesOn (λ _. true) (state_after (commands_of log) k) (drop k log) (advanced (state_after (commands_of log) k) w)) (everything (drop k log))
      (goes_on (λ _. true) (state_after (commands_of log) k) (drop k log) (log_follows log k is))

  all : goes.ends.applied ≡ length (drop k log)
  all = by goes.stops
    where
      by : (true ≡ false) ⊎ (goes.ends.applied ≡ length (drop k log)) → goes.ends.applied ≡ length (drop k log)
      by (inl never) = absurd (true≢false never)
      by (inr ended) = ended

  to_end : k + goes.ends.applied ≡ length log
  to_end = omega (arith, all, length-drop k log, stands.within)

  image : step.after.image ≡ ends.image
  image = goes.ends.state ∙ state_plus log k goes.ends.applied ∙ ap (state_after (commands_of log)) to_end

  waiting : step.after.waiting ≡ []
  waiting = goes.ends.waiting ∙ ap (among (λ _. true)) (drop_of_length-le (drop k log) (omega (arith, all)))

  after : step.after ≡ ends
  after = λ i. record { image = image i; waiting = waiting i }

  answer : step.answer ≡ Ok (At (length log))
  answer = goes.answer ∙ ap (λ (e : ℕ). Ok (At e)) (ap (λ (i : Image). i.epoch) image ∙ epoch_of_state log (length log) (omega arith))

  -- ---- what is handed over comes to this advance

  handed : hand_entry f entry ≡ step
  handed =
      let above : nat_le entry.epoch k ≡ false = grind (arith, nat_tests, epoch) in
      let near : nat_lt (k + 1) entry.epoch ≡ false = grind (arith, nat_tests, epoch) in
      ap (λ b. if b then stays f (Ok (Old k)) else hand_above f entry (waiting_at f.waiting entry.epoch)) above
      ∙ ap (hand_above f entry) (ap (waiting_at f.waiting) epoch ∙ none)
      ∙ ap (λ b. if b && nat_le 1024 (length f.waiting) then stays f (Ok (Full k)) else advanced f.image (put by_epoch entry f.waiting)) near
      ∙ ap (advanced f.image) put_whole ∙ ap (λ i. advanced i (drop k log)) stands.image

  pub comes_to_end : (g : FollowerState) (last : Image) → last ≡ state_after (commands_of log) (length log) → g ≡ record { image = last; waiting = [] }
      → Performs f (hand_entry f entry) (Ok (At last.epoch)) g
  comes_to_end g last at is_end =
      let told : last.epoch ≡ length log = ap (λ (i : Image). i.epoch) at ∙ epoch_of_state log (length log) (omega arith) in
      let there : g ≡ ends = is_end ∙ ap (λ (i : Image). record { image = i; waiting = [] }) at in
      subst (λ s. Performs f s (Ok (At last.epoch)) g) (sym handed) (ap (λ (e : ℕ). Ok (At e)) told ∙ sym answer, there ∙ sym after)
