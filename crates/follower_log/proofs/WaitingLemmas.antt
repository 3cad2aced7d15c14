-- The map of the entries that wait: how an entry is found in it, put in, and dropped.
use Rattle.std.proofs.Common.{◌≡◌, ℕ, suc, ◌<◌, Bool, true, false, ◌==◌, if◌then◌else◌, List, [], ◌∷◌, filter, length, Option, Some, None, nat_lt, true≢false, refl, sym, ap, ◌∙◌, subst, arith}
use Rattle.std.proofs.lemmas.Bool.Decides.{nat_tests}
use Rattle.std.proofs.lemmas.Option.{none-some}
use Rattle.std.specs.BTreeMap.{insert_entry, is_at}
use Rattle.std.specs.BTreeMap.Range.{IsLtBy}
use Rattle.std.specs.List.{All, AllByRecursion, slice_get}
use Rattle.std.specs.Option.{IfSome, IsSome}
use Rattle.std.specs.Map.{keys_of, lookup, values_of}
use Rattle.std.specs.Ordering.{match_ordering, nat_cmp}
use Rattle.std.specs.declared.cmp.Ordering.{Ordering}
use Rattle.std.specs.declared.cmp.Ordering.TheVariants.{Less, Equal, Greater}
use Rattle.cluster_terms.specs.Ascending.{put}
use Rattle.transformations.specs.declared.entry.Entry.{Entry}
use Rattle.follower_log.specs.Follower.{by_epoch, waiting_at}
use Rattle.follower_log.specs.code.WaitingEntries.{AreAbove, AreKeyed, first_entry}

-- a look-up finds the entry of the epoch
pub found : (epoch : ℕ) (pairs : List (ℕ × Entry)) → AreKeyed pairs → lookup (is_at (nat_cmp epoch)) pairs ≡ waiting_at (values_of pairs) epoch
found epoch [] keyed = refl
found epoch (pair ∷ pairs) keyed =
    let own : pair.0 ≡ pair.1.epoch = keyed.0 in
    let same : is_at (nat_cmp epoch) pair.0 ≡ (epoch == pair.1.epoch) = grind (arith, nat_tests, own) in
    rw (same, found epoch pairs keyed.1) refl

-- an entry is put at its epoch
pub put_there : (entry : Entry) (pairs : List (ℕ × Entry)) → AreKeyed pairs → values_of (insert_entry nat_cmp pairs entry.epoch entry) ≡ put by_epoch entry (values_of pairs)
put_there entry [] keyed = refl
put_there entry (pair ∷ pairs) keyed =
    by (nat_cmp entry.epoch pair.0) (put_there entry pairs keyed.1) ∙ ap (λ e. match_ordering (nat_cmp entry.epoch e) (entry ∷ values_of (pair ∷ pairs)) (entry ∷ values_of pairs) (pair.1 ∷ put by_epoch entry (values_of pairs))) keyed.0
  where
    by : (o : Ordering) → values_of (insert_entry nat_cmp pairs entry.epoch entry) ≡ put by_epoch entry (values_of pairs) → values_of (match_ordering o ((entry.epoch, entry) ∷ pair ∷ pairs) ((pair.0, entry) ∷ pairs) (pair ∷ insert_entry nat_cmp pairs entry.epoch entry))
        ≡ match_ordering o (entry ∷ values_of (pair ∷ pairs)) (entry ∷ values_of pairs) (pair.1 ∷ put by_epoch entry (values_of pairs))
    by Less others = refl
    by Equal others = refl
    by Greater others = ap (λ l. pair.1 ∷ l) others

pub keyed-put : (entry : Entry) (pairs : List (ℕ × Entry)) → AreKeyed pairs → AreKeyed (insert_entry nat_cmp pairs entry.epoch entry)
keyed-put entry [] keyed = (refl, tt)
keyed-put entry (pair ∷ pairs) keyed = by (nat_cmp entry.epoch pair.0) refl (keyed-put entry pairs keyed.1)
  where
    by : (o : Ordering) → nat_cmp entry.epoch pair.0 ≡ o → AreKeyed (insert_entry nat_cmp pairs entry.epoch entry) → AreKeyed (match_ordering o ((entry.epoch, entry) ∷ pair ∷ pairs) ((pair.0, entry) ∷ pairs) (pair ∷ insert_entry nat_cmp pairs entry.epoch entry))
    by Less is others = (refl, keyed)
    by Equal is others = (grind (arith, nat_tests, is), keyed.1)
    by Greater is others = (keyed.0, others)

-- entries whose epochs are above another one
pub above : (epoch : ℕ) (pairs : List (ℕ × Entry)) → AreKeyed pairs → All (IsLtBy nat_cmp epoch) (keys_of pairs) → AllByRecursion (λ (entry : Entry). epoch < entry.epoch) (values_of pairs)
above epoch [] keyed high = tt
above epoch (pair ∷ pairs) keyed high =
    let first : nat_cmp epoch pair.0 ≡ Less = high 0 epoch (omega arith) in
    let own : pair.0 ≡ pair.1.epoch = keyed.0 in
    (grind (arith, nat_tests, first, own), above epoch pairs keyed.1 (λ k d within. high (suc k) d (omega arith)))

-- the entries above an epoch
pub kept : (epoch : ℕ) (pairs : List (ℕ × Entry)) → values_of (filter (λ (pair : ℕ × Entry). nat_lt epoch pair.1.epoch) pairs) ≡ filter (λ entry. nat_lt epoch entry.epoch) (values_of pairs)
kept epoch [] = refl
kept epoch (pair ∷ pairs) = by (nat_lt epoch pair.1.epoch) (kept epoch pairs)
  where
    test : ℕ × Entry → Bool
    test p = nat_lt epoch p.1.epoch

    own : Entry → Bool
    own e = nat_lt epoch e.epoch

    by : (b : Bool) → values_of (filter test pairs) ≡ filter own (values_of pairs) → values_of (if b then pair ∷ filter test pairs else filter test pairs) ≡ (if b then pair.1 ∷ filter own (values_of pairs) else filter own (values_of pairs))
    by true others = ap (λ l. pair.1 ∷ l) others
    by false others = others

-- the first pair has the first entry
pub first_of : (pairs : List (ℕ × Entry)) (epoch : ℕ) (entry : Entry) → slice_get pairs 0 ≡ Some (epoch, entry) → Some entry ≡ first_entry (values_of pairs)
first_of [] epoch entry is = absurd (none-some (epoch, entry) is)
first_of (pair ∷ pairs) epoch entry is = (let own : pair ≡ (epoch, entry) = cc is in ap (λ (p : ℕ × Entry). Some p.1) (sym own))

-- those that are left without the first one are above it
pub above_first : (first : Option (ℕ × Entry)) (before after : List (ℕ × Entry)) → AreKeyed before → (0 < length before → IsSome first) → IfSome first (λ p. before ≡ p ∷ after) → IfSome first (λ p. All (IsLtBy nat_cmp p.0) (keys_of after))
    → AreAbove (first_entry (values_of before)) (values_of after)
above_first None [] after keyed some removal high = tt
above_first None (pair ∷ pairs) after keyed some removal high = absurd (true≢false (sym (some (omega arith))))
above_first (Some p) before after keyed some removal high =
    let own : AreKeyed (p ∷ after) = subst AreKeyed removal keyed in
    subst (λ l. AreAbove (first_entry (values_of l)) (values_of after)) (sym removal) (above p.1.epoch after own.1 (subst (λ e. All (IsLtBy nat_cmp e) (keys_of after)) own.0 high))
