-- Where memory that runs out cuts a step: between where the follower was and where the step leads it.
use Rattle.std.proofs.Common.{nat_le, ◌≡◌, ℕ, ◌<◌, ◌≤◌, Bool, true, false, ◌==◌, if◌then◌else◌, List, [], ◌∷◌, filter, nat_lt, Option, Some, None, Result, Ok, Err, refl, sym, subst, arith}
use Rattle.std.proofs.lemmas.Bool.{eqb-true}
use Rattle.std.proofs.lemmas.Bool.Decides.{nat_tests}
use Rattle.std.proofs.lemmas.Option.{none-some}
use Rattle.cluster_terms.specs.Ascending.{put}
use Rattle.transformations.proofs.histories.HistoryLemmas.{next-epoch}
use Rattle.transformations.specs.History.{next_image}
use Rattle.transformations.specs.ImageRules.{bad_of}
use Rattle.transformations.specs.Refusals.{refusal_of}
use Rattle.transformations.specs.declared.entry.Entry.{Entry}
use Rattle.transformations.specs.declared.image.Image.{Image}
use Rattle.transformations.specs.declared.image_rules.BadImage.{BadImage as BadRule}
use Rattle.transformations.specs.declared.refusal.Refusal.{Refusal}
use Rattle.follower_log.specs.Follower.{FollowerState, Handed, IsCutFrom, Performs, advanced, by_epoch, cut_first, hand_entry, hand_image, hand_valid, is_full, is_next, is_same, stays, unless_bad, waiting_at}
use Rattle.follower_log.specs.declared.fault.FollowerFault.{FollowerFault}
use Rattle.follower_log.specs.declared.fault.FollowerFault.TheVariants.{Fork, Refused, BadImage, Memory, MemoryAt}
use Rattle.follower_log.specs.declared.took.Took.{Took}
use Rattle.follower_log.specs.declared.took.Took.TheVariants.{At, Old, Held, Full}
use Rattle.follower_log.proofs.AdvanceLemmas.{advanced_on, advanced_refused, advanced_stays}

-- a step from an epoch leads no further back, and neither does a cut of it, which goes no further on than the step
pub record CutsFrom (low : ℕ) (step : Handed) : Type 0 where
  pub up : low ≤ step.after.image.epoch
  pub cuts : (epoch : ℕ) (at : FollowerState) → step.cut epoch ≡ Some at → (low ≤ at.image.epoch) × (at.image.epoch ≤ step.after.image.epoch) × (at.image.epoch ≡ epoch)

stays_from : (low : ℕ) (f : FollowerState) (answer : Result Took FollowerFault) → low ≤ f.image.epoch → CutsFrom low (stays f answer)
stays_from low f answer up = record { up = up; cuts = λ epoch at cut. absurd (none-some at cut) }

lower : (low high : ℕ) (step : Handed) → low ≤ high → CutsFrom high step → CutsFrom low step
lower low high step down is = record {
  up = omega (arith, down, is.up);
  cuts = λ epoch at cut. (let parts = is.cuts epoch at cut in (omega (arith, down, parts.0), parts.1, parts.2));
}

first_from : (image : Image) (waiting : List Entry) (step : Handed) → CutsFrom image.epoch step → CutsFrom image.epoch (cut_first image waiting step)
first_from image waiting step is = record { up = is.up; cuts = λ epoch at cut. by epoch at (image.epoch == epoch) refl cut }
  where
    by : (epoch : ℕ) (at : FollowerState) (b : Bool) → (image.epoch == epoch) ≡ b → (if b then Some (record { image = image; waiting = waiting }) else step.cut epoch) ≡ Some at → (image.epoch ≤ at.image.epoch) × (at.image.epoch ≤ step.after.image.epoch) × (at.image.epoch ≡ epoch)
    by epoch at true first cut =
        let here : FollowerState = record { image = image; waiting = waiting } in
        let same : here ≡ at = cc in
        subst (λ (f : FollowerState). (image.epoch ≤ f.image.epoch) × (f.image.epoch ≤ step.after.image.epoch) × (f.image.epoch ≡ epoch)) same (omega arith, is.up, eqb-true image.epoch epoch first)
    by epoch at false later cut = is.cuts epoch at cut

pub advanced_from : (image : Image) (waiting : List Entry) → CutsFrom image.epoch (advanced image waiting)
advanced_from image [] = stays_from image.epoch (record { image = image; waiting = [] }) (Ok (At image.epoch)) (omega arith)
advanced_from image (entry ∷ waiting) = by (advanced_from (next_image image entry.cmd) waiting) (is_next image entry) refl (refusal_of image entry.cmd) refl
  where
    by : CutsFrom (next_image image entry.cmd).epoch (advanced (next_image image entry.cmd) waiting) → (b : Bool) → is_next image entry ≡ b → (o : Option Refusal) → refusal_of image entry.cmd ≡ o
        → CutsFrom image.epoch (advanced image (entry ∷ waiting))
    by later false gap o is =
        subst (CutsFrom image.epoch) (sym (advanced_stays image entry waiting gap)) (stays_from image.epoch (record { image = image; waiting = entry ∷ waiting }) (Ok (At image.epoch)) (omega arith))
    by later true next (Some refusal) is =
        subst (CutsFrom image.epoch) (sym (advanced_refused image entry waiting refusal next is))
        (first_from image (entry ∷ waiting) _ (stays_from image.epoch (record { image = image; waiting = waiting }) (Err (Refused entry.epoch refusal)) (omega arith)))
    by later true next None is =
        subst (CutsFrom image.epoch) (sym (advanced_on image entry waiting next is))
        (first_from image (entry ∷ waiting) _ (lower image.epoch (next_image image entry.cmd).epoch _ (omega (arith, next-epoch image entry.cmd)) later))

pub entry_from : (f : FollowerState) (entry : Entry) → CutsFrom f.image.epoch (hand_entry f entry)
entry_from f entry = by (nat_le entry.epoch f.image.epoch) refl (waiting_at f.waiting entry.epoch) refl (is_full f entry) refl
  where
    same : ℕ
    same = f.image.epoch

    by : (low : Bool) → nat_le entry.epoch f.image.epoch ≡ low → (held : Option Entry) → waiting_at f.waiting entry.epoch ≡ held → (full : Bool) → is_full f entry ≡ full → CutsFrom f.image.epoch (hand_entry f entry)
    by true e held is full many = rw e (stays_from same f (Ok (Old same)) (omega arith))
    by false e (Some held) is full many = rw (e, is) (stays_from same f (if is_same held entry then Ok (Held same) else Err (Fork entry.epoch held entry)) (omega arith))
    by false e None is true many = rw (e, is, many) (stays_from same f (Ok (Full same)) (omega arith))
    by false e None is false many = rw (e, is, many) (advanced_from f.image (put by_epoch entry f.waiting))

pub valid_from : (f : FollowerState) (image : Image) → CutsFrom f.image.epoch (hand_valid f image)
valid_from f image = by (nat_le image.epoch f.image.epoch) refl
  where
    by : (low : Bool) → nat_le image.epoch f.image.epoch ≡ low → CutsFrom f.image.epoch (hand_valid f image)
    by true e = rw e (stays_from f.image.epoch f (Ok (Old f.image.epoch)) (omega arith))
    by false e =
        let past : f.image.epoch < image.epoch = grind (arith, nat_tests) in
        rw e (lower f.image.epoch image.epoch _ (omega (arith, past)) (advanced_from image (filter (λ (entry : Entry). nat_lt image.epoch entry.epoch) f.waiting)))

pub image_from : (f : FollowerState) (image : Image) → CutsFrom f.image.epoch (hand_image f image)
image_from f image = by (bad_of image)
  where
    by : (bad : Option BadRule) → CutsFrom f.image.epoch (unless_bad bad f (hand_valid f image))
    by None = valid_from f image
    by (Some bad) = stays_from f.image.epoch f (Err (BadImage bad)) (omega arith)

-- so memory runs out no further back
pub cut_low : (low : ℕ) (f g : FollowerState) (step : Handed) (result : Result Took FollowerFault) → CutsFrom low step → Performs f step result g → IsCutFrom low result
cut_low low f g step (Err (MemoryAt e)) is cut = (let at = is.cuts e g cut in omega (arith, at.0, at.2))
cut_low low f g step (Ok t) is comes = tt
cut_low low f g step (Err (Refused e r)) is comes = tt
cut_low low f g step (Err Memory) is comes = tt
cut_low low f g step (Err (Fork e held came)) is comes = tt
cut_low low f g step (Err (BadImage bad)) is comes = tt
