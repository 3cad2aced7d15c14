-- How an advance goes: what one entry leads to, and where it ends among the entries of a log.
use Rattle.std.proofs.Common.{◌≡◌, ℕ, ◌+◌, ◌≤◌, Bool, true, false, ◌==◌, if◌then◌else◌, List, [], ◌∷◌, drop, Some, None, Result, Ok, Err, true≢false, refl, sym, ap, ◌∙◌, subst, eq-eqb, arith}
use Rattle.std.proofs.lemmas.Bool.{and_parts, eqb-true, ne_eqb}
use Rattle.std.proofs.lemmas.Option.{none-some}
use Rattle.transformations.proofs.commands.SameLemmas.{same_command_tells}
use Rattle.transformations.proofs.histories.HistoryLemmas.{next-epoch}
use Rattle.transformations.specs.History.{next_image}
use Rattle.transformations.specs.Refusals.{refusal_of}
use Rattle.transformations.specs.Same.{same_command}
use Rattle.transformations.specs.declared.entry.Entry.{Entry}
use Rattle.transformations.specs.declared.image.Image.{Image}
use Rattle.transformations.specs.declared.refusal.Refusal.{Refusal}
use Rattle.follower_log.specs.Follower.{Performs, FollowerState, IsAdvance, advanced, cut_first, hand_above, is_next, is_same, stays}
use Rattle.follower_log.specs.code.WaitingEntries.{Advances, ComesFirst, Leads, first_entry}
use Rattle.follower_log.specs.declared.fault.FollowerFault.{FollowerFault}
use Rattle.follower_log.specs.declared.fault.FollowerFault.TheVariants.{Fork, Refused, BadImage, Memory, MemoryAt}
use Rattle.follower_log.specs.declared.took.Took.{Took}
use Rattle.follower_log.specs.declared.took.Took.TheVariants.{At, Old, Held, Full}

-- ---- the first entry

-- a next entry that is accepted is applied, and the rest follows
pub advanced_on : (image : Image) (entry : Entry) (waiting : List Entry) → is_next image entry ≡ true → refusal_of image entry.cmd ≡ None
    → advanced image (entry ∷ waiting) ≡ cut_first image (entry ∷ waiting) (advanced (next_image image entry.cmd) waiting)
advanced_on image entry waiting next accepted = rw (next, accepted) refl

-- a next entry that is refused is dropped
pub advanced_refused : (image : Image) (entry : Entry) (waiting : List Entry) (refusal : Refusal) → is_next image entry ≡ true → refusal_of image entry.cmd ≡ Some refusal
    → advanced image (entry ∷ waiting) ≡ cut_first image (entry ∷ waiting) (stays (record { image = image; waiting = waiting }) (Err (Refused entry.epoch refusal)))
advanced_refused image entry waiting refusal next refused = rw (next, refused) refl

-- an entry past a gap is left
pub advanced_stays : (image : Image) (entry : Entry) (waiting : List Entry) → is_next image entry ≡ false
    → advanced image (entry ∷ waiting) ≡ stays (record { image = image; waiting = entry ∷ waiting }) (Ok (At image.epoch))
advanced_stays image entry waiting past = rw past refl

-- ---- two entries of one epoch

-- an entry that is the one that waits is held; another one is a fork
pub compared_same : (f : FollowerState) (held came : Entry) → held ≡ came → hand_above f came (Some held) ≡ stays f (Ok (Held f.image.epoch))
compared_same f held came same =
    let is : is_same held came ≡ true = rw same (rw (eq-eqb came.id came.id refl) ((same_command_tells came.cmd came.cmd).1 refl)) in
    rw is refl

pub compared_other : (f : FollowerState) (held came : Entry) → held.epoch ≡ came.epoch → (held ≡ came → ⊥) → hand_above f came (Some held) ≡ stays f (Err (Fork came.epoch held came))
compared_other f held came epochs apart = by (is_same held came) refl
  where
    by : (b : Bool) → is_same held came ≡ b → hand_above f came (Some held) ≡ stays f (Err (Fork came.epoch held came))
    by true is =
        let parts = and_parts (held.id == came.id) (same_command held.cmd came.cmd) is in
        let ids : held.id ≡ came.id = eqb-true held.id came.id parts.0 in
        let cmds : held.cmd ≡ came.cmd = (same_command_tells held.cmd came.cmd).0 parts.1 in
        absurd (apart (λ i. record { id = ids i; epoch = epochs i; cmd = cmds i }))
    by false is = rw is refl

-- ---- one entry more is applied

pub leads_from : (before after : FollowerState) (entry : Entry) → Some entry ≡ first_entry before.waiting → after.waiting ≡ drop 1 before.waiting → entry.epoch ≡ before.image.epoch + 1
    → refusal_of before.image entry.cmd ≡ None → after.image ≡ next_image before.image entry.cmd → Leads before after
leads_from before after entry first rest next accepted image = record {
  entry = entry;
  waiting = parts before.waiting first ∙ ap (λ l. entry ∷ l) (sym rest);
  next = eq-eqb entry.epoch (before.image.epoch + 1) next;
  accepted = accepted;
  image = image;
}
  where
    parts : (waiting : List Entry) → Some entry ≡ first_entry waiting → waiting ≡ entry ∷ drop 1 waiting
    parts [] first = absurd (none-some entry (sym first))
    parts (e ∷ waiting) first = (let own : entry ≡ e = cc first in ap (λ x. x ∷ waiting) (sym own))

-- what the rest of an advance comes to, the whole comes to
pub advances_on : (before after : FollowerState) (result : Result Took FollowerFault) (end : FollowerState) → Leads before after → Advances after result end → Advances before result end
advances_on before after result end leads goes = by result goes
  where
    on : advanced before.image before.waiting ≡ cut_first before.image before.waiting (advanced after.image after.waiting)
    on =
        ap (advanced before.image) leads.waiting
        ∙ advanced_on before.image leads.entry after.waiting leads.next leads.accepted
        ∙ ap (λ i. cut_first before.image (leads.entry ∷ after.waiting) (advanced i after.waiting)) (sym leads.image)
        ∙ ap (λ w. cut_first before.image w (advanced after.image after.waiting)) (sym leads.waiting)

    up : after.image.epoch ≡ before.image.epoch + 1
    up = ap (λ (i : Image). i.epoch) leads.image ∙ next-epoch before.image leads.entry.cmd

    later : (epoch : ℕ) → after.image.epoch ≤ epoch → (before.image.epoch == epoch) ≡ false
    later epoch low = ne_eqb before.image.epoch epoch (λ same. omega (arith, same, up, low))

    by : (result' : Result Took FollowerFault) → Advances after result' end → Performs before (advanced before.image before.waiting) result' end × IsAdvance before.image.epoch result'
    by (Ok (At e)) ((same, there), low) = (subst (λ step. Performs before step (Ok (At e)) end) (sym on) (same, there), omega (arith, low, up))
    by (Err (Refused e r)) ((same, there), low) = (subst (λ step. Performs before step (Err (Refused e r)) end) (sym on) (same, there), omega (arith, low, up))
    by (Err (MemoryAt e)) (cut, low) =
        let here : (if before.image.epoch == e then Some before else (advanced after.image after.waiting).cut e) ≡ Some end = rw (later e low) cut in
        (subst (λ step. Performs before step (Err (MemoryAt e)) end) (sym on) here, omega (arith, low, up))
    by (Ok (Old e)) (done, low) = absurd low
    by (Ok (Held e)) (done, low) = absurd low
    by (Ok (Full e)) (done, low) = absurd low
    by (Err Memory) (done, low) = absurd low
    by (Err (Fork e held came)) (done, low) = absurd low
    by (Err (BadImage bad)) (done, low) = absurd low

-- the answer of one step: an entry was applied, or the advance ends where it is
pub leads_if : (before after : FollowerState) (b : Bool) → b ≡ true → ComesFirst before (Ok b) after → Leads before after
leads_if before after true is comes = comes
leads_if before after false is comes = absurd (true≢false (sym is))

pub ends_if : (before after : FollowerState) (b : Bool) (epoch : ℕ) → b ≡ false → epoch ≡ after.image.epoch → ComesFirst before (Ok b) after → Advances before (Ok (At epoch)) after
ends_if before after true epoch is at comes = absurd (true≢false is)
ends_if before after false epoch is at (same, ends) = subst (λ e. Advances before (Ok (At e)) after) (sym (at ∙ ap (λ (f : FollowerState). f.image.epoch) same)) ends

-- an advance never answers that nothing was taken, so any follower may stand before it
pub any_before : (before other end : FollowerState) (result : Result Took FollowerFault) → Advances before result end → Performs other (advanced before.image before.waiting) result end
any_before before other end (Ok (At e)) (comes, low) = comes
any_before before other end (Err (Refused e r)) (comes, low) = comes
any_before before other end (Err (MemoryAt e)) (comes, low) = comes
any_before before other end (Ok (Old e)) (comes, low) = absurd low
any_before before other end (Ok (Held e)) (comes, low) = absurd low
any_before before other end (Ok (Full e)) (comes, low) = absurd low
any_before before other end (Err Memory) (comes, low) = absurd low
any_before before other end (Err (Fork e held came)) (comes, low) = absurd low
any_before before other end (Err (BadImage bad)) (comes, low) = absurd low
