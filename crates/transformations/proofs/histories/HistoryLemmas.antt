-- Histories: how they grow and what their fronts are, and the images that they lead to.
use Rattle.std.proofs.Common.{◌≡◌, ℕ, zero, suc, ◌+◌, ◌<◌, ◌≤◌, Bool, true, false, ◌&&◌, nat_le, List, [], ◌∷◌, ◌++◌, Option, Some, None, is_none, get_or, length, take, true≢false, refl, sym, ap, ◌∙◌, subst, length-append, length-take, arith}
use Rattle.std.proofs.lemmas.Bool.{and_parts}
use Rattle.std.proofs.lemmas.Bool.Decides.{nat_tests}
use Rattle.std.proofs.lemmas.List.{take_more}
use Rattle.std.proofs.lemmas.Option.{none-some}
use Rattle.transformations.proofs.histories.ValidLemmas.{valid_empty, valid_next}
use Rattle.transformations.specs.History.{IsHistory, are_accepted, commit_refusal, empty_image, image_after, is_command, most_epochs, next_image, state_after}
use Rattle.transformations.specs.Refusals.{refusal_of}
use Rattle.transformations.specs.Valid.{IsValid}
use Rattle.transformations.specs.declared.command.Command.{Command}
use Rattle.transformations.specs.declared.command.Command.TheVariants.{Register, Unregister, UnsafeJoin, Keyspace, DropKeyspace, PrepareJoin, PrepareMove, PrepareLeave, PrepareReplace, Step, Cancel}
use Rattle.transformations.specs.declared.image.Image.{Image}
use Rattle.transformations.specs.declared.refusal.Refusal.{Refusal}
use Rattle.transformations.specs.declared.refusal.Refusal.TheVariants.{EpochsFull}

-- ---- images

-- one command more
pub image_after-push : (image : Image) (commands : List Command) (c : Command) → image_after image (commands ++ c ∷ []) ≡ next_image (image_after image commands) c
image_after-push image [] c = refl
image_after-push image (d ∷ commands) c = image_after-push (next_image image d) commands c

-- the epoch counts the commands
pub next-epoch : (image : Image) (c : Command) → (next_image image c).epoch ≡ image.epoch + 1
unfolding next_image
next-epoch image (Register name dc rack) = refl
next-epoch image (Unregister node) = refl
next-epoch image (UnsafeJoin node tokens) = refl
next-epoch image (Keyspace name replication) = refl
next-epoch image (DropKeyspace name) = refl
next-epoch image (PrepareJoin node tokens) = refl
next-epoch image (PrepareMove node t) = refl
next-epoch image (PrepareLeave node) = refl
next-epoch image (PrepareReplace node gone) = refl
next-epoch image (Step g kind node) = refl
next-epoch image (Cancel node) = refl

pub epoch_after_from : (image : Image) (commands : List Command) → (image_after image commands).epoch ≡ image.epoch + length commands
epoch_after_from image [] = omega arith
epoch_after_from image (c ∷ commands) = let rest = epoch_after_from (next_image image c) commands in let one = next-epoch image c in omega arith

pub epoch_after : (h : List Command) → (image_after empty_image h).epoch ≡ length h
epoch_after h = let all = epoch_after_from empty_image h in omega arith

-- ---- commands that are accepted

-- the first command may be one and isn't refused, and the others are accepted after it
pub record IsAcceptedFirst (image : Image) (c : Command) (commands : List Command) : Type 0 where
  pub right : is_command c ≡ true
  pub unrefused : refusal_of image c ≡ None
  pub rest : are_accepted (next_image image c) commands ≡ true

pub accepted_first : (image : Image) (c : Command) (commands : List Command) → are_accepted image (c ∷ commands) ≡ true → IsAcceptedFirst image c commands
accepted_first image c commands h = by (is_command c) refl (refusal_of image c) refl (are_accepted (next_image image c) commands) refl h
  where
    by : (a : Bool) → is_command c ≡ a → (o : Option Refusal) → refusal_of image c ≡ o → (b : Bool) → are_accepted (next_image image c) commands ≡ b
        → ((a && is_none o) && b) ≡ true → IsAcceptedFirst image c commands
    by true e None f true g h = record { right = e; unrefused = f; rest = g }
    by false e o f b g h = absurd (true≢false (sym h))
    by true e (Some r) f b g h = absurd (true≢false (sym h))
    by true e None f false g h = absurd (true≢false (sym h))

accepted_cons : (image : Image) (c : Command) (commands : List Command) → is_command c ≡ true → refusal_of image c ≡ None → are_accepted (next_image image c) commands ≡ true → are_accepted image (c ∷ commands) ≡ true
accepted_cons image c commands right none rest = rw (right, none) rest

-- one command more is accepted
accepted_push : (image : Image) (commands : List Command) (c : Command) → are_accepted image commands ≡ true → is_command c ≡ true → refusal_of (image_after image commands) c ≡ None → are_accepted image (commands ++ c ∷ []) ≡ true
accepted_push image [] c all right none = accepted_cons image c [] right none refl
accepted_push image (d ∷ commands) c all right none =
    let a = accepted_first image d commands all in
    accepted_cons image d (commands ++ c ∷ []) a.right a.unrefused (accepted_push (next_image image d) commands c a.rest right none)

-- the first commands are accepted
accepted_take : (image : Image) (commands : List Command) (e : ℕ) → are_accepted image commands ≡ true → are_accepted image (take e commands) ≡ true
accepted_take image commands zero all = refl
accepted_take image [] (suc e) all = refl
accepted_take image (c ∷ commands) (suc e) all =
    let a = accepted_first image c commands all in
    accepted_cons image c (take e commands) a.right a.unrefused (accepted_take (next_image image c) commands e a.rest)

-- ---- histories

pub history_short : (h : List Command) → IsHistory h → length h ≤ 65536
history_short h is = let few = (and_parts (nat_le (length h) most_epochs) (are_accepted empty_image h) is).0 in grind (arith, nat_tests)

history_accepted : (h : List Command) → IsHistory h → are_accepted empty_image h ≡ true
history_accepted h is = (and_parts (nat_le (length h) most_epochs) (are_accepted empty_image h) is).1

history_from : (h : List Command) → length h ≤ 65536 → are_accepted empty_image h ≡ true → IsHistory h
history_from h few all = (let short : nat_le (length h) most_epochs ≡ true = grind (arith, nat_tests) in rw (short, all) refl)

-- what a commit that isn't refused says
pub record IsCommitted (h : List Command) (c : Command) : Type 0 where
  pub below_limit : length h < 65536
  pub unrefused : refusal_of (image_after empty_image h) c ≡ None

pub committed : (h : List Command) (c : Command) → commit_refusal h c ≡ None → IsCommitted h c
committed h c none = by (nat_le most_epochs (length h)) refl
  where
    by : (b : Bool) → nat_le most_epochs (length h) ≡ b → IsCommitted h c
    by true e = let some : Some EpochsFull ≡ None = rw e at none in absurd (none-some EpochsFull (sym some))
    by false e = record { below_limit = grind (arith, nat_tests); unrefused = rw e at none }

-- one command more, and the first ones
pub history_push : (h : List Command) (c : Command) → IsHistory h → is_command c ≡ true → commit_refusal h c ≡ None → IsHistory (h ++ c ∷ [])
history_push h c is right none =
    let a = committed h c none in
    history_from (h ++ c ∷ []) (omega (arith, a.below_limit, length-append h (c ∷ []))) (accepted_push empty_image h c (history_accepted h is) right a.unrefused)

pub history_take : (h : List Command) (e : ℕ) → IsHistory h → IsHistory (take e h)
history_take h e is =
    history_from (take e h) (omega (arith, history_short h is, shorter e h)) (accepted_take empty_image h e (history_accepted h is))
  where
    shorter : (e : ℕ) (h : List Command) → length (take e h) ≤ length h
    shorter zero h = omega arith
    shorter (suc e) [] = omega arith
    shorter (suc e) (c ∷ h) = let rest = shorter e h in omega arith

pub history_empty : IsHistory []
history_empty = refl

-- ---- the images of histories are valid

valid_from : (image : Image) (commands : List Command) → image.epoch + length commands ≤ most_epochs → are_accepted image commands ≡ true → IsValid image → IsValid (image_after image commands)
valid_from image [] short all h = h
valid_from image (c ∷ commands) short all h =
    let a = accepted_first image c commands all in
    let one = next-epoch image c in
    valid_from (next_image image c) commands (omega arith) a.rest (valid_next image c h a.right a.unrefused (omega arith))

pub valid_after : (h : List Command) → IsHistory h → IsValid (image_after empty_image h)
valid_after h is = valid_from empty_image h (omega (arith, history_short h is)) (history_accepted h is) valid_empty

pub valid_at : (h : List Command) (e : ℕ) → IsHistory h → IsValid (state_after h e)
valid_at h e is = valid_after (take e h) (history_take h e is)

-- ---- the commands of a history, one after another

-- a command can be taken over next: there is an epoch for it, and the image so far accepts it
pub record IsNext (image : Image) (c : Command) : Type 0 where
  pub below_limit : image.epoch < most_epochs
  pub formed : is_command c ≡ true
  pub accepted : refusal_of image c ≡ None

accepted_last : (image : Image) (commands : List Command) (c : Command) → are_accepted image (commands ++ c ∷ []) ≡ true → (is_command c ≡ true) × (refusal_of (image_after image commands) c ≡ None)
accepted_last image [] c h = by (is_command c) (refusal_of image c) h
  where
    by : (a : Bool) (o : Option Refusal) → ((a && is_none o) && true) ≡ true → (a ≡ true) × (o ≡ None)
    by true None e = (refl, refl)
    by true (Some r) e = absurd (true≢false (sym e))
    by false o e = absurd (true≢false (sym e))
accepted_last image (d ∷ commands) c h = accepted_last (next_image image d) commands c ((and_parts (is_command d && is_none (refusal_of image d)) _ h).1)

pub next_at : (h : List Command) (i : ℕ) (c : Command) → IsHistory h → i < length h → c ≡ get_or h i c → IsNext (state_after h i) c
next_at h i c is within at =
    let more : take (i + 1) h ≡ take i h ++ c ∷ [] = take_more h i c within ∙ ap (λ x. take i h ++ x ∷ []) (sym at) in
    let front : are_accepted empty_image (take i h ++ c ∷ []) ≡ true =
    subst (λ l. are_accepted empty_image l ≡ true) more ((and_parts (nat_le (length (take (i + 1) h)) most_epochs) _ (history_take h (i + 1) is)).1) in
    let last = accepted_last empty_image (take i h) c front in
    record {
      below_limit = omega (arith, epoch_after (take i h), length-take i h, history_short h is);
      formed = last.0;
      accepted = last.1;
    }

-- the next command taken over
pub state-more : (h : List Command) (i : ℕ) (c : Command) → i < length h → c ≡ get_or h i c → next_image (state_after h i) c ≡ state_after h (i + 1)
state-more h i c within at =
    sym (image_after-push empty_image (take i h) c) ∙ ap (image_after empty_image) (ap (λ x. take i h ++ x ∷ []) at ∙ sym (take_more h i c within))
