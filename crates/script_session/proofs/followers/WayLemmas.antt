-- Ways of a follower that is given a reply, one after another.
use Rattle.std.proofs.Common.{◌≡◌, ℕ, suc, ◌+◌, ◌<◌, ◌≤◌, true, List, get_or, drop, length, Option, Some, Result, Ok, Err, IsErr, IsOk, true≢false, refl, sym, ap, ◌∙◌, subst, arith}
use Rattle.std.proofs.Math.Seq.{drop-cons}
use Rattle.std.proofs.lemmas.List.{get_or-map}
use Rattle.std.specs.List.{Contains}
use Rattle.std.specs.Option.{IfSome}
use Rattle.transformations.proofs.histories.HistoryLemmas.{history_short, next_at}
use Rattle.transformations.proofs.histories.LogLemmas.{length-commands_of}
use Rattle.transformations.specs.History.{is_command, most_epochs}
use Rattle.transformations.specs.Log.{IsLog, commands_of}
use Rattle.transformations.specs.declared.entry.Entry.{Entry}
use Rattle.transformations.specs.declared.image.Image.{Image}
use Rattle.catch_up.specs.declared.message.Reply.{Reply as CatchUpReply}
use Rattle.catch_up_laws.proofs.GivenLemmas.{entries_rise, image_rises}
use Rattle.catch_up_laws.specs.Given.{given_entries, given_image, given_reply}
use Rattle.follower_log.proofs.AmongLemmas.{epoch_within}
use Rattle.follower_log.proofs.ShowsLemmas.{as_valid, numbers_of}
use Rattle.follower_log.proofs.StepsCutShort.{entry_from, valid_from}
use Rattle.follower_log.specs.Follower.{FollowerState, Handed, Performs, hand_entry, hand_image, hand_valid}
use Rattle.follower_log.specs.Prefix.{IsImageOf, StandsAfter, StandsFor, Taken, with_entry, with_image}
use Rattle.follower_log.specs.declared.fault.FollowerFault.{FollowerFault}
use Rattle.follower_log.specs.declared.took.Took.{Took}
use Rattle.script_session.specs.StepEnds.{FollowsLog, ForgetsNothing, IsOnTheWay, StandsOn}
use Rattle.script_session.specs.code.StepParts.{Hands, IsOfOneLog}
use Rattle.script_session.proofs.followers.HandedLemmas.{forgets_nothing, follows_shown, is_between, kept_shown, on_with_entry, on_with_image, one_log_shown}

-- ---- ways

forgets_on : (log : List Entry) (f g h : FollowerState) → ForgetsNothing log f g → ForgetsNothing log g h → ForgetsNothing log f h
forgets_on log f g h one other = λ taken stands.
    let first : StandsOn log taken g = one taken stands in
    let then : StandsOn log first.more h = other first.more first.stands in
    record {
      more = then.more;
      entries = λ e is. then.entries e (first.entries e is);
      images = λ e is. then.images e (first.images e is);
      stands = then.stands;
    }

pub stays_there : (log : List Entry) (f : FollowerState) → FollowsLog log f → IsOnTheWay log f f f
stays_there log f follows = record {
  from = omega arith;
  to = omega arith;
  follows = follows;
  keeps = forgets_nothing log f;
}

-- a way that ended, and one that begins there, whose end leads to `due`
pub way_on : (log : List Entry) (f g next due at : FollowerState) → IsOnTheWay log f g g → IsOnTheWay log g next at → next.image.epoch ≤ due.image.epoch → IsOnTheWay log f due at
way_on log f g next due at one other up = record {
  from = omega (arith, one.from, other.from);
  to = omega (arith, other.to, up);
  follows = other.follows;
  keeps = forgets_on log f g at one.keeps other.keeps;
}

-- ---- what a call leaves

performed : (f at : FollowerState) (step : Handed) (handed : Result Took FollowerFault) (took : Took) → handed ≡ Ok took → Performs f step handed at → at ≡ step.after
performed f at step handed took is comes = (subst (λ h. Performs f step h at) is comes).1

-- it comes to the end, if what it handed over was taken
pub entry_way : (log : List Entry) (f at : FollowerState) (entry : Entry) (handed : Result Took FollowerFault) → FollowsLog log f → Performs f (hand_entry f entry) handed at
    → ((taken : Taken) → StandsFor log taken f → StandsAfter log taken (with_entry taken entry.epoch) handed at) → IsOnTheWay log f (hand_entry f entry).after at
entry_way log f at entry handed follows comes shows =
    let after : FollowsLog log at = follows_shown log follows.taken (with_entry follows.taken entry.epoch) handed at (shows follows.taken follows.stands) in
    let keeps : ForgetsNothing log f at = λ taken stands. kept_shown log taken (with_entry taken entry.epoch) handed at (on_with_entry log taken entry.epoch at) (shows taken stands) in
    is_between log f at (hand_entry f entry) handed (entry_from f entry) after keeps comes

pub image_way : (log : List Entry) (f at : FollowerState) (image : Image) (handed : Result Took FollowerFault) → FollowsLog log f → Performs f (hand_valid f image) handed at
    → ((taken : Taken) → StandsFor log taken f → StandsAfter log taken (with_image taken image.epoch) handed at) → IsOnTheWay log f (hand_valid f image).after at
image_way log f at image handed follows comes shows =
    let after : FollowsLog log at = follows_shown log follows.taken (with_image follows.taken image.epoch) handed at (shows follows.taken follows.stands) in
    let keeps : ForgetsNothing log f at = λ taken stands. kept_shown log taken (with_image taken image.epoch) handed at (on_with_image log taken image.epoch at) (shows taken stands) in
    is_between log f at (hand_valid f image) handed (valid_from f image) after keeps comes

-- what was handed over is of the follower's log
pub entry_of_log : (log : List Entry) (f at : FollowerState) (entry : Entry) (handed : Result Took FollowerFault) → FollowsLog log f
    → ((taken : Taken) → StandsFor log taken f → StandsAfter log taken (with_entry taken entry.epoch) handed at) → IsOfOneLog handed
entry_of_log log f at entry handed follows shows = one_log_shown log follows.taken (with_entry follows.taken entry.epoch) handed at (shows follows.taken follows.stands)

-- a call that returns a fault, and one that doesn't
pub hands_err : {T E : Type 0} (log : List Entry) (due before at : FollowerState) (r : Result T E) → IsErr r → IsOnTheWay log before due at → Hands log due before at r
hands_err log due before at (Err e) is way = record { comes = tt; way = way }
hands_err log due before at (Ok x) is way = absurd (true≢false (sym is))

pub hands_ok : {T E : Type 0} (log : List Entry) (before at : FollowerState) (step : Handed) (handed : Result Took FollowerFault) (took : Took) (r : Result T E) → handed ≡ Ok took → Performs before step handed at → IsOnTheWay log before step.after at
    → Hands log step.after before at r
hands_ok log before at step handed took (Ok x) is comes way = record { comes = performed before at step handed took is comes; way = way }
hands_ok log before at step handed took (Err e) is comes way = record { comes = tt; way = way }

-- ---- an entry of a log

pub entry_fits : (log : List Entry) (entry : Entry) → IsLog log → Contains log entry → (is_command entry.cmd ≡ true) × (entry.epoch ≤ most_epochs)
entry_fits log entry is there = (formed there, omega (arith, (epoch_within 1 log entry (numbers_of log is) there).1, history_short (commands_of log) is.history, length-commands_of log))
  where
    formed : Contains log entry → is_command entry.cmd ≡ true
    formed (k, within, here) =
        let command : entry.cmd ≡ get_or (commands_of log) k entry.cmd = sym (get_or-map (λ (e : Entry). e.cmd) log k entry entry.cmd within ∙ ap (λ (e : Entry). e.cmd) here) in
        (next_at (commands_of log) k entry.cmd is.history (omega (arith, within, length-commands_of log)) command).formed

-- ---- entries, one after another

-- the first entries were handed over
pub record Handing (log entries : List Entry) (n : ℕ) (before now : FollowerState) : Type 0 where
  pub rest : given_entries now (drop n entries) ≡ given_entries before entries
  pub way : IsOnTheWay log before now now

begins : (log entries : List Entry) (f : FollowerState) → FollowsLog log f → Handing log entries 0 f f
begins log entries f follows = record { rest = refl; way = stays_there log f follows }

module _ (log entries : List Entry) (n : ℕ) (before now at : FollowerState) (entry : Entry) (within : n < length entries) (is : entry ≡ get_or entries n entry) (handing : Handing log entries n before now) where
  abbrev next : FollowerState
  next = (hand_entry now entry).after

  further : given_entries next (drop (suc n) entries) ≡ given_entries before entries
  further =
      ap (λ (e : Entry). given_entries (hand_entry now e).after (drop (suc n) entries)) is
      ∙ ap (given_entries now) (sym (drop-cons entries n entry within)) ∙ handing.rest

  -- one entry more
  pub one_more : {T E : Type 0} (r : Result T E) → IsOk r → Hands log next now at r → Handing log entries (n + 1) before at
  one_more (Ok x) ok handed =
      let more : suc n ≡ n + 1 = omega arith in
      record {
        rest = ap (λ (g : FollowerState). given_entries g (drop (n + 1) entries)) handed.comes ∙ ap (λ m. given_entries next (drop m entries)) (sym more) ∙ further;
        way = way_on log before now next at at handing.way handed.way (omega (arith, ap (λ (g : FollowerState). g.image.epoch) handed.comes));
      }
  one_more (Err e) ok handed = absurd (true≢false (sym ok))

  -- memory runs out
  pub stops_at : {T E : Type 0} (r : Result T E) → Hands log next now at r → IsOnTheWay log before (given_entries before entries) at
  stops_at r handed = way_on log before now next (given_entries before entries) at handing.way handed.way
      (omega (arith, entries_rise next (drop (suc n) entries), ap (λ (g : FollowerState). g.image.epoch) further))

-- ---- a reply

module _ (log : List Entry) (reply : CatchUpReply) (before now at : FollowerState) (first : now ≡ given_image before reply.image) (to_now : IsOnTheWay log before (given_image before reply.image) now) where
  due : given_entries now reply.entries ≡ given_reply before reply
  due = ap (λ (g : FollowerState). given_entries g reply.entries) first

  whole : IsOnTheWay log now (given_entries now reply.entries) at → IsOnTheWay log before (given_reply before reply) at
  whole other =
      way_on log before now (given_entries now reply.entries) (given_reply before reply) at (subst (λ g. IsOnTheWay log before g now) (sym first) to_now) other
      (omega (arith, ap (λ (g : FollowerState). g.image.epoch) due))

  then_entries : {T E : Type 0} (r : Result T E) → Hands log (given_entries now reply.entries) now at r → Hands log (given_reply before reply) before at r
  then_entries (Ok x) rest = record { comes = rest.comes ∙ due; way = whole rest.way }
  then_entries (Err e) rest = record { comes = tt; way = whole rest.way }

pub image_then : {T E U : Type 0} (log : List Entry) (reply : CatchUpReply) (before now at : FollowerState) (one : Result U E) (r : Result T E) → IsOk one → Hands log (given_image before reply.image) before now one
    → Hands log (given_entries now reply.entries) now at r → Hands log (given_reply before reply) before at r
image_then log reply before now at (Err e) r ok first rest = absurd (true≢false (sym ok))
image_then log reply before now at (Ok u) r ok first rest = then_entries log reply before now at first.comes first.way r rest

-- memory runs out at the image
pub image_stops : {U E : Type 0} (log : List Entry) (reply : CatchUpReply) (before at : FollowerState) (one : Result U E) → Hands log (given_image before reply.image) before at one → IsOnTheWay log before (given_reply before reply) at
image_stops log reply before at one first = record {
  from = first.way.from;
  to = omega (arith, first.way.to, entries_rise (given_image before reply.image) reply.entries);
  follows = first.way.follows;
  keeps = first.way.keeps;
}

-- ---- an image, if there is one

pub ok_of : {T E : Type 0} (r : Result T E) (x : T) → r ≡ Ok x → IsOk r
ok_of (Ok y) x is = refl
ok_of (Err e) x is = absurd cc

-- memory runs out before it is handed over
pub image_stays : (log : List Entry) (f : FollowerState) (o : Option Image) → FollowsLog log f → IsOnTheWay log f (given_image f o) f
image_stays log f o follows = record { from = omega arith; to = image_rises f o; follows = follows; keeps = (stays_there log f follows).keeps }

-- a copy of it was handed over
module _ (log : List Entry) (f at : FollowerState) (o : Option Image) (image copied : Image) (handed : Result Took FollowerFault) (some : o ≡ Some image) (same : copied ≡ image) (is_log : IsLog log) (of : IfSome o (IsImageOf log)) (follows : FollowsLog log f)
    (comes : Performs f (hand_image f copied) handed at) (shows : (taken : Taken) → IsImageOf log copied → StandsFor log taken f → StandsAfter log taken (with_image taken copied.epoch) handed at) where
  here : o ≡ Some copied
  here = some ∙ ap (λ (i : Image). Some i) (sym same)

  of_log : IsImageOf log copied
  of_log = subst (λ (p : Option Image). IfSome p (IsImageOf log)) here of

  valid : Performs f (hand_valid f copied) handed at
  valid = subst (λ h. Performs f h handed at) (as_valid log f copied is_log of_log) comes

  way : IsOnTheWay log f (hand_valid f copied).after at
  way = image_way log f at copied handed follows valid (λ taken stands. shows taken of_log stands)

  pub start_way : IsOnTheWay log f (given_image f o) at
  start_way = subst (λ (p : Option Image). IsOnTheWay log f (given_image f p) at) (sym here) way

  pub start_hands : {T E : Type 0} (took : Took) (r : Result T E) → handed ≡ Ok took → Hands log (given_image f o) f at r
  start_hands took r is = subst (λ (p : Option Image). Hands log (given_image f p) f at r) (sym here) (hands_ok log f at (hand_valid f copied) handed took r is valid way)
