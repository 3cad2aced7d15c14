-- The ends of a step that hands something to a follower, or makes one.
use Rattle.std.proofs.Common.{◌≡◌, ℕ, ◌+◌, ◌-◌, ◌<◌, ◌≤◌, Bool, true, false, ◌||◌, ◌==◌, if◌then◌else◌, List, [], ◌∷◌, ◌++◌, get_or, set, position, length, Option, None, Some, is_some, Result, Ok, Err, IsErrAnd, IsOk, OnOk, nat_eq, nat_le, codes, decimal, true≢false, refl, sym, ap, ◌∙◌, subst, append-nil, arith}
use Rattle.std.specs.List.{Contains, slice_get}
use Rattle.std.specs.Option.{IfSome}
use Rattle.std.specs.Set.{is_member}
use Rattle.std.proofs.lemmas.Bool.{and_parts, eqb-false}
use Rattle.std.proofs.lemmas.Bool.Decides.{nat_tests}
use Rattle.std.proofs.lemmas.List.{take_all}
use Rattle.std.proofs.lemmas.Option.{none-some, slice_get_within}
use Rattle.transformations.proofs.histories.HistoryLemmas.{history_short}
use Rattle.transformations.proofs.histories.LogLemmas.{length-commands_of}
use Rattle.transformations.specs.History.{is_command, state_after}
use Rattle.transformations.specs.Log.{IsLog, are_numbered, commands_of, have_own_ids}
use Rattle.transformations.specs.declared.entry.Entry.{Entry}
use Rattle.transformations.specs.declared.image.Image.{Image}
use Rattle.catch_up.specs.declared.message.Reply.{Reply as CatchUpReply}
use Rattle.catch_up_laws.proofs.GivenLemmas.{reply_rises}
use Rattle.catch_up_laws.specs.Given.{given_reply}
use Rattle.epoch_log.specs.Epochs.{entry_at}
use Rattle.snapshot_store.proofs.EntryStates.{is_next}
use Rattle.follower_log.specs.Follower.{Performs, FollowerState, Handed, hand_entry, hand_valid}
use Rattle.follower_log.specs.Prefix.{IsImageOf, StandsAfter, StandsFor, Taken, has_entry, nothing_taken, with_entry, with_image}
use Rattle.follower_log.specs.declared.fault.FollowerFault.{FollowerFault}
use Rattle.follower_log.specs.declared.fault.FollowerFault.TheVariants.{Fork, Refused, BadImage, Memory, MemoryAt}
use Rattle.follower_log.specs.declared.took.Took.{Took}
use Rattle.follower_log.specs.declared.took.Took.TheVariants.{At, Old, Held, Full}
use Rattle.follower_log.proofs.AmongLemmas.{epoch_within}
use Rattle.follower_log.proofs.StepsCutShort.{CutsFrom, entry_from, valid_from}
use Rattle.follower_log.proofs.ShowsLemmas.{empty_stands}
use Rattle.script_lang.specs.Grammar.{line_of}
use Rattle.script_lang.specs.AnswerTexts.{epoch_text, no_text}
use Rattle.script_lang.specs.declared.script_line.ScriptLine.{ScriptLine}
use Rattle.script_lang.specs.declared.script_line.ScriptLine.TheVariants.{Commit, Follower, Deliver, Snapshot, Ask, Give, Place, Nodes, Quorum, Local}
use Rattle.script_session.specs.Machine.{Reply, SessionState, deliver_to, give_to, follower_named, follower_reply, follower_unless_full, handed_reply, handed_text, image_at, made_reply, most_followers, moved_reply, new_follower, no_epoch, on_follower, only_answers, reply, reply_numbered, reply_of, reply_to, snapshot_to, with_follower}
use Rattle.script_session.specs.StepEnds.{FollowsLog, ForgetsNothing, IsOnTheWay, StandsOn, Stops, StopsAny, handed_by}
use Rattle.script_session.specs.code.StepParts.{AllFollow, Alone, AnswersHanded, IsOfOneLog, OnlyAnswers, session_at}
use Rattle.script_session.specs.declared.fault.StepFault.{StepFault}
use Rattle.script_session.specs.declared.fault.StepFault.TheVariants as step
use Rattle.script_session.specs.declared.session.followers.NamedFollower.{NamedFollower}
use Rattle.script_session.proofs.followers.FollowerLemmas.{all_follow_pushed, all_follow_with, named, named_follows, named_name, placed, unplaced, with_itself, with_named}
use Rattle.script_session.proofs.steps.StepEndLemmas.{kept_before, replied_nothing}
use Rattle.script_session.proofs.followers.TakenLemmas.{entry_there, epoch_at}

-- ---- what was taken before

-- a follower that stays forgets nothing
pub forgets_nothing : (log : List Entry) (f : FollowerState) → ForgetsNothing log f f
forgets_nothing log f = λ taken stands. record { more = taken; entries = λ e is. is; images = λ e is. is; stands = stands }

-- with one entry or one image more, the others are still taken
or_right : (b c : Bool) → c ≡ true → (b || c) ≡ true
or_right true c is = refl
or_right false c is = is

or_twice : (a b c : Bool) → (a || c) ≡ true → (a || (b || c)) ≡ true
or_twice true b c is = refl
or_twice false b c is = or_right b c is

pub on_with_entry : (log : List Entry) (taken : Taken) (epoch : ℕ) (f : FollowerState) → StandsFor log (with_entry taken epoch) f → StandsOn log taken f
on_with_entry log taken epoch f stands =
    record { more = with_entry taken epoch; entries = λ e is. or_right (nat_eq e epoch) (has_entry taken e) is; images = λ e is. is; stands = stands }

pub on_with_image : (log : List Entry) (taken : Taken) (epoch : ℕ) (f : FollowerState) → StandsFor log (with_image taken epoch) f → StandsOn log taken f
on_with_image log taken epoch f stands =
    record { more = with_image taken epoch; entries = λ e is. is; images = λ e is. or_twice (nat_eq e 0) (nat_eq e epoch) (is_member nat_eq taken.images e) is; stands = stands }

-- after what a call leaves nothing is forgotten
pub kept_shown : (log : List Entry) (taken after : Taken) (handed : Result Took FollowerFault) (at : FollowerState) → (StandsFor log after at → StandsOn log taken at) → StandsAfter log taken after handed at → StandsOn log taken at
kept_shown log taken after (Ok (At e)) at on shows = on shows.0
kept_shown log taken after (Ok (Old e)) at on shows = on shows
kept_shown log taken after (Ok (Held e)) at on shows = on shows
kept_shown log taken after (Ok (Full e)) at on shows = forgets_nothing log at taken shows
kept_shown log taken after (Err (MemoryAt e)) at on shows = on shows
kept_shown log taken after (Err Memory) at on shows = forgets_nothing log at taken shows
kept_shown log taken after (Err (Fork e held came)) at on shows = absurd shows
kept_shown log taken after (Err (Refused e r)) at on shows = absurd shows
kept_shown log taken after (Err (BadImage bad)) at on shows = absurd shows

-- ---- a line that only answers

-- the follower that the line hands something to stays
stops_here : (session : SessionState) (name : List ℕ) (f : NamedFollower) → AllFollow session.log session.followers → follower_named session.followers name ≡ Some f → Stops f session session.followers session
stops_here session name f all found =
    let called : f.name ≡ name = named_name session.followers name f found in
    let again : follower_named session.followers f.name ≡ Some f = ap (follower_named session.followers) called ∙ found in
    record {
      at = f.follower;
      is = ap (λ fs. record session { followers = fs }) (sym (with_itself session.followers f.name f again));
      between = subst (λ o. IfSome o (λ (g : NamedFollower). IsOnTheWay session.log f.follower g.follower f.follower)) (sym again)
          (record { from = omega arith; to = omega arith; follows = named_follows session.log session.followers name f all found; keeps = forgets_nothing session.log f.follower });
    }

pub only_alone : {T : Type 0} (session : SessionState) (handed : Option NamedFollower) (text out out' : List ℕ) (r : Result T StepFault) → StopsAny handed session session.followers session
    → OnlyAnswers text out out' r → Alone handed (only_answers session text) (session_at session out) (session_at session out') r
only_alone session handed text out out' (Ok x) stops only =
    record { added = refl; text = only.answered; kept = only.kept; next = replied_nothing session (only_answers session text) refl refl refl; left = tt; memory = tt }
only_alone session handed text out out' (Err e) stops only =
    record { added = refl; text = tt; kept = only.kept; next = tt; left = stops; memory = only.memory }

-- ---- by the follower that is named

alone_found : {T : Type 0} (session session' : SessionState) (name : List ℕ) (out out' : List ℕ) (r : Result T StepFault) (reply : FollowerState → Reply) (f : NamedFollower) → follower_named session.followers name ≡ Some f
    → Alone (Some f) (reply f.follower) (session_at session out) (session_at session' out') r → Alone (follower_named session.followers name) (on_follower session name reply) (session_at session out) (session_at session' out') r
alone_found session session' name out out' r reply f found alone = subst (λ o. Alone o (reply_of session o reply) (session_at session out) (session_at session' out') r) (sym found) alone

-- ---- something is handed over

-- the follower after it follows the log
pub follows_shown : (log : List Entry) (before after : Taken) (handed : Result Took FollowerFault) (at : FollowerState) → StandsAfter log before after handed at → FollowsLog log at
follows_shown log before after (Ok (At e)) at shows = record { taken = after; stands = shows.0 }
follows_shown log before after (Ok (Old e)) at shows = record { taken = after; stands = shows }
follows_shown log before after (Ok (Held e)) at shows = record { taken = after; stands = shows }
follows_shown log before after (Ok (Full e)) at shows = record { taken = before; stands = shows }
follows_shown log before after (Err (MemoryAt e)) at shows = record { taken = after; stands = shows }
follows_shown log before after (Err Memory) at shows = record { taken = before; stands = shows }
follows_shown log before after (Err (Fork e held came)) at shows = absurd shows
follows_shown log before after (Err (Refused e r)) at shows = absurd shows
follows_shown log before after (Err (BadImage bad)) at shows = absurd shows

pub one_log_shown : (log : List Entry) (before after : Taken) (handed : Result Took FollowerFault) (at : FollowerState) → StandsAfter log before after handed at → IsOfOneLog handed
one_log_shown log before after (Ok took) at shows = tt
one_log_shown log before after (Err (MemoryAt e)) at shows = tt
one_log_shown log before after (Err Memory) at shows = tt
one_log_shown log before after (Err (Fork e held came)) at shows = absurd shows
one_log_shown log before after (Err (Refused e r)) at shows = absurd shows
one_log_shown log before after (Err (BadImage bad)) at shows = absurd shows

-- where it stops if memory runs out
pub is_between : (log : List Entry) (f at : FollowerState) (step : Handed) (handed : Result Took FollowerFault) → CutsFrom f.image.epoch step → FollowsLog log at → ForgetsNothing log f at → Performs f step handed at → IsOnTheWay log f step.after at
is_between log f at step handed cuts follows keeps comes = by handed comes
  where
    there : at ≡ step.after → IsOnTheWay log f step.after at
    there is = record { from = omega (arith, cuts.up, ap (λ (g : FollowerState). g.image.epoch) is); to = omega (arith, ap (λ (g : FollowerState). g.image.epoch) is); follows = follows; keeps = keeps }

    by : (handed : Result Took FollowerFault) → Performs f step handed at → IsOnTheWay log f step.after at
    by (Ok took) comes = there comes.1
    by (Err (Fork e held came)) comes = there comes.1
    by (Err (Refused e r)) comes = there comes.1
    by (Err (BadImage bad)) comes = there comes.1
    by (Err Memory) comes = record { from = omega (arith, ap (λ (g : FollowerState). g.image.epoch) comes); to = omega (arith, cuts.up, ap (λ (g : FollowerState). g.image.epoch) comes); follows = follows; keeps = keeps }
    by (Err (MemoryAt e)) comes = record { from = (cuts.cuts e at comes).0; to = (cuts.cuts e at comes).1; follows = follows; keeps = keeps }

-- a result that isn't a fault
record Took_so (f at : FollowerState) (step : Handed) (handed : Result Took FollowerFault) : Type 0 where
  answer : handed ≡ step.answer
  after : at ≡ step.after

took_so : (f at : FollowerState) (step : Handed) (handed : Result Took FollowerFault) → IsOk handed → Performs f step handed at → Took_so f at step handed
took_so f at step (Ok took) ok comes = record { answer = comes.0; after = comes.1 }
took_so f at step (Err e) ok comes = absurd (true≢false (sym ok))

-- a follower comes to where a line leads it, or stops on the way
alone_way : {T : Type 0} (session session' : SessionState) (name : List ℕ) (f : NamedFollower) (at due : FollowerState) (text out out' : List ℕ) (r : Result T StepFault)
    → follower_named session.followers name ≡ Some f → session' ≡ record session { followers = with_follower session.followers name at }
    → IsOnTheWay session.log f.follower due at → OnOk r (at ≡ due) → OnlyAnswers text out out' r → Alone (Some f) (moved_reply session name text due) (session_at session out) (session_at session' out') r
alone_way session session' name f at due text out out' (Ok x) found is way comes only =
    let log : session.log ≡ session.log ++ [] = sym (append-nil session.log) in
    record {
      added = refl;
      text = only.answered;
      kept = only.kept;
      next = is ∙ (λ i. record { log = log i; followers = with_follower session.followers name (comes i); replies = session.replies });
      left = tt;
      memory = tt;
    }
alone_way session session' name f at due text out out' (Err e) found is way comes only =
    let called : f.name ≡ name = named_name session.followers name f found in
    let after : follower_named (with_follower session.followers name due) f.name ≡ Some (record f { follower = due }) =
    ap (follower_named (with_follower session.followers name due)) called ∙ with_named session.followers name f due found in
    record {
      added = refl;
      text = tt;
      kept = only.kept;
      next = tt;
      left = record {
        at = at;
        is = is ∙ ap (λ n. record session { followers = with_follower session.followers n at }) (sym called);
        between = subst (λ o. IfSome o (λ (g : NamedFollower). IsOnTheWay session.log f.follower g.follower at)) (sym after) way;
      };
      memory = only.memory;
    }

alone_handed : {T : Type 0} (session session' : SessionState) (name : List ℕ) (f : NamedFollower) (at : FollowerState) (step : Handed) (handed : Result Took FollowerFault) (out out' : List ℕ) (r : Result T StepFault)
    → follower_named session.followers name ≡ Some f → session' ≡ record session { followers = with_follower session.followers name at }
    → CutsFrom f.follower.image.epoch step → FollowsLog session.log at → ForgetsNothing session.log f.follower at → Performs f.follower step handed at → AnswersHanded handed out out' r
    → Alone (Some f) (handed_reply session name step) (session_at session out) (session_at session' out') r
alone_handed session session' name f at step handed out out' r found is cuts follows keeps comes answers =
    alone_way session session' name f at step.after (handed_text step.answer) out out' r found is (is_between session.log f.follower at step handed cuts follows keeps comes) (came r answers) (only r answers)
  where
    came : {T : Type 0} (r : Result T StepFault) → AnswersHanded handed out out' r → OnOk r (at ≡ step.after)
    came (Ok x) answers = (took_so f.follower at step handed answers.took comes).after
    came (Err e) answers = tt

    only : {T : Type 0} (r : Result T StepFault) → AnswersHanded handed out out' r → OnlyAnswers (handed_text step.answer) out out' r
    only (Ok x) answers =
        record { answered = answers.text ∙ ap (λ a. out ++ handed_text a) (took_so f.follower at step handed answers.took comes).answer; kept = answers.kept; memory = tt }
    only (Err e) answers = record { answered = tt; kept = answers.kept; memory = answers.memory }

-- ---- the follower at a place

-- the first follower with a name, which is at a place
pub record HasFollower (session : SessionState) (name : List ℕ) (place : ℕ) (f : NamedFollower) : Type 0 where
  pub found : follower_named session.followers name ≡ Some f
  pub moved : (x : FollowerState) → set session.followers place (record f { follower = x }) ≡ with_follower session.followers name x
  pub follows : FollowsLog session.log f.follower

pub has_follower : (session : SessionState) (name : List ℕ) (place : ℕ) (f d : NamedFollower) (fs : List NamedFollower) → AllFollow session.log session.followers → fs ≡ session.followers → Some place ≡ position (named name) fs
    → f ≡ get_or session.followers place d → HasFollower session name place f
has_follower session name place f d fs all same at is =
    let it = placed name session.followers place (sym (at ∙ ap (position (named name)) same)) in
    let found : follower_named session.followers name ≡ Some f = it.found d ∙ ap Some (sym is) in
    record {
      found = found;
      moved = λ x. ap (λ (g : NamedFollower). set session.followers place (record g { follower = x })) is ∙ it.moved d x;
      follows = named_follows session.log session.followers name f all found;
    }

follower_at : (session : SessionState) (name : List ℕ) (place : ℕ) (fs : List NamedFollower) → AllFollow session.log session.followers → fs ≡ session.followers → Some place ≡ position (named name) fs → (f : NamedFollower) × HasFollower session name place f
follower_at session name place fs all same at = by session.followers refl
  where
    by : (gs : List NamedFollower) → session.followers ≡ gs → (f : NamedFollower) × HasFollower session name place f
    by [] none = absurd (none-some place (sym (at ∙ ap (position (named name)) (same ∙ none))))
    by (g ∷ gs) some = (get_or session.followers place g, has_follower session name place (get_or session.followers place g) g fs all same at refl)

-- it was handed something of the log
pub record IsHanded (session : SessionState) (name : List ℕ) (place : ℕ) (f : NamedFollower) (x : FollowerState) (handed : Result Took FollowerFault) : Type 0 where
  pub has : HasFollower session name place f
  pub of_log : IsOfOneLog handed
  pub follows : FollowsLog session.log x
  pub keeps : ForgetsNothing session.log f.follower x
  pub all : AllFollow session.log (set session.followers place (record f { follower = x }))

module _ (session : SessionState) (name : List ℕ) (place : ℕ) (f d : NamedFollower) (x : FollowerState) (handed : Result Took FollowerFault) (fs : List NamedFollower) (all : AllFollow session.log session.followers) (same : fs ≡ session.followers)
    (at : Some place ≡ position (named name) fs) (is : f ≡ get_or session.followers place d) where
  passed_on : (after : Taken → Taken) → ((taken : Taken) → StandsFor session.log (after taken) x → StandsOn session.log taken x) → ((taken : Taken) → StandsFor session.log taken f.follower → StandsAfter session.log taken (after taken) handed x)
      → IsHanded session name place f x handed
  passed_on after on shows =
      let has = has_follower session name place f d fs all same at is in
      let taken = has.follows.taken in
      let shown = shows taken has.follows.stands in
      let follows = follows_shown session.log taken (after taken) handed x shown in
      record {
        has = has;
        of_log = one_log_shown session.log taken (after taken) handed x shown;
        follows = follows;
        keeps = λ taken stands. kept_shown session.log taken (after taken) handed x (on taken) (shows taken stands);
        all = subst (AllFollow session.log) (sym (has.moved x)) (all_follow_with session.log session.followers name x all follows);
      }

  pub entry_handed : (epoch : ℕ) → ((taken : Taken) → StandsFor session.log taken f.follower → StandsAfter session.log taken (with_entry taken epoch) handed x) → IsHanded session name place f x handed
  entry_handed epoch = passed_on (λ taken. with_entry taken epoch) (λ taken. on_with_entry session.log taken epoch x)

  pub image_handed : (epoch : ℕ) → ((taken : Taken) → StandsFor session.log taken f.follower → StandsAfter session.log taken (with_image taken epoch) handed x) → IsHanded session name place f x handed
  image_handed epoch = passed_on (λ taken. with_image taken epoch) (λ taken. on_with_image session.log taken epoch x)

-- ---- by the session as its callers see it

module _ {T : Type 0} (reply : SessionState → FollowerState → Reply) (session seen : SessionState) (name out out' : List ℕ) (r : Result T StepFault) (view : session ≡ seen) where
  unmoved : Alone (follower_named session.followers name) (on_follower session name (reply session)) (session_at session out) (session_at session out') r → Alone (follower_named seen.followers name) (on_follower seen name (reply seen)) (session_at seen out) (session_at seen out') r
  unmoved alone = subst (λ s. Alone (follower_named s.followers name) (on_follower s name (reply s)) (session_at s out) (session_at s out') r) view alone

  -- no follower has the name
  pub alone_missing : (fs : List NamedFollower) → fs ≡ session.followers → None ≡ position (named name) fs → OnlyAnswers (no_text (codes "FOLLOWER")) out out' r
      → Alone (follower_named seen.followers name) (on_follower seen name (reply seen)) (session_at seen out) (session_at seen out') r
  alone_missing fs same at only =
      unmoved (subst (λ o. Alone o (reply_of session o (reply session)) (session_at session out) (session_at session out') r) (sym (unplaced name session.followers (sym (at ∙ ap (position (named name)) same))))
      (only_alone session None (no_text (codes "FOLLOWER")) out out' r refl only))

  -- a follower has the name, and the line is refused
  pub alone_refused : (place : ℕ) (fs : List NamedFollower) (text : List ℕ) → AllFollow session.log session.followers → fs ≡ session.followers → Some place ≡ position (named name) fs
      → ((f : FollowerState) → reply session f ≡ only_answers session text) → OnlyAnswers text out out' r
      → Alone (follower_named seen.followers name) (on_follower seen name (reply seen)) (session_at seen out) (session_at seen out') r
  alone_refused place fs text all same at refused only =
      let it = follower_at session name place fs all same at in
      unmoved (alone_found session session name out out' r (reply session) it.0 it.1.found
      (subst (λ a. Alone (Some it.0) a (session_at session out) (session_at session out') r) (sym (refused it.0.follower))
      (only_alone session (Some it.0) text out out' r (stops_here session name it.0 all it.1.found) only)))

  -- the epoch hasn't come
  pub alone_past : (place last : ℕ) (fs : List NamedFollower) → AllFollow session.log session.followers → fs ≡ session.followers → Some place ≡ position (named name) fs → last ≡ length session.log
      → ((f : FollowerState) → reply session f ≡ only_answers session (no_text (no_epoch (commands_of session.log)))) → OnlyAnswers (no_text (codes "EPOCH " ++ decimal last)) out out' r
      → Alone (follower_named seen.followers name) (on_follower seen name (reply seen)) (session_at seen out) (session_at seen out') r
  alone_past place last fs all same at is past only =
      let text : no_text (codes "EPOCH " ++ decimal last) ≡ no_text (no_epoch (commands_of session.log)) = ap (λ (n : ℕ). no_text (codes "EPOCH " ++ decimal n)) (is ∙ sym (length-commands_of session.log)) in
      alone_refused place fs (no_text (no_epoch (commands_of session.log))) all same at past (subst (λ t. OnlyAnswers t out out' r) text only)

  -- the follower is led on, and the line is answered
  pub alone_led : (place : ℕ) (f : NamedFollower) (x due : FollowerState) (text : List ℕ) → HasFollower session name place f → reply session f.follower ≡ moved_reply session name text due → IsOnTheWay session.log f.follower due x
      → OnOk r (x ≡ due) → OnlyAnswers text out out' r
      → Alone (follower_named seen.followers name) (on_follower seen name (reply seen)) (session_at seen out) (session_at (record session { followers = set session.followers place (record f { follower = x }) }) out') r
  alone_led place f x due text has is way comes only =
      let after : SessionState = record session { followers = set session.followers place (record f { follower = x }) } in
      subst (λ s. Alone (follower_named s.followers name) (on_follower s name (reply s)) (session_at s out) (session_at after out') r) view
      (alone_found session after name out out' r (reply session) f has.found
      (subst (λ a. Alone (Some f) a (session_at session out) (session_at after out') r) (sym is)
      (alone_way session after name f x due text out out' r has.found (ap (λ fs. record session { followers = fs }) (has.moved x)) way comes only)))

  -- something was handed over, and the line is answered
  pub alone_moved : (place : ℕ) (f : NamedFollower) (x : FollowerState) (step : Handed) (handed : Result Took FollowerFault) → IsHanded session name place f x handed → reply session f.follower ≡ handed_reply session name step → CutsFrom f.follower.image.epoch step
      → Performs f.follower step handed x → AnswersHanded handed out out' r
      → Alone (follower_named seen.followers name) (on_follower seen name (reply seen)) (session_at seen out) (session_at (record session { followers = set session.followers place (record f { follower = x }) }) out') r
  alone_moved place f x step handed it is cuts comes answers =
      let after : SessionState = record session { followers = set session.followers place (record f { follower = x }) } in
      subst (λ s. Alone (follower_named s.followers name) (on_follower s name (reply s)) (session_at s out) (session_at after out') r) view
      (alone_found session after name out out' r (reply session) f it.has.found
      (subst (λ a. Alone (Some f) a (session_at session out) (session_at after out') r) (sym is)
      (alone_handed session after name f x step handed out out' r it.has.found (ap (λ fs. record session { followers = fs }) (it.has.moved x)) cuts it.follows it.keeps comes answers)))

-- ---- what is handed over

-- an entry of a log
pub record IsLogEntry (log : List Entry) (entry : Entry) : Type 0 where
  pub formed : is_command entry.cmd ≡ true
  pub epoch : entry.epoch ≤ 65536
  pub among : Contains log entry

pub entry_of : (log : List Entry) (epoch : ℕ) (entry : Entry) → IsLog log → entry_at log epoch ≡ Some entry → IsLogEntry log entry
entry_of log epoch entry is at = by (epoch == 0) refl at
  where
    by : (b : Bool) → (epoch == 0) ≡ b → (if b then None else slice_get log (epoch - 1)) ≡ Some entry → IsLogEntry log entry
    by true zero there = absurd (none-some entry there)
    by false past there =
        let next : epoch - 1 + 1 ≡ epoch = omega (arith, eqb-false epoch 0 past) in
        let again : Some entry ≡ entry_at log (epoch - 1 + 1) = sym (ap (entry_at log) next ∙ at) in
        let among = entry_there log epoch entry at in
        let numbered = (and_parts (are_numbered 1 log) (have_own_ids log) is.entries).0 in
        record {
          formed = (is_next log (epoch - 1) entry (slice_get_within log (epoch - 1) entry there) again (state_after (commands_of log) (epoch - 1)) is.history refl).formed;
          epoch = omega (arith, (epoch_within 1 log entry numbered among).1, history_short (commands_of log) is.history, length-commands_of log);
          among = among;
        }

-- a state of a log
pub image_of_log : (log : List Entry) (epoch : ℕ) (image : Image) → epoch ≤ length log → image ≡ state_after (commands_of log) epoch → IsImageOf log image
image_of_log log epoch image within is =
    let at : image.epoch ≡ epoch = ap (λ (i : Image). i.epoch) is ∙ epoch_at (commands_of log) epoch (omega (arith, within, length-commands_of log)) in
    record { within = omega (arith, at, within); state = is ∙ ap (state_after (commands_of log)) (sym at) }

-- the image of an epoch that has come, and of one that hasn't
pub image_come : (log : List Entry) (epoch : ℕ) (image : Image) → epoch ≤ length log → image ≡ state_after (commands_of log) epoch → image_at (commands_of log) epoch ≡ Ok image
image_come log epoch image within is =
    let come : nat_le epoch (length (commands_of log)) ≡ true = (let low : epoch ≤ length (commands_of log) = omega (arith, within, length-commands_of log) in grind (arith, nat_tests)) in
    ap (λ b. if b then Ok (state_after (commands_of log) epoch) else Err (no_epoch (commands_of log))) come ∙ ap Ok (sym is)

pub image_past : (log : List Entry) (epoch : ℕ) → length log < epoch → image_at (commands_of log) epoch ≡ Err (no_epoch (commands_of log))
image_past log epoch past =
    let short : nat_le epoch (length (commands_of log)) ≡ false = (let high : length (commands_of log) < epoch = omega (arith, past, length-commands_of log) in grind (arith, nat_tests)) in
    ap (λ b. if b then Ok (state_after (commands_of log) epoch) else Err (no_epoch (commands_of log))) short

-- ---- a follower is made

module _ (session : SessionState) (name : List ℕ) where
  taken_or_not : (b : Bool) → is_some (follower_named session.followers name) ≡ b → follower_reply session name ≡ (if b then only_answers session (no_text (codes "FOLLOWER-TAKEN")) else follower_unless_full session name)
  taken_or_not b is = ap (λ b. if b then only_answers session (no_text (codes "FOLLOWER-TAKEN")) else follower_unless_full session name) is

  full_or_not : (b : Bool) → nat_le most_followers (length session.followers) ≡ b → follower_unless_full session name ≡ (if b then only_answers session (no_text (codes "FOLLOWERS-FULL")) else made_reply session name)
  full_or_not b is = ap (λ b. if b then only_answers session (no_text (codes "FOLLOWERS-FULL")) else made_reply session name) is

  pub reply_taken : is_some (follower_named session.followers name) ≡ true → follower_reply session name ≡ only_answers session (no_text (codes "FOLLOWER-TAKEN"))
  reply_taken taken = taken_or_not true taken

  pub reply_full : is_some (follower_named session.followers name) ≡ false → 16 ≤ length session.followers → follower_reply session name ≡ only_answers session (no_text (codes "FOLLOWERS-FULL"))
  reply_full free full = taken_or_not false free ∙ full_or_not true (grind (arith, nat_tests))

  pub reply_made : is_some (follower_named session.followers name) ≡ false → length session.followers < 16 → follower_reply session name ≡ made_reply session name
  reply_made free few = taken_or_not false free ∙ full_or_not false (grind (arith, nat_tests))

pub alone_made : {T : Type 0} (session seen : SessionState) (name : List ℕ) (fs : List NamedFollower) (out out' : List ℕ) (x : T) → session ≡ seen → follower_reply session name ≡ made_reply session name
    → fs ≡ session.followers ++ new_follower name ∷ [] → out' ≡ out ++ epoch_text (codes "AT") 0 → Alone None (follower_reply seen name) (session_at seen out) (session_at (record session { followers = fs }) out') (Ok x)
alone_made session seen name fs out out' x view is made text =
    let log : session.log ≡ session.log ++ [] = sym (append-nil session.log) in
    subst (λ s. Alone None (follower_reply s name) (session_at s out) (session_at (record session { followers = fs }) out') (Ok x)) view
    (subst (λ a. Alone None a (session_at session out) (session_at (record session { followers = fs }) out') (Ok x)) (sym is)
    (record {
      added = refl;
      text = text;
      kept = kept_before out (epoch_text (codes "AT") 0) out' text;
      next = (λ i. record { log = log i; followers = made i; replies = session.replies });
      left = tt;
      memory = tt;
    }))

-- a line that makes no follower
pub alone_unmade : {T : Type 0} (session seen : SessionState) (name text out out' : List ℕ) (r : Result T StepFault) → session ≡ seen → follower_reply session name ≡ only_answers session text → OnlyAnswers text out out' r
    → Alone None (follower_reply seen name) (session_at seen out) (session_at seen out') r
alone_unmade session seen name text out out' r view is only =
    subst (λ s. Alone None (follower_reply s name) (session_at s out) (session_at s out') r) view
    (subst (λ a. Alone None a (session_at session out) (session_at session out') r) (sym is) (only_alone session None text out out' r refl only))

pub made_follows : (log : List Entry) (name : List ℕ) (fs fs' : List NamedFollower) → AllFollow log fs → fs' ≡ fs ++ new_follower name ∷ [] → AllFollow log fs'
made_follows log name fs fs' all is =
    subst (AllFollow log) (sym is) (all_follow_pushed log fs (new_follower name) all (record { taken = nothing_taken; stands = empty_stands log }))

-- memory ran out before the image of an epoch was made
pub alone_unhanded : {T : Type 0} (session seen : SessionState) (name : List ℕ) (place epoch : ℕ) (out : List ℕ) (r : Result T StepFault) (fs : List NamedFollower) → session ≡ seen → AllFollow session.log session.followers → fs ≡ session.followers
    → Some place ≡ position (named name) fs → epoch ≤ length session.log → IsErrAnd r (λ e. e ≡ step.Memory)
    → Alone (follower_named seen.followers name) (on_follower seen name (λ f. snapshot_to seen name f (image_at (commands_of seen.log) epoch))) (session_at seen out) (session_at seen out) r
alone_unhanded session seen name place epoch out (Ok x) fs view all same at within memory = absurd memory
alone_unhanded {T} session seen name place epoch out (Err e) fs view all same at within memory =
    let image : Image = state_after (commands_of session.log) epoch in
    let reply : SessionState → FollowerState → Reply = λ s f. snapshot_to s name f (image_at (commands_of s.log) epoch) in
    let it = follower_at session name place fs all same at in
    let f = it.0 in
    let handed : reply session f.follower ≡ handed_reply session name (hand_valid f.follower image) = ap (snapshot_to session name f.follower) (image_come session.log epoch image within refl) in
    unmoved reply session seen name out out (Err e) view (alone_found session session name out out (Err e) (reply session) f it.1.found
    (subst (λ a. Alone {T = T} (Some f) a (session_at session out) (session_at session out) (Err e)) (sym handed)
    (alone_handed session session name f f.follower (hand_valid f.follower image) (Err Memory) out out (Err e) it.1.found
    (ap (λ fs. record session { followers = fs }) (sym (with_itself session.followers name f it.1.found)))
    (valid_from f.follower image) it.1.follows (forgets_nothing session.log f.follower) refl (record { took = tt; text = tt; kept = take_all (length out) out (omega arith); memory = memory }))))

-- ---- memory ran out before a line was read

-- the follower that is to be led on stays
stops_before : (session : SessionState) (name : List ℕ) (f : NamedFollower) (due : FollowerState) → AllFollow session.log session.followers → follower_named session.followers name ≡ Some f → f.follower.image.epoch ≤ due.image.epoch
    → Stops f session (with_follower session.followers name due) session
stops_before session name f due all found up =
    let here = stops_here session name f all found in
    let called : f.name ≡ name = named_name session.followers name f found in
    let after : follower_named (with_follower session.followers name due) f.name ≡ Some (record f { follower = due }) =
    ap (follower_named (with_follower session.followers name due)) called ∙ with_named session.followers name f due found in
    let again : follower_named session.followers f.name ≡ Some f = ap (follower_named session.followers) called ∙ found in
    record {
      at = f.follower;
      is = ap (λ fs. record session { followers = fs }) (sym (with_itself session.followers f.name f again));
      between = subst (λ o. IfSome o (λ (g : NamedFollower). IsOnTheWay session.log f.follower g.follower f.follower)) (sym after)
          (record { from = omega arith; to = up; follows = named_follows session.log session.followers name f all found; keeps = forgets_nothing session.log f.follower });
    }

stops_delivered : (session : SessionState) (name : List ℕ) (o : Option NamedFollower) (there : Option Entry) → AllFollow session.log session.followers → follower_named session.followers name ≡ o
    → StopsAny o session (reply_of session o (λ f. deliver_to session name f there)).followers session
stops_delivered session name None there all found = refl
stops_delivered session name (Some f) None all found = stops_here session name f all found
stops_delivered session name (Some f) (Some entry) all found = stops_before session name f (hand_entry f.follower entry).after all found (entry_from f.follower entry).up

stops_imaged : (session : SessionState) (name : List ℕ) (o : Option NamedFollower) (there : Result Image (List ℕ)) → AllFollow session.log session.followers → follower_named session.followers name ≡ o
    → StopsAny o session (reply_of session o (λ f. snapshot_to session name f there)).followers session
stops_imaged session name None there all found = refl
stops_imaged session name (Some f) (Err reason) all found = stops_here session name f all found
stops_imaged session name (Some f) (Ok image) all found = stops_before session name f (hand_valid f.follower image).after all found (valid_from f.follower image).up

stops_given : (session : SessionState) (name : List ℕ) (o : Option NamedFollower) (there : Option CatchUpReply) → AllFollow session.log session.followers → follower_named session.followers name ≡ o
    → StopsAny o session (reply_of session o (λ f. give_to session name f there)).followers session
stops_given session name None there all found = refl
stops_given session name (Some f) None all found = stops_here session name f all found
stops_given session name (Some f) (Some given) all found = stops_before session name f (given_reply f.follower given) all found (reply_rises f.follower given)

stops_said : (session : SessionState) (said : Option ScriptLine) → AllFollow session.log session.followers → StopsAny (handed_by session said) session (reply_to session said).followers session
stops_said session None all = refl
stops_said session (Some (Commit id command)) all = refl
stops_said session (Some (Follower name)) all = refl
stops_said session (Some (Deliver name epoch)) all = stops_delivered session name (follower_named session.followers name) (entry_at session.log epoch) all refl
stops_said session (Some (Snapshot name epoch)) all = stops_imaged session name (follower_named session.followers name) (image_at (commands_of session.log) epoch) all refl
stops_said session (Some (Ask name max)) all = refl
stops_said session (Some (Give name number)) all = stops_given session name (follower_named session.followers name) (reply_numbered session.replies number) all refl
stops_said session (Some (Place target name)) all = refl
stops_said session (Some (Nodes target)) all = refl
stops_said session (Some (Quorum target name t)) all = refl
stops_said session (Some (Local target name dc t)) all = refl

pub stops_unread : (session : SessionState) (bytes : List ℕ) → AllFollow session.log session.followers → StopsAny (handed_by session (line_of bytes)) session (reply session bytes).followers session
unfolding reply
stops_unread session bytes all = stops_said session (line_of bytes) all
