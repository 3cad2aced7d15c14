-- Replies that a line asks for, and that a later line gives: where they lead.
use Rattle.std.proofs.Common.{◌≡◌, ℕ, ◌+◌, ◌-◌, ◌≤◌, ◌<◌, ◌==◌, Bool, true, false, if◌then◌else◌, List, [], ◌∷◌, ◌++◌, append-nil, append_assoc, length, length-append, min, nat_le, codes, take, Option, Some, None, Result, Ok, Err, refl, sym, ap, ◌∙◌, subst, arith}
use Rattle.std.proofs.Math.Seq.{get_or-append_seam}
use Rattle.std.proofs.lemmas.Bool.Decides.{nat_tests}
use Rattle.std.proofs.lemmas.List.{get_or_append_left, take-append-le, take_all}
use Rattle.std.proofs.lemmas.Option.{get_or_from_slice_get, slice_get-get_or, slice_get_within}
use Rattle.std.specs.List.{slice_get}
use Rattle.catch_up.specs.Replies.{IsReplyFrom, catch_up_reply}
use Rattle.catch_up.specs.declared.message.Reply.{Reply as CatchUpReply}
use Rattle.catch_up_laws.specs.Given.{given_reply}
use Rattle.epoch_log.specs.Epochs.{entry_at}
use Rattle.follower_log.proofs.ShowsLemmas.{prefix_ends}
use Rattle.follower_log.specs.Follower.{FollowerState}
use Rattle.follower_log.specs.Prefix.{nothing_taken}
use Rattle.transformations.specs.Log.{commands_of}
use Rattle.transformations.specs.declared.entry.Entry.{Entry}
use Rattle.transformations.specs.declared.image.Image.{Image}
use Rattle.script_lang.specs.AnswerTexts.{no_text}
use Rattle.script_lang.specs.Grammar.{line_of}
use Rattle.script_lang.specs.declared.script_line.ScriptLine.{ScriptLine}
use Rattle.script_lang.specs.declared.script_line.ScriptLine.TheVariants.{Commit, Follower, Deliver, Snapshot, Ask, Give, Place, Nodes, Quorum, Local}
use Rattle.script_session.specs.Machine.{Reply, SessionState, ask_of, asked_reply, deliver_to, entries_added, follower_named, give_to, image_at, most_replies, only_answers, replied, reply, reply_numbered, reply_of, reply_to, session_after, session_next, session_over, snapshot_to, with_follower}
use Rattle.script_session.specs.Taken.{taken_in}
use Rattle.script_session.specs.declared.session.followers.NamedFollower.{NamedFollower}
use Rattle.script_session.proofs.answers.AnswersLemmas.{session_after-append}
use Rattle.script_session.proofs.followers.FollowerLemmas.{named_within, with_itself, with_named}
use Rattle.script_session.proofs.steps.SessionLemmas.{IsSession, after_lines}
use Rattle.script_session.proofs.followers.TakenLemmas.{follower_cases}
use Rattle.session_laws.proofs.CatchUpLines.{NoNextWaits, none_falls, replies_from, replies_lead}
use Rattle.session_laws.proofs.TakenLines.{followers_show}
use Rattle.session_laws.specs.CatchUp.{AskedRepliesLead, BringsTo, IsAsked, IsLedBy, IsNotBefore, NoneFalls, RepliesSkipNothing}

-- ---- what is kept

-- the log goes on
pub log_grows : (s : SessionState) (lines : List (List ℕ)) → (session_after s lines).log ≡ s.log ++ entries_added s lines
log_grows s [] = sym (append-nil s.log)
log_grows s (bytes ∷ lines) = log_grows (session_next s bytes) lines ∙ append_assoc s.log (reply s bytes).added (entries_added (session_next s bytes) lines)

-- the reply with a number is still there
abbrev StillHas : List CatchUpReply → List CatchUpReply → Type 0
StillHas before after = (number : ℕ) (r : CatchUpReply) → reply_numbered before number ≡ Some r → reply_numbered after number ≡ Some r

get_front : (xs : List CatchUpReply) (new r : CatchUpReply) (at : ℕ) → slice_get xs at ≡ Some r → slice_get (xs ++ new ∷ []) at ≡ Some r
get_front xs new r at there =
    let within : at < length xs = slice_get_within xs at r there in
    slice_get-get_or (xs ++ new ∷ []) at r (omega (arith, within, length-append xs (new ∷ [])))
    ∙ ap Some (get_or_append_left xs (new ∷ []) r at within ∙ get_or_from_slice_get xs at r r there)

pushed_still : (xs : List CatchUpReply) (new : CatchUpReply) → StillHas xs (xs ++ new ∷ [])
pushed_still xs new = λ number r there. by number r (number == 0) there
  where
    by : (number : ℕ) (r : CatchUpReply) (b : Bool) → (if b then None else slice_get xs (number - 1)) ≡ Some r → (if b then None else slice_get (xs ++ new ∷ []) (number - 1)) ≡ Some r
    by number r true there = there
    by number r false there = get_front xs new r (number - 1) there

on_named_still : (session : SessionState) (hand : FollowerState → Reply) → ((f : FollowerState) → StillHas session.replies (hand f).replies) → (o : Option NamedFollower) → StillHas session.replies (reply_of session o hand).replies
on_named_still session hand each None = λ number r there. there
on_named_still session hand each (Some g) = each g.follower

deliver_still : (session : SessionState) (to : List ℕ) (f : FollowerState) (o : Option Entry) → StillHas session.replies (deliver_to session to f o).replies
deliver_still session to f None = λ number r there. there
deliver_still session to f (Some entry) = λ number r there. there

snapshot_still : (session : SessionState) (to : List ℕ) (f : FollowerState) (r : Result Image (List ℕ)) → StillHas session.replies (snapshot_to session to f r).replies
snapshot_still session to f (Err reason) = λ number r there. there
snapshot_still session to f (Ok image) = λ number r there. there

ask_still : (session : SessionState) (max : ℕ) (f : FollowerState) → StillHas session.replies (ask_of session max f).replies
ask_still session max f = by (nat_le most_replies (length session.replies))
  where
    by : (b : Bool) → StillHas session.replies (if b then only_answers session (no_text (codes "REPLIES-FULL")) else asked_reply session (catch_up_reply session.log f.image.epoch max)).replies
    by true = λ number r there. there
    by false = pushed_still session.replies (catch_up_reply session.log f.image.epoch max)

give_still : (session : SessionState) (to : List ℕ) (f : FollowerState) (o : Option CatchUpReply) → StillHas session.replies (give_to session to f o).replies
give_still session to f None = λ number r there. there
give_still session to f (Some given) = λ number r there. there

still_said : (session : SessionState) (said : Option ScriptLine) → StillHas session.replies (reply_to session said).replies
still_said session None = λ number r there. there
still_said session (Some (Commit id c)) = λ number r there. there
still_said session (Some (Follower name)) =
    follower_cases session name (λ r. StillHas session.replies r.replies) (λ number r there. there) (λ number r there. there) (λ number r there. there)
still_said session (Some (Deliver to epoch)) =
    on_named_still session (λ f. deliver_to session to f (entry_at session.log epoch)) (λ f. deliver_still session to f (entry_at session.log epoch)) (follower_named session.followers to)
still_said session (Some (Snapshot to epoch)) =
    on_named_still session (λ f. snapshot_to session to f (image_at (commands_of session.log) epoch)) (λ f. snapshot_still session to f (image_at (commands_of session.log) epoch)) (follower_named session.followers to)
still_said session (Some (Ask to max)) = on_named_still session (ask_of session max) (ask_still session max) (follower_named session.followers to)
still_said session (Some (Give to number)) =
    on_named_still session (λ f. give_to session to f (reply_numbered session.replies number)) (λ f. give_still session to f (reply_numbered session.replies number)) (follower_named session.followers to)
still_said session (Some (Place target name)) = λ number r there. there
still_said session (Some (Nodes target)) = λ number r there. there
still_said session (Some (Quorum target name t)) = λ number r there. there
still_said session (Some (Local target name dc t)) = λ number r there. there

still_line : (session : SessionState) (bytes : List ℕ) → StillHas session.replies (session_next session bytes).replies
unfolding reply
still_line session bytes = still_said session (line_of bytes)

still_lines : (session : SessionState) (lines : List (List ℕ)) → StillHas session.replies (session_after session lines).replies
still_lines session [] = λ number r there. there
still_lines session (bytes ∷ lines) = λ number r there. still_lines (session_next session bytes) lines number r (still_line session bytes number r there)

-- ---- a line that asks

not_zero : (at : ℕ) → (at + 1 == 0) ≡ false
not_zero at = grind (arith, nat_tests)

one_less : (at : ℕ) → at + 1 - 1 ≡ at
one_less at = omega arith

last_numbered : (xs : List CatchUpReply) (new : CatchUpReply) → reply_numbered (xs ++ new ∷ []) (length xs + 1) ≡ Some new
last_numbered xs new =
    ap (λ b. if b then None else slice_get (xs ++ new ∷ []) (length xs + 1 - 1)) (not_zero (length xs))
    ∙ ap (slice_get (xs ++ new ∷ [])) (one_less (length xs))
    ∙ slice_get-get_or (xs ++ new ∷ []) (length xs) new (omega (arith, length-append xs (new ∷ []))) ∙ ap Some (get_or-append_seam xs new [] new)

said_next : (session : SessionState) (bytes : List ℕ) (said : ScriptLine) → line_of bytes ≡ Some said → session_next session bytes ≡ replied session (reply_to session (Some said))
unfolding reply
said_next session bytes said is = ap (λ o. replied session (reply_to session o)) is

full_not : (most count : ℕ) → count < most → nat_le most count ≡ false
full_not most count room = grind (arith, nat_tests)

asked_next : (session : SessionState) (ask : List ℕ) (asking : NamedFollower) (max : ℕ) → IsAsked session ask asking max
    → session_next session ask ≡ replied session (asked_reply session (catch_up_reply session.log asking.follower.image.epoch max))
asked_next session ask asking max is =
    said_next session ask (Ask asking.name max) is.said
    ∙ ap (λ o. replied session (reply_of session o (ask_of session max))) is.named
    ∙ ap (λ b. replied session (if b then only_answers session (no_text (codes "REPLIES-FULL")) else asked_reply session (catch_up_reply session.log asking.follower.image.epoch max))) (full_not most_replies (length session.replies) is.room)

-- the reply that was asked for is there later, under its number
asked_there : (session : SessionState) (ask : List ℕ) (lines : List (List ℕ)) (asking : NamedFollower) (max : ℕ) → IsAsked session ask asking max
    → reply_numbered (session_after session (ask ∷ lines)).replies (length session.replies + 1) ≡ Some (catch_up_reply session.log asking.follower.image.epoch max)
asked_there session ask lines asking max is =
    let made = catch_up_reply session.log asking.follower.image.epoch max in
    still_lines (session_next session ask) lines (length session.replies + 1) made
    (ap (λ (s : SessionState). reply_numbered s.replies (length session.replies + 1)) (asked_next session ask asking max is) ∙ last_numbered session.replies made)

-- it is one from the log as it was when it was asked for
asked_from : (session : SessionState) (lines : List (List ℕ)) (since max : ℕ) → since ≤ length session.log → IsReplyFrom (session_after session lines).log (catch_up_reply session.log since max)
asked_from session lines since max within =
    record {
      last = length session.log;
      max = max;
      asked = within;
      within = omega (arith, ap length (log_grows session lines), length-append session.log (entries_added session lines));
      made = ap (λ (l : List Entry). catch_up_reply l since max) (sym (
          ap (take (length session.log)) (log_grows session lines)
          ∙ take-append-le (length session.log) session.log (entries_added session lines) (omega arith)
          ∙ take_all (length session.log) session.log (omega arith)));
    }

-- ---- a line that gives

given_next : (session : SessionState) (give : List ℕ) (given : NamedFollower) (number : ℕ) (made : CatchUpReply) → line_of give ≡ Some (Give given.name number)
    → follower_named session.followers given.name ≡ Some given → reply_numbered session.replies number ≡ Some made
    → session_next session give ≡ record session { followers = with_follower session.followers given.name (given_reply given.follower made) }
given_next session give given number made said named there =
    said_next session give (Give given.name number) said
    ∙ ap (λ o. replied session (reply_of session o (λ f. give_to session given.name f (reply_numbered session.replies number)))) named
    ∙ ap (λ o. replied session (give_to session given.name given.follower o)) there
    ∙ ap (λ l. record session { log = l; followers = with_follower session.followers given.name (given_reply given.follower made) }) (append-nil session.log)

module _ (session : SessionState) (give : List ℕ) (given : NamedFollower) (number : ℕ) (made : CatchUpReply) (said : line_of give ≡ Some (Give given.name number))
    (named : follower_named session.followers given.name ≡ Some given) (there : reply_numbered session.replies number ≡ Some made) where
  abbrev after : FollowerState
  after = given_reply given.follower made

  abbrev moved : SessionState
  moved = record session { followers = with_follower session.followers given.name after }

  found : follower_named (with_follower session.followers given.name after) given.name ≡ Some (record given { follower = after })
  found = with_named session.followers given.name given after named

  -- the same line again: nothing changes, if the follower doesn't
  given_again : given_reply after made ≡ after → session_next moved give ≡ moved
  given_again again =
      given_next moved give (record given { follower = after }) number made said found there
      ∙ ap (λ f. record moved { followers = with_follower moved.followers given.name f }) again
      ∙ ap (λ fs. record moved { followers = fs }) (with_itself moved.followers given.name (record given { follower = after }) found)

  brings : (epoch : ℕ) → epoch ≤ after.image.epoch → given_reply after made ≡ after → BringsTo session give given.name epoch
  brings epoch up again =
      let next : session_next session give ≡ moved = given_next session give given number made said named there in
      record {
        comes = subst (λ s. IsNotBefore s given.name epoch) (sym next) (record { named = record given { follower = after }; found = found; reached = up });
        again = subst (λ s. session_next s give ≡ s) (sym next) (given_again again);
      }

-- ---- both

asked_lead : (session : SessionState) → IsSession session → ((lines : List (List ℕ)) → NoNextWaits (session_after session lines)) → AskedRepliesLead session
unfolding asked_from
asked_lead session is none_waits = λ ask give lines asking given max asked there.
    let since = asking.follower.image.epoch in
    let made = catch_up_reply session.log since max in
    let later = session_after session (ask ∷ lines) in
    let number = length session.replies + 1 in
    let kept : reply_numbered later.replies number ≡ Some made = asked_there session ask lines asking max asked in
    let within : since ≤ length session.log = named_within session.log session.followers asking.name asking since is.follow asked.named refl in
    let leads : IsLedBy later.log made given.follower = replies_lead later (after_lines session (ask ∷ lines) is).is (none_waits (ask ∷ lines)) number made given.name given kept there.named there.reached in
    brings later give given number made there.said there.named kept (min (length session.log) (since + max))
    (leads.reaches (asked_from session (ask ∷ lines) since max within)) leads.again

-- a follower of a script shows the longest prefix of what it took, so its next entry doesn't wait
none_wait : (log : List Entry) (lines : List (List ℕ)) → IsSession (session_over log) → NoNextWaits (session_after (session_over log) lines)
none_wait log lines is = λ name f there. (
    let shows = followers_show log lines is lines [] (sym (append-nil lines)) name f there in
    (prefix_ends (session_after (session_over log) lines).log (taken_in (session_over log) name lines nothing_taken) f.follower (after_lines (session_over log) lines is).is.is_log shows.stands).0 shows.longest)

pub replies_skip_nothing : (log : List Entry) (lines : List (List ℕ)) → IsSession (session_over log) → RepliesSkipNothing log lines
replies_skip_nothing log lines is = λ front rest cut. (
    let at = session_after (session_over log) front in
    let here : IsSession at = (after_lines (session_over log) front is).is in
    record {
      made = replies_from at here;
      leads = replies_lead at here (none_wait log front is);
      asked = asked_lead at here (λ more. subst NoNextWaits (session_after-append (session_over log) front more) (none_wait log (front ++ more) is));
      rises = subst (λ s. NoneFalls at s) (sym (ap (session_after (session_over log)) cut ∙ session_after-append (session_over log) front rest)) (none_falls at rest);
    })
