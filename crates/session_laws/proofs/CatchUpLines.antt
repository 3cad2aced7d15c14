-- Replies in a session: where they lead followers, and that no follower goes back.
use Rattle.std.proofs.Common.{◌≡◌, ℕ, ◌+◌, ◌≤◌, Bool, true, false, if◌then◌else◌, List, [], ◌∷◌, ◌++◌, length, nat_le, codes, Option, Some, None, Result, Ok, Err, refl, sym, ap, ◌∙◌, subst, arith}
use Rattle.std.specs.Option.{option_or}
use Rattle.std.specs.Str.{bytes_eq}
use Rattle.std.proofs.lemmas.List.Folds.{find-append}
use Rattle.catch_up.specs.Replies.{IsReplyFrom, catch_up_reply}
use Rattle.catch_up.specs.declared.message.Reply.{Reply as CatchUpReply}
use Rattle.catch_up_laws.proofs.GivenLemmas.{reply_again, reply_ready, reply_rises}
use Rattle.catch_up_laws.proofs.PartLemmas.{part_leads, part_of}
use Rattle.catch_up_laws.specs.Given.{given_reply}
use Rattle.catch_up_laws.specs.Ready.{IsReadyAt}
use Rattle.epoch_log.specs.Epochs.{entry_at}
use Rattle.follower_log.proofs.StepsCutShort.{entry_from, valid_from}
use Rattle.follower_log.specs.Follower.{FollowerState, hand_entry, hand_valid, waiting_at}
use Rattle.transformations.specs.Log.{commands_of}
use Rattle.transformations.specs.declared.entry.Entry.{Entry}
use Rattle.transformations.specs.declared.image.Image.{Image}
use Rattle.script_lang.specs.AnswerTexts.{no_text}
use Rattle.script_lang.specs.Grammar.{line_of}
use Rattle.script_lang.specs.declared.script_line.ScriptLine.{ScriptLine}
use Rattle.script_lang.specs.declared.script_line.ScriptLine.TheVariants.{Commit, Follower, Deliver, Snapshot, Ask, Give, Place, Nodes, Quorum, Local}
use Rattle.script_session.specs.Machine.{Reply, SessionState, ask_of, asked_reply, deliver_to, follower_named, give_to, image_at, most_replies, new_follower, only_answers, replied, reply, reply_numbered, reply_of, reply_to, session_after, session_next, snapshot_to, with_follower}
use Rattle.script_session.specs.StepEnds.{FollowsLog}
use Rattle.script_session.specs.declared.session.followers.NamedFollower.{NamedFollower}
use Rattle.script_session.proofs.followers.FollowerLemmas.{named_follows, other_with, same_bytes, with_named}
use Rattle.script_session.proofs.replies.KeptReplyLemmas.{numbered_from}
use Rattle.script_session.proofs.steps.SessionLemmas.{IsSession}
use Rattle.script_session.proofs.followers.TakenLemmas.{follower_cases}
use Rattle.session_laws.specs.CatchUp.{IsNotBefore, NoneFalls, RepliesAreFromLog, RepliesLead}

-- ---- where replies lead

pub replies_from : (session : SessionState) → IsSession session → RepliesAreFromLog session
replies_from session is = λ number given there. numbered_from session.log session.replies number given is.replies there

-- no follower waits with the entry that is next for it
abbrev pub NoNextWaits : SessionState → Type 0
NoNextWaits session = (name : List ℕ) (f : NamedFollower) → follower_named session.followers name ≡ Some f → waiting_at f.follower.waiting (f.follower.image.epoch + 1) ≡ None

pub replies_lead : (session : SessionState) → IsSession session → NoNextWaits session → RepliesLead session
replies_lead session is none_waits = λ number given name f there named reached. (
    let from : IsReplyFrom session.log given = replies_from session is number given there in
    let follows : FollowsLog session.log f.follower = named_follows session.log session.followers name f is.follow named in
    let at : IsReadyAt session.log given.since f.follower = record { taken = follows.taken; stands = follows.stands; reached = reached; none = none_waits name f named } in
    let part = part_of session.log given from in
    record {
      reaches = λ made. omega (arith, part_leads session.log given made, (reply_ready session.log given f.follower is.is_log part at).reached);
      again = reply_again session.log given f.follower is.is_log part at;
    })

-- ---- no follower goes back

still : (session : SessionState) (fs : List NamedFollower) → fs ≡ session.followers → (log : List Entry) (rs : List CatchUpReply) → NoneFalls session (record { log = log; followers = fs; replies = rs })
still session fs same log rs = λ name f found. record { named = f; found = ap (λ gs. follower_named gs name) same ∙ found; reached = omega arith }

pushed : (session : SessionState) (new : NamedFollower) (log : List Entry) (rs : List CatchUpReply) → NoneFalls session (record { log = log; followers = session.followers ++ new ∷ []; replies = rs })
pushed session new log rs = λ name f found. record {
  named = f;
  found = find-append (λ (g : NamedFollower). bytes_eq g.name name) session.followers (new ∷ []) ∙ ap (λ o. option_or o (follower_named (new ∷ []) name)) found;
  reached = omega arith;
}

-- the follower with a name is moved, and not back
led : (session : SessionState) (to : List ℕ) (g : NamedFollower) (after : FollowerState) (log : List Entry) (rs : List CatchUpReply) → follower_named session.followers to ≡ Some g → g.follower.image.epoch ≤ after.image.epoch
    → NoneFalls session (record { log = log; followers = with_follower session.followers to after; replies = rs })
led session to g after log rs there up = λ name f found. by name f found (bytes_eq to name) refl
  where
    by : (name : List ℕ) (f : NamedFollower) → follower_named session.followers name ≡ Some f → (b : Bool) → bytes_eq to name ≡ b → IsNotBefore (record { log = log; followers = with_follower session.followers to after; replies = rs }) name f.follower.image.epoch
    by name f found false other = record { named = f; found = other_with session.followers to name after other ∙ found; reached = omega arith }
    by name f found true same =
        let at : to ≡ name = same_bytes to name same in
        let one : Some f ≡ Some g = sym found ∙ ap (follower_named session.followers) (sym at) ∙ there in
        let is : f ≡ g = cc in
        record {
          named = record g { follower = after };
          found = subst (λ n. follower_named (with_follower session.followers to after) n ≡ Some (record g { follower = after })) at (with_named session.followers to g after there);
          reached = omega (arith, up, ap (λ (h : NamedFollower). h.follower.image.epoch) is);
        }

on_named : (session : SessionState) (to : List ℕ) (hand : FollowerState → Reply) → ((g : NamedFollower) → follower_named session.followers to ≡ Some g → NoneFalls session (replied session (hand g.follower)))
    → NoneFalls session (replied session (reply_of session (follower_named session.followers to) hand))
on_named session to hand each = by (follower_named session.followers to) refl
  where
    by : (o : Option NamedFollower) → follower_named session.followers to ≡ o → NoneFalls session (replied session (reply_of session o hand))
    by None there = still session _ refl _ _
    by (Some g) there = each g there

on_deliver : (session : SessionState) (to : List ℕ) (g : NamedFollower) → follower_named session.followers to ≡ Some g → (o : Option Entry) → NoneFalls session (replied session (deliver_to session to g.follower o))
on_deliver session to g there None = still session _ refl _ _
on_deliver session to g there (Some entry) = led session to g (hand_entry g.follower entry).after _ _ there (entry_from g.follower entry).up

on_snapshot : (session : SessionState) (to : List ℕ) (g : NamedFollower) → follower_named session.followers to ≡ Some g → (r : Result Image (List ℕ)) → NoneFalls session (replied session (snapshot_to session to g.follower r))
on_snapshot session to g there (Err reason) = still session _ refl _ _
on_snapshot session to g there (Ok image) = led session to g (hand_valid g.follower image).after _ _ there (valid_from g.follower image).up

on_ask : (session : SessionState) (max : ℕ) (f : FollowerState) → NoneFalls session (replied session (ask_of session max f))
on_ask session max f = by (nat_le most_replies (length session.replies))
  where
    by : (b : Bool) → NoneFalls session (replied session (if b then only_answers session (no_text (codes "REPLIES-FULL")) else asked_reply session (catch_up_reply session.log f.image.epoch max)))
    by true = still session _ refl _ _
    by false = still session _ refl _ _

on_give : (session : SessionState) (to : List ℕ) (g : NamedFollower) → follower_named session.followers to ≡ Some g → (o : Option CatchUpReply) → NoneFalls session (replied session (give_to session to g.follower o))
on_give session to g there None = still session _ refl _ _
on_give session to g there (Some given) = led session to g (given_reply g.follower given) _ _ there (reply_rises g.follower given)

none_falls_said : (session : SessionState) (said : Option ScriptLine) → NoneFalls session (replied session (reply_to session said))
none_falls_said session None = still session _ refl _ _
none_falls_said session (Some (Commit id c)) = still session _ refl _ _
none_falls_said session (Some (Follower name)) =
    follower_cases session name (λ r. NoneFalls session (replied session r)) (still session _ refl _ _) (still session _ refl _ _) (pushed session (new_follower name) _ _)
none_falls_said session (Some (Deliver to epoch)) = on_named session to (λ f. deliver_to session to f (entry_at session.log epoch)) (λ g there. on_deliver session to g there (entry_at session.log epoch))
none_falls_said session (Some (Snapshot to epoch)) = on_named session to (λ f. snapshot_to session to f (image_at (commands_of session.log) epoch)) (λ g there. on_snapshot session to g there (image_at (commands_of session.log) epoch))
none_falls_said session (Some (Ask to max)) = on_named session to (ask_of session max) (λ g there. on_ask session max g.follower)
none_falls_said session (Some (Give to number)) = on_named session to (λ f. give_to session to f (reply_numbered session.replies number)) (λ g there. on_give session to g there (reply_numbered session.replies number))
none_falls_said session (Some (Place target name)) = still session _ refl _ _
none_falls_said session (Some (Nodes target)) = still session _ refl _ _
none_falls_said session (Some (Quorum target name t)) = still session _ refl _ _
none_falls_said session (Some (Local target name dc t)) = still session _ refl _ _

none_falls_line : (session : SessionState) (bytes : List ℕ) → NoneFalls session (session_next session bytes)
unfolding reply
none_falls_line session bytes = none_falls_said session (line_of bytes)

pub none_falls : (session : SessionState) (lines : List (List ℕ)) → NoneFalls session (session_after session lines)
none_falls session [] = λ name f found. record { named = f; found = found; reached = omega arith }
none_falls session (bytes ∷ lines) = λ name f found. (
    let one : IsNotBefore (session_next session bytes) name f.follower.image.epoch = none_falls_line session bytes name f found in
    let rest : IsNotBefore (session_after (session_next session bytes) lines) name one.named.follower.image.epoch = none_falls (session_next session bytes) lines name one.named one.found in
    record { named = rest.named; found = rest.found; reached = omega (arith, one.reached, rest.reached) })
