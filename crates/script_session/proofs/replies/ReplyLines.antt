-- The ends of lines that ask for replies, and of lines that give them.
use Rattle.std.proofs.Common.{◌≡◌, ℕ, ◌≤◌, Bool, true, if◌then◌else◌, List, ◌++◌, get_or, set, position, length, take, None, Some, Result, Ok, Err, IsErrAnd, OnOk, nat_le, codes, decimal, refl, sym, ap, ◌∙◌, subst, arith}
use Rattle.std.proofs.lemmas.Bool.Decides.{nat_tests}
use Rattle.catch_up.specs.Replies.{catch_up_reply}
use Rattle.catch_up.specs.declared.message.Reply.{Reply as CatchUpReply}
use Rattle.catch_up_laws.specs.Given.{given_reply}
use Rattle.follower_log.specs.Follower.{FollowerState}
use Rattle.script_lang.specs.AnswerTexts.{epoch_text, no_text}
use Rattle.script_session.specs.Machine.{Reply, SessionState, ask_of, asked_reply, follower_named, give_to, most_replies, on_follower, only_answers, reply_numbered, reply_of}
use Rattle.script_session.specs.StepEnds.{IsOnTheWay}
use Rattle.script_session.specs.code.StepParts.{AllFollow, Alone, OnlyAnswers, session_at}
use Rattle.script_session.specs.declared.fault.StepFault.{StepFault}
use Rattle.script_session.specs.declared.fault.StepFault.TheVariants as step
use Rattle.script_session.specs.declared.session.followers.NamedFollower.{NamedFollower}
use Rattle.script_session.proofs.followers.FollowerLemmas.{named}
use Rattle.script_session.proofs.followers.HandedLemmas.{alone_led, alone_refused, has_follower, only_alone}

-- ---- memory runs out

pub never : {T : Type 0} (r : Result T StepFault) (P : Type 0) → IsErrAnd r (λ e. e ≡ step.Memory) → OnOk r P
never (Ok x) P memory = absurd memory
never (Err e) P memory = tt

pub only_failed : {T : Type 0} (text out out' : List ℕ) (r : Result T StepFault) → IsErrAnd r (λ e. e ≡ step.Memory) → take (length out) out' ≡ out → OnlyAnswers text out out' r
only_failed text out out' (Ok x) memory kept = absurd memory
only_failed text out out' (Err e) memory kept = record { answered = tt; kept = kept; memory = memory }

-- ---- a reply is given

abbrev pub give : List ℕ → ℕ → SessionState → FollowerState → Reply
give name number s f = give_to s name f (reply_numbered s.replies number)

module _ {T : Type 0} (session seen : SessionState) (name : List ℕ) (number : ℕ) (out out' : List ℕ) (r : Result T StepFault) (view : session ≡ seen) (place : ℕ) (fs : List NamedFollower) (all : AllFollow session.log session.followers)
    (same : fs ≡ session.followers) (at : Some place ≡ position (named name) fs) (rs : List CatchUpReply) (kept : rs ≡ session.replies) where
  -- no reply has the number
  pub give_past : (last : ℕ) → None ≡ reply_numbered rs number → last ≡ length rs → OnlyAnswers (no_text (codes "REPLY " ++ decimal last)) out out' r
      → Alone (follower_named seen.followers name) (on_follower seen name (give name number seen)) (session_at seen out) (session_at seen out') r
  give_past last none is only =
      let none_there : reply_numbered session.replies number ≡ None = sym (none ∙ ap (λ l. reply_numbered l number) kept) in
      let text : last ≡ length session.replies = is ∙ ap length kept in
      alone_refused (give name number) session seen name out out' r view place fs (no_text (codes "REPLY " ++ decimal (length session.replies))) all same at (λ f. ap (give_to session name f) none_there)
      (subst (λ n. OnlyAnswers (no_text (codes "REPLY " ++ decimal n)) out out' r) text only)

  -- the follower is given it, and comes to its end if memory doesn't run out
  pub give_there : (f d : NamedFollower) (x : FollowerState) (given : CatchUpReply) → Some given ≡ reply_numbered rs number → f ≡ get_or session.followers place d → IsOnTheWay session.log f.follower (given_reply f.follower given) x
      → OnOk r (x ≡ given_reply f.follower given) → OnlyAnswers (epoch_text (codes "AT") (given_reply f.follower given).image.epoch) out out' r
      → Alone (follower_named seen.followers name) (on_follower seen name (give name number seen)) (session_at seen out) (session_at (record session { followers = set session.followers place (record f { follower = x }) }) out') r
  give_there f d x given found is way comes only =
      let there : reply_numbered session.replies number ≡ Some given = sym (found ∙ ap (λ l. reply_numbered l number) kept) in
      let due : FollowerState = given_reply f.follower given in
      alone_led (give name number) session seen name out out' r view place f x due (epoch_text (codes "AT") due.image.epoch) (has_follower session name place f d fs all same at is) (ap (give_to session name f.follower) there) way comes only

-- ---- a reply is asked for, and refused

module _ (session : SessionState) (name : List ℕ) (max : ℕ) where
  abbrev pub asked : Reply
  asked = on_follower session name (ask_of session max)

  found : (f : NamedFollower) → follower_named session.followers name ≡ Some f → asked ≡ ask_of session max f.follower
  found f is = ap (λ o. reply_of session o (ask_of session max)) is

  by_room : (f : FollowerState) (b : Bool) → nat_le most_replies (length session.replies) ≡ b
      → ask_of session max f ≡ (if b then only_answers session (no_text (codes "REPLIES-FULL")) else asked_reply session (catch_up_reply session.log f.image.epoch max))
  by_room f b is = ap (λ b. if b then only_answers session (no_text (codes "REPLIES-FULL")) else asked_reply session (catch_up_reply session.log f.image.epoch max)) is

  pub asked_none : follower_named session.followers name ≡ None → asked ≡ only_answers session (no_text (codes "FOLLOWER"))
  asked_none none = ap (λ o. reply_of session o (ask_of session max)) none

  pub asked_full : (f : NamedFollower) → follower_named session.followers name ≡ Some f → 64 ≤ length session.replies → asked ≡ only_answers session (no_text (codes "REPLIES-FULL"))
  asked_full f is full = found f is ∙ by_room f.follower true (grind (arith, nat_tests))

module _ {T : Type 0} (session seen : SessionState) (name : List ℕ) (max : ℕ) (out out' : List ℕ) (r : Result T StepFault) (view : session ≡ seen) where
  -- it is refused
  pub ask_refused : (text : List ℕ) → asked session name max ≡ only_answers session text → OnlyAnswers text out out' r → Alone None (asked seen name max) (session_at seen out) (session_at seen out') r
  ask_refused text is only =
      subst (λ s. Alone None (asked s name max) (session_at s out) (session_at s out') r) view
      (subst (λ a. Alone None a (session_at session out) (session_at session out') r) (sym is) (only_alone session None text out out' r refl only))
