-- The replies to followers that a session keeps.
use Rattle.std.proofs.Common.{◌≡◌, ℕ, zero, suc, ◌-◌, ◌<◌, ◌≤◌, ◌==◌, Bool, true, false, if◌then◌else◌, List, [], ◌∷◌, ◌++◌, length, get_or, Some, None, sym, ap, ◌∙◌, subst, arith}
use Rattle.std.specs.List.{AllByRecursion, slice_get}
use Rattle.std.proofs.lemmas.Option.{get_or_from_slice_get, none-some, slice_get_within}
use Rattle.catch_up.proofs.KeptReplies.{made_before, made_now}
use Rattle.catch_up.specs.Replies.{IsReplyFrom, catch_up_reply}
use Rattle.catch_up.specs.declared.message.Reply.{Reply as CatchUpReply}
use Rattle.transformations.proofs.lists.ListLemmas.{all_append, all_weaker}
use Rattle.transformations.specs.declared.entry.Entry.{Entry}
use Rattle.script_session.specs.Machine.{reply_numbered}
use Rattle.script_session.specs.code.StepParts.{AllFrom}

-- they are from the log when it goes on
pub all_from_on : (log : List Entry) (entry : Entry) (replies : List CatchUpReply) → AllFrom log replies → AllFrom (log ++ entry ∷ []) replies
all_from_on log entry replies all = all_weaker (IsReplyFrom log) (IsReplyFrom (log ++ entry ∷ [])) (λ reply from. made_before log (entry ∷ []) reply from) replies all

-- one more that is made from the log
pub all_from_asked : (log : List Entry) (since max : ℕ) (replies : List CatchUpReply) → since ≤ length log → AllFrom log replies → AllFrom log (replies ++ catch_up_reply log since max ∷ [])
all_from_asked log since max replies within all = all_append (IsReplyFrom log) replies (catch_up_reply log since max ∷ []) all (made_now log since max within, tt)

all_at : {X : Type 0} (P : X → Type 0) (xs : List X) (i : ℕ) (d : X) → i < length xs → AllByRecursion P xs → P (get_or xs i d)
all_at P [] i d within all = absurd (omega (arith, within))
all_at P (x ∷ xs) zero d within all = all.0
all_at P (x ∷ xs) (suc i) d within all = all_at P xs i d (omega (arith, within)) all.1

-- the reply with a number
pub numbered_from : (log : List Entry) (replies : List CatchUpReply) (number : ℕ) (reply : CatchUpReply) → AllFrom log replies → reply_numbered replies number ≡ Some reply → IsReplyFrom log reply
numbered_from log replies number reply all is = by (number == 0) is
  where
    by : (b : Bool) → (if b then None else slice_get replies (number - 1)) ≡ Some reply → IsReplyFrom log reply
    by true e = absurd (none-some reply e)
    by false e =
        subst (IsReplyFrom log) (get_or_from_slice_get replies (number - 1) reply reply e)
        (all_at (IsReplyFrom log) replies (number - 1) reply (slice_get_within replies (number - 1) reply e) all)

pub all_from_kept : (log : List Entry) (since max : ℕ) (made : CatchUpReply) (replies rs : List CatchUpReply) → since ≤ length log → made ≡ catch_up_reply log since max → rs ≡ replies ++ made ∷ [] → AllFrom log replies → AllFrom log rs
all_from_kept log since max made replies rs within is more all =
    subst (AllFrom log) (sym (more ∙ ap (λ reply. replies ++ reply ∷ []) is)) (all_from_asked log since max replies within all)
