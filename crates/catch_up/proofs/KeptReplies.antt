-- A reply that is kept while its log goes on.
use Rattle.std.proofs.Common.{ℕ, ◌≤◌, List, ◌++◌, length, sym, ap, ◌∙◌, length-append, arith}
use Rattle.std.proofs.lemmas.List.{take-append-le, take_all}
use Rattle.transformations.specs.declared.entry.Entry.{Entry}
use Rattle.catch_up.specs.Replies.{IsReplyFrom, catch_up_reply}
use Rattle.catch_up.specs.declared.message.Reply.{Reply}

pub made_now : (log : List Entry) (since max : ℕ) → since ≤ length log → IsReplyFrom log (catch_up_reply log since max)
made_now log since max within = record {
  last = length log;
  max = max;
  asked = within;
  within = omega arith;
  made = ap (λ (l : List Entry). catch_up_reply l since max) (sym (take_all (length log) log (omega arith)));
}

pub made_before : (log more : List Entry) (reply : Reply) → IsReplyFrom log reply → IsReplyFrom (log ++ more) reply
made_before log more reply from = record {
  last = from.last;
  max = from.max;
  asked = from.asked;
  within = omega (arith, from.within, length-append log more);
  made = from.made ∙ ap (λ (l : List Entry). catch_up_reply l reply.since from.max) (sym (take-append-le from.last log more from.within));
}
