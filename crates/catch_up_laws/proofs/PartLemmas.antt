-- A reply from a log is a part of it.
use Rattle.std.proofs.Common.{◌≡◌, ℕ, ◌+◌, ◌-◌, ◌<◌, ◌≤◌, min, List, length, take, drop, unwrap_or, Option, Some, None, refl, sym, ap, ◌∙◌, subst, length-drop, arith}
use Rattle.std.proofs.lemmas.List.{drop-take, length-take, length-take-le, take-append-drop, take-take, take_min}
use Rattle.std.proofs.lemmas.List.Elements.{Contains-append_left, Contains-append_right}
use Rattle.std.specs.List.{Contains}
use Rattle.std.specs.Option.{IfSome, option_map}
use Rattle.transformations.specs.History.{empty_image, image_after, state_after}
use Rattle.transformations.specs.Log.{commands_of}
use Rattle.transformations.specs.declared.entry.Entry.{Entry}
use Rattle.catch_up.proofs.ReplyLemmas.{base_between, leads_far}
use Rattle.catch_up.specs.Replies.{IsReplyFrom, base_epoch, catch_up_reply, end_epoch, entries_after}
use Rattle.catch_up.specs.declared.message.Reply.{Reply}
use Rattle.follower_log.proofs.PrefixLemmas.{commands_of-take}
use Rattle.follower_log.proofs.ShowsLemmas.{epoch_of_state}
use Rattle.follower_log.specs.Prefix.{IsImageOf}
use Rattle.catch_up_laws.specs.Parts.{IsPartOf}

-- an entry of a part of a log is an entry of the log
entry_among : (log : List Entry) (epoch n : ℕ) (entry : Entry) → Contains (entries_after log epoch n) entry → Contains log entry
entry_among log epoch n entry there =
    let rest : List Entry = drop epoch log in
    let in_rest : Contains rest entry = subst (λ l. Contains l entry) (take-append-drop n rest) (Contains-append_left (take n rest) (drop n rest) entry there) in
    subst (λ l. Contains l entry) (take-append-drop epoch log) (Contains-append_right (take epoch log) rest entry in_rest)

-- the log had its first `last` entries when the reply was made
module _ (log : List Entry) (last since max : ℕ) (within : last ≤ length log) (asked : since ≤ last) where
  abbrev front : List Entry
  front = take last log

  count : length front ≡ last
  count = length-take-le last log within

  entries_are : (from : ℕ) → from ≤ last → entries_after front from max ≡ entries_after log from (length (entries_after front from max))
  entries_are from low =
      let k : ℕ = last - from in
      let upto : last ≡ from + k = omega (arith, low) in
      let rest : drop from front ≡ take k (drop from log) = ap (λ m. drop from (take m log)) upto ∙ drop-take from k log in
      let n : length (entries_after front from max) ≡ min max (length (drop from front)) = length-take max (drop from front) in
      let few : length (entries_after front from max) ≤ k = omega (arith, n, length-drop from front, count) in
      sym (take_min max (drop from front)) ∙ ap (λ m. take m (drop from front)) (sym n)
      ∙ ap (take (length (entries_after front from max))) rest ∙ take-take (length (entries_after front from max)) k (drop from log) few

  among_log : (from : ℕ) → from ≤ last → (entry : Entry) → Contains (entries_after front from max) entry → Contains log entry
  among_log from low entry there = entry_among log from (length (entries_after front from max)) entry (subst (λ l. Contains l entry) (entries_are from low) there)

  image_is : (base : ℕ) → base ≤ last → IsImageOf log (state_after (commands_of front) base)
  image_is base low = record {
    within = omega (arith, at, low, within);
    state = ap (image_after empty_image) (ap (take base) (commands_of-take last log) ∙ take-take base last (commands_of log) low) ∙ ap (state_after (commands_of log)) (sym at);
  }
    where
      at : (state_after (commands_of front) base).epoch ≡ base
      at = epoch_of_state front base (omega (arith, count, low))

  reply_part : IsPartOf log (catch_up_reply front since max)
  reply_part = by (base_epoch (length front) since max) (base_between (length front) since max)
    where
      by : (base : Option ℕ) → IfSome base (λ base. (since < base) × (base ≤ length front))
          → IsPartOf log (record { since = since; image = option_map (state_after (commands_of front)) base; entries = entries_after front (unwrap_or base since) max })
      by None between = record { image = tt; among = among_log since asked; within = omega (arith, asked, within); entries = entries_are since asked }
      by (Some base) between =
          let low : base ≤ last = omega (arith, between.1, count) in
          let at : (state_after (commands_of front) base).epoch ≡ base = epoch_of_state front base between.1 in
          record {
            image = image_is base low;
            among = among_log base low;
            within = omega (arith, at, low, within);
            entries = entries_are base low ∙ ap (λ m. entries_after log m (length (entries_after front base max))) (sym at);
          }

pub part_of : (log : List Entry) (reply : Reply) → IsReplyFrom log reply → IsPartOf log reply
part_of log reply from = subst (IsPartOf log) (sym from.made) (reply_part log from.last reply.since from.max from.within from.asked)

-- and its entries lead as far as was asked
pub part_leads : (log : List Entry) (reply : Reply) → (from : IsReplyFrom log reply) → min from.last (reply.since + from.max) ≤ end_epoch reply
part_leads log reply from =
    let front : List Entry = take from.last log in
    let count : length front ≡ from.last = length-take-le from.last log from.within in
    let now : Reply = catch_up_reply front reply.since from.max in
    let far : min (length front) (reply.since + from.max) ≤ end_epoch now = leads_far front reply.since from.max now.image now.entries (omega (arith, count, from.asked)) refl refl in
    subst (λ (r : Reply). min from.last (reply.since + from.max) ≤ end_epoch r) (sym from.made) (omega (arith, far, count))
