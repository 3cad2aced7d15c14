use Rattle.std.proofs.Common.{map, ap, ◌∙◌, rules, tests}
use Rattle.std.proofs.lemmas.Iterator.Consumers.{YieldsList-at, YieldsList-end}
use Rattle.std.proofs.lemmas.Iterator.Splits.{YieldsList-from_slice_split}
use Rattle.script_lang.proofs.words.put_words.Goals as goal

pub returns : goal.returns
returns c h =
    let split = c.split-word-items.ensures in
    let road = YieldsList-at c.into_iter-word-iterator.ensures.into_iter_gives (YieldsList-from_slice_split _ _ c.args.bytes.now split.rest split.done split.closure (λ x r q k. search (rules, tests))) in
    let end = YieldsList-end road c.loop-word.yielded _ c.loop-word.yielded_by _ _ c.in-None.is c.next.ensures.steps in
    ap (map (λ word. word.now)) c.loop-word.invariant ∙ end.0
