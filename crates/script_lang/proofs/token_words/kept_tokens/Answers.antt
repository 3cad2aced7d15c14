use Rattle.std.proofs.Common.{◌≤◌, ◌<◌, ◌∙◌, length, arith, ap}
use Rattle.std.specs.Ordering.{int_cmp}
use Rattle.cluster_terms.specs.Ascending.{ascending}
use Rattle.script_lang.proofs.TokenLists.{are_unordered_tokens-all, are_unordered_tokens-fewer}
use Rattle.script_lang.proofs.token_words.kept_tokens.Goals as goal

pub returns : goal.returns
returns c =
    let order = c.put_in_order.ensures.order ∙ ap (ascending int_cmp) c.in_ok-ascending.ensures.items in
    let all : length c.args.tokens.now ≤ length (ascending int_cmp c.args.tokens.now) = omega (arith, ap length order) in
    let yes = are_unordered_tokens-all c.args.tokens.now (grind arith) (omega arith) all in
    grind arith

pub returns-then-len-tokens : goal.returns-then-len-tokens
returns-then-len-tokens c =
    let order = c.put_in_order.ensures.order ∙ ap (ascending int_cmp) c.in_ok-ascending.ensures.items in
    let fewer : length (ascending int_cmp c.args.tokens.now) < length c.args.tokens.now = omega (arith, ap length order) in
    let no = are_unordered_tokens-fewer c.args.tokens.now fewer in
    grind arith
