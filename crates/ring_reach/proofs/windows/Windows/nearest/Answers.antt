use Rattle.std.proofs.Common.{◌<◌, ◌≤◌, List, Some, ap, ◌∙◌, length, arith}
use Rattle.ring_reach.proofs.WindowLemmas.{nearest-within, nearest-past}
use Rattle.ring_reach.specs.code.Windows.{nearest}
use Rattle.ring_reach.specs.declared.windows.Window.{Window}
use Rattle.ring_reach.proofs.windows.Windows.nearest.Goals as goal

pub returns-then-before-windows : goal.returns-then-before-windows
returns-then-before-windows c =
    let ws = c.as_slice-windows.result.now in
    let n = c.count_before-before.result in
    let d = c.index-windows-before.result in
    let within : n < length ws = omega arith in
    rw (← c.self.view_is)
    (ap (λ (w : Window). Some w) c.index-windows-before.is ∙ nearest-within ws c.args.t n d c.count_before-before.ensures.split within ∙ ap (λ (l : List Window). nearest l c.args.t) c.as_slice-windows.ensures.value)

pub returns-else-before-windows : goal.returns-else-before-windows
returns-else-before-windows c =
    let ws = c.as_slice-windows.result.now in
    let n = c.count_before-before.result in
    let d = c.in_ok-first.first.now in
    let past : length ws ≤ n = omega arith in
    rw (← c.self.view_is) (nearest-past ws c.args.t n d c.count_before-before.ensures.split c.in_ok-first.ensures.value past ∙ ap (λ (l : List Window). nearest l c.args.t) c.as_slice-windows.ensures.value)
