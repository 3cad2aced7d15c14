use Rattle.std.proofs.Common.{◌≡◌, ◌-◌, ◌≤◌, ◌^◌, length, IfSome}
use Rattle.durable_log.specs.Disk.{Passes, Same}
use Rattle.durable_log.specs.Ends.{IsFront}
use Rattle.durable_log.proofs.scan.find_end.Given as goal

abbrev pub invariant-loop-header : goal.invariant-loop-header
invariant-loop-header g l = record {
  within : l.at ≤ l.size;
  size : l.size ≤ 2 ^ 62;
  told : IfSome (g.D.Disk.content l.fn.disk) (λ bytes. l.size ≡ length bytes);
  front : IfSome (g.D.Disk.content l.fn.disk) (IsFront l.at);
  kept : g.D.Disk.content l.disk ≡ g.D.Disk.content l.fn.disk;
  images : Passes g.D.Disk.moment g.D.Disk.image Same l.fn.disk l.disk;
  faults : g.D.Disk.faults l.disk ≡ g.D.Disk.faults l.fn.disk;
}

abbrev pub decreases-loop-header : goal.decreases-loop-header
decreases-loop-header g l = l.size - l.at
