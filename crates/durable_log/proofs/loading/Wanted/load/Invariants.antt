use Rattle.std.proofs.Common.{◌≡◌, ◌-◌, ◌≤◌, ◌^◌, length, IfSome}
use Rattle.durable_log.specs.Disk.{Passes, Same}
use Rattle.durable_log.specs.Ends.{IsFront}
use Rattle.durable_log.specs.code.Loads.{FitsLimit, size_of}
use Rattle.durable_log.proofs.steps.LoadSteps.{LoadedSoFar}
use Rattle.durable_log.proofs.loading.Wanted.load.Given as goal

abbrev pub invariant-records : goal.invariant-records
invariant-records g l = record {
  within : l.at ≤ l.size;
  size : l.size ≤ 2 ^ 62;
  told : IfSome (g.D.Disk.content l.fn.disk) (λ bytes. l.size ≡ length bytes);
  front : IfSome (g.D.Disk.content l.fn.disk) (IsFront l.at);
  fits : FitsLimit l.self.limit l.loaded;
  room : size_of l.loaded ≤ l.at;
  so_far : IfSome (g.D.Disk.content l.fn.disk) (LoadedSoFar l.self.name.now l.self.limit l.at l.loaded);
  kept : g.D.Disk.content l.disk ≡ g.D.Disk.content l.fn.disk;
  images : Passes g.D.Disk.moment g.D.Disk.image Same l.fn.disk l.disk;
  faults : g.D.Disk.faults l.disk ≡ g.D.Disk.faults l.fn.disk;
}

abbrev pub decreases-records : goal.decreases-records
decreases-records g l = l.size - l.at
