use Rattle.std.proofs.Common.{◌≡◌, reverse, take}
use Rattle.durable_log.specs.MemImages.{last_kept}
use Rattle.durable_log.proofs.mem_disk.MemDisk.kept.Given as goal

abbrev pub invariant-loop-step : goal.invariant-loop-step
invariant-loop-step l = l.kept ≡ last_kept l.self.first (reverse (take l.step-index l.self.done))
