use Rattle.durable_log.specs.MemDisk.{bytes_on}
use Rattle.durable_log.proofs.disks.MemSteps.{crash_left}
use Rattle.durable_log.proofs.mem_disk.MemDisk.crash.Goals as goal

pub returns-clause-image : goal.returns-clause-image
returns-clause-image c =
    crash_left c.copy_of.result c.args.self.now.first c.args.self.now.done (bytes_on c.args.self.now) c.kept.result.now c.kept.ensures c.copy_of.ensures c.args.self.now.among
