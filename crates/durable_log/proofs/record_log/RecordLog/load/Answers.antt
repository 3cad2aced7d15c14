use Rattle.durable_log.proofs.steps.EndSteps.{files_same}
use Rattle.durable_log.proofs.record_log.RecordLog.load.Goals as goal

pub returns-clause-images : goal.returns-clause-images
returns-clause-images g c =
    files_same g.D.Disk.moment g.D.Disk.image (g.D.Disk.content c.args.self.now.disk) c.args.self.now.disk c.gate.new.self.disk c.load-loaded.new.disk
    c.gate.ensures.images c.load-loaded.ensures.images
