use Rattle.durable_log.proofs.records.ShownFiles.{no_more}
use Rattle.durable_log.proofs.durable_store.DurableStoreStore.load.Goals as goal

pub returns-clause-crash : goal.returns-clause-crash
returns-clause-crash g c =
    rw (← c.self.view_is)
    (no_more g.D.Disk.moment g.D.Disk.image c.self.inside.log.disk c.load.new.self.disk (g.D.Disk.content c.self.inside.log.disk) (g.D.Disk.content c.load.new.self.disk)
    c.load.ensures.files c.load.ensures.images)
