use Rattle.durable_log.proofs.steps.FileSteps.{add_ok, replace_err, replace_ok, others_of}
use Rattle.durable_log.proofs.records.ShownFiles.{replace_crash}
use Rattle.durable_log.proofs.durable_store.DurableStoreStore.replace.Goals as goal

pub returns-clause-ok : goal.returns-clause-ok
returns-clause-ok g c =
    rw (← c.self.view_is)
    (replace_ok c.as_bytes.result.now c.args.name.now c.args.bytes.now (g.D.Disk.content c.self.inside.log.disk) (g.D.Disk.content c.add-added.new.self.disk) c.add-added.result c.as_write.result
    c.as_bytes.ensures.value c.as_write.ensures c.add-added.ensures.ok)

pub returns-clause-adds : goal.returns-clause-adds
returns-clause-adds g c =
    rw (← c.self.view_is)
    (add_ok c.as_bytes.result.now c.args.name.now c.args.bytes.now (g.D.Disk.content c.self.inside.log.disk) (g.D.Disk.content c.add-added.new.self.disk) c.add-added.result c.as_write.result
    c.as_bytes.ensures.value c.as_write.ensures 1 c.add-added.ensures.adds)

pub returns-clause-failed : goal.returns-clause-failed
returns-clause-failed g c =
    rw (← c.self.view_is)
    (replace_err c.as_bytes.result.now c.args.name.now c.args.bytes.now (g.D.Disk.content c.self.inside.log.disk) (g.D.Disk.content c.add-added.new.self.disk) c.add-added.result c.as_write.result
    c.as_bytes.ensures.value c.as_write.ensures c.add-added.ensures.err)

pub returns-clause-others : goal.returns-clause-others
returns-clause-others g c =
    rw (← c.self.view_is)
    (others_of 1 c.as_bytes.result.now c.args.name.now c.args.bytes.now (g.D.Disk.content c.self.inside.log.disk) (g.D.Disk.content c.add-added.new.self.disk) c.add-added.result
    c.as_bytes.ensures.value c.add-added.ensures.ok c.add-added.ensures.err)

pub returns-clause-crash : goal.returns-clause-crash
returns-clause-crash g c =
    rw (← c.self.view_is)
    (replace_crash g.D.Disk.moment g.D.Disk.image c.self.inside.log.disk c.add-added.new.self.disk c.as_bytes.result.now c.args.name.now c.args.bytes.now c.as_bytes.ensures.value
    (g.D.Disk.content c.self.inside.log.disk) (g.D.Disk.content c.add-added.new.self.disk) c.add-added.result c.as_write.result c.as_write.ensures
    c.add-added.ensures.ok c.add-added.ensures.err c.add-added.ensures.images c.add-added.ensures.stands)
