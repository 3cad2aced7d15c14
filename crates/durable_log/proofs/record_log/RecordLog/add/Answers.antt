use Rattle.durable_log.specs.code.Ends.{change_by}
use Rattle.durable_log.proofs.steps.EndSteps.{adds, either, promised}
use Rattle.durable_log.proofs.record_log.RecordLog.add.Goals as goal

pub returns-in_err-end-clause-images : goal.returns-in_err-end-clause-images
returns-in_err-end-clause-images g c =
    promised g.D.Disk.moment g.D.Disk.image (change_by c.args.kind c.args.name.now c.args.bytes.now)
    (g.D.Disk.content c.args.self.now.disk) (g.D.Disk.content c.gate.new.self.disk) c.args.self.now.disk c.gate.new.self.disk c.add_record.new.disk
    c.gate.ensures.files c.gate.ensures.images c.add_record.ensures.images

pub returns-in_err-end-clause-either : goal.returns-in_err-end-clause-either
returns-in_err-end-clause-either g c =
    λ stand. either g.D.Disk.moment g.D.Disk.image (change_by c.args.kind c.args.name.now c.args.bytes.now) (g.D.Disk.content c.args.self.now.disk) c.args.self.now.disk c.add_record.new.disk
    stand (returns-in_err-end-clause-images g c)

pub returns-clause-adds : goal.returns-clause-adds
returns-clause-adds g c =
    adds c.in_ok-gate.gate (change_by c.args.kind c.args.name.now c.args.bytes.now)
    (g.D.Disk.content c.args.self.now.disk) (g.D.Disk.content c.gate.new.self.disk) (g.D.Disk.content c.add_record.new.disk)
    c.in_ok-gate.ensures.closes c.in_ok-end.ensures.adds

pub returns-clause-images : goal.returns-clause-images
returns-clause-images g c =
    promised g.D.Disk.moment g.D.Disk.image (change_by c.args.kind c.args.name.now c.args.bytes.now)
    (g.D.Disk.content c.args.self.now.disk) (g.D.Disk.content c.gate.new.self.disk) c.args.self.now.disk c.gate.new.self.disk c.add_record.new.disk
    c.gate.ensures.files c.gate.ensures.images c.add_record.ensures.images

pub returns-clause-either : goal.returns-clause-either
returns-clause-either g c =
    λ stand. either g.D.Disk.moment g.D.Disk.image (change_by c.args.kind c.args.name.now c.args.bytes.now) (g.D.Disk.content c.args.self.now.disk) c.args.self.now.disk c.add_record.new.disk
    stand (returns-clause-images g c)
