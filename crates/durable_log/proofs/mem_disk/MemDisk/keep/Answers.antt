use Rattle.std.proofs.Common.{◌≡◌, sym, ◌∙◌}
use Rattle.durable_log.specs.MemDisk.{bytes_on}
use Rattle.durable_log.specs.declared.mem_disk.Done.TheVariants.{Synced}
use Rattle.durable_log.proofs.disks.MemSteps.{among_kept}
use Rattle.durable_log.proofs.mem_disk.MemDisk.keep.Goals as goal

pub invariant_of-self : goal.invariant_of-self
invariant_of-self c = record {
  among = among_kept c.push.result (λ e. e.0 ≡ Synced c.in-Ok.copy) c.args.self.now.first c.args.self.now.done c.push.new.self (bytes_on c.args.self.now) c.in-Ok.copy
      c.push.ensures (sym (c.in-Ok.ensures ∙ c.bytes.ensures)) c.args.self.now.among;
}
