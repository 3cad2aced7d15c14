use Rattle.std.proofs.Common.{◌≡◌, ℕ, List, sym, ◌∙◌, subst}
use Rattle.durable_log.specs.Disk.{Written}
use Rattle.durable_log.specs.MemDisk.{bytes_on}
use Rattle.durable_log.specs.declared.mem_disk.Done.TheVariants.{Wrote}
use Rattle.durable_log.proofs.disks.MemSteps.{among_wrote, noted}
use Rattle.durable_log.proofs.mem_disk.MemDisk.put.Goals as goal

pub invariant_of-self-2 : goal.invariant_of-self-2
invariant_of-self-2 c =
    let is = noted c.push.result (λ e. e.0 ≡ Wrote c.args.at c.args.len) c.args.self.now.done c.push.new.self (Wrote c.args.at c.args.len) c.push.ensures (sym c.is_err.ensures.value ∙ c.if-is_err.false) in
    let written : Written c.args.at c.args.bytes.now (bytes_on c.args.self.now) c.in-Ok.next =
    subst (λ (l : List ℕ). Written c.args.at c.args.bytes.now l c.in-Ok.next) c.bytes.ensures c.in-Ok.ensures in
    record {
      among = among_wrote c.args.self.now.first c.args.self.now.done c.push.new.self c.args.at c.args.len c.args.bytes.now (bytes_on c.args.self.now) c.in-Ok.next
          is c.requires.place c.requires.front written c.args.self.now.among;
    }
