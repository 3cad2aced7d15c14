use Rattle.std.proofs.Common.{◌≡◌, ℕ, ◌+◌, ◌≤◌, List, drop, Option, None, Some, IfSome, sym, ◌∙◌, ap, subst}
use Rattle.durable_log.specs.declared.scan.RecordHeader.{RecordHeader}
use Rattle.durable_log.specs.Ends.{IsFront}
use Rattle.durable_log.specs.code.Headers.{header_len, whole_header}
use Rattle.durable_log.proofs.records.Fronts.{front_more}
use Rattle.durable_log.proofs.records.Headers.{whole_some}
use Rattle.durable_log.proofs.disks.Moments.{same_again}
use Rattle.durable_log.proofs.scan.find_end.Goals as goal

front_next : (told told' : Option (List ℕ)) (at : ℕ) (header : RecordHeader) → told' ≡ told → IfSome told (IsFront at) → IfSome told' (λ bytes. Some header ≡ whole_header (drop at bytes)) → IfSome told (IsFront (at + header_len header))
front_next None told' at header same front found = tt
front_next (Some bytes) None at header same front found = absurd (cc same)
front_next (Some bytes) (Some other) at header same front found =
    let here = whole_some (drop at bytes) header (subst (λ (o : Option (List ℕ)). IfSome o (λ (b : List ℕ). Some header ≡ whole_header (drop at b))) same found) in
    subst (λ (n : ℕ). IsFront (at + n) bytes) (sym (ap header_len here.1)) (front_more at bytes front here.0)

pub loop-header-preserved : goal.loop-header-preserved
loop-header-preserved g c =
    let room = subst (λ (o : Option RecordHeader). IfSome o (λ (h : RecordHeader). c.loop-header.at + header_len h ≤ c.in_ok-size.size)) c.in-Some.is c.in_ok-header.ensures.room in
    let found = subst (λ (o : Option RecordHeader). IfSome (g.D.Disk.content c.loop-header.disk) (λ (bytes : List ℕ). o ≡ whole_header (drop c.loop-header.at bytes))) c.in-Some.is c.in_ok-header.ensures.found in
    record {
      within = subst (λ (n : ℕ). c.loop-header.at + n ≤ c.in_ok-size.size) (sym c.len.ensures) room;
      size = c.loop-header.invariant.size;
      told = c.loop-header.invariant.told;
      front = subst (λ (n : ℕ). IfSome (g.D.Disk.content c.args.disk.now) (IsFront (c.loop-header.at + n))) (sym c.len.ensures)
          (front_next (g.D.Disk.content c.args.disk.now) (g.D.Disk.content c.loop-header.disk) c.loop-header.at c.in-Some.header c.loop-header.invariant.kept c.loop-header.invariant.front found);
      kept = c.record_at.ensures.kept ∙ c.loop-header.invariant.kept;
      images = same_again g.D.Disk.moment g.D.Disk.image c.args.disk.now c.loop-header.disk c.record_at.new.disk c.loop-header.invariant.images c.record_at.ensures.images;
      faults = c.in_ok-header.ensures.cause ∙ c.loop-header.invariant.faults;
    }
