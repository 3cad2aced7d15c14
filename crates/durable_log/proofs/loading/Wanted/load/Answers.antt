use Rattle.std.proofs.Common.{◌≡◌, ◌+◌, ◌≤◌, List, ℕ, Option, IfSome, arith, drop, subst, sym, ◌∙◌}
use Rattle.durable_log.specs.declared.scan.RecordHeader.{RecordHeader}
use Rattle.durable_log.specs.Ends.{IsFront}
use Rattle.durable_log.specs.code.Headers.{header_len, whole_header}
use Rattle.durable_log.specs.code.Loads.{size_of}
use Rattle.durable_log.proofs.steps.LoadSteps.{LoadedSoFar, front_begins, load_begins, load_ends, load_goes_on}
use Rattle.durable_log.proofs.disks.Moments.{same_again}
use Rattle.durable_log.proofs.loading.Wanted.load.Goals as goal

pub records-init : goal.records-init
records-init g c = record {
  within = omega arith;
  size = c.in-Ok.ensures.bound;
  told = c.in-Ok.ensures.size;
  front = front_begins (g.D.Disk.content c.args.disk.now);
  fits = tt;
  room = omega arith;
  so_far = load_begins (g.D.Disk.content c.args.disk.now) c.args.self.now.name.now c.args.self.now.limit;
  kept = c.size.ensures.kept;
  images = c.size.ensures.images;
  faults = c.in-Ok.ensures.cause;
}

pub returns-in-Ok-None-clause-found : goal.returns-in-Ok-None-clause-found
returns-in-Ok-None-clause-found g c =
    load_ends (g.D.Disk.content c.args.disk.now) (g.D.Disk.content c.records.disk) c.records.at c.args.self.now.limit c.args.self.now.name.now c.records.loaded
    c.records.invariant.kept c.records.invariant.fits c.records.invariant.front
    (subst (λ (o : Option RecordHeader). IfSome (g.D.Disk.content c.records.disk) (λ (on : List ℕ). o ≡ whole_header (drop c.records.at on))) c.in-Ok-None.field-0-is c.in-Ok-None.ensures.found)
    c.records.invariant.so_far

pub records-preserved : goal.records-preserved
records-preserved g c =
    let told = g.D.Disk.content c.args.disk.now in
    let room = subst (λ (o : Option RecordHeader). IfSome o (λ (h : RecordHeader). c.records.at + header_len h ≤ c.in-Ok.size)) c.in-Ok-Some.field-0-is c.in-Ok-Some.ensures.room in
    let found = subst (λ (o : Option RecordHeader). IfSome (g.D.Disk.content c.records.disk) (λ (on : List ℕ). o ≡ whole_header (drop c.records.at on))) c.in-Ok-Some.field-0-is c.in-Ok-Some.ensures.found in
    let next = load_goes_on told (g.D.Disk.content c.records.disk) (g.D.Disk.content c.record_at.new.disk) c.records.at c.args.self.now.limit c.in-Ok-Some.header c.args.self.now.name.now c.records.loaded c.in_ok-loaded.loaded
    c.records.invariant.kept (c.record_at.ensures.kept ∙ c.records.invariant.kept) c.records.invariant.front found c.records.invariant.so_far c.in_ok-loaded.ensures.told in
    record {
      within = subst (λ (n : ℕ). c.records.at + n ≤ c.in-Ok.size) (sym c.len-at.ensures) room;
      size = c.records.invariant.size;
      told = c.records.invariant.told;
      front = subst (λ (n : ℕ). IfSome told (IsFront (c.records.at + n))) (sym c.len-at.ensures) next.1;
      fits = c.in_ok-loaded.ensures.fits;
      room = subst (λ (n : ℕ). size_of c.in_ok-loaded.loaded ≤ c.records.at + n) (sym c.len-at.ensures) c.in_ok-loaded.ensures.size;
      so_far = subst (λ (n : ℕ). IfSome told (LoadedSoFar c.args.self.now.name.now c.args.self.now.limit (c.records.at + n) c.in_ok-loaded.loaded)) (sym c.len-at.ensures) next.0;
      kept = c.after_record.ensures.kept ∙ c.record_at.ensures.kept ∙ c.records.invariant.kept;
      images = same_again g.D.Disk.moment g.D.Disk.image c.args.disk.now c.record_at.new.disk c.after_record.new.disk
          (same_again g.D.Disk.moment g.D.Disk.image c.args.disk.now c.records.disk c.record_at.new.disk c.records.invariant.images c.record_at.ensures.images)
          c.after_record.ensures.images;
      faults = c.in_ok-loaded.ensures.cause ∙ c.in-Ok-Some.ensures.cause ∙ c.records.invariant.faults;
    }
