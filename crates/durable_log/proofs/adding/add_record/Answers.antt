use Rattle.std.proofs.Common.{◌≡◌, ℕ, ◌+◌, ◌-◌, List, [], ◌∷◌, ◌++◌, length, Option, sym, ◌∙◌, ap, subst, arith, append_assoc, length-append}
use Rattle.std.specs.Int.{w64, to_be_bytes}
use Rattle.durable_log.specs.Disk.{Changes, Written}
use Rattle.durable_log.specs.Records.{body}
use Rattle.durable_log.specs.code.Ends.{change_by}
use Rattle.durable_log.proofs.steps.AddSteps.{gate_adds, gate_err, gate_ok, gate_passes, may_from, put_err, put_passes, put_synced, same_passes, settles}
use Rattle.durable_log.proofs.steps.Results.{at_err}
use Rattle.durable_log.proofs.adding.add_record.Goals as goal

-- the pieces that are put down are the record behind its gate, and a closed gate
puts_record : (at kind : ℕ) (header name bytes : List ℕ) (old new : Option (List ℕ)) → header ≡ kind ∷ to_be_bytes w64 (length name) ++ to_be_bytes w64 (length bytes)
    → Changes (Written at (header ++ name ++ (bytes ++ 0 ∷ []))) old new → Changes (Written at (body (change_by kind name bytes) ++ 0 ∷ [])) old new
puts_record at kind header name bytes old new is =
    subst (λ (l : List ℕ). Changes (Written at l) old new)
    (ap (λ (h : List ℕ). h ++ name ++ (bytes ++ 0 ∷ [])) is ∙ sym (append_assoc (kind ∷ to_be_bytes w64 (length name) ++ to_be_bytes w64 (length bytes) ++ name) bytes (0 ∷ [])))

body_len : (kind : ℕ) (name bytes : List ℕ) → length (body (change_by kind name bytes)) ≡ 17 + length name + length bytes
body_len kind name bytes = omega (arith, length-append name bytes)

pub returns-in_err-end-clause-err : goal.returns-in_err-end-clause-err
returns-in_err-end-clause-err g c =
    let change = change_by c.args.kind c.args.name.now c.args.bytes.now in
    at_err c.from_residual.result
    (put_err c.args.gate change c.requires.kind (omega arith) (omega arith) (g.D.Disk.image c.args.disk.now (g.D.Disk.moment c.args.disk.now))
    (17 + length c.args.name.now + (length c.args.bytes.now + 1)) (g.D.Disk.content c.args.disk.now) (g.D.Disk.content c.put_down.new.disk)
    c.requires.settled c.in_err-end.ensures.err)

pub returns-in_err-end-clause-images : goal.returns-in_err-end-clause-images
returns-in_err-end-clause-images g c =
    put_passes g.D.Disk.moment g.D.Disk.image c.args.gate (change_by c.args.kind c.args.name.now c.args.bytes.now) c.requires.kind (omega arith) (omega arith) c.args.disk.now (17 + length c.args.name.now + (length c.args.bytes.now + 1)) (g.D.Disk.content c.args.disk.now) c.put_down.new.disk c.requires.settled c.put_down.ensures.images

pub returns-in_err-sync-clause-err : goal.returns-in_err-sync-clause-err
returns-in_err-sync-clause-err g c =
    at_err c.from_residual-in_err-sync.result (put_synced c.args.gate (change_by c.args.kind c.args.name.now c.args.bytes.now) c.requires.kind (omega arith) (omega arith) (g.D.Disk.image c.args.disk.now (g.D.Disk.moment c.args.disk.now)) (g.D.Disk.content c.args.disk.now) (g.D.Disk.content c.put_down.new.disk) (g.D.Disk.content c.sync.new.self) c.requires.settled (puts_record (c.args.gate + 1) c.args.kind c.header_of-header.result c.args.name.now c.args.bytes.now (g.D.Disk.content c.args.disk.now) (g.D.Disk.content c.put_down.new.disk) c.header_of-header.ensures c.in_ok-end.ensures.ok) c.sync.ensures.kept)

pub returns-in_err-sync-clause-images : goal.returns-in_err-sync-clause-images
returns-in_err-sync-clause-images g c =
    same_passes g.D.Disk.moment g.D.Disk.image c.args.gate (change_by c.args.kind c.args.name.now c.args.bytes.now) c.requires.kind (omega arith) (omega arith) c.args.disk.now (g.D.Disk.content c.args.disk.now) c.put_down.new.disk c.sync.new.self (put_passes g.D.Disk.moment g.D.Disk.image c.args.gate (change_by c.args.kind c.args.name.now c.args.bytes.now) c.requires.kind (omega arith) (omega arith) c.args.disk.now (17 + length c.args.name.now + (length c.args.bytes.now + 1)) (g.D.Disk.content c.args.disk.now) c.put_down.new.disk c.requires.settled c.put_down.ensures.images) c.sync.ensures.images

pub returns-in_err-write_at-clause-err : goal.returns-in_err-write_at-clause-err
returns-in_err-write_at-clause-err g c =
    at_err c.from_residual-in_err-write_at.result (gate_err c.args.gate (change_by c.args.kind c.args.name.now c.args.bytes.now) c.requires.kind (omega arith) (omega arith) (g.D.Disk.image c.args.disk.now (g.D.Disk.moment c.args.disk.now)) (g.D.Disk.content c.args.disk.now) (g.D.Disk.content c.put_down.new.disk) (g.D.Disk.content c.sync.new.self) (g.D.Disk.content c.write_at.new.self) c.requires.settled (puts_record (c.args.gate + 1) c.args.kind c.header_of-header.result c.args.name.now c.args.bytes.now (g.D.Disk.content c.args.disk.now) (g.D.Disk.content c.put_down.new.disk) c.header_of-header.ensures c.in_ok-end.ensures.ok) c.sync.ensures.kept c.in_err-write_at.ensures.err)

pub returns-in_err-write_at-clause-images : goal.returns-in_err-write_at-clause-images
returns-in_err-write_at-clause-images g c =
    gate_passes g.D.Disk.moment g.D.Disk.image c.args.gate (change_by c.args.kind c.args.name.now c.args.bytes.now) c.requires.kind (omega arith) (omega arith) c.args.disk.now (g.D.Disk.content c.args.disk.now) (g.D.Disk.content c.put_down.new.disk) c.sync.new.self c.write_at.new.self c.requires.settled (puts_record (c.args.gate + 1) c.args.kind c.header_of-header.result c.args.name.now c.args.bytes.now (g.D.Disk.content c.args.disk.now) (g.D.Disk.content c.put_down.new.disk) c.header_of-header.ensures c.in_ok-end.ensures.ok) c.in_ok-sync.ensures.durable (same_passes g.D.Disk.moment g.D.Disk.image c.args.gate (change_by c.args.kind c.args.name.now c.args.bytes.now) c.requires.kind (omega arith) (omega arith) c.args.disk.now (g.D.Disk.content c.args.disk.now) c.put_down.new.disk c.sync.new.self (put_passes g.D.Disk.moment g.D.Disk.image c.args.gate (change_by c.args.kind c.args.name.now c.args.bytes.now) c.requires.kind (omega arith) (omega arith) c.args.disk.now (17 + length c.args.name.now + (length c.args.bytes.now + 1)) (g.D.Disk.content c.args.disk.now) c.put_down.new.disk c.requires.settled c.put_down.ensures.images) c.sync.ensures.images) c.write_at.ensures.images

pub returns-in_err-sync-2-clause-err : goal.returns-in_err-sync-2-clause-err
returns-in_err-sync-2-clause-err g c =
    at_err c.from_residual-in_err-sync-2.result (may_from c.args.gate (change_by c.args.kind c.args.name.now c.args.bytes.now) c.requires.kind (omega arith) (omega arith) (g.D.Disk.image c.args.disk.now (g.D.Disk.moment c.args.disk.now)) (g.D.Disk.content c.args.disk.now) (g.D.Disk.content c.sync-2.new.self) (gate_ok c.args.gate (change_by c.args.kind c.args.name.now c.args.bytes.now) c.requires.kind (omega arith) (omega arith) (g.D.Disk.image c.args.disk.now (g.D.Disk.moment c.args.disk.now)) (g.D.Disk.content c.args.disk.now) (g.D.Disk.content c.put_down.new.disk) (g.D.Disk.content c.sync.new.self) (g.D.Disk.content c.write_at.new.self) (g.D.Disk.content c.sync-2.new.self) c.requires.settled (puts_record (c.args.gate + 1) c.args.kind c.header_of-header.result c.args.name.now c.args.bytes.now (g.D.Disk.content c.args.disk.now) (g.D.Disk.content c.put_down.new.disk) c.header_of-header.ensures c.in_ok-end.ensures.ok) c.sync.ensures.kept c.in_ok-write_at.ensures.ok c.sync-2.ensures.kept))

pub returns-in_err-sync-2-clause-images : goal.returns-in_err-sync-2-clause-images
returns-in_err-sync-2-clause-images g c =
    same_passes g.D.Disk.moment g.D.Disk.image c.args.gate (change_by c.args.kind c.args.name.now c.args.bytes.now) c.requires.kind (omega arith) (omega arith) c.args.disk.now (g.D.Disk.content c.args.disk.now) c.write_at.new.self c.sync-2.new.self (gate_passes g.D.Disk.moment g.D.Disk.image c.args.gate (change_by c.args.kind c.args.name.now c.args.bytes.now) c.requires.kind (omega arith) (omega arith) c.args.disk.now (g.D.Disk.content c.args.disk.now) (g.D.Disk.content c.put_down.new.disk) c.sync.new.self c.write_at.new.self c.requires.settled (puts_record (c.args.gate + 1) c.args.kind c.header_of-header.result c.args.name.now c.args.bytes.now (g.D.Disk.content c.args.disk.now) (g.D.Disk.content c.put_down.new.disk) c.header_of-header.ensures c.in_ok-end.ensures.ok) c.in_ok-sync.ensures.durable (same_passes g.D.Disk.moment g.D.Disk.image c.args.gate (change_by c.args.kind c.args.name.now c.args.bytes.now) c.requires.kind (omega arith) (omega arith) c.args.disk.now (g.D.Disk.content c.args.disk.now) c.put_down.new.disk c.sync.new.self (put_passes g.D.Disk.moment g.D.Disk.image c.args.gate (change_by c.args.kind c.args.name.now c.args.bytes.now) c.requires.kind (omega arith) (omega arith) c.args.disk.now (17 + length c.args.name.now + (length c.args.bytes.now + 1)) (g.D.Disk.content c.args.disk.now) c.put_down.new.disk c.requires.settled c.put_down.ensures.images) c.sync.ensures.images) c.write_at.ensures.images) c.sync-2.ensures.images

pub returns-clause-settled : goal.returns-clause-settled
returns-clause-settled g c =
    settles c.args.gate (change_by c.args.kind c.args.name.now c.args.bytes.now) c.requires.kind (omega arith) (omega arith) (g.D.Disk.image c.args.disk.now (g.D.Disk.moment c.args.disk.now)) (g.D.Disk.content c.args.disk.now) (g.D.Disk.content c.put_down.new.disk) (g.D.Disk.content c.sync.new.self) (g.D.Disk.content c.write_at.new.self) (g.D.Disk.content c.sync-2.new.self) (g.D.Disk.image c.sync-2.new.self (g.D.Disk.moment c.sync-2.new.self)) (c.in_ok-end.end - 1) (omega (arith, c.in_ok-end.ensures.end, body_len c.args.kind c.args.name.now c.args.bytes.now)) c.requires.settled (puts_record (c.args.gate + 1) c.args.kind c.header_of-header.result c.args.name.now c.args.bytes.now (g.D.Disk.content c.args.disk.now) (g.D.Disk.content c.put_down.new.disk) c.header_of-header.ensures c.in_ok-end.ensures.ok) c.sync.ensures.kept c.in_ok-write_at.ensures.ok c.sync-2.ensures.kept c.in_ok-sync-2.ensures.durable

pub returns-clause-ok : goal.returns-clause-ok
returns-clause-ok g c =
    gate_ok c.args.gate (change_by c.args.kind c.args.name.now c.args.bytes.now) c.requires.kind (omega arith) (omega arith) (g.D.Disk.image c.args.disk.now (g.D.Disk.moment c.args.disk.now)) (g.D.Disk.content c.args.disk.now) (g.D.Disk.content c.put_down.new.disk) (g.D.Disk.content c.sync.new.self) (g.D.Disk.content c.write_at.new.self) (g.D.Disk.content c.sync-2.new.self) c.requires.settled (puts_record (c.args.gate + 1) c.args.kind c.header_of-header.result c.args.name.now c.args.bytes.now (g.D.Disk.content c.args.disk.now) (g.D.Disk.content c.put_down.new.disk) c.header_of-header.ensures c.in_ok-end.ensures.ok) c.sync.ensures.kept c.in_ok-write_at.ensures.ok c.sync-2.ensures.kept

pub returns-clause-adds : goal.returns-clause-adds
returns-clause-adds g c =
    gate_adds c.args.gate (change_by c.args.kind c.args.name.now c.args.bytes.now) c.requires.kind (omega arith) (omega arith) (g.D.Disk.image c.args.disk.now (g.D.Disk.moment c.args.disk.now)) (g.D.Disk.content c.args.disk.now) (g.D.Disk.content c.put_down.new.disk) (g.D.Disk.content c.sync.new.self) (g.D.Disk.content c.write_at.new.self) (g.D.Disk.content c.sync-2.new.self) c.requires.settled (puts_record (c.args.gate + 1) c.args.kind c.header_of-header.result c.args.name.now c.args.bytes.now (g.D.Disk.content c.args.disk.now) (g.D.Disk.content c.put_down.new.disk) c.header_of-header.ensures c.in_ok-end.ensures.ok) c.sync.ensures.kept c.in_ok-write_at.ensures.ok c.sync-2.ensures.kept

pub returns-clause-images : goal.returns-clause-images
returns-clause-images g c =
    same_passes g.D.Disk.moment g.D.Disk.image c.args.gate (change_by c.args.kind c.args.name.now c.args.bytes.now) c.requires.kind (omega arith) (omega arith) c.args.disk.now (g.D.Disk.content c.args.disk.now) c.write_at.new.self c.sync-2.new.self (gate_passes g.D.Disk.moment g.D.Disk.image c.args.gate (change_by c.args.kind c.args.name.now c.args.bytes.now) c.requires.kind (omega arith) (omega arith) c.args.disk.now (g.D.Disk.content c.args.disk.now) (g.D.Disk.content c.put_down.new.disk) c.sync.new.self c.write_at.new.self c.requires.settled (puts_record (c.args.gate + 1) c.args.kind c.header_of-header.result c.args.name.now c.args.bytes.now (g.D.Disk.content c.args.disk.now) (g.D.Disk.content c.put_down.new.disk) c.header_of-header.ensures c.in_ok-end.ensures.ok) c.in_ok-sync.ensures.durable (same_passes g.D.Disk.moment g.D.Disk.image c.args.gate (change_by c.args.kind c.args.name.now c.args.bytes.now) c.requires.kind (omega arith) (omega arith) c.args.disk.now (g.D.Disk.content c.args.disk.now) c.put_down.new.disk c.sync.new.self (put_passes g.D.Disk.moment g.D.Disk.image c.args.gate (change_by c.args.kind c.args.name.now c.args.bytes.now) c.requires.kind (omega arith) (omega arith) c.args.disk.now (17 + length c.args.name.now + (length c.args.bytes.now + 1)) (g.D.Disk.content c.args.disk.now) c.put_down.new.disk c.requires.settled c.put_down.ensures.images) c.sync.ensures.images) c.write_at.ensures.images) c.sync-2.ensures.images
