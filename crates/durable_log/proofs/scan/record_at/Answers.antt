use Rattle.std.proofs.Common.{◌+◌, ◌-◌, ◌<◌, arith}
use Rattle.durable_log.proofs.records.Headers.{none_at, some_at}
use Rattle.durable_log.proofs.scan.record_at.Goals as goal
use Rattle.durable_log.proofs.scan.record_at.Goals.{then-name_len-rest-via-then-name_len-rest, then-name_len-rest-via-else-name_len-rest+then-bytes_len-rest, then-name_len-rest-via-else-name_len-rest+else-bytes_len-rest+then-name_len-bytes_len}

pub returns-then-name_len-rest-clause-found : goal.returns-then-name_len-rest-clause-found
returns-then-name_len-rest-clause-found g c =
    let past : c.args.size - c.args.at < 18 + (c.from_be_bytes-name_len.result + c.from_be_bytes-bytes_len.result) =
    elim c.then-name_len-rest.branch [ then-name_len-rest-via-then-name_len-rest w ↦ omega arith | then-name_len-rest-via-else-name_len-rest+then-bytes_len-rest w ↦ omega arith | then-name_len-rest-via-else-name_len-rest+else-bytes_len-rest+then-name_len-bytes_len w ↦ omega arith ] in
    none_at (g.D.Disk.content c.args.disk.now) c.read_full.new.buf c.args.at c.args.size c.in_ok-n.n c.from_be_bytes-name_len.result c.from_be_bytes-bytes_len.result (omega (arith, c.in_ok-n.ensures.bound, c.read_full.auto.buf)) (omega (arith, c.read_full.auto.buf)) c.from_be_bytes-name_len.ensures c.from_be_bytes-bytes_len.ensures c.requires.told c.in_ok-n.ensures.bytes c.requires.within past

pub returns-clause-found : goal.returns-clause-found
returns-clause-found g c =
    some_at (g.D.Disk.content c.args.disk.now) c.read_full.new.buf c.args.at c.args.size c.in_ok-n.n c.from_be_bytes-name_len.result c.from_be_bytes-bytes_len.result (omega (arith, c.in_ok-n.ensures.bound, c.read_full.auto.buf)) (omega (arith, c.read_full.auto.buf)) c.from_be_bytes-name_len.ensures c.from_be_bytes-bytes_len.ensures c.requires.told c.in_ok-n.ensures.bytes c.requires.within (omega arith) c.if-bytes-ne1.false c.if-bytes-gt1.false
