use Rattle.std.proofs.Common.{OnErr, OnOk, subst, sym, ◌∙◌}
use Rattle.tcm_edges.specs.Shown.{EachLeft}
use Rattle.tcm_session.specs.code.Loading.{IsKeptOrWritten, IsWritten}
use Rattle.tcm_session.proofs.log_files.BaseLemmas.{base_all, base_cut, base_header, file_some, open_within}
use Rattle.tcm_session.proofs.log_files.HeldFiles.{written_already}
use Rattle.tcm_session.proofs.scripts.commit.settle_file.Goals as goal

pub overflow_sub-size : goal.overflow_sub-size
overflow_sub-size g c = rw (c.as_slice-bytes.ensures, c.requires.tail) (open_within c.args.log.now.cluster c.args.file)

pub returns-then-size-eq0-clause-settled : goal.returns-then-size-eq0-clause-settled
returns-then-size-eq0-clause-settled g c =
    let none = rw (c.as_slice-bytes.ensures, c.requires.tail) at c.if-size-eq0.true in
    subst (λ t. OnOk c.write_file.result (IsWritten c.args.log.now.name.now t (g.D.Store.files c.args.store.now) (g.D.Store.files c.write_file.new.store))) (c.as_slice.ensures ∙ c.in_ok-header.ensures ∙ sym (base_header c.args.log.now.cluster c.args.file none)) c.write_file.ensures.written

pub returns-then-size-eq0-clause-stopped : goal.returns-then-size-eq0-clause-stopped
returns-then-size-eq0-clause-stopped g c =
    let none = rw (c.as_slice-bytes.ensures, c.requires.tail) at c.if-size-eq0.true in
    subst (λ t. OnErr c.write_file.result (EachLeft g.D.Store.files g.D.Store.shows c.args.store.now c.write_file.new.store (λ left. IsKeptOrWritten c.args.log.now.name.now t (g.D.Store.files c.args.store.now) left))) (c.as_slice.ensures ∙ c.in_ok-header.ensures ∙ sym (base_header c.args.log.now.cluster c.args.file none)) c.write_file.ensures.stopped

pub returns-then-tail-eq0-clause-settled : goal.returns-then-tail-eq0-clause-settled
returns-then-tail-eq0-clause-settled g c =
    let some = rw (c.as_slice-bytes.ensures, c.requires.tail) at c.if-size-eq0.false in
    let none = rw c.requires.tail at c.if-tail-eq0.true in
    subst (λ t. IsWritten c.args.log.now.name.now t (g.D.Store.files c.args.store.now) (g.D.Store.files c.args.store.now)) (sym (base_all c.args.log.now.cluster c.args.file some none)) (written_already _ c.args.file _ (file_some c.args.log.now.cluster c.args.file some) c.requires.holds)

pub returns-clause-settled : goal.returns-clause-settled
returns-clause-settled g c =
    let some = rw (c.as_slice-bytes.ensures, c.requires.tail) at c.if-size-eq0.false in
    subst (λ t. OnOk c.write_file-2.result (IsWritten c.args.log.now.name.now t (g.D.Store.files c.args.store.now) (g.D.Store.files c.write_file-2.new.store))) (base_cut c.args.log.now.cluster c.args.file some) (rw (c.as_slice-bytes.ensures, c.requires.tail) at c.write_file-2.ensures.written)

pub returns-clause-stopped : goal.returns-clause-stopped
returns-clause-stopped g c =
    let some = rw (c.as_slice-bytes.ensures, c.requires.tail) at c.if-size-eq0.false in
    subst (λ t. OnErr c.write_file-2.result (EachLeft g.D.Store.files g.D.Store.shows c.args.store.now c.write_file-2.new.store (λ left. IsKeptOrWritten c.args.log.now.name.now t (g.D.Store.files c.args.store.now) left))) (base_cut c.args.log.now.cluster c.args.file some) (rw (c.as_slice-bytes.ensures, c.requires.tail) at c.write_file-2.ensures.stopped)
