use Rattle.std.proofs.Common.{◌≡◌, ◌++◌, ℕ, List, IfSome, OnOk, ap, subst}
use Rattle.cluster_terms.specs.Quorum.{Sets, datacenter_of, local_sets, read_need, write_need}
use Rattle.cluster_terms.specs.declared.node.NodeRow.{NodeRow}
use Rattle.node_directory.specs.Directory.{Registry}
use Rattle.script_session.proofs.answers.LocalLemmas.{local_shown}
use Rattle.script_session.proofs.session.quorum_text.local_sets_text.Goals as goal

-- the needs are those of the rows of the directory, which are the image's nodes
pub returns-clause-added : goal.returns-clause-added
returns-clause-added c =
    let rows : c.directory-dir.result.now.rows ≡ c.args.metadata.now.nodes = ap (λ (d : Registry). d.rows) c.directory-dir.ensures in
    let sets : List NodeRow → List ℕ × ℕ → Sets = λ nodes f. local_sets nodes f c.args.all.now.reads.now c.args.all.now.writes.now in
    let named = datacenter_of c.args.factors.now c.args.dc.now in
    let read = subst (λ nodes. IfSome named (λ f. c.local_quorum-needs.result.read_need ≡ read_need (sets nodes f))) rows c.local_quorum-needs.ensures.read in
    let write = subst (λ nodes. IfSome named (λ f. c.local_quorum-needs.result.write_need ≡ write_need (sets nodes f))) rows c.local_quorum-needs.ensures.write in
    let shown = rw (c.epoch.ensures, c.in_ok-local_reads.ensures, c.in_ok-local_writes.ensures, rows) at c.sets_text.ensures.added in
    local_shown (λ l. OnOk c.sets_text.result (c.sets_text.new.out ≡ c.args.out.now ++ l)) c.args.metadata.now.nodes c.args.factors.now c.args.dc.now c.args.all.now.reads.now c.args.all.now.writes.now c.args.metadata.now.epoch _ _ read write shown
