use Rattle.std.proofs.Common.{◌≡◌, false, refl, ap, sym, ◌∙◌, string_bytes}
use Rattle.std.specs.Map.{values_of}
use Rattle.std.specs.Set.{is_member}
use Rattle.std.specs.Str.{bytes_eq}
use Rattle.cluster_terms.specs.declared.node.NodeRow.{NodeRow}
use Rattle.node_directory.specs.Directory.{node_names}
use Rattle.node_directory.proofs.StoredRowLemmas.{AreNamed-insert, values-insert}
use Rattle.node_directory.proofs.stored_rows.push_copy.Goals as goal

pub returns-clause-named : goal.returns-clause-named
returns-clause-named c =
    let es = c.args.nodes.now.entries in
    let same : c.in_ok-copy.field-0 ≡ c.args.row.now = c.in_ok-copy.ensures in
    let name : string_bytes c.in_ok-name.name ≡ c.in_ok-copy.field-0.name = c.in_ok-name.ensures.ok ∙ c.as_str.ensures.text ∙ ap (λ (r : NodeRow). r.name) (sym same) in
    let free : is_member bytes_eq (node_names (values_of es)) c.in_ok-copy.field-0.name ≡ false = rw same c.requires.free in
    AreNamed-insert es _ c.in_ok-name.name c.in_ok-copy.field-0 c.in_ok-insert.ensures.entries c.requires.named name free

pub returns-clause-rows : goal.returns-clause-rows
returns-clause-rows c =
    let es = c.args.nodes.now.entries in
    let same : c.in_ok-copy.field-0 ≡ c.args.row.now = c.in_ok-copy.ensures in
    let name : string_bytes c.in_ok-name.name ≡ c.in_ok-copy.field-0.name = c.in_ok-name.ensures.ok ∙ c.as_str.ensures.text ∙ ap (λ (r : NodeRow). r.name) (sym same) in
    let free : is_member bytes_eq (node_names (values_of es)) c.in_ok-copy.field-0.name ≡ false = rw same c.requires.free in
    rw (values-insert es _ c.in_ok-name.name c.in_ok-copy.field-0 c.in_ok-insert.ensures.entries c.requires.named name free, same) refl
