use Rattle.std.proofs.Common.{ap, ◌∙◌}
use Rattle.std.specs.Map.{values_of}
use Rattle.std.specs.Set.{is_member}
use Rattle.std.specs.Str.{bytes_eq}
use Rattle.node_directory.specs.Directory.{node_names}
use Rattle.node_directory.proofs.StoredRowLemmas.{is_some-lookup}
use Rattle.node_directory.proofs.stored_rows.has_name.Goals as goal

pub returns : goal.returns
returns c =
    let es = c.args.nodes.now.entries in
    c.contains_key.ensures ∙ is_some-lookup es c.requires c.as_str.result.now ∙ ap (is_member bytes_eq (node_names (values_of es))) c.as_str.ensures.text
