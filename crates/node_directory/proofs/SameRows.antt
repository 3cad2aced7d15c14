-- Lists of rows that are equal.
use Rattle.std.proofs.Common.{◌≡◌, Bool, ◌&&◌, ◌==◌, List, ap, ◌∙◌, length}
use Rattle.std.proofs.lemmas.Bool.Decides.{Decides-and, Decides-eqb}
use Rattle.std.proofs.lemmas.Slice.Eq.{bytes_eq-Decides, slice_eq-Decides}
use Rattle.std.specs.Cmp.{booleans_Decides}
use Rattle.std.specs.Bool.{Decides, beq}
use Rattle.std.specs.List.{list_all, zip}
use Rattle.std.specs.Str.{bytes_eq}
use Rattle.cluster_terms.specs.declared.node.NodeRow.{NodeRow}
use Rattle.cluster_terms.proofs.texts.ReplicationLemmas.{beside}
use Rattle.node_directory.specs.code.StoredRows.{same_node}

-- rows that the test takes for the same are the same
node_Decides : (a b : NodeRow) → Decides (same_node a b) (a ≡ b)
node_Decides a b =
    let ids = Decides-and (a.id == b.id) (beq a.left b.left) (Decides-eqb a.id b.id) (booleans_Decides a.left b.left) in
    let names = Decides-and ((a.id == b.id) && beq a.left b.left) (bytes_eq a.name b.name) ids (bytes_eq-Decides a.name b.name) in
    let dcs = Decides-and ((a.id == b.id) && beq a.left b.left && bytes_eq a.name b.name) (bytes_eq a.dc b.dc) names (bytes_eq-Decides a.dc b.dc) in
    let all = Decides-and ((a.id == b.id) && beq a.left b.left && bytes_eq a.name b.name && bytes_eq a.dc b.dc) (bytes_eq a.rack b.rack) dcs (bytes_eq-Decides a.rack b.rack) in (
      λ h. let same = all.0 h in λ i. record { id = same.0.0.0.0 i; name = same.0.0.1 i; dc = same.0.1 i; rack = same.1 i; left = same.0.0.0.1 i },
      λ (same : a ≡ b). all.1 ((((ap (λ (r : NodeRow). r.id) same, ap (λ (r : NodeRow). r.left) same), ap (λ (r : NodeRow). r.name) same), ap (λ (r : NodeRow). r.dc) same), ap (λ (r : NodeRow). r.rack) same),
    )

-- lists that are as long, with the same rows beside each other, are the same
pub same_beside : (xs ys : List NodeRow) (r : Bool) → length xs ≡ length ys → r ≡ list_all (λ (p : NodeRow × NodeRow). same_node p.0 p.1) (zip xs ys) → Decides r (xs ≡ ys)
same_beside xs ys r long is = slice_eq-Decides node_Decides xs ys r (is ∙ beside same_node xs ys long)
