-- The rules of valid images, in order (by rules of this project). A rule that is broken shows a value: that of the
-- first place, in the order of the lists, that breaks it. Only rule 18 needs ranges: `broken_rule` has rules 1 to 17.
use Rattle.std.specs.Prelude.{ℕ, ◌+◌, Bool, false, not, ◌&&◌, ◌||◌, if◌then◌else◌, ℤ, pos, negsuc, int_le, List, [], ◌∷◌, ◌++◌, length, filter, find, is_none, Option, Some, None, option_map, nat_le, nat_lt, ◌==◌}
use Rattle.std.specs.Cmp.Lexicographic.{pointwise}
use Rattle.std.specs.List.{list_all, list_any}
use Rattle.std.specs.Option.{option_or}
use Rattle.std.specs.Ordering.{int_eq, is_lt}
use Rattle.std.specs.Set.{distinct_count}
use Rattle.std.specs.Str.{bytes_eq}
use Rattle.std.specs.declared.cmp.Ordering.{Ordering}
use Rattle.cluster_terms.specs.Arc.{greatest_token}
use Rattle.cluster_terms.specs.Pair.{same_pair, tokens_of}
use Rattle.cluster_terms.specs.Row.{rows_between}
use Rattle.cluster_terms.specs.declared.node.NodeRow.{NodeRow}
use Rattle.cluster_terms.specs.declared.row.TokenRange.{TokenRange}
use Rattle.cluster_terms.specs.declared.token.Pair.{Pair}
use Rattle.transformations.specs.History.{most_epochs}
use Rattle.transformations.specs.Orders.{by_token, by_name, by_node}
use Rattle.transformations.specs.Ranges.{is_shared}
use Rattle.transformations.specs.Refusals.{most_nodes, most_tokens, most_keyspaces, other_rack}
use Rattle.transformations.specs.Rings.{cuts, incoming, widest}
use Rattle.transformations.specs.States.{owns_tokens, node_tokens}
use Rattle.transformations.specs.Movements.{first_node, owned, pairs_of, takes_part}
use Rattle.transformations.specs.Valid.{brought_by, is_standing}
use Rattle.transformations.specs.declared.image_rules.BadImage.{BadImage}
use Rattle.transformations.specs.declared.image.Image.{Image}
use Rattle.transformations.specs.declared.sequence.Kind.{Kind}
use Rattle.transformations.specs.declared.sequence.Kind.TheVariants.{Join, Move, Leave, Replace}
use Rattle.transformations.specs.declared.sequence.SeqRow.{SeqRow}

-- ---- the first place that breaks a rule

-- the value, if the test is true
abbrev pub shown_if : Bool → ℤ → Option ℤ
shown_if test value = if test then Some value else None

-- a count above a limit, which is shown
abbrev pub above : ℕ → ℕ → Option ℤ
above most count = shown_if (nat_lt most count) (pos count)

-- the value for the first item that breaks a rule. The rule sees the item and the reversed list of the items before it,
-- with the nearest first; at the start, `before` is empty
abbrev pub first_bad : {A : Type 0} → (List A → A → Option ℤ) → List A → List A → Option ℤ
first_bad rule before [] = None
first_bad rule before (x ∷ xs) = option_or (rule before x) (first_bad rule (x ∷ before) xs)

-- the position of the first item that isn't above the one before it, and this item. Positions count from 0: the first
-- item of this list is at position `at`, which is 0 for a whole list
abbrev pub first_fall : {A : Type 0} → (A → A → Ordering) → ℕ → List A → Option (ℕ × A)
first_fall order at [] = None
first_fall order at (x ∷ []) = None
first_fall order at (x ∷ y ∷ ys) = if is_lt (order x y) then first_fall order (at + 1) (y ∷ ys) else Some (at + 1, y)

-- ---- the nodes

-- the id of the nearest node before, which is the first of the reversed list; 0 if there is none
abbrev pub id_before : List NodeRow → ℕ
id_before [] = 0
id_before (row ∷ rows) = row.id

-- a node's id is 0 or not above the one before it; it is shown
abbrev pub id_falls : List NodeRow → NodeRow → Option ℤ
id_falls before row = shown_if (nat_le row.id (id_before before)) (pos row.id)

-- a node has the name of an earlier one; the later id is shown
abbrev pub name_repeats : List NodeRow → NodeRow → Option ℤ
name_repeats before row = shown_if (list_any (λ q. bytes_eq q.name row.name) before) (pos row.id)

-- ---- the movements

-- a join takes no pair out, and puts in 1 to 256 pairs of its node, which has no token in the ring
abbrev pub fits_join : Image → SeqRow → Bool
fits_join image s =
    (length s.out_pairs == 0) && (nat_le 1 (length s.in_pairs) && (nat_le (length s.in_pairs) 256
    && (list_all (λ p. p.node == s.node) s.in_pairs && not (owns_tokens image s.node))))

-- a move takes out the node's only pair, and puts in one pair of the node
abbrev pub fits_move : Image → SeqRow → Bool
fits_move image s =
    pointwise same_pair s.out_pairs (owned image.tokens s.node) && ((length s.out_pairs == 1)
    && ((length s.in_pairs == 1) && list_all (λ p. p.node == s.node) s.in_pairs))

-- a leave takes out the node's pairs, at least one, and puts none in
abbrev pub fits_leave : Image → SeqRow → Bool
fits_leave image s =
    pointwise same_pair s.out_pairs (owned image.tokens s.node) && (nat_le 1 (length s.out_pairs) && (length s.in_pairs == 0))

-- a replace takes out all pairs of another node, at least one, and puts in the same tokens with its own node, which has
-- no token in the ring. If both are registered, they have the same datacenter and rack
abbrev pub fits_replace : Image → SeqRow → Option ℕ → Bool
fits_replace image s None = false
fits_replace image s (Some gone) =
    pointwise same_pair s.out_pairs (owned image.tokens gone)
    && (pointwise same_pair s.in_pairs (pairs_of s.node (tokens_of s.out_pairs))
    && (not (owns_tokens image s.node) && is_none (other_rack image s.node gone)))

-- the pairs of a movement fit its kind
abbrev pub fits_kind : Kind → Image → SeqRow → Bool
fits_kind Join image s = fits_join image s
fits_kind Move image s = fits_move image s
fits_kind Leave image s = fits_leave image s
fits_kind Replace image s = fits_replace image s (first_node s.out_pairs)

-- the pairs of a movement fit its kind, and those that it puts in ascend
abbrev pub fits : Image → SeqRow → Bool
fits image s = is_none (first_fall by_token 0 s.in_pairs) && fits_kind s.kind image s

-- a node of a movement takes part in another movement
abbrev pub shares_node : SeqRow → SeqRow → Bool
shares_node s q = takes_part s.node q || list_any (λ p. takes_part p.node q) s.out_pairs

-- a node takes part in a movement and in an earlier one; the later one's node is shown
abbrev pub node_repeats : List SeqRow → SeqRow → Option ℤ
node_repeats before s = shown_if (list_any (shares_node s) before) (pos s.node)

-- whether the token of a pair is in the ring, or an earlier movement puts it in
abbrev pub is_known : List Pair → List SeqRow → Pair → Bool
is_known ring before p = list_any (λ q. int_eq q.token p.token) (ring ++ incoming before)

-- a movement brings a token that is in the ring, or that an earlier one puts in; the first such token is shown
abbrev pub token_repeats : List Pair → List SeqRow → SeqRow → Option ℤ
token_repeats ring before s = option_map (λ p. p.token) (find (is_known ring before) (brought_by s.kind s.in_pairs))

-- whether a number is a token
abbrev pub is_token : ℤ → Bool
is_token t = int_le (negsuc 9223372036854775807) t && int_le t greatest_token

-- the rows between the cuts that are tokens; in code all cuts are tokens
abbrev pub token_rows : Image → List TokenRange
token_rows image = rows_between (filter is_token (cuts image))

-- whether two movements overlap: one of these rows is in the ranges of both
abbrev pub overlap : Image → SeqRow → SeqRow → Bool
overlap image s q = list_any (is_shared image s q) (token_rows image)

-- whether a movement overlaps one with a lesser node
abbrev pub overlaps : Image → SeqRow → Bool
overlaps image s = list_any (λ q. nat_lt q.node s.node && overlap image s q) image.sequences

-- ---- the rules, each with what it shows where it is broken

-- there are too many nodes; their number is shown
abbrev pub rule_1 : Image → Option ℤ
rule_1 image = above most_nodes (length image.nodes)

-- a node's id is 0 or not above the one before it; it is shown
abbrev pub rule_2 : Image → Option ℤ
rule_2 image = first_bad id_falls [] image.nodes

-- a node's id isn't below the next id; it is shown
abbrev pub rule_3 : Image → Option ℤ
rule_3 image = option_map (λ row. pos row.id) (find (λ row. nat_le image.next row.id) image.nodes)

-- a node has the name of an earlier one; the later id is shown
abbrev pub rule_4 : Image → Option ℤ
rule_4 image = first_bad name_repeats [] image.nodes

-- the epoch is above 65,536; it is shown
abbrev pub rule_5 : Image → Option ℤ
rule_5 image = above most_epochs image.epoch

-- the next id is 0, or above the epoch plus 1; it is shown
abbrev pub rule_6 : Image → Option ℤ
rule_6 image = shown_if ((image.next == 0) || nat_lt (image.epoch + 1) image.next) (pos image.next)

-- a token of the ring isn't above the one before it; it is shown
abbrev pub rule_7 : Image → Option ℤ
rule_7 image = option_map (λ found. found.1.token) (first_fall by_token 0 image.tokens)

-- the node of a token isn't registered, or has left; the token is shown
abbrev pub rule_8 : Image → Option ℤ
rule_8 image = option_map (λ p. p.token) (find (λ p. not (is_standing image.nodes p.node)) image.tokens)

-- a node has more than 256 tokens; its id is shown
abbrev pub rule_9 : Image → Option ℤ
rule_9 image = option_map (λ row. pos row.id) (find (λ row. nat_lt 256 (length (node_tokens image row.id))) image.nodes)

-- there are too many keyspaces; their number is shown
abbrev pub rule_10 : Image → Option ℤ
rule_10 image = above most_keyspaces (length image.keyspaces)

-- a keyspace's name isn't above the one before it; the keyspace's position, counted from 0, is shown
abbrev pub rule_11 : Image → Option ℤ
rule_11 image = option_map (λ found. pos found.0) (first_fall by_name 0 image.keyspaces)

-- a movement's node isn't above the one before it; it is shown
abbrev pub rule_12 : Image → Option ℤ
rule_12 image = option_map (λ found. pos found.1.node) (first_fall by_node 0 image.sequences)

-- the node of a movement isn't registered, or has left; it is shown
abbrev pub rule_13 : Image → Option ℤ
rule_13 image = option_map (λ s. pos s.node) (find (λ s. not (is_standing image.nodes s.node)) image.sequences)

-- the pairs of a movement don't fit its kind, or those that it puts in don't ascend; its node is shown
abbrev pub rule_14 : Image → Option ℤ
rule_14 image = option_map (λ s. pos s.node) (find (λ s. not (fits image s)) image.sequences)

-- a node takes part in two movements; the later one's node is shown
abbrev pub rule_15 : Image → Option ℤ
rule_15 image = first_bad node_repeats [] image.sequences

-- a movement brings a token that is in the ring, or that an earlier one puts in; the token is shown
abbrev pub rule_16 : Image → Option ℤ
rule_16 image = first_bad (token_repeats image.tokens) [] image.sequences

-- there are too many different tokens in the ring and among the pairs that movements put in; their number is shown
abbrev pub rule_17 : Image → Option ℤ
rule_17 image = above most_tokens (distinct_count int_eq (tokens_of (widest image)))

-- a movement overlaps one with a lesser node; its own node is shown
abbrev pub rule_18 : Image → Option ℤ
rule_18 image = option_map (λ s. pos s.node) (find (overlaps image) image.sequences)

-- a rule that is broken, with its value
abbrev pub broken : ℕ → Option ℤ → Option BadImage
broken n found = option_map (λ value. record { rule = n; value = value }) found

-- the first that is broken of a list
abbrev pub first_broken : List (Option BadImage) → Option BadImage
first_broken [] = None
first_broken (rule ∷ later) = option_or rule (first_broken later)

-- the first rule that is broken of rules 1 to 17, which need no ranges
unfoldable pub broken_rule : Image → Option BadImage
broken_rule image =
    first_broken (broken 1 (rule_1 image) ∷ broken 2 (rule_2 image) ∷ broken 3 (rule_3 image) ∷ broken 4 (rule_4 image)
    ∷ broken 5 (rule_5 image) ∷ broken 6 (rule_6 image) ∷ broken 7 (rule_7 image) ∷ broken 8 (rule_8 image)
    ∷ broken 9 (rule_9 image) ∷ broken 10 (rule_10 image) ∷ broken 11 (rule_11 image) ∷ broken 12 (rule_12 image)
    ∷ broken 13 (rule_13 image) ∷ broken 14 (rule_14 image) ∷ broken 15 (rule_15 image) ∷ broken 16 (rule_16 image)
    ∷ broken 17 (rule_17 image) ∷ [])

-- the first rule that is broken of all rules
unfoldable pub bad_of : Image → Option BadImage
bad_of image = option_or (broken_rule image) (broken 18 (rule_18 image))
