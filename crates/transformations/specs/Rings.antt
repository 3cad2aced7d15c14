-- The rings of an image, and the reads and writes that they give (CEP-21's placements for reads and for writes).
use Rattle.std.specs.Prelude.{◌≡◌, ℕ, Bool, true, false, ℤ, List, ◌++◌, filter, flat_map}
use Rattle.std.specs.List.{All}
use Rattle.std.specs.Ordering.{nat_cmp, int_cmp}
use Rattle.cluster_terms.specs.Ascending.{put_all, ascending}
use Rattle.cluster_terms.specs.Group.{place}
use Rattle.cluster_terms.specs.Replication.{groups_of}
use Rattle.cluster_terms.specs.Row.{is_within, last_token, rows_between}
use Rattle.cluster_terms.specs.declared.row.TokenRange.{TokenRange}
use Rattle.cluster_terms.specs.declared.token.Pair.{Pair}
use Rattle.cluster_terms.specs.declared.replication.Replication.{Replication}
use Rattle.cluster_terms.specs.Pair.{tokens_of, without_pairs}
use Rattle.transformations.specs.declared.image.Image.{Image}
use Rattle.transformations.specs.declared.sequence.Phase.{Phase}
use Rattle.transformations.specs.declared.sequence.Phase.TheVariants.{Prepared, Started, Mid}
use Rattle.transformations.specs.declared.sequence.SeqRow.{SeqRow}

-- whether a movement at this phase is applied in the read ring: it is at MID
abbrev pub is_mid : Phase → Bool
is_mid Mid = true
is_mid Started = false
is_mid Prepared = false

-- whether a movement at this phase is applied in the high ring: it is at STARTED or MID
abbrev pub has_started : Phase → Bool
has_started Mid = true
has_started Started = true
has_started Prepared = false

-- a ring without the outgoing pairs, and with the incoming pairs at its end
abbrev pub replaced : List Pair → List Pair → List Pair → List Pair
replaced ring outgoing incoming = without_pairs ring outgoing ++ incoming

-- the pairs that these movements take out
abbrev pub outgoing : List SeqRow → List Pair
outgoing sequences = flat_map (λ s. s.out_pairs) sequences

-- the pairs that these movements put in
abbrev pub incoming : List SeqRow → List Pair
incoming sequences = flat_map (λ s. s.in_pairs) sequences

-- the ring with the movements at these phases applied: without their outgoing pairs, and with their incoming pairs
abbrev pub ring_at : (Phase → Bool) → Image → List Pair
ring_at applied image =
    let sequences = filter (λ s. applied s.phase) image.sequences in
    replaced image.tokens (outgoing sequences) (incoming sequences)

-- the low ring: no movement is applied
abbrev pub low_ring : Image → List Pair
low_ring image = image.tokens

-- the read ring: the movements at MID are applied
abbrev pub read_ring : Image → List Pair
read_ring image = ring_at is_mid image

-- the high ring: the movements at STARTED or MID are applied
abbrev pub high_ring : Image → List Pair
high_ring image = ring_at has_started image

-- the nodes that are read at a token: those placed on the read ring
unfoldable pub reads_at : Image → Replication → ℤ → List ℕ
reads_at image replication x = place (groups_of image.nodes replication) x (read_ring image)

-- the nodes that are written at a token: those placed on the low ring or on the high ring
unfoldable pub writes_at : Image → Replication → ℤ → List ℕ
writes_at image replication x =
    let groups = groups_of image.nodes replication in
    put_all nat_cmp (place groups x (low_ring image)) (place groups x (high_ring image))

-- the pairs of a ring that stay in it whatever happens to the movements: none of these takes them out
abbrev pub fixed_among : List Pair → List SeqRow → List Pair
fixed_among tokens sequences = without_pairs tokens (outgoing sequences)

-- all pairs that are in a ring or may come to be in it: those of the ring and those that the movements put in
abbrev pub widest_among : List Pair → List SeqRow → List Pair
widest_among tokens sequences = tokens ++ incoming sequences

-- the pairs that stay in the ring of an image whatever happens to its movements
abbrev pub fixed_ring : Image → List Pair
fixed_ring image = fixed_among image.tokens image.sequences

-- all pairs that are in the ring of an image or may come to be in it
abbrev pub widest : Image → List Pair
widest image = widest_among image.tokens image.sequences

-- the cuts: the tokens of a ring and those that movements put in, ascending, each once
abbrev pub cuts_among : List Pair → List SeqRow → List ℤ
cuts_among tokens sequences = ascending int_cmp (tokens_of (widest_among tokens sequences))

-- the cuts of an image
abbrev pub cuts : Image → List ℤ
cuts image = cuts_among image.tokens image.sequences

-- a row stands for its tokens: at each of them the same nodes are read, and the same are written, as at its last token
pub record StandsForTokens (image : Image) (r : Replication) (row : TokenRange) : Type 0 where
  pub reads : (x : ℤ) → is_within x row ≡ true → reads_at image r x ≡ reads_at image r (last_token row.right)
  pub writes : (x : ℤ) → is_within x row ≡ true → writes_at image r x ≡ writes_at image r (last_token row.right)

-- each row between cuts stands for its tokens, under every replication
abbrev pub RowsStandForTokens : Image → Type 0
RowsStandForTokens image = (r : Replication) → All (StandsForTokens image r) (rows_between (cuts image))
