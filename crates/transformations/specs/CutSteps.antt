-- How commands change the cuts: by the tokens of the movements that begin and end.
use Rattle.std.specs.Prelude.{◌≡◌, true, false, if◌then◌else◌, ℤ, pos, ◌+ℤ◌, filter, Option, Some, None}
use Rattle.std.specs.Ordering.{int_cmp, int_eq}
use Rattle.std.specs.Set.{is_member}
use Rattle.cluster_terms.specs.Ascending.{put_all}
use Rattle.cluster_terms.specs.Pair.{tokens_of}
use Rattle.cluster_terms.specs.declared.replication.Replication.{Replication}
use Rattle.transformations.specs.History.{next_image}
use Rattle.transformations.specs.Ranges.{moved_by}
use Rattle.transformations.specs.Refusals.{prepared_by}
use Rattle.transformations.specs.Rings.{cuts, reads_at, writes_at}
use Rattle.transformations.specs.Movements.{movement_of, same_phase}
use Rattle.transformations.specs.declared.command.Command.{Command}
use Rattle.transformations.specs.declared.command.Command.TheVariants.{Step, Cancel}
use Rattle.transformations.specs.declared.image.Image.{Image}
use Rattle.transformations.specs.declared.sequence.Goal.TheVariants as goal
use Rattle.transformations.specs.declared.sequence.Phase.TheVariants.{Mid}
use Rattle.transformations.specs.declared.sequence.SeqRow.{SeqRow}

-- this movement, unless it is at MID
abbrev pub unless_mid : Option SeqRow → Option SeqRow
unless_mid None = None
unless_mid (Some s) = if same_phase s.phase Mid then None else Some s

-- the movement that a command ends: a finish ends its movement, and so does a cancel, except at MID
abbrev pub ended_by : Image → Command → Option SeqRow
ended_by image (Step goal.Finish kind node) = movement_of image node
ended_by image (Cancel node) = unless_mid (movement_of image node)
ended_by image _ = None

-- the cuts after are some of the cuts before, and each other cut before is a token of the movement's pairs
pub record LosesCuts (before after : Image) (s : SeqRow) : Type 0 where
  pub kept : cuts after ≡ filter (λ t. is_member int_eq (cuts after) t) (cuts before)
  pub gone : (t : ℤ) → is_member int_eq (cuts before) t ≡ true → is_member int_eq (cuts after) t ≡ false → is_member int_eq (tokens_of (moved_by s)) t ≡ true

-- where a movement begins, its tokens are put into the cuts; where one ends, cuts go; otherwise the cuts stay
abbrev pub CutsChange : Image → Image → Option SeqRow → Option SeqRow → Type 0
CutsChange before after (Some s) ended = cuts after ≡ put_all int_cmp (tokens_of s.in_pairs) (cuts before)
CutsChange before after None (Some s) = LosesCuts before after s
CutsChange before after None None = cuts after ≡ cuts before

-- the cuts change by the movement that the command prepares, or by the movement that it ends
abbrev pub CutsFollow : Image → Command → Type 0
CutsFollow image c = CutsChange image (next_image image c) (prepared_by image.tokens c) (ended_by image c)

-- the same nodes are read at a token and at the token after it, and the same are written
pub record SameAcross (image : Image) (r : Replication) (t : ℤ) : Type 0 where
  pub reads : reads_at image r t ≡ reads_at image r (t +ℤ pos 1)
  pub writes : writes_at image r t ≡ writes_at image r (t +ℤ pos 1)
