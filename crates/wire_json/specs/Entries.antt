-- The entries that a log may hold.
use Rattle.std.specs.Prelude.{ℕ, ◌^◌, ◌<◌, ◌≤◌, IsTrue}
use Rattle.std.specs.List.{AllByRecursion}
use Rattle.cluster_terms.specs.Arc.{IsToken}
use Rattle.cluster_terms.specs.Name.{is_name}
use Rattle.cluster_terms.specs.Replication.{IsReplication}
use Rattle.transformations.specs.History.{is_command}
use Rattle.transformations.specs.declared.command.Command.{Command}
use Rattle.transformations.specs.declared.command.Command.TheVariants.{Register, Unregister, UnsafeJoin, Keyspace, DropKeyspace, PrepareJoin, PrepareMove, PrepareLeave, PrepareReplace, Step, Cancel}
use Rattle.transformations.specs.declared.entry.Entry.{Entry}

-- a node is a number below 2^32
abbrev pub IsNode : ℕ → Type 0
IsNode n = n < 2 ^ 32

-- the values of a command are names, replications, nodes and tokens
abbrev pub HasValues : Command → Type 0
HasValues (Register name dc rack) = IsTrue (is_name name) × IsTrue (is_name dc) × IsTrue (is_name rack)
HasValues (Unregister node) = IsNode node
HasValues (UnsafeJoin node tokens) = IsNode node × AllByRecursion IsToken tokens
HasValues (Keyspace name replication) = IsTrue (is_name name) × IsReplication replication
HasValues (DropKeyspace name) = IsTrue (is_name name)
HasValues (PrepareJoin node tokens) = IsNode node × AllByRecursion IsToken tokens
HasValues (PrepareMove node token) = IsNode node × IsToken token
HasValues (PrepareLeave node) = IsNode node
HasValues (PrepareReplace node gone) = IsNode node × IsNode gone
HasValues (Step goal kind node) = IsNode node
HasValues (Cancel node) = IsNode node

-- an entry of a log: an id below 2^64, an epoch from 1 to 65,536, and a command; if the command lists tokens, they are
-- 1 to 256 and ascend
pub record IsEntry (entry : Entry) : Type 0 where
  pub id : entry.id < 2 ^ 64
  pub first : 1 ≤ entry.epoch
  pub last : entry.epoch ≤ 65536
  pub values : HasValues entry.cmd
  pub tokens : IsTrue (is_command entry.cmd)
