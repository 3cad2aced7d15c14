-- An entry has no float.
use Rattle.std.proofs.Common.{◌≡◌, ℤ, pos, negsuc, false, List, refl}
use Rattle.serde_json.specs.Written.{has_float, items_have_float}
use Rattle.transformations.specs.declared.command.Command.{Command}
use Rattle.transformations.specs.declared.command.Command.TheVariants.{Register, Unregister, UnsafeJoin, Keyspace, DropKeyspace, PrepareJoin, PrepareMove, PrepareLeave, PrepareReplace, Step, Cancel}
use Rattle.transformations.specs.declared.entry.Entry.{Entry}
use Rattle.wire_json.specs.EntryTexts.{command_data, entry_data, list_items, token_data}
use Rattle.wire_json.proofs.json_values.ListItems.{list_whole}

pub token_whole : (token : ℤ) → has_float (token_data token) ≡ false
token_whole (pos n) = refl
token_whole (negsuc n) = refl

tokens_whole : (tokens : List ℤ) → items_have_float (list_items token_data tokens) ≡ false
tokens_whole tokens = list_whole token_data token_whole tokens

command_whole : (command : Command) → has_float (command_data command) ≡ false
command_whole (Register name dc rack) = refl
command_whole (Unregister node) = refl
command_whole (UnsafeJoin node tokens) = (let all = tokens_whole tokens in rw all)
command_whole (Keyspace name r) = refl
command_whole (DropKeyspace name) = refl
command_whole (PrepareJoin node tokens) = (let all = tokens_whole tokens in rw all)
command_whole (PrepareMove node token) = (let whole = token_whole token in rw whole)
command_whole (PrepareLeave node) = refl
command_whole (PrepareReplace node gone) = refl
command_whole (Step goal kind node) = refl
command_whole (Cancel node) = refl

pub no_float : (entry : Entry) → has_float (entry_data entry) ≡ false
no_float entry = (let whole = command_whole entry.cmd in rw whole)
