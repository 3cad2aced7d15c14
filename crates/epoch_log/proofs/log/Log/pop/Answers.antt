use Rattle.std.proofs.Common.{◌<◌, length}
use Rattle.std.proofs.lemmas.Map.Entries.{length-values_of}
use Rattle.epoch_log.proofs.StoredLemmas.{stored_pop, up_to_pop}
use Rattle.epoch_log.proofs.log.Log.pop.Goals as goal

pub invariant_of-self : goal.invariant_of-self
invariant_of-self c =
    let es = c.self.inside.entries.entries in
    let some : 0 < length es = rw (← length-values_of es, c.self.view_is) c.requires in
    let popped = stored_pop es c.pop-last.new.self.entries c.pop-last.result c.args.self.now c.self.invariant.0 c.self.view_is c.pop-last.ensures.entries (c.pop-last.ensures.found.1 some) in
    (popped.stored, up_to_pop es c.pop-last.new.self.entries c.pop-last.result c.self.inside.greatest_id c.self.invariant.1 c.pop-last.ensures.entries)

pub returns : goal.returns
returns c =
    let es = c.self.inside.entries.entries in
    let some : 0 < length es = rw (← length-values_of es, c.self.view_is) c.requires in
    (stored_pop es c.pop-last.new.self.entries c.pop-last.result c.args.self.now c.self.invariant.0 c.self.view_is c.pop-last.ensures.entries (c.pop-last.ensures.found.1 some)).shows
