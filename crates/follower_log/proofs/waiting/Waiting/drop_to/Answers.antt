use Rattle.std.proofs.Common.{◌≡◌, ℕ, filter, nat_lt, rules, ap, ◌∙◌, refl}
use Rattle.std.proofs.lemmas.Map.Entries.{filter_from_retain_pairs}
use Rattle.std.specs.Map.{values_of}
use Rattle.transformations.proofs.lists.ListLemmas.{all_filter, all_weaker}
use Rattle.transformations.specs.declared.entry.Entry.{Entry}
use Rattle.follower_log.proofs.WaitingLemmas.{kept}
use Rattle.follower_log.proofs.waiting.Waiting.drop_to.Goals as goal

left : (c : goal.After-retain) → c.retain.new.self.entries ≡ filter (λ (pair : ℕ × Entry). nat_lt c.args.epoch pair.1.epoch) c.self.inside.entries.entries
left c = filter_from_retain_pairs _ (λ f. f.0.now ≡ c.args.epoch) (λ (pair : ℕ × Entry). nat_lt c.args.epoch pair.1.epoch) (λ g k v b w h same step. (search rules, search rules, search rules)) _ _ _ refl c.retain.ensures.filtered

pub invariant_of-self : goal.invariant_of-self
invariant_of-self c = rw (left c) (all_filter _ _ _ (all_weaker _ _ (λ pair own high. own) _ c.self.invariant))

pub returns : goal.returns
returns c = ap values_of (left c) ∙ kept c.args.epoch c.self.inside.entries.entries ∙ ap (filter (λ entry. nat_lt c.args.epoch entry.epoch)) c.self.view_is
