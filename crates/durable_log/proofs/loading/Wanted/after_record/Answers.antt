use Rattle.std.proofs.Common.{◌≡◌, ◌≢◌, ◌+◌}
use Rattle.durable_log.specs.code.Loads.{bytes_at}
use Rattle.durable_log.proofs.steps.LoadSteps.{is_other, is_same, other_told, taken_ok}
use Rattle.durable_log.proofs.loading.Wanted.after_record.Goals as goal

pub returns-then-not-branch-clause-told : goal.returns-then-not-branch-clause-told
returns-then-not-branch-clause-told g c =
    let name = c.args.self.now.name.now in
    other_told (g.D.Disk.content c.args.disk.now) c.args.at c.args.self.now.limit c.args.header name c.args.before c.requires.found
    (is_other (g.D.Disk.content c.args.disk.now) c.in_ok-is_name.field-0 (λ on. bytes_at (c.args.at + 18) c.args.header.name_len on ≡ name) (λ on. bytes_at (c.args.at + 18) c.args.header.name_len on ≢ name)
    c.if-not-branch.true c.in_ok-is_name.ensures.told)

pub returns-clause-told : goal.returns-clause-told
returns-clause-told g c =
    let name = c.args.self.now.name.now in
    taken_ok c.extended.result (g.D.Disk.content c.args.disk.now) (g.D.Disk.content c.is_name.new.disk) c.args.at c.args.self.now.limit c.args.header name c.args.before c.front_of.result
    c.front_of.ensures c.is_name.ensures.kept c.requires.found
    (is_same (g.D.Disk.content c.args.disk.now) c.in_ok-is_name.field-0 (λ on. bytes_at (c.args.at + 18) c.args.header.name_len on ≡ name) (λ on. bytes_at (c.args.at + 18) c.args.header.name_len on ≢ name)
    c.if-not-branch.false c.in_ok-is_name.ensures.told)
    c.extended.ensures.told
