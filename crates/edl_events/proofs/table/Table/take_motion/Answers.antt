use Rattle.std.proofs.Common.{◌∙◌, ap, cond, ℕ}
use Rattle.std.specs.Str.{bytes_eq}
use Rattle.edl_events.specs.declared.table.Count.{Count}
use Rattle.edl_events.specs.inside.Table.{count_of, one_more}
use Rattle.edl_events.proofs.MapLaws.{count_set}
use Rattle.edl_events.proofs.table.Table.take_motion.Goals as goal

pub returns-clause-counts : goal.returns-clause-counts
returns-clause-counts c q =
    let old = c.args.self.now.counts in
    let reel = c.args.reel.now in
    count_set old c.insert.new.self reel (record { lines = c.count_of-lines.result.lines; moved = c.saturating_add.result }) c.in_ok-insert.ensures.updates q
    ∙ ap (λ (n : ℕ). cond (bytes_eq reel q) (record { lines = c.count_of-lines.result.lines; moved = n }) (count_of old q)) c.saturating_add.ensures
    ∙ ap (λ (x : Count). cond (bytes_eq reel q) (record { lines = x.lines; moved = one_more x.moved }) (count_of old q)) c.count_of-lines.ensures.count
