use Rattle.std.proofs.Common.{◌&&◌, ◌∙◌, ap, cond, eqb, ℕ}
use Rattle.std.specs.Prelude.{Some}
use Rattle.std.specs.Str.{bytes_eq}
use Rattle.edl_events.specs.declared.table.Count.{Count}
use Rattle.edl_events.specs.inside.Table.{count_of, place_of, one_more}
use Rattle.edl_events.proofs.MapLaws.{count_set, place_set}
use Rattle.edl_events.proofs.table.Table.put.Goals as goal

pub returns-clause-counts : goal.returns-clause-counts
returns-clause-counts c q =
    let old = c.args.self.now.counts in
    let reel = c.args.reel.now in
    count_set old c.insert-2.new.self reel (record { lines = c.saturating_add.result; moved = c.count_of-lines.result.moved }) c.in_ok-insert-2.ensures.updates q
    ∙ ap (λ (n : ℕ). cond (bytes_eq reel q) (record { lines = n; moved = c.count_of-lines.result.moved }) (count_of old q)) c.saturating_add.ensures
    ∙ ap (λ (x : Count). cond (bytes_eq reel q) (record { lines = one_more x.lines; moved = x.moved }) (count_of old q)) c.count_of-lines.ensures.count

pub returns-clause-places : goal.returns-clause-places
returns-clause-places c q nth =
    let old = c.args.self.now.places in
    let reel = c.args.reel.now in
    place_set old c.insert.new.self reel c.count_of-lines.result.lines c.args.place c.in_ok-insert.ensures.updates q nth
    ∙ ap (λ (x : Count). cond (bytes_eq reel q && eqb x.lines nth) (Some c.args.place) (place_of old q nth)) c.count_of-lines.ensures.count
