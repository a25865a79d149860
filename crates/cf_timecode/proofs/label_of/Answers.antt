use Rattle.std.proofs.Common.{◌+◌}
use Rattle.cf_timecode.proofs.Laws.{plain_24, plain_25, plain_30, dropped_30}
use Rattle.cf_timecode.proofs.label_of.Goals as goal

pub returns-in-R24-default-clause-reached : goal.returns-in-R24-default-clause-reached
returns-in-R24-default-clause-reached c =
    let e = c.in-R24-default.is-0 in
    rw (e, c.plain_label.ensures) (plain_24 c.args.mode c.args.n.0 (rw e at c.requires.counts) (rw e at c.requires.in_day))

pub returns-in-R25-default-clause-reached : goal.returns-in-R25-default-clause-reached
returns-in-R25-default-clause-reached c =
    let e = c.in-R25-default.is-0 in
    rw (e, c.plain_label-in-R25-default.ensures) (plain_25 c.args.mode c.args.n.0 (rw e at c.requires.counts) (rw e at c.requires.in_day))

pub returns-in-R30-NonDrop-clause-reached : goal.returns-in-R30-NonDrop-clause-reached
returns-in-R30-NonDrop-clause-reached c =
    let e = c.in-R30-NonDrop.is-0 in
    let m = c.in-R30-NonDrop.is-1 in
    rw (e, m, c.plain_label-in-R30-NonDrop.ensures) (plain_30 c.args.n.0 (rw (e, m) at c.requires.in_day))

pub returns-in-R30-Drop-clause-reached : goal.returns-in-R30-Drop-clause-reached
returns-in-R30-Drop-clause-reached c =
    let e = c.in-R30-Drop.is-0 in
    let m = c.in-R30-Drop.is-1 in
    let d = c.dropped_before.ensures in
    rw (e, m, c.plain_label-in-R30-Drop.ensures) (dropped_30 c.args.n.0 (c.args.n.0 + c.dropped_before.result) (rw (e, m) at c.requires.in_day) d.numbered d.kept)
