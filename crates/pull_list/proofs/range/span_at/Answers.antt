-- The reel at the key's place has its frame.
use Rattle.std.proofs.Common.{◌≡◌, ◌∙◌, length, refl, sym, ap}
use Rattle.std.specs.Prelude.{Some, slice_get}
use Rattle.std.proofs.lemmas.Option.{slice_get_read, slice_get_within}
use Rattle.pull_list.specs.inside.Spans.{span_of}
use Rattle.pull_list.proofs.Frames.{day_of, key_in_reel}
use Rattle.pull_list.proofs.range.span_at.Goals as goal

pub span_in-requires : goal.span_in-requires
span_in-requires c =
    let entries = c.args.entries.now in
    let key = c.args.key in
    let e = c.index-entries-from.result in
    let at : slice_get entries key.reel ≡ Some e = slice_get_read entries (length entries) key.reel e refl (slice_get_within entries key.reel c.requires.key.0 c.requires.key.1) (rw c.from.ensures at c.index-entries-from.is) in
    let within = key_in_reel entries key e at c.requires.key in
    record { margin = c.requires.margin; day = day_of entries e key.reel c.reel_laws.ensures.none c.requires.accepted at; start = within.0; end = within.1 }

pub returns-clause-span : goal.returns-clause-span
returns-clause-span c =
    let entries = c.args.entries.now in
    let key = c.args.key in
    let e = c.index-entries-from.result in
    let at : slice_get entries key.reel ≡ Some e = slice_get_read entries (length entries) key.reel e refl (slice_get_within entries key.reel c.requires.key.0 c.requires.key.1) (rw c.from.ensures at c.index-entries-from.is) in
    c.span_in.ensures.span ∙ sym (ap (span_of c.args.margin key) at)
