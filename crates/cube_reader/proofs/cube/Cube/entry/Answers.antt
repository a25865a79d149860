use Rattle.std.proofs.Common.{rules, ◌≡◌, ◌<◌, sym, get_or, length, []}
use Rattle.std.proofs.lemmas.List.{get_or_read}
use Rattle.cube_reader.proofs.cube.Cube.entry.Goals as goal

pub returns-clause-clamped : goal.returns-clause-clamped
returns-clause-clamped c =
    let inside : c.args.n < length c.self.inside.entries.items = search rules in
    let read : get_or c.self.inside.entries.items c.args.n [] ≡ c.index.result.now = sym (get_or_read _ _ _ inside c.index.ensures _) in
    λ channel h. rw read at (c.self.invariant.values c.args.n channel inside h)
