-- One piece after another is read.
use Rattle.std.proofs.Common.{rules, ◌≡◌, ◌∙◌, ◌+◌, ◌-◌, ◌≤◌, ap, arith, length, take, drop, subst, w32}
use Rattle.std.proofs.Math.Facts.{Fits-lt-pow}
use Rattle.reel_disk.specs.Disk.{view_of}
use Rattle.resume_ledger.proofs.Reading.{still_view, reads_none, reads_along}
use Rattle.reel_qc.specs.Reads.{ReadsWords}
use Rattle.reel_qc.specs.Words.{words_in}
use Rattle.reel_qc.proofs.Asking.{asks_more, asks_none}
use Rattle.reel_qc.proofs.Reading.{found_joined, found_more, none_read, part_size}
use Rattle.reel_qc.proofs.words.read_words.Goals as goal

pub loop-done-init : goal.loop-done-init
loop-done-init g c = record {
  reads = reads_none;
  words = λ told. none_read c.args.first (view_of (g.D.Disk.state c.args.disk.now).history c.args.id);
  calls = asks_none c.args.id c.args.first _;
  few = omega arith;
  small = λ k. Fits-lt-pow {w = w32} (c.type_inv.words k);
  within = omega arith;
  same = search rules;
  faults = search rules;
}

pub read_piece-requires-clause-some : goal.read_piece-requires-clause-some
read_piece-requires-clause-some g c =
    let inv = c.loop-done.invariant in
    let room = c.min-count.ensures in
    let inside : c.loop-done.found + c.min-count.result ≤ length c.loop-done.words = omega (arith, room, inv.few, c.loop-done.auto.words, c.loop-done-test.true) in
    omega (arith, part_size c.loop-done.found c.min-count.result c.loop-done.words inside, room, c.loop-done-test.true)

pub loop-done-preserved : goal.loop-done-preserved
loop-done-preserved g c =
    let inv = c.loop-done.invariant in
    let room = c.min-count.ensures in
    let inside : c.loop-done.found + c.min-count.result ≤ length c.loop-done.words = omega (arith, room, inv.few, c.loop-done.auto.words, c.loop-done-test.true) in
    let size : length (take (c.loop-done.found + c.min-count.result - c.loop-done.found) (drop c.loop-done.found c.loop-done.words)) ≡ c.min-count.result =
    part_size c.loop-done.found c.min-count.result c.loop-done.words inside in
    record {
      reads = reads_along inv.reads c.in_ok-found.ensures.reads;
      words = λ told.
          found_more c.args.first c.loop-done.done c.min-count.result c.loop-done.found c.in_ok-found.field-0 (view_of (g.D.Disk.state c.args.disk.now).history c.args.id)
          (view_of (g.D.Disk.state c.loop-done.disk).history c.args.id) c.loop-done.words c.read_piece.new.words
          inside (c.in_ok-found.ensures.size ∙ size) (omega (arith, c.in_ok-found.ensures.few, size))
          (ap (λ view. view c.args.id) (still_view _ _ (inv.reads.still told))) (inv.words told)
          (c.in_ok-found.ensures.words told ∙ ap (λ n. words_in (c.args.first + c.loop-done.done) n (view_of (g.D.Disk.state c.loop-done.disk).history c.args.id)) size);
      calls = asks_more c.args.id c.args.first c.loop-done.done c.min-count.result _ _ _ _ _ _
          (found_joined c.min-count.result c.loop-done.found c.in_ok-found.field-0 c.loop-done.words c.read_piece.new.words inside (c.in_ok-found.ensures.size ∙ size) (omega (arith, c.in_ok-found.ensures.few, size)))
          inv.calls (subst (λ n. ReadsWords c.args.id (c.args.first + c.loop-done.done) n (take c.in_ok-found.field-0 c.read_piece.new.words) (g.D.Disk.state c.loop-done.disk).calls (g.D.Disk.state c.read_piece.new.disk).calls) size c.in_ok-found.ensures.calls);
      few = omega (arith, inv.few, c.in_ok-found.ensures.few, size);
      small = λ k. Fits-lt-pow {w = w32} (c.type_inv.words k);
      within = omega (arith, room, inv.within, c.loop-done-test.true);
      same = c.in_ok-found.ensures.disk.lent ∙ inv.same;
      faults = search rules;
    }

pub returns-in_err-found-clause-small : goal.returns-in_err-found-clause-small
returns-in_err-found-clause-small g c = λ k. Fits-lt-pow {w = w32} (c.type_inv.words k)
