-- One part after another is counted.
use Rattle.std.proofs.Common.{rules, ◌≡◌, ◌∙◌, ◌+◌, ℕ, List, ap, arith, length, map, subst, take, true}
use Rattle.std.proofs.lemmas.List.{length-take-le}
use Rattle.reel_disk.specs.Disk.{view_of}
use Rattle.resume_ledger.proofs.Reading.{still_view, reads_none, reads_along}
use Rattle.reel_qc.specs.inside.Table.{AddsCounts}
use Rattle.reel_qc.specs.Reads.{ReadsWords}
use Rattle.reel_qc.specs.Words.{words_in}
use Rattle.reel_qc.proofs.Adds.{counted_more, none_counted}
use Rattle.reel_qc.proofs.Asking.{asks_none, asks_on}
use Rattle.reel_qc.proofs.Reading.{none_read, parts_read}
use Rattle.reel_qc.proofs.table.counting.count_file.Goals as goal

pub loop-done-init : goal.loop-done-init
loop-done-init g c = record {
  reads = reads_none;
  counted = none_counted _ _ _ _ c.args.counts.now (λ told. none_read 0 (view_of (g.D.Disk.state c.args.disk.now).history c.args.id)) (asks_none c.args.id 0 _) c.type_inv.counts;
  within = omega arith;
  same = search rules;
  faults = search rules;
}

pub loop-done-preserved : goal.loop-done-preserved
loop-done-preserved g c =
    let inv = c.loop-done.invariant in
    let kinds = map (λ p. p.kind) c.args.counting.now.probes.now in
    let file = view_of (g.D.Disk.state c.args.disk.now).history c.args.id in
    let later = view_of (g.D.Disk.state c.loop-done.disk).history c.args.id in
    let part = λ (n : ℕ) (words : List ℕ). ReadsWords c.args.id c.loop-done.done n words (g.D.Disk.state c.loop-done.disk).calls (g.D.Disk.state c.count_part.new.disk).calls in
    let size : length (take c.min-room.result c.loop-done.words) ≡ c.min-room.result =
    length-take-le c.min-room.result c.loop-done.words (omega (arith, c.min-room.ensures, c.loop-done.auto.words)) in
    record {
      reads = reads_along inv.reads c.in_ok-count_part.ensures.reads;
      counted = counted_more kinds (g.D.Disk.tells ≡ true) (words_in 0 c.loop-done.done file) (words_in c.loop-done.done c.min-room.result later)
          (words_in 0 (c.loop-done.done + c.min-room.result) file) _ (part c.min-room.result) _ c.args.counts.now c.loop-done.counts c.count_part.new.counts c.loop-done.done c.min-room.result inv.counted
          (λ told. parts_read c.loop-done.done c.min-room.result file later (ap (λ view. view c.args.id) (still_view _ _ (inv.reads.still told))))
          (λ a b one two. asks_on c.args.id c.loop-done.done c.min-room.result a b _ _ _ one two)
          (subst (λ n. AddsCounts kinds (g.D.Disk.tells ≡ true) (words_in c.loop-done.done n later) (part n) n c.loop-done.counts c.count_part.new.counts) size c.in_ok-count_part.ensures.added);
      within = omega (arith, c.min-room.ensures, inv.within, c.loop-done-test.true);
      same = c.in_ok-count_part.ensures.disk.lent ∙ inv.same;
      faults = search rules;
    }
