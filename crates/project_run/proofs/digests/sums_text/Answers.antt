-- One line more.
use Rattle.std.proofs.Common.{◌≡◌, ◌∙◌, ◌++◌, ℕ, List, ap, flat_map, sym, arith}
use Rattle.std.specs.List.{range_with_len}
use Rattle.reel_writer.specs.Reel.{frames_of}
use Rattle.project_run.specs.Sums.{sum_line}
use Rattle.project_run.proofs.Looking.{one_line_more}
use Rattle.project_run.proofs.digests.sums_text.Goals as goal

pub loop-i-preserved : goal.loop-i-preserved
loop-i-preserved c =
    let line = sum_line c.args.job.now c.args.view.now in
    c.in_ok-put_sum.ensures ∙ ap (λ (before : List ℕ). before ++ line c.loop-i.i) c.loop-i.invariant ∙ sym (one_line_more line c.loop-i.i)

pub returns : goal.returns
returns c =
    let all : c.loop-i.i ≡ frames_of c.args.job.now = omega arith in
    c.loop-i.invariant ∙ ap (λ n. flat_map (sum_line c.args.job.now c.args.view.now) (range_with_len 0 n)) all
