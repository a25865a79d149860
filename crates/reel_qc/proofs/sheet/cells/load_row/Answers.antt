-- One cell after another.
use Rattle.std.proofs.Common.{rules, ◌≡◌, ◌∙◌, ◌<◌, ◌+◌, ◌*◌, ℕ, List, Option, [], ◌∷◌, ◌++◌, drop, take, length, ap, arith, subst, sym, length-append}
use Rattle.std.specs.Prelude.{IfSome, slice_get}
use Rattle.resume_ledger.proofs.Reading.{reads_along, reads_none}
use Rattle.reel_writer.specs.Reel.{frames_of}
use Rattle.reel_qc.specs.inside.Boxes.{HasPictures, place_frames}
use Rattle.reel_qc.specs.Sheet.{cell_frames}
use Rattle.reel_qc.proofs.Pictures.{frames_full, frames_more, pictures_more, pictures_none, place_behind, place_within}
use Rattle.reel_qc.proofs.sheet.cells.load_row.Goals as goal

pub load_cell-requires-clause-within : goal.load_cell-requires-clause-within
load_cell-requires-clause-within g c =
    subst (λ o. IfSome o (λ i. i < frames_of c.args.job.now)) (sym c.frame_at-frame.ensures)
    (place_within (frames_of c.args.job.now) c.args.frames.now (c.args.row * 8 + c.loop-c.c) c.requires.within)

pub loop-c-init : goal.loop-c-init
loop-c-init g c = record {
  reads = reads_none;
  pictures = subst (HasPictures c.args.job.now c.args.view.now g.D.Disk.tells [] (g.D.Disk.state c.args.disk.now) (g.D.Disk.state c.args.disk.now)) (sym c.new-cells.ensures.items)
      (pictures_none c.args.job.now c.args.view.now g.D.Disk.tells (g.D.Disk.state c.args.disk.now));
  size = search rules;
  piece = search rules;
  same = search rules;
  faults = search rules;
}

pub loop-c-preserved : goal.loop-c-preserved
loop-c-preserved g c =
    let before = c.loop-c.invariant in
    let job = c.args.job.now in
    let view = c.args.view.now in
    let rest : List ℕ = drop (c.args.row * 8) (cell_frames job) in
    let frame : c.frame_at-frame.result ≡ slice_get rest c.loop-c.c =
    c.frame_at-frame.ensures ∙ ap (λ (l : List ℕ). slice_get l (c.args.row * 8 + c.loop-c.c)) c.requires.frames ∙ sym (place_behind (c.args.row * 8) c.loop-c.c (cell_frames job)) in
    let full : IfSome c.frame_at-frame.result (λ i. length (take c.loop-c.c rest) ≡ length c.loop-c.cells.items) =
    subst (λ n. IfSome c.frame_at-frame.result (λ i. length (take c.loop-c.c rest) ≡ n)) (sym before.size)
    (subst (λ (o : Option ℕ). IfSome o (λ i. length (take c.loop-c.c rest) ≡ c.loop-c.c)) (sym frame) (frames_full c.loop-c.c rest)) in
    let long = ap length c.in-Ok.ensures.items ∙ length-append c.loop-c.cells.items (c.in_ok-cell.cell ∷ []) in
    record {
      reads = reads_along before.reads c.in_ok-cell.ensures.reads;
      pictures = subst (λ (frames : List ℕ). HasPictures job view g.D.Disk.tells frames (g.D.Disk.state c.args.disk.now) (g.D.Disk.state c.load_cell.new.disk) c.push.new.self.items)
          (ap (λ (o : Option ℕ). take c.loop-c.c rest ++ place_frames o) frame ∙ sym (frames_more c.loop-c.c rest))
          (pictures_more job view g.D.Disk.tells (take c.loop-c.c rest) c.frame_at-frame.result _ (g.D.Disk.state c.loop-c.disk) _ c.loop-c.cells.items _ c.in_ok-cell.cell c.in-Ok.ensures.items full before.reads before.pictures c.in_ok-cell.ensures.cell);
      size = omega (arith, long, before.size);
      piece = search rules;
      same = c.in_ok-cell.ensures.disk.lent ∙ before.same;
      faults = search rules;
    }

pub returns-clause-pictures : goal.returns-clause-pictures
returns-clause-pictures g c =
    let end : c.loop-c.c ≡ 8 = omega (arith, c.loop-c-test.false, c.loop-c.auto.c-end) in
    subst (λ n. HasPictures c.args.job.now c.args.view.now g.D.Disk.tells (take n (drop (c.args.row * 8) (cell_frames c.args.job.now))) (g.D.Disk.state c.args.disk.now) (g.D.Disk.state c.loop-c.disk) c.loop-c.cells.items)
    end c.loop-c.invariant.pictures
