-- One file more was read and hashed.
use Rattle.std.proofs.Common.{◌≡◌, ◌++◌, List, ℕ, flat_map, ap, sym, ◌∙◌, subst, arith}
use Rattle.std.specs.List.{range_with_len}
use Rattle.sha2.specs.Hashers.{Holds256}
use Rattle.scan_source.specs.World.{file_at}
use Rattle.frame_render.specs.Frame.{frame_file}
use Rattle.sha2.specs.Sha256.{sha256}
use Rattle.reel_writer.specs.Reel.{frames_of}
use Rattle.demo.specs.Demo.{reel_bytes}
use Rattle.demo.proofs.Reels.{one_file_more, read_is}
use Rattle.demo.proofs.digest.digest_of.Goals as goal

pub loop-i-preserved : goal.loop-i-preserved
loop-i-preserved c = record {
  view = c.read_file.ensures.view ∙ c.loop-i.invariant.view;
  hashed = λ world whole.
      let file = frame_file c.args.job.now (file_at world) in
      let read : c.as_slice.result.now ≡ file c.loop-i.i =
      c.as_slice.ensures.value ∙ read_is _ _ _ _ _ _ c.loop-i.invariant.view c.file_of.ensures c.in_ok-read_file.ensures.bytes (whole c.loop-i.i (omega arith) (omega arith)) in
      let more = ap (λ (bytes : List ℕ). flat_map file (range_with_len 0 c.loop-i.i) ++ bytes) read ∙ sym (one_file_more file c.loop-i.i) in
      subst (Holds256 c.update.new.self) more (c.update.ensures _ (c.loop-i.invariant.hashed world whole));
}

pub returns : goal.returns
unfolding reel_bytes
returns c = λ world whole.
    let all : c.loop-i.i ≡ frames_of c.args.job.now = omega arith in
    c.finalize.ensures _ (c.loop-i.invariant.hashed world whole)
    ∙ ap (λ n. sha256 (flat_map (frame_file c.args.job.now (file_at world)) (range_with_len 0 n))) all
