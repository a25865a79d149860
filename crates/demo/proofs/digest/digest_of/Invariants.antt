use Rattle.std.proofs.Common.{◌≡◌, flat_map}
use Rattle.std.specs.List.{range_with_len}
use Rattle.sha2.specs.Hashers.{Holds256}
use Rattle.scan_source.specs.World.{World, file_at}
use Rattle.frame_render.specs.Frame.{frame_file}
use Rattle.reel_disk.specs.Disk.{view_of, moment_of}
use Rattle.reel_disk.specs.MemoryDisk.{history_in}
use Rattle.reel_writer.specs.Reel.{frames_of}
use Rattle.run_alone.specs.Run.{IsWhole}
use Rattle.demo.proofs.digest.digest_of.Given as goal

-- the files so far were hashed, and the disk has what it had
abbrev pub invariant-loop-i : goal.invariant-loop-i
invariant-loop-i l = record {
  view : view_of (history_in l.disk) ≡ view_of (history_in l.initial.disk);
  hashed : (world : World) → IsWhole l.job 0 (frames_of l.job) world (moment_of (history_in l.initial.disk)) → Holds256 l.hasher (flat_map (frame_file l.job (file_at world)) (range_with_len 0 l.i));
}
