use Rattle.std.proofs.Common.{◌≡◌, ◌*◌, ◌≤◌, false, length}
use Rattle.frame_render.specs.Frame.{frame_size}
use Rattle.reel_writer.specs.Reel.{frames_of}
use Rattle.crew_seat.specs.Stepped.{HasStepped}
use Rattle.crew_worker.proofs.rounds.Shared.rounds.Given as goal

-- no round has stopped
abbrev pub invariant-loop : goal.invariant-loop
invariant-loop g l = record {
  within : l.counter ≤ frames_of g.N.Work.job;
  ending : l.end ≡ frames_of g.N.Work.job;
  short : l.end ≤ 262144;
  number : l.seat.number ≡ l.fn.seat.number;
  closed : l.seat.loader.units.pending ≡ 0;
  room : length l.room ≡ frame_size g.N.Work.job;
  unfailed : l.seat.has_failed ≡ false;
  marks : l.seat.marks ≡ record l.fn.seat.marks { claims = l.seat.marks.claims };
  stepped : HasStepped g.N.Work.files g.S.Scans.state (2 * l.counter) 0 l.fn.seat l.seat;
}
