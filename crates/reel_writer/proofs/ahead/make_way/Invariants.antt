use Rattle.std.proofs.Common.{◌≡◌, ◌≤◌, length}
use Rattle.reel_writer.proofs.ahead.make_way.Given as goal

-- nothing is changed so far
abbrev pub invariant-loop-n : goal.invariant-loop-n
invariant-loop-n l = record {
  first : l.first ≡ l.fn.first;
  others : l.others ≡ l.fn.others;
  within : l.n ≤ length l.others;
  ending : l.n-end ≡ length l.others;
}
