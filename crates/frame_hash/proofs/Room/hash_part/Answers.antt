use Rattle.std.proofs.Common.{rules, ◌≡◌, ◌-◌, ◌≤◌, ◌++◌, take, drop, arith, ap, ◌∙◌, sym, subst}
use lib.Seq.{take-add}
use Rattle.sha2.specs.Hashers.{Holds256}
use Rattle.frame_hash.proofs.Room.hash_part.Goals as goal

-- the bytes so far with those behind them are the bytes so far
pub returns-then-is_some : goal.returns-then-is_some
returns-then-is_some c =
    let bytes = c.args.self.now.bytes.items in
    let was = c.args.self.now.done in
    let begin = c.min-begin.result in
    let end = c.min-end.result in record {
      frame = search rules;
      bytes = search rules;
      begun = λ begun.
          let at : begin ≡ was = omega (arith, begun.within, c.min-begin.ensures, c.len.ensures) in
          let on : begin ≤ end = omega (arith, at, begun.within, c.min-end.ensures, c.saturating_add.ensures, c.len-then-is_some.ensures, c.min-end.type_inv) in
          let all : take was bytes ++ take (end - begin) (drop begin c.deref.result.now) ≡ take end bytes =
          (λ i. take was bytes ++ take (end - begin) (drop (at i) (c.deref.ensures.value i)))
          ∙ sym (take-add was (end - begin) bytes)
          ∙ ap (λ n. take n bytes) (omega (arith, at, on)) in record {
            within = omega (arith, c.min-end.ensures, c.len-then-is_some.ensures);
            holds = subst (λ m. Holds256 c.update.new.self m) all (c.update.ensures _ begun.holds);
          };
      done = λ some begun. omega (arith, begun.within, c.min-begin.ensures, c.len.ensures, c.min-end.ensures, c.saturating_add.ensures, c.len-then-is_some.ensures, c.ranges.size.fits, c.len.type_inv);
    }
