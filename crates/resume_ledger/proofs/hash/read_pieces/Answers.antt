use Rattle.std.proofs.Common.{rules, ◌≡◌, ◌≤◌, ◌<◌, ◌+◌, List, ◌∷◌, ◌++◌, length, length-append, length-take, arith, ap, ◌∙◌, sym, subst}
use Rattle.std.specs.Prelude.{Some}
use Rattle.sha2.specs.Hashers.{Holds256}
use Rattle.std.proofs.Common.{take}
use Rattle.std.proofs.lemmas.List.{take_all}
use Rattle.reel_disk.specs.Disk.{view_of}
use Rattle.reel_disk.specs.Call.{Call, Read}
use Rattle.reel_disk.specs.declared.disk.Got.TheVariants.{Bytes, Failed}
use Rattle.resume_ledger.specs.Calls.{bytes_of, reads_of}
use Rattle.resume_ledger.proofs.Pieces.{piece_more}
use Rattle.resume_ledger.proofs.Reading.{read_once, reads_along}
use Rattle.resume_ledger.proofs.hash.read_pieces.Goals as goal

pub loop-at-preserved : goal.loop-at-preserved
loop-at-preserved g c = record {
  reads = reads_along c.loop-at.invariant.reads (read_once c.in-Bytes.ensures.time c.in-Bytes.ensures.call);
  hashed = λ told bytes is long.
      let before = c.loop-at.invariant.hashed told bytes is long in
      let view = c.loop-at.invariant.reads.still told in
      let now : view_of (g.D.Disk.state c.loop-at.disk).history c.args.id ≡ Some bytes = ap (λ m. m.view c.args.id) view.same ∙ is in
      let more = piece_more (view_of (g.D.Disk.state c.loop-at.disk).history c.args.id) c.loop-at.at c.in-Bytes.n c.read.new.into bytes now (omega (arith, before.0, long)) (c.in-Bytes.ensures.answer told) in
      let sum : c.saturating_add-at.result ≡ c.loop-at.at + c.in-Bytes.n = c.saturating_add-at.ensures ∙ omega (arith, more.0, long, c.ranges.size.fits) in
      let hashed : Holds256 c.update.new.self (take (c.loop-at.at + c.in-Bytes.n) bytes) = subst (Holds256 c.update.new.self) more.1 (c.update.ensures _ before.1) in
      (omega (arith, more.0, long, sum), subst (λ n. Holds256 c.update.new.self (take n bytes)) (sym sum) hashed);
  pieces =
      let had = c.loop-at.invariant.pieces in
      let start : c.loop-at.at ≡ length (bytes_of had.0) = omega (arith, had.1, c.loop-at-test.true, c.ranges.size.fits) in
      let more : 0 < c.in-Bytes.n = search rules in
      let full : length c.read.new.into ≡ 65536 = search rules in
      let fit : c.in-Bytes.n ≤ length c.read.new.into = omega (arith, c.in-Bytes.ensures.bound, c.read.auto.into) in
      let long : length (bytes_of had.0 ++ take c.in-Bytes.n c.read.new.into) ≡ c.loop-at.at + c.in-Bytes.n = length-append (bytes_of had.0) (take c.in-Bytes.n c.read.new.into) ∙ omega (arith, start, length-take c.in-Bytes.n c.read.new.into, fit) in (
        (c.in-Bytes.n, c.read.new.into) ∷ had.0,
        omega (arith, long, c.saturating_add-at.ensures),
        c.update.ensures _ had.2,
        c.in-Bytes.ensures.call ∙ ap (λ (calls : List Call). Read c.args.id c.loop-at.at c.read.new.into (Bytes c.in-Bytes.n) ∷ calls) had.3
            ∙ ap (λ n. Read c.args.id n c.read.new.into (Bytes c.in-Bytes.n) ∷ reads_of c.args.id had.0 (g.D.Disk.state c.args.disk.now).calls) start,
        (had.4, omega (arith, start, c.loop-at-test.true), more, full),
      );
  piece = search rules;
  same = search rules;
  faults = search rules;
}

-- the file was read to its end
pub returns-clause-hash : goal.returns-clause-hash
returns-clause-hash g c told =
    let there = c.requires.there told in
    let before = c.loop-at.invariant.hashed told there.0 there.1 there.2 in
    let all : take c.loop-at.at there.0 ≡ there.0 = take_all c.loop-at.at there.0 (omega (arith, there.2, c.loop-at-test.false)) in
    (there.0, there.1, there.2, c.finalize.ensures there.0 (subst (Holds256 c.loop-at.hasher) all before.1))

pub returns-clause-calls : goal.returns-clause-calls
returns-clause-calls g c =
    let had = c.loop-at.invariant.pieces in
    (had.0, omega (arith, had.1, c.loop-at-test.false), c.finalize.ensures _ had.2, had.3, had.4)

-- a read gave nothing
pub returns-in_default-clause-calls : goal.returns-in_default-clause-calls
returns-in_default-clause-calls g c =
    let had = c.loop-at.invariant.pieces in
    let start : c.loop-at.at ≡ length (bytes_of had.0) = omega (arith, had.1, c.loop-at-test.true, c.ranges.size.fits) in (
      had.0,
      c.read.new.into,
      c.read.result,
      c.in_default.not-Failed,
      c.read.ensures.call ∙ ap (λ (calls : List Call). Read c.args.id c.loop-at.at c.read.new.into c.read.result ∷ calls) had.3
          ∙ ap (λ n. Read c.args.id n c.read.new.into c.read.result ∷ reads_of c.args.id had.0 (g.D.Disk.state c.args.disk.now).calls) start,
      had.4,
    )

pub returns-in_default-2-clause-calls : goal.returns-in_default-2-clause-calls
returns-in_default-2-clause-calls g c =
    let had = c.loop-at.invariant.pieces in
    let start : c.loop-at.at ≡ length (bytes_of had.0) = omega (arith, had.1, c.loop-at-test.true, c.ranges.size.fits) in (
      had.0,
      c.read.new.into,
      c.read.result,
      c.in_default.not-Failed,
      c.read.ensures.call ∙ ap (λ (calls : List Call). Read c.args.id c.loop-at.at c.read.new.into c.read.result ∷ calls) had.3
          ∙ ap (λ n. Read c.args.id n c.read.new.into c.read.result ∷ reads_of c.args.id had.0 (g.D.Disk.state c.args.disk.now).calls) start,
      had.4,
    )

-- a read failed
pub returns-in-Failed-clause-failed : goal.returns-in-Failed-clause-failed
returns-in-Failed-clause-failed g c =
    let had = c.loop-at.invariant.pieces in
    let start : c.loop-at.at ≡ length (bytes_of had.0) = omega (arith, had.1, c.loop-at-test.true, c.ranges.size.fits) in (
      had.0,
      c.read.new.into,
      c.in-Failed.ensures.call ∙ ap (λ (calls : List Call). Read c.args.id c.loop-at.at c.read.new.into Failed ∷ calls) had.3
          ∙ ap (λ n. Read c.args.id n c.read.new.into Failed ∷ reads_of c.args.id had.0 (g.D.Disk.state c.args.disk.now).calls) start,
      had.4,
    )
