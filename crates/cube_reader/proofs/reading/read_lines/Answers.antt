use Rattle.std.proofs.Common.{◌≡◌, ◌≤◌, ◌+◌, ◌<◌, ℕ, length, sym, subst, ◌∙◌, arith}
use Rattle.std.specs.Prelude.{Err}
use Rattle.std.proofs.lemmas.Option.{slice_get_within}
use Rattle.cube_reader.specs.Text.{lines_in, tokens_of}
use Rattle.cube_reader.specs.inside.Steps.{IsReading}
use Rattle.cube_reader.specs.inside.Steps.{ReadsAll}
use Rattle.cf_base.proofs.TextLaws.{turn_at, ended, after_last}
use Rattle.cube_reader.proofs.ReadLaws.{all_refused, reading_at, few_data}
use Rattle.cube_reader.proofs.reading.read_lines.Goals as goal

pub returns-in-Err : goal.returns-in-Err
returns-in-Err c =
    let t = turn_at tokens_of c.lines_in_turn.ensures c.args.text.now c.loop-span.at c.loop-span.reading.lines c.in-Some.span c.loop-span.invariant.within (sym c.in-Some.is ∙ c.line_at.ensures) c.loop-span.invariant.rest in
    subst (λ f. ReadsAll (lines_in c.args.text.now) (Err f)) (sym c.refused_at.ensures)
    (all_refused (lines_in c.args.text.now) c.loop-span.reading.lines c.in-Err.fail _ (c.in-Err.ensures (lines_in c.args.text.now) t.line c.loop-span.invariant.reads))

pub loop-span-preserved : goal.loop-span-preserved
loop-span-preserved c =
    let t = turn_at tokens_of c.lines_in_turn.ensures c.args.text.now c.loop-span.at c.loop-span.reading.lines c.in-Some.span c.loop-span.invariant.within (sym c.in-Some.is ∙ c.line_at.ensures) c.loop-span.invariant.rest in
    let n : ℕ = c.loop-span.reading.lines in
    let reads : IsReading (lines_in c.args.text.now) (n + 1) c.read_more.new.reading
    = c.in-Ok.ensures (lines_in c.args.text.now) t.line c.loop-span.invariant.reads in
    let done : c.read_more.new.reading.lines ≡ n + 1 = reads.done in
    let inside : n < length (lines_in c.args.text.now) = slice_get_within (lines_in c.args.text.now) n _ t.line in
    let few : n ≤ c.loop-span.at = c.loop-span.invariant.few in
    let on : c.loop-span.at < c.in-Some.span.next = t.on in
    record {
      within = t.within;
      few = omega (arith, done, few, on);
      few_data = (let lines = few_data (lines_in c.args.text.now) (n + 1) c.read_more.new.reading reads in omega (arith, lines, few, on));
      sized = reads.knows.sound.greatest;
      count = omega (arith, done, inside);
      rest = rw done t.rest;
      reads = reading_at (lines_in c.args.text.now) (n + 1) c.read_more.new.reading.lines c.read_more.new.reading (sym done) reads;
    }

pub returns : goal.returns
returns c =
    let done = ended c.args.text.now c.loop-span.at (sym c.in_default.is ∙ c.line_at.ensures) in
    let n : ℕ = c.loop-span.reading.lines in
    let most : length (lines_in c.args.text.now) ≤ n = after_last tokens_of c.args.text.now c.loop-span.at n done c.loop-span.invariant.rest in
    let count : n ≤ length (lines_in c.args.text.now) = c.loop-span.invariant.count in
    let all : n ≡ length (lines_in c.args.text.now) = omega (arith, most, count) in
    reading_at (lines_in c.args.text.now) n (length (lines_in c.args.text.now)) c.loop-span.reading all c.loop-span.invariant.reads
