use Rattle.std.proofs.Common.{◌≡◌, ◌≤◌, ◌-◌, length, drop}
use Rattle.cube_reader.specs.Table.{greatest_size}
use Rattle.cube_reader.specs.Text.{lines_in}
use Rattle.cube_reader.specs.inside.Steps.{IsReading}
use Rattle.cube_reader.proofs.reading.read_lines.Given as goal

abbrev pub invariant-loop-span : goal.invariant-loop-span
invariant-loop-span l = record {
  within : l.at ≤ length l.text;
  few : l.reading.lines ≤ l.at;
  few_data : l.reading.state.data_lines ≤ l.at;
  sized : l.reading.state.size ≤ greatest_size l.reading.state.seen.cube_size;
  count : l.reading.lines ≤ length (lines_in l.text);
  rest : drop l.reading.lines (lines_in l.text) ≡ lines_in (drop l.at l.text);
  reads : IsReading (lines_in l.text) l.reading.lines l.reading;
}

abbrev pub decreases-loop-span : goal.decreases-loop-span
decreases-loop-span l = length l.text - l.at
