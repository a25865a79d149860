-- After the last line.
use Rattle.std.proofs.Common.{◌≡◌, ℕ, ◌≤◌, List, length, take, ap, subst, ◌∙◌, arith, refl}
use Rattle.std.specs.Prelude.{Some, None, Ok, Err, max}
use Rattle.std.proofs.lemmas.Bool.{le-ltb}
use Rattle.std.proofs.lemmas.List.{take_all}
use Rattle.cube_reader.specs.declared.fault.CubeKind.{CubeKind}
use Rattle.cube_reader.specs.declared.keywords.Keyword.TheVariants.{CubeSize}
use Rattle.cube_reader.specs.declared.reading.Reading.{Reading}
use Rattle.cube_reader.specs.Table.{Table, IsTable}
use Rattle.cube_reader.specs.Text.{Line, lines_in, ended, table_of, cube_of}
use Rattle.cube_reader.specs.inside.Steps.{end_step, Knows, IsReading}
use Rattle.cube_reader.proofs.FaultLaws.{end_fault_is}
use Rattle.cube_reader.proofs.ReadLaws.{none_faulty}
use Rattle.cube_reader.proofs.TableLaws.{is_table}

abbrev pub table_in : Reading → Table
table_in r = record { is_3d = r.state.seen.cube_size; size = r.state.size; low = r.state.low; high = r.state.high; entries = r.entries.items }

module _ (text : List ℕ) (short : length text ≤ 100663296) (r : Reading) (h : IsReading (lines_in text) (length (lines_in text)) r) where
  whole : take (length (lines_in text)) (lines_in text) ≡ lines_in text
  whole = take_all (length (lines_in text)) (lines_in text) (omega arith)

  known : Knows (lines_in text) r.state
  known = subst (λ (ls : List Line). Knows ls r.state) whole h.knows

  same_table : table_of (lines_in text) ≡ table_in r
  same_table = rw (known.seen CubeSize, known.size, known.low, known.high, h.entries, whole) refl

  answer : cube_of text ≡ ended (lines_in text) (end_step r.state)
  answer = rw (le-ltb 100663296 (length text) short, none_faulty (lines_in text) h.faultless) (ap (ended (lines_in text)) (end_fault_is (lines_in text) r.state known))

  pub by_end : (kind : CubeKind) → end_step r.state ≡ Some kind → (line : ℕ) → line ≡ max 1 (length (lines_in text)) → cube_of text ≡ Err (record { line = line; kind = kind })
  by_end kind is line last = answer ∙ rw (is, last) refl

  pub by_table : end_step r.state ≡ None → cube_of text ≡ Ok (table_in r)
  by_table fine = answer ∙ rw fine (ap Ok same_table)

  pub table_read : end_step r.state ≡ None → IsTable (table_in r)
  table_read fine = subst IsTable same_table (is_table (lines_in text) r.state known fine)
