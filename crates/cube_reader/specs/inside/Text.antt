-- What a cube text stands for, or why it is refused: words of private clauses.
use Prim.Native.String.{String}
use Rattle.std.specs.Prelude.{Bool, not, ◌||◌}
use Rattle.cube_reader.specs.Text.{Line, is_data, is_passed_over}

abbrev pub is_keyword : Line → Bool
is_keyword line = not (is_passed_over line || is_data line)
