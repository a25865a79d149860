-- What is in range of a line that is read.
--     IsIn line kind      the spans of its text and of its labels lie in the line, and a speed is at most 999,999 in size
use Rattle.std.specs.Prelude.{ℕ, nat_abs, ◌≤◌, List, [], ◌∷◌, length}
use Rattle.cf_base.specs.declared.lines.Span.{Span}
use Rattle.edl_lines.specs.declared.LineKind.{LineKind}
use Rattle.edl_lines.specs.declared.LineKind.TheVariants.{Title, Motion, Event}

abbrev pub IsSpanIn : List ℕ → Span → Type 0
IsSpanIn line span = (span.start ≤ span.end) × (span.end ≤ length line)

abbrev pub AreSpansIn : List ℕ → List Span → Type 0
AreSpansIn line (a ∷ b ∷ c ∷ d ∷ []) = IsSpanIn line a × IsSpanIn line b × IsSpanIn line c × IsSpanIn line d
AreSpansIn line _ = ⊥

abbrev pub IsIn : List ℕ → LineKind → Type 0
IsIn line (Title text) = IsSpanIn line text
IsIn line (Motion reel speed trigger) = (nat_abs speed ≤ 999999) × IsSpanIn line trigger
IsIn line (Event number reel transition times) = AreSpansIn line times
IsIn line _ = Unit {0}
