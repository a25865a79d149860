-- A transition that lasts, read in two halves: its token, then its duration. Private clauses and proofs alone use this form;
-- the rule itself is `transition_of` in Lines.
use Rattle.std.specs.Prelude.{ℕ, ◌==◌, if◌then◌else◌, List, drop, codes, slice_index, Result, Ok, Err, option_and_then}
use Rattle.std.specs.Str.{bytes_eq}
use Rattle.std.specs.Str.Parse.{digits_value}
use Rattle.cf_base.specs.declared.event.Transition.{Transition}
use Rattle.cf_base.specs.declared.event.Transition.TheVariants.{Dissolve, Wipe}
use Rattle.edl_lines.specs.declared.event.Shape.{Shape}
use Rattle.edl_lines.specs.declared.event.Shape.TheVariants as shape
use Rattle.edl_lines.specs.declared.LineFault.{LineFault}
use Rattle.edl_lines.specs.declared.LineFault.TheVariants.{Key, BadTransition}
use Rattle.edl_lines.specs.declared.LineKind.{LineKind}
use Rattle.cf_base.specs.Tokens.{Token}
use Rattle.cf_base.specs.Steps.{◌>>=◌, required}
use Rattle.edl_lines.specs.Numbers.{decimal}
use Rattle.edl_lines.specs.Lines.{is_wipe, word, timed_event}

abbrev pub lasting : Shape → ℕ → Transition
lasting shape.Dissolve d = Dissolve d
lasting (shape.Wipe code) d = Wipe code d

abbrev pub shape_of : List ℕ → Result Shape LineFault
shape_of bytes =
    if bytes_eq bytes (codes "D") then Ok shape.Dissolve
    else if is_wipe bytes then Ok (shape.Wipe (digits_value 10 (drop 1 bytes)))
    else if slice_index bytes 0 == 75 then Err Key
    else Err BadTransition

-- a picture event by what stands behind its transition's first token
abbrev pub lasting_event : ℕ → List ℕ → Shape → List Token → Result LineKind LineFault
lasting_event number reel shape ts = do
  d ← required BadTransition (option_and_then (decimal 5) (word ts 0))
  timed_event number reel (lasting shape d) (drop 1 ts)
