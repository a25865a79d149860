-- A label that is parsed is one of its day.
use Rattle.std.proofs.Common.{◌≡◌, Bool, true, false, not, cond, List, ℕ, refl, Result}
use Rattle.std.specs.Prelude.{Ok, Err, ◌&&◌}
use Rattle.cf_base.specs.declared.timing.Rate.{Rate}
use Rattle.cf_base.specs.declared.timing.Mode.{Mode}
use Rattle.cf_timecode.specs.declared.Label.{Label}
use Rattle.cf_timecode.specs.declared.TcFault.{TcFault}
use Rattle.cf_timecode.specs.declared.TcFault.TheVariants.{Shape, Range, Dropped, DropMark}
use Rattle.cf_timecode.specs.Counting.{IsValid, is_in_range, is_passed_over}
use Rattle.cf_timecode.specs.Spelling.{parsed, has_shape, label_in, has_semicolon, is_non_drop}

same_ok : (x y : Label) → ◌≡◌ {A = Result Label TcFault} (Ok x) (Ok y) → x ≡ y
same_ok x y h = cc

not_ok : (f : TcFault) (y : Label) → ◌≡◌ {A = Result Label TcFault} (Err f) (Ok y) → ⊥
not_ok f y h = cc

-- what stands behind the cases of a fault
chain : (a b c d : Bool) (x y : Label) → cond (not a) (Err Shape) (cond (not b) (Err Range) (cond c (Err Dropped) (cond d (Err DropMark) (Ok x)))) ≡ Ok y → (b ≡ true) × (c ≡ false) × (x ≡ y)
chain false b c d x y h = absurd (not_ok Shape y h)
chain true false c d x y h = absurd (not_ok Range y h)
chain true true true d x y h = absurd (not_ok Dropped y h)
chain true true false true x y h = absurd (not_ok DropMark y h)
chain true true false false x y h = (refl, refl, same_ok x y h)

pub parsed_valid : (rate : Rate) (mode : Mode) (token : List ℕ) (label : Label) → parsed rate mode token ≡ Ok label → IsValid rate mode label
parsed_valid rate mode token label h =
    let parts = chain (has_shape token) (is_in_range rate (label_in token)) (is_passed_over mode (label_in token)) (has_semicolon token && is_non_drop mode) (label_in token) label h in
    rw (← parts.2) (parts.0, parts.1)
