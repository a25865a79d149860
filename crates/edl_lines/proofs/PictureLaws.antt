-- A picture event, read in steps: a transition that lasts, its duration, and the times.
use Rattle.std.proofs.Common.{◌≡◌, ℕ, ◌+◌, ◌-◌, ◌<◌, ◌≤◌, inl, inr, false, List, ◌∷◌, length, drop, slice_range, refl, ap, sym, ◌∙◌, arith, length-drop, length-take-le, Result, Option}
use Rattle.std.specs.Prelude.{codes, Ok, Err, Some, None, option_and_then, slice_index, ◌==◌}
use Rattle.std.proofs.lemmas.Bool.{cases_Bool}
use Rattle.std.specs.Str.{bytes_eq}
use Rattle.std.specs.Str.Parse.{digits_value}
use Rattle.cf_base.specs.declared.event.Transition.{Transition}
use Rattle.cf_base.specs.Tokens.{Token, token_between}
use Rattle.cf_base.specs.Steps.{◌>>=◌, required}
use Rattle.edl_lines.specs.declared.event.Shape.{Shape}
use Rattle.edl_lines.specs.declared.event.Shape.TheVariants as shape
use Rattle.edl_lines.specs.declared.LineFault.{LineFault}
use Rattle.edl_lines.specs.declared.LineFault.TheVariants.{BadTransition, Key}
use Rattle.edl_lines.specs.Numbers.{decimal}
use Rattle.edl_lines.specs.Lines.{word, is_wipe, transition_of, token_count, span_of, timed_event, picture_of}
use Rattle.edl_lines.specs.inside.Shapes.{lasting, shape_of, lasting_event}

abbrev lasts : Option (List ℕ) → Shape → Result Transition LineFault
lasts after s = required BadTransition (option_and_then (decimal 5) after) >>= (λ d. Ok (lasting s d))

abbrev good : Shape → Result Shape LineFault
good s = Ok s

abbrev bad : LineFault → Result Shape LineFault
bad fault = Err fault

ok_is : (s t : Shape) → good s ≡ good t → s ≡ t
ok_is s t e = cc

abbrev faulty : LineFault → Result Transition LineFault
faulty fault = Err fault

fault_is : (x y : LineFault) → bad x ≡ bad y → faulty x ≡ faulty y
fault_is x y e = cc

transition_shape : (bytes : List ℕ) (after : Option (List ℕ)) (s : Shape) → bytes_eq bytes (codes "C") ≡ false → shape_of bytes ≡ Ok s → transition_of bytes after ≡ lasts after s
transition_shape bytes after s no_cut e = elim (cases_Bool (bytes_eq bytes (codes "D"))) [
  | inl d ↦ rw (no_cut, d) (ap (lasts after) (ok_is shape.Dissolve s (rw d at e)))
  | inr no_d ↦ elim (cases_Bool (is_wipe bytes)) [
    | inl w ↦ rw (no_cut, no_d, w) (ap (lasts after) (ok_is _ s (rw (no_d, w) at e)))
    | inr no_w ↦ elim (cases_Bool (slice_index bytes 0 == 75)) [
      | inl k ↦ let h : bad Key ≡ good s = rw (no_d, no_w, k) at e in absurd (cc)
      | inr no_k ↦ let h : bad BadTransition ≡ good s = rw (no_d, no_w, no_k) at e in absurd (cc)
    ]
  ]
]

transition_fault : (bytes : List ℕ) (after : Option (List ℕ)) (fault : LineFault) → bytes_eq bytes (codes "C") ≡ false → shape_of bytes ≡ Err fault → transition_of bytes after ≡ Err fault
transition_fault bytes after fault no_cut e = elim (cases_Bool (bytes_eq bytes (codes "D"))) [
  | inl d ↦ absurd (let h : good shape.Dissolve ≡ bad fault = rw d at e in cc)
  | inr no_d ↦ elim (cases_Bool (is_wipe bytes)) [
    | inl w ↦ absurd (let h : good (shape.Wipe (digits_value 10 (drop 1 bytes))) ≡ bad fault = rw (no_d, w) at e in cc)
    | inr no_w ↦ elim (cases_Bool (slice_index bytes 0 == 75)) [
      | inl k ↦ rw (no_cut, no_d, no_w, k) (fault_is Key fault (rw (no_d, no_w, k) at e))
      | inr no_k ↦ rw (no_cut, no_d, no_w, no_k) (fault_is BadTransition fault (rw (no_d, no_w, no_k) at e))
    ]
  ]
]

token_count_lasting : (s : Shape) (d : ℕ) → token_count (lasting s d) ≡ 2
token_count_lasting shape.Dissolve d = refl
token_count_lasting (shape.Wipe code) d = refl

lasting_by : (number : ℕ) (reel : List ℕ) (t : Token) (rest : List Token) (s : Shape) (d : Option ℕ)
    → (required BadTransition d >>= λ d. timed_event number reel (lasting s d) (drop 1 rest)) ≡ ((required BadTransition d >>= λ d. Ok (lasting s d)) >>= λ transition. timed_event number reel transition (drop (token_count transition) (t ∷ rest)))
lasting_by number reel t rest s None = refl
lasting_by number reel t rest s (Some d) = rw (token_count_lasting s d) refl

pub lasting_picture : (number : ℕ) (reel : List ℕ) (t : Token) (rest : List Token) (s : Shape) → bytes_eq t.bytes (codes "C") ≡ false → shape_of t.bytes ≡ Ok s → lasting_event number reel s rest ≡ picture_of number reel (t ∷ rest)
lasting_picture number reel t rest s no_cut e =
    lasting_by number reel t rest s (option_and_then (decimal 5) (word rest 0))
    ∙ ap (λ (r : Result Transition LineFault). r >>= λ transition. timed_event number reel transition (drop (token_count transition) (t ∷ rest))) (sym (transition_shape t.bytes (word rest 0) s no_cut e))

pub faulty_picture : (number : ℕ) (reel : List ℕ) (t : Token) (rest : List Token) (fault : LineFault) → bytes_eq t.bytes (codes "C") ≡ false → shape_of t.bytes ≡ Err fault → Err fault ≡ picture_of number reel (t ∷ rest)
faulty_picture number reel t rest fault no_cut e =
    ap (λ (r : Result Transition LineFault). r >>= λ transition. timed_event number reel transition (drop (token_count transition) (t ∷ rest))) (sym (transition_fault t.bytes (word rest 0) fault no_cut e))

-- the same with its duration
pub lasting_read : (number : ℕ) (reel : List ℕ) (s : Shape) (t : Token) (rest : List Token) (d : ℕ) → decimal 5 t.bytes ≡ Some d → timed_event number reel (lasting s d) rest ≡ lasting_event number reel s (t ∷ rest)
lasting_read number reel s t rest d is = sym (ap (λ (o : Option ℕ). required BadTransition o >>= λ d. timed_event number reel (lasting s d) rest) is)

-- a time reaches over its token
pub span_read : (line : List ℕ) (at start «end» : ℕ)
    → (at ≤ start) × (start < «end») × («end» ≤ length line) → record { start = start; end = «end» } ≡ span_of (token_between line start «end»)
span_read line at start «end» within =
    let long = length-take-le («end» - start) (drop start line) (omega (arith, length-drop start line, within.2)) in
    let reach : «end» ≡ start + length (slice_range line start «end») = omega (arith, long, within.1) in
    λ i. record { start = start; end = reach i }
