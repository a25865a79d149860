-- The fault of a line, by what is known after the lines before it.
use Rattle.std.proofs.Common.{◌≡◌, ℕ, Bool, true, false, not, cond, ◌&&◌, ◌||◌, ◌==◌, List, refl, ap, sym, ◌∙◌, Option, Result}
use Rattle.std.specs.Prelude.{Some, None, Ok, Err}
use Rattle.std.specs.List.{list_any}
use Rattle.std.specs.Str.{bytes_eq}
use Rattle.cf_base.specs.declared.fixed.Fixed.{Fixed}
use Rattle.cube_reader.specs.declared.fault.CubeKind.{CubeKind}
use Rattle.cube_reader.specs.declared.fault.CubeKind.TheVariants.{Keyword as BadKeyword, Size, Number, Count, Domain, Both, NoSize}
use Rattle.cube_reader.specs.declared.keywords.Keyword.{Keyword}
use Rattle.cube_reader.specs.declared.keywords.Keyword.TheVariants.{Title, LineSize, CubeSize, DomainMin, DomainMax, LineRange, CubeRange}
use Rattle.cube_reader.specs.declared.state.State.{State}
use Rattle.cube_reader.specs.Text.{Line, word, arguments, is_passed_over, is_data, is_known, says, is_range_line, are_numbers, numbers, is_far, is_size, bounds_fault, line_fault, end_fault}
use Rattle.cube_reader.specs.inside.Steps.{judged, bounds, spelling, has_stood, sized, bounded, known_step, keyword_step, knows_size, are_ordered, is_full_state, data_step, end_step, Knows}
use Rattle.cube_reader.proofs.MoreLaws.{any_count}
use Rattle.cube_reader.proofs.KeywordLaws.{known, unknown}
use Rattle.cube_reader.proofs.KnowsLaws.{size_known}

abbrev pub step_fault : Result State CubeKind → Option CubeKind
step_fault (Ok t) = None
step_fault (Err kind) = Some kind

size_fault : (s : State) (k : Keyword) (both fits : Bool) (n : ℕ) → cond both (Some Both) (cond fits None (Some Size)) ≡ step_fault (cond both (Err Both) (sized s k (cond fits (Some n) None)))
size_fault s k true fits n = refl
size_fault s k false true n = refl
size_fault s k false false n = refl

bounds_by : (f : List Fixed → State) (good far : Bool) (vs : List Fixed) → list_any is_far vs ≡ far
    → cond (not good) (Some Number) (cond far (Some Domain) None) ≡ step_fault (bounded f (judged (cond good (Some vs) None)))
bounds_by f false far vs is = refl
bounds_by f true true vs is = rw is refl
bounds_by f true false vs is = rw is refl

same_bounds : (f : List Fixed → State) (n : ℕ) (line : Line) → bounds_fault n line ≡ step_fault (bounded f (bounds n (arguments line)))
same_bounds f n line = bounds_by f (are_numbers n (arguments line)) (list_any is_far (numbers (arguments line))) (numbers (arguments line)) refl

late_by : (a b : Bool) (x : Option CubeKind) (r : Result State CubeKind) → a ≡ b → x ≡ step_fault r → cond a (Some BadKeyword) x ≡ step_fault (cond b (Err BadKeyword) r)
late_by a true x r e f = rw e refl
late_by a false x r e f = rw e f

nothing_more : (a b : Bool) → (a || false || b) ≡ (a || b)
nothing_more true b = refl
nothing_more false b = refl

-- the faults of a keyword line that may stand
abbrev known_fault : List Line → Line → Option CubeKind
known_fault before line =
    cond (says "TITLE" line) None
    (cond (says "LUT_1D_SIZE" line) (cond (list_any (says "LUT_3D_SIZE") before) (Some Both) (cond (is_size 65536 (arguments line)) None (Some Size)))
    (cond (says "LUT_3D_SIZE" line) (cond (list_any (says "LUT_1D_SIZE") before) (Some Both) (cond (is_size 129 (arguments line)) None (Some Size)))
    (cond (is_range_line line) (bounds_fault 2 line) (bounds_fault 3 line))))

abbrev pub data_fault_of : Option CubeKind → Bool → Option CubeKind
data_fault_of (Some kind) three = Some kind
data_fault_of None three = cond three None (Some Number)

data_by : (sized first ordered full three : Bool)
    → cond (not sized) (Some NoSize) (cond (not (not first) && not ordered) (Some Domain) (cond full (Some Count) (cond three None (Some Number))))
    ≡ data_fault_of (cond (not sized) (Some NoSize) (cond (first && not ordered) (Some Domain) (cond full (Some Count) None))) three
data_by false first ordered full three = refl
data_by true true true true three = refl
data_by true true true false three = refl
data_by true true false full three = refl
data_by true false ordered true three = refl
data_by true false ordered false three = refl

module _ (before : List Line) (s : State) (h : Knows before s) (line : Line) where
  some_data : list_any is_data before ≡ not (s.data_lines == 0)
  some_data = any_count is_data before ∙ ap (λ (n : ℕ). not (n == 0)) (sym h.data_lines)

  known_is : (k : Keyword) → word line ≡ spelling k → known_fault before line ≡ step_fault (known_step s k (arguments line))
  known_is Title e = rw e refl
  known_is LineSize e = rw e (rw (← h.seen CubeSize) (size_fault s LineSize s.seen.cube_size (is_size 65536 (arguments line)) _))
  known_is CubeSize e = rw e (rw (← h.seen LineSize) (size_fault s CubeSize s.seen.line_size (is_size 129 (arguments line)) _))
  known_is DomainMin e = rw e (same_bounds _ 3 line)
  known_is DomainMax e = rw e (same_bounds _ 3 line)
  known_is LineRange e = rw e (same_bounds _ 2 line)
  known_is CubeRange e = rw e (same_bounds _ 2 line)

  late_is : (k : Keyword) → word line ≡ spelling k → (list_any is_data before || not (is_known line) || list_any (λ m. bytes_eq (word m) (word line)) before) ≡ (not (s.data_lines == 0) || has_stood s.seen k)
  late_is k e =
      let stood : list_any (λ m. bytes_eq (word m) (word line)) before ≡ has_stood s.seen k = ap (λ (w : List ℕ). list_any (λ m. bytes_eq (word m) w) before) e ∙ sym (h.seen k) in
      rw (some_data, known k line e, stood) (nothing_more (not (s.data_lines == 0)) (has_stood s.seen k))

  pub keyword_fault_is : is_passed_over line ≡ false → is_data line ≡ false → (k : Keyword) → word line ≡ spelling k → line_fault before line ≡ step_fault (keyword_step s k (arguments line))
  keyword_fault_is solid plain k e = rw (solid, plain) (late_by _ _ (known_fault before line) (known_step s k (arguments line)) (late_is k e) (known_is k e))

  pub unknown_fault_is : is_passed_over line ≡ false → is_data line ≡ false → ((k : Keyword) → word line ≡ spelling k → ⊥) → line_fault before line ≡ Some BadKeyword
  unknown_fault_is solid plain other = rw (solid, plain, unknown line other) (always (list_any is_data before) (list_any (λ m. bytes_eq (word m) (word line)) before) (known_fault before line))
    where
      always : (a b : Bool) (x : Option CubeKind) → cond (a || true || b) (Some BadKeyword) x ≡ Some BadKeyword
      always true b x = refl
      always false b x = refl

  pub data_fault_is : is_passed_over line ≡ false → is_data line ≡ true → line_fault before line ≡ data_fault_of (data_step s) (are_numbers 3 line)
  data_fault_is solid begins =
      rw (solid, begins, some_data, ← size_known before s h, ← h.low, ← h.high, ← h.size, ← h.data_lines, ← h.seen CubeSize)
      (data_by (knows_size s) (s.data_lines == 0) (are_ordered s) (is_full_state s) (are_numbers 3 line))

-- the end of the text
pub end_fault_is : (lines : List Line) (s : State) → Knows lines s → end_fault lines ≡ end_step s
end_fault_is lines s h = rw (← size_known lines s h, ← h.size, ← h.data_lines, ← h.seen CubeSize) refl
