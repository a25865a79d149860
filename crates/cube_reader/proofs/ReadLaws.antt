-- A line more, or the end of the reading.
use Rattle.std.proofs.Common.{◌≡◌, ℕ, ◌+◌, ◌<◌, ◌≤◌, true, false, map, List, [], ◌∷◌, ◌++◌, length, take, refl, ap, sym, subst, ◌∙◌, arith, inl, inr, length-take}
use Rattle.std.specs.Prelude.{Some, None, Ok, Err, slice_get}
use Rattle.std.specs.Option.{option_map}
use Rattle.std.proofs.lemmas.Bool.{cases_lt}
use Rattle.std.proofs.lemmas.Option.{same_Some, slice_get_within}
use Rattle.cf_base.specs.declared.fail.Fail.{Fail}
use Rattle.cf_base.specs.declared.fail.Fail.TheVariants.{Fault, NoMemory}
use Rattle.cf_base.proofs.FirstLaws.{first_from, nothing_from}
use Rattle.cube_reader.specs.declared.fault.CubeKind.{CubeKind}
use Rattle.cube_reader.specs.declared.reading.Reading.{Reading}
use Rattle.cf_base.specs.declared.fixed.Fixed.{Fixed}
use Rattle.cube_reader.specs.declared.fault.CubeKind.TheVariants.{Keyword as BadKeyword, Number}
use Rattle.cube_reader.specs.declared.keywords.Keyword.{Keyword}
use Rattle.cube_reader.specs.declared.state.State.{State}
use Rattle.cube_reader.specs.Text.{Line, word, arguments, is_passed_over, is_data, clamped, line_fault, faults_of, at_line}
use Rattle.cube_reader.specs.inside.Steps.{values, spelling, keyword_step, data_step, Knows, entries_of, IsReading, After, ReadsAll, refused_at}
use Rattle.cube_reader.proofs.MoreLaws.{one_more, count_most}
use Rattle.cube_reader.proofs.WordLaws.{values_none, values_some}
use Rattle.cube_reader.proofs.KeywordLaws.{passed_no_word, passed_no_data}
use Rattle.cube_reader.proofs.KnowsLaws.{knows_passed, knows_data, data_more, knows_keyword, entries_more, entries_same}
use Rattle.cube_reader.proofs.FaultLaws.{step_fault, keyword_fault_is, unknown_fault_is, data_fault_is}

module _ (lines : List Line) (n : ℕ) (r : Reading) (h : IsReading lines n r) (line : Line) (at : slice_get lines n ≡ Some line) where
  -- the first faulty line
  pub refused : (kind : CubeKind) → line_fault (take n lines) line ≡ Some kind → slice_get (faults_of lines) 0 ≡ Some (at_line (n + 1) kind)
  refused kind fault =
      first_from (λ (p : ℕ × Line). option_map (at_line (p.0 + 1)) (line_fault (take p.0 lines) p.1)) 0 lines n line (at_line (n + 1) kind) at
      (let first : 0 + n ≡ n = omega arith in rw first (ap (option_map (at_line (n + 1))) fault))
      (λ k z below there. let first : 0 + k ≡ k = omega arith in rw first (ap (option_map (at_line (k + 1))) (h.faultless k z below there)))

  faultless_more : line_fault (take n lines) line ≡ None → (k : ℕ) (l : Line) → k < n + 1 → slice_get lines k ≡ Some l → line_fault (take k lines) l ≡ None
  faultless_more here k l below there = elim (cases_lt k n) [
    | inl less ↦ h.faultless k l less there
    | inr more ↦
        let same : k ≡ n = omega arith in
        let one : line ≡ l = same_Some _ _ (sym at ∙ sym (ap (slice_get lines) same) ∙ there) in
        rw (same, ← one) here
  ]

  pub reading_more : (t : Reading) → t.lines ≡ n + 1 → Knows (take n lines ++ line ∷ []) t.state → line_fault (take n lines) line ≡ None → t.entries.items ≡ entries_of (take n lines ++ line ∷ []) → IsReading lines (n + 1) t
  reading_more t done knows fine entries = record {
    done = done;
    knows = rw (one_more lines n line at) knows;
    faultless = faultless_more fine;
    entries = rw (one_more lines n line at) entries;
  }

  -- a line that is passed over
  pub passed_read : is_passed_over line ≡ true → (t : Reading) → t.lines ≡ n + 1 → t.state ≡ r.state → t.entries.items ≡ r.entries.items → IsReading lines (n + 1) t
  passed_read passed t done same kept =
      let plain = passed_no_data line passed in
      reading_more t done (rw same (knows_passed (take n lines) r.state h.knows line (passed_no_word line passed) plain)) (rw passed refl)
      (kept ∙ h.entries ∙ sym (entries_same (take n lines) r.state h.knows line plain))

  module _ (solid : is_passed_over line ≡ false) (begins : is_data line ≡ true) where
    pub data_refused : (kind : CubeKind) → data_step r.state ≡ Some kind → slice_get (faults_of lines) 0 ≡ Some (at_line (n + 1) kind)
    data_refused kind is = refused kind (data_fault_is (take n lines) r.state h.knows line solid begins ∙ rw is refl)

    pub number_refused : data_step r.state ≡ None → values 3 line ≡ None → slice_get (faults_of lines) 0 ≡ Some (at_line (n + 1) Number)
    number_refused fine none = refused Number (data_fault_is (take n lines) r.state h.knows line solid begins ∙ rw (fine, values_none 3 line none) refl)

    pub data_read : data_step r.state ≡ None → (vs : List Fixed) → values 3 line ≡ Some vs → (t : Reading) → t.lines ≡ n + 1 → t.state ≡ data_more r.state → t.entries.items ≡ r.entries.items ++ map clamped vs ∷ [] → IsReading lines (n + 1) t
    data_read fine vs some t done state pushed =
        let three = values_some 3 line vs some in
        reading_more t done (rw state (knows_data (take n lines) r.state h.knows line begins fine three.0))
        (data_fault_is (take n lines) r.state h.knows line solid begins ∙ rw (fine, three.0) refl)
        (pushed ∙ rw (h.entries, ← three.1) (sym (entries_more (take n lines) line ∙ rw begins refl)))

  module _ (solid : is_passed_over line ≡ false) (plain : is_data line ≡ false) where
    pub unknown_refused : ((k : Keyword) → word line ≡ spelling k → ⊥) → slice_get (faults_of lines) 0 ≡ Some (at_line (n + 1) BadKeyword)
    unknown_refused other = refused BadKeyword (unknown_fault_is (take n lines) r.state h.knows line solid plain other)

    pub keyword_refused : (k : Keyword) → word line ≡ spelling k → (kind : CubeKind) → keyword_step r.state k (arguments line) ≡ Err kind → slice_get (faults_of lines) 0 ≡ Some (at_line (n + 1) kind)
    keyword_refused k e kind is = refused kind (keyword_fault_is (take n lines) r.state h.knows line solid plain k e ∙ ap step_fault is)

    pub keyword_read : (k : Keyword) → word line ≡ spelling k → (s : State) → keyword_step r.state k (arguments line) ≡ Ok s → (t : Reading) → t.lines ≡ n + 1 → t.state ≡ s → t.entries.items ≡ r.entries.items → IsReading lines (n + 1) t
    keyword_read k e s is t done same kept =
        reading_more t done (rw same (knows_keyword (take n lines) r.state h.knows line k e s is))
        (keyword_fault_is (take n lines) r.state h.knows line solid plain k e ∙ ap step_fault is)
        (kept ∙ h.entries ∙ sym (entries_same (take n lines) r.state h.knows line plain))

-- a refusal in the loop over the lines
pub all_refused : (lines : List Line) (n : ℕ) (fail : Fail CubeKind) (r : Reading) → After lines n (Err fail) r → ReadsAll lines (Err (refused_at (n + 1) fail))
all_refused lines n (Fault kind) r h = h
all_refused lines n NoMemory r h = tt

pub reading_at : (lines : List Line) (n m : ℕ) (r : Reading) → n ≡ m → IsReading lines n r → IsReading lines m r
reading_at lines n m r same h = subst (λ (k : ℕ). IsReading lines k r) same h

-- no line is faulty
pub none_faulty : (lines : List Line) → ((k : ℕ) (l : Line) → k < length lines → slice_get lines k ≡ Some l → line_fault (take k lines) l ≡ None) → slice_get (faults_of lines) 0 ≡ None
none_faulty lines faultless = nothing_from (λ (p : ℕ × Line). option_map (at_line (p.0 + 1)) (line_fault (take p.0 lines) p.1)) 0 lines (λ k l at.
    let first : 0 + k ≡ k = omega arith in rw first (ap (option_map (at_line (k + 1))) (faultless k l (slice_get_within lines k l at) at)))

-- there are no more data lines than lines
pub few_data : (lines : List Line) (n : ℕ) (r : Reading) → IsReading lines n r → r.state.data_lines ≤ n
few_data lines n r h = let a = count_most is_data (take n lines) in let b = h.knows.data_lines in let c = length-take n lines in omega (arith, a, b, c)
