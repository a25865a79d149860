-- Each table that is read is one.
use Rattle.std.proofs.Common.{◌≡◌, ℕ, zero, suc, ◌+◌, ◌*◌, ◌<◌, ◌≤◌, Bool, true, false, ◌&&◌, List, [], ◌∷◌, ◌++◌, length, take, map, get_or, refl, ap, sym, subst, ◌∙◌, arith, Option, Result, inl, inr, ℤ, pos}
use Rattle.std.specs.Prelude.{Some, None, Ok, Err, slice_get, nat_lt, ◌≤ℤ◌, ◌<ℤ◌, int_lt}
use Rattle.std.specs.Option.{option_map}
use Rattle.std.specs.List.{list_all, filter}
use Rattle.std.proofs.Math.Nat.{mul-le-mul_left}
use Rattle.std.proofs.lemmas.Bool.{cases_Bool, and_parts, leb-true}
use Rattle.std.proofs.lemmas.Int.{ints, clamps}
use Rattle.std.proofs.lemmas.List.{length-map, take_all}
use Rattle.std.proofs.lemmas.Option.{none-some, slice_get-get_or}
use Rattle.cf_base.specs.declared.fixed.Fixed.{Fixed}
use Rattle.cf_base.proofs.FirstLaws.{nothing_in}
use Rattle.cube_reader.specs.declared.fault.CubeFault.{CubeFault}
use Rattle.cube_reader.specs.declared.fault.CubeKind.{CubeKind}
use Rattle.cube_reader.specs.declared.keywords.Keyword.{Keyword}
use Rattle.cube_reader.specs.declared.keywords.Keyword.TheVariants.{CubeSize}
use Rattle.cube_reader.specs.declared.state.State.{State}
use Rattle.cube_reader.specs.Table.{Table, IsTable, units, entry_count}
use Rattle.cube_reader.specs.Text.{Line, word, arguments, lines_in, is_passed_over, is_data, is_under, are_numbers, numbers, clamped, line_fault, end_fault, at_line, faults_of, ended, settled, table_of, AcceptsTables}
use Rattle.cube_reader.specs.inside.Steps.{spelling, keyword_step, knows_size, is_full_state, data_step, end_step, Knows}
use Rattle.cube_reader.proofs.MoreLaws.{one_more, length_filter}
use Rattle.cube_reader.proofs.KeywordLaws.{keyword_cases, passed_no_word, passed_no_data}
use Rattle.cube_reader.proofs.KnowsLaws.{knows_passed, knows_data, data_more, knows_keyword, knows_start, start}
use Rattle.cube_reader.proofs.FaultLaws.{step_fault, keyword_fault_is, unknown_fault_is, data_fault_of, data_fault_is, end_fault_is}

option_none : (kind : CubeKind) → ◌≡◌ {A = Option CubeKind} (Some kind) None → ⊥
option_none kind e = cc

abbrev Next : List Line → Line → Type 0
Next before line = (t : State) × Knows (before ++ line ∷ []) t

-- a line without fault leads on
module _ (before : List Line) (s : State) (h : Knows before s) (line : Line) (fine : line_fault before line ≡ None) where
  by_keyword : (k : Keyword) → word line ≡ spelling k → (r : Result State CubeKind) → keyword_step s k (arguments line) ≡ r → step_fault r ≡ None → Next before line
  by_keyword k e (Ok t) is none = (t, knows_keyword before s h line k e t is)
  by_keyword k e (Err kind) is none = absurd (option_none kind none)

  by_data : is_data line ≡ true → (o : Option CubeKind) (three : Bool) → data_step s ≡ o → are_numbers 3 line ≡ three → data_fault_of o three ≡ None → Next before line
  by_data begins (Some kind) three a b none = absurd (option_none kind none)
  by_data begins None true a b none = (data_more s, knows_data before s h line begins a b)
  by_data begins None false a b none = absurd (option_none _ none)

  leads_on : Next before line
  leads_on = elim (cases_Bool (is_passed_over line)) [
    | inl passed ↦ (s, knows_passed before s h line (passed_no_word line passed) (passed_no_data line passed))
    | inr solid ↦ elim (cases_Bool (is_data line)) [
      | inl begins ↦ by_data begins (data_step s) (are_numbers 3 line) refl refl (sym (data_fault_is before s h line solid begins) ∙ fine)
      | inr plain ↦ elim (keyword_cases (word line)) [
        | inl found ↦ by_keyword found.0 found.1 _ refl (sym (keyword_fault_is before s h line solid plain found.0 found.1) ∙ fine)
        | inr other ↦ absurd (option_none _ (sym (unknown_fault_is before s h line solid plain other) ∙ fine))
      ]
    ]
  ]

known_after : (lines : List Line) → ((k : ℕ) (l : Line) → k < length lines → slice_get lines k ≡ Some l → line_fault (take k lines) l ≡ None) → (n : ℕ) → n ≤ length lines → (s : State) × Knows (take n lines) s
known_after lines faultless zero within = (start, knows_start)
known_after lines faultless (suc n) within =
    let line : Line = get_or lines n [] in
    let at : slice_get lines n ≡ Some line = slice_get-get_or lines n [] (omega arith) in
    let so_far = known_after lines faultless n (omega arith) in
    let more = leads_on (take n lines) so_far.0 so_far.1 line (faultless n line (omega arith) at) in
    let step : n + 1 ≡ suc n = omega arith in
    (more.0, subst (λ (ls : List Line). Knows ls more.0) (sym (ap (λ (k : ℕ). take k lines) (sym step) ∙ one_more lines n line at)) more.1)

-- a value is clamped
clamped_low : (v : Fixed) → pos 0 ≤ℤ (clamped v).0
clamped_low v = omega (arith, ints, clamps)

clamped_high : (v : Fixed) → (clamped v).0 ≤ℤ pos 1000000000
clamped_high v = omega (arith, ints, clamps)

clamped_each : (vs : List Fixed) (c : ℕ) → (pos 0 ≤ℤ units (map clamped vs) c) × (units (map clamped vs) c ≤ℤ pos 1000000000)
clamped_each [] c = (omega (arith, ints), omega (arith, ints))
clamped_each (v ∷ vs) zero = (clamped_low v, clamped_high v)
clamped_each (v ∷ vs) (suc c) = clamped_each vs c

clamped_entry : (lines : List Line) (n c : ℕ) → (pos 0 ≤ℤ units (get_or (map (λ (line : Line). map clamped (numbers line)) lines) n []) c) × (units (get_or (map (λ (line : Line). map clamped (numbers line)) lines) n []) c ≤ℤ pos 1000000000)
clamped_entry [] n c = (omega (arith, ints), omega (arith, ints))
clamped_entry (line ∷ lines) zero c = clamped_each (numbers line) c
clamped_entry (line ∷ lines) (suc n) c = clamped_entry lines n c

is_below : (a b : ℤ) → int_lt a b ≡ true → a <ℤ b
is_below a b h = grind (arith, ints)

ordered_each : (low high : List Fixed) → list_all (is_under low high) (0 ∷ 1 ∷ 2 ∷ []) ≡ true → (c : ℕ) → c < 3 → units low c <ℤ units high c
ordered_each low high h =
    let a = and_parts (is_under low high 0) (is_under low high 1 && (is_under low high 2 && true)) h in
    let b = and_parts (is_under low high 1) (is_under low high 2 && true) a.1 in
    let c = and_parts (is_under low high 2) true b.1 in
    each (is_below _ _ a.0) (is_below _ _ b.0) (is_below _ _ c.0)
  where
    each : units low 0 <ℤ units high 0 → units low 1 <ℤ units high 1 → units low 2 <ℤ units high 2 → (c : ℕ) → c < 3 → units low c <ℤ units high c
    each a b d zero small = a
    each a b d (suc zero) small = b
    each a b d (suc (suc zero)) small = d
    each a b d (suc (suc (suc c))) small = absurd (omega arith)

end_parts : (s : State) → end_step s ≡ None → (knows_size s ≡ true) × (is_full_state s ≡ true)
end_parts s h = elim (cases_Bool (knows_size s)) [
  | inr f ↦ absurd (option_none _ (rw f at h))
  | inl t ↦ elim (cases_Bool (is_full_state s)) [
    | inr f ↦ absurd (option_none _ (rw (t, f) at h))
    | inl full ↦ (t, full)
  ]
]

two_cube : (b : Bool) (n : ℕ) → 2 ≤ n → 2 ≤ entry_count b n
two_cube true n h = let a : n * 2 ≤ n * n = mul-le-mul_left n h in let b : n * n * 2 ≤ n * n * n = mul-le-mul_left (n * n) h in omega (arith, a, b)
two_cube false n h = h

pub is_table : (lines : List Line) (s : State) → Knows lines s → end_step s ≡ None → IsTable (table_of lines)
is_table lines s h fine =
    let parts = end_parts s fine in
    let full : entry_count s.seen.cube_size s.size ≤ s.data_lines = leb-true _ _ parts.1 in
    let few : s.data_lines ≤ entry_count s.seen.cube_size s.size = h.sound.few in
    let least : 2 ≤ s.size = h.sound.least parts.0 in
    let some : 0 < s.data_lines = (let e = two_cube s.seen.cube_size s.size least in omega (arith, e)) in
    let count : s.data_lines ≡ entry_count s.seen.cube_size s.size = omega arith in
    record {
      least = rw (← h.size) least;
      greatest = rw (← h.size, ← h.seen CubeSize) h.sound.greatest;
      count = length-map (filter is_data lines) (λ line. map clamped (numbers line)) ∙ length_filter is_data lines ∙ sym h.data_lines ∙ count ∙ rw (h.size, h.seen CubeSize) refl;
      three = λ n inside. h.three n [] inside;
      low_three = rw (← h.low) h.sound.low_three;
      high_three = rw (← h.high) h.sound.high_three;
      low = rw (← h.low) h.sound.low;
      high = rw (← h.high) h.sound.high;
      order = rw (← h.low, ← h.high) (ordered_each s.low s.high (h.sound.ordered some));
      values = λ n c inside known. clamped_entry (filter is_data lines) n c;
    }

-- the table of a text whose lines have no fault
pub law : AcceptsTables
law text t given = elim (cases_Bool (nat_lt 100663296 (length text))) [
  | inl long ↦ absurd (never _ (rw long at given))
  | inr short ↦ by_first (slice_get (faults_of (lines_in text)) 0) refl (rw short at given)
]
  where
    lines : List Line
    lines = lines_in text

    never : (fault : CubeFault) → ◌≡◌ {A = Result Table CubeFault} (Err fault) (Ok t) → ⊥
    never fault e = cc

    same_ok : (x : Table) → ◌≡◌ {A = Result Table CubeFault} (Ok x) (Ok t) → x ≡ t
    same_ok x e = cc

    option_of : (m k : ℕ) (o : Option CubeKind) → option_map (at_line m) o ≡ None → o ≡ None
    option_of m k None e = refl
    option_of m k (Some kind) e = absurd (none-some _ (sym e))

    faultless : slice_get (faults_of lines) 0 ≡ None → (k : ℕ) (l : Line) → k < length lines → slice_get lines k ≡ Some l → line_fault (take k lines) l ≡ None
    faultless none k l inside at =
        let e = nothing_in (λ (p : ℕ × Line). option_map (at_line (p.0 + 1)) (line_fault (take p.0 lines) p.1)) 0 lines none k l at in
        let first : 0 + k ≡ k = omega arith in
        option_of (k + 1) k _ (rw first at e)

    by_end : (s : State) → Knows lines s → (o : Option CubeKind) → end_fault lines ≡ o → ended lines o ≡ Ok t → IsTable t
    by_end s h (Some kind) is e = absurd (never _ e)
    by_end s h None is e = subst IsTable (same_ok _ e) (is_table lines s h (sym (end_fault_is lines s h) ∙ is))

    by_first : (o : Option CubeFault) → slice_get (faults_of lines) 0 ≡ o → settled lines o ≡ Ok t → IsTable t
    by_first (Some fault) is e = absurd (never fault e)
    by_first None is e =
        let known = known_after lines (faultless is) (length lines) (omega arith) in
        by_end known.0 (subst (λ (ls : List Line). Knows ls known.0) (take_all (length lines) lines (omega arith)) known.1) (end_fault lines) refl e
