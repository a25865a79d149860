-- A line more, or the end of the first round.
use Rattle.std.proofs.Common.{◌≡◌, ℕ, ℤ, ◌+◌, ◌<◌, Bool, true, false, cond, List, [], ◌++◌, length, take, refl, ap, sym, subst, ◌∙◌, arith, Option, Result, inl, inr}
use Rattle.std.specs.Prelude.{Some, None, Ok, Err, unwrap_or, slice_get, IfSome}
use Rattle.std.specs.Option.{option_map, option_to_list}
use Rattle.std.specs.List.{filter_map, enumerate_from, cons_option}
use Rattle.std.proofs.lemmas.Bool.{cases_lt}
use Rattle.std.proofs.lemmas.Option.{same_Some, slice_get_within}
use Rattle.std.proofs.lemmas.List.{length-take-le, append-nil}
use Rattle.cf_base.specs.declared.lines.Span.{Span}
use Rattle.cf_base.specs.declared.timing.Rate.{Rate}
use Rattle.cf_base.specs.declared.timing.Mode.{Mode}
use Rattle.cf_base.specs.declared.event.Transition.{Transition}
use Rattle.cf_base.specs.declared.event.EventRec.{EventRec}
use Rattle.cf_base.specs.Timing.{CanCount, can_count}
use Rattle.edl_lines.specs.declared.LineKind.{LineKind}
use Rattle.edl_lines.specs.declared.LineKind.TheVariants.{Blank, Note, Title, Fcm, Motion, Event, Skipped}
use Rattle.edl_lines.specs.declared.LineFault.TheVariants.{BadFcm}
use Rattle.edl_events.specs.declared.ListKind.{ListKind}
use Rattle.edl_events.specs.declared.ListKind.TheVariants as fault
use Rattle.edl_events.specs.declared.steps.State.{State}
use Rattle.edl_events.specs.declared.steps.Step.{Step}
use Rattle.edl_events.specs.declared.reading.Reading.{Reading}
use Rattle.edl_events.specs.Places.{Line, record_mode}
use Rattle.edl_events.specs.Motion.{owner_after}
use Rattle.edl_events.specs.Lists.{fault_at, first_round, refusal}
use Rattle.edl_events.specs.Pictures.{label_number}
use Rattle.edl_events.specs.inside.Bare.{bare_at, bare_events}
use Rattle.edl_events.specs.inside.Steps.{picture_from, step_of, event_step, plain_step}
use Rattle.edl_events.specs.inside.Made.{IsInDay}
use Rattle.cf_base.specs.declared.fail.Fail.{Fail}
use Rattle.cf_base.specs.declared.fail.Fail.TheVariants.{Fault, NoMemory}
use Rattle.cf_base.specs.Steps.{◌>>=◌}
use Rattle.cf_base.proofs.TimingLaws.{counts_of}
use Rattle.edl_events.specs.inside.Rounds.{FirstRound, refused_at}
use Rattle.edl_events.specs.inside.Reads.{Makes, Reads, IsPlain, IsReading, After}
use Rattle.cf_base.proofs.FirstLaws.{first_from}
use Rattle.edl_events.proofs.StateLaws.{one_more, given_more}
use Rattle.edl_events.proofs.PictureLaws.{let_in}
use Rattle.edl_events.proofs.StepLaws.{step_fault, step_event, fault_is, event_is, knows_step, knows_more, record_is}
use Rattle.edl_events.proofs.MakeLaws.{makes_same, makes_push}

same_step : (x y : Step) → ◌≡◌ {A = Result Step ListKind} (Ok x) (Ok y) → x ≡ y
same_step x y h = cc

never_step : (kind : ListKind) (y : Step) → ◌≡◌ {A = Result Step ListKind} (Err kind) (Ok y) → ⊥
never_step kind y h = cc

counts_either : (rate : Rate) (r : Option Mode) (old new : Mode) → CanCount rate (unwrap_or r old) → CanCount rate new → CanCount rate (unwrap_or r new)
counts_either rate None old new a b = b
counts_either rate (Some m) old new a b = a

pub ok_by : (q : Result ℕ ListKind) → ((kind : ListKind) → q ≡ Err kind → ⊥) → (m : ℕ) × (q ≡ Ok m)
ok_by (Ok m) other = (m, refl)
ok_by (Err kind) other = absurd (other kind refl)

one_given : {X : Type 0} (o : Option X) → cons_option o [] ≡ option_to_list o
one_given None = refl
one_given (Some x) = refl

module _ (rate : Rate) (lines : List Line) (n : ℕ) (s : State) (events : List EventRec) (r : Reads rate lines n s events) (line : Line) (at : slice_get lines n ≡ Some line) where
  -- the first faulty line
  pub refused : (kind : ListKind) → fault_at rate lines n line ≡ Some kind → first_round rate lines ≡ Some (refusal (n + 1) kind)
  refused kind fault =
      first_from (λ (p : ℕ × Line). option_map (refusal (p.0 + 1)) (fault_at rate lines p.0 p.1)) 0 lines n line (refusal (n + 1) kind) at
      (let first : 0 + n ≡ n = omega arith in rw first (ap (option_map (refusal (n + 1))) fault))
      (λ k z below there. let first : 0 + k ≡ k = omega arith in rw first (ap (option_map (refusal (k + 1))) (r.faultless k z below there)))

  faultless_more : fault_at rate lines n line ≡ None → (k : ℕ) (l : Line) → k < n + 1 → slice_get lines k ≡ Some l → fault_at rate lines k l ≡ None
  faultless_more here k l below there = elim (cases_lt k n) [
    | inl less ↦ r.faultless k l less there
    | inr more ↦
        let same : k ≡ n = omega arith in
        let one : line ≡ l = same_Some _ _ (sym at ∙ sym (ap (slice_get lines) same) ∙ there) in
        rw (same, ← one) here
  ]

  makes_event : (number : ℕ) (reel : List ℕ) (transition : Transition) (spans : List Span) → line.kind ≡ Ok (Event number reel transition spans)
      → (q : Result EventRec ListKind) → picture_from rate s line.bytes number reel transition spans ≡ q → (t : Step) → (q >>= (λ e. Ok (event_step s e))) ≡ Ok t
      → IfSome t.event (IsInDay rate s.mode (unwrap_or s.record_mode s.mode)) → Makes rate (record_mode lines) t.state (events ++ option_to_list t.event)
  makes_event number reel transition spans is (Err kind) given t h day = absurd (never_step kind t h)
  makes_event number reel transition spans is (Ok e) given t h day =
      let l = let_in rate s.mode (unwrap_or s.record_mode s.mode) s.last_out s.pictures (s.lines + 1) line.bytes number reel transition spans e given in
      let same = record_is rate lines n s r.knows line at (rw is refl) in
      let one = same_step _ _ h in
      let within : IsInDay rate s.mode (record_mode lines) e = rw same at (rw (← one) at day) in
      rw (← one) (makes_push rate (record_mode lines) s events r.makes line.bytes number reel transition spans e same l within)

  makes_fcm : (mode : Mode) → (b : Bool) → can_count rate mode ≡ b → (t : Step)
      → cond b (Ok (record { state = record { lines = s.lines + 1; mode = mode; record_mode = s.record_mode; last_out = s.last_out; pictures = s.pictures }; event = None })) (Err (fault.Line BadFcm)) ≡ Ok t → Makes rate (record_mode lines) t.state (events ++ option_to_list t.event)
  makes_fcm mode false is t h = absurd (never_step _ t h)
  makes_fcm mode true is t h =
      let counts = counts_of rate mode is in
      rw (← same_step _ _ h, append-nil) (makes_same rate (record_mode lines) s events r.makes _ refl counts (counts_either rate s.record_mode s.mode mode r.makes.record_counts counts) refl refl)

  makes_plain : (t : Step) → ◌≡◌ {A = Result Step ListKind} (Ok (plain_step s)) (Ok t) → Makes rate (record_mode lines) t.state (events ++ option_to_list t.event)
  makes_plain t h = rw (← same_step _ _ h, append-nil) (makes_same rate (record_mode lines) s events r.makes _ refl r.makes.counts r.makes.record_counts refl refl)

  makes_step : (kind : LineKind) → line.kind ≡ Ok kind → IsPlain kind → (t : Step) → step_of rate s line.bytes kind ≡ Ok t
      → IfSome t.event (IsInDay rate s.mode (unwrap_or s.record_mode s.mode)) → Makes rate (record_mode lines) t.state (events ++ option_to_list t.event)
  makes_step Blank is p t h day = makes_plain t h
  makes_step Note is p t h day = makes_plain t h
  makes_step (Title text) is p t h day = makes_plain t h
  makes_step (Fcm mode) is p t h day = makes_fcm mode (can_count rate mode) refl t h
  makes_step (Motion reel speed trigger) is p t h day = absurd p
  makes_step (Event number reel transition spans) is p t h day = makes_event number reel transition spans is _ refl t h day
  makes_step (Skipped number reel) is p t h day =
      rw (← same_step _ _ h, append-nil) (makes_same rate (record_mode lines) s events r.makes _ refl r.makes.counts r.makes.record_counts refl refl)

  pub reads_more : (kind : LineKind) → line.kind ≡ Ok kind → IsPlain kind → (t : Step) → step_of rate s line.bytes kind ≡ Ok t
      → IfSome t.event (IsInDay rate s.mode (unwrap_or s.record_mode s.mode)) → (all : List EventRec) → all ≡ events ++ option_to_list t.event → Reads rate lines (n + 1) t.state all
  reads_more kind is p t h day all grown =
      let few : length (take n lines) ≡ n = (let w = slice_get_within lines n line at in length-take-le n lines (omega arith)) in
      record {
        knows = knows_step rate lines n s r.knows line at kind is p t h;
        faultless = faultless_more (fault_is rate lines n s r.knows line at kind is p ∙ ap step_fault h);
        bare = grown ∙ ap (λ (es : List EventRec). es ++ option_to_list t.event) r.bare
            ∙ sym (ap (λ (ls : List Line). filter_map (bare_at rate lines) (enumerate_from 0 ls)) (one_more lines n line at)
            ∙ given_more (bare_at rate lines) (take n lines) line
            ∙ ap (λ (o : Option EventRec). bare_events rate lines n ++ cons_option o []) (ap (λ (m : ℕ). bare_at rate lines (m, line)) few ∙ event_is rate lines n s r.knows line at kind is p ∙ ap step_event h)
            ∙ ap (λ (es : List EventRec). bare_events rate lines n ++ es) (one_given t.event));
        makes = rw grown (makes_step kind is p t h day);
      }

  -- behind a motion line without fault
  pub reads_motion : (reel : List ℕ) (speed : ℤ) (trigger : Span) → line.kind ≡ Ok (Motion reel speed trigger) → fault_at rate lines n line ≡ None → Reads rate lines (n + 1) (plain_step s).state events
  reads_motion reel speed trigger is sound =
      let none : bare_at rate lines (n, line) ≡ None = rw is refl in
      let few : length (take n lines) ≡ n = (let w = slice_get_within lines n line at in length-take-le n lines (omega arith)) in
      record {
        knows = knows_more rate lines n s r.knows line at (plain_step s).state refl (rw is refl) (rw is refl) (rw is refl) (rw is (omega arith));
        faultless = faultless_more sound;
        bare = r.bare ∙ sym (ap (λ (ls : List Line). filter_map (bare_at rate lines) (enumerate_from 0 ls)) (one_more lines n line at)
            ∙ given_more (bare_at rate lines) (take n lines) line
            ∙ ap (λ (o : Option EventRec). bare_events rate lines n ++ cons_option o []) (ap (λ (m : ℕ). bare_at rate lines (m, line)) few ∙ none)
            ∙ append-nil (bare_events rate lines n));
        makes = makes_same rate (record_mode lines) s events r.makes (plain_step s).state refl r.makes.counts r.makes.record_counts refl refl;
      }

  -- the faults of a motion line
  module _ (reel : List ℕ) (speed : ℤ) (trigger : Span) (is : line.kind ≡ Ok (Motion reel speed trigger)) where
    pub bad_label : (kind : ListKind) → label_number rate s.mode line.bytes trigger ≡ Err kind → fault_at rate lines n line ≡ Some kind
    bad_label kind label = rw (is, ← r.knows.mode, label) refl

    pub stray : (m : ℕ) → label_number rate s.mode line.bytes trigger ≡ Ok m → owner_after (take n lines) reel ≡ None → fault_at rate lines n line ≡ Some fault.StrayMotion
    stray m label owner = rw (is, ← r.knows.mode, label, owner) refl

    pub sound : (m place : ℕ) → label_number rate s.mode line.bytes trigger ≡ Ok m → owner_after (take n lines) reel ≡ Some place → fault_at rate lines n line ≡ None
    sound m place label owner = rw (is, ← r.knows.mode, label, owner) refl

-- a refusal in the loop over the lines
pub round_refused : (rate : Rate) (lines : List Line) (n : ℕ) (fail : Fail ListKind) (r : Reading) → After rate lines n (Err fail) r → FirstRound rate lines (Err (refused_at (n + 1) fail))
round_refused rate lines n (Fault kind) r h = h
round_refused rate lines n NoMemory r h = tt

pub reading_at : (rate : Rate) (lines : List Line) (n m : ℕ) (r : Reading) → n ≡ m → IsReading rate lines n r → IsReading rate lines m r
reading_at rate lines n m r same h = subst (λ (k : ℕ). IsReading rate lines k r) same h
