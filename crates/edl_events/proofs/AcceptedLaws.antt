-- A list that the definition accepts is well made.
use Rattle.std.proofs.Common.{◌≡◌, ℕ, zero, suc, ◌+◌, ◌<◌, ◌≤◌, Bool, true, false, cond, List, [], ◌∷◌, ◌++◌, length, map, get_or, refl, ap, sym, subst, ◌∙◌, arith, add-one, Option, Result, inl, inr}
use Rattle.std.specs.Prelude.{Some, None, Ok, Err, unwrap_or, slice_get, slice_range, IfSome, nat_lt, nat_abs, option_and_then}
use Rattle.std.specs.Option.{option_map, option_to_list}
use Rattle.std.specs.List.{filter}
use Rattle.std.proofs.lemmas.Bool.{cases_Bool}
use Rattle.std.proofs.lemmas.Option.{none-some, slice_get-map, slice_get-get_or}
use Rattle.cf_base.specs.declared.lines.Span.{Span}
use Rattle.cf_base.specs.declared.timing.Rate.{Rate}
use Rattle.cf_base.specs.declared.timing.Mode.{Mode}
use Rattle.cf_base.specs.declared.timing.Mode.TheVariants.{NonDrop}
use Rattle.cf_base.specs.declared.event.Transition.{Transition}
use Rattle.cf_base.specs.declared.event.EventRec.{EventRec}
use Rattle.cf_base.specs.declared.event.EventList.{EventList}
use Rattle.cf_base.specs.Timing.{CanCount, can_count, frames_in_day}
use Rattle.cf_base.specs.Events.{IsWellMade}
use Rattle.cf_base.specs.Lines.{lines_of}
use Rattle.cf_base.specs.Steps.{◌>>=◌}
use Rattle.cf_base.proofs.StepLaws.{bind_ok}
use Rattle.cf_base.proofs.FirstLaws.{nothing_in}
use Rattle.cf_timecode.specs.declared.Label.{Label}
use Rattle.cf_timecode.specs.declared.TcFault.{TcFault}
use Rattle.cf_timecode.specs.Spelling.{parsed}
use Rattle.cf_timecode.proofs.Laws.{numbers_fit}
use Rattle.cf_timecode.proofs.Parsed.{parsed_valid}
use Rattle.edl_lines.specs.declared.LineKind.{LineKind}
use Rattle.edl_lines.specs.declared.LineKind.TheVariants.{Blank, Note, Title, Fcm, Motion, Event, Skipped}
use Rattle.edl_lines.specs.declared.LineFault.{LineFault}
use Rattle.edl_lines.specs.Lines.{reading}
use Rattle.edl_lines.proofs.SpeedLaws.{slow_motion}
use Rattle.edl_events.specs.declared.ListKind.{ListKind}
use Rattle.edl_events.specs.declared.ListKind.TheVariants as fault
use Rattle.edl_events.specs.declared.ListRefusal.{ListRefusal}
use Rattle.edl_events.specs.declared.steps.Times.{Times}
use Rattle.edl_events.specs.declared.steps.State.{State}
use Rattle.edl_events.specs.declared.steps.Step.{Step}
use Rattle.edl_events.specs.Places.{Line, lines_in, record_mode, places}
use Rattle.edl_events.specs.Motion.{motion_speed, is_owner, is_motion, speed_at}
use Rattle.edl_events.specs.Pictures.{numbered, label_number, times_of}
use Rattle.edl_events.specs.Lists.{fault_at, fault_by, first_round, second_round, has_event, events_of, refusal, settled, list_from}
use Rattle.edl_events.specs.Made.{AcceptsWellMade}
use Rattle.edl_events.specs.inside.Made.{AreTimes, IsInDay}
use Rattle.edl_events.specs.inside.Steps.{picture_from, step_of, plain_step, event_step}
use Rattle.edl_events.specs.inside.Reads.{Reads, IsPlain, line_of, with_speed_of}
use Rattle.edl_events.proofs.PictureLaws.{let_in}
use Rattle.edl_events.proofs.StepLaws.{step_fault, fault_is}
use Rattle.edl_events.proofs.ReadLaws.{reads_more, reads_motion}
use Rattle.edl_events.proofs.EndLaws.{events_end}
use Rattle.edl_events.proofs.ListLaws.{well_made_by}

-- the labels of a line are numbers of their day
same_number : (x y : ℕ) → ◌≡◌ {A = Result ℕ ListKind} (Ok x) (Ok y) → x ≡ y
same_number x y h = cc

never_number : (kind : ListKind) (y : ℕ) → ◌≡◌ {A = Result ℕ ListKind} (Err kind) (Ok y) → ⊥
never_number kind y h = cc

number_fits : (rate : Rate) (mode : Mode) → CanCount rate mode → (bytes : List ℕ) (span : Span) (n : ℕ) → label_number rate mode bytes span ≡ Ok n → n < frames_in_day rate mode
number_fits rate mode can bytes span n h = by_label (parsed rate mode (slice_range bytes span.start span.end)) refl h
  where
    by_label : (r : Result Label TcFault) → parsed rate mode (slice_range bytes span.start span.end) ≡ r → numbered rate mode r ≡ Ok n → n < frames_in_day rate mode
    by_label (Ok label) given h = subst (λ (k : ℕ). k < frames_in_day rate mode) (same_number _ _ h) (numbers_fit rate mode label can (parsed_valid rate mode (slice_range bytes span.start span.end) label given))
    by_label (Err tc) given h = absurd (never_number (fault.Label tc) n h)

same_times : (x y : Times) → ◌≡◌ {A = Result Times ListKind} (Ok x) (Ok y) → x ≡ y
same_times x y h = cc

never_times : (kind : ListKind) (y : Times) → ◌≡◌ {A = Result Times ListKind} (Err kind) (Ok y) → ⊥
never_times kind y h = cc

times_fit : (rate : Rate) (mode record_ : Mode) → CanCount rate mode → CanCount rate record_ → (bytes : List ℕ) (spans : List Span) (times : Times) → times_of rate mode record_ bytes spans ≡ Ok times → AreTimes rate mode record_ times
times_fit rate mode record_ can record_can bytes [] times h = absurd (never_times _ times h)
times_fit rate mode record_ can record_can bytes (s ∷ []) times h = absurd (never_times _ times h)
times_fit rate mode record_ can record_can bytes (s ∷ t ∷ []) times h = absurd (never_times _ times h)
times_fit rate mode record_ can record_can bytes (s ∷ t ∷ u ∷ []) times h = absurd (never_times _ times h)
times_fit rate mode record_ can record_can bytes (s ∷ t ∷ u ∷ v ∷ []) times h =
    let a = bind_ok (label_number rate mode bytes s) _ times h in
    let b = bind_ok (label_number rate mode bytes t) _ times a.2 in
    let c = bind_ok (label_number rate record_ bytes u) _ times b.2 in
    let d = bind_ok (label_number rate record_ bytes v) _ times c.2 in
    subst (AreTimes rate mode record_) (same_times _ _ d.2)
    (number_fits rate mode can bytes s a.0 a.1, number_fits rate mode can bytes t b.0 b.1, number_fits rate record_ record_can bytes u c.0 c.1, number_fits rate record_ record_can bytes v d.0 d.1)
times_fit rate mode record_ can record_can bytes (s ∷ t ∷ u ∷ v ∷ w ∷ more) times h = absurd (never_times _ times h)

-- the event of a step is one of its days
same_step : (x y : Step) → ◌≡◌ {A = Result Step ListKind} (Ok x) (Ok y) → x ≡ y
same_step x y h = cc

never_step : (kind : ListKind) (y : Step) → ◌≡◌ {A = Result Step ListKind} (Err kind) (Ok y) → ⊥
never_step kind y h = cc

module _ (rate : Rate) (s : State) (can : CanCount rate s.mode) (record_can : CanCount rate (unwrap_or s.record_mode s.mode)) (bytes : List ℕ) where
  abbrev InDay : Step → Type 0
  InDay t = IfSome t.event (IsInDay rate s.mode (unwrap_or s.record_mode s.mode))

  by_picture : (number : ℕ) (reel : List ℕ) (transition : Transition) (spans : List Span) (q : Result EventRec ListKind) → picture_from rate s bytes number reel transition spans ≡ q → (t : Step) → (q >>= (λ e. Ok (event_step s e))) ≡ Ok t → InDay t
  by_picture number reel transition spans (Err kind) given t h = absurd (never_step kind t h)
  by_picture number reel transition spans (Ok e) given t h =
      let l = let_in rate s.mode (unwrap_or s.record_mode s.mode) s.last_out s.pictures (s.lines + 1) bytes number reel transition spans e given in
      let fit = times_fit rate s.mode (unwrap_or s.record_mode s.mode) can record_can bytes spans l.times l.reads in
      subst InDay (same_step _ _ h) (subst (IsInDay rate s.mode (unwrap_or s.record_mode s.mode)) l.is (fit.0, fit.1, fit.3))

  by_fcm : (b : Bool) (u t : Step) (kind : ListKind) → u.event ≡ None → cond b (Ok u) (Err kind) ≡ Ok t → InDay t
  by_fcm true u t kind none h = subst InDay (same_step _ _ h) (rw none tt)
  by_fcm false u t kind none h = absurd (never_step kind t h)

  step_in_day : (kind : LineKind) (t : Step) → step_of rate s bytes kind ≡ Ok t → InDay t
  step_in_day Blank t h = subst InDay (same_step _ _ h) tt
  step_in_day Note t h = subst InDay (same_step _ _ h) tt
  step_in_day (Title text) t h = subst InDay (same_step _ _ h) tt
  step_in_day (Fcm mode) t h = by_fcm (can_count rate mode) _ t _ refl h
  step_in_day (Motion reel speed trigger) t h = subst InDay (same_step _ _ h) tt
  step_in_day (Event number reel transition spans) t h = by_picture number reel transition spans _ refl t h
  step_in_day (Skipped number reel) t h = subst InDay (same_step _ _ h) tt

-- lines without a fault of the first round can be read one after another
record IsRead (rate : Rate) (lines : List Line) (n : ℕ) : Type 0 where
  pub state : State
  pub events : List EventRec
  pub reads : Reads rate lines n state events

module _ (rate : Rate) (lines : List Line) (faultless : (k : ℕ) (l : Line) → slice_get lines k ≡ Some l → fault_at rate lines k l ≡ None) where
  none_read : IsRead rate lines 0
  none_read = record {
    state = record { lines = 0; mode = NonDrop; record_mode = None; last_out = None; pictures = 0 };
    events = [];
    reads = record {
      knows = record { done = refl; mode = refl; recorded = λ k l below there. absurd (omega (arith, below)); out = refl; count = refl };
      faultless = λ k l below there. absurd (omega (arith, below));
      bare = refl;
      makes = record {
        counts = tt;
        record_counts = tt;
        few = omega arith;
        number = refl;
        rising = λ i j d less within. absurd (omega (arith, within));
        below = λ i d within. absurd (omega (arith, within));
        each = λ i d within. absurd (omega (arith, within));
        first = tt;
        follow = tt;
        last = refl;
      };
    };
  }

  one_read : (n : ℕ) (line : Line) → slice_get lines n ≡ Some line → IsRead rate lines n → IsRead rate lines (n + 1)
  one_read n line at r = by_kind line.kind refl
    where
      plain : (kind : LineKind) → line.kind ≡ Ok kind → IsPlain kind → IsRead rate lines (n + 1)
      plain kind is p = by_step (step_of rate r.state line.bytes kind) refl
        where
          by_step : (q : Result Step ListKind) → step_of rate r.state line.bytes kind ≡ q → IsRead rate lines (n + 1)
          by_step (Err f) e = absurd (none-some f (sym (faultless n line at) ∙ fault_is rate lines n r.state r.reads.knows line at kind is p ∙ ap step_fault e))
          by_step (Ok t) e = record {
            state = t.state;
            events = r.events ++ option_to_list t.event;
            reads = reads_more rate lines n r.state r.events r.reads line at kind is p t e (step_in_day rate r.state r.reads.makes.counts r.reads.makes.record_counts line.bytes kind t e) (r.events ++ option_to_list t.event) refl;
          }

      by_kind : (kind : Result LineKind LineFault) → line.kind ≡ kind → IsRead rate lines (n + 1)
      by_kind (Err f) is = absurd (none-some (fault.Line f) (sym (faultless n line at) ∙ ap (fault_by rate lines n line) is))
      by_kind (Ok (Motion reel speed trigger)) is = record {
        state = (plain_step r.state).state;
        events = r.events;
        reads = reads_motion rate lines n r.state r.events r.reads line at reel speed trigger is (faultless n line at);
      }
      by_kind (Ok Blank) is = plain Blank is tt
      by_kind (Ok Note) is = plain Note is tt
      by_kind (Ok (Title text)) is = plain (Title text) is tt
      by_kind (Ok (Fcm mode)) is = plain (Fcm mode) is tt
      by_kind (Ok (Event number reel transition spans)) is = plain (Event number reel transition spans) is tt
      by_kind (Ok (Skipped number reel)) is = plain (Skipped number reel) is tt

  all_read : (n : ℕ) → n ≤ length lines → Line → IsRead rate lines n
  all_read zero few d = none_read
  all_read (suc n) few d =
      let below : n < length lines = omega (arith, few) in
      subst (IsRead rate lines) (add-one n) (one_read n (get_or lines n d) (slice_get-get_or lines n d below) (all_read n (omega (arith, few)) d))

-- the speed of an event line is in range
kind_slow : (bytes : List ℕ) (r : Result LineKind LineFault) → reading bytes ≡ r → IfSome (motion_speed r) (λ s. nat_abs s ≤ 999999)
kind_slow bytes (Ok (Motion reel speed trigger)) e = slow_motion bytes reel speed trigger e
kind_slow bytes (Ok Blank) e = tt
kind_slow bytes (Ok Note) e = tt
kind_slow bytes (Ok (Title text)) e = tt
kind_slow bytes (Ok (Fcm mode)) e = tt
kind_slow bytes (Ok (Event number reel transition spans)) e = tt
kind_slow bytes (Ok (Skipped number reel)) e = tt
kind_slow bytes (Err f) e = tt

speed_slow : (text : List ℕ) (event : ℕ) → IfSome (speed_at (lines_in text) event) (λ s. nat_abs s ≤ 999999)
speed_slow text event = by_place (slice_get (filter (is_owner (lines_in text) event) (places is_motion (lines_in text))) 0)
  where
    by_bytes : (o : Option (List ℕ)) → IfSome (option_and_then (λ (line : Line). motion_speed line.kind) (option_map line_of o)) (λ s. nat_abs s ≤ 999999)
    by_bytes None = tt
    by_bytes (Some bytes) = kind_slow bytes (reading bytes) refl

    by_place : (o : Option ℕ) → IfSome (option_and_then (λ (line : Line). motion_speed line.kind) (option_and_then (slice_get (lines_in text)) o)) (λ s. nat_abs s ≤ 999999)
    by_place None = tt
    by_place (Some i) = subst (λ (o : Option Line). IfSome (option_and_then (λ (line : Line). motion_speed line.kind) o) (λ s. nat_abs s ≤ 999999)) (sym (slice_get-map line_of (lines_of text) i)) (by_bytes (slice_get (lines_of text) i))

-- what an accepted list stands on
same_list : (x y : EventList) → ◌≡◌ {A = Result EventList ListRefusal} (Ok x) (Ok y) → x ≡ y
same_list x y h = cc

never_list : (r : ListRefusal) (y : EventList) → ◌≡◌ {A = Result EventList ListRefusal} (Err r) (Ok y) → ⊥
never_list r y h = cc

settled_ok : (a b : Option ListRefusal) (h : Bool) (x y : EventList) (r : ListRefusal) → settled a (settled b (cond h (Ok x) (Err r))) ≡ Ok y → (a ≡ None) × (h ≡ true) × (x ≡ y)
settled_ok (Some first) b h x y r e = absurd (never_list first y e)
settled_ok None (Some first) h x y r e = absurd (never_list first y e)
settled_ok None None false x y r e = absurd (never_list r y e)
settled_ok None None true x y r e = (refl, refl, same_list x y e)

none_from : (o : Option ListKind) (n : ℕ) → option_map (refusal n) o ≡ None → o ≡ None
none_from None n h = refl
none_from (Some kind) n h = absurd (none-some _ (sym h))

accepted : (rate : Rate) (text : List ℕ) (list : EventList) → list_from rate (lines_in text) ≡ Ok list → IsWellMade rate list.mode list.events
accepted rate text list e =
    let lines : List Line = lines_in text in
    let events : List EventRec = events_of rate lines in
    let parts = settled_ok (first_round rate lines) (second_round events) (has_event events) (record { mode = record_mode lines; events = events }) list (refusal 0 fault.NoEvents) e in
    let faultless : (k : ℕ) (l : Line) → slice_get lines k ≡ Some l → fault_at rate lines k l ≡ None
    = λ k l at. none_from (fault_at rate lines k l) (k + 1)
    (let first : 0 + k ≡ k = omega arith in rw first at (nothing_in (λ (p : ℕ × Line). option_map (refusal (p.0 + 1)) (fault_at rate lines p.0 p.1)) 0 lines parts.0 k l at)) in
    let r : IsRead rate lines (length lines) = all_read rate lines faultless (length lines) (omega arith) (line_of []) in
    let same : events ≡ map (with_speed_of (speed_at lines)) r.events = events_end rate lines r.state r.events r.reads (speed_at lines) (λ event. refl) in
    let made : IsWellMade rate (record_mode lines) (map (with_speed_of (speed_at lines)) r.events)
    = well_made_by rate lines r.state r.events r.reads (speed_at lines) (speed_slow text) (ap has_event (sym same) ∙ parts.1) in
    subst (λ (l : EventList). IsWellMade rate l.mode l.events) parts.2 (subst (IsWellMade rate (record_mode lines)) (sym same) made)

pub accepts_well_made : AcceptsWellMade
accepts_well_made rate text list e = elim (cases_Bool (nat_lt 4194304 (length text))) [
  | inl long ↦ absurd (never_list (refusal 0 fault.TooLong) list (rw long at e))
  | inr short ↦ accepted rate text list (rw short at e)
]
