-- The two rounds give the list of the text.
use Rattle.std.proofs.Common.{◌≡◌, ℕ, ℤ, map, subst, suc, ◌-◌, ◌<◌, ◌≤◌, Bool, true, false, cond, List, [], ◌∷◌, length, get_or, refl, ap, sym, ◌∙◌, arith, Option, inl, inr}
use Rattle.std.specs.Prelude.{Some, None, Ok, Err, unwrap_or, nat_lt, nat_abs, IfSome}
use Rattle.std.specs.List.{AllPairs, list_any}
use Rattle.std.specs.Ordering.{nat_cmp}
use Rattle.std.specs.BTreeMap.{get}
use Rattle.std.proofs.lemmas.List.{take_all, get_or-map, length-map}
use Rattle.std.proofs.lemmas.List.Elements.{All-map, All-weaker}
use Rattle.cf_base.specs.declared.event.Transition.{Transition}
use Rattle.cf_base.specs.declared.event.Transition.TheVariants.{Cut, Dissolve, Wipe}
use Rattle.edl_events.specs.declared.reading.Reading.{Reading}
use Rattle.edl_events.specs.declared.steps.State.{State}
use Rattle.edl_events.specs.Motion.{speed_at}
use Rattle.std.proofs.lemmas.Bool.{cases_Bool, le-ltb, ltb-true, false≢true}
use Rattle.cf_base.specs.declared.timing.Rate.{Rate}
use Rattle.cf_base.specs.declared.timing.Mode.{Mode}
use Rattle.cf_base.specs.declared.event.EventRec.{EventRec}
use Rattle.cf_base.specs.Timing.{CanCount}
use Rattle.cf_base.specs.Events.{IsWellMade, IsWellMadeEvent, FitsTransition, FollowsOn, AllFollowOn, BeginsWithCut, record_length}
use Rattle.edl_events.specs.declared.ListRefusal.{ListRefusal}
use Rattle.edl_events.specs.declared.ListKind.TheVariants as fault
use Rattle.edl_events.specs.Places.{Line, lines_in, record_mode}
use Rattle.edl_events.specs.Lists.{list_of, list_from, first_round, second_round, has_event, events_of, refusal, settled}
use Rattle.edl_events.specs.inside.Reads.{Reads, IsReading, with_speed_of, spoken}
use Rattle.edl_events.proofs.EndLaws.{mode_end, round_end, events_end}

any_in : {X : Type 0} (p : X → Bool) (xs : List X) → list_any p xs ≡ true → (k : ℕ) × (x : X) × (k < length xs) × (get_or xs k x ≡ x) × (p x ≡ true)
any_in p [] h = absurd (false≢true h)
any_in {X} p (x ∷ xs) h = elim (cases_Bool (p x)) [
  | inl t ↦ (0, x, omega arith, refl, t)
  | inr f ↦ let r = any_in p xs (rw f at h) in (suc r.0, r.1, (let b = r.2 in omega (arith, b)), r.3, r.4)
]

-- the list of a text by its two rounds
by_rounds : (rate : Rate) (lines : List Line) (mode : Mode) (events : List EventRec) → first_round rate lines ≡ None → events_of rate lines ≡ events → mode ≡ record_mode lines
    → list_from rate lines ≡ settled (second_round events) (cond (has_event events) (Ok (record { mode = mode; events = events })) (Err (refusal 0 fault.NoEvents)))
by_rounds rate lines mode events first same is = rw (first, same, is) refl

-- events that get their speed stay well made
follow_spoken : (speed : ℕ → Option ℤ) (events : List EventRec) → AllFollowOn events → AllFollowOn (map (with_speed_of speed) events)
follow_spoken speed [] h = tt
follow_spoken speed (x ∷ []) h = tt
follow_spoken speed (x ∷ y ∷ more) h = (follows_on x.transition y.transition h.0, follow_spoken speed (y ∷ more) h.1)
  where
    follows_on : (s t : Transition) → FollowsOn x y t → FollowsOn (with_speed_of speed x) (with_speed_of speed y) t
    follows_on s Cut h = tt
    follows_on s (Dissolve d) h = h
    follows_on s (Wipe code d) h = h

first_spoken : (speed : ℕ → Option ℤ) (events : List EventRec) → BeginsWithCut events → BeginsWithCut (map (with_speed_of speed) events)
first_spoken speed [] h = tt
first_spoken speed (x ∷ more) h = h

fits_spoken : (speed : ℕ → Option ℤ) (e : EventRec) (t : Transition) → FitsTransition e t → FitsTransition (with_speed_of speed e) t
fits_spoken speed e Cut h = tt
fits_spoken speed e (Dissolve d) h = h
fits_spoken speed e (Wipe code d) h = h

event_spoken : (rate : Rate) (mode : Mode) (speed : ℕ → Option ℤ) → ((event : ℕ) → IfSome (speed event) (λ s. nat_abs s ≤ 999999)) → (e : EventRec) → IsWellMadeEvent rate mode e → IsWellMadeEvent rate mode (with_speed_of speed e)
event_spoken rate mode speed small e h = record {
  source_mode = h.source_mode;
  source_in = h.source_in;
  source_out = h.source_out;
  ordered = h.ordered;
  record_out = h.record_out;
  speed = small (e.line - 1);
  transition = fits_spoken speed e e.transition h.transition;
}

rising_spoken : (speed : ℕ → Option ℤ) (events : List EventRec) → AllPairs (λ (e f : EventRec). e.line < f.line) events → AllPairs (λ (e f : EventRec). e.line < f.line) (map (with_speed_of speed) events)
rising_spoken speed events h i j d less within =
    let size : length (map (with_speed_of speed) events) ≡ length events = length-map events (with_speed_of speed) in
    let inside : j < length events = omega arith in
    rw (get_or-map (with_speed_of speed) events i d d (omega arith), get_or-map (with_speed_of speed) events j d d inside) (h i j d less inside)

-- the events of a text without a fault of the first round are well made, once they have their speeds
pub well_made_by : (rate : Rate) (lines : List Line) (s : State) (events : List EventRec) → Reads rate lines (length lines) s events → (speed : ℕ → Option ℤ) → ((event : ℕ) → IfSome (speed event) (λ s. nat_abs s ≤ 999999))
    → has_event (map (with_speed_of speed) events) ≡ true → IsWellMade rate (record_mode lines) (map (with_speed_of speed) events)
well_made_by rate lines s events r speed small some =
    let m = r.makes in
    let any = any_in (λ (e : EventRec). nat_lt 0 (record_length e)) (map (with_speed_of speed) events) some in
    record {
      can_count = subst (CanCount rate) (mode_end rate lines s events r) m.record_counts;
      few = (let n = m.number in let f = m.few in let l = length-map events (with_speed_of speed) in omega (arith, n, f, l));
      rising = rising_spoken speed events m.rising;
      each = All-map (IsWellMadeEvent rate (record_mode lines)) (with_speed_of speed) events (All-weaker (IsWellMadeEvent rate (record_mode lines)) (λ (e : EventRec). IsWellMadeEvent rate (record_mode lines) (with_speed_of speed e)) (event_spoken rate (record_mode lines) speed small) events m.each);
      some_length = (any.0, any.1, any.2, any.3, ltb-true _ _ any.4);
      first = first_spoken speed events m.first;
      follow = follow_spoken speed events m.follow;
    }

module _ (rate : Rate) (text : List ℕ) (short : length text ≤ 4194304) (reading : Reading) (r : IsReading rate (lines_in text) (length (lines_in text)) reading) (all : List EventRec) (is : all ≡ map (spoken reading.speeds) reading.events.items) where
  known : (event : ℕ) → get nat_cmp reading.speeds event ≡ speed_at (lines_in text) event
  known event = r.follows.known event ∙ ap (λ (ls : List Line). speed_at ls event) (take_all (length (lines_in text)) (lines_in text) (omega arith))

  small : (event : ℕ) → IfSome (get nat_cmp reading.speeds event) (λ s. nat_abs s ≤ 999999)
  small event = subst (λ (o : Option ℤ). IfSome o (λ s. nat_abs s ≤ 999999)) (sym (r.follows.known event)) (r.follows.bounded event)

  answer : list_of rate text ≡ settled (second_round all) (cond (has_event all) (Ok (record { mode = unwrap_or reading.state.record_mode reading.state.mode; events = all })) (Err (refusal 0 fault.NoEvents)))
  answer =
      let same : events_of rate (lines_in text) ≡ all = events_end rate (lines_in text) reading.state reading.events.items r.reads (get nat_cmp reading.speeds) known ∙ sym is in
      rw (le-ltb 4194304 (length text) short)
      (by_rounds rate (lines_in text) (unwrap_or reading.state.record_mode reading.state.mode) all (round_end rate (lines_in text) reading.state reading.events.items r.reads) same (mode_end rate (lines_in text) reading.state reading.events.items r.reads))

  pub by_lengths : (first : ListRefusal) → second_round all ≡ Some first → list_of rate text ≡ Err first
  by_lengths first one = answer ∙ rw one refl

  pub by_none : second_round all ≡ None → has_event all ≡ false → list_of rate text ≡ Err (refusal 0 fault.NoEvents)
  by_none one none = answer ∙ rw (one, none) refl

  pub by_all : second_round all ≡ None → has_event all ≡ true → (mode : Mode) (rows : List EventRec) → mode ≡ unwrap_or reading.state.record_mode reading.state.mode → rows ≡ all → list_of rate text ≡ Ok (record { mode = mode; events = rows })
  by_all one some mode rows a b = answer ∙ rw (one, some, ← a, ← b) refl

  pub well_made : has_event all ≡ true → (mode : Mode) (rows : List EventRec) → mode ≡ unwrap_or reading.state.record_mode reading.state.mode → rows ≡ all → IsWellMade rate mode rows
  well_made some mode rows a b =
      let made = well_made_by rate (lines_in text) reading.state reading.events.items r.reads (get nat_cmp reading.speeds) small (ap has_event (sym is) ∙ some) in
      subst (λ (mode : Mode). IsWellMade rate mode rows) (sym (a ∙ mode_end rate (lines_in text) reading.state reading.events.items r.reads))
      (subst (IsWellMade rate (record_mode (lines_in text))) (sym (b ∙ is)) made)
