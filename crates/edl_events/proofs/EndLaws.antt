-- After the last line.
use Rattle.std.proofs.Common.{◌≡◌, ℕ, ℤ, ◌+◌, ◌-◌, ◌<◌, false, not, List, [], ◌∷◌, length, take, map, get_or, refl, ap, sym, ◌∙◌, arith, Option, Result}
use Rattle.std.specs.Prelude.{Some, None, Ok, Err, slice_get, unwrap_or}
use Rattle.std.specs.Option.{option_map}
use Rattle.std.specs.List.{filter_map, enumerate_from, cons_option, position_or_len, count_by}
use Rattle.std.proofs.lemmas.Option.{none-some, same_Some, slice_get-get_or, slice_get_within}
use Rattle.std.proofs.lemmas.List.{take_all}
use Rattle.std.proofs.lemmas.List.Sums.{prefix_len_is}
use Rattle.std.specs.Result.{result_ok}
use Rattle.cf_base.specs.declared.timing.Rate.{Rate}
use Rattle.cf_base.specs.declared.timing.Mode.{Mode}
use Rattle.cf_base.specs.declared.event.EventRec.{EventRec}
use Rattle.edl_lines.specs.declared.LineKind.{LineKind}
use Rattle.edl_lines.specs.declared.LineKind.TheVariants.{Blank, Note, Title, Fcm, Motion, Event, Skipped}
use Rattle.edl_lines.specs.declared.LineFault.{LineFault}
use Rattle.edl_events.specs.declared.ListKind.{ListKind}
use Rattle.edl_events.specs.declared.steps.State.{State}
use Rattle.edl_events.specs.Places.{Line, is_event, is_picture, mode_after, record_mode}
use Rattle.edl_events.specs.Motion.{speed_at}
use Rattle.edl_events.specs.Lists.{fault_at, first_round, refusal, events_of, event_by}
use Rattle.edl_events.specs.inside.Bare.{bare_at, bare_by}
use Rattle.edl_events.specs.inside.Reads.{Records, Reads, set_speed, with_speed_of}
use Rattle.cf_base.specs.declared.lines.Span.{Span}
use Rattle.cf_base.specs.declared.event.Transition.{Transition}
use Rattle.edl_events.specs.Pictures.{picture_at, picture_with, last_out}
use Rattle.edl_events.proofs.PictureLaws.{let_in, speed_last, with_speed}
use Rattle.cf_base.proofs.FirstLaws.{nothing_from}

same_given : {X Y : Type 0} (h g : X → Option Y) (xs : List X) → ((x : X) → h x ≡ g x) → filter_map h xs ≡ filter_map g xs
same_given h g [] same = refl
same_given h g (x ∷ xs) same = rw (same x, same_given h g xs same) refl

-- the event of a line is the bare one with its speed
line_is : (rate : Rate) (lines : List Line) (i : ℕ) (line : Line) (kind : Result LineKind LineFault) (e : EventRec) → bare_by rate lines i line kind ≡ Some e → e.line ≡ i + 1
line_is rate lines i line (Ok Blank) e h = absurd (none-some e h)
line_is rate lines i line (Ok Note) e h = absurd (none-some e h)
line_is rate lines i line (Ok (Title text)) e h = absurd (none-some e h)
line_is rate lines i line (Ok (Fcm mode)) e h = absurd (none-some e h)
line_is rate lines i line (Ok (Motion reel speed trigger)) e h = absurd (none-some e h)
line_is rate lines i line (Ok (Event number reel transition spans)) e h = by_result _ refl h
  where
    by_result : (q : Result EventRec ListKind) → picture_with rate (mode_after (take i lines)) (record_mode lines) (last_out rate (record_mode lines) (take i lines)) (count_by is_picture (take i lines)) (i + 1) None line.bytes number reel transition spans ≡ q
        → result_ok q ≡ Some e → e.line ≡ i + 1
    by_result (Err kind) given h = absurd (none-some e h)
    by_result (Ok f) given h =
        let l = let_in rate (mode_after (take i lines)) (record_mode lines) (last_out rate (record_mode lines) (take i lines)) (count_by is_picture (take i lines)) (i + 1) line.bytes number reel transition spans f given in
        ap (λ (x : EventRec). x.line) (sym (l.is ∙ same_Some _ _ h))
line_is rate lines i line (Ok (Skipped number reel)) e h = absurd (none-some e h)
line_is rate lines i line (Err fault) e h = absurd (none-some e h)

part_with : (speed : Option ℤ) (q : Result EventRec ListKind) → result_ok (with_speed speed q) ≡ option_map (set_speed speed) (result_ok q)
part_with speed (Ok e) = refl
part_with speed (Err kind) = refl

-- the definition's own word for it
same_part : (q : Result EventRec ListKind) (rate : Rate) (lines : List Line) (i : ℕ) (line : Line) (number : ℕ) (reel : List ℕ) (transition : Transition) (spans : List Span)
    → picture_at rate lines i line number reel transition ≡ q → event_by rate lines i line (Ok (Event number reel transition spans)) ≡ result_ok q
same_part (Ok e) rate lines i line number reel transition spans h = rw h refl
same_part (Err kind) rate lines i line number reel transition spans h = rw h refl

event_is_bare : (rate : Rate) (lines : List Line) (i : ℕ) (line : Line) → (kind : Result LineKind LineFault) → line.kind ≡ kind → event_by rate lines i line kind ≡ option_map (set_speed (speed_at lines i)) (bare_by rate lines i line kind)
event_is_bare rate lines i line (Ok Blank) is = refl
event_is_bare rate lines i line (Ok Note) is = refl
event_is_bare rate lines i line (Ok (Title text)) is = refl
event_is_bare rate lines i line (Ok (Fcm mode)) is = refl
event_is_bare rate lines i line (Ok (Motion reel speed trigger)) is = refl
event_is_bare rate lines i line (Ok (Event number reel transition spans)) is =
    let bare : Result EventRec ListKind = picture_with rate (mode_after (take i lines)) (record_mode lines) (last_out rate (record_mode lines) (take i lines)) (count_by is_picture (take i lines)) (i + 1) None line.bytes number reel transition spans in
    let here : picture_at rate lines i line number reel transition ≡ with_speed (speed_at lines i) bare
    = rw is (speed_last rate (mode_after (take i lines)) (record_mode lines) (last_out rate (record_mode lines) (take i lines)) (count_by is_picture (take i lines)) (i + 1) (speed_at lines i) line.bytes number reel transition spans) in
    same_part (with_speed (speed_at lines i) bare) rate lines i line number reel transition spans here ∙ part_with (speed_at lines i) bare
event_is_bare rate lines i line (Ok (Skipped number reel)) is = refl
event_is_bare rate lines i line (Err fault) is = refl

spoken_is : (speed : ℕ → Option ℤ) (lines : List Line) (i : ℕ) → ((event : ℕ) → speed event ≡ speed_at lines event) → (o : Option EventRec) → ((e : EventRec) → o ≡ Some e → e.line ≡ i + 1)
    → option_map (set_speed (speed_at lines i)) o ≡ option_map (with_speed_of speed) o
spoken_is speed lines i known None at = refl
spoken_is speed lines i known (Some e) at =
    let line : e.line ≡ i + 1 = at e refl in
    let here : e.line - 1 ≡ i = omega arith in
    ap (λ (s : Option ℤ). Some (set_speed s e)) (sym (ap speed here ∙ known i))

map_given : {X Y : Type 0} (g : Y → Y) (h : X → Option Y) (xs : List X) → filter_map (λ x. option_map g (h x)) xs ≡ map g (filter_map h xs)
map_given g h [] = refl
map_given {X} {Y} g h (x ∷ xs) = by_option (map_given g h xs) (h x)
  where
    by_option : filter_map (λ x. option_map g (h x)) xs ≡ map g (filter_map h xs) → (o : Option Y) → cons_option (option_map g o) (filter_map (λ x. option_map g (h x)) xs) ≡ map g (cons_option o (filter_map h xs))
    by_option rest None = rest
    by_option rest (Some y) = ap (λ (ys : List Y). g y ∷ ys) rest

record_none : (lines : List Line) → ((k : ℕ) (l : Line) → k < length lines → slice_get lines k ≡ Some l → is_event l ≡ false) → record_mode lines ≡ mode_after lines
record_none [] none = refl
record_none (l ∷ more) none =
    let lines : List Line = l ∷ more in
    let past : position_or_len is_event lines ≡ length lines
    = prefix_len_is (λ (l : Line). not (is_event l)) lines (length lines) l (omega arith) (λ k below. rw (none k (get_or lines k l) below (slice_get-get_or lines k l below)) refl) (λ h. absurd (omega arith)) in
    ap (λ (k : ℕ). mode_after (take k lines)) past ∙ ap mode_after (take_all (length lines) lines (omega arith))

module _ (rate : Rate) (lines : List Line) (s : State) (events : List EventRec) (r : Reads rate lines (length lines) s events) where
  pub mode_end : unwrap_or s.record_mode s.mode ≡ record_mode lines
  mode_end = by_record s.record_mode r.knows.recorded
    where
      by_record : (o : Option Mode) → Records lines (length lines) o → unwrap_or o s.mode ≡ record_mode lines
      by_record None none = r.knows.mode ∙ ap mode_after (take_all (length lines) lines (omega arith)) ∙ sym (record_none lines none)
      by_record (Some m) known = sym known

  pub round_end : first_round rate lines ≡ None
  round_end = nothing_from (λ (p : ℕ × Line). option_map (refusal (p.0 + 1)) (fault_at rate lines p.0 p.1)) 0 lines (λ k l at.
      let first : 0 + k ≡ k = omega arith in rw first (ap (option_map (refusal (k + 1))) (r.faultless k l (slice_get_within lines k l at) at)))

  pub events_end : (speed : ℕ → Option ℤ) → ((event : ℕ) → speed event ≡ speed_at lines event) → events_of rate lines ≡ map (with_speed_of speed) events
  events_end speed known =
      same_given (λ (p : ℕ × Line). event_by rate lines p.0 p.1 p.1.kind) (λ (p : ℕ × Line). option_map (with_speed_of speed) (bare_at rate lines p)) (enumerate_from 0 lines)
      (λ p. event_is_bare rate lines p.0 p.1 p.1.kind refl ∙ spoken_is speed lines p.0 known (bare_by rate lines p.0 p.1 p.1.kind) (line_is rate lines p.0 p.1 p.1.kind))
      ∙ map_given (with_speed_of speed) (bare_at rate lines) (enumerate_from 0 lines)
      ∙ ap (map (with_speed_of speed)) (sym (r.bare ∙ ap (λ (ls : List Line). filter_map (bare_at rate lines) (enumerate_from 0 ls)) (take_all (length lines) lines (omega arith))))
