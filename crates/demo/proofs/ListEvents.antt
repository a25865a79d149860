-- The events of the list's lines.
use Rattle.std.proofs.Common.{◌≡◌, ◌≢◌, ℕ, zero, suc, pos, ◌+◌, ◌-◌, ◌*◌, ◌/◌, ◌%◌, ◌<◌, ◌≤◌, ◌==◌, List, [], ◌∷◌, ◌++◌, length, map, take, refl, sym, ap, ◌∙◌, arith, inl, inr, codes, length-append, append_assoc, subst, add-one}
use Rattle.std.specs.Prelude.{Option, Some, None, Result, Ok, slice_get, unwrap_or}
use Rattle.std.specs.List.{flat_map, range_with_len}
use Rattle.std.proofs.lemmas.Bool.{cases_Bool, eqb-true, eq-eqb, le-leb, lt-ltb, true≢false}
use Rattle.std.proofs.lemmas.List.{map-append}
use Rattle.std.proofs.lemmas.List.Concat.{flat_map-append}
use Rattle.std.proofs.Math.Seq.{take-append_seam}
use Rattle.cf_base.proofs.RangeLaws.{range_more}
use Rattle.cf_base.specs.Steps.{◌>>=◌}
use Rattle.cf_base.specs.declared.lines.Span.{Span}
use Rattle.cf_base.specs.declared.event.EventRec.{EventRec}
use Rattle.cf_base.specs.declared.event.Transition.{Transition}
use Rattle.cf_base.specs.declared.timing.Mode.{Mode}
use Rattle.cf_base.specs.declared.timing.Mode.TheVariants.{NonDrop}
use Rattle.cf_base.specs.declared.timing.Rate.TheVariants.{R24}
use Rattle.edl_lines.specs.declared.LineKind.TheVariants.{Title, Event}
use Rattle.edl_events.specs.declared.ListKind.{ListKind}
use Rattle.edl_events.specs.declared.steps.State.{State}
use Rattle.edl_events.specs.declared.steps.Times.{Times}
use Rattle.edl_events.specs.Motion.{owner_after}
use Rattle.edl_events.specs.Pictures.{picture_with, leads, times_of, transition_fits}
use Rattle.edl_events.specs.Places.{Line}
use Rattle.edl_events.specs.inside.Reads.{Reads, line_of}
use Rattle.edl_events.specs.inside.Steps.{picture_from, event_step}
use Rattle.edl_events.proofs.OneMore.{slice_get_here}
use Rattle.edl_events.proofs.ReadLaws.{reads_more, reads_motion, sound}
use Rattle.demo.specs.Texts.{reel_name, source_in, record_in}
use Rattle.demo.proofs.LineReads.{ReadsEvent, event_bytes, event_reads, motion_reads, shown}
use Rattle.demo.proofs.ListText.{event_lines, list_lines}
use Rattle.demo.proofs.ListState.{place, event_line_of, motion_line_of, before, Behind, behind, event_line_is, owner}

-- the row of an event, but for its speed
abbrev pub bare : ℕ → EventRec
bare k = record {
  line = place k + 1;
  number = suc k;
  reel = reel_name (k % 4);
  src_mode = NonDrop;
  src_in = source_in (k / 4);
  src_out = source_in (k / 4) + 6;
  rec_in = record_in (k / 4) (k % 4);
  rec_out = record_in (k / 4) (k % 4) + 6;
  speed = None;
  transition = shown (k % 4);
}

abbrev pub bare_rows : ℕ → List EventRec
bare_rows k = map bare (range_with_len 0 k)

-- what is known before an event
abbrev pub recorded : ℕ → Option Mode
recorded zero = None
recorded (suc k) = Some NonDrop

abbrev pub last_out : ℕ → Option ℕ
last_out zero = None
last_out (suc k) = Some (record_in (k / 4) (k % 4) + 6)

abbrev pub state_at : ℕ → ℕ → State
state_at n k = record { lines = n; mode = NonDrop; record_mode = recorded k; last_out = last_out k; pictures = k }

pub non_drop : (k : ℕ) → unwrap_or (recorded k) NonDrop ≡ NonDrop
non_drop zero = refl
non_drop (suc k) = refl

-- ---- the event of a line

leads_ok : (p d : ℕ) (times : Times) → p ≡ times.rec_in → 1 ≤ d → d ≤ times.rec_out - times.rec_in → leads (Some p) times d ≡ Ok tt
leads_ok p d times same some fits = rw (eq-eqb times.rec_in p (sym same), le-leb 1 d some, le-leb d (times.rec_out - times.rec_in) fits) refl

abbrev times_at : ℕ → Times
times_at k = record { src_in = source_in (k / 4); src_out = source_in (k / 4) + 6; rec_in = record_in (k / 4) (k % 4); rec_out = record_in (k / 4) (k % 4) + 6 }

leads_here : (k d : ℕ) → 1 ≤ k % 4 → 1 ≤ d → d ≤ 6 → leads (last_out k) (times_at k) d ≡ Ok tt
leads_here zero d later some most = absurd (omega arith)
leads_here (suc k) d later some most = leads_ok (record_in (k / 4) (k % 4) + 6) d (times_at (suc k)) (omega arith) some (omega arith)

fits_by : (k r : ℕ) → k % 4 ≡ r → r < 4 → transition_fits (last_out k) (times_at k) (shown r) ≡ Ok tt
fits_by k zero is few = refl
fits_by k (suc zero) is few = leads_here k 4 (omega arith) (omega arith) (omega arith)
fits_by k (suc (suc zero)) is few = leads_here k 6 (omega arith) (omega arith) (omega arith)
fits_by k (suc (suc (suc zero))) is few = refl
fits_by k (suc (suc (suc (suc r)))) is few = absurd (omega arith)

picture_ok : (last : Option ℕ) (count line number : ℕ) (bytes reel : List ℕ) (how : Transition) (spans : List Span) (times : Times)
    → times_of R24 NonDrop NonDrop bytes spans ≡ Ok times → times.rec_in ≤ times.rec_out → count < 10000 → transition_fits last times how ≡ Ok tt
    → picture_with R24 NonDrop NonDrop last count line None bytes number reel how spans ≡ Ok (record {
      line = line;
      number = number;
      reel = reel;
      src_mode = NonDrop;
      src_in = times.src_in;
      src_out = times.src_out;
      rec_in = times.rec_in;
      rec_out = times.rec_out;
      speed = None;
      transition = how;
    })
picture_ok last count line number bytes reel how spans times read ordered few fits = rw (read, le-leb times.rec_in times.rec_out ordered, lt-ltb count 10000 few, fits) refl

event_read : (k : ℕ) → k < 1000 → ReadsEvent (event_bytes (k / 4) (k % 4)) (suc k) (reel_name (k % 4)) (shown (k % 4)) (source_in (k / 4)) (source_in (k / 4) + 6) (record_in (k / 4) (k % 4)) (record_in (k / 4) (k % 4) + 6)
event_read k few =
    let number : 4 * (k / 4) + k % 4 + 1 ≡ suc k = omega arith in
    subst (λ (n : ℕ). ReadsEvent (event_bytes (k / 4) (k % 4)) n (reel_name (k % 4)) (shown (k % 4)) (source_in (k / 4)) (source_in (k / 4) + 6) (record_in (k / 4) (k % 4)) (record_in (k / 4) (k % 4) + 6)) number (event_reads (k / 4) (k % 4) (omega arith) (omega arith))

picture_at_is : (k : ℕ) (few : k < 1000) → picture_from R24 (state_at (place k) k) (event_bytes (k / 4) (k % 4)) (suc k) (reel_name (k % 4)) (shown (k % 4)) (event_read k few).times ≡ Ok (bare k)
picture_at_is k few =
    let r = event_read k few in
    ap (λ (m : Mode). picture_with R24 NonDrop m (last_out k) k (place k + 1) None (event_bytes (k / 4) (k % 4)) (suc k) (reel_name (k % 4)) (shown (k % 4)) r.times) (non_drop k)
    ∙ picture_ok (last_out k) k (place k + 1) (suc k) (event_bytes (k / 4) (k % 4)) (reel_name (k % 4)) (shown (k % 4)) r.times (times_at k) r.timed (omega arith) (omega arith) (fits_by k (k % 4) refl (omega arith))

event_stepped : (k : ℕ) → event_step (state_at (place k) k) (bare k) ≡ record { state = state_at (place k + 1) (suc k); event = Some (bare k) }
event_stepped k = λ i. record { state = record { lines = place k + 1; mode = NonDrop; record_mode = Some (non_drop k i); last_out = Some (record_in (k / 4) (k % 4) + 6); pictures = add-one k i }; event = Some (bare k) }

-- ---- the lines of the list, one after another

split : (a m n : ℕ) → range_with_len a (m + n) ≡ range_with_len a m ++ range_with_len (a + m) n
split a zero n = (let e : 0 + n ≡ n = omega arith in let f : a + 0 ≡ a = omega arith in rw (e, f) refl)
split a (suc m) n = (let e : suc m + n ≡ suc (m + n) = omega arith in let f : a + suc m ≡ a + 1 + m = omega arith in rw (e, f) (ap (λ (l : List ℕ). a ∷ l) (split (a + 1) m n)))

abbrev behind_lines : (k d : ℕ) → List Line
behind_lines k d = map line_of (flat_map event_lines (range_with_len (k + 1) d))

lines_split : (k d : ℕ) → before (k + suc d) ≡ before k ++ (map line_of (event_lines k) ++ behind_lines k d)
lines_split k d =
    let zero_plus : 0 + k ≡ k = omega arith in
    ap (λ (ks : List ℕ). map line_of (codes "TITLE: DEMO" ∷ flat_map event_lines ks)) (split 0 k (suc d) ∙ rw zero_plus refl)
    ∙ ap (λ (ls : List (List ℕ)). map line_of (codes "TITLE: DEMO" ∷ ls)) (flat_map-append event_lines (range_with_len 0 k) (k ∷ range_with_len (k + 1) d))
    ∙ map-append line_of (list_lines k) (event_lines k ++ flat_map event_lines (range_with_len (k + 1) d))
    ∙ ap (λ (ls : List Line). before k ++ ls) (map-append line_of (event_lines k) (flat_map event_lines (range_with_len (k + 1) d)))

module _ (lines : List Line) where
  none_read : Reads R24 lines 0 (record { lines = 0; mode = NonDrop; record_mode = None; last_out = None; pictures = 0 }) []
  none_read = record {
    knows = record { done = refl; mode = refl; recorded = λ k l below there. absurd (omega (arith, below)); out = refl; count = refl };
    faultless = λ k l below there. absurd (omega (arith, below));
    bare = refl;
    makes = record {
      counts = tt;
      record_counts = tt;
      few = omega arith;
      number = refl;
      rising = λ i j d less within. absurd (omega (arith, within));
      below = λ i d within. absurd (omega (arith, within));
      each = λ i d within. absurd (omega (arith, within));
      first = tt;
      follow = tt;
      last = refl;
    };
  }

  title_read : (more : List Line) → lines ≡ line_of (codes "TITLE: DEMO") ∷ more → Reads R24 lines 1 (state_at 1 0) []
  title_read more is =
      reads_more R24 lines 0 (state_at 0 0) [] none_read (line_of (codes "TITLE: DEMO")) (rw is refl) (Title (record { start = 7; «end» = 11 })) refl tt
      (record { state = state_at 1 0; event = None }) refl tt [] refl

  rows_more : (k : ℕ) → bare_rows (suc k) ≡ bare_rows k ++ bare k ∷ []
  rows_more k = ap (λ (n : ℕ). map bare (range_with_len 0 n)) (sym (add-one k)) ∙ ap (map bare) (range_more k) ∙ map-append bare (range_with_len 0 k) (k ∷ [])

  event_line_read : (k : ℕ) → k < 1000 → (front more : List Line) → length front ≡ place k → lines ≡ front ++ event_line_of k ∷ more
      → Reads R24 lines (place k) (state_at (place k) k) (bare_rows k) → Reads R24 lines (place k + 1) (state_at (place k + 1) (suc k)) (bare_rows (suc k))
  event_line_read k few front more size is reads =
      let r = event_read k few in
      let at : slice_get lines (place k) ≡ Some (event_line_of k) = rw (is, ← size) (slice_get_here front (event_line_of k) more) in
      reads_more R24 lines (place k) (state_at (place k) k) (bare_rows k) reads (event_line_of k) at (Event (suc k) (reel_name (k % 4)) (shown (k % 4)) r.times) r.reads tt
      (record { state = state_at (place k + 1) (suc k); event = Some (bare k) })
      (ap (λ (q : Result EventRec ListKind). q >>= (λ e. Ok (event_step (state_at (place k) k) e))) (picture_at_is k few) ∙ ap Ok (event_stepped k))
      (omega arith, omega arith, omega arith) (bare_rows (suc k)) (rows_more k)

  motion_line_read : (k : ℕ) → k < 1000 → (front more : List Line) → length front ≡ place k + 1 → lines ≡ front ++ motion_line_of k ∷ more → (p : ℕ) → owner_after front (codes "R3") ≡ Some p
      → Reads R24 lines (place k + 1) (state_at (place k + 1) (suc k)) (bare_rows (suc k)) → Reads R24 lines (place k + 1 + 1) (state_at (place k + 1 + 1) (suc k)) (bare_rows (suc k))
  motion_line_read k few front more size is p owned reads =
      let m = motion_reads (k / 4) (omega arith) in
      let at : slice_get lines (place k + 1) ≡ Some (motion_line_of k) = rw (is, ← size) (slice_get_here front (motion_line_of k) more) in
      let here : take (place k + 1) lines ≡ front = rw (is, ← size) (take-append_seam front (motion_line_of k ∷ more)) in
      reads_motion R24 lines (place k + 1) (state_at (place k + 1) (suc k)) (bare_rows (suc k)) reads (motion_line_of k) at (codes "R3") (pos 1200) m.trigger m.reads
      (sound R24 lines (place k + 1) (state_at (place k + 1) (suc k)) (bare_rows (suc k)) reads (motion_line_of k) at (codes "R3") (pos 1200) m.trigger m.reads (source_in (k / 4)) p m.timed
      (ap (λ (ls : List Line). owner_after ls (codes "R3")) here ∙ owned))

pub reads_at : (events : ℕ) → events ≤ 1000 → (k : ℕ) → k ≤ events → Reads R24 (before events) (place k) (state_at (place k) k) (bare_rows k)
reads_at events few zero within = title_read (before events) (map line_of (flat_map event_lines (range_with_len 0 events))) refl
reads_at events few (suc k) within =
    let old : Reads R24 (before events) (place k) (state_at (place k) k) (bare_rows k) = reads_at events few k (omega arith) in
    let here : Behind k (before k) = behind k (omega arith) in
    let d = events - k - 1 in
    let count : k + suc d ≡ events = omega arith in
    let is : before events ≡ before k ++ (map line_of (event_lines k) ++ behind_lines k d) = ap before (sym count) ∙ lines_split k d in
    let E = event_line_of k in
    let M = motion_line_of k in
    let more = behind_lines k d in
    elim (cases_Bool (k % 4 == 3)) [
      | inl last ↦
          let one : before events ≡ before k ++ E ∷ M ∷ more = is ∙ rw last refl in
          let two : before events ≡ (before k ++ E ∷ []) ++ M ∷ more = one ∙ sym (append_assoc (before k) (E ∷ []) (M ∷ more)) in
          let size : length (before k ++ E ∷ []) ≡ place k + 1 = length-append (before k) (E ∷ []) ∙ ap (λ (n : ℕ). n + 1) here.size in
          let third : k % 4 ≡ 3 = eqb-true (k % 4) 3 last in
          let next : place k + 1 + 1 ≡ place (suc k) = omega arith in
          subst (λ (n : ℕ). Reads R24 (before events) n (state_at n (suc k)) (bare_rows (suc k))) next
          (motion_line_read (before events) k (omega arith) (before k ++ E ∷ []) more size two (length (before k)) (owner k (before k) here E (event_line_is k (omega arith)) third)
          (event_line_read (before events) k (omega arith) (before k) (M ∷ more) here.size one old))
      | inr other ↦
          let one : before events ≡ before k ++ E ∷ more = is ∙ rw other refl in
          let apart : k % 4 ≢ 3 = λ same. true≢false (sym (eq-eqb (k % 4) 3 same) ∙ other) in
          let next : place k + 1 ≡ place (suc k) = omega arith in
          subst (λ (n : ℕ). Reads R24 (before events) n (state_at n (suc k)) (bare_rows (suc k))) next
          (event_line_read (before events) k (omega arith) (before k) more here.size one old)
    ]

-- behind the last line
pub all_read : (events : ℕ) → events ≤ 1000 → Reads R24 (before events) (length (before events)) (state_at (place events) events) (bare_rows events)
all_read events few =
    let here : Behind events (before events) = behind events few in
    subst (λ (n : ℕ). Reads R24 (before events) n (state_at (place events) events) (bare_rows events)) (sym here.size) (reads_at events few events (omega arith))
