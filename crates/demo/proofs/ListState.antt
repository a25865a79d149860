-- What holds behind the lines of some events: their number, and the speeds.
use Rattle.std.proofs.Common.{◌≡◌, ℕ, zero, suc, ℤ, pos, ◌+◌, ◌*◌, ◌/◌, ◌%◌, ◌<◌, ◌≤◌, ◌≢◌, true, false, cond, ◌==◌, eqb, List, [], ◌∷◌, ◌++◌, length, map, refl, sym, ap, ◌∙◌, arith, inl, inr, codes, length-append, append_assoc, append-nil, subst, add-one}
use Rattle.std.specs.Prelude.{Option, Some, None, Ok, slice_get, unwrap_or}
use Rattle.std.specs.List.{flat_map, range_with_len, count_by, filter}
use Rattle.std.specs.Option.{option_map}
use Rattle.std.proofs.lemmas.Bool.{cases_Bool, ne_eqb, eqb-true, eq-eqb, cases_lt, true≢false}
use Rattle.std.proofs.lemmas.List.{map-append}
use Rattle.std.proofs.lemmas.List.Concat.{flat_map-append}
use Rattle.std.proofs.Math.Seq.{drop-append_seam}
use Rattle.cf_base.proofs.RangeLaws.{range_more}
use Rattle.cf_base.specs.declared.lines.Span.{Span}
use Rattle.cf_base.specs.declared.event.Transition.{Transition}
use Rattle.edl_lines.specs.declared.LineKind.TheVariants.{Motion, Event}
use Rattle.edl_events.specs.Places.{Line, head_of_kind, passes_at}
use Rattle.edl_events.specs.Motion.{has_reel, is_motion, moves_reel, motions_from, owner_after, run_after, speed_at}
use Rattle.edl_events.specs.inside.Reads.{line_of}
use Rattle.edl_events.specs.inside.Table.{goes_on, run_number}
use Rattle.edl_events.proofs.OneMore.{slice_get_here}
use Rattle.edl_events.proofs.RunLaws.{number_more, number_same, run_more}
use Rattle.edl_events.proofs.SpeedLaws.{speed_same, speed_more}
use Rattle.demo.specs.Texts.{reel_name}
use Rattle.demo.proofs.LineReads.{event_bytes, motion_bytes, event_reads, motion_reads}
use Rattle.demo.proofs.ListText.{event_lines, list_lines}

-- the place of an event's line; behind each fourth stands a motion line
abbrev pub place : ℕ → ℕ
place k = 1 + k + k / 4

abbrev pub event_line_of : ℕ → Line
event_line_of k = line_of (event_bytes (k / 4) (k % 4))

abbrev pub motion_line_of : ℕ → Line
motion_line_of k = line_of (motion_bytes (k / 4))

-- the lines before an event
abbrev pub before : ℕ → List Line
before k = map line_of (list_lines k)

lines_more : (k : ℕ) → list_lines (suc k) ≡ list_lines k ++ event_lines k
lines_more k =
    ap (λ (n : ℕ). list_lines n) (sym (add-one k))
    ∙ ap (λ (l : List (List ℕ)). codes "TITLE: DEMO" ∷ l)
    (ap (flat_map event_lines) (range_more k) ∙ flat_map-append event_lines (range_with_len 0 k) (k ∷ []) ∙ ap (λ (l : List (List ℕ)). flat_map event_lines (range_with_len 0 k) ++ l) (append-nil (event_lines k)))

pub before_more : (k : ℕ) → before (suc k) ≡ before k ++ map line_of (event_lines k)
before_more k = ap (map line_of) (lines_more k) ∙ map-append line_of (list_lines k) (event_lines k)

-- the number of the last event, and the speed of each
abbrev pub last_number : ℕ → Option ℕ
last_number zero = None
last_number (suc k) = Some (suc k)

abbrev pub row_speed : ℕ → Option ℤ
row_speed k = cond (k % 4 == 3) (Some (pos 1200)) None

pub record Behind (k : ℕ) (b : List Line) : Type 0 where
  pub size : length b ≡ place k
  pub number : run_number b ≡ last_number k
  pub spoken : (j : ℕ) → j < k → speed_at b (place j) ≡ row_speed j
  pub silent : (e : ℕ) → place k ≤ e → speed_at b e ≡ None

behind_none : Behind 0 (before 0)
behind_none = record { size = refl; number = refl; spoken = λ j below. absurd (omega arith); silent = λ e far. refl }

other_number : (k : ℕ) → goes_on (last_number k) (suc k) ≡ false
other_number zero = refl
other_number (suc k) = ne_eqb (suc k) (suc (suc k)) (λ same. omega arith)

-- what is known of an event line
pub record IsEventLine (k : ℕ) (line : Line) : Type 0 where
  pub spans : List Span
  pub how : Transition
  pub kind : line.kind ≡ Ok (Event (suc k) (reel_name (k % 4)) how spans)

module _ (k : ℕ) (b : List Line) (behind : Behind k b) (line : Line) (is : IsEventLine k line) where
  head : head_of_kind line.kind ≡ Some (record { number = suc k; reel = reel_name (k % 4) })
  head = rw is.kind refl

  still : is_motion line ≡ false
  still = rw is.kind refl

  more_size : length (b ++ line ∷ []) ≡ place k + 1
  more_size = length-append b (line ∷ []) ∙ ap (λ (n : ℕ). n + 1) behind.size

  more_number : run_number (b ++ line ∷ []) ≡ Some (suc k)
  more_number = number_more b line (record { number = suc k; reel = reel_name (k % 4) }) head

  more_speed : (e : ℕ) → speed_at (b ++ line ∷ []) e ≡ speed_at b e
  more_speed e = speed_same b line still e

  run_is : run_after (b ++ line ∷ []) ≡ length b ∷ []
  run_is =
      let new : goes_on (run_number b) (suc k) ≡ false = ap (λ (o : Option ℕ). goes_on o (suc k)) behind.number ∙ other_number k in
      run_more b line (record { number = suc k; reel = reel_name (k % 4) }) head ∙ rw new refl

  owner_by : (p : ℕ) (all : List Line) (reel : List ℕ) → run_after all ≡ p ∷ [] → passes_at (has_reel reel) all p ≡ true → motions_from p all reel ≡ 0 → owner_after all reel ≡ Some p
  owner_by p all reel run passes none =
      ap (λ (run : List ℕ). slice_get (filter (passes_at (has_reel reel) all) run) (motions_from (unwrap_or (slice_get run 0) 0) all reel)) run
      ∙ rw (passes, none) refl

  pub owner : k % 4 ≡ 3 → owner_after (b ++ line ∷ []) (codes "R3") ≡ Some (length b)
  owner last =
      let named : has_reel (codes "R3") line ≡ true = rw (is.kind, last) refl in
      let other : moves_reel (codes "R3") line ≡ false = rw is.kind refl in
      let passes : passes_at (has_reel (codes "R3")) (b ++ line ∷ []) (length b) ≡ true = ap (λ (o : Option Line). unwrap_or (option_map (has_reel (codes "R3")) o) false) (slice_get_here b line []) ∙ named in
      let none : motions_from (length b) (b ++ line ∷ []) (codes "R3") ≡ 0 = ap (count_by (moves_reel (codes "R3"))) (drop-append_seam b (line ∷ [])) ∙ rw other refl in
      owner_by (length b) (b ++ line ∷ []) (codes "R3") run_is passes none

  -- behind the line of an event that isn't the last of a group
  behind_event : k % 4 ≢ 3 → Behind (suc k) (b ++ line ∷ [])
  behind_event other =
      let none : (k % 4 == 3) ≡ false = ne_eqb (k % 4) 3 other in
      record {
        size = more_size ∙ omega arith;
        number = more_number;
        spoken = λ j below. elim (cases_lt j k) [
          | inl less ↦ more_speed (place j) ∙ behind.spoken j less
          | inr same ↦
              let one : j ≡ k = omega arith in
              rw one (more_speed (place k) ∙ behind.silent (place k) (omega arith) ∙ rw none refl)
        ];
        silent = λ e far. more_speed e ∙ behind.silent e (omega arith);
      }

  -- behind the motion line
  module _ (last : k % 4 ≡ 3) (motion : Line) (trigger : Span) (moves : motion.kind ≡ Ok (Motion (codes "R3") (pos 1200) trigger)) where
    then_speed : (e : ℕ) → speed_at ((b ++ line ∷ []) ++ motion ∷ []) e ≡ cond (eqb (place k) e) (Some (unwrap_or (speed_at b e) (pos 1200))) (speed_at b e)
    then_speed e =
        speed_more (b ++ line ∷ []) motion (codes "R3") (pos 1200) trigger moves (place k) (owner last ∙ ap Some behind.size) e
        ∙ rw (more_speed e) refl

    behind_motion : Behind (suc k) ((b ++ line ∷ []) ++ motion ∷ [])
    behind_motion = record {
      size = length-append (b ++ line ∷ []) (motion ∷ []) ∙ ap (λ (n : ℕ). n + 1) more_size ∙ omega arith;
      number = number_same (b ++ line ∷ []) motion (rw moves refl) ∙ more_number;
      spoken = λ j below. elim (cases_lt j k) [
        | inl less ↦
            let apart : eqb (place k) (place j) ≡ false = ne_eqb (place k) (place j) (λ same. omega arith) in
            then_speed (place j) ∙ rw apart (behind.spoken j less)
        | inr same ↦
            let one : j ≡ k = omega arith in
            rw one (then_speed (place k) ∙ rw (eq-eqb (place k) (place k) refl, behind.silent (place k) (omega arith), eq-eqb (k % 4) 3 last) refl)
      ];
      silent = λ e far.
          let apart : eqb (place k) e ≡ false = ne_eqb (place k) e (λ same. omega arith) in
          then_speed e ∙ rw apart (behind.silent e (omega arith));
    }

-- the lines of the list
pub event_line_is : (k : ℕ) → k < 1000 → IsEventLine k (event_line_of k)
event_line_is k few =
    let r = event_reads (k / 4) (k % 4) (omega arith) (omega arith) in
    let number : 4 * (k / 4) + k % 4 + 1 ≡ suc k = omega arith in
    record { spans = r.times; how = _; kind = rw number at r.reads }

pub behind : (k : ℕ) → k ≤ 1000 → Behind k (before k)
behind zero few = behind_none
behind (suc k) few =
    let here : Behind k (before k) = behind k (omega arith) in
    let is = event_line_is k (omega arith) in
    elim (cases_Bool (k % 4 == 3)) [
      | inl last ↦
          let m = motion_reads (k / 4) (omega arith) in
          let two : before (suc k) ≡ (before k ++ event_line_of k ∷ []) ++ motion_line_of k ∷ [] = before_more k ∙ rw last (sym (append_assoc (before k) (event_line_of k ∷ []) (motion_line_of k ∷ []))) in
          subst (Behind (suc k)) (sym two) (behind_motion k (before k) here (event_line_of k) is (eqb-true (k % 4) 3 last) (motion_line_of k) m.trigger m.reads)
      | inr other ↦
          let one : before (suc k) ≡ before k ++ event_line_of k ∷ [] = before_more k ∙ rw other refl in
          subst (Behind (suc k)) (sym one) (behind_event k (before k) here (event_line_of k) is (λ same. true≢false (sym (eq-eqb (k % 4) 3 same) ∙ other)))
    ]
