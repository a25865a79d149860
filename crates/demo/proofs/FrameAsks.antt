-- No source frame that the demonstration's job asks for is refused.
use Rattle.std.proofs.Common.{◌≡◌, ℕ, zero, suc, ℤ, pos, ◌+◌, ◌-◌, ◌*◌, ◌/◌, ◌%◌, ◌<◌, ◌≤◌, true, ◌==◌, List, [], ◌∷◌, ◌++◌, length, refl, sym, ap, ◌∙◌, arith, inl, inr, codes}
use Rattle.std.specs.Prelude.{Option, Some, None, slice_get, nat_le, nat_lt, ◌-ℤ◌, ◌+ℤ◌, option_and_then}
use Rattle.std.specs.Option.{option_map}
use Rattle.std.specs.List.{flat_map, filter_map, range_with_len, cons_option}
use Rattle.std.proofs.lemmas.List.FromFn.{length-map-range_with_len}
use Rattle.std.proofs.lemmas.Bool.{cases_Bool, le-leb, lt-ltb, leb-true, ltb-true, and_parts}
use Rattle.std.proofs.lemmas.Int.{ints}
use Rattle.std.proofs.lemmas.Option.{get_or_from_slice_get}
use Rattle.std.proofs.lemmas.List.Elements.{filter_map-append}
use Rattle.std.proofs.lemmas.List.Quantifiers.{position-Some}
use Rattle.cf_base.specs.declared.event.EventRec.{EventRec}
use Rattle.cf_base.specs.declared.key.Key.{Key}
use Rattle.cf_base.specs.declared.timing.Mode.TheVariants.{NonDrop}
use Rattle.cf_base.specs.declared.timing.Rate.TheVariants.{R24}
use Rattle.record_timeline.specs.Accepted.{RecordReel, first_frame, frame_count}
use Rattle.record_timeline.specs.Shots.{covers, covering, side_of, offset_of, duration_of, event_before, two_sides, shot_within, shot_in, shot_by, shot_of}
use Rattle.record_timeline.specs.declared.Side.{Side}
use Rattle.record_timeline.specs.declared.Shot.TheVariants.{One}
use Rattle.scan_source.specs.World.{file_at}
use Rattle.source_reels.specs.Reels.{from_zero, reel_place, has_frame, key_in, path_text, path_of_key}
use Rattle.conform_job.specs.Asks.{asks_of_side, asks_of_shot, asks_at, asks_of}
use Rattle.conform_job.specs.Digest.{digest_of}
use Rattle.conform_job.specs.Keys.{key_of_ask, key_at}
use Rattle.conform_job.specs.Refusals.{Files, ask_refusal, file_of_key, file_refusal, info_refusal, key_refusal, named_by, frames_refusal}
use Rattle.conform_job.specs.declared.frames.Ask.{Ask}
use Rattle.conform_job.specs.declared.parts.JobParts.{JobParts}
use Rattle.conform_job.specs.declared.parts.JobFault.{JobFault}
use Rattle.demo.specs.Counts.{source_count}
use Rattle.demo.specs.Demo.{demo_world}
use Rattle.demo.specs.Files.{source_path}
use Rattle.demo.specs.Pictures.{source_file}
use Rattle.demo.specs.Texts.{project_text, list_text, source_in, record_in, reel_name}
use Rattle.demo.proofs.ProjectMeans.{entry, entries, project}
use Rattle.demo.proofs.LineReads.{shown}
use Rattle.demo.proofs.ListState.{row_speed}
use Rattle.demo.proofs.ListRows.{row, rows}
use Rattle.demo.proofs.RowsTimeline.{row_there}
use Rattle.demo.proofs.SourceFiles.{frame_at}
use Rattle.demo.proofs.SourceHeads.{head_reads}

-- the parts of the demonstration's job
abbrev pub parts : ℕ → JobParts
parts events = record {
  digest = digest_of (project_text events) (list_text events) None;
  project = project (source_count events);
  reels = entries (source_count events);
  timeline = record { rate = R24; mode = NonDrop; events = rows events };
  look = None;
}

abbrev demo_files_at : ℕ → Files
demo_files_at events = file_at (demo_world events)

-- ---- a source frame of a reel

pub place_is : (n r : ℕ) → r < 4 → reel_place (entries n) (reel_name r) ≡ Some r
place_is n zero reel = refl
place_is n (suc zero) reel = refl
place_is n (suc (suc zero)) reel = refl
place_is n (suc (suc (suc zero))) reel = refl
place_is n (suc (suc (suc (suc r)))) reel = absurd (omega arith)

module _ (n m : ℕ) (low : 86400 ≤ m) (high : m < 86400 + n) where
  has_it : (name prefix : List ℕ) → has_frame (entry n name prefix) (pos m) ≡ true
  has_it name prefix = rw (le-leb 86400 m low, lt-ltb m (86400 + n) high) refl

  abbrev the_key : ℕ → Key
  the_key r = record { reel = r; source = m }

  key_is : (r : ℕ) → r < 4 → key_in (entries n) (pos m) r ≡ Some (the_key r)
  key_is zero reel = rw (has_it (codes "R0") (codes "r0.")) refl
  key_is (suc zero) reel = rw (has_it (codes "R1") (codes "r1.")) refl
  key_is (suc (suc zero)) reel = rw (has_it (codes "R2") (codes "r2.")) refl
  key_is (suc (suc (suc zero))) reel = rw (has_it (codes "R3") (codes "r3.")) refl
  key_is (suc (suc (suc (suc r)))) reel = absurd (omega arith)

  offset : 86400 + from_zero (pos m -ℤ pos 86400) ≡ m
  offset =
      let z : pos m -ℤ pos 86400 ≡ pos (m - 86400) = omega (arith, ints) in
      ap (λ (i : ℤ). 86400 + from_zero i) z ∙ omega arith

  path_is : (r : ℕ) → r < 4 → path_of_key (entries n) (the_key r) ≡ Some (source_path r m)
  unfolding path_text source_path
  path_is zero reel = rw (has_it (codes "R0") (codes "r0."), offset) refl
  path_is (suc zero) reel = rw (has_it (codes "R1") (codes "r1."), offset) refl
  path_is (suc (suc zero)) reel = rw (has_it (codes "R2") (codes "r2."), offset) refl
  path_is (suc (suc (suc zero))) reel = rw (has_it (codes "R3") (codes "r3."), offset) refl
  path_is (suc (suc (suc (suc r)))) reel = absurd (omega arith)

-- ---- what is asked of a row

module _ (events : ℕ) (few : events ≤ 1000) where
  abbrev count : ℕ
  count = source_count events

  abbrev ask : (k m : ℕ) → Ask
  ask k m = record { event = k; source = pos m }

  abbrev refusals : List Ask → List JobFault
  refusals asks = filter_map (ask_refusal (parts events) (demo_files_at events)) asks

  module _ (k m : ℕ) (within : k < events) (low : source_in (k / 4) ≤ m) (high : m ≤ source_in (k / 4) + 11) where
    after : m < 86400 + count
    after = omega arith

    key_there : key_of_ask (entries count) (rows events) (ask k m) ≡ Some (the_key count m (omega arith) after (k % 4))
    key_there =
        ap (λ (o : Option EventRec). key_at (entries count) (pos m) (option_and_then (λ (e : EventRec). reel_place (entries count) e.reel) o)) (row_there events k within)
        ∙ ap (key_at (entries count) (pos m)) (place_is count (k % 4) (omega arith))
        ∙ key_is count m (omega arith) after (k % 4) (omega arith)

    file_there : file_of_key (entries count) (demo_files_at events) (the_key count m (omega arith) after (k % 4)) ≡ Some (source_file (k % 4) m)
    file_there =
        ap (option_and_then (demo_files_at events)) (path_is count m (omega arith) after (k % 4) (omega arith))
        ∙ frame_at events (k % 4) m (omega arith) few (omega arith) after

    not_refused : ask_refusal (parts events) (demo_files_at events) (ask k m) ≡ None
    not_refused =
        let p = parts events in
        let files = demo_files_at events in
        let key = the_key count m (omega arith) after (k % 4) in
        let named = named_by (row k) (pos m) in
        ap (λ (o : Option EventRec). option_and_then (λ n. key_refusal p files n (key_of_ask p.reels p.timeline.events (ask k m))) (option_map (λ (e : EventRec). named_by e (pos m)) o)) (row_there events k within)
        ∙ ap (key_refusal p files named) key_there
        ∙ ap (file_refusal named 32 18) file_there
        ∙ ap (info_refusal named 32 18) (head_reads (k % 4) m (omega arith) (omega arith))

  -- ---- a side, a shot, and all of them

  refusals_append : (a b : List Ask) → refusals a ≡ [] → refusals b ≡ [] → refusals (a ++ b) ≡ []
  refusals_append a b none nothing = filter_map-append (ask_refusal (parts events) (demo_files_at events)) a b ∙ rw (none, nothing) refl

  source_is : (k j : ℕ) → j < 12 → (m : ℕ) × (pos (source_in (k / 4)) +ℤ offset_of R24 (row_speed k) j ≡ pos m) × (source_in (k / 4) ≤ m) × (m ≤ source_in (k / 4) + 11)
  source_is k j small = elim (cases_Bool (k % 4 == 3)) [
    | inl last ↦ (source_in (k / 4) + j * 1200 / 2400, rw last refl, omega arith, omega arith)
    | inr other ↦ (source_in (k / 4) + j, rw other refl, omega arith, omega arith)
  ]

  side_none : (k n : ℕ) → k < events → n - record_in (k / 4) (k % 4) < 12 → refusals (asks_of_side (side_of R24 k (row k) n)) ≡ []
  side_none k n within small =
      let s = source_is k (n - record_in (k / 4) (k % 4)) small in
      let none : ask_refusal (parts events) (demo_files_at events) (record { event = k; source = pos (source_in (k / 4)) +ℤ offset_of R24 (row_speed k) (n - record_in (k / 4) (k % 4)) }) ≡ None
      = ap (λ (z : ℤ). ask_refusal (parts events) (demo_files_at events) (record { event = k; source = z })) s.1 ∙ not_refused k s.0 within s.2 s.3 in
      ap (λ (o : Option JobFault). cons_option o []) none

  one_none : (a : Side) → refusals (asks_of_side a) ≡ [] → refusals (asks_of_shot (One a)) ≡ []
  one_none a none = refusals_append (asks_of_side a) [] none refl

  two_none : (a b : Side) → refusals (asks_of_side a) ≡ [] → refusals (asks_of_side b) ≡ [] → refusals (flat_map asks_of_side (a ∷ b ∷ [])) ≡ []
  two_none a b first second = refusals_append (asks_of_side a) (asks_of_side b ++ []) first (refusals_append (asks_of_side b) [] second refl)

  module _ (k n : ℕ) (within : k < events) (low : record_in (k / 4) (k % 4) ≤ n) (high : n < record_in (k / 4) (k % 4) + 6) where
    own : refusals (asks_of_side (side_of R24 k (row k) n)) ≡ []
    own = side_none k n within (omega arith)

    both_none : (j d : ℕ) → k ≡ suc j → 1 ≤ k % 4 → refusals (asks_of_shot (two_sides R24 k (row k) (slice_get (rows events) j) n d)) ≡ []
    both_none j d is later =
        let old : slice_get (rows events) j ≡ Some (row j) = row_there events j (omega arith) in
        let less : k - 1 ≡ j = omega arith in
        rw (old, less) (two_none (side_of R24 j (row j) n) (side_of R24 k (row k) n) (side_none j n (omega arith) (omega arith)) own)

    lasting_none : (d : ℕ) → 1 ≤ k % 4 → refusals (asks_of_shot (shot_within R24 k (row k) (event_before (rows events) k) n (Some d))) ≡ []
    lasting_none d later = elim (cases_Bool (nat_lt (n - record_in (k / 4) (k % 4)) d)) [
      | inl first ↦ rw first (by k refl later)
      | inr behind ↦ rw behind (one_none (side_of R24 k (row k) n) own)
    ]
      where
        by : (i : ℕ) → k ≡ i → 1 ≤ i % 4 → refusals (asks_of_shot (two_sides R24 k (row k) (event_before (rows events) i) n d)) ≡ []
        by zero is later = absurd (omega arith)
        by (suc j) is later = both_none j d is (omega arith)

    by_reel : (r : ℕ) → k % 4 ≡ r → r < 4 → refusals (asks_of_shot (shot_within R24 k (row k) (event_before (rows events) k) n (duration_of (shown r)))) ≡ []
    by_reel zero is reel = one_none (side_of R24 k (row k) n) own
    by_reel (suc zero) is reel = lasting_none 4 (omega arith)
    by_reel (suc (suc zero)) is reel = lasting_none 6 (omega arith)
    by_reel (suc (suc (suc zero))) is reel = one_none (side_of R24 k (row k) n) own
    by_reel (suc (suc (suc (suc r)))) is reel = absurd (omega arith)

    covered_none : refusals (asks_of_shot (shot_by R24 (rows events) n (Some k))) ≡ []
    covered_none =
        ap (λ (o : Option EventRec). refusals (asks_of_shot (shot_in R24 n k o (event_before (rows events) k)))) (row_there events k within)
        ∙ by_reel (k % 4) refl (omega arith)

  by_cover : (n : ℕ) (o : Option ℕ) → covering (rows events) n ≡ o → refusals (asks_of_shot (shot_by R24 (rows events) n o)) ≡ []
  by_cover n None is = refl
  by_cover n (Some k) is =
      let p = position-Some (λ (e : EventRec). covers e n) (rows events) k (row k) is in
      let size : length (rows events) ≡ events = length-map-range_with_len row 0 events in
      let inside = p.0 in
      let within : k < events = omega arith in
      let covered : covers (row k) n ≡ true = ap (λ (e : EventRec). covers e n) (sym (get_or_from_slice_get (rows events) k (row k) (row k) (row_there events k within))) ∙ p.1 in
      let both = and_parts (nat_le (record_in (k / 4) (k % 4)) n) (nat_lt n (record_in (k / 4) (k % 4) + 6)) covered in
      covered_none k n within (leb-true (record_in (k / 4) (k % 4)) n both.0) (ltb-true n (record_in (k / 4) (k % 4) + 6) both.1)

  shot_none : (n : ℕ) → refusals (asks_of_shot (shot_of R24 (rows events) n)) ≡ []
  shot_none n = by_cover n (covering (rows events) n) refl

  abbrev timeline : RecordReel
  timeline = record { rate = R24; mode = NonDrop; events = rows events }

  asks_none : (is : List ℕ) → refusals (flat_map (asks_at timeline) is) ≡ []
  asks_none [] = refl
  asks_none (i ∷ is) = refusals_append (asks_at timeline i) (flat_map (asks_at timeline) is) (shot_none (first_frame (rows events) + i)) (asks_none is)

  pub frames_none : frames_refusal (parts events) (demo_files_at events) ≡ None
  unfolding asks_of
  frames_none = ap (λ (faults : List JobFault). slice_get faults 0) (asks_none (range_with_len 0 (frame_count (rows events))))
