-- A line of the list is read as its event, and a motion line as its motion.
use Rattle.std.proofs.Common.{◌≡◌, ℕ, zero, suc, ◌+◌, ◌*◌, ◌<◌, true, ◌==◌, List, [], ◌∷◌, ◌++◌, length, refl, ap, ◌∙◌, arith, codes, pos}
use Rattle.std.specs.Prelude.{Some, Result, Ok, slice_index, slice_range, if◌then◌else◌}
use Rattle.std.specs.List.{join_with_byte}
use Rattle.std.specs.Char.{is_ascii_digit}
use Rattle.cf_base.specs.Digits.{digits}
use Rattle.cf_base.specs.Tokens.{Token, tokens}
use Rattle.cf_base.specs.declared.lines.Span.{Span}
use Rattle.cf_base.specs.declared.event.Transition.{Transition}
use Rattle.cf_base.specs.declared.event.Transition.TheVariants.{Cut, Dissolve, Wipe}
use Rattle.cf_base.specs.declared.timing.Rate.TheVariants.{R24}
use Rattle.cf_base.specs.declared.timing.Mode.TheVariants.{NonDrop}
use Rattle.edl_lines.specs.Numbers.{decimal}
use Rattle.edl_lines.specs.Lines.{reading, kind_of, span_of}
use Rattle.edl_lines.specs.declared.LineKind.TheVariants.{Motion, Event}
use Rattle.edl_events.specs.declared.steps.Times.{Times}
use Rattle.edl_events.specs.Pictures.{label_number, numbered, times_of}
use Rattle.edl_events.specs.declared.ListKind.{ListKind}
use Rattle.cf_base.specs.Steps.{◌>>=◌}
use Rattle.cf_timecode.specs.Spelling.{parsed}
use Rattle.demo.specs.Texts.{label_text, reel_name, source_in, record_in, event_line, motion_line}
use Rattle.demo.proofs.SpacedTokens.{AreWords, placed, words_of, stand_in}
use Rattle.demo.proofs.LineWords.{IsPlainWord, word_of, number_word, number_first, number_reads, label_word, label_reads}

abbrev tok : ℕ → List ℕ → Token
tok start bytes = record { start = start; bytes = bytes }

abbrev spans : Token → Token → Token → Token → List Span
spans a b c d = span_of a ∷ span_of b ∷ span_of c ∷ span_of d ∷ []

module _ (line : List ℕ) (n : ℕ) (num : List ℕ) (digit : is_ascii_digit (slice_index num 0) ≡ true) (value : decimal 6 num ≡ Some n) (a b c d : Token) (s0 s1 s2 s3 s4 : ℕ) where
  cut_0 : kind_of line (tok s0 num ∷ tok s1 (codes "R0") ∷ tok s2 (codes "V") ∷ tok s3 (codes "C") ∷ a ∷ b ∷ c ∷ d ∷ []) ≡ Ok (Event n (codes "R0") Cut (spans a b c d))
  cut_0 = rw (digit, value) refl

  dissolve_1 : kind_of line (tok s0 num ∷ tok s1 (codes "R1") ∷ tok s2 (codes "V") ∷ tok s3 (codes "D") ∷ tok s4 (codes "004") ∷ a ∷ b ∷ c ∷ d ∷ []) ≡ Ok (Event n (codes "R1") (Dissolve 4) (spans a b c d))
  dissolve_1 = rw (digit, value) refl

  wipe_2 : kind_of line (tok s0 num ∷ tok s1 (codes "R2") ∷ tok s2 (codes "V") ∷ tok s3 (codes "W102") ∷ tok s4 (codes "006") ∷ a ∷ b ∷ c ∷ d ∷ []) ≡ Ok (Event n (codes "R2") (Wipe 102 6) (spans a b c d))
  wipe_2 = rw (digit, value) refl

  cut_3 : kind_of line (tok s0 num ∷ tok s1 (codes "R3") ∷ tok s2 (codes "V") ∷ tok s3 (codes "C") ∷ a ∷ b ∷ c ∷ d ∷ []) ≡ Ok (Event n (codes "R3") Cut (spans a b c d))
  cut_3 = rw (digit, value) refl

motion_3 : (line : List ℕ) (a : Token) (s0 s1 s2 : ℕ) → kind_of line (tok s0 (codes "M2") ∷ tok s1 (codes "R3") ∷ tok s2 (codes "012.0") ∷ a ∷ []) ≡ Ok (Motion (codes "R3") (pos 1200) (span_of a))
motion_3 line a s0 s1 s2 = refl

-- the number of a label that stands in a part of the line
one_label : (line : List ℕ) (t : Token) (n : ℕ) → n < 2073600 → t.bytes ≡ label_text n → slice_range line t.start (t.start + length t.bytes) ≡ t.bytes → label_number R24 NonDrop line (span_of t) ≡ Ok n
one_label line t n small is stands = ap (λ (l : List ℕ). numbered R24 NonDrop (parsed R24 NonDrop l)) (stands ∙ is) ∙ label_reads n small

abbrev four_times : ℕ → ℕ → ℕ → ℕ → Times
four_times p q r s = record { src_in = p; src_out = q; rec_in = r; rec_out = s }

times_read : (line : List ℕ) (a b c d : Span) (p q r s : ℕ) → label_number R24 NonDrop line a ≡ Ok p → label_number R24 NonDrop line b ≡ Ok q → label_number R24 NonDrop line c ≡ Ok r → label_number R24 NonDrop line d ≡ Ok s
    → times_of R24 NonDrop NonDrop line (a ∷ b ∷ c ∷ d ∷ []) ≡ Ok (four_times p q r s)
times_read line a b c d p q r s ha hb hc hd =
    let B : Result ℕ ListKind → Result ℕ ListKind → Result ℕ ListKind → Result ℕ ListKind → Result Times ListKind
    = λ w x y z. w >>= (λ p. x >>= (λ q. y >>= (λ r. z >>= (λ s. Ok (four_times p q r s))))) in
    ap (λ (w : Result ℕ ListKind). B w (label_number R24 NonDrop line b) (label_number R24 NonDrop line c) (label_number R24 NonDrop line d)) ha
    ∙ ap (λ (x : Result ℕ ListKind). B (Ok p) x (label_number R24 NonDrop line c) (label_number R24 NonDrop line d)) hb
    ∙ ap (λ (y : Result ℕ ListKind). B (Ok p) (Ok q) y (label_number R24 NonDrop line d)) hc
    ∙ ap (λ (z : Result ℕ ListKind). B (Ok p) (Ok q) (Ok r) z) hd

-- the words of a line
abbrev labels : (g r : ℕ) → List (List ℕ)
labels g r = label_text (source_in g) ∷ label_text (source_in g + 6) ∷ label_text (record_in g r) ∷ label_text (record_in g r + 6) ∷ []

abbrev pub shown_words : ℕ → List (List ℕ)
shown_words r = if r == 1 then codes "D" ∷ codes "004" ∷ [] else if r == 2 then codes "W102" ∷ codes "006" ∷ [] else codes "C" ∷ []

abbrev pub shown : ℕ → Transition
shown r = if r == 1 then Dissolve 4 else if r == 2 then Wipe 102 6 else Cut

abbrev pub more_words : (g r : ℕ) → List (List ℕ)
more_words g r = reel_name r ∷ codes "V" ∷ (shown_words r ++ labels g r)

abbrev pub number_text : (g r : ℕ) → List ℕ
number_text g r = digits 6 (4 * g + r + 1)

unfoldable pub event_bytes : (g r : ℕ) → List ℕ
event_bytes g r = join_with_byte 32 (number_text g r ∷ more_words g r)

abbrev pub motion_words : ℕ → List (List ℕ)
motion_words g = codes "R3" ∷ codes "012.0" ∷ label_text (source_in g) ∷ []

unfoldable pub motion_bytes : ℕ → List ℕ
motion_bytes g = join_with_byte 32 (codes "M2" ∷ motion_words g)

-- a line of these words is the line of the list
pub line_0 : (g : ℕ) → event_line g 0 ≡ event_bytes g 0 ++ 10 ∷ []
unfolding event_line event_bytes
line_0 g = refl

pub line_1 : (g : ℕ) → event_line g 1 ≡ event_bytes g 1 ++ 10 ∷ []
unfolding event_line event_bytes
line_1 g = refl

pub line_2 : (g : ℕ) → event_line g 2 ≡ event_bytes g 2 ++ 10 ∷ []
unfolding event_line event_bytes
line_2 g = refl

pub line_3 : (g : ℕ) → event_line g 3 ≡ event_bytes g 3 ++ 10 ∷ []
unfolding event_line event_bytes
line_3 g = refl

pub line_motion : (g : ℕ) → motion_line g ≡ motion_bytes g ++ 10 ∷ []
unfolding motion_line motion_bytes
line_motion g = refl

-- all are words
abbrev pub ArePlain : List (List ℕ) → Type 0
ArePlain [] = Unit {0}
ArePlain (w ∷ ws) = IsPlainWord w × ArePlain ws

pub are_words : (ws : List (List ℕ)) → ArePlain ws → AreWords ws
are_words [] h = tt
are_words (w ∷ ws) h = (word_of w h.0, are_words ws h.1)

module _ (g r : ℕ) (few : g < 250) (reel : r < 4) where
  labels_plain : ArePlain (labels g r)
  labels_plain = (label_word (source_in g) (omega arith), (label_word (source_in g + 6) (omega arith), (label_word (record_in g r) (omega arith), (label_word (record_in g r + 6) (omega arith), tt))))

pub all_plain : (g r : ℕ) → g < 250 → r < 4 → ArePlain (number_text g r ∷ more_words g r)
all_plain g zero few reel = (number_word (4 * g + 0 + 1), (record { some = omega arith; plain = refl }, (record { some = omega arith; plain = refl }, (record { some = omega arith; plain = refl }, labels_plain g 0 few reel))))
all_plain g (suc zero) few reel = (number_word (4 * g + 1 + 1), (record { some = omega arith; plain = refl }, (record { some = omega arith; plain = refl }, (record { some = omega arith; plain = refl }, (record { some = omega arith; plain = refl }, labels_plain g 1 few reel)))))
all_plain g (suc (suc zero)) few reel = (number_word (4 * g + 2 + 1), (record { some = omega arith; plain = refl }, (record { some = omega arith; plain = refl }, (record { some = omega arith; plain = refl }, (record { some = omega arith; plain = refl }, labels_plain g 2 few reel)))))
all_plain g (suc (suc (suc zero))) few reel = (number_word (4 * g + 3 + 1), (record { some = omega arith; plain = refl }, (record { some = omega arith; plain = refl }, (record { some = omega arith; plain = refl }, labels_plain g 3 few reel))))
all_plain g (suc (suc (suc (suc r)))) few reel = absurd (omega arith)

pub motion_plain : (g : ℕ) → g < 250 → ArePlain (codes "M2" ∷ motion_words g)
motion_plain g few = (record { some = omega arith; plain = refl }, (record { some = omega arith; plain = refl }, (record { some = omega arith; plain = refl }, (label_word (source_in g) (omega arith), tt))))

-- a line is read as an event with these times
pub record ReadsEvent (bytes : List ℕ) (number : ℕ) (reel : List ℕ) (how : Transition) (p q r s : ℕ) : Type 0 where
  pub times : List Span
  pub reads : reading bytes ≡ Ok (Event number reel how times)
  pub timed : times_of R24 NonDrop NonDrop bytes times ≡ Ok (four_times p q r s)

pub record ReadsMotion (bytes : List ℕ) (p : ℕ) : Type 0 where
  pub trigger : Span
  pub reads : reading bytes ≡ Ok (Motion (codes "R3") (pos 1200) trigger)
  pub timed : label_number R24 NonDrop bytes trigger ≡ Ok p

module _ (g r : ℕ) (few : g < 250) (reel : r < 4) where
  line : List ℕ
  line = join_with_byte 32 (number_text g r ∷ more_words g r)

  all_tokens : tokens (join_with_byte 32 (number_text g r ∷ more_words g r)) ≡ placed 0 (number_text g r ∷ more_words g r)
  all_tokens = let plain = all_plain g r few reel in words_of (number_text g r) (more_words g r) (word_of _ plain.0) (are_words (more_words g r) plain.1)

read_0 : (g : ℕ) → g < 250 → ReadsEvent (event_bytes g 0) (4 * g + 0 + 1) (reel_name 0) (shown 0) (source_in g) (source_in g + 6) (record_in g 0) (record_in g 0 + 6)
unfolding event_bytes
read_0 g few =
    let n = 4 * g + 0 + 1 in
    let line = event_bytes g 0 in
    let stand = stand_in (number_text g 0) (more_words g 0) in
    let a = tok 14 (label_text (source_in g)) in
    let b = tok (14 + length a.bytes + 1) (label_text (source_in g + 6)) in
    let c = tok (14 + length a.bytes + 1 + length b.bytes + 1) (label_text (record_in g 0)) in
    let d = tok (14 + length a.bytes + 1 + length b.bytes + 1 + length c.bytes + 1) (label_text (record_in g 0 + 6)) in
    record {
      times = spans a b c d;
      reads = ap (kind_of line) (all_tokens g 0 few (omega arith)) ∙ cut_0 line n (digits 6 n) (number_first n) (number_reads n (omega arith)) a b c d 0 7 10 12 0;
      timed = times_read line (span_of a) (span_of b) (span_of c) (span_of d) (source_in g) (source_in g + 6) (record_in g 0) (record_in g 0 + 6)
          (one_label line a (source_in g) (omega arith) refl stand.1.1.1.1.0)
          (one_label line b (source_in g + 6) (omega arith) refl stand.1.1.1.1.1.0)
          (one_label line c (record_in g 0) (omega arith) refl stand.1.1.1.1.1.1.0)
          (one_label line d (record_in g 0 + 6) (omega arith) refl stand.1.1.1.1.1.1.1.0);
    }

read_1 : (g : ℕ) → g < 250 → ReadsEvent (event_bytes g 1) (4 * g + 1 + 1) (reel_name 1) (shown 1) (source_in g) (source_in g + 6) (record_in g 1) (record_in g 1 + 6)
unfolding event_bytes
read_1 g few =
    let n = 4 * g + 1 + 1 in
    let line = event_bytes g 1 in
    let stand = stand_in (number_text g 1) (more_words g 1) in
    let a = tok 18 (label_text (source_in g)) in
    let b = tok (18 + length a.bytes + 1) (label_text (source_in g + 6)) in
    let c = tok (18 + length a.bytes + 1 + length b.bytes + 1) (label_text (record_in g 1)) in
    let d = tok (18 + length a.bytes + 1 + length b.bytes + 1 + length c.bytes + 1) (label_text (record_in g 1 + 6)) in
    record {
      times = spans a b c d;
      reads = ap (kind_of line) (all_tokens g 1 few (omega arith)) ∙ dissolve_1 line n (digits 6 n) (number_first n) (number_reads n (omega arith)) a b c d 0 7 10 12 14;
      timed = times_read line (span_of a) (span_of b) (span_of c) (span_of d) (source_in g) (source_in g + 6) (record_in g 1) (record_in g 1 + 6)
          (one_label line a (source_in g) (omega arith) refl stand.1.1.1.1.1.0)
          (one_label line b (source_in g + 6) (omega arith) refl stand.1.1.1.1.1.1.0)
          (one_label line c (record_in g 1) (omega arith) refl stand.1.1.1.1.1.1.1.0)
          (one_label line d (record_in g 1 + 6) (omega arith) refl stand.1.1.1.1.1.1.1.1.0);
    }

read_2 : (g : ℕ) → g < 250 → ReadsEvent (event_bytes g 2) (4 * g + 2 + 1) (reel_name 2) (shown 2) (source_in g) (source_in g + 6) (record_in g 2) (record_in g 2 + 6)
unfolding event_bytes
read_2 g few =
    let n = 4 * g + 2 + 1 in
    let line = event_bytes g 2 in
    let stand = stand_in (number_text g 2) (more_words g 2) in
    let a = tok 21 (label_text (source_in g)) in
    let b = tok (21 + length a.bytes + 1) (label_text (source_in g + 6)) in
    let c = tok (21 + length a.bytes + 1 + length b.bytes + 1) (label_text (record_in g 2)) in
    let d = tok (21 + length a.bytes + 1 + length b.bytes + 1 + length c.bytes + 1) (label_text (record_in g 2 + 6)) in
    record {
      times = spans a b c d;
      reads = ap (kind_of line) (all_tokens g 2 few (omega arith)) ∙ wipe_2 line n (digits 6 n) (number_first n) (number_reads n (omega arith)) a b c d 0 7 10 12 17;
      timed = times_read line (span_of a) (span_of b) (span_of c) (span_of d) (source_in g) (source_in g + 6) (record_in g 2) (record_in g 2 + 6)
          (one_label line a (source_in g) (omega arith) refl stand.1.1.1.1.1.0)
          (one_label line b (source_in g + 6) (omega arith) refl stand.1.1.1.1.1.1.0)
          (one_label line c (record_in g 2) (omega arith) refl stand.1.1.1.1.1.1.1.0)
          (one_label line d (record_in g 2 + 6) (omega arith) refl stand.1.1.1.1.1.1.1.1.0);
    }

read_3 : (g : ℕ) → g < 250 → ReadsEvent (event_bytes g 3) (4 * g + 3 + 1) (reel_name 3) (shown 3) (source_in g) (source_in g + 6) (record_in g 3) (record_in g 3 + 6)
unfolding event_bytes
read_3 g few =
    let n = 4 * g + 3 + 1 in
    let line = event_bytes g 3 in
    let stand = stand_in (number_text g 3) (more_words g 3) in
    let a = tok 14 (label_text (source_in g)) in
    let b = tok (14 + length a.bytes + 1) (label_text (source_in g + 6)) in
    let c = tok (14 + length a.bytes + 1 + length b.bytes + 1) (label_text (record_in g 3)) in
    let d = tok (14 + length a.bytes + 1 + length b.bytes + 1 + length c.bytes + 1) (label_text (record_in g 3 + 6)) in
    record {
      times = spans a b c d;
      reads = ap (kind_of line) (all_tokens g 3 few (omega arith)) ∙ cut_3 line n (digits 6 n) (number_first n) (number_reads n (omega arith)) a b c d 0 7 10 12 0;
      timed = times_read line (span_of a) (span_of b) (span_of c) (span_of d) (source_in g) (source_in g + 6) (record_in g 3) (record_in g 3 + 6)
          (one_label line a (source_in g) (omega arith) refl stand.1.1.1.1.0)
          (one_label line b (source_in g + 6) (omega arith) refl stand.1.1.1.1.1.0)
          (one_label line c (record_in g 3) (omega arith) refl stand.1.1.1.1.1.1.0)
          (one_label line d (record_in g 3 + 6) (omega arith) refl stand.1.1.1.1.1.1.1.0);
    }

pub event_reads : (g r : ℕ) → g < 250 → r < 4 → ReadsEvent (event_bytes g r) (4 * g + r + 1) (reel_name r) (shown r) (source_in g) (source_in g + 6) (record_in g r) (record_in g r + 6)
event_reads g zero few reel = read_0 g few
event_reads g (suc zero) few reel = read_1 g few
event_reads g (suc (suc zero)) few reel = read_2 g few
event_reads g (suc (suc (suc zero))) few reel = read_3 g few
event_reads g (suc (suc (suc (suc r)))) few reel = absurd (omega arith)

pub motion_reads : (g : ℕ) → g < 250 → ReadsMotion (motion_bytes g) (source_in g)
unfolding motion_bytes
motion_reads g few =
    let line = motion_bytes g in
    let plain = motion_plain g few in
    let stand = stand_in (codes "M2") (motion_words g) in
    let a = tok 12 (label_text (source_in g)) in
    record {
      trigger = span_of a;
      reads = ap (kind_of line) (words_of (codes "M2") (motion_words g) (word_of (codes "M2") plain.0) (are_words (motion_words g) plain.1)) ∙ motion_3 line a 0 3 6;
      timed = one_label line a (source_in g) (omega arith) refl stand.1.1.1.0;
    }
