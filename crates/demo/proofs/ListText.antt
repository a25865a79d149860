-- The list's text is its lines.
use Rattle.std.proofs.Common.{◌≡◌, ℕ, zero, suc, ◌+◌, ◌-◌, ◌*◌, ◌/◌, ◌%◌, ◌<◌, ◌≤◌, true, false, ◌==◌, List, [], ◌∷◌, ◌++◌, length, map, get_or, cond, refl, sym, ap, ◌∙◌, arith, inl, inr, codes, length-append, append_assoc, append-nil, subst}
use Rattle.std.specs.List.{flat_map, range_with_len, list_all, join_with_byte}
use Rattle.std.proofs.lemmas.Bool.{cases_Bool, and_parts}
use Rattle.std.proofs.lemmas.Bool.Decides.{nat_tests}
use Rattle.std.proofs.lemmas.List.Folds.{list_all-append}
use Rattle.std.proofs.lemmas.List.Splits.{slice_split_at}
use Rattle.cf_base.specs.Lines.{is_line_feed, without_return, without_last_empty, lines_of}
use Rattle.cf_base.specs.Text.{is_name_byte, is_printable}
use Rattle.cf_base.proofs.LineLaws.{keeps_first}
use Rattle.demo.specs.Texts.{label_text, source_in, record_in, event_line, event_text, list_text}
use Rattle.demo.proofs.SpacedTokens.{after, spaced_is}
use Rattle.demo.proofs.LineWords.{label_length}
use Rattle.demo.proofs.LineReads.{ArePlain, all_plain, motion_plain, event_bytes, motion_bytes, more_words, motion_words, number_text, line_0, line_1, line_2, line_3, line_motion}

-- the text of lines
abbrev pub ended_all : List (List ℕ) → List ℕ
ended_all [] = []
ended_all (l ∷ ls) = (l ++ 10 ∷ []) ++ ended_all ls

ended_append : (ls ms : List (List ℕ)) → ended_all (ls ++ ms) ≡ ended_all ls ++ ended_all ms
ended_append [] ms = refl
ended_append (l ∷ ls) ms = ap (λ (x : List ℕ). (l ++ 10 ∷ []) ++ x) (ended_append ls ms) ∙ sym (append_assoc (l ++ 10 ∷ []) (ended_all ls) (ended_all ms))

-- printable bytes, and not too many
pub record IsTextLine (l : List ℕ) : Type 0 where
  pub prints : list_all is_printable l ≡ true
  pub short : length l ≤ 80

abbrev pub AreTextLines : List (List ℕ) → Type 0
AreTextLines [] = Unit {0}
AreTextLines (l ∷ ls) = IsTextLine l × AreTextLines ls

prints_no_feed : (b : ℕ) → is_printable b ≡ true → is_line_feed b ≡ false
prints_no_feed b h = grind (arith, nat_tests)

prints_no_return : (b : ℕ) → is_printable b ≡ true → (b == 13) ≡ false
prints_no_return b h = grind (arith, nat_tests)

no_feeds : (l : List ℕ) → list_all is_printable l ≡ true → (i d : ℕ) → i < length l → is_line_feed (get_or l i d) ≡ false
no_feeds [] h i d below = absurd (omega arith)
no_feeds (b ∷ l) h zero d below = prints_no_feed b (and_parts (is_printable b) (list_all is_printable l) h).0
no_feeds (b ∷ l) h (suc i) d below = no_feeds l (and_parts (is_printable b) (list_all is_printable l) h).1 i d (omega arith)

no_return_at : (l : List ℕ) → list_all is_printable l ≡ true → (i : ℕ) → (get_or l i 0 == 13) ≡ false
no_return_at [] h i = refl
no_return_at (b ∷ l) h zero = prints_no_return b (and_parts (is_printable b) (list_all is_printable l) h).0
no_return_at (b ∷ l) h (suc i) = no_return_at l (and_parts (is_printable b) (list_all is_printable l) h).1 i

no_return : (l : List ℕ) → list_all is_printable l ≡ true → without_return l ≡ l
no_return l h = rw (no_return_at l h (length l - 1)) refl

pub lines_back : (ls : List (List ℕ)) → AreTextLines ls → lines_of (ended_all ls) ≡ ls
lines_back [] h = refl
lines_back (l ∷ ls) h =
    let rest = ended_all ls in
    ap lines_of (append_assoc l (10 ∷ []) rest)
    ∙ ap (λ (ps : List (List ℕ)). map without_return (without_last_empty ps)) (slice_split_at is_line_feed l 10 rest (no_feeds l h.0.prints) refl)
    ∙ ap (map without_return) (keeps_first l rest)
    ∙ ap (λ (x : List ℕ). x ∷ lines_of rest) (no_return l h.0.prints)
    ∙ ap (λ (x : List (List ℕ)). l ∷ x) (lines_back ls h.1)

pub size_of : (ls : List (List ℕ)) → AreTextLines ls → length (ended_all ls) ≤ 81 * length ls
size_of [] h = omega arith
size_of (l ∷ ls) h =
    let short = h.0.short in
    let more = size_of ls h.1 in
    omega (arith, length-append (l ++ 10 ∷ []) (ended_all ls), length-append l (10 ∷ []))

-- the lines of an event, and those of the list
abbrev pub event_lines : ℕ → List (List ℕ)
event_lines k = event_bytes (k / 4) (k % 4) ∷ cond (k % 4 == 3) (motion_bytes (k / 4) ∷ []) []

abbrev pub list_lines : ℕ → List (List ℕ)
list_lines events = codes "TITLE: DEMO" ∷ flat_map event_lines (range_with_len 0 events)

line_is : (g r : ℕ) → r < 4 → event_line g r ≡ event_bytes g r ++ 10 ∷ []
line_is g zero reel = line_0 g
line_is g (suc zero) reel = line_1 g
line_is g (suc (suc zero)) reel = line_2 g
line_is g (suc (suc (suc zero))) reel = line_3 g
line_is g (suc (suc (suc (suc r)))) reel = absurd (omega arith)

event_is : (k : ℕ) → event_text k ≡ ended_all (event_lines k)
event_is k = elim (cases_Bool (k % 4 == 3)) [
  | inl last ↦ rw (last, line_is (k / 4) (k % 4) (omega arith), line_motion (k / 4)) (ap (λ (x : List ℕ). (event_bytes (k / 4) (k % 4) ++ 10 ∷ []) ++ x) (sym (append-nil (motion_bytes (k / 4) ++ 10 ∷ []))))
  | inr other ↦ rw (other, line_is (k / 4) (k % 4) (omega arith)) refl
]

events_are : (ks : List ℕ) → flat_map event_text ks ≡ ended_all (flat_map event_lines ks)
events_are [] = refl
events_are (k ∷ ks) =
    ap (λ (x : List ℕ). x ++ flat_map event_text ks) (event_is k)
    ∙ ap (λ (x : List ℕ). ended_all (event_lines k) ++ x) (events_are ks)
    ∙ sym (ended_append (event_lines k) (flat_map event_lines ks))

pub text_is : (events : ℕ) → list_text events ≡ ended_all (list_lines events)
text_is events = ap (λ (x : List ℕ). codes "TITLE: DEMO\n" ++ x) (events_are (range_with_len 0 events))

-- each is a line of text
name_prints : (b : ℕ) → is_name_byte b ≡ true → is_printable b ≡ true
name_prints b h = grind (arith, nat_tests)

names_print : (w : List ℕ) → list_all is_name_byte w ≡ true → list_all is_printable w ≡ true
names_print [] h = refl
names_print (b ∷ w) h =
    let parts = and_parts (is_name_byte b) (list_all is_name_byte w) h in
    rw (name_prints b parts.0, names_print w parts.1) refl

after_prints : (ws : List (List ℕ)) → ArePlain ws → list_all is_printable (after ws) ≡ true
after_prints [] h = refl
after_prints (w ∷ ws) h = list_all-append is_printable w (after ws) ∙ rw (names_print w h.0.plain, after_prints ws h.1) refl

words_print : (w : List ℕ) (ws : List (List ℕ)) → ArePlain (w ∷ ws) → list_all is_printable (join_with_byte 32 (w ∷ ws)) ≡ true
words_print w ws h = ap (list_all is_printable) (spaced_is w ws) ∙ list_all-append is_printable w (after ws) ∙ rw (names_print w h.0.plain, after_prints ws h.1) refl

five : (a b c d : List ℕ) → length a ≡ 11 → length b ≡ 11 → length c ≡ 11 → length d ≡ 11 → length (a ++ 32 ∷ (b ++ 32 ∷ (c ++ 32 ∷ d))) ≡ 47
five a b c d la lb lc ld = omega (arith, length-append a (32 ∷ (b ++ 32 ∷ (c ++ 32 ∷ d))), length-append b (32 ∷ (c ++ 32 ∷ d)), length-append c (32 ∷ d))

labels_size : (g r : ℕ) → length (label_text (source_in g) ++ 32 ∷ (label_text (source_in g + 6) ++ 32 ∷ (label_text (record_in g r) ++ 32 ∷ label_text (record_in g r + 6)))) ≡ 47
labels_size g r = five (label_text (source_in g)) (label_text (source_in g + 6)) (label_text (record_in g r)) (label_text (record_in g r + 6)) (label_length (source_in g)) (label_length (source_in g + 6)) (label_length (record_in g r)) (label_length (record_in g r + 6))

event_line_is : (g r : ℕ) → g < 250 → r < 4 → IsTextLine (event_bytes g r)
unfolding event_bytes
event_line_is g zero few reel = record { prints = words_print (number_text g 0) (more_words g 0) (all_plain g 0 few reel); short = omega (arith, labels_size g 0) }
event_line_is g (suc zero) few reel = record { prints = words_print (number_text g 1) (more_words g 1) (all_plain g 1 few reel); short = omega (arith, labels_size g 1) }
event_line_is g (suc (suc zero)) few reel = record { prints = words_print (number_text g 2) (more_words g 2) (all_plain g 2 few reel); short = omega (arith, labels_size g 2) }
event_line_is g (suc (suc (suc zero))) few reel = record { prints = words_print (number_text g 3) (more_words g 3) (all_plain g 3 few reel); short = omega (arith, labels_size g 3) }
event_line_is g (suc (suc (suc (suc r)))) few reel = absurd (omega arith)

motion_line_is : (g : ℕ) → g < 250 → IsTextLine (motion_bytes g)
unfolding motion_bytes
motion_line_is g few = record { prints = words_print (codes "M2") (motion_words g) (motion_plain g few); short = omega (arith, label_length (source_in g)) }

lines_append : (ls ms : List (List ℕ)) → AreTextLines ls → AreTextLines ms → AreTextLines (ls ++ ms)
lines_append [] ms h k = k
lines_append (l ∷ ls) ms h k = (h.0, lines_append ls ms h.1 k)

of_event : (k : ℕ) → k < 1000 → AreTextLines (event_lines k)
of_event k few = elim (cases_Bool (k % 4 == 3)) [
  | inl last ↦ rw last (event_line_is (k / 4) (k % 4) (omega arith) (omega arith), (motion_line_is (k / 4) (omega arith), tt))
  | inr other ↦ rw other (event_line_is (k / 4) (k % 4) (omega arith) (omega arith), tt)
]

of_events : (from count : ℕ) → from + count ≤ 1000 → AreTextLines (flat_map event_lines (range_with_len from count))
of_events from zero few = tt
of_events from (suc count) few = lines_append (event_lines from) (flat_map event_lines (range_with_len (from + 1) count)) (of_event from (omega arith)) (of_events (from + 1) count (omega arith))

pub of_list : (events : ℕ) → events ≤ 1000 → AreTextLines (list_lines events)
of_list events few = (record { prints = refl; short = omega arith }, of_events 0 events (omega arith))

pub lines_are : (events : ℕ) → events ≤ 1000 → lines_of (list_text events) ≡ list_lines events
lines_are events few = ap lines_of (text_is events) ∙ lines_back (list_lines events) (of_list events few)

count_event : (k : ℕ) → length (event_lines k) ≤ 2
count_event k = elim (cases_Bool (k % 4 == 3)) [
  | inl last ↦ rw last (omega arith)
  | inr other ↦ rw other (omega arith)
]

count_events : (from count : ℕ) → length (flat_map event_lines (range_with_len from count)) ≤ 2 * count
count_events from zero = omega arith
count_events from (suc count) =
    let a = count_event from in
    let b = count_events (from + 1) count in
    omega (arith, length-append (event_lines from) (flat_map event_lines (range_with_len (from + 1) count)))

pub list_short : (events : ℕ) → events ≤ 1000 → length (list_text events) ≤ 4194304
list_short events few =
    let a = size_of (list_lines events) (of_list events few) in
    let b = count_events 0 events in
    subst (λ (l : List ℕ). length l ≤ 4194304) (sym (text_is events)) (omega arith)
