-- Lines of a CMX 3600 edit decision list: the one kind of a line with its fields, or its one fault. What is a token, which
-- tokens may follow, and the limits on digits are this project's own rules.
-- * line reading [Numbers]: the line's tokens decide its kind, by cases of which the first counts
--     reading line      the first case that holds counts; it speaks of the line's tokens alone
--     event_of, motion_of, fcm_of      the tokens of an event line, of a motion line, and the words behind `FCM:`
use Rattle.std.specs.Prelude.{ℕ, ◌+◌, ◌-◌, Bool, true, false, ◌&&◌, ◌||◌, ◌==◌, nat_eq, if◌then◌else◌, List, [], ◌∷◌, length, drop, map, slice_get, slice_index, codes, Option, option_and_then, Result, Ok, Err}
use Rattle.std.specs.Option.{option_map}
use Rattle.std.specs.Str.{bytes_eq}
use Rattle.std.specs.Char.{is_ascii_digit}
use Rattle.std.specs.List.{list_all, list_any, starts_with, prefix_len, suffix_len}
use Rattle.std.specs.Str.Parse.{digits_value}
use Rattle.cf_base.specs.declared.lines.Span.{Span}
use Rattle.cf_base.specs.declared.event.Transition.{Transition}
use Rattle.cf_base.specs.declared.event.Transition.TheVariants.{Cut, Dissolve, Wipe}
use Rattle.cf_base.specs.declared.timing.Mode.TheVariants.{NonDrop, Drop}
use Rattle.cf_base.specs.Text.{name_of}
use Rattle.cf_base.specs.Tokens.{Token, tokens, token_end, is_blank}
use Rattle.cf_base.specs.Steps.{◌>>=◌, required}
use Rattle.edl_lines.specs.declared.LineKind.{LineKind}
use Rattle.edl_lines.specs.declared.LineKind.TheVariants.{Blank, Note, Title, Fcm, Motion, Event, Skipped}
use Rattle.edl_lines.specs.declared.LineFault.{LineFault}
use Rattle.edl_lines.specs.declared.LineFault.TheVariants.{BadEvent, BadChannel, Key, BadMotion, BadFcm, BadTransition}
use Rattle.edl_lines.specs.Numbers.{decimal, speed_of}

-- the bytes of the k-th token, from 0
abbrev pub word : List Token → ℕ → Option (List ℕ)
word ts k = option_map (λ t. t.bytes) (slice_get ts k)

abbrev pub span_of : Token → Span
span_of t = record { start = t.start; end = token_end t }

-- What the channels of an event line say: a picture event, or one that is passed over.
abbrev pub has_picture : List ℕ → Bool
has_picture bytes = list_any (λ b. b == 86) bytes || bytes_eq bytes (codes "B")

abbrev pub is_other_channel : ℕ → Bool
is_other_channel b = b == 65 || is_ascii_digit b || b == 47

abbrev pub has_no_picture : List ℕ → Bool
has_no_picture bytes = list_all is_other_channel bytes || bytes_eq bytes (codes "NONE")

-- whether it is a picture event
abbrev pub is_picture : List ℕ → Result Bool LineFault
is_picture bytes = if has_picture bytes then Ok true else if has_no_picture bytes then Ok false else Err BadChannel

-- a letter and exactly three digits
abbrev pub is_wipe : List ℕ → Bool
is_wipe bytes = length bytes == 4 && slice_index bytes 0 == 87 && list_all is_ascii_digit (drop 1 bytes)

-- a transition by its token and the one behind it
abbrev pub transition_of : List ℕ → Option (List ℕ) → Result Transition LineFault
transition_of bytes after =
    let duration : Result ℕ LineFault = required BadTransition (option_and_then (decimal 5) after) in
    if bytes_eq bytes (codes "C") then Ok Cut
    else if bytes_eq bytes (codes "D") then duration >>= (λ d. Ok (Dissolve d))
    else if is_wipe bytes then duration >>= (λ d. Ok (Wipe (digits_value 10 (drop 1 bytes)) d))
    else if slice_index bytes 0 == 75 then Err Key
    else Err BadTransition

-- how many tokens a transition takes: a cut has no duration
abbrev pub token_count : Transition → ℕ
token_count Cut = 1
token_count (Dissolve d) = 2
token_count (Wipe code d) = 2

-- source in, source out, record in, record out
abbrev pub times_of : List Token → Result (List Span) LineFault
times_of (a ∷ b ∷ c ∷ d ∷ more) = Ok (span_of a ∷ span_of b ∷ span_of c ∷ span_of d ∷ [])
times_of _ = Err BadEvent

-- a picture event by the tokens of its times
abbrev pub timed_event : ℕ → List ℕ → Transition → List Token → Result LineKind LineFault
timed_event number reel transition ts = do
  times ← times_of ts
  Ok (Event number reel transition times)

-- a picture event by what stands behind its channels
abbrev pub picture_of : ℕ → List ℕ → List Token → Result LineKind LineFault
picture_of number reel rest = do
  bytes ← required BadEvent (word rest 0)
  transition ← transition_of bytes (word rest 1)
  timed_event number reel transition (drop (token_count transition) rest)

abbrev pub event_of : List Token → Result LineKind LineFault
event_of ts = do
  number ← required BadEvent (option_and_then (decimal 6) (word ts 0))
  reel ← required BadEvent (option_and_then name_of (word ts 1))
  channels ← required BadEvent (word ts 2)
  picture ← is_picture channels
  if picture then picture_of number reel (drop 3 ts) else Ok (Skipped number reel)

abbrev pub motion_of : List Token → Result LineKind LineFault
motion_of ts = do
  reel ← required BadMotion (option_and_then name_of (word ts 1))
  speed ← required BadMotion (option_and_then speed_of (word ts 2))
  trigger ← required BadMotion (slice_get ts 3)
  Ok (Motion reel speed (span_of trigger))

-- the words begin with these
abbrev pub begin_with : List (List ℕ) → List (List ℕ) → Bool
begin_with words [] = true
begin_with [] (first ∷ more) = false
begin_with (word ∷ words) (first ∷ more) = bytes_eq word first && begin_with words more

-- the words behind `FCM:`
abbrev pub fcm_of : List (List ℕ) → Result LineKind LineFault
fcm_of words =
    if begin_with words (codes "DROP" ∷ codes "FRAME" ∷ []) then Ok (Fcm Drop)
    else if begin_with words (codes "NON-DROP" ∷ codes "FRAME" ∷ []) then Ok (Fcm NonDrop)
    else if begin_with words (codes "NON" ∷ codes "DROP" ∷ codes "FRAME" ∷ []) then Ok (Fcm NonDrop)
    else Err BadFcm

-- the line from a place on, without blanks at both ends; where it is all blanks, no bytes at that place
abbrev pub trimmed_from : List ℕ → ℕ → Span
trimmed_from line from =
    if list_all is_blank (drop from line) then record { start = from; end = from }
    else record { start = from + prefix_len is_blank (drop from line); end = length line - suffix_len is_blank (drop from line) }

abbrev pub kind_of : List ℕ → List Token → Result LineKind LineFault
kind_of line [] = Ok Blank
kind_of line (first ∷ more) =
    if is_ascii_digit (slice_index first.bytes 0) then event_of (first ∷ more)
    else if starts_with nat_eq first.bytes (codes "TITLE:") then Ok (Title (trimmed_from line (first.start + 6)))
    else if starts_with nat_eq first.bytes (codes "FCM:") then fcm_of (map (λ t. t.bytes) (tokens (drop (first.start + 4) line)))
    else if bytes_eq first.bytes (codes "M2") then motion_of (first ∷ more)
    else Ok Note

abbrev pub reading : List ℕ → Result LineKind LineFault
reading line = kind_of line (tokens line)
