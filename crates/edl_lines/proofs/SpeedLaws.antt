-- The speed of a motion line that is read is in range.
use Rattle.std.proofs.Common.{◌≡◌, ℕ, zero, suc, ℤ, pos, ◌+◌, ◌*◌, ◌^◌, ◌<◌, ◌≤◌, Bool, true, false, ◌&&◌, cond, List, [], ◌∷◌, length, take, drop, refl, subst, arith, lit<, lit≤, Option, Result}
use Rattle.std.specs.Prelude.{Some, None, Ok, Err, nat_abs, nat_le, neg_ℤ, option_and_then, unwrap_or, slice_get, slice_index, map, codes, nat_eq, ◌==◌}
use Rattle.std.specs.Option.{option_map}
use Rattle.std.specs.List.{list_all, position_or_len, starts_with}
use Rattle.std.specs.Str.{bytes_eq}
use Rattle.std.specs.Char.{is_ascii_digit}
use Rattle.std.specs.Str.Parse.{digits_value}
use Rattle.std.proofs.lemmas.Bool.{cond_both, and_parts}
use Rattle.std.proofs.lemmas.Bool.Decides.{nat_tests}
use Rattle.cf_base.specs.declared.lines.Span.{Span}
use Rattle.cf_base.specs.declared.event.Transition.{Transition}
use Rattle.cf_base.specs.declared.timing.Mode.TheVariants.{NonDrop, Drop}
use Rattle.cf_base.specs.Tokens.{Token, tokens}
use Rattle.edl_lines.specs.declared.LineKind.{LineKind}
use Rattle.edl_lines.specs.declared.LineKind.TheVariants.{Note, Title, Fcm, Motion, Event, Skipped}
use Rattle.edl_lines.specs.declared.LineFault.{LineFault}
use Rattle.edl_lines.specs.declared.LineFault.TheVariants.{BadEvent, BadMotion, BadFcm}
use Rattle.cf_base.specs.Fixed.{is_point}
use Rattle.edl_lines.specs.Numbers.{decimal, speed_of, hundredths, fraction}
use Rattle.cf_base.specs.Text.{name_of}
use Rattle.cf_base.specs.Steps.{◌>>=◌, required}
use Rattle.edl_lines.specs.Lines.{word, is_picture, transition_of, token_count, times_of, timed_event, picture_of, event_of, motion_of, begin_with, fcm_of, trimmed_from, kind_of, reading}
use Rattle.cf_base.proofs.DecimalLaws.{value_below, below_most}

le_of : (a b : ℕ) → nat_le a b ≡ true → a ≤ b
le_of a b e = grind (arith, nat_tests)

-- a number that is there is below a limit
record IsUnder (limit : ℕ) (o : Option ℕ) : Type 0 where
  pub under : unwrap_or o 0 < limit

decimal_below : (most : ℕ) (bytes : List ℕ) → 0 < 10 ^ most → IsUnder (10 ^ most) (decimal most bytes)
decimal_below most bytes some =
    cond_both _ _ _ (IsUnder (10 ^ most))
    (λ t. record {
      under = below_most bytes (digits_value 10 bytes) most (value_below bytes (and_parts (nat_le 1 (length bytes) && nat_le (length bytes) most) (list_all is_ascii_digit bytes) t).1)
          (le_of (length bytes) most (and_parts (nat_le 1 (length bytes)) (nat_le (length bytes) most) (and_parts (nat_le 1 (length bytes) && nat_le (length bytes) most) (list_all is_ascii_digit bytes) t).0).1);
    })
    (λ f. record { under = some })

fraction_below : (bytes : List ℕ) → IsUnder 100 (fraction bytes)
fraction_below bytes = cond_both _ _ _ (IsUnder 100) (λ t. tenths (decimal 1 bytes) (decimal_below 1 bytes (lit< tt))) (λ f. decimal_below 2 bytes (lit< tt))
  where
    tenths : (o : Option ℕ) → IsUnder 10 o → IsUnder 100 (option_map (λ n. n * 10) o)
    tenths None h = record { under = lit< tt }
    tenths (Some n) h = let small : n < 10 = h.under in record { under = omega (arith, small) }

hundredths_below : (bytes : List ℕ) → IsUnder 1000000 (hundredths bytes)
hundredths_below bytes =
    let point = position_or_len is_point bytes in
    cond_both _ _ _ (IsUnder 1000000) (λ t. whole (decimal 4 bytes) (decimal_below 4 bytes (lit< tt)))
    (λ f. parts (decimal 4 (take point bytes)) (fraction (drop (point + 1) bytes)) (decimal_below 4 (take point bytes) (lit< tt)) (fraction_below (drop (point + 1) bytes)))
  where
    whole : (o : Option ℕ) → IsUnder 10000 o → IsUnder 1000000 (option_map (λ n. n * 100) o)
    whole None h = record { under = lit< tt }
    whole (Some n) h = let small : n < 10000 = h.under in record { under = omega (arith, small) }

    parts : (o p : Option ℕ) → IsUnder 10000 o → IsUnder 100 p → IsUnder 1000000 (option_and_then (λ n. option_map (λ part. n * 100 + part) p) o)
    parts None p h k = record { under = lit< tt }
    parts (Some n) None h k = record { under = lit< tt }
    parts (Some n) (Some part) h k = let small : n < 10000 = h.under in let less : part < 100 = k.under in record { under = omega (arith, small, less) }

-- a speed that is there is in range
record IsInRange (o : Option ℤ) : Type 0 where
  pub range : nat_abs (unwrap_or o (pos 0)) ≤ 999999

speed_below : (bytes : List ℕ) → IsInRange (speed_of bytes)
speed_below [] = record { range = lit≤ tt }
speed_below (sign ∷ bytes) =
    cond_both (sign == 43) _ _ IsInRange (λ t. forward (hundredths bytes) (hundredths_below bytes))
    (λ f. cond_both (sign == 45) _ _ IsInRange (λ t. backward (hundredths bytes) (hundredths_below bytes)) (λ f. forward (hundredths (sign ∷ bytes)) (hundredths_below (sign ∷ bytes))))
  where
    forward : (o : Option ℕ) → IsUnder 1000000 o → IsInRange (option_map pos o)
    forward None h = record { range = lit≤ tt }
    forward (Some n) h = let small : n < 1000000 = h.under in record { range = omega (arith, small) }

    backward : (o : Option ℕ) → IsUnder 1000000 o → IsInRange (option_map (λ n. neg_ℤ (pos n)) o)
    backward None h = record { range = lit≤ tt }
    backward (Some zero) h = record { range = lit≤ tt }
    backward (Some (suc n)) h = let small : suc n < 1000000 = h.under in record { range = omega (arith, small) }

-- the speed of a motion line, and 0 for others
abbrev speed_in : Result LineKind LineFault → ℤ
speed_in (Ok (Motion reel speed trigger)) = speed
speed_in (Ok _) = pos 0
speed_in (Err fault) = pos 0

-- what is read of a line has no speed out of range
record IsSlow (r : Result LineKind LineFault) : Type 0 where
  pub slow : nat_abs (speed_in r) ≤ 999999

slow_step : {A : Type 0} (r : Result A LineFault) (f : A → Result LineKind LineFault) → ((x : A) → r ≡ Ok x → IsSlow (f x)) → IsSlow (r >>= f)
slow_step (Ok x) f h = h x refl
slow_step (Err fault) f h = record { slow = lit≤ tt }

slow_if : (b : Bool) (x y : Result LineKind LineFault) → IsSlow x → IsSlow y → IsSlow (cond b x y)
slow_if true x y h k = h
slow_if false x y h k = k

timed_slow : (number : ℕ) (reel : List ℕ) (transition : Transition) (ts : List Token) → IsSlow (timed_event number reel transition ts)
timed_slow number reel transition ts = slow_step (times_of ts) (λ times. Ok (Event number reel transition times)) (λ times e. record { slow = lit≤ tt })

picture_slow : (number : ℕ) (reel : List ℕ) (ts : List Token) → IsSlow (picture_of number reel ts)
picture_slow number reel ts =
    slow_step (required BadEvent (word ts 0)) _ (λ bytes e. slow_step (transition_of bytes (word ts 1)) (λ transition. timed_event number reel transition (drop (token_count transition) ts))
    (λ transition e. timed_slow number reel transition (drop (token_count transition) ts)))

event_slow : (ts : List Token) → IsSlow (event_of ts)
event_slow ts =
    slow_step (required BadEvent (option_and_then (decimal 6) (word ts 0))) _ (λ number e. slow_step (required BadEvent (option_and_then name_of (word ts 1))) _ (λ reel e. slow_step (required BadEvent (word ts 2)) _
    (λ channels e. slow_step (is_picture channels) _ (λ picture e. slow_if picture (picture_of number reel (drop 3 ts)) (Ok (Skipped number reel)) (picture_slow number reel (drop 3 ts)) (record { slow = lit≤ tt })))))

motion_slow : (ts : List Token) → IsSlow (motion_of ts)
motion_slow ts =
    slow_step (required BadMotion (option_and_then name_of (word ts 1))) _ (λ reel e. slow_step (required BadMotion (option_and_then speed_of (word ts 2))) _
    (λ speed e. slow_step (required BadMotion (slice_get ts 3)) _ (λ trigger f. record { slow = by_option (option_and_then speed_of (word ts 2)) (by_word (word ts 2)) speed e })))
  where
    by_word : (w : Option (List ℕ)) → IsInRange (option_and_then speed_of w)
    by_word None = record { range = lit≤ tt }
    by_word (Some bytes) = speed_below bytes

    same_ok : (x y : ℤ) → ◌≡◌ {A = Result ℤ LineFault} (Ok x) (Ok y) → x ≡ y
    same_ok x y h = cc

    never_ok : (y : ℤ) → ◌≡◌ {A = Result ℤ LineFault} (Err BadMotion) (Ok y) → ⊥
    never_ok y h = cc

    by_option : (o : Option ℤ) → IsInRange o → (s : ℤ) → required BadMotion o ≡ Ok s → nat_abs s ≤ 999999
    by_option None h s e = absurd (never_ok s e)
    by_option (Some x) h s e = subst (λ (y : ℤ). nat_abs y ≤ 999999) (same_ok x s e) h.range

fcm_slow : (words : List (List ℕ)) → IsSlow (fcm_of words)
fcm_slow words =
    slow_if (begin_with words (codes "DROP" ∷ codes "FRAME" ∷ [])) (Ok (Fcm Drop)) _ (record { slow = lit≤ tt })
    (slow_if (begin_with words (codes "NON-DROP" ∷ codes "FRAME" ∷ [])) (Ok (Fcm NonDrop)) _ (record { slow = lit≤ tt })
    (slow_if (begin_with words (codes "NON" ∷ codes "DROP" ∷ codes "FRAME" ∷ [])) (Ok (Fcm NonDrop)) (Err BadFcm) (record { slow = lit≤ tt }) (record { slow = lit≤ tt })))

kind_slow : (line : List ℕ) (ts : List Token) → IsSlow (kind_of line ts)
kind_slow line [] = record { slow = lit≤ tt }
kind_slow line (first ∷ more) =
    slow_if (is_ascii_digit (slice_index first.bytes 0)) (event_of (first ∷ more)) _ (event_slow (first ∷ more))
    (slow_if (starts_with nat_eq first.bytes (codes "TITLE:")) (Ok (Title (trimmed_from line (first.start + 6)))) _ (record { slow = lit≤ tt })
    (slow_if (starts_with nat_eq first.bytes (codes "FCM:")) (fcm_of (map (λ (t : Token). t.bytes) (tokens (drop (first.start + 4) line)))) _ (fcm_slow (map (λ (t : Token). t.bytes) (tokens (drop (first.start + 4) line))))
    (slow_if (bytes_eq first.bytes (codes "M2")) (motion_of (first ∷ more)) (Ok Note) (motion_slow (first ∷ more)) (record { slow = lit≤ tt }))))

pub slow_motion : (line reel : List ℕ) (speed : ℤ) (trigger : Span) → reading line ≡ Ok (Motion reel speed trigger) → nat_abs speed ≤ 999999
slow_motion line reel speed trigger e = subst (λ (r : Result LineKind LineFault). nat_abs (speed_in r) ≤ 999999) e (kind_slow line (tokens line)).slow
