-- The binding of motion lines to the event lines of a run, by computation: the speed of each event of a list.
use Rattle.std.proofs.Common.{◌≡◌, ℕ, ℤ, pos, refl, List, [], ◌∷◌, ◌++◌}
use Rattle.std.specs.Prelude.{codes, map, neg_ℤ, Option, Some, None, Result, Ok, Err}
use Rattle.std.specs.List.{flat_map}
use Rattle.cf_base.specs.declared.timing.Rate.TheVariants.{R24}
use Rattle.cf_base.specs.declared.event.EventList.{EventList}
use Rattle.cf_base.specs.declared.event.EventRec.{EventRec}
use Rattle.edl_events.specs.declared.ListKind.TheVariants as fault
use Rattle.edl_events.specs.declared.ListRefusal.{ListRefusal}
use Rattle.edl_events.specs.Lists.{list_of, refusal}

abbrev speeds_in : Result EventList ListRefusal → Result (List (Option ℤ)) ListRefusal
speeds_in (Ok list) = Ok (map (λ (e : EventRec). e.speed) list.events)
speeds_in (Err why) = Err why

-- the speeds of the list that has these lines
abbrev speeds : List (List ℕ) → Result (List (Option ℤ)) ListRefusal
speeds lines = speeds_in (list_of R24 (flat_map (λ line. line ++ 10 ∷ []) lines))

abbrev first : List ℕ
first = codes "7 A001 V C 01:00:00:00 01:00:00:04 01:00:00:00 01:00:00:04"

abbrev second : List ℕ
second = codes "7 A001 V C 01:00:00:10 01:00:00:14 01:00:00:04 01:00:00:08"

abbrev sound : List ℕ
sound = codes "7 A001 AA C 01:00:00:00 01:00:00:04 01:00:00:00 01:00:00:04"

abbrev other_reel : List ℕ
other_reel = codes "7 B002 V C 01:00:00:10 01:00:00:14 01:00:00:04 01:00:00:08"

abbrev other_number : List ℕ
other_number = codes "8 A001 V C 01:00:00:10 01:00:00:14 01:00:00:04 01:00:00:08"

abbrev slow : List ℕ
slow = codes "M2 A001 012.0 01:00:00:00"

abbrev back : List ℕ
back = codes "M2 A001 -24.5 01:00:00:10"

-- of two lines of a reel the first takes the first speed, and the second the second
two_lines : speeds (first ∷ second ∷ slow ∷ back ∷ []) ≡ Ok (Some (pos 1200) ∷ Some (neg_ℤ (pos 2450)) ∷ [])
two_lines = refl

-- a line that is passed over takes the one that is its turn's, without effect
passed_over : speeds (first ∷ sound ∷ second ∷ slow ∷ back ∷ []) ≡ Ok (Some (pos 1200) ∷ None ∷ [])
passed_over = refl

behind_it : speeds (first ∷ sound ∷ second ∷ slow ∷ slow ∷ back ∷ []) ≡ Ok (Some (pos 1200) ∷ Some (neg_ℤ (pos 2450)) ∷ [])
behind_it = refl

-- a third one has no line
stray_third : speeds (first ∷ second ∷ slow ∷ back ∷ slow ∷ []) ≡ Err (refusal 5 fault.StrayMotion)
stray_third = refl

-- a line of another reel is left out, wherever the motion line stands
by_reel : speeds (first ∷ other_reel ∷ slow ∷ []) ≡ Ok (Some (pos 1200) ∷ None ∷ [])
by_reel = refl

stray_reel : speeds (first ∷ back ∷ other_reel ∷ slow ∷ []) ≡ Err (refusal 4 fault.StrayMotion)
stray_reel = refl

-- another number begins another run
by_number : speeds (first ∷ other_number ∷ back ∷ []) ≡ Ok (None ∷ Some (neg_ℤ (pos 2450)) ∷ [])
by_number = refl

stray_number : speeds (first ∷ other_number ∷ slow ∷ back ∷ []) ≡ Err (refusal 4 fault.StrayMotion)
stray_number = refl
