-- Worked lines, by computation.
use Rattle.std.proofs.Common.{◌≡◌, refl, [], ◌∷◌, pos, negsuc}
use Rattle.std.specs.Prelude.{codes, Ok, Err, Some}
use Rattle.cf_base.specs.declared.event.Transition.TheVariants.{Cut, Dissolve}
use Rattle.cf_base.specs.declared.timing.Mode.TheVariants.{NonDrop}
use Rattle.edl_lines.specs.declared.LineKind.TheVariants.{Blank, Note, Title, Fcm, Motion, Event, Skipped}
use Rattle.edl_lines.specs.declared.LineFault.TheVariants.{BadChannel, Key}
use Rattle.edl_lines.specs.Lines.{reading}
use Rattle.edl_lines.specs.Numbers.{speed_of}

title : reading (codes "TITLE: DESK") ≡ Ok (Title (record { start = 7; end = 11 }))
title = refl

fcm : reading (codes "FCM: NON-DROP FRAME") ≡ Ok (Fcm NonDrop)
fcm = refl

blank : reading [] ≡ Ok Blank
blank = refl

note : reading (codes "* FROM CLIP NAME: SEA") ≡ Ok Note
note = refl

passed_over : reading (codes "002  A001     AA    C        01:00:00:00 01:00:00:10 01:00:00:00 01:00:00:10") ≡ Ok (Skipped 2 (codes "A001"))
passed_over = refl

cut : reading (codes "001  A001     V     C        01:00:00:00 01:00:00:10 01:00:00:00 01:00:00:10")
    ≡ Ok (Event 1 (codes "A001") Cut (record { start = 29; end = 40 } ∷ record { start = 41; end = 52 } ∷ record { start = 53; end = 64 } ∷ record { start = 65; end = 76 } ∷ []))
cut = refl

dissolve : reading (codes "003  B002     V     D    004 02:00:00:00 02:00:00:12 01:00:00:12 01:00:01:00")
    ≡ Ok (Event 3 (codes "B002") (Dissolve 4) (record { start = 29; end = 40 } ∷ record { start = 41; end = 52 } ∷ record { start = 53; end = 64 } ∷ record { start = 65; end = 76 } ∷ []))
dissolve = refl

motion : reading (codes "M2   A001   000.0   01:00:00:00") ≡ Ok (Motion (codes "A001") (pos 0) (record { start = 20; end = 31 }))
motion = refl

forward : speed_of (codes "012.0") ≡ Some (pos 1200)
forward = refl

backward : speed_of (codes "-7.25") ≡ Some (negsuc 724)
backward = refl

key : reading (codes "001 A001 V KB") ≡ Err Key
key = refl

no_channel : reading (codes "001 A001 X C") ≡ Err BadChannel
no_channel = refl
