-- Worked timelines, by computation.
use Rattle.std.proofs.Common.{◌≡◌, pos, negsuc, refl, lit≤, lit<, List, [], ◌∷◌}
use Rattle.std.specs.Prelude.{codes, Ok, Err, Some, None}
use Rattle.cf_base.specs.declared.timing.Rate.TheVariants.{R24, R30}
use Rattle.cf_base.specs.declared.timing.Mode.TheVariants.{NonDrop, Drop}
use Rattle.cf_base.specs.declared.event.Transition.TheVariants.{Cut, Dissolve, Wipe}
use Rattle.cf_base.specs.declared.event.EventRec.{EventRec}
use Rattle.record_timeline.specs.declared.Side.TheVariants.{Black, Frame}
use Rattle.record_timeline.specs.declared.Shot.TheVariants.{Gap, One, Two}
use Rattle.record_timeline.specs.declared.TimelineFault.TheVariants.{Overlap, TooLongReel}
use Rattle.record_timeline.specs.Accepted.{timeline_of, first_overlap, first_frame, frame_count}
use Rattle.record_timeline.specs.Laws.{IsCovered, reel_end, EndsEmpty, new_side}
use Rattle.record_timeline.specs.Shots.{shot_of}
use Rattle.record_timeline.proofs.Samples.{event, desk, overlapping}

-- ---- the desk list

abbrev desk_list : List EventRec
desk_list = desk (codes "A001") (codes "B002")

begins : first_frame desk_list ≡ 86400
begins = refl

lasts : frame_count desk_list ≡ 24
lasts = refl

accepted : timeline_of R24 (record { mode = NonDrop; events = desk_list }) ≡ Ok (record { rate = R24; mode = NonDrop; events = desk_list })
accepted = refl

cut_frame : shot_of R24 desk_list 86400 ≡ One (Frame 0 (pos 86400))
cut_frame = refl

gap : shot_of R24 desk_list 86410 ≡ Gap
gap = refl

-- the old side runs past its out point, which is its in point here
dissolve_frame : shot_of R24 desk_list 86412 ≡ Two (Frame 1 (pos 86410)) (Frame 2 (pos 172800)) (Dissolve 4) 0 4
dissolve_frame = refl

last_of_dissolve : shot_of R24 desk_list 86415 ≡ Two (Frame 1 (pos 86413)) (Frame 2 (pos 172803)) (Dissolve 4) 3 4
last_of_dissolve = refl

behind : shot_of R24 desk_list 86416 ≡ One (Frame 2 (pos 172804))
behind = refl

-- ---- overlap and length

-- the line that comes later in the list is refused, though it begins earlier
overlap : first_overlap (overlapping (codes "A")) ≡ Some (Overlap 2 1)
overlap = refl

-- of two lines that the third one meets the earliest in the list is named, though the other begins first
earliest : first_overlap (event 1 (codes "A") NonDrop 0 10 20 30 Cut ∷ event 2 (codes "A") NonDrop 0 10 0 10 Cut ∷ event 3 (codes "A") NonDrop 0 40 0 40 Cut ∷ []) ≡ Some (Overlap 3 1)
earliest = refl

-- lines that touch share no frame, nor does a line of no length
touching : first_overlap (event 1 (codes "A") NonDrop 0 10 10 20 Cut ∷ event 2 (codes "A") NonDrop 0 0 15 15 Cut ∷ event 3 (codes "A") NonDrop 0 10 20 30 Cut ∷ []) ≡ None
touching = refl

longest : frame_count (event 1 (codes "A") NonDrop 0 262144 0 262144 Cut ∷ []) ≡ 262144
longest = refl

too_long : timeline_of R24 (record { mode = NonDrop; events = event 1 (codes "A") NonDrop 0 262145 0 262145 Cut ∷ [] }) ≡ Err TooLongReel
too_long = refl

-- an overlap is refused before the length
both : timeline_of R24 (record { mode = NonDrop; events = event 1 (codes "A") NonDrop 0 262145 0 262145 Cut ∷ event 2 (codes "A") NonDrop 0 1 5 6 Cut ∷ [] }) ≡ Err (Overlap 2 1)
both = refl

-- a line of no length makes no reel begin, and makes it end later
no_length_first : first_frame (event 1 (codes "A") NonDrop 0 0 5 5 Cut ∷ event 2 (codes "A") NonDrop 0 10 10 20 Cut ∷ event 3 (codes "A") NonDrop 0 0 25 25 Cut ∷ []) ≡ 10
no_length_first = refl

no_length_last : frame_count (event 1 (codes "A") NonDrop 0 0 5 5 Cut ∷ event 2 (codes "A") NonDrop 0 10 10 20 Cut ∷ event 3 (codes "A") NonDrop 0 0 25 25 Cut ∷ []) ≡ 15
no_length_last = refl

-- from 23:59:59;28 to 23:59:59;29
last_of_day : timeline_of R30 (record { mode = Drop; events = event 1 (codes "A") Drop 0 1 2589406 2589407 Cut ∷ [] })
    ≡ Ok (record { rate = R30; mode = Drop; events = event 1 (codes "A") Drop 0 1 2589406 2589407 Cut ∷ [] })
last_of_day = refl

last_first : first_frame (event 1 (codes "A") Drop 0 1 2589406 2589407 Cut ∷ []) ≡ 2589406
last_first = refl

one_frame : frame_count (event 1 (codes "A") Drop 0 1 2589406 2589407 Cut ∷ []) ≡ 1
one_frame = refl

-- ---- sides

-- a wipe from black, and back at half speed to a source frame before the day's first
abbrev moving : List EventRec
moving =
    event 1 (codes "BL") NonDrop 0 10 0 10 Cut
    ∷ record (event 2 (codes "A") NonDrop 0 10 10 20 (Wipe 1 2)) { speed = Some (negsuc 1199) }
    ∷ []

black_side : shot_of R24 moving 9 ≡ One Black
black_side = refl

from_black : shot_of R24 moving 11 ≡ Two Black (Frame 1 (negsuc 0)) (Wipe 1 2) 1 2
from_black = refl

moved : shot_of R24 moving 13 ≡ One (Frame 1 (negsuc 1))
moved = refl

-- ---- the reel's frames

first_covered : IsCovered desk_list 86400
first_covered = (0, event 4 (codes "A001") NonDrop 86400 86410 86400 86410 Cut, refl, (lit≤ tt, lit< tt))

last_covered : IsCovered desk_list 86423
last_covered = (2, event 8 (codes "B002") NonDrop 172800 172812 86412 86424 (Dissolve 4), refl, (lit≤ tt, lit< tt))

reel_ends : reel_end desk_list ≡ 86424
reel_ends = refl

-- a line of no length behind all others: the reel's last frames show a gap
abbrev pub black_end : List EventRec
black_end = event 1 (codes "A") NonDrop 0 10 10 20 Cut ∷ event 2 (codes "A") NonDrop 0 0 25 25 Cut ∷ []

end_is_empty : EndsEmpty black_end
end_is_empty = (1, event 2 (codes "A") NonDrop 0 0 25 25 Cut, refl, lit≤ tt, refl)

last_of_black : shot_of R24 black_end 24 ≡ Gap
last_of_black = refl

last_before_black : IsCovered black_end 19
last_before_black = (0, event 1 (codes "A") NonDrop 0 10 10 20 Cut, refl, (lit≤ tt, lit< tt))

-- no lines, no frames
nothing_first : first_frame [] ≡ 0
nothing_first = refl

nothing_counted : frame_count [] ≡ 0
nothing_counted = refl

-- ---- the line that a frame shows

-- the dissolve leads to its own line's side
shown_in_dissolve : new_side (shot_of R24 desk_list 86412) ≡ Some (Frame 2 (pos 172800))
shown_in_dissolve = refl

shown_in_cut : new_side (shot_of R24 desk_list 86409) ≡ Some (Frame 0 (pos 86409))
shown_in_cut = refl

shown_in_gap : new_side (shot_of R24 desk_list 86411) ≡ None
shown_in_gap = refl
