-- Sample lists.
use Rattle.std.proofs.Common.{ℕ, List, [], ◌∷◌}
use Rattle.std.specs.Prelude.{None}
use Rattle.cf_base.specs.declared.timing.Mode.{Mode}
use Rattle.cf_base.specs.declared.timing.Mode.TheVariants.{NonDrop}
use Rattle.cf_base.specs.declared.event.Transition.{Transition}
use Rattle.cf_base.specs.declared.event.Transition.TheVariants.{Cut, Dissolve}
use Rattle.cf_base.specs.declared.event.EventRec.{EventRec}

-- an event without motion
abbrev pub event : ℕ → List ℕ → Mode → ℕ → ℕ → ℕ → ℕ → Transition → EventRec
event line reel mode src_in src_out rec_in rec_out transition =
    record { line = line; number = 1; reel = reel; src_mode = mode; src_in = src_in; src_out = src_out; rec_in = rec_in; rec_out = rec_out; speed = None; transition = transition }

-- ten frames, a gap of two, and a dissolve of four frames into twelve
abbrev pub desk : List ℕ → List ℕ → List EventRec
desk sea sky =
    event 4 sea NonDrop 86400 86410 86400 86410 Cut
    ∷ event 7 sea NonDrop 86410 86410 86412 86412 Cut
    ∷ event 8 sky NonDrop 172800 172812 86412 86424 (Dissolve 4)
    ∷ []

-- the later of the two in the list begins first
abbrev pub overlapping : List ℕ → List EventRec
overlapping reel = event 1 reel NonDrop 0 10 86410 86420 Cut ∷ event 2 reel NonDrop 0 11 86400 86411 Cut ∷ []
