-- Rows of the definitions, by computation.
use Rattle.std.proofs.Common.{◌≡◌, ◌-◌, ◌^◌, true, false, [], ◌∷◌, refl}
use Rattle.run_alone.specs.Asks.{closed_frames}
use Rattle.run_alone.specs.inside.Asks.{frame_if_closed}
use Rattle.conform_job.specs.Answers.{count_after}

some_closed : closed_frames (false ∷ true ∷ false ∷ []) 0 3 ≡ 0 ∷ 2 ∷ []
unfolding closed_frames
some_closed = refl

-- frames past the gates count as closed
all_closed : closed_frames [] 0 2 ≡ 0 ∷ 1 ∷ []
unfolding closed_frames
all_closed = refl

-- those of a range alone, which may be empty
in_range : closed_frames (false ∷ true ∷ false ∷ false ∷ []) 1 3 ≡ 2 ∷ []
unfolding closed_frames
in_range = refl

in_none : closed_frames (false ∷ true ∷ []) 1 1 ≡ []
unfolding closed_frames
in_none = refl

open_frame : frame_if_closed (false ∷ true ∷ []) 1 ≡ []
open_frame = refl

three_loads : count_after 3 5 ≡ 8
three_loads = refl

last_value : count_after 3 (2 ^ 64 - 2) ≡ 2 ^ 64 - 1
last_value = refl
