-- Rows that compute.
use Rattle.std.proofs.Common.{◌≡◌, [], ◌∷◌, Some, None, refl}
use Rattle.std.specs.Prelude.{codes}
use Rattle.std.specs.FinMap.{get-from_entries}
use Rattle.std.proofs.lemmas.Cmp.{nat_list_cmp_total}
use Rattle.scan_source.specs.Answers.{first_bytes}
use Rattle.scan_source.specs.Plan.{one_more}
use Rattle.scan_source.specs.Turning.{Turning, serving, both_counts}
use Rattle.scan_source.specs.World.{file_at, world_of}

-- a short file is filled up with zeros, a long one is cut
short_head : first_bytes 4 (codes "SDP") ≡ 83 ∷ 68 ∷ 80 ∷ 0 ∷ []
unfolding first_bytes
short_head = refl

long_head : first_bytes 4 (codes "SDPX.") ≡ codes "SDPX"
unfolding first_bytes
long_head = refl

no_bytes : first_bytes 3 [] ≡ 0 ∷ 0 ∷ 0 ∷ []
unfolding first_bytes
no_bytes = refl

-- the first of two equal paths counts
first_counts : file_at (world_of ((codes "b", 1 ∷ []) ∷ (codes "a", 2 ∷ []) ∷ (codes "b", 3 ∷ []) ∷ [])) (codes "b") ≡ Some (1 ∷ [])
first_counts = get-from_entries nat_list_cmp_total ((codes "b", 1 ∷ []) ∷ (codes "a", 2 ∷ []) ∷ (codes "b", 3 ∷ []) ∷ []) (codes "b")

absent : file_at (world_of ((codes "b", 1 ∷ []) ∷ [])) (codes "bb") ≡ None
absent = get-from_entries nat_list_cmp_total ((codes "b", 1 ∷ []) ∷ []) (codes "bb")

-- a count stays at its last value
last_count : one_more 18446744073709551615 ≡ 18446744073709551615
last_count = refl

next_count : one_more 18446744073709551614 ≡ 18446744073709551615
next_count = refl

-- with a bound of 34 call 33 goes to the first scan and call 34 to the second; with one of 1 all go to the second
last_of_first : (turning : Turning) → serving (record turning { at = 34; calls = 32 }) ≡ turning.first
last_of_first turning = refl

first_of_later : (turning : Turning) → serving (record turning { at = 34; calls = 33 }) ≡ turning.later
first_of_later turning = refl

all_of_later : (turning : Turning) → serving (record turning { at = 1; calls = 0 }) ≡ turning.later
all_of_later turning = refl

-- two counts of faults are one
both : both_counts 2 3 ≡ 5
both = refl

last_of_both : both_counts 18446744073709551615 1 ≡ 18446744073709551615
last_of_both = refl
