-- The place of an event's reel, read from the list of places.
use Rattle.std.proofs.Common.{◌≡◌, ℕ, zero, suc, ◌<◌, cond, ltb, inl, inr, List, [], ◌∷◌, map, length, get_or, slice_get, refl, arith, Option}
use Rattle.std.specs.Prelude.{Some, None, IfSome}
use Rattle.std.specs.Option.{option_and_then}
use Rattle.std.specs.List.{position_or_len}
use Rattle.std.proofs.lemmas.Bool.{cases_Bool, ltb-true}
use Rattle.cf_base.specs.declared.event.EventRec.{EventRec}
use Rattle.cf_base.specs.declared.reel.ReelEntry.{ReelEntry}
use Rattle.source_reels.specs.Reels.{reel_place, has_name}
use Rattle.conform_job.specs.Keys.{place_at}
use Rattle.conform_job.specs.inside.Lines.{places_of}

mapped_at : {X Y : Type 0} (f : X → Option Y) (xs : List X) (i : ℕ) → i < length xs → get_or (map f xs) i None ≡ option_and_then f (slice_get xs i)
mapped_at f [] i lt = absurd (omega arith)
mapped_at f (x ∷ xs) zero lt = refl
mapped_at f (x ∷ xs) (suc i) lt = mapped_at f xs i (omega arith)

pub place_read : (entries : List ReelEntry) (events : List EventRec) (places : List (Option ℕ)) (i : ℕ) → places ≡ places_of entries events → i < length events
    → get_or places i None ≡ place_at entries events i
place_read entries events places i is lt = rw is (mapped_at (λ (e : EventRec). reel_place entries e.reel) events i lt)

below : (n len : ℕ) → IfSome (cond (ltb n len) (Some n) None) (λ r. r < len)
below n len = elim (cases_Bool (ltb n len)) [ inl hit ↦ rw hit (ltb-true _ _ hit) | inr miss ↦ rw miss tt ]

place_below : (entries : List ReelEntry) (e : Option EventRec) → IfSome (option_and_then (λ (e : EventRec). reel_place entries e.reel) e) (λ r. r < length entries)
place_below entries None = tt
place_below entries (Some e) = below (position_or_len (has_name e.reel) entries) (length entries)

pub place_in_table : (entries : List ReelEntry) (events : List EventRec) (places : List (Option ℕ)) (i : ℕ) → places ≡ places_of entries events → i < length events
    → IfSome (get_or places i None) (λ r. r < length entries)
place_in_table entries events places i is lt = rw (place_read entries events places i is lt) (place_below entries (slice_get events i))
