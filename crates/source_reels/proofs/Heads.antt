-- What the head of a file says of its pixels is what the file says.
use Rattle.std.proofs.Common.{◌≡◌, ℕ, List, length, Option, Result, IfSome, sym, ◌∙◌, ap}
use Rattle.std.specs.Prelude.{Some, None, Ok, Err, MatchOption}
use Rattle.dpx_header.specs.Reading.{info_of}
use Rattle.dpx_header.specs.declared.fault.DpxFault.{DpxFault}
use Rattle.dpx_header.specs.declared.info.FrameInfo.{FrameInfo}
use Rattle.scan_source.specs.Answers.{first_bytes}
use Rattle.scan_source.specs.Plan.{Plan, FollowsPlan}
use Rattle.source_reels.specs.declared.seen.Seen.{Seen}
use Rattle.source_reels.specs.declared.seen.Seen.TheVariants as seen
use Rattle.source_reels.specs.Seen.{IsSeen, info_of_file}
use Rattle.source_reels.specs.inside.Seen.{IsSeenIn}

-- what holds of each world holds of the one that is told
pub told_more : {A : Type 0} (told : Option A) (P Q : A → Type 0) → ((a : A) → P a → Q a) → IfSome told P → IfSome told Q
told_more None P Q f h = tt
told_more (Some a) P Q f h = f a h

same_info : (len : ℕ) (into bytes : List ℕ) (r : Result FrameInfo DpxFault) → len ≡ length bytes → into ≡ first_bytes 2048 bytes → info_of into len ≡ r → info_of_file bytes ≡ r
same_info len into bytes r l i e = sym (ap (λ n. info_of (first_bytes 2048 bytes) n) l) ∙ sym (ap (λ h. info_of h len) i) ∙ e

pub seen_in : (s : Seen) (len : ℕ) (into bytes : List ℕ) → IsSeenIn s into len → len ≡ length bytes → into ≡ first_bytes 2048 bytes → IsSeen s (Some bytes)
seen_in (seen.Info info) len into bytes e l i = same_info len into bytes (Ok info) l i e
seen_in (seen.Bad fault) len into bytes e l i = same_info len into bytes (Err fault) l i e
seen_in seen.Absent len into bytes e l i = absurd e
seen_in seen.Fault len into bytes e l i = absurd e

-- a call that fails where another does follows the same plan
pub follows_alike : (plan now : Option Plan) (F G : Type 0) → (F → G) → (G → F) → MatchOption plan (now ≡ None) (λ p. FollowsPlan p now F) → MatchOption plan (now ≡ None) (λ p. FollowsPlan p now G)
follows_alike None now F G to from h = h
follows_alike (Some p) now F G to from h = record { failed = (λ (g : G). h.failed.0 (from g), λ at. to (h.failed.1 at)); counted = h.counted }
