-- The plan of a job from its pieces.
use Rattle.std.proofs.Common.{◌≡◌, ℕ, ◌+◌, true, false, eqb, List, [], ◌∷◌, ◌++◌, length, codes, refl, sym, ap, ◌∙◌, arith}
use Rattle.std.specs.Prelude.{decimal, nat_lt, ◌&&◌}
use Rattle.std.specs.List.{flat_map, range_with_len}
use Rattle.std.proofs.lemmas.Bool.Decides.{nat_tests}
use Rattle.std.proofs.lemmas.List.{append_assoc}
use Rattle.std.proofs.Common.{append-nil}
use Rattle.std.proofs.lemmas.List.Concat.{flat_map-append}
use Rattle.cf_base.proofs.RangeLaws.{range_more}
use Rattle.cf_base.specs.declared.event.EventRec.{EventRec}
use Rattle.cf_base.specs.declared.timing.Mode.{Mode}
use Rattle.cf_base.specs.declared.timing.Rate.{Rate}
use Rattle.cf_base.specs.declared.lines.Span.{Span}
use Rattle.conform_job.specs.Asks.{shot_of_frame}
use Rattle.conform_job.specs.Cuts.{record_reel, reel_span}
use Rattle.conform_job.specs.declared.parts.JobParts.{JobParts}
use Rattle.record_timeline.specs.Accepted.{RecordReel, first_frame, frame_count}
use Rattle.record_timeline.specs.declared.Shot.{Shot}
use Rattle.printed_text.specs.Text.{spaced}
use Rattle.printed_tables.specs.Plan.{begins_reel, plan_of, plan_line, frame_line, reel_line, shot_text}
use Rattle.printed_tables.specs.Table.{label_word}

-- the pieces of a transition, and of a frame's line
pub two_joined : (t kind k d old new : List ℕ)
    → t ++ kind ++ 32 ∷ [] ++ k ++ codes "/" ++ d ++ 32 ∷ [] ++ old ++ 32 ∷ [] ++ new
    ≡ t ++ spaced (kind ∷ (k ++ codes "/" ++ d) ∷ old ∷ new ∷ [])
two_joined t kind k d old new = simp append_assoc refl

pub frame_joined : (t : List ℕ) (r : RecordReel) (i number : ℕ) (rate : Rate) (mode : Mode) (events : List EventRec) (shot : Shot) → number ≡ first_frame r.events → rate ≡ r.rate → mode ≡ r.mode → events ≡ r.events
    → shot ≡ shot_of_frame r i → t ++ label_word rate mode (number + i) ++ 32 ∷ [] ++ shot_text events shot ++ 10 ∷ [] ≡ t ++ frame_line r i
unfolding frame_line
frame_joined t r i number rate mode events shot n rt m e s =
    rw (n, rt, m, e, s) (simp append_assoc refl)

-- the lines of the next frame, and that of their number
pub plan_more : (p : JobParts) (i : ℕ) → flat_map (plan_line p) (range_with_len 0 (i + 1)) ≡ flat_map (plan_line p) (range_with_len 0 i) ++ plan_line p i
plan_more p i =
    ap (flat_map (plan_line p)) (range_more i) ∙ flat_map-append (plan_line p) (range_with_len 0 i) (i ∷ [])
    ∙ ap (λ line. flat_map (plan_line p) (range_with_len 0 i) ++ line) (append-nil (plan_line p i))

pub plan_grown : (p : JobParts) (i : ℕ) (old mid new : List ℕ) → old ≡ flat_map (plan_line p) (range_with_len 0 i) → mid ≡ old ++ reel_line p i → new ≡ mid ++ frame_line p.timeline i
    → new ≡ flat_map (plan_line p) (range_with_len 0 (i + 1))
unfolding plan_line
plan_grown p i old mid new lines reel frame =
    frame ∙ ap (λ text. text ++ frame_line p.timeline i) (reel ∙ ap (λ text. text ++ reel_line p i) lines)
    ∙ append_assoc (flat_map (plan_line p) (range_with_len 0 i)) (reel_line p i) (frame_line p.timeline i)
    ∙ sym (plan_more p i)

pub plan_joined : (p : JobParts) (text : List ℕ) (count : ℕ) → count ≡ frame_count p.timeline.events → text ≡ flat_map (plan_line p) (range_with_len 0 count)
    → text ++ codes "frames " ++ decimal count ++ 10 ∷ [] ≡ plan_of p
unfolding plan_of
plan_joined p text count is lines = rw (lines, is) (simp append_assoc refl)

-- where the record is cut, a frame is the first of its reel where that reel's span begins
some_cuts : (n : ℕ) → eqb n 0 ≡ false → nat_lt 0 n ≡ true
some_cuts n cut = grind (arith, nat_tests)

pub first_of_reel : (p : JobParts) (reel i : ℕ) (span : Span) → reel ≡ record_reel p i → span ≡ reel_span p reel → eqb (length p.project.cuts) 0 ≡ false
    → eqb i span.start ≡ begins_reel p i
first_of_reel p reel i span own is cut =
    ap (λ (s : Span). eqb i s.start) (is ∙ ap (reel_span p) own)
    ∙ sym (ap (λ b. b && eqb i (reel_span p (record_reel p i)).start) (some_cuts (length p.project.cuts) cut))
