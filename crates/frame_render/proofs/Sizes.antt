-- How long a frame's file is.
use Rattle.std.proofs.Common.{◌≡◌, ℕ, zero, suc, ◌+◌, ◌*◌, ◌≤◌, List, [], ◌∷◌, length, Option, refl, ◌∙◌, ap, arith, length-append}
use Rattle.std.specs.List.{flat_map, range_with_len}
use Rattle.std.proofs.lemmas.List.FromFn.{length-map-range_with_len}
use Rattle.byteorder.specs.Endian.{big_bytes}
use Rattle.dpx_header.specs.Writing.{header_of}
use Rattle.dpx_header.proofs.Header.{length-header}
use Rattle.conform_job.specs.Asks.{shot_of_frame}
use Rattle.conform_job.specs.Job.{JobData}
use Rattle.conform_job.specs.Refusals.{Files}
use Rattle.record_timeline.specs.declared.Shot.{Shot}
use Rattle.frame_render.specs.Frame.{frame_file, frame_size, out_head, some_lines, line_words, old_words, new_words}

-- pieces of one length
length-pieces : {X : Type 0} (f : X → List ℕ) (size : ℕ) → ((x : X) → length (f x) ≡ size) → (xs : List X) → length (flat_map f xs) ≡ length xs * size
length-pieces f size each [] = omega arith
length-pieces f size each (x ∷ xs) = length-append (f x) (flat_map f xs) ∙ grind (arith, each x, length-pieces f size each xs)

length-range : (start count : ℕ) → length (range_with_len start count) ≡ count
length-range start zero = refl
length-range start (suc count) = omega (arith, length-range (start + 1) count)

length-lines : (job : JobData) (shot : Shot) (old new : Option (List ℕ)) (count : ℕ) → length (some_lines job shot old new count) ≡ count * (job.parts.project.width * 4)
unfolding some_lines
length-lines job shot old new count =
    length-pieces (λ y. flat_map (big_bytes 4) (line_words job shot old new y)) (job.parts.project.width * 4)
    (λ y. length-pieces (big_bytes 4) 4 (λ w. refl) (line_words job shot old new y) ∙ ap (λ n. n * 4) (length-map-range_with_len _ 0 job.parts.project.width))
    (range_with_len 0 count)
    ∙ ap (λ n. n * (job.parts.project.width * 4)) (length-range 0 count)

pub length-frame_file : (job : JobData) → length job.parts.project.title ≤ 199 → (sources : Files) (i : ℕ) → length (frame_file job sources i) ≡ frame_size job
unfolding frame_file
length-frame_file job fits sources i =
    let shot = shot_of_frame job.parts.timeline i in
    let lines = some_lines job shot (old_words job sources shot) (new_words job sources shot) job.parts.project.height in
    let size = length-lines job shot (old_words job sources shot) (new_words job sources shot) job.parts.project.height in
    length-append (header_of (out_head job i)) lines ∙ grind (arith, length-header (out_head job i) fits, size)
