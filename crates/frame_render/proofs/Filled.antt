-- Words that are written into a vector, what a file's first bytes decode to, and a header in front of a picture.
use Rattle.std.proofs.Common.{◌≡◌, ℕ, ◌-◌, ◌*◌, ◌≤◌, List, [], ◌++◌, length, length-append, length-take, length-drop, take, drop, refl, ap, subst, ◌∙◌, arith, append-nil, Option}
use Rattle.std.specs.Prelude.{Some, None, IfSome}
use borrow.Rule.Slice.PartMut.{post_of}
use Rattle.std.proofs.lemmas.List.{drop_all, take_all, drop_at}
use Rattle.cf_base.specs.declared.key.Key.{Key}
use Rattle.dpx_header.specs.Frame.{need_of}
use Rattle.dpx_header.specs.declared.info.FrameInfo.{FrameInfo}
use Rattle.dpx_pack.specs.Pixels.{pixels}
use Rattle.dpx_pack.proofs.Front.{pixels_front}
use Rattle.scan_source.specs.World.{World, file_at}
use Rattle.conform_job.specs.Job.{JobData}
use Rattle.conform_job.specs.Refusals.{file_of_key}
use Rattle.std.specs.Prelude.{IsSomeAnd, Ok}
use Rattle.source_reels.specs.Seen.{info_of_file}
use Rattle.dpx_header.specs.Writing.{header_of}
use Rattle.conform_job.specs.Asks.{shot_of_frame}
use Rattle.frame_render.specs.Frame.{words_of_key, words_of_file, AreWordsOf, IsFrontOf, IsFileOf, frame_file, frame_size, out_head, picture, pixel_count, old_words, new_words}

-- what was lent and filled
pub refilled : (len : ℕ) (new items : List ℕ) → length items ≡ len → length new ≡ len → take len (new ++ drop (length new) items) ≡ new
refilled len new items before now =
    rw (drop_all (length new) items (omega (arith, before, now)), append-nil, take_all len new (omega (arith, now))) refl

need_within : (need n : ℕ) (file : List ℕ) → need ≤ length (take n file) → need ≤ n
need_within need n file h = grind (arith, length-take)

decoded_by : (info : FrameInfo) (bytes : List ℕ) (file : Option (List ℕ)) → need_of info ≤ length bytes
    → IsSomeAnd file (λ file. (info_of_file file ≡ Ok info) × ((n : ℕ) × (bytes ≡ take n file)))
    → pixels info bytes ≡ words_of_file file
decoded_by info bytes None need h = absurd h
decoded_by info bytes (Some file) need h =
    let is : bytes ≡ take h.1.0 file = h.1.1 in
    let enough : need_of info ≤ h.1.0 = need_within (need_of info) h.1.0 file (subst (λ bs. need_of info ≤ length bs) is need) in
    rw h.0 (ap (pixels info) is ∙ pixels_front info h.1.0 file enough)

-- what was decoded of a key's file is what its words are
pub decoded_is : (job : JobData) (told : Option World) (key : Key) (info : FrameInfo) (bytes words : List ℕ)
    → need_of info ≤ length bytes → words ≡ pixels info bytes
    → IfSome told (λ world. IsFrontOf job (file_at world) key info bytes)
    → AreWordsOf job told key words
unfolding words_of_key
decoded_is job None key info bytes words need is front = tt
decoded_is job (Some world) key info bytes words need is front =
    is ∙ decoded_by info bytes (file_of_key job.parts.reels (file_at world) key) need front

-- a header in front, and a picture behind it
pub file_joined : (count : ℕ) (out head pic made : List ℕ) → take count out ≡ head → made ≡ pic
    → take count out ++ (made ++ post_of count (length out - count) out) ≡ head ++ pic
file_joined count out head pic made front made_is =
    let less : length (drop count out) ≤ length out - count = rw length-drop (omega arith) in
    let gone : drop (length out - count) (drop count out) ≡ [] = drop_all (length out - count) (drop count out) less in
    rw (gone, append-nil, front, made_is) refl

-- pixels that are those of the frame's file, behind its header
pub reheaded : (job : JobData) (told : Option World) (i : ℕ) (pixels bytes : List ℕ)
    → length bytes ≡ frame_size job → length pixels ≡ 4 * pixel_count job
    → bytes ≡ header_of (out_head job i) ++ pixels
    → IfSome told (λ world. pixels ≡ drop 2048 (frame_file job (file_at world) i))
    → IsFileOf job told i bytes
unfolding frame_file
reheaded job None i pixels bytes size count is pixels_are = tt
reheaded job (Some world) i pixels bytes size count is pixels_are =
    let head = header_of (out_head job i) in
    let shot = shot_of_frame job.parts.timeline i in
    let pic = picture job shot (old_words job (file_at world) shot) (new_words job (file_at world) shot) in
    let long : length head ≡ 2048 = omega (arith, size, count, ap length is, length-append head pixels) in
    is ∙ ap (λ bs. head ++ bs) (pixels_are ∙ drop_at head pic 2048 long)
