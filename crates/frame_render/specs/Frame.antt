-- One frame of the reel, pixel by pixel: what each pixel shows, and the bytes of the frame's file.
-- The header is that of SMPTE 268M as dpx_header writes it; what a record frame shows is this
-- project's own rule.
-- * pixel of a record frame: black for a gap; the side's pixel; for a dissolve the mix of two sides' pixels; for a wipe the new
--   side's where it shows and the old side's elsewhere; then the look. A side's pixel is decoded by its file's own header
-- * frame file: the written header with the frame's record reel, its position from the first frame of that reel, the number of
--   the reel's frames, and the record frame's label as its timecode; then the words of the picture line by line; the source
--   frames that a record frame needs, and a frame rendered of them
--     words_of_key job files key      the pixel words of a key's file, by the file's own header
--     shot_colour job shot old new x y      what a shot shows at a pixel, before the look
--     file_by job i old new      the file of record frame i: its header, then its picture
--     frame_file job files i      the same over these files
-- Colours are lists of codes by channel: red, green, blue.
use Rattle.std.specs.Prelude.{◌≡◌, ℕ, ◌+◌, ◌-◌, ◌*◌, ◌<◌, List, take, [], ◌++◌, map, flat_map, slice_index, Option, Some, None, IfSome, IsSomeAnd, Result, Ok, Err, if◌then◌else◌}
use Rattle.std.specs.Option.{option_map}
use Rattle.std.specs.List.{range_with_len}
use Rattle.cf_base.specs.declared.limits.TheConstants.{HEADER}
use Rattle.byteorder.specs.Endian.{big_bytes}
use Rattle.cf_base.specs.declared.event.Transition.{Transition}
use Rattle.cf_base.specs.declared.event.Transition.TheVariants.{Cut, Dissolve, Wipe}
use Rattle.cf_base.specs.declared.file.FileId.{FileId}
use Rattle.cf_base.specs.declared.key.Key.{Key}
use Rattle.cf_base.specs.declared.lines.Span.{Span}
use Rattle.cf_base.specs.Rgb.{codes_of}
use Rattle.cf_timecode.specs.Counting.{label_after}
use Rattle.cf_timecode.specs.Spelling.{bcd_of}
use Rattle.dpx_header.specs.Writing.{header_of}
use Rattle.dpx_header.specs.declared.fault.DpxFault.{DpxFault}
use Rattle.dpx_header.specs.declared.info.FrameInfo.{FrameInfo}
use Rattle.dpx_header.specs.declared.writing.OutHead.{OutHead}
use Rattle.dpx_pack.specs.Pixels.{colour_word, pixels, word_codes}
use Rattle.trans_mix.specs.Mix.{mixed_code}
use Rattle.trans_mix.specs.Wipe.{is_incoming}
use Rattle.tetra_look.specs.Look.{look_of, channels}
use Rattle.scan_source.specs.World.{World, file_at}
use Rattle.source_reels.specs.Seen.{info_of_file}
use Rattle.record_timeline.specs.declared.Side.{Side}
use Rattle.record_timeline.specs.declared.Side.TheVariants.{Black, Frame}
use Rattle.record_timeline.specs.declared.Shot.{Shot}
use Rattle.record_timeline.specs.declared.Shot.TheVariants.{Gap, One, Two}
use Rattle.record_timeline.specs.Accepted.{first_frame, frame_count}
use Rattle.conform_job.specs.Asks.{shot_of_frame}
use Rattle.conform_job.specs.Cuts.{record_reel, reel_span}
use Rattle.conform_job.specs.Job.{JobData, need_at}
use Rattle.conform_job.specs.Keys.{key_of_ask}
use Rattle.conform_job.specs.Refusals.{Files, file_of_key}

-- the pixel words of a file, by its own header
abbrev pub words_by : List ℕ → Result FrameInfo DpxFault → List ℕ
words_by bytes (Ok info) = pixels info bytes
words_by bytes (Err fault) = []

abbrev pub words_of_file : Option (List ℕ) → List ℕ
words_of_file None = []
words_of_file (Some bytes) = words_by bytes (info_of_file bytes)

-- those of a key's file
unfoldable pub words_of_key : JobData → Files → Key → List ℕ
words_of_key job files key = words_of_file (file_of_key job.parts.reels files key)

-- a side's pixel words: none where it is black
abbrev pub side_words : JobData → Files → Side → Option (List ℕ)
side_words job files Black = None
side_words job files (Frame event source) =
    option_map (words_of_key job files)
    (key_of_ask job.parts.reels job.parts.timeline.events (record { event = event; source = source }))

-- the project's black
abbrev pub black_of : JobData → List ℕ
black_of job = codes_of job.parts.project.black

-- a side's colour at column x and line y, black where it has no words
abbrev pub side_colour : JobData → Option (List ℕ) → (x y : ℕ) → List ℕ
side_colour job None x y = black_of job
side_colour job (Some words) x y = word_codes (slice_index words (y * job.parts.project.width + x))

-- one side's colour over into another's, at frame k of d and the pixel at column x and line y
abbrev pub transition_colour : (w h : ℕ) → Transition → (k d x y : ℕ) → (old new : List ℕ) → List ℕ
transition_colour w h Cut k d x y old new = new
transition_colour w h (Dissolve _) k d x y old new =
    map (λ c. mixed_code (slice_index old c) (slice_index new c) k d) channels
transition_colour w h (Wipe code _) k d x y old new =
    if is_incoming code x y w h k d then new else old

abbrev pub two_colour : JobData → Transition → (k d : ℕ)
    → (old new : Option (List ℕ)) → (x y : ℕ) → List ℕ
two_colour job transition k d old new x y =
    transition_colour job.parts.project.width job.parts.project.height transition k d x y
    (side_colour job old x y) (side_colour job new x y)

-- what a shot shows at a pixel, from the words of its sides
abbrev pub shot_colour : JobData → Shot → (old new : Option (List ℕ)) → (x y : ℕ) → List ℕ
shot_colour job Gap old new x y = black_of job
shot_colour job (One side) old new x y = side_colour job new x y
shot_colour job (Two _ _ transition k d) old new x y = two_colour job transition k d old new x y

-- the words of a shot's sides
abbrev pub old_words : JobData → Files → Shot → Option (List ℕ)
old_words job files Gap = None
old_words job files (One side) = None
old_words job files (Two old new transition k d) = side_words job files old

abbrev pub new_words : JobData → Files → Shot → Option (List ℕ)
new_words job files Gap = None
new_words job files (One side) = side_words job files side
new_words job files (Two old new transition k d) = side_words job files new

-- a colour's word under the job's look, and those of a line whose columns have these colours
abbrev pub seen_word : JobData → List ℕ → ℕ
seen_word job colour = colour_word (look_of job.parts.look colour)

abbrev pub line_of : JobData → (ℕ → List ℕ) → List ℕ
line_of job colour = map (λ x. seen_word job (colour x)) (range_with_len 0 job.parts.project.width)

-- line y of a shot's picture
abbrev pub line_words : JobData → Shot → (old new : Option (List ℕ)) → ℕ → List ℕ
line_words job shot old new y = line_of job (λ x. shot_colour job shot old new x y)

-- the bytes of the first lines of a picture, from the top
unfoldable pub some_lines : JobData → Shot → (old new : Option (List ℕ)) → ℕ → List ℕ
some_lines job shot old new count =
    flat_map (λ y. flat_map (big_bytes 4) (line_words job shot old new y)) (range_with_len 0 count)

abbrev pub picture : JobData → Shot → (old new : Option (List ℕ)) → List ℕ
picture job shot old new = some_lines job shot old new job.parts.project.height

-- the number in the day of record frame i, and its timecode (SMPTE ST 12-1)
abbrev pub number_of : JobData → ℕ → ℕ
number_of job i = first_frame job.parts.timeline.events + i

abbrev pub timecode_of : JobData → ℕ → ℕ
timecode_of job number = bcd_of (label_after job.parts.timeline.rate job.parts.timeline.mode number)

-- the span of the record reel that frame i is of
abbrev pub own_span : JobData → ℕ → Span
own_span job i = reel_span job.parts (record_reel job.parts i)

-- the header of frame i: its place among the frames of its record reel, and how many these are
abbrev pub out_head : JobData → ℕ → OutHead
out_head job i = record {
  width = job.parts.project.width;
  height = job.parts.project.height;
  reel = record_reel job.parts i;
  frame = number_of job i;
  position = i - (own_span job i).start;
  length = (own_span job i).end - (own_span job i).start;
  timecode = Some (timecode_of job (number_of job i));
  title = job.parts.project.title;
}

-- the file of frame i, where its sides have these words: its header, and then the picture
abbrev pub file_by : JobData → ℕ → (old new : Option (List ℕ)) → List ℕ
file_by job i old new = header_of (out_head job i) ++ picture job (shot_of_frame job.parts.timeline i) old new

-- the file of frame i
unfoldable pub frame_file : JobData → Files → ℕ → List ℕ
frame_file job files i =
    let shot = shot_of_frame job.parts.timeline i in
    file_by job i (old_words job files shot) (new_words job files shot)

-- how many pixels a frame has, and how many bytes its file
abbrev pub pixel_count : JobData → ℕ
pixel_count job = job.parts.project.width * job.parts.project.height

abbrev pub frame_size : JobData → ℕ
frame_size job = HEADER + 4 * pixel_count job

-- a frame's index, its file and its bytes
pub record FrameBytes : Type 0 where
  pub index : ℕ
  pub file : FileId
  pub bytes : List ℕ

-- a decoded file: its key and its words
pub record KeyWords : Type 0 where
  pub key : Key
  pub words : List ℕ

-- the first bytes of a key's file, which has this header
abbrev pub IsFrontOf : JobData → Files → Key → FrameInfo → List ℕ → Type 0
IsFrontOf job files key info bytes =
    IsSomeAnd (file_of_key job.parts.reels files key) (λ file.
    (info_of_file file ≡ Ok info) × ((n : ℕ) × (bytes ≡ take n file)))

-- the words are those of the key's file
abbrev pub AreWordsOf : JobData → Option World → Key → List ℕ → Type 0
AreWordsOf job told key words = IfSome told (λ world. words ≡ words_of_key job (file_at world) key)

-- the bytes are those of the file of record frame i
abbrev pub IsFileOf : JobData → Option World → ℕ → List ℕ → Type 0
IsFileOf job told i bytes = IfSome told (λ world. bytes ≡ frame_file job (file_at world) i)

-- a decoded file has the key of the need
abbrev pub HasKeyOf : Option (Key × FrameInfo) → Option KeyWords → Type 0
HasKeyOf need decoded =
    option_map (λ (n : Key × FrameInfo). n.0) need ≡ option_map (λ (d : KeyWords). d.key) decoded

abbrev pub words_kept : Option KeyWords → Option (List ℕ)
words_kept decoded = option_map (λ (d : KeyWords). d.words) decoded

-- record frame i is one of the job's, and these are the source frames that it needs
pub record AreSidesOf (job : JobData) (i : ℕ) (old new : Option KeyWords) : Type 0 where
  pub index : i < frame_count job.parts.timeline.events
  pub old_key : HasKeyOf (need_at job i).old old
  pub new_key : HasKeyOf (need_at job i).new new

-- it is record frame i, of these source frames
pub record IsRenderedOf (job : JobData) (i : ℕ) (old new : Option KeyWords) (frame : FrameBytes) : Type 0 where
  pub index : frame.index ≡ i
  pub bytes : frame.bytes ≡ file_by job i (words_kept old) (words_kept new)
