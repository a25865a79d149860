-- A job.
-- * job: its parts, and the picture information of each needed source frame. Of every job it holds that its parts are planned
--   and nothing of them is refused, that each needed key is of a reel in the table, and that each record frame has what it needs
--     JobData      what contracts see of it: its parts, and what the file of each needed key says
--     IsJob p infos      what holds of every job, whatever its scan told
--     need_at job i      the keys that record frame i needs, with their infos
--     IsJobOf parts told job      what a plan of these parts makes
--     HasTableKeys p, HasNeeds job      that each needed key is of a reel in the table, and that each record frame has what it needs
--     file_of job i      the file that record frame i is written to
--     IsByLines why first      which answers are told without a scan
use Rattle.std.specs.Prelude.{◌≡◌, ℕ, ◌+◌, ◌<◌, ◌≤◌, true, List, [], length, Option, Some, None, IsSome, option_and_then}
use Rattle.std.specs.Option.{option_map}
use Rattle.std.specs.List.{list_any}
use Rattle.cf_base.specs.declared.limits.TheConstants.{LARGEST}
use Rattle.scan_source.specs.World.{World}
use Rattle.cf_base.specs.declared.file.FileId.{FileId}
use Rattle.cf_base.specs.declared.file.FileId.TheVariants.{Frame as FrameFile}
use Rattle.cf_base.specs.declared.key.Key.{Key}
use Rattle.dpx_header.specs.declared.info.FrameInfo.{FrameInfo}
use Rattle.record_timeline.specs.declared.Side.{Side}
use Rattle.record_timeline.specs.declared.Side.TheVariants.{Black, Frame}
use Rattle.record_timeline.specs.declared.Shot.{Shot}
use Rattle.record_timeline.specs.declared.Shot.TheVariants.{Gap, One, Two}
use Rattle.record_timeline.specs.Accepted.{first_frame, frame_count}
use Rattle.conform_job.specs.Answers.{Grows}
use Rattle.conform_job.specs.Asks.{asks_of, shot_of_frame}
use Rattle.conform_job.specs.Cuts.{bad_cut, record_reel}
use Rattle.conform_job.specs.Keys.{key_of_ask, keys_of_asks, is_key, info_at}
use Rattle.conform_job.specs.Refusals.{unknown_of}
use Rattle.conform_job.specs.declared.need.Need.{Need}
use Rattle.conform_job.specs.declared.parts.JobParts.{JobParts}
use Rattle.conform_job.specs.declared.parts.JobFault.{JobFault}
use Rattle.conform_job.specs.declared.parts.JobFault.TheVariants as fault

pub record JobData : Type 0 where
  pub parts : JobParts
  pub infos : List (Key × FrameInfo)

-- what is asked of the parts
pub record ArePlanned (p : JobParts) : Type 0 where
  pub reels : p.reels ≡ p.project.reels
  pub rate : p.timeline.rate ≡ p.project.rate
  pub some_width : 1 ≤ p.project.width
  pub most_width : p.project.width ≤ LARGEST
  pub some_height : 1 ≤ p.project.height
  pub most_height : p.project.height ≤ LARGEST
  pub some_bands : 1 ≤ p.project.bands
  pub most_bands : p.project.bands ≤ 64
  pub cuts : length p.project.cuts ≤ 998

pub record IsJob (p : JobParts) (infos : List (Key × FrameInfo)) : Type 0 where
  pub planned : ArePlanned p
  pub cut : bad_cut p ≡ None
  pub known : unknown_of p.reels p.timeline.events ≡ None
  pub filled : Grows p None (asks_of p.timeline) [] infos

-- a plan's job: of these parts, with the infos that their frames ask for, each inspected once
abbrev pub IsJobOf : JobParts → Option World → JobData → Type 0
IsJobOf parts told job = (job.parts ≡ parts) × Grows parts told (asks_of parts.timeline) [] job.infos

-- the file of record frame i: that of its record reel with the number of the record frame
abbrev pub file_of : JobData → ℕ → FileId
file_of job i = FrameFile (record_reel job.parts i) (first_frame job.parts.timeline.events + i)

-- a record frame asks for the key
abbrev pub IsNeeded : JobParts → Key → Type 0
IsNeeded p key = list_any (is_key key) (keys_of_asks p.reels p.timeline.events (asks_of p.timeline)) ≡ true

-- each key that a record frame asks for is of a reel in the table
abbrev pub HasTableKeys : JobParts → Type 0
HasTableKeys p = (key : Key) → IsNeeded p key → key.reel < length p.reels

-- which of the answers are told by the project and the lines alone
abbrev pub IsByLines : JobFault → Option JobFault → Type 0
IsByLines fault.NoMemory first = Unit {0}
IsByLines (fault.BadCut cut) first = first ≡ Some (fault.BadCut cut)
IsByLines (fault.UnknownReel line) first = first ≡ Some (fault.UnknownReel line)
IsByLines fault.SourceFault first = first ≡ None
IsByLines (fault.MissingFrame line reel source) first = first ≡ None
IsByLines (fault.BadFrame line reel source bad) first = first ≡ None
IsByLines (fault.Geometry line reel source) first = first ≡ None

abbrev pub info_of_key : List (Key × FrameInfo) → Key → Option (Key × FrameInfo)
info_of_key infos key = option_map (λ (info : FrameInfo). (key, info)) (info_at infos key)

abbrev pub need_of_side : JobParts → List (Key × FrameInfo) → Side → Option (Key × FrameInfo)
need_of_side p infos Black = None
need_of_side p infos (Frame event source) = option_and_then (info_of_key infos)
    (key_of_ask p.reels p.timeline.events (record { event = event; source = source }))

abbrev pub need_of_shot : JobParts → List (Key × FrameInfo) → Shot → Need
need_of_shot p infos Gap = record { old = None; new = None }
need_of_shot p infos (One side) = record { old = None; new = need_of_side p infos side }
need_of_shot p infos (Two old new transition k d) = record { old = need_of_side p infos old; new = need_of_side p infos new }

abbrev pub need_at : JobData → ℕ → Need
need_at job i = need_of_shot job.parts job.infos (shot_of_frame job.parts.timeline i)

-- each side that is a source frame has what it needs
abbrev pub IsMet : Side → Option (Key × FrameInfo) → Type 0
IsMet Black need = Unit {0}
IsMet (Frame event source) need = IsSome need

abbrev pub AreMet : Shot → Need → Type 0
AreMet Gap need = Unit {0}
AreMet (One side) need = IsMet side need.new
AreMet (Two old new transition k d) need = IsMet old need.old × IsMet new need.new

-- each record frame has what its sides need
abbrev pub HasNeeds : JobData → Type 0
HasNeeds job = (i : ℕ) → i < frame_count job.parts.timeline.events → AreMet (shot_of_frame job.parts.timeline i) (need_at job i)
