-- The command `frame PATH`: it reads one DPX file, and puts the same pixels under the station's own header.
-- * `frame`: the case of each outcome by the file at the path, and the file that is put: new header, then the pixels' big-endian
--   words
use Rattle.std.specs.Prelude.{◌≡◌, ℕ, List, [], ◌++◌, length, Option, None, Result, Err, IsOk, IsOkAnd, IsSomeAnd}
use Rattle.std.specs.List.{flat_map}
use Rattle.cf_base.specs.declared.limits.TheConstants.{HEADER}
use Rattle.byteorder.specs.Endian.{big_bytes}
use Rattle.dpx_header.specs.declared.info.FrameInfo.{FrameInfo}
use Rattle.dpx_header.specs.declared.fault.DpxFault.{DpxFault}
use Rattle.dpx_header.specs.declared.writing.OutHead.{OutHead}
use Rattle.dpx_header.specs.Reading.{info_of}
use Rattle.dpx_header.specs.Writing.{header_of}
use Rattle.dpx_pack.specs.Pixels.{pixels}
use Rattle.scan_source.specs.Answers.{first_bytes}
use Rattle.scan_source.specs.World.{file_at}
use Rattle.outcome.specs.declared.Outcome.{Outcome}
use Rattle.outcome.specs.declared.Outcome.TheVariants.{Done, Refused as IsRefused, SourceFault, NoMemory}
use Rattle.outcome.specs.declared.Refused.TheVariants as refused
use Rattle.outcome.specs.declared.Which.TheVariants as which
use Rattle.project_job.specs.Load.{ByFile}
use Rattle.command_answers.specs.ByFile.{HasLoadedOne, IsRightBy, LooksAtNone}
use Rattle.command_answers.specs.Meaning.{HasReelFailed, IsThrough, LeavesReel, Meaning, no_calls}

-- what a file says of its pixels, or its first fault
abbrev pub info_in : List ℕ → Result FrameInfo DpxFault
info_in bytes = info_of (first_bytes HEADER bytes) (length bytes)

-- the new header: the size, reel 0, frame 0, position 0, length 1, no timecode and an empty title
abbrev pub frame_head : FrameInfo → OutHead
frame_head info = record {
  width = info.width;
  height = info.height;
  reel = 0;
  frame = 0;
  position = 0;
  length = 1;
  timecode = None;
  title = [];
}

-- the new header, then the file's pixels in big-endian words
unfoldable pub frame_form : FrameInfo → List ℕ → List ℕ
frame_form info bytes = header_of (frame_head info) ++ flat_map (big_bytes 4) (pixels info bytes)

-- the file that is put for the one at the path
abbrev pub IsFrameForm : Option (List ℕ) → List ℕ → Type 0
IsFrameForm file output = IsSomeAnd file (λ bytes. IsOkAnd (info_in bytes) (λ info. output ≡ frame_form info bytes))

-- The case in which the command comes to an outcome, by the file at the path, if there is one. A fault of the scan and want
-- of memory may come in any.
abbrev pub IsFrameCase : Option (List ℕ) → Outcome → Type 0
IsFrameCase file Done = IsSomeAnd file (λ bytes. IsOk (info_in bytes))
IsFrameCase file (IsRefused (refused.NoFile which.Frame)) = file ≡ None
IsFrameCase file (IsRefused (refused.Frame fault)) = IsSomeAnd file (λ bytes. info_in bytes ≡ Err fault)
IsFrameCase file (IsRefused other) = ⊥
IsFrameCase file SourceFault = Unit {0}
IsFrameCase file NoMemory = Unit {0}
IsFrameCase file other = ⊥

abbrev pub frame_meaning : List ℕ → Meaning
frame_meaning path = record {
  IsRight = λ reached output before after.
      ByFile before.world path (λ file. IsRightBy (IsFrameCase file) (IsFrameForm file) reached output);
  HasLoaded = HasLoadedOne;
  LooksAtHeads = LooksAtNone;
  calls = no_calls;
  UsesDisk = LeavesReel;
  HasFailedDisk = HasReelFailed;
  IsAccepted = λ world folders. IsFrameCase (file_at world path) Done;
  IsComplete = IsThrough;
}
