-- The statuses of outcomes, and the numbers of refusals: this project's own rule.
-- * status of an outcome: the status that the program ends with, and the number of each refusal
--     status_of outcome      the status that the program ends with
use Rattle.std.specs.Prelude.{ℕ, List, codes}
use Rattle.cf_timecode.specs.declared.TcFault.{TcFault}
use Rattle.cf_timecode.specs.declared.TcFault.TheVariants as label
use Rattle.edl_lines.specs.declared.LineFault.{LineFault}
use Rattle.edl_lines.specs.declared.LineFault.TheVariants as line
use Rattle.edl_events.specs.declared.ListKind.{ListKind}
use Rattle.edl_events.specs.declared.ListKind.TheVariants as list
use Rattle.dpx_header.specs.declared.fault.DpxFault.{DpxFault}
use Rattle.dpx_header.specs.declared.fault.DpxFault.TheVariants as dpx
use Rattle.cube_reader.specs.declared.fault.CubeKind.{CubeKind}
use Rattle.cube_reader.specs.declared.fault.CubeKind.TheVariants as cube
use Rattle.project_file.specs.declared.fault.ProjectKind.{ProjectKind}
use Rattle.project_file.specs.declared.fault.ProjectKind.TheVariants as project
use Rattle.source_reels.specs.declared.table.ReelKind.{ReelKind}
use Rattle.source_reels.specs.declared.table.ReelKind.TheVariants as reels
use Rattle.outcome.specs.declared.Outcome.{Outcome}
use Rattle.outcome.specs.declared.Outcome.TheVariants.{Done, Usage, Refused as IsRefused, OtherJob, BadLedger, OldRefused, OldOtherJob, OldBadLedger, Damaged, Changed, SourceFault, DiskFault, SinkFault, NoMemory}

abbrev pub status_of : Outcome → ℕ
status_of Done = 0
status_of Usage = 1
status_of (IsRefused refusal) = 2
status_of (OtherJob kept wanted) = 3
status_of (BadLedger len) = 4
status_of (OldRefused refusal) = 2
status_of (OldOtherJob kept wanted) = 3
status_of (OldBadLedger len) = 4
status_of (Damaged frame kept found) = 5
status_of (Changed reel key was now) = 6
status_of SourceFault = 7
status_of DiskFault = 8
status_of (SinkFault instead) = 9
status_of NoMemory = 10

-- the number of a header's fault
abbrev pub header_number : DpxFault → List ℕ
header_number dpx.Magic = codes "8.1"
header_number dpx.Elements = codes "8.2"
header_number dpx.Descriptor = codes "8.3"
header_number dpx.Depth = codes "8.4"
header_number dpx.Packing = codes "8.5"
header_number dpx.Encoding = codes "8.6"
header_number dpx.Orientation = codes "8.7"
header_number dpx.Sign = codes "8.8"
header_number dpx.Encrypted = codes "8.9"
header_number dpx.Offset = codes "8.10"
header_number dpx.Padding = codes "8.11"
header_number dpx.Size = codes "8.12"
header_number dpx.Short = codes "8.13"

-- of a label's fault
abbrev pub label_number : TcFault → List ℕ
label_number label.Shape = codes "2.1"
label_number label.Range = codes "2.2"
label_number label.Dropped = codes "2.3"
label_number label.DropMark = codes "2.4"

-- of a line's fault
abbrev pub line_number : LineFault → List ℕ
line_number line.BadEvent = codes "3.1"
line_number line.BadChannel = codes "3.2"
line_number line.Key = codes "3.3"
line_number line.BadMotion = codes "3.4"
line_number line.BadFcm = codes "3.5"
line_number line.BadTransition = codes "3.6"

-- of a list's refusal
abbrev pub list_number : ListKind → List ℕ
list_number (list.Line fault) = line_number fault
list_number list.TooLong = codes "3.7"
list_number (list.Label fault) = label_number fault
list_number list.Lengths = codes "4.1"
list_number list.Backwards = codes "4.2"
list_number list.NoFrom = codes "4.3"
list_number list.Duration = codes "4.4"
list_number list.UnknownWipe = codes "4.5"
list_number list.StrayMotion = codes "4.6"
list_number list.TooMany = codes "4.7"
list_number list.NoEvents = codes "4.8"

-- of a timeline's, the reels', a project's and a cube's fault
abbrev pub reels_number : ReelKind → List ℕ
reels_number reels.TwoNames = codes "13.1"
reels_number reels.Range = codes "13.2"

abbrev pub project_number : ProjectKind → List ℕ
project_number project.Text = codes "14.1"
project_number project.MissingKey = codes "14.2"
project_number project.WrongType = codes "14.3"
project_number project.OutOfRange = codes "14.4"
project_number project.UnknownKey = codes "14.5"

abbrev pub cube_number : CubeKind → List ℕ
cube_number cube.Keyword = codes "10.1"
cube_number cube.Size = codes "10.2"
cube_number cube.Number = codes "10.3"
cube_number cube.Count = codes "10.4"
cube_number cube.Domain = codes "10.5"
cube_number cube.Both = codes "10.6"
cube_number cube.NoSize = codes "10.7"
cube_number cube.TooLong = codes "10.8"
