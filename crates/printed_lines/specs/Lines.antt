-- The lines that are put for outcomes: this project's own rule.
-- * output of an outcome: the line of each outcome
--     line_of outcome      its line; Done and a fault of the sink have none
--     IsMade outcome      its line is made in memory
use Rattle.std.specs.Prelude.{ℕ, ℤ, List, [], ◌++◌, codes, decimal, Option, Some, None}
use Rattle.std.specs.Fmt.{signed_decimal}
use Rattle.hex.specs.Hex.{encode_lower}
use Rattle.printed_text.specs.Text.{ended}
use Rattle.project_file.specs.declared.fault.ProjectFault.{ProjectFault}
use Rattle.record_timeline.specs.declared.TimelineFault.{TimelineFault}
use Rattle.record_timeline.specs.declared.TimelineFault.TheVariants as timeline
use Rattle.source_reels.specs.declared.table.ReelFault.{ReelFault}
use Rattle.conform_job.specs.declared.parts.JobFault.{JobFault}
use Rattle.conform_job.specs.declared.parts.JobFault.TheVariants as job
use Rattle.outcome.specs.declared.Outcome.{Outcome}
use Rattle.outcome.specs.declared.Outcome.TheVariants.{Done, Usage, Refused as IsRefused, OtherJob, BadLedger, OldRefused, OldOtherJob, OldBadLedger, Damaged, Changed, SourceFault, DiskFault, SinkFault, NoMemory}
use Rattle.outcome.specs.declared.Refused.{Refused}
use Rattle.outcome.specs.declared.Refused.TheVariants as refused
use Rattle.outcome.specs.declared.Which.{Which}
use Rattle.outcome.specs.declared.Which.TheVariants as which
use Rattle.outcome.specs.Status.{header_number, list_number, reels_number, project_number, cube_number}

-- a refusal at a line of a text; line 0 is the text, or the file, as a whole
abbrev pub numbered_line : List ℕ → ℕ → List ℕ
numbered_line number at = ended (codes "refused " ++ number ++ codes " line " ++ decimal at)

-- two lines that share a record frame
abbrev pub timeline_line : TimelineFault → List ℕ
timeline_line (timeline.Overlap at with_) = ended (codes "refused 7.1 line " ++ decimal at ++ codes " with " ++ decimal with_)
timeline_line timeline.TooLongReel = numbered_line (codes "7.2") 0

-- a reel of the project, counted from 1
abbrev pub reels_line : ReelFault → List ℕ
reels_line fault = ended (codes "refused " ++ reels_number fault.kind ++ codes " reel " ++ decimal fault.reel)

-- a key of the project; reel 0 is the top
abbrev pub project_line : ProjectFault → List ℕ
project_line fault = ended (codes "refused " ++ project_number fault.kind ++ codes " key " ++ decimal fault.key
    ++ codes " reel " ++ decimal fault.reel)

-- a source frame, as the event at a line of the list names it, and the number of its header's fault if it has one
abbrev pub fault_text : Option (List ℕ) → List ℕ
fault_text None = []
fault_text (Some number) = codes " fault " ++ number

abbrev pub source_line : List ℕ → ℕ → List ℕ → ℤ → Option (List ℕ) → List ℕ
source_line number at reel source fault =
    ended (codes "refused " ++ number ++ codes " line " ++ decimal at ++ codes " reel " ++ reel ++ codes " frame "
    ++ signed_decimal source ++ fault_text fault)

-- a cut of the project, counted from 1
abbrev pub cut_line : ℕ → List ℕ
cut_line cut = ended (codes "refused 15.5 cut " ++ decimal cut)

-- a fault of the scan and want of memory are no refusals
abbrev pub job_line : JobFault → List ℕ
job_line (job.BadCut cut) = cut_line cut
job_line (job.UnknownReel at) = numbered_line (codes "15.1") at
job_line (job.MissingFrame at reel source) = source_line (codes "15.2") at reel source None
job_line (job.BadFrame at reel source fault) = source_line (codes "15.3") at reel source (Some (header_number fault))
job_line (job.Geometry at reel source) = source_line (codes "15.4") at reel source None
job_line job.SourceFault = []
job_line job.NoMemory = []

-- the file that isn't there
abbrev pub absent_line : Which → List ℕ
absent_line which.Frame = ended (codes "refused 0.1 frame")
absent_line which.Project = ended (codes "refused 0.1 project")
absent_line which.List = ended (codes "refused 0.1 list")
absent_line which.Cube = ended (codes "refused 0.1 cube")

abbrev pub refused_line : Refused → List ℕ
refused_line (refused.NoFile absent) = absent_line absent
refused_line (refused.Project fault) = project_line fault
refused_line (refused.Reels fault) = reels_line fault
refused_line (refused.List refusal) = numbered_line (list_number refusal.kind) refusal.line
refused_line (refused.Timeline fault) = timeline_line fault
refused_line (refused.Cube fault) = numbered_line (cube_number fault.kind) fault.line
refused_line (refused.Job fault) = job_line fault
refused_line (refused.Frame fault) = numbered_line (header_number fault) 0

-- the line of an outcome that has always the same one
abbrev pub plain_line : Outcome → List ℕ
plain_line Done = []
plain_line Usage = ended (codes "usage: conform COMMAND SUBJECT [EXTRA] [--workers N] [--share N]")
plain_line (IsRefused refusal) = []
plain_line (OtherJob kept wanted) = []
plain_line (BadLedger len) = []
plain_line (OldRefused refusal) = []
plain_line (OldOtherJob kept wanted) = []
plain_line (OldBadLedger len) = []
plain_line (Damaged frame kept found) = []
plain_line (Changed reel key was now) = []
plain_line SourceFault = ended (codes "source fault")
plain_line DiskFault = ended (codes "disk fault")
plain_line (SinkFault instead) = []
plain_line NoMemory = ended (codes "no memory")

-- two digests, in hexadecimal digits
abbrev pub other_job_line : List ℕ → List ℕ → List ℕ
other_job_line kept wanted = ended (codes "other job " ++ encode_lower kept ++ codes " " ++ encode_lower wanted)

abbrev pub bad_ledger_line : ℕ → List ℕ
bad_ledger_line len = ended (codes "bad ledger " ++ decimal len)

-- the line of an old project, or of an old reel's folder
abbrev pub old_line : List ℕ → List ℕ
old_line line = codes "old " ++ line

-- a frame, the digest that is kept of it and the one that was found
abbrev pub damaged_line : ℕ → (kept found : List ℕ) → List ℕ
damaged_line frame kept found = ended (codes "damaged frame " ++ decimal frame ++ codes " " ++ encode_lower kept
    ++ codes " " ++ encode_lower found)

abbrev pub changed_line : List ℕ → ℕ → List ℕ
changed_line reel source = ended (codes "changed reel " ++ reel ++ codes " frame " ++ decimal source)

abbrev pub line_of : Outcome → List ℕ
line_of (IsRefused refusal) = refused_line refusal
line_of (OtherJob kept wanted) = other_job_line kept wanted
line_of (BadLedger len) = bad_ledger_line len
line_of (OldRefused refusal) = old_line (refused_line refusal)
line_of (OldOtherJob kept wanted) = old_line (other_job_line kept wanted)
line_of (OldBadLedger len) = old_line (bad_ledger_line len)
line_of (Damaged frame kept found) = damaged_line frame kept found
line_of (Changed reel key was now) = changed_line reel key.source
line_of outcome = plain_line outcome

-- the line of the outcome is made in memory
abbrev pub IsMade : Outcome → Type 0
IsMade (IsRefused refusal) = Unit {0}
IsMade (OtherJob kept wanted) = Unit {0}
IsMade (BadLedger len) = Unit {0}
IsMade (OldRefused refusal) = Unit {0}
IsMade (OldOtherJob kept wanted) = Unit {0}
IsMade (OldBadLedger len) = Unit {0}
IsMade (Damaged frame kept found) = Unit {0}
IsMade (Changed reel key was now) = Unit {0}
IsMade other = ⊥
