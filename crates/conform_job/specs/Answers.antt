-- What the steps of a plan answer.
use Rattle.std.specs.Prelude.{◌≡◌, ◌≤◌, ◌-◌, ℕ, zero, suc, ◌||◌, List, All, is_some, Option, Some, None, IsSome, IfSome, IsSomeAnd, Result, Ok, Err}
use Rattle.std.specs.List.{list_any}
use Rattle.cf_base.specs.declared.key.Key.{Key}
use Rattle.dpx_header.specs.Frame.{IsFrame}
use Rattle.dpx_header.specs.declared.info.FrameInfo.{FrameInfo}
use Rattle.scan_source.specs.Plan.{one_more}
use Rattle.scan_source.specs.World.{World, file_at}
use Rattle.source_reels.specs.Seen.{info_of_file}
use Rattle.conform_job.specs.declared.frames.Named.{Named}
use Rattle.conform_job.specs.declared.frames.Ask.{Ask}
use Rattle.conform_job.specs.Infos.{HasEachOnce}
use Rattle.conform_job.specs.Keys.{key_of_ask, keys_of_asks, info_at, is_key}
use Rattle.conform_job.specs.Refusals.{file_of_key}
use Rattle.conform_job.specs.declared.parts.JobParts.{JobParts}
use Rattle.conform_job.specs.declared.parts.JobFault.{JobFault}
use Rattle.conform_job.specs.declared.parts.JobFault.TheVariants as fault

-- a refusal is the first that the definition has; a fault of the scan and want of memory may come at any place
abbrev pub IsRefusal : JobFault → Option JobFault → Type 0
IsRefusal fault.SourceFault first = Unit {0}
IsRefusal fault.NoMemory first = Unit {0}
IsRefusal (fault.BadCut cut) first = first ≡ Some (fault.BadCut cut)
IsRefusal (fault.UnknownReel line) first = first ≡ Some (fault.UnknownReel line)
IsRefusal (fault.MissingFrame line reel source) first = first ≡ Some (fault.MissingFrame line reel source)
IsRefusal (fault.BadFrame line reel source bad) first = first ≡ Some (fault.BadFrame line reel source bad)
IsRefusal (fault.Geometry line reel source) first = first ≡ Some (fault.Geometry line reel source)

abbrev pub IsStep : {A : Type 0} → Result A JobFault → Option JobFault → Type 0
IsStep (Ok a) first = first ≡ None
IsStep (Err why) first = IsRefusal why first

-- the fault of a source frame names it, whatever the scan tells; a refusal by a cut or by an event's reel is none of a frame
abbrev pub IsOfFrame : Option Named → JobFault → Type 0
IsOfFrame named fault.SourceFault = Unit {0}
IsOfFrame named fault.NoMemory = Unit {0}
IsOfFrame named (fault.BadCut cut) = ⊥
IsOfFrame named (fault.UnknownReel line) = ⊥
IsOfFrame named (fault.MissingFrame line reel source) = named ≡ Some (record { line = line; reel = reel; source = source })
IsOfFrame named (fault.BadFrame line reel source bad) = named ≡ Some (record { line = line; reel = reel; source = source })
IsOfFrame named (fault.Geometry line reel source) = named ≡ Some (record { line = line; reel = reel; source = source })

-- what a job has for a key: of the project's size, and of the key's file where the world is told
pub record IsInfoOf (p : JobParts) (told : Option World) (key : Key) (info : FrameInfo) : Type 0 where
  pub frame : IsFrame info
  pub width : info.width ≡ p.project.width
  pub height : info.height ≡ p.project.height
  pub file : IfSome told (λ world. IsSomeAnd (file_of_key p.reels (file_at world) key) (λ bytes. info_of_file bytes ≡ Ok info))

unfoldable pub AreInfosOf : JobParts → Option World → List (Key × FrameInfo) → Type 0
AreInfosOf p told infos = (key : Key) (info : FrameInfo) → info_at infos key ≡ Some info → IsInfoOf p told key info

-- the infos have come to have the keys of these asks, which all have one
pub record Grows (p : JobParts) (told : Option World) (asks : List Ask) (before after : List (Key × FrameInfo)) : Type 0 where
  pub keys : (q : Key) → is_some (info_at after q) ≡ (is_some (info_at before q)
      || list_any (is_key q) (keys_of_asks p.reels p.timeline.events asks))
  pub each : AreInfosOf p told after
  pub once : HasEachOnce before → HasEachOnce after
  pub found : All (λ (ask : Ask). IsSome (key_of_ask p.reels p.timeline.events ask)) asks

-- a count after so many more
abbrev pub count_after : ℕ → ℕ → ℕ
count_after zero count = count
count_after (suc more) count = one_more (count_after more count)

-- one head for each info that has come, from `few` infos to `many`
abbrev pub HeadsGrow : ℕ → ℕ → ℕ → ℕ → Type 0
HeadsGrow before now few many = (few ≤ many) × (now ≡ count_after (many - few) before)
