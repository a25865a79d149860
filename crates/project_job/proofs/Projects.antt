-- From the fronts of a project's files to its job.
use Rattle.std.proofs.Common.{◌≡◌, ◌≢◌, ℕ, ◌+◌, ◌<◌, ◌≤◌, true, List, length, take, Option, Some, None, Result, Ok, Err, IfSome, IsSomeAnd, refl, sym, ap, subst, ◌∙◌, arith, inl, inr}
use Rattle.std.specs.Prelude.{nat_lt, ◌⊎◌}
use Rattle.std.proofs.lemmas.Bool.{cases_lt}
use Rattle.std.proofs.lemmas.Bool.Decides.{nat_tests}
use Rattle.std.proofs.lemmas.List.{take_all, length-take-le}
use Rattle.cf_base.specs.declared.event.EventList.{EventList}
use Rattle.cf_base.specs.declared.timing.Rate.{Rate}
use Rattle.cube_reader.specs.Text.{cube_of}
use Rattle.cube_reader.specs.Table.{Table}
use Rattle.cube_reader.specs.declared.fault.CubeFault.{CubeFault}
use Rattle.edl_events.specs.Lists.{list_of}
use Rattle.edl_events.specs.declared.ListRefusal.{ListRefusal}
use Rattle.project_file.specs.Projects.{Means, IsInRange}
use Rattle.project_file.specs.declared.Project.{Project}
use Rattle.project_file.specs.declared.fault.ProjectFault.{ProjectFault}
use Rattle.conform_job.proofs.Heads.{count_sum}
use Rattle.conform_job.specs.Answers.{count_after, IsRefusal}
use Rattle.conform_job.specs.Job.{JobData}
use Rattle.conform_job.specs.declared.parts.JobFault.{JobFault}
use Rattle.conform_job.specs.declared.parts.JobFault.TheVariants as faults
use Rattle.conform_job.specs.declared.parts.JobParts.{JobParts}
use Rattle.conform_job.specs.Digest.{digest_of}
use Rattle.cf_base.specs.declared.reel.ReelEntry.{ReelEntry}
use Rattle.cf_base.specs.Steps.{◌>>=◌}
use Rattle.record_timeline.specs.Accepted.{RecordReel, timeline_of}
use Rattle.source_reels.specs.Reels.{table_of, IsTabled}
use Rattle.tetra_look.specs.Look.{Lattice, lattice_of}
use Rattle.scan_source.specs.World.{World, file_at}
use Rattle.conform_job.specs.Refusals.{Files, first_refusal}
use Rattle.project_job.specs.Jobs.{list_in, look_in, look_of_text, cube_in, unless_refused, FilesRead, parts_from, parts_of, FileHasPlanned, HasPlanned, AreLoaded, cube_count}
use Rattle.project_job.specs.inside.Jobs.{list_and_text, look_and_text, itself, outcome_of_fault, MeansFile, Reaches}
use Rattle.project_job.specs.Load.{ByFile, IsFront, IsMissing}
use Rattle.project_job.specs.Texts.{ByFiles}
use Rattle.project_job.proofs.Reading.{any_files, as_project, as_list, as_cube, by_told, joined, joined_told}
use Rattle.project_job.specs.declared.loads.Front.{Front}
use Rattle.project_job.specs.declared.project.ListText.{ListText}
use Rattle.project_job.specs.declared.project.LookText.{LookText}
use Rattle.project_job.specs.declared.project.ProjectText.{ProjectText}
use Rattle.outcome.specs.declared.Which.TheVariants as which
use Rattle.outcome.specs.declared.Outcome.{Outcome}
use Rattle.outcome.specs.declared.Outcome.TheVariants as outcomes
use Rattle.outcome.specs.declared.Refused.{Refused}
use Rattle.outcome.specs.declared.Refused.TheVariants as refused

-- what holds by one fact, or by two, of each world holds of the one that is told
pub told_one : {A : Type 0} (told : Option A) (P Q : A → Type 0) → ((a : A) → P a → Q a) → IfSome told P → IfSome told Q
told_one None P Q f h = tt
told_one (Some a) P Q f h = f a h

pub told_two : {A : Type 0} (told : Option A) (P Q R : A → Type 0) → ((a : A) → P a → Q a → R a) → IfSome told P → IfSome told Q → IfSome told R
told_two None P Q R f h k = tt
told_two (Some a) P Q R f h k = f a h k

told_both : {A : Type 0} (told : Option A) (P Q : A → Type 0) → IfSome told P → IfSome told Q → IfSome told (λ a. P a × Q a)
told_both None P Q h k = tt
told_both (Some a) P Q h k = (h, k)

-- an error is the same in a result of another type, and no value
pub err_as : {A B E : Type 0} (e f : E) → ◌≡◌ {A = Result A E} (Err e) (Err f) → ◌≡◌ {A = Result B E} (Err e) (Err f)
err_as e f is = let same : e ≡ f = cc in ap Err same

pub no_err : {A E : Type 0} (a : A) (e : E) → ◌≢◌ {A = Result A E} (Ok a) (Err e)
no_err a e is = cc

pub memory_apart : {A : Type 0} → ◌≢◌ {A = Result A Outcome} (Err outcomes.NoMemory) (Err outcomes.SourceFault)
memory_apart is = cc

pub refused_apart : {A : Type 0} (refusal : Refused) → ◌≢◌ {A = Result A Outcome} (Err (outcomes.Refused refusal)) (Err outcomes.SourceFault)
refused_apart refusal is = cc

-- the reels of a project are few enough for a table, and have short prefixes
pub tabled : (project : Project) (entries : List ReelEntry) → entries ≡ project.reels → IsInRange project → IsTabled entries
tabled project entries is range = rw is (record { few = range.few; short = λ i reel lt. (range.reels i reel lt).prefix })

-- a front of one byte more than the most is the whole text, or both are longer than that
whole_or_long : (most : ℕ) (text into : List ℕ) → into ≡ take (most + 1) text → (into ≡ text) ⊎ ((most < length into) × (most < length text))
whole_or_long most text into is = elim (cases_lt most (length text)) [
  | inl over ↦ inr (let cut : length into ≡ most + 1 = ap length is ∙ length-take-le (most + 1) text (omega arith) in omega (arith, cut), over)
  | inr within ↦ inl (is ∙ take_all (most + 1) text (omega arith))
]

means_short : (text : List ℕ) (project : Project) → Means text (Ok project) → length text ≤ 1048576
means_short text project (inl unread) = absurd (let same : ◌≡◌ {A = Result Project ProjectFault} (Ok project) (Err _) = unread.1 in cc)
means_short text project (inr read) = read.1.0

means_long : (text into : List ℕ) (fault : ProjectFault) → 1048576 < length into → 1048576 < length text → Means into (Err fault) → Means text (Err fault)
means_long text into fault long over (inl unread) = inl (inl over, unread.1)
means_long text into fault long over (inr read) = absurd (let short : length into ≤ 1048576 = read.1.0 in omega (arith, short, long))

project_whole : (file : Option (List ℕ)) (front : Front) (project : Project) → IsFront file 1048577 front → Means front.bytes.items (Ok project) → file ≡ Some front.bytes.items
project_whole None front project is means = absurd is
project_whole (Some text) front project is means = elim (whole_or_long 1048576 text front.bytes.items is.1) [
  | inl whole ↦ ap Some (sym whole)
  | inr long ↦ absurd (let short : length front.bytes.items ≤ 1048576 = means_short front.bytes.items project means in let over : 1048576 < length front.bytes.items = long.0 in omega (arith, short, over))
]

project_faulty : (file : Option (List ℕ)) (front : Front) (fault : ProjectFault) → IsFront file 1048577 front → Means front.bytes.items (Err fault) → IsSomeAnd file (λ text. Means text (Err fault))
project_faulty None front fault is means = is
project_faulty (Some text) front fault is means = elim (whole_or_long 1048576 text front.bytes.items is.1) [
  | inl whole ↦ subst (λ t. Means t (Err fault)) whole means
  | inr long ↦ means_long text front.bytes.items fault long.0 long.1 means
]

pub project_had : (told : Option World) (path : List ℕ) (front : Front) (project : Project) → ByFile told path (λ file. IsFront file 1048577 front)
    → Means front.bytes.items (Ok project) → ByFiles told (λ files. MeansFile (files.project path) (Ok (record { text = front.bytes; project = project })))
project_had told path front project read means =
    as_project told path (λ file. MeansFile file (Ok (record { text = front.bytes; project = project }))) (read.0, read.1, (project_whole read.0 front project read.2 means, means))

pub project_refused : (told : Option World) (path : List ℕ) (front : Front) (fault : ProjectFault) → ByFile told path (λ file. IsFront file 1048577 front)
    → Means front.bytes.items (Err fault) → ByFiles told (λ files. MeansFile (files.project path) (Err (outcomes.Refused (refused.Project fault))))
project_refused told path front fault read means =
    as_project told path (λ file. MeansFile file (Err (outcomes.Refused (refused.Project fault)))) (read.0, read.1, project_faulty read.0 front fault read.2 means)

-- what a load without a file comes to
project_gone : (file : Option (List ℕ)) (outcome : Outcome) → IsMissing which.Project file outcome → MeansFile file (Err outcome)
project_gone file (outcomes.Refused (refused.NoFile absent)) is = is
project_gone file outcomes.SourceFault is = tt
project_gone file outcomes.NoMemory is = tt
project_gone file outcomes.Done is = absurd is
project_gone file outcomes.Usage is = absurd is
project_gone file (outcomes.OtherJob kept wanted) is = absurd is
project_gone file (outcomes.BadLedger len) is = absurd is
project_gone file (outcomes.OldRefused refusal) is = absurd is
project_gone file (outcomes.OldOtherJob kept wanted) is = absurd is
project_gone file (outcomes.OldBadLedger len) is = absurd is
project_gone file (outcomes.Damaged frame kept found) is = absurd is
project_gone file (outcomes.Changed reel key was now) is = absurd is
project_gone file outcomes.DiskFault is = absurd is
project_gone file (outcomes.SinkFault instead) is = absurd is
project_gone file (outcomes.Refused (refused.Project fault)) is = absurd is
project_gone file (outcomes.Refused (refused.Reels fault)) is = absurd is
project_gone file (outcomes.Refused (refused.List fault)) is = absurd is
project_gone file (outcomes.Refused (refused.Timeline fault)) is = absurd is
project_gone file (outcomes.Refused (refused.Cube fault)) is = absurd is
project_gone file (outcomes.Refused (refused.Job fault)) is = absurd is
project_gone file (outcomes.Refused (refused.Frame fault)) is = absurd is

pub project_missing : (told : Option World) (path : List ℕ) (outcome : Outcome) → ByFile told path (λ file. IsMissing which.Project file outcome)
    → ByFiles told (λ files. MeansFile (files.project path) (Err outcome))
project_missing told path outcome read = as_project told path (λ file. MeansFile file (Err outcome)) (read.0, read.1, project_gone read.0 outcome read.2)

-- a list that is read is short, and a front of it that is too long is refused as the list is
pub front_list : (rate : Rate) (text into : List ℕ) → into ≡ take 4194305 text → list_of rate into ≡ list_of rate text
front_list rate text into is = elim (whole_or_long 4194304 text into is) [
  | inl whole ↦ ap (list_of rate) whole
  | inr long ↦
      let part : nat_lt 4194304 (length into) ≡ true = let over : 4194304 < length into = long.0 in grind (arith, nat_tests) in
      let all : nat_lt 4194304 (length text) ≡ true = let over : 4194304 < length text = long.1 in grind (arith, nat_tests) in
      rw (part, all) refl
]

list_short : (rate : Rate) (text : List ℕ) (list : EventList) → list_of rate text ≡ Ok list → 4194304 < length text → ⊥
list_short rate text list is long =
    let over : nat_lt 4194304 (length text) ≡ true = grind (arith, nat_tests) in
    let same : ◌≡◌ {A = Result EventList ListRefusal} (Err _) (Ok list) = rw over at is in cc

list_whole : (rate : Rate) (file : Option (List ℕ)) (front : Front) (list : EventList) → IsFront file 4194305 front
    → list_of rate front.bytes.items ≡ Ok list → list_in rate file ≡ Ok (front.bytes.items, list)
list_whole rate None front list is read = absurd is
list_whole rate (Some text) front list is read = elim (whole_or_long 4194304 text front.bytes.items is.1) [
  | inl whole ↦ let here : list_of rate text ≡ Ok list = ap (list_of rate) (sym whole) ∙ read in rw here (ap (λ t. Ok (t, list)) (sym whole))
  | inr long ↦ absurd (list_short rate front.bytes.items list read long.0)
]

list_faulty : (rate : Rate) (file : Option (List ℕ)) (front : Front) (refusal : ListRefusal) → IsFront file 4194305 front
    → list_of rate front.bytes.items ≡ Err refusal → list_in rate file ≡ Err (refused.List refusal)
list_faulty rate None front refusal is read = absurd is
list_faulty rate (Some text) front refusal is read =
    let here : list_of rate text ≡ Err refusal = sym (front_list rate text front.bytes.items is.1) ∙ read in rw here refl

pub list_had : (told : Option World) (rate : Rate) (path : List ℕ) (front : Front) (list : EventList) → ByFile told path (λ file. IsFront file 4194305 front)
    → list_of rate front.bytes.items ≡ Ok list → ByFiles told (λ files. Reaches list_and_text (Ok (record { text = front.bytes; list = list })) (list_in rate (files.list path)))
list_had told rate path front list read is =
    as_list told path (λ file. Reaches list_and_text (Ok (record { text = front.bytes; list = list })) (list_in rate file)) (read.0, read.1, list_whole rate read.0 front list read.2 is)

pub list_refused : (told : Option World) (rate : Rate) (path : List ℕ) (front : Front) (refusal : ListRefusal) → ByFile told path (λ file. IsFront file 4194305 front)
    → list_of rate front.bytes.items ≡ Err refusal → ByFiles told (λ files. Reaches list_and_text (Err (outcomes.Refused (refused.List refusal))) (list_in rate (files.list path)))
list_refused told rate path front refusal read is =
    as_list told path (λ file. Reaches list_and_text (Err (outcomes.Refused (refused.List refusal))) (list_in rate file)) (read.0, read.1, list_faulty rate read.0 front refusal read.2 is)

-- what a load without a file comes to
list_gone : (rate : Rate) (file : Option (List ℕ)) (outcome : Outcome) → IsMissing which.List file outcome → Reaches list_and_text (Err outcome) (list_in rate file)
list_gone rate file (outcomes.Refused (refused.NoFile absent)) is = rw (is.0, is.1) refl
list_gone rate file outcomes.SourceFault is = tt
list_gone rate file outcomes.NoMemory is = tt
list_gone rate file outcomes.Done is = absurd is
list_gone rate file outcomes.Usage is = absurd is
list_gone rate file (outcomes.OtherJob kept wanted) is = absurd is
list_gone rate file (outcomes.BadLedger len) is = absurd is
list_gone rate file (outcomes.OldRefused refusal) is = absurd is
list_gone rate file (outcomes.OldOtherJob kept wanted) is = absurd is
list_gone rate file (outcomes.OldBadLedger len) is = absurd is
list_gone rate file (outcomes.Damaged frame kept found) is = absurd is
list_gone rate file (outcomes.Changed reel key was now) is = absurd is
list_gone rate file outcomes.DiskFault is = absurd is
list_gone rate file (outcomes.SinkFault instead) is = absurd is
list_gone rate file (outcomes.Refused (refused.Project fault)) is = absurd is
list_gone rate file (outcomes.Refused (refused.Reels fault)) is = absurd is
list_gone rate file (outcomes.Refused (refused.List fault)) is = absurd is
list_gone rate file (outcomes.Refused (refused.Timeline fault)) is = absurd is
list_gone rate file (outcomes.Refused (refused.Cube fault)) is = absurd is
list_gone rate file (outcomes.Refused (refused.Job fault)) is = absurd is
list_gone rate file (outcomes.Refused (refused.Frame fault)) is = absurd is

pub list_missing : (told : Option World) (rate : Rate) (path : List ℕ) (outcome : Outcome) → ByFile told path (λ file. IsMissing which.List file outcome)
    → ByFiles told (λ files. Reaches list_and_text (Err outcome) (list_in rate (files.list path)))
list_missing told rate path outcome read = as_list told path (λ file. Reaches list_and_text (Err outcome) (list_in rate file)) (read.0, read.1, list_gone rate read.0 outcome read.2)

-- the same of a cube
front_cube : (text into : List ℕ) → into ≡ take 100663297 text → cube_of into ≡ cube_of text
front_cube text into is = elim (whole_or_long 100663296 text into is) [
  | inl whole ↦ ap cube_of whole
  | inr long ↦
      let part : nat_lt 100663296 (length into) ≡ true = let over : 100663296 < length into = long.0 in grind (arith, nat_tests) in
      let all : nat_lt 100663296 (length text) ≡ true = let over : 100663296 < length text = long.1 in grind (arith, nat_tests) in
      rw (part, all) refl
]

cube_short : (text : List ℕ) (table : Table) → cube_of text ≡ Ok table → 100663296 < length text → ⊥
cube_short text table is long =
    let over : nat_lt 100663296 (length text) ≡ true = grind (arith, nat_tests) in
    let same : ◌≡◌ {A = Result Table CubeFault} (Err _) (Ok table) = rw over at is in cc

look_short : (text : List ℕ) (look : Option Lattice) → look_of_text text ≡ Ok look → 100663296 < length text → ⊥
look_short text look is long =
    let over : nat_lt 100663296 (length text) ≡ true = grind (arith, nat_tests) in
    let same : ◌≡◌ {A = Result (Option Lattice) Refused} (Err _) (Ok look) = rw over at is in cc

cube_whole : (file : Option (List ℕ)) (front : Front) (look : Option Lattice) → IsFront file 100663297 front → look_of_text front.bytes.items ≡ Ok look
    → cube_in file ≡ Ok (Some front.bytes.items, look)
cube_whole None front look is read = absurd is
cube_whole (Some text) front look is read = elim (whole_or_long 100663296 text front.bytes.items is.1) [
  | inl whole ↦ let here : look_of_text text ≡ Ok look = ap look_of_text (sym whole) ∙ read in rw here (ap (λ t. Ok (Some t, look)) (sym whole))
  | inr long ↦ absurd (look_short front.bytes.items look read long.0)
]

-- what a step that stopped comes to, whatever would follow
stopped : {A B C D : Type 0} (have : A → B) (after : C → D) (outcome : Outcome) (wanted : Result B Refused) (next : B → Result D Refused)
    → Reaches have (Err outcome) wanted → Reaches after (Err outcome) (wanted >>= next)
stopped have after (outcomes.Refused refusal) wanted next is = rw is refl
stopped have after outcomes.SourceFault wanted next is = tt
stopped have after outcomes.NoMemory wanted next is = tt
stopped have after outcomes.Done wanted next is = absurd is
stopped have after outcomes.Usage wanted next is = absurd is
stopped have after (outcomes.OtherJob kept other) wanted next is = absurd is
stopped have after (outcomes.BadLedger len) wanted next is = absurd is
stopped have after (outcomes.OldRefused refusal) wanted next is = absurd is
stopped have after (outcomes.OldOtherJob kept mine) wanted next is = absurd is
stopped have after (outcomes.OldBadLedger len) wanted next is = absurd is
stopped have after (outcomes.Damaged frame kept found) wanted next is = absurd is
stopped have after (outcomes.Changed reel key was now) wanted next is = absurd is
stopped have after outcomes.DiskFault wanted next is = absurd is
stopped have after (outcomes.SinkFault instead) wanted next is = absurd is

-- the same of a cube that isn't there, and of one whose text has a fault
cube_faulty : (file : Option (List ℕ)) (front : Front) (outcome : Outcome) → IsFront file 100663297 front
    → Reaches (itself {A = Option Lattice}) (Err outcome) (look_of_text front.bytes.items) → Reaches look_and_text (Err outcome) (cube_in file)
cube_faulty None front outcome is read = absurd is
cube_faulty (Some text) front outcome is read =
    let same : look_of_text front.bytes.items ≡ look_of_text text = ap (λ cube. unless_refused refused.Cube cube >>= (λ (table : Table). Ok (Some (lattice_of table)))) (front_cube text front.bytes.items is.1) in
    stopped itself look_and_text outcome (look_of_text text) _ (subst (Reaches itself (Err outcome)) same read)

cube_gone : (file : Option (List ℕ)) (outcome : Outcome) → IsMissing which.Cube file outcome → Reaches look_and_text (Err outcome) (cube_in file)
cube_gone file (outcomes.Refused (refused.NoFile absent)) is = rw (is.0, is.1) refl
cube_gone file outcomes.SourceFault is = tt
cube_gone file outcomes.NoMemory is = tt
cube_gone file outcomes.Done is = absurd is
cube_gone file outcomes.Usage is = absurd is
cube_gone file (outcomes.OtherJob kept wanted) is = absurd is
cube_gone file (outcomes.BadLedger len) is = absurd is
cube_gone file (outcomes.OldRefused refusal) is = absurd is
cube_gone file (outcomes.OldOtherJob kept wanted) is = absurd is
cube_gone file (outcomes.OldBadLedger len) is = absurd is
cube_gone file (outcomes.Damaged frame kept found) is = absurd is
cube_gone file (outcomes.Changed reel key was now) is = absurd is
cube_gone file outcomes.DiskFault is = absurd is
cube_gone file (outcomes.SinkFault instead) is = absurd is
cube_gone file (outcomes.Refused (refused.Project fault)) is = absurd is
cube_gone file (outcomes.Refused (refused.Reels fault)) is = absurd is
cube_gone file (outcomes.Refused (refused.List fault)) is = absurd is
cube_gone file (outcomes.Refused (refused.Timeline fault)) is = absurd is
cube_gone file (outcomes.Refused (refused.Cube fault)) is = absurd is
cube_gone file (outcomes.Refused (refused.Job fault)) is = absurd is
cube_gone file (outcomes.Refused (refused.Frame fault)) is = absurd is

pub cube_had : (told : Option World) (path : List ℕ) (front : Front) (look : Option Lattice) → ByFile told path (λ file. IsFront file 100663297 front)
    → look_of_text front.bytes.items ≡ Ok look → ByFiles told (λ files. Reaches look_and_text (Ok (record { text = Some front.bytes; look = look })) (cube_in (files.cube path)))
cube_had told path front look read is =
    as_cube told path (λ file. Reaches look_and_text (Ok (record { text = Some front.bytes; look = look })) (cube_in file)) (read.0, read.1, cube_whole read.0 front look read.2 is)

pub cube_refused : (told : Option World) (path : List ℕ) (front : Front) (outcome : Outcome) → ByFile told path (λ file. IsFront file 100663297 front)
    → Reaches (itself {A = Option Lattice}) (Err outcome) (look_of_text front.bytes.items) → ByFiles told (λ files. Reaches look_and_text (Err outcome) (cube_in (files.cube path)))
cube_refused told path front outcome read is =
    as_cube told path (λ file. Reaches look_and_text (Err outcome) (cube_in file)) (read.0, read.1, cube_faulty read.0 front outcome read.2 is)

pub cube_missing : (told : Option World) (path : List ℕ) (outcome : Outcome) → ByFile told path (λ file. IsMissing which.Cube file outcome)
    → ByFiles told (λ files. Reaches look_and_text (Err outcome) (cube_in (files.cube path)))
cube_missing told path outcome read = as_cube told path (λ file. Reaches look_and_text (Err outcome) (cube_in file)) (read.0, read.1, cube_gone read.0 outcome read.2)

-- a list and, where one is named, a cube
pub loaded_both : (named : Option (List ℕ)) (before between after : ℕ) → between ≡ count_after 1 before → after ≡ count_after (cube_count named) between → AreLoaded 0 2 before after
loaded_both None before between after list cube = (1, omega arith, omega arith, cube ∙ list)
loaded_both (Some path) before between after list cube = (2, omega arith, omega arith, cube ∙ ap (count_after 1) list)

pub loaded_list : (named : Option (List ℕ)) (before between after : ℕ) → between ≡ count_after 1 before → after ≡ count_after (cube_count named) between → after ≡ count_after (1 + cube_count named) before
loaded_list None before between after list cube = cube ∙ list
loaded_list (Some path) before between after list cube = cube ∙ ap (count_after 1) list

pub loaded_first : (before between after : ℕ) → between ≡ count_after 1 before → AreLoaded 0 2 between after → AreLoaded 1 3 before after
loaded_first before between after project (count, few, many, is) = (count + 1, omega arith, omega (arith, many), is ∙ ap (count_after count) project ∙ count_sum count 1 before)

pub loaded_all : (named : Option (List ℕ)) (before between after : ℕ) → between ≡ count_after 1 before → after ≡ count_after (1 + cube_count named) between → after ≡ count_after (2 + cube_count named) before
loaded_all None before between after project more = more ∙ ap (count_after 1) project
loaded_all (Some path) before between after project more = more ∙ ap (count_after 2) project

-- what comes after a step that went on
went_on : {B D : Type 0} (Wanted : Result D Refused → Type 0) (step : Result B Refused) (b : B) (next : B → Result D Refused) → step ≡ Ok b → Wanted (next b) → Wanted (step >>= next)
went_on Wanted step b next is rest = rw is rest

-- The steps to the parts of a job: what the first of them that stopped comes to, and all that went on.
module _ (told : Option World) (text : List ℕ) (project : Project) where
  abbrev Stops : Outcome → FilesRead → Type 0
  Stops outcome files = Reaches (itself {A = JobParts}) (Err outcome) (parts_from files text project)

  pub no_reels : (outcome : Outcome) → Reaches (itself {A = List ReelEntry}) (Err outcome) (unless_refused refused.Reels (table_of project.reels)) → ByFiles told (Stops outcome)
  no_reels outcome is = any_files told (Stops outcome) (λ files. stopped itself itself outcome (unless_refused refused.Reels (table_of project.reels)) _ is)

  module _ (reels : List ReelEntry) (table : unless_refused refused.Reels (table_of project.reels) ≡ Ok reels) where
    pub no_list : (outcome : Outcome) → ByFiles told (λ files. Reaches list_and_text (Err outcome) (list_in project.rate (files.list project.edl))) → ByFiles told (Stops outcome)
    no_list outcome read = (
      read.0,
      read.1,
      went_on (Reaches itself (Err outcome)) (unless_refused refused.Reels (table_of project.reels)) reels _ table
          (stopped list_and_text itself outcome (list_in project.rate (read.0.list project.edl)) _ read.2),
    )

    module _ (read : ListText) (list : ByFiles told (λ files. list_in project.rate (files.list project.edl) ≡ Ok (list_and_text read))) where
      pub no_timeline : (outcome : Outcome) → Reaches (itself {A = RecordReel}) (Err outcome) (unless_refused refused.Timeline (timeline_of project.rate read.list)) → ByFiles told (Stops outcome)
      no_timeline outcome is = (
        list.0,
        list.1,
        went_on (Reaches itself (Err outcome)) (unless_refused refused.Reels (table_of project.reels)) reels _ table
            (went_on (Reaches itself (Err outcome)) (list_in project.rate (list.0.list project.edl)) (list_and_text read) _ list.2
            (stopped itself itself outcome (unless_refused refused.Timeline (timeline_of project.rate read.list)) _ is)),
      )

      module _ (timeline : RecordReel) (built : unless_refused refused.Timeline (timeline_of project.rate read.list) ≡ Ok timeline) where
        pub no_look : (outcome : Outcome) → ByFiles told (λ files. Reaches look_and_text (Err outcome) (look_in files.cube project.cube)) → ByFiles told (Stops outcome)
        no_look outcome cube = (
          joined list.0 list.0 cube.0,
          joined_told told list.0 list.0 cube.0 list.1 list.1 cube.1,
          went_on (Reaches itself (Err outcome)) (unless_refused refused.Reels (table_of project.reels)) reels _ table
              (went_on (Reaches itself (Err outcome)) (list_in project.rate (list.0.list project.edl)) (list_and_text read) _ list.2
              (went_on (Reaches itself (Err outcome)) (unless_refused refused.Timeline (timeline_of project.rate read.list)) timeline _ built
              (stopped look_and_text itself outcome (look_in cube.0.cube project.cube) _ cube.2))),
        )

        pub all_parts : (look : LookText) (digest : List ℕ) → digest ≡ digest_of text read.text.items (look_and_text look).0
            → ByFiles told (λ files. look_in files.cube project.cube ≡ Ok (look_and_text look))
            → ByFiles told (λ files. parts_from files text project ≡ Ok (record { digest = digest; project = project; reels = reels; timeline = timeline; look = look.look }))
        all_parts look digest is cube =
            let Comes = λ (all : Result JobParts Refused). all ≡ Ok (record { digest = digest; project = project; reels = reels; timeline = timeline; look = look.look }) in (
              joined list.0 list.0 cube.0,
              joined_told told list.0 list.0 cube.0 list.1 list.1 cube.1,
              went_on Comes (unless_refused refused.Reels (table_of project.reels)) reels _ table
                  (went_on Comes (list_in project.rate (list.0.list project.edl)) (list_and_text read) _ list.2
                  (went_on Comes (unless_refused refused.Timeline (timeline_of project.rate read.list)) timeline _ built
                  (went_on Comes (look_in cube.0.cube project.cube) (look_and_text look) _ cube.2
                  (ap (λ (d : List ℕ). Ok (record { digest = d; project = project; reels = reels; timeline = timeline; look = look.look })) (sym is))))),
            )

-- From the steps to the job.
planned_without : (files : Files) (file : Option (List ℕ)) (outcome : Outcome) → MeansFile file (Err outcome) → FileHasPlanned files file (Err outcome)
planned_without files None (outcomes.Refused (refused.NoFile absent)) is = rw is.0 refl
planned_without files (Some text) (outcomes.Refused (refused.NoFile absent)) is = absurd (let gone : ◌≡◌ {A = Option (List ℕ)} (Some text) None = is.1 in cc)
planned_without files None (outcomes.Refused (refused.Project fault)) is = absurd is
planned_without files (Some text) (outcomes.Refused (refused.Project fault)) is = (Err fault, is, refl)
planned_without files file outcomes.SourceFault is = tt
planned_without files file outcomes.NoMemory is = tt
planned_without files file outcomes.Done is = absurd is
planned_without files file outcomes.Usage is = absurd is
planned_without files file (outcomes.OtherJob kept wanted) is = absurd is
planned_without files file (outcomes.BadLedger len) is = absurd is
planned_without files file (outcomes.OldRefused refusal) is = absurd is
planned_without files file (outcomes.OldOtherJob kept wanted) is = absurd is
planned_without files file (outcomes.OldBadLedger len) is = absurd is
planned_without files file (outcomes.Damaged frame kept found) is = absurd is
planned_without files file (outcomes.Changed reel key was now) is = absurd is
planned_without files file outcomes.DiskFault is = absurd is
planned_without files file (outcomes.SinkFault instead) is = absurd is
planned_without files file (outcomes.Refused (refused.Reels fault)) is = absurd is
planned_without files file (outcomes.Refused (refused.List fault)) is = absurd is
planned_without files file (outcomes.Refused (refused.Timeline fault)) is = absurd is
planned_without files file (outcomes.Refused (refused.Cube fault)) is = absurd is
planned_without files file (outcomes.Refused (refused.Job fault)) is = absurd is
planned_without files file (outcomes.Refused (refused.Frame fault)) is = absurd is

planned_in_part : (files : Files) (text : List ℕ) (project : Project) (outcome : Outcome) → Means text (Ok project)
    → Reaches (itself {A = JobParts}) (Err outcome) (parts_of files text project) → FileHasPlanned files (Some text) (Err outcome)
planned_in_part files text project (outcomes.Refused refusal) means is = (Ok project, means, rw is refl)
planned_in_part files text project outcomes.SourceFault means is = tt
planned_in_part files text project outcomes.NoMemory means is = tt
planned_in_part files text project outcomes.Done means is = absurd is
planned_in_part files text project outcomes.Usage means is = absurd is
planned_in_part files text project (outcomes.OtherJob kept wanted) means is = absurd is
planned_in_part files text project (outcomes.BadLedger len) means is = absurd is
planned_in_part files text project (outcomes.OldRefused refusal) means is = absurd is
planned_in_part files text project (outcomes.OldOtherJob kept wanted) means is = absurd is
planned_in_part files text project (outcomes.OldBadLedger len) means is = absurd is
planned_in_part files text project (outcomes.Damaged frame kept found) means is = absurd is
planned_in_part files text project (outcomes.Changed reel key was now) means is = absurd is
planned_in_part files text project outcomes.DiskFault means is = absurd is
planned_in_part files text project (outcomes.SinkFault instead) means is = absurd is

planned_whole : (files : Files) (text : List ℕ) (project : Project) (parts : JobParts) (fault : JobFault) → Means text (Ok project) → parts_of files text project ≡ Ok parts
    → IsRefusal fault (first_refusal parts files) → FileHasPlanned files (Some text) (Err (outcome_of_fault fault))
planned_whole files text project parts faults.SourceFault means is first = tt
planned_whole files text project parts faults.NoMemory means is first = tt
planned_whole files text project parts (faults.BadCut cut) means is first = (Ok project, means, rw (is, first) refl)
planned_whole files text project parts (faults.UnknownReel line) means is first = (Ok project, means, rw (is, first) refl)
planned_whole files text project parts (faults.MissingFrame line reel source) means is first = (Ok project, means, rw (is, first) refl)
planned_whole files text project parts (faults.BadFrame line reel source bad) means is first = (Ok project, means, rw (is, first) refl)
planned_whole files text project parts (faults.Geometry line reel source) means is first = (Ok project, means, rw (is, first) refl)

planned_job : (files : Files) (text : List ℕ) (project : Project) (parts : JobParts) (job : JobData) → Means text (Ok project) → parts_of files text project ≡ Ok parts
    → first_refusal parts files ≡ None → job.parts ≡ parts → FileHasPlanned files (Some text) (Ok job)
planned_job files text project parts job means is first same = (Ok project, means, rw (is, first, same) refl)

-- a job's refusal comes to a fault of the scan exactly where it is one
fault_is : (fault : JobFault) → outcome_of_fault fault ≡ outcomes.SourceFault → fault ≡ faults.SourceFault
fault_is faults.SourceFault is = refl
fault_is faults.NoMemory is = cc
fault_is (faults.BadCut cut) is = cc
fault_is (faults.UnknownReel line) is = cc
fault_is (faults.MissingFrame line reel source) is = cc
fault_is (faults.BadFrame line reel source bad) is = cc
fault_is (faults.Geometry line reel source) is = cc

pub scan_of_job : {A B : Type 0} (fault : JobFault) (outcome : Outcome) → outcome ≡ outcome_of_fault fault → ◌≡◌ {A = Result A Outcome} (Err outcome) (Err outcomes.SourceFault)
    → ◌≡◌ {A = Result B JobFault} (Err fault) (Err faults.SourceFault)
scan_of_job fault outcome is e = let same : outcome ≡ outcomes.SourceFault = cc in ap Err (fault_is fault (sym is ∙ same))

pub job_of_scan : {A B : Type 0} (fault : JobFault) (outcome : Outcome) → outcome ≡ outcome_of_fault fault → ◌≡◌ {A = Result B JobFault} (Err fault) (Err faults.SourceFault)
    → ◌≡◌ {A = Result A Outcome} (Err outcome) (Err outcomes.SourceFault)
job_of_scan fault outcome is e = let same : fault ≡ faults.SourceFault = cc in ap Err (is ∙ ap outcome_of_fault same)

-- Over files that are told.
module _ (told : Option World) (path : List ℕ) where
  pub no_project : (outcome : Outcome) → ByFiles told (λ files. MeansFile (files.project path) (Err outcome)) → IfSome told (λ world. HasPlanned (file_at world) path (Err outcome))
  no_project outcome read =
      told_one told _ _ (λ world is. planned_without (file_at world) (file_at world path) outcome is) (by_told told (λ files. MeansFile (files.project path) (Err outcome)) read)

  module _ (read : ProjectText) (means : ByFiles told (λ files. MeansFile (files.project path) (Ok read))) where
    has : IfSome told (λ world. MeansFile (file_at world path) (Ok read))
    has = by_told told (λ files. MeansFile (files.project path) (Ok read)) means

    pub no_parts : (outcome : Outcome) → ByFiles told (λ files. Reaches (itself {A = JobParts}) (Err outcome) (parts_from files read.text.items read.project))
        → IfSome told (λ world. HasPlanned (file_at world) path (Err outcome))
    no_parts outcome stops = told_two told _ _ _ (λ world means is.
        subst (λ file. FileHasPlanned (file_at world) file (Err outcome)) (sym means.0) (planned_in_part (file_at world) read.text.items read.project outcome means.1 is))
        has (by_told told (λ files. Reaches (itself {A = JobParts}) (Err outcome) (parts_from files read.text.items read.project)) stops)

    module _ (parts : JobParts) (comes : ByFiles told (λ files. parts_from files read.text.items read.project ≡ Ok parts)) where
      come : IfSome told (λ world. parts_of (file_at world) read.text.items read.project ≡ Ok parts)
      come = by_told told (λ files. parts_from files read.text.items read.project ≡ Ok parts) comes

      pub no_job : (fault : JobFault) → IfSome told (λ world. IsRefusal fault (first_refusal parts (file_at world)))
          → IfSome told (λ world. HasPlanned (file_at world) path (Err (outcome_of_fault fault)))
      no_job fault first = told_two told _ _ _ (λ world all first.
          subst (λ file. FileHasPlanned (file_at world) file (Err (outcome_of_fault fault))) (sym all.0.0) (planned_whole (file_at world) read.text.items read.project parts fault all.0.1 all.1 first))
          (told_both told _ _ has come) first

      pub a_job : (job : JobData) → IfSome told (λ world. first_refusal parts (file_at world) ≡ None) → job.parts ≡ parts
          → IfSome told (λ world. HasPlanned (file_at world) path (Ok job))
      a_job job first same = told_two told _ _ _ (λ world all first.
          subst (λ file. FileHasPlanned (file_at world) file (Ok job)) (sym all.0.0) (planned_job (file_at world) read.text.items read.project parts job all.0.1 all.1 first same))
          (told_both told _ _ has come) first
