-- The demonstration's job is accepted, for every number of events.
use Rattle.std.proofs.Common.{◌≡◌, ℕ, zero, suc, ◌+◌, ◌%◌, ◌≤◌, List, map, refl, sym, ap, ◌∙◌, arith, subst}
use Rattle.std.specs.Prelude.{Option, None, Result, Ok, find}
use Rattle.std.specs.Option.{option_map, option_or}
use Rattle.std.specs.List.{range_with_len}
use Rattle.std.proofs.lemmas.Bool.{le-ltb}
use Rattle.cf_base.specs.declared.event.EventRec.{EventRec}
use Rattle.cf_base.specs.Steps.{◌>>=◌}
use Rattle.scan_source.specs.World.{file_at}
use Rattle.source_reels.specs.Reels.{table_of}
use Rattle.conform_job.specs.Cuts.{bad_cut}
use Rattle.conform_job.specs.Refusals.{first_refusal, frames_refusal, is_unknown, told_refusal, unknown_of}
use Rattle.conform_job.specs.declared.parts.JobFault.{JobFault}
use Rattle.conform_job.specs.declared.parts.JobFault.TheVariants.{UnknownReel}
use Rattle.conform_job.specs.declared.parts.JobParts.{JobParts}
use Rattle.outcome.specs.declared.Refused.{Refused}
use Rattle.project_job.specs.Jobs.{ComesTo, FileComesTo, job_of, parts_of, unless_job}
use Rattle.demo.specs.Counts.{source_count}
use Rattle.demo.specs.Demo.{demo_world}
use Rattle.demo.specs.Files.{project_path}
use Rattle.demo.specs.Texts.{project_text}
use Rattle.demo.proofs.ProjectMeans.{entries, project, means}
use Rattle.demo.proofs.ListRows.{row, rows, list_is}
use Rattle.demo.proofs.RowsTimeline.{timeline_is}
use Rattle.demo.proofs.SourceFiles.{project_at, list_at}
use Rattle.demo.proofs.FrameAsks.{parts, place_is, frames_none}

-- the reels have a table
table_is : (n : ℕ) → n ≤ 1000000 → table_of (entries n) ≡ Ok (entries n)
table_is n few = rw (le-ltb 2073600 (86400 + n) (omega arith), le-ltb 10000000 (86400 + n) (omega arith)) refl

-- each row has its reel in the table
known_rows : (n a count : ℕ) → find (is_unknown (entries n)) (map row (range_with_len a count)) ≡ None
known_rows n a zero = refl
known_rows n a (suc count) = rw (place_is n (a % 4) (omega arith)) (known_rows n (a + 1) count)

no_cut : (events : ℕ) → bad_cut (parts events) ≡ None
unfolding bad_cut
no_cut events = refl

told_none : (events : ℕ) → told_refusal (parts events) ≡ None
told_none events =
    ap (λ (o : Option JobFault). option_or o (unknown_of (entries (source_count events)) (rows events))) (no_cut events)
    ∙ ap (option_map (λ (e : EventRec). UnknownReel e.line)) (known_rows (source_count events) 0 events)

none_refused : (events : ℕ) → events ≤ 1000 → first_refusal (parts events) (file_at (demo_world events)) ≡ None
none_refused events few =
    ap (λ (o : Option JobFault). option_or o (frames_refusal (parts events) (file_at (demo_world events)))) (told_none events) ∙ frames_none events few

parts_are : (events : ℕ) → 1 ≤ events → events ≤ 1000 → parts_of (file_at (demo_world events)) (project_text events) (project (source_count events)) ≡ Ok (parts events)
parts_are events some few = rw (table_is (source_count events) (omega arith), list_at events, list_is events some few, timeline_is events few) refl

pub job_accepted : (events : ℕ) → 1 ≤ events → events ≤ 1000 → ComesTo (file_at (demo_world events)) project_path (Ok (parts events))
job_accepted events some few =
    let files = file_at (demo_world events) in
    let job : Ok (parts events) ≡ job_of files (project_text events) (Ok (project (source_count events)))
    = sym (ap (λ (r : Result JobParts Refused). r >>= (λ p. unless_job p (first_refusal p files))) (parts_are events some few) ∙ ap (unless_job (parts events)) (none_refused events few)) in
    subst (λ (file : Option (List ℕ)). FileComesTo files file (Ok (parts events))) (sym (project_at events))
    (Ok (project (source_count events)), means events (omega arith), job)
