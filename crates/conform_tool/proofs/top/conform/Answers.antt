-- A run with several workers is a crew's, and all else is not.
use Rattle.std.proofs.Common.{◌≡◌, ◌∙◌, ◌≤◌, arith, length, refl, rules, subst, sym, vec_len}
use Rattle.command_words.specs.declared.command.Command.TheVariants as commands
use Rattle.frame_range.specs.declared.range.Extent.TheVariants.{Whole}
use Rattle.reel_disk.specs.State.{folder_state}
use Rattle.command_answers.specs.States.{folders_of}
use Rattle.command_answers.specs.Complete.{IsAccepted, IsComplete}
use Rattle.conform_tool.proofs.Alone.{alone_adoption, alone_complete, alone_promise, alone_unfailed, first_answered}
use Rattle.conform_tool.proofs.Crewed.{crew_answered_complete, crew_answered_promise, crew_unfailed}
use Rattle.conform_tool.proofs.Conforming.{adopts_no_run, alone_found, crew_as, crew_unread, found_command, found_run, run_found}
use Rattle.conform_tool.proofs.top.conform.Goals as goal

pub returns-in-Some-clause-crew : goal.returns-in-Some-clause-crew
returns-in-Some-clause-crew g c path extent workers share spells many =
    crew_as g.S.Scans.state _ _ _ _ _ _ _ _ _ _ _ _ _ _ _
    (run_found _ _ c.in-Some.crew.project path c.in-Some.crew.extent extent c.in-Some.crew.size.workers c.in-Some.crew.size.share workers share c.in-Ok.ensures.command c.in-Some.ensures.0 spells) c.by_crew.ensures.crew

pub returns-in-Some-clause-answered : goal.returns-in-Some-clause-answered
returns-in-Some-clause-answered g c alone =
    let few = alone _ _ _ _ (found_run _ _ _ _ _ _ c.in-Ok.ensures.command c.in-Some.ensures.0) in
    let many = c.in-Some.ensures.1 in
    absurd (omega (arith, few, many))

pub returns-in-Some-clause-others : goal.returns-in-Some-clause-others
returns-in-Some-clause-others g c alone =
    let few = alone _ _ _ _ (found_run _ _ _ _ _ _ c.in-Ok.ensures.command c.in-Some.ensures.0) in
    let many = c.in-Some.ensures.1 in
    absurd (omega (arith, few, many))

pub returns-in-Some-clause-same : goal.returns-in-Some-clause-same
returns-in-Some-clause-same g c alone =
    let few = alone _ _ _ _ (found_run _ _ _ _ _ _ c.in-Ok.ensures.command c.in-Some.ensures.0) in
    let many = c.in-Some.ensures.1 in
    absurd (omega (arith, few, many))

pub returns-in-None-clause-crew : goal.returns-in-None-clause-crew
returns-in-None-clause-crew g c path extent workers share spells many =
    let few = alone_found _ _ c.in-Ok.ensures.command c.in-None.ensures path extent workers share spells in
    absurd (omega (arith, few, many))

-- a crew's run
pub returns-in-Some-clause-headline : goal.returns-in-Some-clause-headline
returns-in-Some-clause-headline g c world job extent runs =
    crew_answered_promise c.job_laws.ensures.job g.S.Scans.state runs.path extent runs.workers runs.share _ _ _ _ _ _ _
    (crew_as g.S.Scans.state _ _ _ _ _ _ _ _ _ _ _ _ _ _ _
    (run_found _ _ c.in-Some.crew.project runs.path c.in-Some.crew.extent extent c.in-Some.crew.size.workers c.in-Some.crew.size.share runs.workers runs.share c.in-Ok.ensures.command c.in-Some.ensures.0 runs.spells) c.by_crew.ensures.crew)
    world job runs.scans_tell runs.disk_tells runs.comes

pub returns-in-Some-clause-complete : goal.returns-in-Some-clause-complete
returns-in-Some-clause-complete g c command world spells is accepted =
    let disk = folder_state g.D.Disk.tells (g.D.Disk.state c.args.disk) in
    let folders = folders_of g.D.Disk.tells (g.D.Disk.state c.args.disk) (g.D.Disk.state c.args.old.now) in
    let command_is = found_command _ _ command _ _ _ _ c.in-Ok.ensures.command c.in-Some.ensures.0 spells in
    let complete = crew_answered_complete c.job_laws.ensures.job g.S.Scans.state c.in-Some.crew.project c.in-Some.crew.extent c.in-Some.crew.size.workers c.in-Some.crew.size.share _ _ disk _ world is
    (subst (λ k. IsAccepted k world folders) command_is accepted) _ _ _ c.by_crew.ensures.crew in
    λ scans_steady disk_steady old_steady sink_steady. subst (λ k. IsComplete k c.by_crew.result.outcome) (sym command_is) (complete scans_steady disk_steady sink_steady)

pub returns-in-Some-clause-unfailed : goal.returns-in-Some-clause-unfailed
returns-in-Some-clause-unfailed g c command spells =
    let unfailed = crew_unfailed g.S.Scans.state c.in-Some.crew.project c.in-Some.crew.extent c.in-Some.crew.size.workers c.in-Some.crew.size.share _ _ _ _ _ _ _ c.by_crew.ensures.crew
    command (found_command _ _ command _ _ _ _ c.in-Ok.ensures.command c.in-Some.ensures.0 spells) in
    λ scans_steady disk_steady old_steady sink_steady. unfailed scans_steady disk_steady sink_steady

pub returns-in-Some-clause-adopted : goal.returns-in-Some-clause-adopted
returns-in-Some-clause-adopted g c world job adopts =
    absurd (adopts_no_run adopts.path adopts.old_path _ _ _ _ (found_command _ _ _ _ _ _ _ c.in-Ok.ensures.command c.in-Some.ensures.0 adopts.spells))

pub returns-in-None-clause-old_folder : goal.returns-in-None-clause-old_folder
returns-in-None-clause-old_folder g c path extent workers share spells many =
    let few = alone_found _ _ c.in-Ok.ensures.command c.in-None.ensures path extent workers share spells in
    absurd (omega (arith, few, many))

-- all else, with the first scan
pub returns-in-None-clause-headline : goal.returns-in-None-clause-headline
returns-in-None-clause-headline g c =
    let all : vec_len c.args.scans ≡ length c.args.scans.items = search rules in
    let all_after : vec_len c.by_one.result.scans ≡ length c.by_one.result.scans.items = search rules in
    alone_promise _ g.S.Scans.state _ _ _ _ _ _ _ _
    (first_answered _ g.S.Scans.state _ _ _ _ _ _ _ _
    (subst (λ n. 1 ≤ n) all c.requires.some) (sym all_after ∙ c.by_one.ensures.handed_back ∙ all) (c.by_one.ensures.answered _ c.in-Ok.ensures.command)) c.job_laws.ensures.job

pub returns-in-None-clause-adopted : goal.returns-in-None-clause-adopted
returns-in-None-clause-adopted g c =
    let all : vec_len c.args.scans ≡ length c.args.scans.items = search rules in
    let all_after : vec_len c.by_one.result.scans ≡ length c.by_one.result.scans.items = search rules in
    alone_adoption _ g.S.Scans.state _ _ _ _ _ _ _ _
    (first_answered _ g.S.Scans.state _ _ _ _ _ _ _ _
    (subst (λ n. 1 ≤ n) all c.requires.some) (sym all_after ∙ c.by_one.ensures.handed_back ∙ all) (c.by_one.ensures.answered _ c.in-Ok.ensures.command)) c.job_laws.ensures.job

pub returns-in-None-clause-complete : goal.returns-in-None-clause-complete
returns-in-None-clause-complete g c =
    let all : vec_len c.args.scans ≡ length c.args.scans.items = search rules in
    let all_after : vec_len c.by_one.result.scans ≡ length c.by_one.result.scans.items = search rules in
    alone_complete _ g.S.Scans.state _ _ _ _ _ _ _ _
    (first_answered _ g.S.Scans.state _ _ _ _ _ _ _ _
    (subst (λ n. 1 ≤ n) all c.requires.some) (sym all_after ∙ c.by_one.ensures.handed_back ∙ all) (c.by_one.ensures.answered _ c.in-Ok.ensures.command)) c.job_laws.ensures.job

pub returns-in-None-clause-unfailed : goal.returns-in-None-clause-unfailed
returns-in-None-clause-unfailed g c =
    let all : vec_len c.args.scans ≡ length c.args.scans.items = search rules in
    let all_after : vec_len c.by_one.result.scans ≡ length c.by_one.result.scans.items = search rules in
    alone_unfailed _ g.S.Scans.state _ _ _ _ _ _ _ _
    (first_answered _ g.S.Scans.state _ _ _ _ _ _ _ _
    (subst (λ n. 1 ≤ n) all c.requires.some) (sym all_after ∙ c.by_one.ensures.handed_back ∙ all) (c.by_one.ensures.answered _ c.in-Ok.ensures.command))

-- no memory was left to read the words
pub returns-in_default-clause-headline : goal.returns-in_default-clause-headline
returns-in_default-clause-headline g c world job extent runs =
    let disk = folder_state g.D.Disk.tells (g.D.Disk.state c.args.disk) in
    crew_answered_promise c.job_laws.ensures.job g.S.Scans.state runs.path extent runs.workers runs.share c.args.scans.items c.args.scans.items disk disk _ _ _
    (crew_unread g.S.Scans.state runs.path extent runs.workers runs.share c.args.scans.items c.args.scans.items disk disk _ _ _ refl refl c.put_line-outcome.ensures.put)
    world job runs.scans_tell runs.disk_tells runs.comes

pub returns-in_default-clause-adopted : goal.returns-in_default-clause-adopted
returns-in_default-clause-adopted g c world job adopts =
    let disk = folder_state g.D.Disk.tells (g.D.Disk.state c.args.disk) in
    crew_answered_promise c.job_laws.ensures.job g.S.Scans.state adopts.path Whole 2 2 c.args.scans.items c.args.scans.items disk disk _ _ _
    (crew_unread g.S.Scans.state adopts.path Whole 2 2 c.args.scans.items c.args.scans.items disk disk _ _ _ refl refl c.put_line-outcome.ensures.put)
    world job adopts.scans_tell adopts.disk_tells adopts.comes

-- a run with several workers makes calls on the folder
pub returns-in-Some-clause-no_call : goal.returns-in-Some-clause-no_call
returns-in-Some-clause-no_call g c none =
    absurd (none (commands.Run c.in-Some.crew.project c.in-Some.crew.extent c.in-Some.crew.size.workers c.in-Some.crew.size.share) (found_run _ _ _ _ _ _ c.in-Ok.ensures.command c.in-Some.ensures.0) tt)

pub returns-in-None-clause-no_call : goal.returns-in-None-clause-no_call
returns-in-None-clause-no_call g c = (c.by_one.ensures.uncalled _ c.in-Ok.ensures.command).reel

pub returns-in-None-clause-no_old_call : goal.returns-in-None-clause-no_old_call
returns-in-None-clause-no_old_call g c = (c.by_one.ensures.uncalled _ c.in-Ok.ensures.command).old

pub returns-in-None-clause-untouched : goal.returns-in-None-clause-untouched
returns-in-None-clause-untouched g c = c.by_one.ensures.folders.reel

pub returns-in-None-clause-old_untouched : goal.returns-in-None-clause-old_untouched
returns-in-None-clause-old_untouched g c = c.by_one.ensures.folders.old

pub returns-in-None-clause-disk_same : goal.returns-in-None-clause-disk_same
returns-in-None-clause-disk_same g c = c.by_one.ensures.folders.reel_lent

pub returns-in-None-clause-old_same : goal.returns-in-None-clause-old_same
returns-in-None-clause-old_same g c = c.by_one.ensures.folders.old_lent
