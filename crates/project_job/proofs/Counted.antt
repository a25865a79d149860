-- The reels of a project are counted in modes that its rate has.
use Rattle.std.proofs.Common.{◌≡◌, ℕ, ◌+◌, Bool, true, false, cond, List, [], ◌∷◌, Option, Some, None, Result, Ok, Err, codes, refl, sym, ap, subst, inl, inr}
use Rattle.std.proofs.lemmas.List.Elements.{All-cons, All-nil}
use Rattle.cf_base.specs.Timing.{CanCount, can_count, frames_in_day}
use Rattle.cf_base.specs.declared.reel.ReelEntry.{ReelEntry}
use Rattle.cf_base.specs.declared.timing.Mode.{Mode}
use Rattle.cf_base.specs.declared.timing.Mode.TheVariants.{NonDrop}
use Rattle.cf_base.specs.declared.timing.Rate.{Rate}
use Rattle.cf_base.proofs.StepLaws.{bind_ok}
use Rattle.cf_base.proofs.TimingLaws.{counts_of}
use Rattle.conform_job.specs.Job.{ArePlanned}
use Rattle.conform_job.specs.declared.parts.JobParts.{JobParts}
use Rattle.toml.specs.Data.{Data, Items, Members, get_member, item, no_items, table}
use Rattle.project_file.specs.Keys.{fault, flag_at, needed, optional, text_at, whole_at}
use Rattle.project_file.specs.Projects.{Means, bands_in, black_in, cube_in, cuts_in, edl_in, height_in, knows_reels, knows_top, label_number, mode_at, mode_of, place, prefix_of, project_of, rate_in, reel_at, reel_name_of, reel_of, reels_from, reels_in, title_in, width_in}
use Rattle.project_file.specs.declared.Project.{Project}
use Rattle.project_file.specs.declared.fault.ProjectFault.{ProjectFault}
use Rattle.project_file.specs.declared.fault.ProjectKind.TheVariants.{OutOfRange}
use Rattle.project_job.specs.Jobs.{AreCounted}

abbrev IsCounted : Rate → ReelEntry → Type 0
IsCounted rate e = (mode : Mode) × CanCount rate mode × (e.day ≡ frames_in_day rate mode)

no_ok : {A E G : Type 0} (e : E) (a : A) → ◌≡◌ {A = Result A E} (Err e) (Ok a) → G
no_ok e a h = absurd (cc)

same_ok : {A E : Type 0} (a b : A) → ◌≡◌ {A = Result A E} (Ok a) (Ok b) → a ≡ b
same_ok a b h = cc

mode_flagged : (rate : Rate) (reel : ℕ) (flagged : Mode) (b : Bool) (mode : Mode) → can_count rate flagged ≡ b → ◌≡◌ {A = Result Mode ProjectFault} (cond b (Ok flagged) (Err (fault OutOfRange (place reel 13)))) (Ok mode) → CanCount rate mode
mode_flagged rate reel flagged true mode is h = subst (CanCount rate) (same_ok flagged mode h) (counts_of rate flagged is)
mode_flagged rate reel flagged false mode is h = no_ok _ mode h

mode_read : (rate : Rate) (reel : ℕ) (d : Option Data) (mode : Mode) → optional NonDrop (mode_at reel rate) d ≡ Ok mode → CanCount rate mode
mode_read rate reel None mode h = subst (CanCount rate) (same_ok NonDrop mode h) tt
mode_read rate reel (Some d) mode h =
    let flag = bind_ok (flag_at (place reel 13) d) _ mode h in
    mode_flagged rate reel (mode_of flag.0) (can_count rate (mode_of flag.0)) mode refl flag.2

reel_counted : (rate : Rate) (reel : ℕ) (ms : Members) (e : ReelEntry) → reel_of rate reel ms ≡ Ok e → IsCounted rate e
reel_counted rate reel ms e h =
    let name = bind_ok (needed (place reel 10) (text_at (place reel 10) reel_name_of) (get_member (codes "name") ms)) _ e h in
    let prefix = bind_ok (needed (place reel 11) (text_at (place reel 11) prefix_of) (get_member (codes "prefix") ms)) _ e name.2 in
    let mode = bind_ok (optional NonDrop (mode_at reel rate) (get_member (codes "drop") ms)) _ e prefix.2 in
    let start = bind_ok (needed (place reel 12) (text_at (place reel 12) (label_number rate mode.0)) (get_member (codes "start") ms)) _ e mode.2 in
    let frames = bind_ok (needed (place reel 14) (whole_at (place reel 14) 1 2592000) (get_member (codes "frames") ms)) _ e start.2 in
    let file = bind_ok (optional start.0 (whole_at (place reel 15) 0 9999999) (get_member (codes "file") ms)) _ e frames.2 in
    (mode.0, mode_read rate reel (get_member (codes "drop") ms) mode.0 mode.1, sym (ap (λ (e : ReelEntry). e.day) (same_ok _ e file.2)))

one_counted : (rate : Rate) (reel : ℕ) (d : Data) (e : ReelEntry) → reel_at rate reel d ≡ Ok e → IsCounted rate e
one_counted rate reel (table ms) e h = reel_counted rate reel ms e h
one_counted rate reel other e h = no_ok _ e h

reels_counted : (rate : Rate) (reel : ℕ) (items : Items) (reels : List ReelEntry) → reels_from rate reel items ≡ Ok reels → AreCounted rate reels
reels_counted rate reel no_items reels h = subst (AreCounted rate) (same_ok [] reels h) (All-nil (IsCounted rate))
reels_counted rate reel (item d ds) reels h =
    let first = bind_ok (reel_at rate reel d) _ reels h in
    let others = bind_ok (reels_from rate (reel + 1) ds) _ reels first.2 in
    subst (AreCounted rate) (same_ok (first.0 ∷ others.0) reels others.2)
    (All-cons (IsCounted rate) first.0 others.0 (one_counted rate reel d first.0 first.1) (reels_counted rate (reel + 1) ds others.0 others.1))

members_counted : (ms : Members) (project : Project) → project_of ms ≡ Ok project → AreCounted project.rate project.reels
members_counted ms project h =
    let title = bind_ok (title_in ms) _ project h in
    let rate = bind_ok (rate_in ms) _ project title.2 in
    let width = bind_ok (width_in ms) _ project rate.2 in
    let height = bind_ok (height_in ms) _ project width.2 in
    let black = bind_ok (black_in ms) _ project height.2 in
    let bands = bind_ok (bands_in ms) _ project black.2 in
    let edl = bind_ok (edl_in ms) _ project bands.2 in
    let cube = bind_ok (cube_in ms) _ project edl.2 in
    let items = bind_ok (reels_in ms) _ project cube.2 in
    let cuts = bind_ok (cuts_in ms) _ project items.2 in
    let reels = bind_ok (reels_from rate.0 1 items.0) _ project cuts.2 in
    let top = bind_ok (knows_top ms) _ project reels.2 in
    let known = bind_ok (knows_reels 1 items.0) _ project top.2 in
    subst (λ (p : Project). AreCounted p.rate p.reels) (same_ok _ project known.2) (reels_counted rate.0 1 items.0 reels.0 reels.1)

pub counted_project : (text : List ℕ) (project : Project) → Means text (Ok project) → AreCounted project.rate project.reels
counted_project text project (inl unread) = no_ok _ project (sym unread.1)
counted_project text project (inr read) = members_counted read.0 project (sym read.2)

pub counted_job : (job parts : JobParts) (project : Project) → job ≡ parts → parts.project ≡ project → ArePlanned parts → AreCounted project.rate project.reels → AreCounted job.project.rate job.reels
counted_job job parts project same is planned counted =
    subst (λ (p : JobParts). AreCounted p.project.rate p.reels) (sym same)
    (subst (λ (reels : List ReelEntry). AreCounted parts.project.rate reels) (sym planned.reels) (subst (λ (p : Project). AreCounted p.rate p.reels) (sym is) counted))
