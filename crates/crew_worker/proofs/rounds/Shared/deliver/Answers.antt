use Rattle.std.proofs.Common.{◌≡◌, refl, sym, ◌∙◌, ap, subst}
use Rattle.std.specs.Prelude.{Result, IsOk}
use Rattle.render_board.specs.declared.step.Why.{Why}
use Rattle.render_board.specs.declared.step.Why.TheVariants as whys
use Rattle.frame_render.specs.Frame.{FrameBytes}
use Rattle.frame_fetch.specs.declared.run_end.RunEnd.{RunEnd}
use Rattle.station.specs.Marks.{Tallies, raised_by}
use Rattle.crew_seat.proofs.Stepping.{left_claims, marked_disk, marked_end, marked_left, marked_none}
use Rattle.crew_worker.proofs.rounds.Shared.deliver.Goals as goal

pub returns-in-Ok-hand_in-clause-marks : goal.returns-in-Ok-hand_in-clause-marks
returns-in-Ok-hand_in-clause-marks g c = marked_none _ _ _ _ c.in-Ok-hand_in.ensures.unmarked

pub returns-in-Ok-hand_in-clause-goes_on : goal.returns-in-Ok-hand_in-clause-goes_on
returns-in-Ok-hand_in-clause-goes_on g c = (c.in-Ok-hand_in.ensures.unmarked, subst (λ (r : Result FrameBytes RunEnd). IsOk r) (sym c.in-Ok.is) refl)

-- neither a finish nor a stop claims a frame
pub returns-in-Ok-hand_in-clause-claims : goal.returns-in-Ok-hand_in-clause-claims
returns-in-Ok-hand_in-clause-claims g c = ap (λ (t : Tallies). t.claims) c.in-Ok-hand_in.ensures.unmarked

pub returns-in-Err-hand_in-clause-claims : goal.returns-in-Err-hand_in-clause-claims
returns-in-Err-hand_in-clause-claims g c = left_claims _ _ _ c.in-Err-hand_in.leave c.in-Err-hand_in.ensures.left

pub returns-in-Err-clause-claims : goal.returns-in-Err-clause-claims
returns-in-Err-clause-claims g c = left_claims _ _ _ c.give_up.result c.give_up.ensures.left

pub returns-in-Err-hand_in-clause-marks : goal.returns-in-Err-hand_in-clause-marks
returns-in-Err-hand_in-clause-marks g c =
    marked_left _ _ _ _ (λ why. why ≡ whys.Disk) c.in-Err-hand_in.leave c.in-Err-hand_in.ensures.left
    (λ why is raised. marked_disk _ _ _ _ (raised ∙ ap (λ (w : Why). raised_by w c.args.marks.now) is))

pub returns-in-Err-clause-marks : goal.returns-in-Err-clause-marks
returns-in-Err-clause-marks g c =
    marked_left _ _ _ _ (λ why. why ≡ c.why_of.result) c.give_up.result c.give_up.ensures.left
    (λ why is raised. marked_end _ _ _ _ g.N.Work.job c.in-Err.end why c.in-Err.is c.requires.stop (is ∙ c.why_of.ensures.why) raised)
