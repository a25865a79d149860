-- What is said of a frame that was made for a worker, and of a worker that leaves.
use Rattle.std.proofs.Common.{◌≡◌, ◌∙◌, ℕ, ◌+◌, arith, Bool, true, false, refl, ap, sym, subst}
use Rattle.std.specs.Prelude.{◌↔◌, Result, Ok, Err, IfErr, IsOk, OnOk}
use Rattle.std.proofs.lemmas.Bool.{true≢false}
use Rattle.frame_fetch.specs.declared.run_end.RunEnd.{RunEnd}
use Rattle.frame_fetch.specs.declared.run_end.RunEnd.TheVariants.{SourceFault}
use Rattle.render_board.specs.declared.step.Why.{Why}
use Rattle.render_board.specs.declared.step.Why.TheVariants.{Source}
use Rattle.station.specs.Leaving.{HasLeft}
use Rattle.station.specs.Marks.{Tallies, Tally, raised_by}
use Rattle.station.specs.Needed.{with_needs}
use Rattle.crew_seat.proofs.Stepping.{left_claims}
use Rattle.station.specs.declared.leaving.Leave.{Leave}
use Rattle.station.specs.declared.leaving.Leave.TheVariants as leaves

-- what is said of a frame that was made, and that no load failed then
pub of_ok : {T E : Type 0} (made : Result T E) (P : Type 0) → IsOk made → OnOk made P → P
of_ok (Ok frame) P ok on = on
of_ok (Err end) P ok on = absurd (true≢false (sym ok))

pub none_failed : {T : Type 0} (made : Result T RunEnd) (fault : Bool) → (fault ≡ true) ↔ (made ≡ Err SourceFault) → IsOk made → fault ≡ false
none_failed {T = T} made true is ok = absurd (true≢false (sym (subst (λ (r : Result T RunEnd). IsOk r) (is.0 refl) ok)))
none_failed made false is ok = refl

-- a worker of which no load has failed may stop for any cause
pub left_unfailed : (Is : Why → Type 0) (failed : Bool) (before now : Tallies) (leave : Leave) → failed ≡ false → HasLeft Is before now leave → HasLeft (λ why. failed ≡ true → why ≡ Source) before now leave
left_unfailed Is failed before now leaves.Stopped none (why, is, raised) = (why, (λ rose. absurd (true≢false (sym rose ∙ none))), raised)
left_unfailed Is failed before now (leaves.Away reason) none still = still

-- ---- marks that count claims since

abbrev pub claiming : (before : Tallies) → Tally → Tallies
claiming before claims = record before { claims = claims }

-- what holds from the marks behind some claims on, holds from those before them, but for the claims
pub left_behind : (Is : Why → Type 0) (before mid now : Tallies) (leave : Leave) → mid ≡ claiming before mid.claims → HasLeft Is mid now leave → HasLeft Is (claiming before now.claims) now leave
left_behind Is before mid now leaves.Stopped same (why, is, raised) =
    let kept = left_claims Is mid now leaves.Stopped (why, is, raised) in
    (why, is, raised ∙ ap (raised_by why) (same ∙ ap (claiming before) (sym kept)))
left_behind Is before mid now (leaves.Away reason) same still = still ∙ same ∙ ap (claiming before) (ap (λ (t : Tallies). t.claims) (sym still))

pub left_on : (Is : Why → Type 0) (before mid now : Tallies) (leave : Leave) → mid ≡ claiming before mid.claims → HasLeft Is (claiming mid now.claims) now leave
    → HasLeft Is (claiming before now.claims) now leave
left_on Is before mid now leave same left = subst (λ (t : Tallies). HasLeft Is t now leave) (ap (λ (t : Tallies). claiming t now.claims) same) left

-- more was claimed, and then more again
pub claiming_on : (before mid now : Tallies) → mid ≡ claiming before mid.claims → now ≡ claiming mid now.claims → now ≡ claiming before now.claims
claiming_on before mid now first second = second ∙ ap (λ (t : Tallies). claiming t now.claims) first

pub claimed_since : (before now : Tallies) (needs : ℕ) → now ≡ with_needs needs before → now ≡ claiming before now.claims
claimed_since before now needs same = same ∙ ap (claiming before) (ap (λ (t : Tallies). t.claims) (sym same))

pub still_since : (before now : Tallies) → now ≡ before → now ≡ claiming before now.claims
still_since before now same = same ∙ ap (claiming before) (ap (λ (t : Tallies). t.claims) (sym same))

-- nothing was claimed
pub unclaimed : (before now : Tallies) → now ≡ before → now ≡ with_needs 0 before
unclaimed before now same = let none : before.claims.amount ≡ before.claims.amount + 0 = omega arith in
    same ∙ ap (λ (n : ℕ). record before { claims = record { parts = before.claims.parts; amount = n } }) none

-- a frame was taken, and then it could not be made or handed in
pub left_since : {T F : Type 0} (result : Result T Leave) (made : Result F RunEnd) (fault : Bool) → (fault ≡ true) ↔ (made ≡ Err SourceFault) → (before mid now : Tallies) → mid ≡ claiming before mid.claims
    → IfErr result (HasLeft (λ why. made ≡ Err SourceFault → why ≡ Source) mid now) → IfErr result (HasLeft (λ why. fault ≡ true → why ≡ Source) (claiming before now.claims) now)
left_since (Ok back) made fault is before mid now same left = tt
left_since (Err leave) made fault is before mid now same left = left_behind (λ why. fault ≡ true → why ≡ Source) before mid now leave same (by leave left)
  where
    by : (leave : Leave) → HasLeft (λ why. made ≡ Err SourceFault → why ≡ Source) mid now leave → HasLeft (λ why. fault ≡ true → why ≡ Source) mid now leave
    by leaves.Stopped (why, cause, raised) = (why, (λ rose. cause (is.0 rose)), raised)
    by (leaves.Away reason) still = still
