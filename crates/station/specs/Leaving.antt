-- Why a worker leaves a station, and when a station has no step for it. All of it is this project's own rule.
-- * leaving: why a worker could take no frame; a worker has stopped, or was turned away and why; what its marks count then
--     HasTaken      a worker took a frame
--     IsUntaken      why it could take none
--     HasGone, HasGoneHolding      a worker stopped, or was turned away
--     HasLeft      what its marks count then
use Rattle.std.specs.Prelude.{◌≡◌, ℕ, ◌<◌, ◌≤◌, true, false}
use Rattle.render_board.specs.Board.{claim_of, turn_of}
use Rattle.render_board.specs.declared.board.Claim.TheVariants as answers
use Rattle.render_board.specs.declared.board.Turn.{Turn}
use Rattle.render_board.specs.declared.board.Turn.TheVariants as turns
use Rattle.render_board.specs.declared.step.Why.{Why}
use Rattle.station.specs.declared.leaving.Leave.{Leave}
use Rattle.station.specs.declared.leaving.Leave.TheVariants as leaves
use Rattle.station.specs.declared.leaving.Reason.{Reason}
use Rattle.station.specs.declared.leaving.Reason.TheVariants.{Unknown, Closed, Moved, NoneLeft, Stopped}
use Rattle.station.specs.Marks.{Tallies, raised_by}
use Rattle.station.specs.Station.{StationView}
use Rattle.station.specs.StationSteps.{after_claimed, after_failed}

module _ {D : Type 0} where
  -- the worker is one of the board's and was idle, the reel is open, and the least free frame is now the worker's
  pub record HasTaken (before : StationView D) (worker frame : ℕ) (now : StationView D) : Type 0 where
    pub known : worker < before.log.workers
    pub is_open : before.reel.ledger.closed ≡ false
    pub idle : turn_of before.log worker ≡ turns.Idle
    pub answer : claim_of before.log ≡ answers.Take frame
    pub step : now ≡ after_claimed before worker (answers.Take frame)

  -- the worker took no frame, for this reason
  abbrev pub IsUntaken : StationView D → (worker : ℕ) → Reason → Type 0
  IsUntaken v worker Unknown = v.log.workers ≤ worker
  IsUntaken v worker Closed = v.reel.ledger.closed ≡ true
  IsUntaken v worker Moved = turn_of v.log worker ≡ turns.Idle → ⊥
  IsUntaken v worker NoneLeft = claim_of v.log ≡ answers.NoneLeft
  IsUntaken v worker Stopped = claim_of v.log ≡ answers.Stopped

  -- the worker is turned away, for this reason; `MayBe` says which its turn may be
  abbrev pub IsAway : (Turn → Type 0) → StationView D → (worker : ℕ) → Reason → Type 0
  IsAway MayBe v worker Unknown = v.log.workers ≤ worker
  IsAway MayBe v worker Closed = v.reel.ledger.closed ≡ true
  IsAway MayBe v worker Moved = MayBe (turn_of v.log worker) → ⊥
  IsAway MayBe v worker NoneLeft = ⊥
  IsAway MayBe v worker Stopped = ⊥

  -- the worker has stopped, which makes this of the station; or it was turned away, which changes nothing
  abbrev pub HasGone : (Turn → Type 0) → (before : StationView D) → (worker : ℕ) → (after : StationView D) → Leave
      → (now : StationView D) → Type 0
  HasGone MayBe before worker after leaves.Stopped now = now ≡ after
  HasGone MayBe before worker after (leaves.Away reason) now = IsAway MayBe before worker reason × (now ≡ before)

  -- a worker whose finish of the frame that it held failed, or that was turned away since it held another or none
  abbrev pub HasGoneHolding : (held : ℕ) → (before : StationView D) → (worker : ℕ) → Leave → (now : StationView D) → Type 0
  HasGoneHolding held before worker leave now =
      HasGone (λ turn. turn ≡ turns.Holds held) before worker (after_failed before worker now.reel.disk) leave now

-- One stop was counted, of such a why; or none, where the worker was turned away.
abbrev pub HasLeft : (Why → Type 0) → (before now : Tallies) → Leave → Type 0
HasLeft Is before now leaves.Stopped = (why : Why) × Is why × (now ≡ raised_by why before)
HasLeft Is before now (leaves.Away reason) = now ≡ before
