-- What a run did to an open reel: words of private clauses.
use Rattle.std.specs.Prelude.{◌≡◌, ℕ, ◌==◌, ◌&&◌, ◌||◌, nat_le, nat_lt, false, ◌++◌, length, slice_index_or}
use Rattle.reel_writer.specs.View.{ReelView}
use Rattle.run_alone.specs.Asks.{closed_frames}
use Rattle.run_alone.specs.inside.Asks.{frame_if_closed}

module _ {D : Type 0} where
  -- frame i is acknowledged, and was finished where it was not
  pub record IsPast (i : ℕ) (old new : ReelView D) : Type 0 where
    pub gates : (k : ℕ)
        → slice_index_or new.ledger.gates k false
        ≡ (slice_index_or old.ledger.gates k false || (k == i))
    pub size : length new.ledger.gates ≡ length old.ledger.gates
    pub acks : new.acks ≡ old.acks ++ frame_if_closed old.ledger.gates i
    pub kept : new.kept ≡ old.kept
    pub is_open : new.ledger.closed ≡ false

  -- each frame from low on, below i, is acknowledged, and was finished where it was not
  pub record ArePast (low i : ℕ) (old new : ReelView D) : Type 0 where
    pub gates : (k : ℕ)
        → slice_index_or new.ledger.gates k false
        ≡ (slice_index_or old.ledger.gates k false || (nat_le low k && nat_lt k i))
    pub size : length new.ledger.gates ≡ length old.ledger.gates
    pub acks : new.acks ≡ old.acks ++ closed_frames old.ledger.gates low i
    pub kept : new.kept ≡ old.kept
    pub is_open : new.ledger.closed ≡ false

  -- no frame was finished
  pub record IsUnfinished (old new : ReelView D) : Type 0 where
    pub gates : new.ledger.gates ≡ old.ledger.gates
    pub acks : new.acks ≡ old.acks
    pub kept : new.kept ≡ old.kept
