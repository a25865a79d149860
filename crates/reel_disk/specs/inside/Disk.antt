-- What a disk holds, what a crash may leave of it, and what each call does to both: words of private clauses.
use Rattle.std.specs.Prelude.{ℕ, ◌≤◌}
use Rattle.reel_disk.specs.Disk.{Files, History, IsImage}

-- a crash at some moment from t until now may leave these files
abbrev pub MayBeLeft : History → ℕ → Files → Type 0
MayBeLeft h t files = (m : ℕ) × (t ≤ m) × (m ≤ h.now) × IsImage (h.past m) files
