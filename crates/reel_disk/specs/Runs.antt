-- What holds at each moment of a run of calls.
-- * runs of calls: leaves only, never forgets, narrows, loosens, spares: what holds at each moment
use Rattle.std.specs.Prelude.{◌≡◌, ℕ, ◌≤◌}
use Rattle.cf_base.specs.declared.file.FileId.{FileId}
use Rattle.reel_disk.specs.declared.disk.Place.{Place}
use Rattle.reel_disk.specs.Disk.{Files, Moment, IsImage, IsFirm, History, moment_of, view_of, loose_of, loosened, file_of, IsLoose}

-- Time went on: none of the past changed.
pub record Extends (old new : History) : Type 0 where
  pub later : old.now ≤ new.now
  pub kept : (m : ℕ) → m ≤ old.now → new.past m ≡ old.past m

-- A crash at any moment since the old one leaves files that have P.
abbrev pub LeavesOnly : History → History → (Files → Type 0) → Type 0
LeavesOnly old new P = (m : ℕ) → old.now ≤ m → m ≤ new.now → (files : Files) → IsImage (new.past m) files → P files

-- Whatever a crash may leave at that moment has P.
abbrev pub Surely : Moment → (Files → Type 0) → Type 0
Surely moment P = (files : Files) → IsImage moment files → P files

-- Where whatever a crash leaves at the start has P, it has P at each moment.
abbrev pub StaysSo : History → History → (Files → Type 0) → Type 0
StaysSo old new P = Surely (moment_of old) P → LeavesOnly old new P

-- What all images of one moment since the old one have, all images of each later one have.
abbrev pub NeverForgets : History → History → (Files → Type 0) → Type 0
NeverForgets old new P = (m later : ℕ) → old.now ≤ m → m ≤ later → later ≤ new.now → Surely (new.past m) P → Surely (new.past later) P

-- what a crash may leave at one moment, it may leave at the other
abbrev pub IsWithin : Moment → Moment → Type 0
IsWithin a b = (files : Files) → IsImage a files → IsImage b files

-- what was firm is firm
abbrev pub StaysFirm : History → History → Type 0
StaysFirm old new = (q : FileId) → IsFirm (loose_of old) q → IsFirm (loose_of new) q

-- Nothing became possible: each moment's images are among those of each earlier moment since the old one.
pub record Narrows (old new : History) : Type 0 where
  pub extends : Extends old new
  pub within : (m later : ℕ) → old.now ≤ m → m ≤ later → later ≤ new.now → IsWithin (new.past later) (new.past m)

-- A place became loose: each moment's images are those of the view and that place besides, and the view is among them.
pub record Loosens (old new : History) (place : Place) : Type 0 where
  pub extends : Extends old new
  pub within : (m : ℕ) → old.now ≤ m → m ≤ new.now → IsWithin (new.past m) (loosened (moment_of old) place)
  pub view : (m : ℕ) → old.now ≤ m → m ≤ new.now → IsImage (new.past m) (view_of old)

-- At each moment since the old one every file that is not `Mine` is as it was, and no place of it became loose.
pub record Spares (old new : History) (Mine : FileId → Type 0) : Type 0 where
  pub files : (m : ℕ) → old.now ≤ m → m ≤ new.now → (q : FileId) → (Mine q → ⊥) → (new.past m).view q ≡ view_of old q
  pub loose : (m : ℕ) → old.now ≤ m → m ≤ new.now → (p : Place) → (Mine (file_of p) → ⊥) → IsLoose (new.past m).loose p
      → IsLoose (loose_of old) p
