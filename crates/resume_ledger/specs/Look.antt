-- What a look answers.
-- * look, peek [Peek]: the frames that the folder acknowledges with their records; how many they are
--     HasLooked       over a disk that tells
--     IsLookFor       over any disk
use Rattle.std.specs.Prelude.{◌≡◌, ℕ, ◌<◌, Bool, false, List, length, slice_index_or, Option, Some, None, Result, Ok, Err, if◌then◌else◌}
use Rattle.std.specs.Option.{option_map}
use Rattle.reel_disk.specs.Disk.{Files, History, view_of}
use Rattle.resume_ledger.specs.declared.layout.Version.TheVariants.{Two}
use Rattle.resume_ledger.specs.Body.{record_of}
use Rattle.resume_ledger.specs.Ledger.{IsInForce, IsFit, Acks, AreFlagsOf, HasRecord}
use Rattle.resume_ledger.specs.Attach.{IsRefused, IsRefusalFor}
use Rattle.resume_ledger.specs.declared.attach.OpenFault.{OpenFault}

-- A view as its callers see it: one flag for each frame, and the body that has the records, where version 2 counts.
pub record ViewState : Type 0 where
  pub gates : List Bool
  pub body : Option (List ℕ)

-- the record of a frame that is acknowledged
abbrev pub hash_at : ViewState → ℕ → Option (List ℕ)
hash_at view i = if slice_index_or view.gates i false then option_map (λ body. record_of body i) view.body else None

-- The record of the frame, by what the files acknowledge: none where it isn't acknowledged or version 2 isn't in force.
abbrev pub IsRecordIn : List ℕ → ℕ → ℕ → Files → Option (List ℕ) → Type 0
IsRecordIn digest count i files (Some hash) = Acks digest count i files × IsInForce Two files × HasRecord i hash files
IsRecordIn digest count i files None = Acks digest count i files → IsInForce Two files → ⊥

-- The view has what the files acknowledge, and their records.
pub record IsViewOf (digest : List ℕ) (count : ℕ) (files : Files) (view : ViewState) : Type 0 where
  pub fit : IsFit digest count files
  pub acks : AreFlagsOf digest count files view.gates
  pub hashes : (i : ℕ) → i < count → IsRecordIn digest count i files (hash_at view i)

-- The answer of a look: what the view on the disk has, or the refusal of an attach.
abbrev pub HasLooked : List ℕ → ℕ → History → History → Result ViewState OpenFault → Type 0
HasLooked digest count old new (Ok view) = IsViewOf digest count (view_of old) view
HasLooked digest count old new (Err fault) = IsRefused digest count old new fault

-- What an answer says of the job, also over a disk that does not tell.
abbrev pub IsLookFor : List ℕ → ℕ → Result ViewState OpenFault → Type 0
IsLookFor digest count (Ok view) = length view.gates ≡ count
IsLookFor digest count (Err fault) = IsRefusalFor digest fault
