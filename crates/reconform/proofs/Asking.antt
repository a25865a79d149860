-- What is asked of the old folder, one donor behind another.
use Rattle.std.proofs.Common.{◌≡◌, inl, inr, ℕ, ◌<◌, ◌≤◌, Bool, true, false, List, [], ◌∷◌, ◌++◌, length, refl, sym, subst, arith}
use Rattle.std.specs.Prelude.{Result, Ok, Err, IfOk, IsErr}
use Rattle.cf_base.specs.declared.file.FileId.{FileId}
use Rattle.conform_job.specs.Job.{JobData, file_of}
use Rattle.frame_render.specs.Frame.{frame_size}
use Rattle.reel_disk.specs.Call.{Call, Measured, Read}
use Rattle.reel_disk.specs.declared.disk.DiskFault.{DiskFault}
use Rattle.reel_disk.specs.declared.disk.Got.TheVariants.{Bytes, Failed as Unread}
use Rattle.reel_disk.specs.declared.disk.Length.TheVariants.{There, Failed as Unmeasured}
use Rattle.resume_ledger.specs.Look.{ViewState}
use Rattle.reel_writer.specs.Reads.{AsksWhole, MakesOnly}
use Rattle.reel_writer.specs.Reel.{frames_of}
use Rattle.reel_writer.proofs.ReadCalls.{made_along, made_none, made_one, made_two}
use Rattle.reconform.specs.Donor.{IsDonor}
use Rattle.reconform.specs.Taken.{AsksDonor, AsksForDonors, AsksInTurn}
use Rattle.reconform.specs.inside.Asking.{AnyFile, AsksFrom}

-- calls of some file
whole_made : (id : FileId) (size : ℕ) (result : Result Bool DiskFault) (a b : List Call) → AsksWhole id size result a b → MakesOnly AnyFile a b
whole_made id size (Ok true) a b is = made_two AnyFile (Measured id (There (length is.0))) (Read id 0 is.0 (Bytes (length is.0))) a (Measured id (There (length is.0)) ∷ a) b tt tt refl is.2
whole_made id size (Ok false) a b (inl is) = made_one AnyFile (Measured id is.0) a b tt is.1
whole_made id size (Ok false) a b (inr is) = made_two AnyFile (Measured id (There size)) (Read id 0 is.0 is.1) a (Measured id (There size) ∷ a) b tt tt refl is.4
whole_made id size (Err fault) a b (inl is) = made_one AnyFile (Measured id Unmeasured) a b tt is
whole_made id size (Err fault) a b (inr is) = made_two AnyFile (Measured id (There size)) (Read id 0 is.0 Unread) a (Measured id (There size) ∷ a) b tt tt refl is.1

module _ (new old : JobData) (view : ViewState) where
  turn_made : (low high : ℕ) (frames : List ℕ) (a b : List Call) → AsksInTurn new old view low high frames a b → MakesOnly AnyFile a b
  turn_made low high [] a b is = subst (MakesOnly AnyFile a) (sym is) (made_none AnyFile a)
  turn_made low high (i ∷ older) a b is =
      let asked = is.4 in
      made_along AnyFile a is.2 b (turn_made low i older a is.2 is.3) (whole_made (file_of old asked.0) (frame_size new) asked.1 is.2 b asked.3)

  turn_wider : (low mid high : ℕ) → mid ≤ high → (frames : List ℕ) (a b : List Call) → AsksInTurn new old view low mid frames a b → AsksInTurn new old view low high frames a b
  turn_wider low mid high le [] a b is = is
  turn_wider low mid high le (i ∷ older) a b is = let lt = is.1 in (is.0, omega (arith, lt, le), is.2, is.3, is.4)

  turn_along : (low mid high : ℕ) → low ≤ mid → mid ≤ high → (first : List ℕ) (a b c : List Call) → AsksInTurn new old view low mid first a b
      → (second : List ℕ) → AsksInTurn new old view mid high second b c → AsksInTurn new old view low high (second ++ first) a c
  turn_along low mid high one two first a b c was [] is = subst (AsksInTurn new old view low high first a) (sym is) (turn_wider low mid high two first a b was)
  turn_along low mid high one two first a b c was (i ∷ older) is =
      let le = is.0 in
      (omega (arith, one, le), is.1, is.2, turn_along low mid i one le first a b is.2 was older is.3, is.4)

module _ {new old : JobData} {view : ViewState} where
  -- none was asked for yet, one was, some behind others
  pub asks_none : {low high : ℕ} {a : List Call} → AsksForDonors new old view low high a a
  asks_none = record { frames = []; asked = refl }

  pub asks_one : {low high : ℕ} (i donor : ℕ) (result : Result Bool DiskFault) {a b : List Call} → low ≤ i → i < high → IsDonor new old view.gates i donor
      → AsksWhole (file_of old donor) (frame_size new) result a b → AsksForDonors new old view low high a b
  asks_one i donor result {a = a} first last is asks = record { frames = i ∷ []; asked = (first, last, a, refl, (donor, result, is, asks)) }

  pub asks_wider : {low mid high : ℕ} {a b : List Call} → mid ≤ high → AsksForDonors new old view low mid a b → AsksForDonors new old view low high a b
  asks_wider le was = record { frames = was.frames; asked = turn_wider new old view _ _ _ le was.frames _ _ was.asked }

  pub asks_along : {low mid high : ℕ} {a b c : List Call} → low ≤ mid → mid ≤ high → AsksForDonors new old view low mid a b → AsksForDonors new old view mid high b c → AsksForDonors new old view low high a c
  asks_along one two first second = record {
    frames = second.frames ++ first.frames;
    asked = turn_along new old view _ _ _ one two first.frames _ _ _ first.asked second.frames second.asked;
  }

  pub asks_made : {low high : ℕ} {a b : List Call} → AsksForDonors new old view low high a b → MakesOnly AnyFile a b
  asks_made was = turn_made new old view _ _ was.frames _ _ was.asked

-- the same from one frame on
pub from_made : (new old : JobData) (view : ViewState) {T : Type 0} (next : T → ℕ) (low : ℕ) (result : Result T DiskFault) (a b : List Call) → AsksFrom next new old view low result a b → MakesOnly AnyFile a b
from_made new old view next low (Ok to) a b was = asks_made was
from_made new old view next low (Err fault) a b was = asks_made was

pub from_failed : (new old : JobData) (view : ViewState) {T : Type 0} (next : T → ℕ) (low : ℕ) (result : Result T DiskFault) (a b : List Call) → IsErr result
    → AsksForDonors new old view low (frames_of new) a b → AsksFrom next new old view low result a b
from_failed new old view next low (Ok to) a b failed was = cc
from_failed new old view next low (Err fault) a b failed was = was

pub from_along : (new old : JobData) (view : ViewState) {T : Type 0} (next : T → ℕ) (low mid : ℕ) (result : Result T DiskFault) (a b c : List Call) → low ≤ mid → mid ≤ frames_of new → IfOk result (λ to. mid ≤ next to)
    → AsksForDonors new old view low mid a b → AsksFrom next new old view mid result b c → AsksFrom next new old view low result a c
from_along new old view next low mid (Ok to) a b c one within two first second = asks_along one two first second
from_along new old view next low mid (Err fault) a b c one within two first second = asks_along one within first second

-- the same asking, named otherwise
pub asks_as : (q id : FileId) (size wanted : ℕ) (r s : Result Bool DiskFault) (a b : List Call) → q ≡ id → size ≡ wanted → r ≡ s → AsksWhole q size r a b → AsksWhole id wanted s a b
asks_as q id size wanted r s a b named sized same asks = subst (λ (all : FileId × ℕ × Result Bool DiskFault). AsksWhole all.0 all.1 all.2 a b) (λ t. (named t, sized t, same t)) asks
