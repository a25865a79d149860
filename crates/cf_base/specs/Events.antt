-- Edit lists.
-- * well-made list: what holds of every list that is read: at most 10,000 events, lines that rise, numbers within their days,
--   transitions that follow on the line before
--     is_black_reel reel      the reel `BL`, which stands for black
--     record_length event      how many record frames an event has
--     is_known_wipe code      the wipe codes that this project has
--     IsWellMade rate list      what holds of every list that is read at a rate
use Rattle.std.specs.Prelude.{◌≡◌, ℕ, nat_abs, ◌-◌, ◌<◌, ◌≤◌, Bool, ◌==◌, List, [], ◌∷◌, length, codes, IfSome, IsTrue}
use Rattle.std.specs.Str.{bytes_eq}
use Rattle.std.specs.List.{list_any, All, AllPairs, Any}
use Rattle.cf_base.specs.declared.timing.Rate.{Rate}
use Rattle.cf_base.specs.declared.timing.Mode.{Mode}
use Rattle.cf_base.specs.declared.event.Transition.{Transition}
use Rattle.cf_base.specs.declared.event.Transition.TheVariants.{Cut, Dissolve, Wipe}
use Rattle.cf_base.specs.declared.event.EventRec.{EventRec}
use Rattle.cf_base.specs.Timing.{CanCount, frames_in_day}

abbrev pub is_black_reel : List ℕ → Bool
is_black_reel reel = bytes_eq reel (codes "BL")

abbrev pub record_length : EventRec → ℕ
record_length e = e.rec_out - e.rec_in

abbrev pub is_known_wipe : ℕ → Bool
is_known_wipe code = list_any (λ known. known == code) (1 ∷ 2 ∷ 3 ∷ 4 ∷ 5 ∷ 6 ∷ 21 ∷ 22 ∷ 41 ∷ 101 ∷ 102 ∷ [])

-- a transition of an event into which another leads
abbrev pub FitsTransition : EventRec → Transition → Type 0
FitsTransition e Cut = Unit {0}
FitsTransition e (Dissolve d) = (1 ≤ d) × (d ≤ record_length e)
FitsTransition e (Wipe code d) = (1 ≤ d) × (d ≤ record_length e) × IsTrue (is_known_wipe code)

-- what holds of one event
pub record IsWellMadeEvent (rate : Rate) (mode : Mode) (e : EventRec) : Type 0 where
  pub source_mode : CanCount rate e.src_mode
  pub source_in : e.src_in < frames_in_day rate e.src_mode
  pub source_out : e.src_out < frames_in_day rate e.src_mode
  pub ordered : e.rec_in ≤ e.rec_out
  pub record_out : e.rec_out < frames_in_day rate mode
  pub speed : IfSome e.speed (λ s. nat_abs s ≤ 999999)
  pub transition : FitsTransition e e.transition

-- an event with a transition follows on the one before it in the list
abbrev pub FollowsOn : EventRec → EventRec → Transition → Type 0
FollowsOn old new Cut = Unit {0}
FollowsOn old new (Dissolve d) = old.rec_out ≡ new.rec_in
FollowsOn old new (Wipe code d) = old.rec_out ≡ new.rec_in

abbrev pub IsCut : Transition → Type 0
IsCut Cut = Unit {0}
IsCut (Dissolve d) = ⊥
IsCut (Wipe code d) = ⊥

-- the first event is a cut, and each other follows on
abbrev pub AllFollowOn : List EventRec → Type 0
AllFollowOn [] = Unit {0}
AllFollowOn (e ∷ []) = Unit {0}
AllFollowOn (e ∷ f ∷ more) = FollowsOn e f f.transition × AllFollowOn (f ∷ more)

abbrev pub BeginsWithCut : List EventRec → Type 0
BeginsWithCut [] = Unit {0}
BeginsWithCut (e ∷ more) = IsCut e.transition

pub record IsWellMade (rate : Rate) (mode : Mode) (events : List EventRec) : Type 0 where
  pub can_count : CanCount rate mode
  pub few : length events ≤ 10000
  pub rising : AllPairs (λ e f. e.line < f.line) events
  pub each : All (IsWellMadeEvent rate mode) events
  pub some_length : Any (λ e. 0 < record_length e) events
  pub first : BeginsWithCut events
  pub follow : AllFollowOn events
