-- Picture lines: what their one do-block says, forwards and backwards.
use Rattle.std.proofs.Common.{◌≡◌, ℕ, ℤ, ◌-◌, ◌<◌, ◌≤◌, Bool, true, false, List, refl, Option, Result}
use Rattle.std.specs.Prelude.{None, Ok, Err, nat_le, nat_lt, ◌&&◌}
use Rattle.std.proofs.lemmas.Bool.{and_parts, leb-true, ltb-true}
use Rattle.std.specs.Result.{result_err}
use Rattle.cf_base.specs.declared.lines.Span.{Span}
use Rattle.cf_base.specs.declared.timing.Rate.{Rate}
use Rattle.cf_base.specs.declared.timing.Mode.{Mode}
use Rattle.cf_base.specs.declared.event.Transition.{Transition}
use Rattle.cf_base.specs.declared.event.Transition.TheVariants.{Cut, Dissolve, Wipe}
use Rattle.cf_base.specs.declared.event.EventRec.{EventRec}
use Rattle.cf_base.specs.Events.{is_known_wipe}
use Rattle.cf_base.specs.Steps.{◌>>=◌}
use Rattle.cf_base.proofs.StepLaws.{bind_ok}
use Rattle.edl_events.specs.declared.ListKind.{ListKind}
use Rattle.edl_events.specs.declared.ListKind.TheVariants as fault
use Rattle.edl_events.specs.declared.steps.Times.{Times}
use Rattle.edl_events.specs.Pictures.{unless, times_of, transition_fits, leads, is_at, picture_with}
use Rattle.edl_events.specs.inside.Reads.{set_speed}

abbrev pub with_speed : Option ℤ → Result EventRec ListKind → Result EventRec ListKind
with_speed speed (Ok e) = Ok (set_speed speed e)
with_speed speed (Err kind) = Err kind

through : {A : Type 0} (speed : Option ℤ) (r : Result A ListKind) (f g : A → Result EventRec ListKind) → ((x : A) → g x ≡ with_speed speed (f x)) → (r >>= g) ≡ with_speed speed (r >>= f)
through speed (Ok x) f g same = same x
through speed (Err kind) f g same = refl

-- the speed is put in last
pub speed_last : (rate : Rate) (mode record_ : Mode) (last : Option ℕ) (count line : ℕ) (speed : Option ℤ) (bytes : List ℕ) (number : ℕ) (reel : List ℕ) (transition : Transition) (spans : List Span)
    → picture_with rate mode record_ last count line speed bytes number reel transition spans ≡ with_speed speed (picture_with rate mode record_ last count line None bytes number reel transition spans)
speed_last rate mode record_ last count line speed bytes number reel transition spans =
    through speed (times_of rate mode record_ bytes spans) _ _ (λ times.
    through speed (unless (nat_le times.rec_in times.rec_out) fault.Backwards) _ _ (λ _.
    through speed (unless (nat_lt count 10000) fault.TooMany) _ _ (λ _.
    through speed (transition_fits last times transition) _ _ (λ _. refl))))

pub fault_with : (speed : Option ℤ) (r : Result EventRec ListKind) → result_err (with_speed speed r) ≡ result_err r
fault_with speed (Ok e) = refl
fault_with speed (Err kind) = refl

unless_ok : (b : Bool) (kind : ListKind) (u : Unit {0}) → unless b kind ≡ Ok u → b ≡ true
unless_ok true kind u h = refl
unless_ok false kind u h = absurd (never kind u h)
  where
    never : (kind : ListKind) (u : Unit {0}) → ◌≡◌ {A = Result (Unit {0}) ListKind} (Err kind) (Ok u) → ⊥
    never kind u h = cc

-- a transition that is let in fits
pub record Leads (last : Option ℕ) (times : Times) (d : ℕ) : Type 0 where
  pub at : is_at last times.rec_in ≡ true
  pub some : 1 ≤ d
  pub fits : d ≤ times.rec_out - times.rec_in

pub leads_ok : (last : Option ℕ) (times : Times) (d : ℕ) (u : Unit {0}) → leads last times d ≡ Ok u → Leads last times d
leads_ok last times d u h =
    let a = bind_ok (unless (is_at last times.rec_in) fault.NoFrom) (λ _. unless (nat_le 1 d && nat_le d (times.rec_out - times.rec_in)) fault.Duration) u h in
    let parts = and_parts _ _ (unless_ok _ fault.Duration u a.2) in
    record { at = unless_ok _ fault.NoFrom a.0 a.1; some = leb-true _ _ parts.0; fits = leb-true _ _ parts.1 }

abbrev pub FitsBehind : Option ℕ → Times → Transition → Type 0
FitsBehind last times Cut = Unit {0}
FitsBehind last times (Dissolve d) = Leads last times d
FitsBehind last times (Wipe code d) = (is_known_wipe code ≡ true) × Leads last times d

fits_ok : (last : Option ℕ) (times : Times) (t : Transition) (u : Unit {0}) → transition_fits last times t ≡ Ok u → FitsBehind last times t
fits_ok last times Cut u h = tt
fits_ok last times (Dissolve d) u h = leads_ok last times d u h
fits_ok last times (Wipe code d) u h =
    let a = bind_ok (unless (is_known_wipe code) fault.UnknownWipe) (λ _. leads last times d) u h in
    (unless_ok _ fault.UnknownWipe a.0 a.1, leads_ok last times d u a.2)

-- what holds of a picture line that is let in
pub record LetIn (rate : Rate) (mode record_ : Mode) (last : Option ℕ) (count line : ℕ) (bytes : List ℕ) (number : ℕ) (reel : List ℕ) (transition : Transition) (spans : List Span) (e : EventRec) : Type 0 where
  pub times : Times
  pub reads : times_of rate mode record_ bytes spans ≡ Ok times
  pub ordered : times.rec_in ≤ times.rec_out
  pub few : count < 10000
  pub fits : FitsBehind last times transition
  pub is : record { line = line; number = number; reel = reel; src_mode = mode; src_in = times.src_in; src_out = times.src_out; rec_in = times.rec_in; rec_out = times.rec_out; speed = None; transition = transition } ≡ e

same_event : (x y : EventRec) → ◌≡◌ {A = Result EventRec ListKind} (Ok x) (Ok y) → x ≡ y
same_event x y h = cc

pub let_in : (rate : Rate) (mode record_ : Mode) (last : Option ℕ) (count line : ℕ) (bytes : List ℕ) (number : ℕ) (reel : List ℕ) (transition : Transition) (spans : List Span) (e : EventRec)
    → picture_with rate mode record_ last count line None bytes number reel transition spans ≡ Ok e → LetIn rate mode record_ last count line bytes number reel transition spans e
let_in rate mode record_ last count line bytes number reel transition spans e h =
    let a = bind_ok (times_of rate mode record_ bytes spans) _ e h in
    let times : Times = a.0 in
    let b = bind_ok (unless (nat_le times.rec_in times.rec_out) fault.Backwards) _ e a.2 in
    let c = bind_ok (unless (nat_lt count 10000) fault.TooMany) _ e b.2 in
    let d = bind_ok (transition_fits last times transition) _ e c.2 in
    record {
      times = times;
      reads = a.1;
      ordered = leb-true _ _ (unless_ok _ fault.Backwards b.0 b.1);
      few = ltb-true _ _ (unless_ok _ fault.TooMany c.0 c.1);
      fits = fits_ok last times transition d.0 d.1;
      is = same_event _ _ d.2;
    }
