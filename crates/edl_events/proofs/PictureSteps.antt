-- The steps of a picture line: the first of its faults stands.
use Rattle.std.proofs.Common.{◌≡◌, ℕ, ◌-◌, ◌<◌, ◌≤◌, true, false, List, refl, ap, sym, ◌∙◌}
use Rattle.std.specs.Prelude.{Option, Result, Ok, Err, nat_le, nat_lt, unwrap_or}
use Rattle.std.proofs.lemmas.Bool.{lt-ltb, le-ltb, le-leb, lt-leb}
use Rattle.cf_base.specs.declared.lines.Span.{Span}
use Rattle.cf_base.specs.declared.timing.Rate.{Rate}
use Rattle.cf_base.specs.declared.event.Transition.{Transition}
use Rattle.cf_base.specs.declared.event.Transition.TheVariants.{Wipe}
use Rattle.cf_base.specs.declared.event.EventRec.{EventRec}
use Rattle.cf_base.specs.Events.{is_known_wipe}
use Rattle.cf_base.specs.Steps.{◌>>=◌}
use Rattle.edl_events.specs.declared.ListKind.{ListKind}
use Rattle.edl_events.specs.declared.ListKind.TheVariants as fault
use Rattle.edl_events.specs.declared.steps.State.{State}
use Rattle.edl_events.specs.declared.steps.Times.{Times}
use Rattle.edl_events.specs.Pictures.{unless, times_of, is_at, leads, transition_fits}
use Rattle.edl_events.specs.inside.Steps.{event_of, picture_from}

-- what is asked of the times, and what is asked then
abbrev fitted : State → ℕ → List ℕ → Transition → Times → Result EventRec ListKind
fitted s number reel transition times = transition_fits s.last_out times transition >>= (λ _. Ok (event_of s number reel transition times))

abbrev counted : State → ℕ → List ℕ → Transition → Times → Result EventRec ListKind
counted s number reel transition times = unless (nat_lt s.pictures 10000) fault.TooMany >>= (λ _. fitted s number reel transition times)

abbrev asked : State → ℕ → List ℕ → Transition → Times → Result EventRec ListKind
asked s number reel transition times = unless (nat_le times.rec_in times.rec_out) fault.Backwards >>= (λ _. counted s number reel transition times)

abbrev HasTimes : Rate → State → List ℕ → List Span → Result Times ListKind → Type 0
HasTimes rate s bytes spans r = times_of rate s.mode (unwrap_or s.record_mode s.mode) bytes spans ≡ r

timed : (rate : Rate) (s : State) (bytes : List ℕ) (number : ℕ) (reel : List ℕ) (transition : Transition) (spans : List Span) (r : Result Times ListKind)
    → HasTimes rate s bytes spans r → picture_from rate s bytes number reel transition spans ≡ (r >>= (λ times. asked s number reel transition times))
timed rate s bytes number reel transition spans r is = ap (λ (r : Result Times ListKind). r >>= (λ times. asked s number reel transition times)) is

pub times_fault : (rate : Rate) (s : State) (bytes : List ℕ) (number : ℕ) (reel : List ℕ) (transition : Transition) (spans : List Span) (kind : ListKind)
    → HasTimes rate s bytes spans (Err kind) → Err kind ≡ picture_from rate s bytes number reel transition spans
times_fault rate s bytes number reel transition spans kind is = sym (timed rate s bytes number reel transition spans (Err kind) is)

pub backwards : (rate : Rate) (s : State) (bytes : List ℕ) (number : ℕ) (reel : List ℕ) (transition : Transition) (spans : List Span) (times : Times)
    → HasTimes rate s bytes spans (Ok times) → times.rec_out < times.rec_in → Err fault.Backwards ≡ picture_from rate s bytes number reel transition spans
backwards rate s bytes number reel transition spans times is before =
    sym (timed rate s bytes number reel transition spans (Ok times) is
    ∙ ap (λ b. unless b fault.Backwards >>= (λ _. counted s number reel transition times)) (lt-leb times.rec_in times.rec_out before))

forwards : (rate : Rate) (s : State) (bytes : List ℕ) (number : ℕ) (reel : List ℕ) (transition : Transition) (spans : List Span) (times : Times)
    → HasTimes rate s bytes spans (Ok times) → times.rec_in ≤ times.rec_out → picture_from rate s bytes number reel transition spans ≡ counted s number reel transition times
forwards rate s bytes number reel transition spans times is behind =
    timed rate s bytes number reel transition spans (Ok times) is
    ∙ ap (λ b. unless b fault.Backwards >>= (λ _. counted s number reel transition times)) (le-leb times.rec_in times.rec_out behind)

pub too_many : (rate : Rate) (s : State) (bytes : List ℕ) (number : ℕ) (reel : List ℕ) (transition : Transition) (spans : List Span) (times : Times)
    → HasTimes rate s bytes spans (Ok times) → times.rec_in ≤ times.rec_out → 10000 ≤ s.pictures
    → Err fault.TooMany ≡ picture_from rate s bytes number reel transition spans
too_many rate s bytes number reel transition spans times is behind many =
    sym (forwards rate s bytes number reel transition spans times is behind
    ∙ ap (λ b. unless b fault.TooMany >>= (λ _. fitted s number reel transition times)) (le-ltb s.pictures 10000 many))

few : (rate : Rate) (s : State) (bytes : List ℕ) (number : ℕ) (reel : List ℕ) (transition : Transition) (spans : List Span) (times : Times)
    → HasTimes rate s bytes spans (Ok times) → times.rec_in ≤ times.rec_out → s.pictures < 10000
    → picture_from rate s bytes number reel transition spans ≡ fitted s number reel transition times
few rate s bytes number reel transition spans times is behind less =
    forwards rate s bytes number reel transition spans times is behind
    ∙ ap (λ b. unless b fault.TooMany >>= (λ _. fitted s number reel transition times)) (lt-ltb s.pictures 10000 less)

pub unfitting : (rate : Rate) (s : State) (bytes : List ℕ) (number : ℕ) (reel : List ℕ) (transition : Transition) (spans : List Span) (times : Times) (kind : ListKind)
    → HasTimes rate s bytes spans (Ok times) → times.rec_in ≤ times.rec_out → s.pictures < 10000 → transition_fits s.last_out times transition ≡ Err kind
    → Err kind ≡ picture_from rate s bytes number reel transition spans
unfitting rate s bytes number reel transition spans times kind is behind less fault_is =
    sym (few rate s bytes number reel transition spans times is behind less ∙ ap (λ (r : Result (Unit {0}) ListKind). r >>= (λ _. Ok (event_of s number reel transition times))) fault_is)

pub fitting : (rate : Rate) (s : State) (bytes : List ℕ) (number : ℕ) (reel : List ℕ) (transition : Transition) (spans : List Span) (times : Times)
    → HasTimes rate s bytes spans (Ok times) → times.rec_in ≤ times.rec_out → s.pictures < 10000 → transition_fits s.last_out times transition ≡ Ok tt
    → Ok (event_of s number reel transition times) ≡ picture_from rate s bytes number reel transition spans
fitting rate s bytes number reel transition spans times is behind less fits =
    sym (few rate s bytes number reel transition spans times is behind less ∙ ap (λ (r : Result (Unit {0}) ListKind). r >>= (λ _. Ok (event_of s number reel transition times))) fits)

-- ---- a transition

pub led : (before : Option ℕ) (times : Times) (d : ℕ) → is_at before times.rec_in ≡ true → 1 ≤ d → d ≤ times.rec_out - times.rec_in → Ok tt ≡ leads before times d
led before times d at some within = rw (at, le-leb 1 d some, le-leb d (times.rec_out - times.rec_in) within) refl

pub known_first : (before : Option ℕ) (times : Times) (code d : ℕ) → is_known_wipe code ≡ true → leads before times d ≡ transition_fits before times (Wipe code d)
known_first before times code d known = sym (ap (λ b. unless b fault.UnknownWipe >>= (λ _. leads before times d)) known)

pub unknown_first : (before : Option ℕ) (times : Times) (code d : ℕ) → is_known_wipe code ≡ false → Err fault.UnknownWipe ≡ transition_fits before times (Wipe code d)
unknown_first before times code d unknown = sym (ap (λ b. unless b fault.UnknownWipe >>= (λ _. leads before times d)) unknown)
