-- Overlaps in words of record frames, and the first thing of a list with where it comes from.
use Rattle.std.proofs.Common.{◌≡◌, ℕ, zero, suc, ◌+◌, ◌<◌, max, min, Bool, true, false, List, [], ◌∷◌, take, refl, ap, sym, ◌∙◌, arith, Option, ◌⊎◌, inl, inr}
use Rattle.std.specs.Prelude.{Some, None, slice_get}
use Rattle.std.specs.Option.{option_map}
use Rattle.std.specs.List.{filter_map, enumerate_from, find, cons_option}
use Rattle.std.proofs.lemmas.Bool.{cases_Bool, cases_order, ltb-true, lt-ltb, false≢true}
use Rattle.std.proofs.lemmas.Option.{none-some, same_Some}
use Rattle.cf_base.specs.declared.event.EventRec.{EventRec}
use Rattle.cf_base.proofs.FirstLaws.{nothing_in, nothing_from, first_from, not_found_in, not_found_from, get_take, get_take_within}
use Rattle.record_timeline.specs.declared.TimelineFault.{TimelineFault}
use Rattle.record_timeline.specs.declared.TimelineFault.TheVariants.{Overlap, TooLongReel}
use Rattle.record_timeline.specs.Accepted.{share, overlap_at, first_overlap}
use Rattle.record_timeline.specs.Laws.{Meet, SharingIsMeeting, NoneMeet, FindsMeetings, NamesFirstMeeting, OneCovers}
use Rattle.record_timeline.specs.inside.Spans.{NoOverlapBefore}

pub option_cases : {Y : Type 0} (o : Option Y) → (o ≡ None) ⊎ ((y : Y) × (o ≡ Some y))
option_cases None = inl refl
option_cases (Some y) = inr (y, refl)

-- ---- two lines

pub shares : SharingIsMeeting
shares e f = (
  (λ (h : share e f ≡ true). let below : max e.rec_in f.rec_in < min e.rec_out f.rec_out = ltb-true _ _ h in
      (max e.rec_in f.rec_in, (omega arith, omega arith), (omega arith, omega arith))),
  (λ (h : Meet e f). lt-ltb (max e.rec_in f.rec_in) (min e.rec_out f.rec_out) (omega (arith, h.1.0, h.1.1, h.2.0, h.2.1))),
)

-- lines that don't share a frame don't meet, and the other way round
pub never_meet : (e f : EventRec) → share e f ≡ false → Meet e f → ⊥
never_meet e f apart meet = false≢true (sym apart ∙ (shares e f).1 meet)

pub never_share : (e f : EventRec) → (Meet e f → ⊥) → share e f ≡ false
never_share e f apart = elim (cases_Bool (share e f)) [ inl met ↦ absurd (apart ((shares e f).0 met)) | inr none ↦ none ]

-- ---- a line and those before it

mapped_none : (e : EventRec) (o : Option EventRec) → option_map (λ (old : EventRec). Overlap e.line old.line) o ≡ None → o ≡ None
mapped_none e None h = refl
mapped_none e (Some old) h = absurd (none-some (Overlap e.line old.line) (sym h))

-- a line without an overlap shares no frame with an earlier one
pub apart_at : (events : List EventRec) (i : ℕ) (e : EventRec) → overlap_at events i e ≡ None → (j : ℕ) (f : EventRec) → j < i → slice_get events j ≡ Some f → share e f ≡ false
apart_at events i e none j f below at = not_found_in (share e) (take i events) (mapped_none e _ none) j f (get_take events i j below ∙ at)

pub no_overlap_at : (events : List EventRec) (i : ℕ) (e : EventRec) → ((j : ℕ) (f : EventRec) → j < i → slice_get events j ≡ Some f → share e f ≡ false) → overlap_at events i e ≡ None
no_overlap_at events i e apart =
    ap (option_map (λ (old : EventRec). Overlap e.line old.line))
    (not_found_from (share e) (take i events) (λ j f at. let h = get_take_within events i j f at in apart j f h.0 h.1))

-- ---- the whole list

pub none_at : (events : List EventRec) → first_overlap events ≡ None → (i : ℕ) (e : EventRec) → slice_get events i ≡ Some e → overlap_at events i e ≡ None
none_at events none i e at =
    let zero_plus : 0 + i ≡ i = omega arith in
    rw zero_plus at (nothing_in (λ (p : ℕ × EventRec). overlap_at events p.0 p.1) 0 events none i e at)

pub none_refused : (events : List EventRec) → ((i : ℕ) (e : EventRec) → slice_get events i ≡ Some e → overlap_at events i e ≡ None) → first_overlap events ≡ None
none_refused events none = nothing_from (λ (p : ℕ × EventRec). overlap_at events p.0 p.1) 0 events (λ i e at.
    let zero_plus : 0 + i ≡ i = omega arith in rw zero_plus (none i e at))

pub first_refused : (events : List EventRec) (i : ℕ) (e : EventRec) (fault : TimelineFault) → slice_get events i ≡ Some e → overlap_at events i e ≡ Some fault
    → NoOverlapBefore events i → first_overlap events ≡ Some fault
first_refused events i e fault at is none =
    let zero_plus : 0 + i ≡ i = omega arith in
    first_from (λ (p : ℕ × EventRec). overlap_at events p.0 p.1) 0 events i e fault at (rw zero_plus is)
    (λ k z below there. let first : 0 + k ≡ k = omega arith in rw first (none k z below there))

-- one line more without an overlap
pub no_overlap_more : (events : List EventRec) (i : ℕ) (e : EventRec) → slice_get events i ≡ Some e → overlap_at events i e ≡ None → NoOverlapBefore events i → NoOverlapBefore events (i + 1)
no_overlap_more events i e at is none k z below there = elim (cases_order k i) [
  | inl same ↦
      let one : z ≡ e = same_Some _ _ (sym there ∙ ap (slice_get events) same ∙ at) in
      rw (same, one) is
  | inr (inl less) ↦ none k z less there
  | inr (inr more) ↦ absurd (omega arith)
]

pub finds_meetings : FindsMeetings
finds_meetings events = (
  (λ (none : first_overlap events ≡ None) (i k j : ℕ) (e f : EventRec) (below : k < i) (before : j < k) (at_k : slice_get events k ≡ Some e) (at_j : slice_get events j ≡ Some f).
      never_meet e f (apart_at events k e (none_at events none k e at_k) j f before at_j)),
  (λ (apart : NoneMeet events). none_refused events (λ i e at. no_overlap_at events i e (λ j f before at_j.
      never_share e f (apart (i + 1) i j e f (omega arith) before at at_j)))),
)

-- two lines that cover a frame are one
pub one_covers : OneCovers
one_covers events none i j e f n at_i at_j covers_e covers_f = elim (cases_order i j) [
  | inl same ↦ same
  | inr (inl less) ↦ absurd (never_meet f e (apart_at events j f (none_at events none j f at_j) i e less at_i) (n, covers_f, covers_e))
  | inr (inr more) ↦ absurd (never_meet e f (apart_at events i e (none_at events none i e at_i) j f more at_j) (n, covers_e, covers_f))
]

-- ---- where the first thing comes from

-- what a function first gives of a list's elements with their places is given of one of them, and nothing of those before it
abbrev FirstGiven : {X Y : Type 0} → (ℕ × X → Option Y) → ℕ → List X → Y → Type 0
FirstGiven {X} h a xs y = (i : ℕ) × (x : X) × (slice_get xs i ≡ Some x) × (h (a + i, x) ≡ Some y) × ((k : ℕ) (z : X) → k < i → slice_get xs k ≡ Some z → h (a + k, z) ≡ None)

first_in : {X Y : Type 0} (h : ℕ × X → Option Y) (a : ℕ) (xs : List X) (y : Y) → slice_get (filter_map h (enumerate_from a xs)) 0 ≡ Some y → FirstGiven h a xs y
first_in h a [] y e = absurd (none-some y e)
first_in {X} {Y} h a (x ∷ xs) y e =
    let here : a + 0 ≡ a = omega arith in
    elim (option_cases (h (a, x))) [
      | inl none ↦
          let rest = first_in h (a + 1) xs y (sym (ap (λ (o : Option Y). slice_get (cons_option o (filter_map h (enumerate_from (a + 1) xs))) 0) none) ∙ e) in
          let step : (a + 1) + rest.0 ≡ a + suc rest.0 = omega arith in
          (suc rest.0, rest.1, rest.2, rw step at rest.3, λ k z below at. before rest.0 none rest.4 k z below at)
      | inr some ↦
          let same : Some some.0 ≡ Some y = sym (ap (λ (o : Option Y). slice_get (cons_option o (filter_map h (enumerate_from (a + 1) xs))) 0) some.1) ∙ e in
          (0, x, refl, rw here (some.1 ∙ same), λ k z below at. absurd (omega arith))
    ]
  where
    before : (i : ℕ) → h (a, x) ≡ None → ((k : ℕ) (z : X) → k < i → slice_get xs k ≡ Some z → h ((a + 1) + k, z) ≡ None)
        → (k : ℕ) (z : X) → k < suc i → slice_get (x ∷ xs) k ≡ Some z → h (a + k, z) ≡ None
    before i none earlier zero z below at =
        let here : a + 0 ≡ a = omega arith in
        let same : z ≡ x = same_Some _ _ (sym at) in
        rw (here, same) none
    before i none earlier (suc k) z below at =
        let step : (a + 1) + k ≡ a + suc k = omega arith in
        rw step at (earlier k z (omega arith) at)

-- what is found is the first that passes
found_in : {X : Type 0} (p : X → Bool) (xs : List X) (x : X) → find p xs ≡ Some x
    → (j : ℕ) × (slice_get xs j ≡ Some x) × (p x ≡ true) × ((k : ℕ) (z : X) → k < j → slice_get xs k ≡ Some z → p z ≡ false)
found_in p [] x e = absurd (none-some x e)
found_in {X} p (w ∷ xs) x e = elim (cases_Bool (p w)) [
  | inl passes ↦
      let same : w ≡ x = same_Some _ _ (rw passes at e) in
      (0, ap Some same, rw same at passes, λ k z below at. absurd (omega arith))
  | inr fails ↦
      let rest = found_in p xs x (rw fails at e) in
      (suc rest.0, rest.1, rest.2, λ k z below at. before rest.0 fails rest.3 k z below at)
]
  where
    before : (j : ℕ) → p w ≡ false → ((k : ℕ) (z : X) → k < j → slice_get xs k ≡ Some z → p z ≡ false)
        → (k : ℕ) (z : X) → k < suc j → slice_get (w ∷ xs) k ≡ Some z → p z ≡ false
    before j fails earlier zero z below at =
        let same : z ≡ w = same_Some _ _ (sym at) in
        rw same fails
    before j fails earlier (suc k) z below at = earlier k z (omega arith) at

overlap_lines : (e : EventRec) (o : Option EventRec) (line earlier : ℕ) → option_map (λ (old : EventRec). Overlap e.line old.line) o ≡ Some (Overlap line earlier)
    → (f : EventRec) × (o ≡ Some f) × (line ≡ e.line) × (earlier ≡ f.line)
overlap_lines e None line earlier h = absurd (none-some (Overlap line earlier) h)
overlap_lines e (Some f) line earlier h =
    let same : Overlap e.line f.line ≡ Overlap line earlier = same_Some _ _ h in
    (f, refl, sym (ap late same), sym (ap early same))
  where
    late : TimelineFault → ℕ
    late (Overlap line earlier) = line
    late TooLongReel = 0

    early : TimelineFault → ℕ
    early (Overlap line earlier) = earlier
    early TooLongReel = 0

pub names_first_meeting : NamesFirstMeeting
names_first_meeting events line earlier refused =
    let first = first_in (λ (p : ℕ × EventRec). overlap_at events p.0 p.1) 0 events (Overlap line earlier) refused in
    let zero_plus : 0 + first.0 ≡ first.0 = omega arith in
    let e : EventRec = first.1 in
    let lines = overlap_lines e (find (share e) (take first.0 events)) line earlier (rw zero_plus at first.3) in
    let f : EventRec = lines.0 in
    let found = found_in (share e) (take first.0 events) f lines.1 in
    let within = get_take_within events first.0 found.0 f found.1 in (
      first.0,
      found.0,
      e,
      f,
      record {
        before = within.0;
        late_line = first.2;
        early_line = within.1;
        meet = (shares e f).0 found.2;
        first = (λ (k j : ℕ) (a b : EventRec) (below : k < first.0) (before : j < k) (at_k : slice_get events k ≡ Some a) (at_j : slice_get events j ≡ Some b).
            let plus : 0 + k ≡ k = omega arith in
            never_meet a b (apart_at events k a (rw plus at (first.4 k a below at_k)) j b before at_j));
        earliest = (λ (j : ℕ) (g : EventRec) (below : j < found.0) (at : slice_get events j ≡ Some g).
            never_meet e g (found.3 j g below (get_take events first.0 j (omega (arith, within.0)) ∙ at)));
      },
      lines.2,
      lines.3,
    )
