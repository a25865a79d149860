-- The first frame and the end of a reel: an event more, and what they are to each event.
use Rattle.std.proofs.Common.{◌≡◌, ℕ, zero, suc, ◌+◌, ◌<◌, ◌≤◌, max, min, Bool, true, false, List, [], ◌∷◌, ◌++◌, length, map, take, get_or, refl, ap, sym, ◌∙◌, arith, Option, cond, append-nil, inl, inr}
use Rattle.std.specs.Prelude.{Some, None, unwrap_or, nat_lt, slice_get}
use Rattle.std.specs.Option.{option_map}
use Rattle.std.specs.List.{filter}
use Rattle.std.proofs.lemmas.Bool.{cases_Bool, lt-ltb}
use Rattle.std.proofs.lemmas.Bool.Decides.{nat_tests}
use Rattle.std.proofs.lemmas.Option.{none-some, same_Some, slice_get_read}
use Rattle.std.proofs.lemmas.List.{take_more, map-append}
use Rattle.std.proofs.lemmas.List.Elements.{filter_more}
use Rattle.cf_base.specs.declared.event.EventRec.{EventRec}
use Rattle.cf_base.specs.declared.timing.Rate.{Rate}
use Rattle.cf_base.specs.declared.timing.Mode.{Mode}
use Rattle.cf_base.specs.Timing.{frames_in_day}
use Rattle.cf_base.specs.Events.{record_length, IsWellMade}
use Rattle.record_timeline.specs.Accepted.{least, greatest, first_frame, end_frame, frame_count}
use Rattle.record_timeline.proofs.ShotLaws.{day_some, made_at}

abbrev pub begins_of : List EventRec → List ℕ
begins_of events = map (λ (e : EventRec). e.rec_in) (filter (λ (e : EventRec). nat_lt 0 (record_length e)) events)

abbrev pub least_of : List ℕ → Option ℕ
least_of [] = None
least_of (n ∷ more) = Some (least (n ∷ more))

greatest_push : (ns : List ℕ) (m : ℕ) → greatest (ns ++ m ∷ []) ≡ max m (greatest ns)
greatest_push [] m = refl
greatest_push (n ∷ ns) m = let rest = greatest_push ns m in omega (arith, rest)

least_push : (n : ℕ) (ns : List ℕ) (m : ℕ) → least (n ∷ (ns ++ m ∷ [])) ≡ min m (least (n ∷ ns))
least_push n [] m = omega arith
least_push n (k ∷ ns) m = let rest = least_push k ns m in omega (arith, rest)

pub least_of_push : (ns : List ℕ) (m : ℕ) → least_of (ns ++ m ∷ []) ≡ Some (unwrap_or (option_map (min m) (least_of ns)) m)
least_of_push [] m = refl
least_of_push (n ∷ ns) m = ap Some (least_push n ns m)

pub least_is : (ns : List ℕ) → unwrap_or (least_of ns) 0 ≡ least ns
least_is [] = refl
least_is (n ∷ ns) = refl

pub end_more : (events : List EventRec) (i : ℕ) (e : EventRec) → i < length events → e ≡ get_or events i e → end_frame (take (i + 1) events) ≡ max e.rec_out (end_frame (take i events))
end_more events i e within at =
    let E : EventRec → ℕ = λ (x : EventRec). x.rec_out in
    ap (λ (es : List EventRec). greatest (map E es)) (take_more events i e within)
    ∙ rw (← at) (ap greatest (map-append E (take i events) (e ∷ [])))
    ∙ greatest_push (map E (take i events)) e.rec_out

begins_more : (events : List EventRec) (i : ℕ) (e : EventRec) (b : Bool) → i < length events → e ≡ get_or events i e → nat_lt 0 (record_length e) ≡ b
    → begins_of (take (i + 1) events) ≡ begins_of (take i events) ++ map (λ (e : EventRec). e.rec_in) (cond b (e ∷ []) [])
begins_more events i e b within at is =
    let E : EventRec → ℕ = λ (x : EventRec). x.rec_in in
    let P : EventRec → Bool = λ (x : EventRec). nat_lt 0 (record_length x) in
    ap (map E) (filter_more P events i e within)
    ∙ rw (← at, is) (map-append E (filter P (take i events)) (cond b (e ∷ []) []))

pub first_more : (events : List EventRec) (i : ℕ) (e : EventRec) → i < length events → e ≡ get_or events i e → e.rec_in < e.rec_out
    → Some (unwrap_or (option_map (min e.rec_in) (least_of (begins_of (take i events)))) e.rec_in) ≡ least_of (begins_of (take (i + 1) events))
first_more events i e within at some =
    sym (ap least_of (begins_more events i e true within at (lt-ltb 0 (record_length e) (omega arith))) ∙ least_of_push (begins_of (take i events)) e.rec_in)

pub first_same : (events : List EventRec) (i : ℕ) (e : EventRec) → i < length events → e ≡ get_or events i e → e.rec_out ≤ e.rec_in
    → least_of (begins_of (take i events)) ≡ least_of (begins_of (take (i + 1) events))
first_same events i e within at none =
    let no : nat_lt 0 (record_length e) ≡ false = grind (arith, nat_tests) in
    sym (ap least_of (begins_more events i e false within at no ∙ append-nil (begins_of (take i events))))

-- ---- what they are to each event

pub end_over : (events : List EventRec) (i : ℕ) (e : EventRec) → slice_get events i ≡ Some e → e.rec_out ≤ end_frame events
end_over [] i e at = absurd (none-some e at)
end_over (x ∷ events) zero e at = let same : x.rec_out ≡ e.rec_out = ap (λ (y : EventRec). y.rec_out) (same_Some x e at) in omega (arith, same)
end_over (x ∷ events) (suc i) e at = let rest = end_over events i e at in omega (arith, rest)

end_under : (events : List EventRec) (m : ℕ) → 0 < m → ((i : ℕ) (e : EventRec) → slice_get events i ≡ Some e → e.rec_out < m) → end_frame events < m
end_under [] m some each = some
end_under (e ∷ events) m some each =
    let rest = end_under events m some (λ i x at. each (suc i) x at) in
    let here = each 0 e refl in
    omega (arith, rest, here)

least_under : (ns : List ℕ) (k m : ℕ) → slice_get ns k ≡ Some m → least ns ≤ m
least_under [] k m at = absurd (none-some m at)
least_under (n ∷ []) zero m at = let same : n ≡ m = same_Some n m at in omega (arith, same)
least_under (n ∷ []) (suc k) m at = absurd (none-some m at)
least_under (n ∷ l ∷ ns) zero m at = let same : n ≡ m = same_Some n m at in omega (arith, same)
least_under (n ∷ l ∷ ns) (suc k) m at = let rest = least_under (l ∷ ns) k m at in omega (arith, rest)

pub begins_has : (events : List EventRec) (i : ℕ) (e : EventRec) → slice_get events i ≡ Some e → e.rec_in < e.rec_out → (k : ℕ) × (slice_get (begins_of events) k ≡ Some e.rec_in)
begins_has [] i e at some = absurd (none-some e at)
begins_has (x ∷ events) zero e at some =
    let same : x ≡ e = same_Some x e at in
    let long : nat_lt 0 (record_length x) ≡ true = rw same (lt-ltb 0 (record_length e) (omega arith)) in
    (0, rw long (ap (λ (y : EventRec). Some y.rec_in) same))
begins_has (x ∷ events) (suc i) e at some =
    let rest = begins_has events i e at some in
    elim (cases_Bool (nat_lt 0 (record_length x))) [
      | inl long ↦ (suc rest.0, rw long rest.1)
      | inr short ↦ (rest.0, rw short rest.1)
    ]

pub first_under : (events : List EventRec) (i : ℕ) (e : EventRec) → slice_get events i ≡ Some e → e.rec_in < e.rec_out → first_frame events ≤ e.rec_in
first_under events i e at some = let there = begins_has events i e at some in least_under (begins_of events) there.0 e.rec_in there.1

module _ (rate : Rate) (mode : Mode) (events : List EventRec) (made : IsWellMade rate mode events) where
  -- a well-made list has an event with record frames
  pub some_frames : first_frame events < end_frame events
  some_frames =
      let some = made.some_length in
      let e : EventRec = some.1 in
      let at : slice_get events some.0 ≡ Some e = slice_get_read events (length events) some.0 e refl some.2 (sym some.3) in
      let low = first_under events some.0 e at (omega (arith, some.4)) in
      let high = end_over events some.0 e at in
      omega (arith, some.4, low, high)

  pub end_in_day : first_frame events + frame_count events < frames_in_day rate mode
  end_in_day =
      let order = some_frames in
      let low = end_under events (frames_in_day rate mode) (day_some rate mode) (λ i e at. (made_at rate mode events made i e at).record_out) in
      omega (arith, order, low)
