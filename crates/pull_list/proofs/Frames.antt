-- The spans of needed frames hold just the wanted ones.
use Rattle.std.proofs.Common.{◌≡◌, ℕ, zero, suc, get_or, ◌+◌, ◌-◌, ◌<◌, ◌≤◌, Bool, true, false, ◌||◌, List, [], ◌∷◌, map, length, All, refl, sym, ap, subst, ◌∙◌, arith, inl, inr}
use Rattle.std.specs.Prelude.{Some, None, slice_get, ◌==◌, ◌&&◌, ◌↔◌, ◌⊎◌}
use Rattle.std.specs.List.{list_any}
use Rattle.std.proofs.lemmas.Bool.{cases_lt, false≢true}
use Rattle.std.proofs.lemmas.Bool.Decides.{nat_tests}
use Rattle.std.proofs.lemmas.Option.{same_Some}
use Rattle.std.proofs.lemmas.List.Elements.{All-head, All-tail}
use Rattle.cf_base.specs.declared.key.Key.{Key}
use Rattle.cf_base.specs.declared.reel.ReelEntry.{ReelEntry}
use Rattle.conform_job.specs.Asks.{asks_of}
use Rattle.conform_job.specs.Keys.{is_key, keys_of_asks}
use Rattle.conform_job.specs.declared.parts.JobParts.{JobParts}
use Rattle.source_reels.specs.Laws.{FindsFaults}
use Rattle.source_reels.specs.Reels.{reels_fault}
use Rattle.pull_list.specs.declared.range.PullRange.{PullRange}
use Rattle.pull_list.specs.Pull.{AreRangesOf, HasFrame, Holds, HoldsIn, IsInDay, IsPullList, IsWanted}
use Rattle.pull_list.specs.inside.Spans.{HasKey, span_at, span_in, span_of}
use Rattle.pull_list.proofs.Needed.{all_keyed}

-- ---- keys

eq_by_test : (a b : ℕ) → (a == b) ≡ true → a ≡ b
eq_by_test a b h = grind (arith, nat_tests)

same_by_test : (a : ℕ) → (a == a) ≡ true
same_by_test a = grind (arith, nat_tests)

and_parts : (a b : Bool) → (a && b) ≡ true → (a ≡ true) × (b ≡ true)
and_parts true b h = (refl, h)
and_parts false b h = absurd (false≢true h)

or_parts : (a b : Bool) → (a || b) ≡ true → (a ≡ true) ⊎ (b ≡ true)
or_parts true b h = inl refl
or_parts false b h = inr h

or_left : (a b : Bool) → a ≡ true → (a || b) ≡ true
or_left true b h = refl
or_left false b h = absurd (false≢true h)

or_right : (a b : Bool) → b ≡ true → (a || b) ≡ true
or_right true b h = refl
or_right false b h = h

abbrev key_at : ℕ → ℕ → Key
key_at reel source = record { reel = reel; source = source }

own_key : (k : Key) (reel : ℕ) → k.reel ≡ reel → is_key (key_at reel k.source) k ≡ true
own_key k reel same = rw (same, same_by_test reel, same_by_test k.source) refl

-- ---- one span

-- a key of a reel, near which the frame is
record IsNear (margin reel x needed : ℕ) : Type 0 where
  pub not_before : needed ≤ x + margin
  pub not_after : x ≤ needed + margin

span_holds : (entries : List ReelEntry) (margin : ℕ) (k : Key) (e : ReelEntry) (reel x : ℕ) → slice_get entries k.reel ≡ Some e
    → Holds (span_at entries margin k) reel x → (k.reel ≡ reel) × HasFrame entries reel x × IsNear margin reel x k.source
span_holds entries margin k e reel x at h =
    let held : Holds (span_in margin k e) reel x = subst (λ o. Holds (span_of margin k o) reel x) at h in (
      held.0,
      (e, ap (slice_get entries) (sym held.0) ∙ at, omega (arith, held.1), omega (arith, held.2)),
      record { not_before = omega (arith, held.1); not_after = omega (arith, held.2) },
    )

span_of_near : (entries : List ReelEntry) (margin : ℕ) (k : Key) (e : ReelEntry) (reel x : ℕ) → slice_get entries k.reel ≡ Some e
    → k.reel ≡ reel → HasFrame entries reel x → IsNear margin reel x k.source → Holds (span_at entries margin k) reel x
span_of_near entries margin k e reel x at same has near =
    let one : has.0 ≡ e = same_Some has.0 e (sym has.1 ∙ ap (slice_get entries) (sym same) ∙ at) in
    let from : e.start ≤ x = subst (λ (e : ReelEntry). e.start ≤ x) one has.2 in
    let below : x < e.start + e.frames = subst (λ (e : ReelEntry). x < e.start + e.frames) one has.3 in
    let before = near.not_before in
    let after = near.not_after in
    let held : Holds (span_in margin k e) reel x = (same, omega (arith, from, before), omega (arith, below, after)) in
    subst (λ o. Holds (span_of margin k o) reel x) (sym at) held

-- ---- all of them

record IsWantedBy (entries : List ReelEntry) (keys : List Key) (margin reel x : ℕ) : Type 0 where
  pub in_reel : HasFrame entries reel x
  pub needed : ℕ
  pub need : list_any (is_key (key_at reel needed)) keys ≡ true
  pub near : IsNear margin reel x needed

module _ (entries : List ReelEntry) (margin reel x : ℕ) where
  wanted : (keys : List Key) → All (HasKey entries) keys → HoldsIn (map (span_at entries margin) keys) reel x → IsWantedBy entries keys margin reel x
  wanted [] all h = absurd h
  wanted (k ∷ ks) all (inl here) =
      let has = All-head (HasKey entries) k ks all in
      let is = span_holds entries margin k has.0 reel x has.1 here in
      record { in_reel = is.1; needed = k.source; need = or_left _ _ (own_key k reel is.0); near = is.2 }
  wanted (k ∷ ks) all (inr there) =
      let rest = wanted ks (All-tail (HasKey entries) k ks all) there in
      record { in_reel = rest.in_reel; needed = rest.needed; need = or_right _ _ rest.need; near = rest.near }

  held : (keys : List Key) → All (HasKey entries) keys → IsWantedBy entries keys margin reel x → HoldsIn (map (span_at entries margin) keys) reel x
  held [] all h = absurd (false≢true h.need)
  held (k ∷ ks) all h = elim (or_parts (is_key (key_at reel h.needed) k) (list_any (is_key (key_at reel h.needed)) ks) h.need) [
    | inl one ↦
        let parts = and_parts (reel == k.reel) (h.needed == k.source) one in
        let here = All-head (HasKey entries) k ks all in
        let source : h.needed ≡ k.source = eq_by_test h.needed k.source parts.1 in
        inl (span_of_near entries margin k here.0 reel x here.1 (sym (eq_by_test reel k.reel parts.0)) h.in_reel (subst (IsNear margin reel x) source h.near))
    | inr others ↦ inr (held ks (All-tail (HasKey entries) k ks all) (record { in_reel = h.in_reel; needed = h.needed; need = others; near = h.near }))
  ]

pub spans_exact : (p : JobParts) (margin reel x : ℕ) → HoldsIn (map (span_at p.reels margin) (keys_of_asks p.reels p.timeline.events (asks_of p.timeline))) reel x ↔ IsWanted p margin reel x
spans_exact p margin reel x =
    let keys = keys_of_asks p.reels p.timeline.events (asks_of p.timeline) in
    let all = all_keyed p.reels p.timeline.events (asks_of p.timeline) in (
      λ h. let w = wanted p.reels margin reel x keys all h in
          record { in_reel = w.in_reel; needed = w.needed; need = w.need; not_before = w.near.not_before; not_after = w.near.not_after },
      λ w. held p.reels margin reel x keys all (record { in_reel = w.in_reel; needed = w.needed; need = w.need; near = record { not_before = w.not_before; not_after = w.not_after } }),
    )

pub pull_is : (p : JobParts) (margin : ℕ) (spans ranges : List PullRange) → spans ≡ map (span_at p.reels margin) (keys_of_asks p.reels p.timeline.events (asks_of p.timeline))
    → AreRangesOf (HoldsIn spans) ranges → IsPullList p margin ranges
pull_is p margin spans ranges is of = record {
  some = of.some;
  order = of.order;
  exact = λ reel x.
      let same = spans_exact p margin reel x in
      let moved : HoldsIn spans reel x ↔ IsWanted p margin reel x = subst (λ (l : List PullRange). HoldsIn l reel x ↔ IsWanted p margin reel x) (sym is) same in
      (λ h. moved.0 ((of.exact reel x).0 h), λ h. (of.exact reel x).1 (moved.1 h));
}

-- ---- a range ends in its reel's day

-- the last frame of a range is held
holds_own : (ranges : List PullRange) (k : ℕ) (d : PullRange) → k < length ranges → (get_or ranges k d).start < (get_or ranges k d).end → HoldsIn ranges (get_or ranges k d).reel ((get_or ranges k d).end - 1)
holds_own [] k d lt some = absurd (omega (arith, lt))
holds_own (r ∷ rs) zero d lt some = inl (refl, omega (arith, some), omega (arith, some))
holds_own (r ∷ rs) (suc k) d lt some = inr (holds_own rs k d (omega (arith, lt)) some)

-- no frame of an accepted reel is past its day
pub day_of : (entries : List ReelEntry) (e : ReelEntry) (i : ℕ) → FindsFaults → reels_fault entries ≡ None → slice_get entries i ≡ Some e → e.start + e.frames ≤ e.day
day_of entries e i finds none at = elim (cases_lt e.day (e.start + e.frames)) [
  | inl past ↦ absurd (((finds entries).0 none i e at).1 (inl past))
  | inr within ↦ within
]

pub days_of : (p : JobParts) (margin : ℕ) (ranges : List PullRange) → FindsFaults → reels_fault p.reels ≡ None → IsPullList p margin ranges → All (IsInDay p.reels) ranges
days_of p margin ranges finds none is k d lt =
    let some = is.some k d lt in
    let r = get_or ranges k d in
    let w = (is.exact r.reel (r.end - 1)).0 (holds_own ranges k d lt some) in
    let has = w.in_reel in
    let within = day_of p.reels has.0 r.reel finds none has.1 in
    let last = has.3 in
    (has.0, has.1, omega (arith, within, last, some))

-- a key's frame is one of the reel at its place
pub key_in_reel : (entries : List ReelEntry) (key : Key) (e : ReelEntry) → slice_get entries key.reel ≡ Some e → HasKey entries key → (e.start ≤ key.source) × (key.source < e.start + e.frames)
key_in_reel entries key e at has =
    let one : has.0 ≡ e = same_Some has.0 e (sym has.1 ∙ at) in
    (subst (λ (e : ReelEntry). e.start ≤ key.source) one has.2, subst (λ (e : ReelEntry). key.source < e.start + e.frames) one has.3)
