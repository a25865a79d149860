-- What record frames need: frames of the table's reels, each by its key.
use Rattle.std.proofs.Common.{◌≡◌, ℕ, ℤ, pos, negsuc, ◌+◌, ◌<◌, ◌≤◌, Bool, true, false, cond, List, [], ◌∷◌, ◌++◌, map, All, refl, sym, ap, subst, ◌∙◌, arith, Option}
use Rattle.std.specs.Prelude.{Result, Ok, Err, OnOk, Some, None, IfSome, IsSome, slice_get, ◌&&◌, int_le, int_lt, flat_map}
use Rattle.std.specs.List.{cons_option, range_with_len}
use Rattle.std.specs.Option.{option_map, option_and_then}
use Rattle.std.proofs.lemmas.Bool.{false≢true}
use Rattle.std.proofs.lemmas.Bool.Decides.{nat_tests}
use Rattle.std.proofs.lemmas.Option.{none-some, same_Some}
use Rattle.std.proofs.lemmas.List.Elements.{All-cons, All-nil, filter_map-append}
use Rattle.std.proofs.lemmas.List.{append_assoc, map-append}
use Rattle.std.proofs.lemmas.List.Concat.{flat_map-append}
use Rattle.std.proofs.Common.{append-nil}
use Rattle.cf_base.proofs.RangeLaws.{range_more}
use Rattle.cf_base.specs.declared.event.EventRec.{EventRec}
use Rattle.cf_base.specs.declared.key.Key.{Key}
use Rattle.cf_base.specs.declared.reel.ReelEntry.{ReelEntry}
use Rattle.dpx_header.specs.declared.info.FrameInfo.{FrameInfo}
use Rattle.record_timeline.specs.Accepted.{RecordReel}
use Rattle.record_timeline.specs.declared.Side.{Side}
use Rattle.record_timeline.specs.declared.Side.TheVariants.{Black, Frame}
use Rattle.record_timeline.specs.declared.Shot.{Shot}
use Rattle.record_timeline.specs.declared.Shot.TheVariants.{Gap, One, Two}
use Rattle.source_reels.specs.Reels.{has_frame, from_zero, key_of_frame}
use Rattle.conform_job.specs.Asks.{asks_at, asks_from, asks_of_side, asks_of_shot, shot_of_frame}
use Rattle.conform_job.specs.Job.{JobData, info_of_key, need_of_side, need_of_shot, need_at, IsMet, AreMet}
use Rattle.conform_job.specs.Keys.{info_at, key_at, key_of_ask, keys_of_asks, place_at}
use Rattle.conform_job.specs.declared.frames.Ask.{Ask}
use Rattle.conform_job.specs.declared.parts.JobParts.{JobParts}
use Rattle.pull_list.specs.declared.range.PullRange.{PullRange}
use Rattle.pull_list.specs.inside.Spans.{HasKey, span_at, spans_of_side}

-- ---- a key is of a frame that its reel has

low : (start frames n : ℕ) → (int_le (pos start) (pos n) && int_lt (pos n) (pos (start + frames))) ≡ true → start ≤ n
low start frames n h = grind (arith, nat_tests)

high : (start frames n : ℕ) → (int_le (pos start) (pos n) && int_lt (pos n) (pos (start + frames))) ≡ true → n < start + frames
high start frames n h = grind (arith, nat_tests)

framed_at : (e : ReelEntry) (source : ℤ) → has_frame e source ≡ true → (e.start ≤ from_zero source) × (from_zero source < e.start + e.frames)
framed_at e (pos n) h = (low e.start e.frames n h, high e.start e.frames n h)
framed_at e (negsuc n) h = absurd (false≢true h)

framed : (entries : List ReelEntry) (b : Bool) (e : ReelEntry) (reel : ℕ) (source : ℤ) (key : Key) → slice_get entries reel ≡ Some e → has_frame e source ≡ b
    → cond b (Some (let k : Key = record { reel = reel; source = from_zero source } in k)) None ≡ Some key → HasKey entries key
framed entries false e reel source key at has h = absurd (none-some key h)
framed entries true e reel source key at has h =
    let k : Key = record { reel = reel; source = from_zero source } in
    let same : k ≡ key = same_Some k key h in
    let within = framed_at e source has in
    subst (HasKey entries) same (e, at, within.0, within.1)

keyed : (entries : List ReelEntry) (e : Option ReelEntry) (reel : ℕ) (source : ℤ) (key : Key) → slice_get entries reel ≡ e → option_and_then (key_of_frame reel source) e ≡ Some key → HasKey entries key
keyed entries None reel source key at h = absurd (none-some key h)
keyed entries (Some e) reel source key at h = framed entries (has_frame e source) e reel source key at refl h

placed : (entries : List ReelEntry) (place : Option ℕ) (source : ℤ) (key : Key) → key_at entries source place ≡ Some key → HasKey entries key
placed entries None source key h = absurd (none-some key h)
placed entries (Some reel) source key h = keyed entries (slice_get entries reel) reel source key refl h

asked : (entries : List ReelEntry) (events : List EventRec) (ask : Ask) (key : Key) → key_of_ask entries events ask ≡ Some key → HasKey entries key
asked entries events ask key h = placed entries (place_at entries events ask.event) ask.source key h

-- all that are asked for are
pub all_keyed : (entries : List ReelEntry) (events : List EventRec) (asks : List Ask) → All (HasKey entries) (keys_of_asks entries events asks)
all_keyed entries events [] = All-nil (HasKey entries)
all_keyed entries events (ask ∷ asks) = by (key_of_ask entries events ask) (asked entries events ask) (all_keyed entries events asks)
  where
    by : (key : Option Key) → ((k : Key) → key ≡ Some k → HasKey entries k) → All (HasKey entries) (keys_of_asks entries events asks) → All (HasKey entries) (cons_option key (keys_of_asks entries events asks))
    by None has rest = rest
    by (Some k) has rest = All-cons (HasKey entries) k (keys_of_asks entries events asks) (has k refl) rest

-- ---- the needs of a record frame are what it asks for

from_more : (t : RecordReel) (i : ℕ) → asks_from t 0 (i + 1) ≡ asks_from t 0 i ++ asks_at t i
from_more t i =
    ap (flat_map (asks_at t)) (range_more i) ∙ flat_map-append (asks_at t) (range_with_len 0 i) (i ∷ [])
    ∙ ap (λ asks. flat_map (asks_at t) (range_with_len 0 i) ++ asks) (append-nil (asks_at t i))

module _ (p : JobParts) (infos : List (Key × FrameInfo)) (margin : ℕ) where
  has_info : (key : Key) (info : Option FrameInfo) → HasKey p.reels key → IfSome (option_map (λ (info : FrameInfo). let n : Key × FrameInfo = (key, info) in n) info) (λ (s : Key × FrameInfo). HasKey p.reels s.0)
  has_info key None has = tt
  has_info key (Some info) has = has

  has_key : (key : Option Key) → ((k : Key) → key ≡ Some k → HasKey p.reels k) → IfSome (option_and_then (info_of_key infos) key) (λ (s : Key × FrameInfo). HasKey p.reels s.0)
  has_key None has = tt
  has_key (Some key) has = has_info key (info_at infos key) (has key refl)

  has_side : (side : Side) → IfSome (need_of_side p infos side) (λ (s : Key × FrameInfo). HasKey p.reels s.0)
  has_side Black = tt
  has_side (Frame event source) =
      let ask : Ask = record { event = event; source = source } in
      has_key (key_of_ask p.reels p.timeline.events ask) (asked p.reels p.timeline.events ask)

  pub has_old : (shot : Shot) → IfSome (need_of_shot p infos shot).old (λ (s : Key × FrameInfo). HasKey p.reels s.0)
  has_old Gap = tt
  has_old (One side) = tt
  has_old (Two old new transition k d) = has_side old

  pub has_new : (shot : Shot) → IfSome (need_of_shot p infos shot).new (λ (s : Key × FrameInfo). HasKey p.reels s.0)
  has_new Gap = tt
  has_new (One side) = has_side side
  has_new (Two old new transition k d) = has_side new

  spans_info : (key : Key) (info : Option FrameInfo) → IsSome (option_map (λ (info : FrameInfo). let n : Key × FrameInfo = (key, info) in n) info)
      → spans_of_side p.reels margin (option_map (λ (info : FrameInfo). let n : Key × FrameInfo = (key, info) in n) info) ≡ span_at p.reels margin key ∷ []
  spans_info key None met = absurd (false≢true met)
  spans_info key (Some info) met = refl

  spans_key : (key : Option Key) → IsSome (option_and_then (info_of_key infos) key) → spans_of_side p.reels margin (option_and_then (info_of_key infos) key) ≡ map (span_at p.reels margin) (cons_option key [])
  spans_key None met = absurd (false≢true met)
  spans_key (Some key) met = spans_info key (info_at infos key) met

  spans_side : (side : Side) → IsMet side (need_of_side p infos side) → spans_of_side p.reels margin (need_of_side p infos side) ≡ map (span_at p.reels margin) (keys_of_asks p.reels p.timeline.events (asks_of_side side))
  spans_side Black met = refl
  spans_side (Frame event source) met = spans_key (key_of_ask p.reels p.timeline.events (record { event = event; source = source })) met

  both : (one two : List Ask) → map (span_at p.reels margin) (keys_of_asks p.reels p.timeline.events one) ++ map (span_at p.reels margin) (keys_of_asks p.reels p.timeline.events two)
      ≡ map (span_at p.reels margin) (keys_of_asks p.reels p.timeline.events (one ++ two))
  both one two =
      sym (map-append (span_at p.reels margin) (keys_of_asks p.reels p.timeline.events one) (keys_of_asks p.reels p.timeline.events two))
      ∙ ap (map (span_at p.reels margin)) (sym (filter_map-append (key_of_ask p.reels p.timeline.events) one two))

  spans_shot : (shot : Shot) → AreMet shot (need_of_shot p infos shot)
      → spans_of_side p.reels margin (need_of_shot p infos shot).old ++ spans_of_side p.reels margin (need_of_shot p infos shot).new ≡ map (span_at p.reels margin) (keys_of_asks p.reels p.timeline.events (asks_of_shot shot))
  spans_shot Gap met = refl
  spans_shot (One side) met = spans_side side met ∙ ap (λ asks. map (span_at p.reels margin) (keys_of_asks p.reels p.timeline.events asks)) (sym (append-nil (asks_of_side side)))
  spans_shot (Two old new transition k d) met =
      ap (λ l. l ++ spans_of_side p.reels margin (need_of_side p infos new)) (spans_side old met.0)
      ∙ ap (λ l. map (span_at p.reels margin) (keys_of_asks p.reels p.timeline.events (asks_of_side old)) ++ l) (spans_side new met.1)
      ∙ both (asks_of_side old) (asks_of_side new)
      ∙ ap (λ asks. map (span_at p.reels margin) (keys_of_asks p.reels p.timeline.events (asks_of_side old ++ asks))) (sym (append-nil (asks_of_side new)))

  -- one record frame more
  pub spans_more : (i : ℕ) → map (span_at p.reels margin) (keys_of_asks p.reels p.timeline.events (asks_from p.timeline 0 i)) ++ map (span_at p.reels margin) (keys_of_asks p.reels p.timeline.events (asks_at p.timeline i))
      ≡ map (span_at p.reels margin) (keys_of_asks p.reels p.timeline.events (asks_from p.timeline 0 (i + 1)))
  spans_more i =
      both (asks_from p.timeline 0 i) (asks_at p.timeline i)
      ∙ ap (λ asks. map (span_at p.reels margin) (keys_of_asks p.reels p.timeline.events asks)) (sym (from_more p.timeline i))

pub spans_at : (job : JobData) (margin i : ℕ) → AreMet (shot_of_frame job.parts.timeline i) (need_at job i)
    → spans_of_side job.parts.reels margin (need_at job i).old ++ spans_of_side job.parts.reels margin (need_at job i).new
    ≡ map (span_at job.parts.reels margin) (keys_of_asks job.parts.reels job.parts.timeline.events (asks_at job.parts.timeline i))
spans_at job margin i met = spans_shot job.parts job.infos margin (shot_of_frame job.parts.timeline i) met

-- the two sides of a need, one after the other
pub side_by_side : (text old new whole : List PullRange) → old ++ new ≡ whole → (text ++ old) ++ new ≡ text ++ whole
side_by_side text old new whole is = append_assoc text old new ∙ ap (λ l. text ++ l) is

pub on_ok : {A E : Type 0} (r : Result A E) (P Q : Type 0) → OnOk r P → (P → Q) → OnOk r Q
on_ok (Ok a) P Q h f = f h
on_ok (Err e) P Q h f = h
