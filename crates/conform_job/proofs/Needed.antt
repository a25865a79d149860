-- Keys that are needed have a path, and needs are met.
use Rattle.std.proofs.Common.{◌≡◌, ℕ, zero, suc, ℤ, ◌+◌, ◌-◌, ◌<◌, ◌≤◌, Bool, true, false, ◌||◌, List, [], ◌∷◌, ◌++◌, length, All, refl, sym, ap, subst, ◌∙◌, arith, Option, is_some, append_assoc, append-nil}
use Rattle.std.specs.Prelude.{Some, None, IsSome}
use Rattle.std.specs.Option.{option_and_then}
use Rattle.std.specs.List.{list_any, cons_option}
use Rattle.std.proofs.lemmas.Bool.{false≢true}
use Rattle.std.proofs.lemmas.Option.{none-some}
use Rattle.std.proofs.lemmas.List.Elements.{All-tail, All-head, filter_map-append}
use Rattle.std.proofs.lemmas.List.Folds.{list_any-append}
use Rattle.cf_base.specs.declared.event.EventRec.{EventRec}
use Rattle.cf_base.specs.declared.key.Key.{Key}
use Rattle.cf_base.specs.declared.reel.ReelEntry.{ReelEntry}
use Rattle.dpx_header.specs.declared.info.FrameInfo.{FrameInfo}
use Rattle.record_timeline.specs.Accepted.{RecordReel, frame_count}
use Rattle.record_timeline.specs.declared.Side.{Side}
use Rattle.record_timeline.specs.declared.Side.TheVariants.{Black, Frame}
use Rattle.record_timeline.specs.declared.Shot.{Shot}
use Rattle.record_timeline.specs.declared.Shot.TheVariants.{Gap, One, Two}
use Rattle.source_reels.specs.Reels.{path_of_key}
use Rattle.source_reels.proofs.KeyLaws.{keyed}
use Rattle.conform_job.specs.declared.frames.Ask.{Ask}
use Rattle.conform_job.specs.declared.parts.JobParts.{JobParts}
use Rattle.conform_job.specs.Asks.{asks_of, asks_from, asks_at, asks_of_side, asks_of_shot}
use Rattle.conform_job.specs.Keys.{is_key, info_at, key_at, key_of_ask, keys_of_asks, place_at}
use Rattle.conform_job.specs.Answers.{Grows}
use Rattle.conform_job.specs.Job.{info_of_key, need_of_side, need_of_shot, IsMet, AreMet}
use Rattle.conform_job.proofs.Growing.{same_key, same_by_test}
use Rattle.conform_job.proofs.Asking.{from_next, from_more}

module _ (entries : List ReelEntry) where
  at_place : (place : Option ℕ) (source : ℤ) (key : Key) → key_at entries source place ≡ Some key → (key.reel < length entries) × IsSome (path_of_key entries key)
  at_place None source key h = absurd (none-some key h)
  at_place (Some reel) source key h = keyed entries reel source key h

  module _ (events : List EventRec) where
    one_of : (r : Option Key) (asks : List Ask) (key : Key) → ((k : Key) → r ≡ Some k → (k.reel < length entries) × IsSome (path_of_key entries k))
        → (list_any (is_key key) (keys_of_asks entries events asks) ≡ true → (key.reel < length entries) × IsSome (path_of_key entries key))
        → list_any (is_key key) (cons_option r (keys_of_asks entries events asks)) ≡ true → (key.reel < length entries) × IsSome (path_of_key entries key)
    one_of None asks key here others h = others h
    one_of (Some k) asks key here others h = by (is_key key k) refl h
      where
        by : (b : Bool) → is_key key k ≡ b → (b || list_any (is_key key) (keys_of_asks entries events asks)) ≡ true → (key.reel < length entries) × IsSome (path_of_key entries key)
        by true same h = subst (λ (k : Key). (k.reel < length entries) × IsSome (path_of_key entries k)) (sym (same_key key k same)) (here k refl)
        by false same h = others h

    -- a key that is asked for is of a reel in the table, and has a path
    pub needed_has : (asks : List Ask) (key : Key) → list_any (is_key key) (keys_of_asks entries events asks) ≡ true → (key.reel < length entries) × IsSome (path_of_key entries key)
    needed_has [] key h = absurd (false≢true h)
    needed_has (ask ∷ asks) key h = one_of (key_of_ask entries events ask) asks key (λ k e. at_place (place_at entries events ask.event) ask.source k e) (needed_has asks key) h

-- record frame i stands in the list of all
split_at : (t : RecordReel) (i n : ℕ) → i ≤ n → asks_from t 0 n ≡ asks_from t 0 i ++ asks_from t i (n - i)
split_at t zero n le = let all : n - 0 ≡ n = omega arith in rw all refl
split_at t (suc i) n le =
    let fewer : n - i - 1 ≡ n - suc i = omega arith in
    let one : i + 1 ≡ suc i = omega arith in
    split_at t i n (omega arith) ∙ ap (λ xs. asks_from t 0 i ++ xs) (from_next t i (n - i) (omega arith) ∙ ap (λ k. asks_at t i ++ asks_from t k (n - i - 1)) one ∙ ap (λ m. asks_at t i ++ asks_from t (suc i) m) fewer)
    ∙ sym (append_assoc (asks_from t 0 i) (asks_at t i) (asks_from t (suc i) (n - suc i)))
    ∙ ap (λ xs. xs ++ asks_from t (suc i) (n - suc i)) (sym (from_more t i) ∙ ap (asks_from t 0) one)

or_true : (a b : Bool) → b ≡ true → (a || b) ≡ true
or_true true b h = refl
or_true false b h = h

dropped : {A : Type 0} (P : A → Type 0) (before after : List A) → All P (before ++ after) → All P after
dropped P [] after h = h
dropped P (b ∷ before) after h = dropped P before after (All-tail P b (before ++ after) h)

module _ (p : JobParts) (infos : List (Key × FrameInfo)) (asks : List Ask) (filled : Grows p None asks [] infos) where
  is_met : (r : Option FrameInfo) (key : Key) → info_at infos key ≡ r → is_some r ≡ true → IsSome (info_of_key infos key)
  is_met None key at h = absurd (false≢true h)
  is_met (Some info) key at h = rw at refl

  met_key : (r : Option Key) (ask : Ask) (before after : List Ask) → key_of_ask p.reels p.timeline.events ask ≡ r → asks ≡ before ++ (ask ∷ after) → IsSome r → IsSome (option_and_then (info_of_key infos) r)
  met_key None ask before after at split h = absurd (false≢true h)
  met_key (Some key) ask before after at split h =
      let same : is_key key key ≡ true = rw (same_by_test key.reel, same_by_test key.source) refl in
      let here : list_any (is_key key) (keys_of_asks p.reels p.timeline.events (ask ∷ after)) ≡ true = rw (at, same) refl in
      let all : list_any (is_key key) (keys_of_asks p.reels p.timeline.events (before ++ (ask ∷ after))) ≡ true =
      ap (list_any (is_key key)) (filter_map-append (key_of_ask p.reels p.timeline.events) before (ask ∷ after))
      ∙ list_any-append (is_key key) (keys_of_asks p.reels p.timeline.events before) (keys_of_asks p.reels p.timeline.events (ask ∷ after)) ∙ or_true _ _ here in
      is_met (info_at infos key) key refl (filled.keys key ∙ ap (λ xs. list_any (is_key key) (keys_of_asks p.reels p.timeline.events xs)) split ∙ all)

  met_ask : (ask : Ask) (before after : List Ask) → asks ≡ before ++ (ask ∷ after) → IsSome (option_and_then (info_of_key infos) (key_of_ask p.reels p.timeline.events ask))
  met_ask ask before after split =
      let P : Ask → Type 0 = λ ask. IsSome (key_of_ask p.reels p.timeline.events ask) in
      let found : All P (before ++ (ask ∷ after)) = subst (All P) split filled.found in
      met_key (key_of_ask p.reels p.timeline.events ask) ask before after refl split (All-head P ask after (dropped P before (ask ∷ after) found))

  met_side : (side : Side) (before after : List Ask) → asks ≡ before ++ (asks_of_side side ++ after) → IsMet side (need_of_side p infos side)
  met_side Black before after split = tt
  met_side (Frame event source) before after split = met_ask (record { event = event; source = source }) before after split

  pub met_shot : (shot : Shot) (before after : List Ask) → asks ≡ before ++ (asks_of_shot shot ++ after) → AreMet shot (need_of_shot p infos shot)
  met_shot Gap before after split = tt
  met_shot (One side) before after split = met_side side before after (split ∙ ap (λ xs. before ++ (xs ++ after)) (append-nil (asks_of_side side)))
  met_shot (Two old new transition k d) before after split =
      let whole : asks ≡ before ++ ((asks_of_side old ++ asks_of_side new) ++ after) = split ∙ ap (λ xs. before ++ ((asks_of_side old ++ xs) ++ after)) (append-nil (asks_of_side new)) in (
        met_side old before (asks_of_side new ++ after) (whole ∙ ap (λ xs. before ++ xs) (append_assoc (asks_of_side old) (asks_of_side new) after)),
        met_side new (before ++ asks_of_side old) after
            (whole ∙ ap (λ xs. before ++ xs) (append_assoc (asks_of_side old) (asks_of_side new) after) ∙ sym (append_assoc before (asks_of_side old) (asks_of_side new ++ after))),
      )

pub met_at : (p : JobParts) (infos : List (Key × FrameInfo)) (i : ℕ) (shot : Shot) → Grows p None (asks_of p.timeline) [] infos → i < frame_count p.timeline.events → asks_of_shot shot ≡ asks_at p.timeline i
    → AreMet shot (need_of_shot p infos shot)
unfolding asks_of
met_at p infos i shot filled lt is =
    met_shot p infos (asks_from p.timeline 0 (frame_count p.timeline.events)) filled shot (asks_from p.timeline 0 i) (asks_from p.timeline (i + 1) (frame_count p.timeline.events - i - 1))
    (split_at p.timeline i (frame_count p.timeline.events) (omega (arith, lt))
    ∙ ap (λ xs. asks_from p.timeline 0 i ++ xs) (from_next p.timeline i (frame_count p.timeline.events - i) (omega (arith, lt)) ∙ ap (λ xs. xs ++ asks_from p.timeline (i + 1) (frame_count p.timeline.events - i - 1)) (sym is)))

pub never : (entries : List ReelEntry) (key : Key) (r : Option (List ℕ)) → r ≡ path_of_key entries key → r ≡ None → IsSome (path_of_key entries key) → ⊥
never entries key r is none some = false≢true (ap is_some (sym none ∙ is) ∙ some)
