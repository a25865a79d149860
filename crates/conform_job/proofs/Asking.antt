-- Refusals of asks, one after another.
use Rattle.std.proofs.Common.{◌≡◌, ℕ, zero, suc, ◌+◌, ◌-◌, ◌<◌, List, [], ◌∷◌, ◌++◌, filter_map, slice_get, refl, sym, ap, subst, ◌∙◌, arith, append-nil, append_assoc, Option, Result, is_some, true, false}
use Rattle.std.specs.Prelude.{Some, None, IfSome, Ok, Err, OnOk}
use Rattle.std.proofs.lemmas.Bool.{true≢false}
use Rattle.std.proofs.lemmas.List.Elements.{filter_map-append}
use Rattle.cf_base.specs.declared.key.Key.{Key}
use Rattle.dpx_header.specs.declared.info.FrameInfo.{FrameInfo}
use Rattle.record_timeline.specs.Accepted.{RecordReel}
use Rattle.scan_source.specs.World.{World, file_at}
use Rattle.source_reels.proofs.Heads.{told_more}
use Rattle.conform_job.specs.declared.frames.Named.{Named}
use Rattle.conform_job.specs.declared.parts.JobParts.{JobParts}
use Rattle.conform_job.specs.declared.parts.JobFault.{JobFault}
use Rattle.conform_job.specs.declared.parts.JobFault.TheVariants as fault
use Rattle.conform_job.specs.declared.frames.Ask.{Ask}
use Rattle.record_timeline.specs.declared.Shot.TheVariants.{One, Two}
use Rattle.record_timeline.specs.declared.Side.{Side}
use Rattle.cf_base.specs.declared.event.Transition.{Transition}
use Rattle.conform_job.specs.Asks.{asks_at, asks_from, asks_of_side, asks_of_shot}
use Rattle.conform_job.specs.Keys.{info_at, key_of_ask}
use Rattle.conform_job.specs.Refusals.{Files, asks_refusal, ask_refusal, key_refusal, name_of_ask}
use Rattle.conform_job.specs.Answers.{IsRefusal, IsStep, AreInfosOf}
use Rattle.conform_job.proofs.Growing.{one_refusal, kept_passes, seen_is}

head_rest : {A : Type 0} (xs ys : List A) → slice_get xs 0 ≡ None → slice_get (xs ++ ys) 0 ≡ slice_get ys 0
head_rest [] ys e = refl
head_rest (x ∷ xs) ys e = absurd (some_none x e)
  where
    some_none : {A : Type 0} (x : A) → ◌≡◌ {A = Option A} (Some x) None → ⊥
    some_none x h = cc

head_first : {A : Type 0} (xs ys : List A) (a : A) → slice_get xs 0 ≡ Some a → slice_get (xs ++ ys) 0 ≡ Some a
head_first [] ys a e = absurd (none_some a e)
  where
    none_some : {A : Type 0} (x : A) → ◌≡◌ {A = Option A} None (Some x) → ⊥
    none_some x h = cc
head_first (x ∷ xs) ys a e = e

pub on_ok : {A E : Type 0} (r : Result A E) (P Q : Type 0) → (P → Q) → OnOk r P → OnOk r Q
on_ok (Ok a) P Q f h = f h
on_ok (Err e) P Q f h = h

pub on_both : {A E : Type 0} (r : Result A E) (P Q R : Type 0) → (P → Q → R) → OnOk r P → OnOk r Q → OnOk r R
on_both (Ok a) P Q R f h k = f h k
on_both (Err e) P Q R f h k = h

told_both : {A : Type 0} (told : Option A) (P Q R : A → Type 0) → ((a : A) → P a → Q a → R a) → IfSome told P → IfSome told Q → IfSome told R
told_both None P Q R f h k = tt
told_both (Some a) P Q R f h k = f a h k

-- what is not there is nothing
pub none_by : {A : Type 0} (r : Option A) → is_some r ≡ false → r ≡ None
none_by None h = refl
none_by (Some a) h = absurd (true≢false h)

-- the first of some asks, and then of others: over any test of an ask, so that no header is read here
module _ {A B : Type 0} (f : A → Option B) (xs ys : List A) where
  first_behind : slice_get (filter_map f xs) 0 ≡ None → slice_get (filter_map f (xs ++ ys)) 0 ≡ slice_get (filter_map f ys) 0
  first_behind none = ap (λ all. slice_get all 0) (filter_map-append f xs ys) ∙ head_rest (filter_map f xs) (filter_map f ys) none

  first_before : (b : B) → slice_get (filter_map f xs) 0 ≡ Some b → slice_get (filter_map f (xs ++ ys)) 0 ≡ Some b
  first_before b some = ap (λ all. slice_get all 0) (filter_map-append f xs ys) ∙ head_first (filter_map f xs) (filter_map f ys) b some

module _ (p : JobParts) (world : Files) where
  pub none_then : (xs ys : List Ask) → asks_refusal p world xs ≡ None → asks_refusal p world (xs ++ ys) ≡ asks_refusal p world ys
  none_then xs ys e = first_behind (ask_refusal p world) xs ys e

  some_first : (xs ys : List Ask) (why : JobFault) → asks_refusal p world xs ≡ Some why → asks_refusal p world (xs ++ ys) ≡ Some why
  some_first xs ys why e = first_before (ask_refusal p world) xs ys why e

  pub refused_first : (xs ys : List Ask) (why : JobFault) → IsRefusal why (asks_refusal p world xs) → IsRefusal why (asks_refusal p world (xs ++ ys))
  refused_first xs ys fault.SourceFault h = tt
  refused_first xs ys fault.NoMemory h = tt
  refused_first xs ys (fault.BadCut cut) h = some_first xs ys _ h
  refused_first xs ys (fault.UnknownReel line) h = some_first xs ys _ h
  refused_first xs ys (fault.MissingFrame line reel source) h = some_first xs ys _ h
  refused_first xs ys (fault.BadFrame line reel source bad) h = some_first xs ys _ h
  refused_first xs ys (fault.Geometry line reel source) h = some_first xs ys _ h

  -- a step that answers after others that refused nothing
  pub step_then : {A : Type 0} (xs ys : List Ask) (r : Result A JobFault) → asks_refusal p world xs ≡ None → IsStep r (asks_refusal p world ys) → IsStep r (asks_refusal p world (xs ++ ys))
  step_then xs ys r e h = subst (IsStep r) (sym (none_then xs ys e)) h

-- a key that was seen before refuses nothing
module _ (p : JobParts) (told : Option World) where
  seen_by : (ask : Ask) (n : Named) (key : Key) (infos : List (Key × FrameInfo)) (r : Option FrameInfo) → info_at infos key ≡ r → is_some r ≡ true → name_of_ask p.timeline.events ask ≡ Some n
      → Some key ≡ key_of_ask p.reels p.timeline.events ask → AreInfosOf p told infos → IfSome told (λ world. asks_refusal p (file_at world) (ask ∷ []) ≡ None)
  seen_by ask n key infos None at some named is each = absurd (no some)
    where
      no : is_some {T = FrameInfo} None ≡ true → ⊥
      no h = cc
  seen_by ask n key infos (Some info) at some named is each =
      told_more told (λ world. key_refusal p (file_at world) n (Some key) ≡ None) (λ world. asks_refusal p (file_at world) (ask ∷ []) ≡ None)
      (λ world h. one_refusal p told (file_at world) ask n (Some key) named is ∙ h) (kept_passes p told n key info (seen_is p told infos key info each at))

  pub seen_told : (ask : Ask) (n : Named) (key : Key) (infos : List (Key × FrameInfo)) → is_some (info_at infos key) ≡ true → name_of_ask p.timeline.events ask ≡ Some n
      → Some key ≡ key_of_ask p.reels p.timeline.events ask → AreInfosOf p told infos → IfSome told (λ world. asks_refusal p (file_at world) (ask ∷ []) ≡ None)
  seen_told ask n key infos some named is each = seen_by ask n key infos (info_at infos key) refl some named is each

-- record frames in turn
module _ (t : RecordReel) where
  from_one : (a n : ℕ) → asks_from t a (suc n) ≡ asks_at t a ++ asks_from t (a + 1) n
  from_one a n = refl

  pub from_next : (a n : ℕ) → 0 < n → asks_from t a n ≡ asks_at t a ++ asks_from t (a + 1) (n - 1)
  from_next a zero lt = absurd (omega arith)
  from_next a (suc n) lt = let same : suc n - 1 ≡ n = omega arith in rw same refl

  more : (a n : ℕ) → asks_from t a (suc n) ≡ asks_from t a n ++ asks_at t (a + n)
  more a zero = let same : a + 0 ≡ a = omega arith in rw (same, append-nil) refl
  more a (suc n) = let same : a + 1 + n ≡ a + suc n = omega arith in ap (λ ys. asks_at t a ++ ys) (more (a + 1) n ∙ rw same refl) ∙ sym (append_assoc (asks_at t a) (asks_from t (a + 1) n) (asks_at t (a + suc n)))

  pub from_more : (n : ℕ) → asks_from t 0 (n + 1) ≡ asks_from t 0 n ++ asks_at t n
  from_more n =
      let one : n + 1 ≡ suc n = omega arith in
      let same : 0 + n ≡ n = omega arith in
      ap (asks_from t 0) one ∙ more 0 n ∙ ap (λ k. asks_from t 0 n ++ asks_at t k) same

-- a world that is told: asks behind others that refused nothing, and behind a refusal
module _ (p : JobParts) (told : Option World) where
  pub told_then : {A : Type 0} (xs ys : List Ask) (r : Result A JobFault) → IfSome told (λ world. asks_refusal p (file_at world) xs ≡ None)
      → IfSome told (λ world. IsStep r (asks_refusal p (file_at world) ys)) → IfSome told (λ world. IsStep r (asks_refusal p (file_at world) (xs ++ ys)))
  told_then xs ys r e h = told_both told (λ world. asks_refusal p (file_at world) xs ≡ None) (λ world. IsStep r (asks_refusal p (file_at world) ys))
      (λ world. IsStep r (asks_refusal p (file_at world) (xs ++ ys))) (λ world. step_then p (file_at world) xs ys r) e h

  pub told_refused : (xs ys : List Ask) (why : JobFault) → IfSome told (λ world. IsRefusal why (asks_refusal p (file_at world) xs)) → IfSome told (λ world. IsRefusal why (asks_refusal p (file_at world) (xs ++ ys)))
  told_refused xs ys why = told_more told (λ world. IsRefusal why (asks_refusal p (file_at world) xs)) (λ world. IsRefusal why (asks_refusal p (file_at world) (xs ++ ys)))
      (λ world. refused_first p (file_at world) xs ys why)

-- what a shot asks for, by its sides
pub one_side : (side : Side) → asks_of_shot (One side) ≡ asks_of_side side
one_side side = append-nil (asks_of_side side)

pub two_sides : (old new : Side) (transition : Transition) (k d : ℕ) → asks_of_shot (Two old new transition k d) ≡ asks_of_side old ++ asks_of_side new
two_sides old new transition k d = ap (λ asks. asks_of_side old ++ asks) (append-nil (asks_of_side new))
