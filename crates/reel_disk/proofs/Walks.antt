-- The way back from now to the last moment at which a byte was not loose, and the bytes that a pick leaves.
use Rattle.std.proofs.Common.{◌≡◌, ◌⊎◌, inl, inr, ℕ, zero, suc, ◌+◌, ◌-◌, ◌<◌, ◌≤◌, true, false, List, [], ◌∷◌, ◌++◌, length, get_or, drop, refl, sym, ◌∙◌, ap, subst, arith}
use Rattle.std.specs.Prelude.{Option, Some, None, slice_get, slice_index, unwrap_or}
use Rattle.std.proofs.lemmas.Bool.{cases_lt}
use Rattle.std.proofs.lemmas.Grind.{common_steps}
use Rattle.cf_base.specs.declared.file.FileId.{FileId}
use Rattle.reel_disk.specs.declared.disk.Place.{Place}
use Rattle.reel_disk.specs.declared.disk.Place.TheVariants.{Whole}
use Rattle.reel_disk.specs.declared.store.Step.{Step}
use Rattle.reel_disk.specs.Disk.{Files, Moment, History, view_of, loose_of, IsLoose, IsLooseAt}
use Rattle.reel_disk.specs.Crash.{byte_at, IsLastFirm, IsEarlier, IsTurned, IsPicked}
use Rattle.reel_disk.specs.Memory.{undo, undo_all, loose_before, view_before, history_from}
use Rattle.reel_disk.specs.inside.Memory.{byte_of, is_whole_loose, is_byte_loose}
use Rattle.reel_disk.proofs.Steps.{view_is, loose_is}
use Rattle.reel_disk.proofs.Picks.{whole_loose_is, whole_loose_not, byte_loose_is, byte_loose_not}

-- the moment before one step more
past_step : (steps : List Step) (i : ℕ) (d : Step) (m : Moment) → i < length steps → undo_all (drop i steps) m ≡ undo (get_or steps i d) (undo_all (drop (suc i) steps) m)
past_step [] i d m lt = absurd (omega arith)
past_step (s ∷ steps) zero d m lt = refl
past_step (s ∷ steps) (suc i) d m lt = past_step steps i d m (omega (arith, lt))

-- Moment i is known, and at each later one the byte was loose.
pub record IsWalked (files : Files) (loose : List Place) (steps : List Step) (id : FileId) (k i : ℕ) (places : List Place) (value : Option ℕ) : Type 0 where
  pub loose_then : ((history_from files loose steps).past i).loose ≡ places
  pub byte_then : value ≡ byte_of (((history_from files loose steps).past i).view id) k
  pub later : (j : ℕ) → i < j → j ≤ length steps → IsLooseAt ((history_from files loose steps).past j).loose id k

pub walk_start : (files : Files) (loose : List Place) (steps : List Step) (id : FileId) (k : ℕ) (value : Option ℕ) → value ≡ byte_of (files id) k → IsWalked files loose steps id k (length steps) loose value
walk_start files loose steps id k value is = record {
  loose_then = loose_is files loose steps;
  byte_then = is ∙ ap (λ (o : Option (List ℕ)). byte_of o k) (sym (view_is files loose steps id));
  later = λ j after upto. absurd (omega (arith, after, upto));
}

pub walk_step : (files : Files) (loose : List Place) (steps : List Step) (id : FileId) (k i : ℕ) (places : List Place) (value value' : Option ℕ) (step : Step) → i < length steps → step ≡ get_or steps i step
    → IsWalked files loose steps id k (suc i) places value → is_byte_loose places id k ≡ true
    → ((then : Files) → value ≡ byte_of (then id) k → value' ≡ byte_of (view_before step then id) k) → IsWalked files loose steps id k i (loose_before step places) value'
walk_step files loose steps id k i places value value' step lt is walked holds back = record {
  loose_then = ap (λ (m : Moment). m.loose) before ∙ ap (loose_before step) walked.loose_then;
  byte_then = back (h.past (suc i)).view walked.byte_then ∙ ap (λ (m : Moment). byte_of (m.view id) k) (sym before);
  later = λ j after upto. elim (cases_lt (suc i) j) [
    | inl far ↦ walked.later j far upto
    | inr near ↦
        let same : suc i ≡ j = omega (arith, near, after) in
        subst (λ n. IsLooseAt (h.past n).loose id k) same (subst (λ (l : List Place). IsLooseAt l id k) (sym walked.loose_then) (byte_loose_is places id k holds))
  ];
}
  where
    h : History
    h = history_from files loose steps

    before : (history_from files loose steps).past i ≡ undo step ((history_from files loose steps).past (suc i))
    before = past_step steps i step (record { view = files; loose = loose }) lt ∙ ap (λ (s : Step). undo s ((history_from files loose steps).past (suc i))) (sym is)

pub walk_end : (files : Files) (loose : List Place) (steps : List Step) (id : FileId) (k i : ℕ) (places : List Place) (value : Option ℕ) → i ≤ length steps → IsWalked files loose steps id k i places value
    → (i ≡ 0) ⊎ (is_byte_loose places id k ≡ false) → (m : ℕ) × IsLastFirm (history_from files loose steps) id k m × (value ≡ byte_of (((history_from files loose steps).past m).view id) k)
walk_end files loose steps id k i places value upto walked last = (
  i,
  record {
    past = upto;
    firm = elim last [
      | inl first ↦ inl first
      | inr fails ↦ inr (λ at. byte_loose_not places id k fails (subst (λ (l : List Place). IsLooseAt l id k) walked.loose_then at))
    ];
    later = walked.later;
  },
  walked.byte_then,
)

-- a byte that is there
pub byte_there : (content : Option (List ℕ)) (bytes : List ℕ) (k : ℕ) → content ≡ Some bytes → k < length bytes → Some (slice_index bytes k) ≡ byte_of content k
byte_there content bytes k is lt = there bytes k lt ∙ ap (λ (o : Option (List ℕ)). byte_of o k) (sym is)
  where
    there : (xs : List ℕ) (k : ℕ) → k < length xs → Some (slice_index xs k) ≡ slice_get xs k
    there [] k lt = absurd (omega arith)
    there (x ∷ xs) zero lt = refl
    there (x ∷ xs) (suc k) lt = there xs k (omega (arith, lt))

or_zero : (content : Option (List ℕ)) (k : ℕ) → unwrap_or (byte_of content k) 0 ≡ byte_at content k
or_zero None k = refl
or_zero (Some xs) k = at xs k
  where
    at : (xs : List ℕ) (k : ℕ) → unwrap_or (slice_get xs k) 0 ≡ slice_index xs k
    at [] k = refl
    at (x ∷ xs) zero = refl
    at (x ∷ xs) (suc k) = at xs k

-- the byte that a walk ends with
pub is_earlier : (h : History) (id : FileId) (k : ℕ) (value : Option ℕ) → (m : ℕ) × IsLastFirm h id k m × (value ≡ byte_of ((h.past m).view id) k) → IsEarlier h id k (unwrap_or value 0)
is_earlier h id k value found = (found.0, found.1, ap (λ (o : Option ℕ). unwrap_or o 0) found.2 ∙ or_zero ((h.past found.0).view id) k)

pub is_turned : (files : Files) (loose : List Place) (steps : List Step) (id : FileId) (bytes : List ℕ) (k byte : ℕ) → view_of (history_from files loose steps) id ≡ Some bytes
    → (IsLooseAt loose id k → byte ≡ 255 - slice_index bytes k) → ((IsLooseAt loose id k → ⊥) → byte ≡ slice_index bytes k) → IsTurned (history_from files loose steps) id k byte
is_turned files loose steps id bytes k byte view turns stays =
    let at_view : slice_index bytes k ≡ byte_at (view_of (history_from files loose steps) id) k = ap (λ (o : Option (List ℕ)). byte_at o k) (sym view) in
    let places = loose_is files loose steps in (
      λ at. turns (subst (λ (l : List Place). IsLooseAt l id k) places at) ∙ ap (λ n. 255 - n) at_view,
      λ firm. stays (λ at. firm (subst (λ (l : List Place). IsLooseAt l id k) (sym places) at)) ∙ at_view,
    )

-- one more, each by its own rule
pub each_more : (Rule : ℕ → ℕ → Type 0) (left : List ℕ) (n x : ℕ) → length left ≡ n → ((j : ℕ) → j < n → Rule j (slice_index left j)) → Rule n x → (j : ℕ) → j < n + 1 → Rule j (slice_index (left ++ x ∷ []) j)
each_more Rule left n x long each last j lt = elim (cases_lt j n) [
  | inl before ↦ subst (Rule j) (let e : slice_index left j ≡ slice_index (left ++ x ∷ []) j = grind (arith, common_steps) in e) (each j before)
  | inr here ↦
      let same : n ≡ j = omega (arith, here, lt) in
      subst (Rule j) (let e : x ≡ slice_index (left ++ x ∷ []) j = grind (arith, common_steps) in e) (subst (λ i. Rule i x) same last)
]

-- every pick but 0 and 1 is one rule
pub picked_other : (pick : ℕ) (h : History) (id : FileId) (content left : Option (List ℕ)) → 2 ≤ pick → IsPicked 2 h id content left → IsPicked pick h id content left
picked_other pick h id None left two picked = picked
picked_other zero h id (Some bytes) left two picked = absurd (omega (arith, two))
picked_other (suc zero) h id (Some bytes) left two picked = absurd (omega (arith, two))
picked_other (suc (suc n)) h id (Some bytes) left two picked = picked

module _ (files : Files) (loose : List Place) (steps : List Step) (id : FileId) where
  pub whole_is_loose : is_whole_loose loose id ≡ true → IsLoose (loose_of (history_from files loose steps)) (Whole id)
  whole_is_loose holds = subst (λ (l : List Place). IsLoose l (Whole id)) (sym (loose_is files loose steps)) (whole_loose_is loose id holds)

  pub whole_is_firm : is_whole_loose loose id ≡ false → IsLoose (loose_of (history_from files loose steps)) (Whole id) → ⊥
  whole_is_firm fails there = whole_loose_not loose id fails (subst (λ (l : List Place). IsLoose l (Whole id)) (loose_is files loose steps) there)
