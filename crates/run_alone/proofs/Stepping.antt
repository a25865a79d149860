-- How a run goes on from frame to frame.
use Rattle.std.proofs.Common.{◌≡◌, inl, inr, ℕ, zero, suc, ◌+◌, ◌<◌, Bool, true, false, not, ◌==◌, ◌||◌, if◌then◌else◌, List, [], ◌∷◌, ◌++◌, length, get_or, set, refl, sym, ◌∙◌, ap, subst, arith, length-set}
use Rattle.std.specs.Prelude.{filter, nat_lt, nat_le, ◌-◌, ◌≤◌, ◌&&◌, Contains, ◌⊎◌}
use Rattle.std.specs.List.{range_with_len}
use Rattle.std.proofs.lemmas.Bool.{cases_lt, cases_eq, lt-ltb, le-ltb, le-leb, leb-true, ltb-true, false≢true}
use Rattle.std.proofs.lemmas.Bool.Decides.{nat_tests}
use Rattle.std.proofs.lemmas.Grind.{flat_map-append}
use Rattle.std.proofs.lemmas.List.{get_or-set_same, get_or-set_other, append-nil, append_assoc}
use Rattle.std.proofs.lemmas.List.Elements.{filter-append, Contains-append_left, Contains-push, Contains-push_cases}
use Rattle.conform_job.specs.Job.{JobData, need_at}
use Rattle.reel_writer.specs.View.{ReelView, after_finish}
use Rattle.run_alone.specs.Asks.{closed_frames, asks_of_frames}
use Rattle.run_alone.specs.inside.Asks.{frame_if_closed}
use Rattle.frame_fetch.specs.Asks.{keys_of_need}
use Rattle.run_alone.specs.inside.Ran.{IsPast, ArePast}

pub or_true : (b c : Bool) → b ≡ true → b ≡ (b || c)
or_true b c is = subst (λ (x : Bool). x ≡ (x || c)) (sym is) refl

or_false : (b c : Bool) → c ≡ false → b ≡ (b || c)
or_false true c is = refl
or_false false c is = sym is

or_assoc : (a b c : Bool) → ((a || b) || c) ≡ (a || (b || c))
or_assoc true b c = refl
or_assoc false b c = refl

pub or_either : (b c : Bool) → (b || c) ≡ true → (b ≡ true) ⊎ (c ≡ true)
or_either true c is = inl refl
or_either false c is = inr is

pub or_here : (b c : Bool) → c ≡ true → (b || c) ≡ true
or_here true c is = refl
or_here false c is = is

range_push : (a n : ℕ) → range_with_len a (suc n) ≡ range_with_len a n ++ (a + n) ∷ []
range_push a zero = let same : a ≡ a + 0 = omega arith in ap (λ m. m ∷ []) same
range_push a (suc n) = let same : a + 1 + n ≡ a + suc n = omega arith in ap (λ l. a ∷ l) (range_push (a + 1) n) ∙ ap (λ m. a ∷ range_with_len (a + 1) n ++ m ∷ []) same

module _ (gates : List Bool) where
  filtered : (b : Bool) (i : ℕ) → get_or gates i false ≡ b → filter (λ k. not (get_or gates k false)) (i ∷ []) ≡ (if b then [] else (i ∷ []))
  filtered true i is = ap (λ (b : Bool). if not b then (i ∷ []) else []) is
  filtered false i is = ap (λ (b : Bool). if not b then (i ∷ []) else []) is

  pub if_open : (i : ℕ) → get_or gates i false ≡ true → frame_if_closed gates i ≡ []
  if_open i is = ap (λ (b : Bool). if b then [] else (i ∷ [])) is

  pub if_closed : (i : ℕ) → get_or gates i false ≡ false → frame_if_closed gates i ≡ i ∷ []
  if_closed i is = ap (λ (b : Bool). if b then [] else (i ∷ [])) is

  module _ (low : ℕ) where
    -- one frame more
    pub closed_more : (i : ℕ) → low ≤ i → closed_frames gates low (suc i) ≡ closed_frames gates low i ++ frame_if_closed gates i
    unfolding closed_frames
    closed_more i late =
        ap (λ n. filter (λ k. not (get_or gates k false)) (range_with_len low n)) longer ∙ ap (filter (λ k. not (get_or gates k false))) (range_push low (i - low)) ∙ filter-append (λ k. not (get_or gates k false)) (range_with_len low (i - low)) ((low + (i - low)) ∷ [])
        ∙ ap (λ m. filter (λ k. not (get_or gates k false)) (range_with_len low (i - low)) ++ filter (λ k. not (get_or gates k false)) (m ∷ [])) here
        ∙ ap (λ l. filter (λ k. not (get_or gates k false)) (range_with_len low (i - low)) ++ l) (filtered (get_or gates i false) i refl)
      where
        longer : suc i - low ≡ suc (i - low)
        longer = omega (arith, late)

        here : low + (i - low) ≡ i
        here = omega (arith, late)

    pub closed_none : closed_frames gates low low ≡ []
    unfolding closed_frames
    closed_none = let none : low - low ≡ 0 = omega arith in ap (λ n. filter (λ k. not (get_or gates k false)) (range_with_len low n)) none

    -- those below one frame are the first of those below a later one
    pub closed_split : (i more : ℕ) → low ≤ i → (rest : List ℕ) × (closed_frames gates low (more + i) ≡ closed_frames gates low i ++ rest)
    closed_split i zero late = let none : 0 + i ≡ i = omega arith in ([], ap (closed_frames gates low) none ∙ sym (append-nil (closed_frames gates low i)))
    closed_split i (suc more) late =
        let first = closed_split i more late in
        let same : suc more + i ≡ suc (more + i) = omega arith in
        (first.0 ++ frame_if_closed gates (more + i), ap (closed_frames gates low) same ∙ closed_more (more + i) (omega (arith, late)) ∙ ap (λ l. l ++ frame_if_closed gates (more + i)) first.1 ∙ append_assoc (closed_frames gates low i) first.0 (frame_if_closed gates (more + i)))

    -- they are those whose gate is closed
    has_after : (more k : ℕ) → low ≤ k → k < more + low → get_or gates k false ≡ false → Contains (closed_frames gates low (more + low)) k
    has_after zero k late lt is = absurd (omega arith)
    has_after (suc more) k late lt is = subst (λ n. Contains (closed_frames gates low n) k) next (subst (λ l. Contains l k) (sym (closed_more (more + low) (omega arith))) (elim (cases_lt k (more + low)) [
      | inl early ↦ Contains-append_left (closed_frames gates low (more + low)) (frame_if_closed gates (more + low)) k (has_after more k late early is)
      | inr past ↦
          let here : k ≡ more + low = omega (arith, lt, past) in
          subst (λ l. Contains (closed_frames gates low (more + low) ++ l) k) (sym (if_closed (more + low) (subst (λ n. get_or gates n false ≡ false) here is))) (subst (λ n. Contains (closed_frames gates low (more + low) ++ (more + low) ∷ []) n) (sym here) (Contains-push (closed_frames gates low (more + low)) (more + low)))
    ]))
      where
        next : suc (more + low) ≡ suc more + low
        next = omega arith

    pub closed_has : (i k : ℕ) → low ≤ k → k < i → get_or gates k false ≡ false → Contains (closed_frames gates low i) k
    closed_has i k late lt is =
        let whole : i - low + low ≡ i = omega (arith, late, lt) in
        subst (λ n. Contains (closed_frames gates low n) k) whole (has_after (i - low) k late (omega (arith, lt, whole)) is)

    below_after : (more k : ℕ) → Contains (closed_frames gates low (more + low)) k → (low ≤ k) × (k < more + low)
    below_after zero k has =
        let none : Contains [] k = subst (λ l. Contains l k) (ap (closed_frames gates low) start ∙ closed_none) has in absurd (omega (arith, none.1))
      where
        start : 0 + low ≡ low
        start = omega arith
    below_after (suc more) k has = elim (which (get_or gates (more + low) false) refl) [
      | inl in_first ↦ let at = below_after more k in_first in (at.0, omega (arith, at.1))
      | inr here ↦ (omega (arith, here), omega (arith, here))
    ]
      where
        next : suc more + low ≡ suc (more + low)
        next = omega arith

        has_it : Contains (closed_frames gates low (suc (more + low))) k
        has_it = subst (λ n. Contains (closed_frames gates low n) k) next has

        which : (b : Bool) → get_or gates (more + low) false ≡ b → Contains (closed_frames gates low (more + low)) k ⊎ ((more + low) ≡ k)
        which true is = inl (subst (λ l. Contains l k) (closed_more (more + low) (omega arith) ∙ ap (λ l. closed_frames gates low (more + low) ++ l) (if_open (more + low) is) ∙ append-nil (closed_frames gates low (more + low))) has_it)
        which false is = Contains-push_cases (closed_frames gates low (more + low)) (more + low) k (subst (λ l. Contains l k) (closed_more (more + low) (omega arith) ∙ ap (λ l. closed_frames gates low (more + low) ++ l) (if_closed (more + low) is)) has_it)

    pub closed_below : (i k : ℕ) → low ≤ i → Contains (closed_frames gates low i) k → (low ≤ k) × (k < i)
    closed_below i k late has =
        let whole : i ≡ i - low + low = omega (arith, late) in
        let at = below_after (i - low) k (subst (λ n. Contains (closed_frames gates low n) k) whole has) in
        (at.0, omega (arith, at.1, whole))

-- asks of frames one after another
pub asks_append : (job : JobData) (frames others : List ℕ) → asks_of_frames job (frames ++ others) ≡ asks_of_frames job frames ++ asks_of_frames job others
unfolding asks_of_frames
asks_append job frames others = flat_map-append (λ i. keys_of_need (need_at job i)) frames others

pub asks_none : (job : JobData) → asks_of_frames job [] ≡ []
unfolding asks_of_frames
asks_none job = refl

pub asks_one : (job : JobData) (i : ℕ) → asks_of_frames job (i ∷ []) ≡ keys_of_need (need_at job i)
unfolding asks_of_frames
asks_one job i = append-nil (keys_of_need (need_at job i))

pub asks_if_open : (job : JobData) (gates : List Bool) (i : ℕ) → get_or gates i false ≡ true → asks_of_frames job (frame_if_closed gates i) ≡ []
asks_if_open job gates i is = ap (asks_of_frames job) (if_open gates i is) ∙ asks_none job

pub asks_if_closed : (job : JobData) (gates : List Bool) (i : ℕ) → get_or gates i false ≡ false → asks_of_frames job (frame_if_closed gates i) ≡ keys_of_need (need_at job i)
asks_if_closed job gates i is = ap (asks_of_frames job) (if_closed gates i is) ∙ asks_one job i

module _ {D : Type 0} (old : ReelView D) (i : ℕ) where
  pub past_itself : get_or old.ledger.gates i false ≡ true → old.ledger.closed ≡ false → IsPast i old old
  past_itself is is_open = record {
    gates = λ k. elim (cases_eq k i) [
      | inl same ↦ or_true (get_or old.ledger.gates k false) (k == i) (ap (λ n. get_or old.ledger.gates n false) same ∙ is)
      | inr other ↦ let apart : (k == i) ≡ false = grind (arith, nat_tests) in or_false (get_or old.ledger.gates k false) (k == i) apart
    ];
    size = refl;
    acks = sym (append-nil old.acks) ∙ ap (λ l. old.acks ++ l) (sym (if_open old.ledger.gates i is));
    kept = refl;
    is_open = is_open;
  }

  past_finish : (disk : D) → get_or old.ledger.gates i false ≡ false → i < length old.ledger.gates → old.ledger.closed ≡ false → IsPast i old (after_finish old i disk)
  past_finish disk is within is_open = record {
    gates = λ k. elim (cases_eq k i) [
      | inl same ↦
          let here : (k == i) ≡ true = grind (arith, nat_tests) in
          ap (λ n. get_or (set old.ledger.gates i true) n false) same ∙ get_or-set_same old.ledger.gates i true false within ∙ sym (or_here (get_or old.ledger.gates k false) (k == i) here)
      | inr other ↦ let apart : (k == i) ≡ false = grind (arith, nat_tests) in get_or-set_other old.ledger.gates i k true false other ∙ or_false (get_or old.ledger.gates k false) (k == i) apart
    ];
    size = length-set old.ledger.gates i true;
    acks = ap (λ l. old.acks ++ l) (sym (if_closed old.ledger.gates i is));
    kept = refl;
    is_open = is_open;
  }

  -- the frame that was finished is this one
  pub past_finished : (n : ℕ) (disk : D) (new : ReelView D) → new ≡ after_finish old n disk → n ≡ i → get_or old.ledger.gates i false ≡ false → i < length old.ledger.gates → old.ledger.closed ≡ false → IsPast i old new
  past_finished n disk new is same fresh within is_open =
      subst (IsPast i old) (sym is) (subst (λ (k : ℕ). IsPast i old (after_finish old k disk)) (sym same) (past_finish disk fresh within is_open))

-- a frame from the first on, below the end
pub among : (low i k : ℕ) → low ≤ k → k < i → (nat_le low k && nat_lt k i) ≡ true
among low i k late early = both (nat_le low k) (nat_lt k i) (le-leb low k late) (lt-ltb k i early)
  where
    both : (a b : Bool) → a ≡ true → b ≡ true → (a && b) ≡ true
    both a b p q = rw (p, q) refl

pub among_is : (low i k : ℕ) → (nat_le low k && nat_lt k i) ≡ true → (low ≤ k) × (k < i)
among_is low i k is = both (nat_le low k) (nat_lt k i) refl refl is
  where
    both : (a b : Bool) → nat_le low k ≡ a → nat_lt k i ≡ b → (a && b) ≡ true → (low ≤ k) × (k < i)
    both true true p q is = (leb-true low k p, ltb-true k i q)
    both true false p q is = absurd (false≢true is)
    both false b p q is = absurd (false≢true is)

pub isnt_among : (low i k : ℕ) → i ≤ k → (nat_le low k && nat_lt k i) ≡ false
isnt_among low i k late = by (nat_le low k && nat_lt k i) refl
  where
    by : (b : Bool) → (nat_le low k && nat_lt k i) ≡ b → (nat_le low k && nat_lt k i) ≡ false
    by true is = let at = among_is low i k is in absurd (omega (arith, late, at.1))
    by false is = is

among_or : (a b c d : Bool) → (b || c) ≡ d → (c ≡ true → a ≡ true) → ((a && b) || c) ≡ (a && d)
among_or true b c d same one = same
among_or false b true d same one = absurd (false≢true (one refl))
among_or false b false d same one = refl

module _ {D : Type 0} (low : ℕ) (old : ReelView D) where
  pub past_none : old.ledger.closed ≡ false → ArePast low low old old
  past_none is_open = record {
    gates = λ k. or_false (get_or old.ledger.gates k false) (nat_le low k && nat_lt k low) (nowhere k);
    size = refl;
    acks = sym (append-nil old.acks) ∙ ap (λ l. old.acks ++ l) (sym (closed_none old.ledger.gates low));
    kept = refl;
    is_open = is_open;
  }
    where
      nowhere : (k : ℕ) → (nat_le low k && nat_lt k low) ≡ false
      nowhere k = by (nat_le low k && nat_lt k low) refl
        where
          by : (b : Bool) → (nat_le low k && nat_lt k low) ≡ b → (nat_le low k && nat_lt k low) ≡ false
          by true is = let at = among_is low low k is in absurd (omega (arith, at.0, at.1))
          by false is = is

  module _ (mid : ReelView D) (i : ℕ) (late : low ≤ i) (past : ArePast low i old mid) where
    -- the gate of the next frame is as it was at the opening
    pub gate_still : get_or mid.ledger.gates i false ≡ get_or old.ledger.gates i false
    gate_still = past.gates i ∙ sym (or_false (get_or old.ledger.gates i false) (nat_le low i && nat_lt i i) (isnt_among low i i (omega arith)))

    pub if_still : frame_if_closed mid.ledger.gates i ≡ frame_if_closed old.ledger.gates i
    if_still = ap (λ (b : Bool). if b then [] else (i ∷ [])) gate_still

    pub past_more : (new : ReelView D) → IsPast i mid new → ArePast low (suc i) old new
    past_more new step = record {
      gates = λ k.
          let joined : ((nat_le low k && nat_lt k i) || (k == i)) ≡ (nat_le low k && nat_lt k (suc i)) = among_or (nat_le low k) (nat_lt k i) (k == i) (nat_lt k (suc i)) (below k) (λ is. le-leb low k (it k is)) in
          step.gates k ∙ ap (λ (b : Bool). b || (k == i)) (past.gates k) ∙ or_assoc (get_or old.ledger.gates k false) (nat_le low k && nat_lt k i) (k == i) ∙ ap (λ (b : Bool). get_or old.ledger.gates k false || b) joined;
      size = step.size ∙ past.size;
      acks = step.acks ∙ ap (λ l. l ++ frame_if_closed mid.ledger.gates i) past.acks ∙ append_assoc old.acks (closed_frames old.ledger.gates low i) (frame_if_closed mid.ledger.gates i)
          ∙ ap (λ l. old.acks ++ (closed_frames old.ledger.gates low i ++ l)) if_still ∙ ap (λ l. old.acks ++ l) (sym (closed_more old.ledger.gates low i late));
      kept = step.kept ∙ past.kept;
      is_open = step.is_open;
    }
      where
        it : (k : ℕ) → (k == i) ≡ true → low ≤ k
        it k is = let same : k ≡ i = grind (arith, nat_tests) in omega (arith, same, late)

        below : (k : ℕ) → (nat_lt k i || (k == i)) ≡ nat_lt k (suc i)
        below k = elim (cases_lt k i) [
          | inl early ↦
              let first : nat_lt k i ≡ true = lt-ltb k i early in
              let later : nat_lt k (suc i) ≡ true = lt-ltb k (suc i) (omega (arith, early)) in
              sym (or_true (nat_lt k i) (k == i) first) ∙ first ∙ sym later
          | inr late ↦ elim (cases_eq k i) [
            | inl same ↦
                let here : (k == i) ≡ true = grind (arith, nat_tests) in
                let later : nat_lt k (suc i) ≡ true = lt-ltb k (suc i) (omega (arith, same)) in
                or_here (nat_lt k i) (k == i) here ∙ sym later
            | inr other ↦
                let first : nat_lt k i ≡ false = le-ltb k i late in
                let here : (k == i) ≡ false = grind (arith, nat_tests) in
                let later : nat_lt k (suc i) ≡ false = le-ltb k (suc i) (omega (arith, late, other)) in
                sym (or_false (nat_lt k i) (k == i) here) ∙ first ∙ sym later
          ]
        ]
