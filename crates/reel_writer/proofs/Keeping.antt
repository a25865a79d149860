-- What a reel keeps while a frame is finished.
use Rattle.std.proofs.Common.{◌≡◌, ◌≢◌, inl, inr, ℕ, ◌+◌, ◌<◌, ◌≤◌, Bool, true, false, cond, List, [], ◌∷◌, ◌++◌, length, get_or, set, sym, ◌∙◌, ap, subst, arith, length-append}
use Rattle.std.specs.Prelude.{count_by}
use Rattle.std.proofs.lemmas.Bool.{cases_eq, cases_lt, false≢true}
use Rattle.std.proofs.lemmas.List.{length-set, get_or_append_left, get_or-append-add, get_or-set_same, get_or-set_other}
use Rattle.std.proofs.lemmas.List.Sums.{sum_by-set, count_by-le-length}
use Rattle.reel_disk.specs.State.{DiskState}
use Rattle.conform_job.specs.Job.{JobData}
use Rattle.reel_writer.specs.View.{ReelView, IsReelOf}

abbrev weight : Bool → ℕ
weight gate = cond gate 1 0

module _ (gates : List Bool) (i : ℕ) (within : i < length gates) (fresh : get_or gates i false ≡ false) where
  -- one gate more is open
  pub one_more_gate : count_by (λ gate. gate) (set gates i true) ≡ count_by (λ gate. gate) gates + 1
  one_more_gate =
      let both = sum_by-set weight gates i true false within in
      let shut : weight (get_or gates i false) ≡ 0 = ap weight fresh in
      omega (arith, both, shut)

  pub fewer_than_all : count_by (λ gate. gate) gates < length gates
  fewer_than_all = omega (arith, one_more_gate, count_by-le-length (λ (gate : Bool). gate) (set gates i true), length-set gates i true)

module _ {D : Type 0} (job : JobData) (tells : Bool) (state : D → DiskState) (reel : ReelView D) (of : IsReelOf job tells state reel) (i : ℕ) (within : i < length reel.ledger.gates) (fresh : get_or reel.ledger.gates i false ≡ false) where
  -- the list of acks has room for one more
  pub has_room : (len capacity : ℕ) → len ≡ length reel.acks → length reel.ledger.gates ≤ capacity → len < capacity
  has_room len capacity is room = let was = of.kept in omega (arith, is, room, was, fewer_than_all reel.ledger.gates i within fresh)

-- one frame more is acknowledged, and its number is the last of the acks
module _ {D : Type 0} (job : JobData) (tells : Bool) (state : D → DiskState) (reel : ReelView D) (of : IsReelOf job tells state reel) (i : ℕ) (within : i < length reel.ledger.gates) (fresh : get_or reel.ledger.gates i false ≡ false) where
  abbrev more : List ℕ
  more = reel.acks ++ i ∷ []

  length-more : length more ≡ length reel.acks + 1
  length-more = length-append reel.acks (i ∷ [])

  earlier : (j : ℕ) → j < length reel.acks → get_or more j 0 ≡ get_or reel.acks j 0
  earlier j lt = get_or_append_left reel.acks (i ∷ []) 0 j lt

  last : (j : ℕ) → length reel.acks ≤ j → j < length more → get_or more j 0 ≡ i
  last j past lt =
      let at : j ≡ length reel.acks + 0 = omega (arith, past, lt, length-more) in
      ap (λ n. get_or more n 0) at ∙ get_or-append-add reel.acks (i ∷ []) 0 0

  set_stays : (n : ℕ) → get_or reel.ledger.gates n false ≡ true → get_or (set reel.ledger.gates i true) n false ≡ true
  set_stays n was = elim (cases_eq n i) [
    | inl is ↦ ap (λ k. get_or (set reel.ledger.gates i true) k false) is ∙ get_or-set_same reel.ledger.gates i true false within
    | inr other ↦ get_or-set_other reel.ledger.gates i n true false other ∙ was
  ]

  pub acked_more : (j : ℕ) → j < length more → get_or (set reel.ledger.gates i true) (get_or more j 0) false ≡ true
  acked_more j lt = elim (cases_lt j (length reel.acks)) [
    | inl before ↦ ap (λ n. get_or (set reel.ledger.gates i true) n false) (earlier j before) ∙ set_stays (get_or reel.acks j 0) (of.acked j before)
    | inr past ↦ ap (λ n. get_or (set reel.ledger.gates i true) n false) (last j past lt) ∙ get_or-set_same reel.ledger.gates i true false within
  ]

  pub once_more : (j k : ℕ) → j < k → k < length more → get_or more j 0 ≢ get_or more k 0
  once_more j k lt below same = elim (cases_lt k (length reel.acks)) [
    | inl before ↦ of.once j k lt before (sym (earlier j (omega (arith, lt, before))) ∙ same ∙ earlier k before)
    | inr past ↦
        let first : j < length reel.acks = omega (arith, lt, past, below, length-more) in
        let is : get_or reel.acks j 0 ≡ i = sym (earlier j first) ∙ same ∙ last k past below in
        let was : get_or reel.ledger.gates i false ≡ true = subst (λ n. get_or reel.ledger.gates n false ≡ true) is (of.acked j first) in
        false≢true (sym fresh ∙ was)
  ]

  pub kept_more : reel.kept + length more ≡ count_by (λ gate. gate) (set reel.ledger.gates i true)
  kept_more = omega (arith, of.kept, length-more, one_more_gate reel.ledger.gates i within fresh)

module _ {D : Type 0} (reel other : ReelView D) (same : reel ≡ other) where
  pub disk_along : (P : D → Type 0) → P reel.disk → P other.disk
  disk_along P = subst (λ (r : ReelView D). P r.disk) same

  pub gates_same : reel.ledger.gates ≡ other.ledger.gates
  gates_same = ap (λ (r : ReelView D). r.ledger.gates) same
