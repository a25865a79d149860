-- What the bytes of a body say.
use Rattle.std.proofs.Common.{◌≡◌, ◌≢◌, inl, inr, ℕ, ◌+◌, ◌-◌, ◌*◌, ◌<◌, ◌≤◌, min, Bool, true, false, List, [], ◌∷◌, ◌++◌, length, get_or, take, drop, set, replicate, sym, ◌∙◌, ap, subst, arith, length-append, length-take, length-drop, codes, w32}
use Rattle.std.specs.Prelude.{◌==◌, Some}
use Rattle.std.specs.Int.{to_be_bytes}
use Rattle.std.proofs.lemmas.Bool.{cases_eq, cases_lt}
use Rattle.std.proofs.lemmas.List.{get_or-take, get_or-drop, get_or-append-add, get_or-replicate, get_or-set_same, get_or-set_other, length-set, length-replicate, take-take, drop-take, take-append-le, take_at}
use Rattle.std.proofs.lemmas.Grind.{same_number_lists}
use Rattle.reel_disk.specs.Disk.{overwritten}
use Rattle.reel_disk.proofs.Images.{length-overwritten, before_overwritten, inside_overwritten, after_overwritten}
use Rattle.resume_ledger.specs.declared.layout.Version.TheVariants.{Two}
use Rattle.resume_ledger.specs.Body.{layout_of, IsOwn, head_of, digest_of, closed_body, record_of}
use Rattle.resume_ledger.specs.Ledger.{AreGatesOf}

pub some_same : {a b : List ℕ} → Some a ≡ Some b → a ≡ b
some_same e = cc

-- the digest is read from the head alone
digest_of-head : (body other : List ℕ) → take 64 other ≡ take 64 body → digest_of other ≡ digest_of body
digest_of-head body other same = in_head other ∙ ap (λ (l : List ℕ). drop 8 (take 40 l)) same ∙ sym (in_head body)
  where
    in_head : (l : List ℕ) → digest_of l ≡ drop 8 (take 40 (take 64 l))
    in_head l = sym (drop-take 8 32 l) ∙ ap (λ (x : List ℕ). drop 8 x) (sym (take-take 40 64 l (omega arith)))

-- a body with the same length and the same head is the same job's
pub own_by_head : (digest : List ℕ) (count : ℕ) (body other : List ℕ) → IsOwn (layout_of Two) digest count body → length other ≡ length body → take 64 other ≡ take 64 body → IsOwn (layout_of Two) digest count other
own_by_head digest count body other own same_length heads = record {
  well = record {
    frames = own.well.frames;
    size = same_length ∙ own.well.size;
    no_longer = omega (arith, own.well.no_longer, same_length);
    head = heads ∙ own.well.head ∙ ap (λ (d : List ℕ). head_of (layout_of Two) d own.well.frames) (sym digests);
  };
  job = digests ∙ own.job;
  size = same_length ∙ own.size;
}
  where
    digests : digest_of other ≡ digest_of body
    digests = digest_of-head body other heads

pub own_along : (digest : List ℕ) (count : ℕ) (body other : List ℕ) → IsOwn (layout_of Two) digest count body → length other ≡ length body → ((k : ℕ) → k < 64 → get_or other k 0 ≡ get_or body k 0) → IsOwn (layout_of Two) digest count other
own_along digest count body other own same_length same_head = own_by_head digest count body other own same_length heads
  where
    heads : take 64 other ≡ take 64 body
    heads = same_number_lists (take 64 other) (take 64 body)
        (length-take 64 other ∙ ap (λ n. min 64 n) same_length ∙ sym (length-take 64 body))
        (λ k lt. let below : k < 64 = omega (arith, lt, length-take 64 other) in get_or-take 64 other k 0 below ∙ same_head k below ∙ sym (get_or-take 64 body k 0 below))

-- bytes outside of a part that is written over
outside : (body bytes : List ℕ) (start k : ℕ) → start + length bytes ≤ length body → ((start ≤ k) × (k < start + length bytes) → ⊥) → get_or (overwritten body start bytes) k 0 ≡ get_or body k 0
outside body bytes start k fits out = elim (cases_lt k start) [
  | inl before ↦ before_overwritten body start bytes k fits before
  | inr from ↦ elim (cases_lt k (start + length bytes)) [
    | inl inside ↦ absurd (out (from, inside))
    | inr after ↦ after_overwritten body start bytes k fits after
  ]
]

-- a body with a part of a frame's 33 bytes written over
module _ (digest : List ℕ) (count : ℕ) (body bytes : List ℕ) (own : IsOwn (layout_of Two) digest count body) (i start : ℕ) (within : i < count) (low : 64 + 33 * i ≤ start) (high : start + length bytes ≤ 97 + 33 * i) where
  fits : start + length bytes ≤ length body
  fits = omega (arith, within, high, own.size)

  pub patched_own : IsOwn (layout_of Two) digest count (overwritten body start bytes)
  patched_own = own_along digest count body (overwritten body start bytes) own (length-overwritten body start bytes fits) (λ k lt. outside body bytes start k fits (λ inside. omega (arith, lt, low, inside.0)))

-- with the gate opened
pub gate_opened : (digest : List ℕ) (count : ℕ) (body : List ℕ) → IsOwn (layout_of Two) digest count body → (i : ℕ) → i < count → (flags : List Bool) → AreGatesOf (layout_of Two) body count flags
    → AreGatesOf (layout_of Two) (overwritten body (64 + 33 * i) (65 ∷ [])) count (set flags i true)
gate_opened digest count body own i within flags are = record { size = length-set flags i true ∙ are.size; each = each }
  where
    fit : 64 + 33 * i + 1 ≤ length body
    fit = omega (arith, within, own.size)

    each : (k : ℕ) → k < count → get_or (set flags i true) k false ≡ (get_or (overwritten body (64 + 33 * i) (65 ∷ [])) (64 + 33 * k) 0 == 65)
    each k lt = elim (cases_eq k i) [
      | inl is ↦
          let at : 64 + 33 * i - (64 + 33 * i) ≡ 0 = omega arith in
          let open_gate : get_or (overwritten body (64 + 33 * i) (65 ∷ [])) (64 + 33 * i) 0 ≡ 65 =
          inside_overwritten body (64 + 33 * i) (65 ∷ []) (64 + 33 * i) fit (omega arith) (omega arith) ∙ ap (λ n. get_or (65 ∷ []) n 0) at in
          subst (λ n. get_or (set flags i true) n false ≡ (get_or (overwritten body (64 + 33 * i) (65 ∷ [])) (64 + 33 * n) 0 == 65)) (sym is)
          (get_or-set_same flags i true false (omega (arith, within, are.size)) ∙ sym (ap (λ n. n == 65) open_gate))
      | inr other ↦
          get_or-set_other flags i k true false other ∙ are.each k lt
          ∙ ap (λ n. n == 65) (sym (outside body (65 ∷ []) (64 + 33 * i) (64 + 33 * k) fit (λ inside. other (omega (arith, inside.0, inside.1)))))
    ]

-- with the record written
module _ (digest : List ℕ) (count : ℕ) (body hash : List ℕ) (own : IsOwn (layout_of Two) digest count body) (i : ℕ) (within : i < count) (size : length hash ≡ 32) where
  room : 65 + 33 * i + length hash ≤ length body
  room = omega (arith, within, own.size, size)

  pub gates_noted : (flags : List Bool) → AreGatesOf (layout_of Two) body count flags → AreGatesOf (layout_of Two) (overwritten body (65 + 33 * i) hash) count flags
  gates_noted flags are = record {
    size = are.size;
    each = λ k lt. are.each k lt ∙ ap (λ n. n == 65) (sym (outside body hash (65 + 33 * i) (64 + 33 * k) room (λ inside. omega (arith, inside.0, inside.1, size))));
  }

  pub record_noted : record_of (overwritten body (65 + 33 * i) hash) i ≡ hash
  record_noted = same_number_lists (record_of (overwritten body (65 + 33 * i) hash) i) hash
      (length-take 32 (drop (65 + 33 * i) (overwritten body (65 + 33 * i) hash)) ∙ full)
      (λ n lt.
      let below : n < 32 = omega (arith, lt, length-take 32 (drop (65 + 33 * i) (overwritten body (65 + 33 * i) hash))) in
      get_or-take 32 (drop (65 + 33 * i) (overwritten body (65 + 33 * i) hash)) n 0 below ∙ get_or-drop (65 + 33 * i) (overwritten body (65 + 33 * i) hash) n 0
      ∙ inside_overwritten body (65 + 33 * i) hash (65 + 33 * i + n) room (omega arith) (omega (arith, below, size)) ∙ (let at : 65 + 33 * i + n - (65 + 33 * i) ≡ n = omega arith in ap (λ m. get_or hash m 0) at))
    where
      full : min 32 (length (drop (65 + 33 * i) (overwritten body (65 + 33 * i) hash))) ≡ length hash
      full = omega (arith, length-drop (65 + 33 * i) (overwritten body (65 + 33 * i) hash), length-overwritten body (65 + 33 * i) hash room, room, size)

module _ (digest : List ℕ) (count : ℕ) (digest_long : length digest ≡ 32) where
  head_long : length (head_of (layout_of Two) digest count) ≡ 64
  head_long = omega (arith, digest_long, length-append ((codes "CFLEDGR2" ++ digest) ++ to_be_bytes w32 count) (replicate 20 0), length-append (codes "CFLEDGR2" ++ digest) (to_be_bytes w32 count), length-append (codes "CFLEDGR2") digest)

  pub length-closed : length (closed_body digest count) ≡ 64 + 33 * count
  unfolding closed_body
  length-closed = omega (arith, length-append (head_of (layout_of Two) digest count) (replicate (33 * count) 0), head_long, length-replicate {A = ℕ} (33 * count) 0)

  -- the digest that was put into the closed body is read from it
  closed_digest : digest_of (closed_body digest count) ≡ digest
  unfolding closed_body
  closed_digest =
      take-append-le 32 ((digest ++ to_be_bytes w32 count) ++ replicate 20 0) (replicate (33 * count) 0) (omega (arith, digest_long, length-append (digest ++ to_be_bytes w32 count) (replicate 20 0), length-append digest (to_be_bytes w32 count)))
      ∙ take-append-le 32 (digest ++ to_be_bytes w32 count) (replicate 20 0) (omega (arith, digest_long, length-append digest (to_be_bytes w32 count)))
      ∙ take_at digest (to_be_bytes w32 count) 32 digest_long

  pub closed_is_own : count ≤ 262144 → IsOwn (layout_of Two) digest count (closed_body digest count)
  unfolding closed_body
  closed_is_own most = record {
    well = record {
      frames = count;
      size = length-closed;
      no_longer = omega (arith, length-closed, most);
      head = take_at (head_of (layout_of Two) digest count) (replicate (33 * count) 0) 64 head_long ∙ ap (λ (d : List ℕ). head_of (layout_of Two) d count) (sym closed_digest);
    };
    job = closed_digest;
    size = length-closed;
  }

  -- no gate is open
  pub closed_gate : (k : ℕ) → k < count → get_or (closed_body digest count) (64 + 33 * k) 0 ≡ 0
  unfolding closed_body
  closed_gate k lt =
      subst (λ n. get_or (closed_body digest count) (n + 33 * k) 0 ≡ 0) head_long (get_or-append-add (head_of (layout_of Two) digest count) (replicate (33 * count) 0) (33 * k) 0 ∙ get_or-replicate (33 * count) (33 * k) 0 0 (omega (arith, lt)))

  pub closed_shut : (body : List ℕ) → body ≡ closed_body digest count → (k : ℕ) → k < count → get_or body (64 + 33 * k) 0 ≢ 65
  closed_shut body is k lt gate =
      let shut = closed_gate k lt in
      let same : get_or (closed_body digest count) (64 + 33 * k) 0 ≡ 65 = subst (λ (l : List ℕ). get_or l (64 + 33 * k) 0 ≡ 65) is gate in
      omega (arith, shut, same)
