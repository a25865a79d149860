-- Seats and their marks, handed out and taken in.
use Rattle.std.proofs.Common.{inl, inr, List, [], ◌∷◌, length, get_or, map, ◌++◌, append_assoc, take, drop, subst, sym, ◌∙◌, ◌<◌, ◌≤◌, All, ◌≡◌, ℕ, ◌+◌, ◌*◌, ◌^◌, ap, arith}
use Rattle.std.specs.Prelude.{Option}
use Rattle.std.proofs.Math.ListN.{get_or-map}
use Rattle.std.proofs.Math.Seq.{get_or-append_seam}
use Rattle.std.proofs.lemmas.Bool.{cases_lt}
use Rattle.std.proofs.lemmas.List.{append-nil, get_or_append_left, length-append, length-map, nil_from_length, take-append-le, take_all}
use Rattle.scan_source.specs.State.{ScanState}
use Rattle.frame_share.specs.Units.{Tally, fresh as unasked, joined as units_joined}
use Rattle.station.specs.Marks.{HasMoreThan, Tallies, fresh, joined}
use Rattle.crew_seat.specs.Seats.{HasGiven, HasTaken, IsOnePart}
use Rattle.scan_source.specs.World.{World}
use Rattle.crew_seat.specs.Stepped.{HasWorked, IsFresh, WasCounted}
use Rattle.crew_seat.specs.Worked.{seat_loads}
use Rattle.crew_seat.specs.declared.seat.Seat.{Seat}

-- A loop that takes its items out of a list: the next one is of that list, and at the end all of them came.
pub not_all_came : {X : Type 0} (all came left rest : List X) (x : X) → came ++ left ≡ all → left ≡ x ∷ rest → length came < length all
not_all_came all came left rest x whole next = omega (arith, ap length (ap (λ (l : List _). came ++ l) (sym next) ∙ whole), length-append came (x ∷ rest))

pub item_of : {X : Type 0} (P : X → Type 0) (all came left rest : List X) (x : X) → came ++ left ≡ all → left ≡ x ∷ rest → All P all → P x
item_of P all came left rest x whole next here =
    let e : came ++ x ∷ rest ≡ all = ap (λ (l : List _). came ++ l) (sym next) ∙ whole in
    subst P (ap (λ (l : List _). get_or l (length came) x) (sym e) ∙ get_or-append_seam came x rest x) (here (length came) x (not_all_came all came left rest x whole next))

pub more_came : {X : Type 0} (all came left rest : List X) (x : X) → came ++ left ≡ all → left ≡ x ∷ rest → (came ++ x ∷ []) ++ rest ≡ all
more_came all came left rest x whole next = append_assoc came (x ∷ []) rest ∙ ap (λ (l : List _). came ++ l) (sym next) ∙ whole

pub all_came : {X : Type 0} (all came left : List X) (n : ℕ) → came ++ left ≡ all → n ≡ length left → n ≡ 0 → came ≡ all
all_came all came left n whole size none = sym (append-nil came) ∙ ap (λ (l : List _). came ++ l) (sym (nil_from_length left (sym size ∙ none))) ∙ whole

pub has_room : (len cap room came all size : ℕ) → len ≡ came → cap ≡ room → came < all → size ≡ all → size ≤ room → len < cap
has_room len cap room came all size is same within e fits = omega arith

-- 16 seats with at most so many loads each
pub few_loads : (loads more came all : ℕ) → loads ≤ seat_loads * came → more ≤ seat_loads → came < all → all ≤ 16 → loads + more < 2 ^ 64
few_loads loads more came all few lent within most = omega arith

pub next_number : (number came all size : ℕ) → number ≡ came → came < all → size ≡ all → size ≤ 16 → number + 1 < 2 ^ 16
next_number number came all size is within e few = omega arith

-- items that have their places as numbers, and one more
pub numbered_more : {X : Type 0} (number : X → ℕ) (xs : List X) (x : X) (n : ℕ) → length xs ≡ n → number x ≡ n → ((k : ℕ) (d : X) → k < n → number (get_or xs k d) ≡ k)
    → (k : ℕ) (d : X) → k < n + 1 → number (get_or (xs ++ x ∷ []) k d) ≡ k
numbered_more number xs x n size last each k d lt = elim (cases_lt k n) [
  | inl early ↦ ap number (get_or_append_left xs (x ∷ []) d k (omega (arith, early, size))) ∙ each k d early
  | inr late ↦
      let here : k ≡ length xs = omega (arith, late, lt, size) in
      ap (λ (m : ℕ). number (get_or (xs ++ x ∷ []) m d)) here ∙ ap number (get_or-append_seam xs x [] d) ∙ last ∙ omega (arith, here, size)
]

pub more_left : (before now : Tallies) (n all size : ℕ) → HasGiven before n now → HasMoreThan size before → n < all → size ≡ all → HasMoreThan 1 now
more_left before now n all size given parts within e = record {
  source = omega (arith, given.source.0, parts.source);
  disk = omega (arith, given.disk.0, parts.disk);
  memory = omega (arith, given.memory.0, parts.memory);
  changed = omega (arith, given.changed.0, parts.changed);
  claims = omega (arith, given.claims.0, parts.claims);
}

pub given_more : (before now next out : Tallies) (n m : ℕ) → HasGiven before n now → out ≡ fresh → joined next out ≡ now → m ≡ n + 1 → HasGiven before m next
given_more before now next out n m h is all more =
    let e : joined next fresh ≡ now = subst (λ (x : Tallies). joined next x ≡ now) is all in
    record {
      source = (omega (arith, ap (λ (x : Tallies). x.source.parts) e, h.source.0, more), omega (arith, ap (λ (x : Tallies). x.source.amount) e, h.source.1));
      disk = (omega (arith, ap (λ (x : Tallies). x.disk.parts) e, h.disk.0, more), omega (arith, ap (λ (x : Tallies). x.disk.amount) e, h.disk.1));
      memory = (omega (arith, ap (λ (x : Tallies). x.memory.parts) e, h.memory.0, more), omega (arith, ap (λ (x : Tallies). x.memory.amount) e, h.memory.1));
      changed = (omega (arith, ap (λ (x : Tallies). x.changed.parts) e, h.changed.0, more), omega (arith, ap (λ (x : Tallies). x.changed.amount) e, h.changed.1));
      claims = (omega (arith, ap (λ (x : Tallies). x.claims.parts) e, h.claims.0, more), omega (arith, ap (λ (x : Tallies). x.claims.amount) e, h.claims.1));
    }

pub taken_more : (before now next other : Tallies) (n m : ℕ) → HasTaken before n now → IsOnePart other → next ≡ joined now other → m ≡ n + 1 → HasTaken before m next
taken_more before now next other n m h one is more = record {
  source = omega (arith, ap (λ (x : Tallies). x.source.parts) is, h.source, one.source, more);
  disk = omega (arith, ap (λ (x : Tallies). x.disk.parts) is, h.disk, one.disk, more);
  memory = omega (arith, ap (λ (x : Tallies). x.memory.parts) is, h.memory, one.memory, more);
  changed = omega (arith, ap (λ (x : Tallies). x.changed.parts) is, h.changed, one.changed, more);
  claims = omega (arith, ap (λ (x : Tallies). x.claims.parts) is, h.claims, one.claims, more);
}

-- a fact of each scan, at the seats
pub all_at : (X Y : Type 0) (f : X → Y) (P : Y → Type 0) (xs : List X) (ys : List Y) → map f xs ≡ ys → All P ys → All (λ x. P (f x)) xs
all_at X Y f P xs ys e h k d lt =
    let at : get_or ys k (f d) ≡ f (get_or xs k d) = ap (λ (l : List Y). get_or l k (f d)) (sym e) ∙ get_or-map f xs k d in
    let short : k < length ys = subst (λ (n : ℕ). k < n) (sym (length-map xs f) ∙ ap length e) lt in
    subst P at (h k (f d) short)

pub refilled : {X : Type 0} (ws xs : List X) (n : ℕ) → n ≡ length ws → take n (ws ++ drop (length ws) xs) ≡ ws
refilled ws xs n e =
    let le : n ≤ length ws = omega (arith, e) in
    take-append-le n ws (drop (length ws) xs) le ∙ ap (λ (m : ℕ). take m ws) e ∙ take_all (length ws) ws (omega arith)

-- a fact of each element that was lent, as the elements of the list
pub all_after : {X : Type 0} (P : X → Type 0) (xs ys zs : List X) (n : ℕ) → length ys ≡ length xs → n ≡ length xs → ((k : ℕ) (d : X) → k < length xs → P (get_or ys k d)) → All P (take n (ys ++ drop (length ys) zs))
all_after P xs ys zs n same e each =
    subst (λ (l : List _). All P l) (sym (refilled ys zs n (omega (arith, same, e)))) (λ k d lt. each k d (omega (arith, lt, same)))

-- one part of the units was handed out
units_are : (before now out : Tally) → out ≡ unasked → units_joined now out ≡ before → units_joined now unasked ≡ before
units_are before now out is all = subst (λ (u : Tally). units_joined now u ≡ before) is all

pub units_left : (before now out : Tally) (all n : ℕ) {m : ℕ} → out ≡ unasked → units_joined now out ≡ before → before.parts + n ≡ all → m ≡ n + 1 → now.parts + m ≡ all
units_left before now out all n is joins left more = let parts = ap (λ (u : Tally). u.parts) (units_are before now out is joins) in omega (arith, parts, left, more)

pub units_amount : (before now out : Tally) → out ≡ unasked → units_joined now out ≡ before → now.amount ≡ before.amount
units_amount before now out is joins = let amount = ap (λ (u : Tally). u.amount) (units_are before now out is joins) in omega (arith, amount)

pub units_closed : (before now out : Tally) → units_joined now out ≡ before → before.pending ≡ 0 → now.pending ≡ 0
units_closed before now out joins none = let pending = ap (λ (u : Tally). u.pending) joins in omega (arith, pending, none)

-- a seat that was worked in from its first state on is to be handed in
pub was_counted : {S N C A B D E F G : Type 0} (told : Option World) (state : S → ScanState) (old new : Seat S N C A B D E F G)
    → IsFresh old → HasWorked told state seat_loads old new → WasCounted new
was_counted told state old new is work = record {
  few = work.few;
  marks = record {
    source = work.causes.parts.source ∙ ap (λ (x : Tallies). x.source.parts) is.marks;
    disk = work.causes.parts.disk ∙ ap (λ (x : Tallies). x.disk.parts) is.marks;
    memory = work.causes.parts.memory ∙ ap (λ (x : Tallies). x.memory.parts) is.marks;
    changed = work.causes.parts.changed ∙ ap (λ (x : Tallies). x.changed.parts) is.marks;
    claims = work.causes.parts.claims ∙ ap (λ (x : Tallies). x.claims.parts) is.marks;
  };
  parts = work.units.parts ∙ ap (λ (u : Tally). u.parts) is.units;
  amount = let none = ap (λ (u : Tally). u.amount) is.units in let amount = work.units.amount in omega (arith, none, amount);
  needed = let none = ap (λ (x : Tallies). x.claims.amount) is.marks in let needed = work.needed in omega (arith, none, needed);
}
