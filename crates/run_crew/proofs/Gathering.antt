-- What the workers did, gathered from their seats.
use Rattle.std.proofs.Common.{◌≡◌, inl, inr, cond, ℕ, zero, suc, ◌+◌, ◌<◌, ◌≤◌, Bool, true, false, List, [], ◌∷◌, All, length, get_or, map, refl, sym, ◌∙◌, ap, subst, arith, set}
use Rattle.std.specs.Prelude.{◌⊎◌, Option, None, Some, sum_by}
use Rattle.std.proofs.lemmas.Option.{same_Some}
use Rattle.std.proofs.lemmas.List.{get_or-map, get_or_past, length-map, get_or-set_other, get_or-set_same, get_or_default}
use Rattle.std.proofs.lemmas.List.Sums.{sum_by-cons}
use Rattle.std.proofs.lemmas.Bool.{cases_lt, true≢false, cases_eq}
use Rattle.scan_source.specs.State.{ScanState}
use Rattle.scan_source.specs.World.{World}
use Rattle.render_board.specs.declared.step.Step.{Step}
use Rattle.render_board.specs.declared.step.Step.TheVariants.{Claim, Finish, Stop}
use Rattle.render_board.specs.declared.step.Why.{Why}
use Rattle.render_board.specs.declared.step.Why.TheVariants.{Source, Disk, Memory, Changed}
use Rattle.render_board.specs.History.{first_why, is_changed, is_disk, is_source, is_stop_by, stops_of}
use Rattle.render_board.specs.Board.{has_stop}
use Rattle.frame_fetch.specs.declared.run_end.RunEnd.TheVariants.{Done, SourceFault, DiskFault}
use Rattle.run_crew.specs.Crews.{AreWorked, end_by}
use Rattle.run_crew.specs.inside.Each.{EachBecame}
use Rattle.crew_seat.specs.Stepped.{HasWorked, IsFresh, HasStepped}
use Rattle.crew_seat.specs.inside.Stepped.{IsReady}
use Rattle.crew_seat.specs.declared.seat.Seat.{Seat}
use Rattle.frame_fetch.specs.Ends.{IsChange}
use Rattle.station.specs.Marks.{Tallies}
use Rattle.frame_fetch.specs.Scanned.{IsScannedAlone}
use Rattle.frame_fetch.proofs.Scanning.{alone_itself}
use Rattle.crew_seat.proofs.Stepping.{stepped_itself, worked_first, worked_on}

module _ {X : Type 0} (f : X → ℕ) where
  -- a sum that is not 0 has an item that is not 0
  pub some_item : (xs : List X) → 1 ≤ sum_by f xs → (k : ℕ) × (k < length xs) × ((d : X) → 1 ≤ f (get_or xs k d))
  some_item [] some = absurd (omega (arith, some))
  some_item (x ∷ xs) some = elim (cases_lt 0 (f x)) [
    | inl here ↦ (0, omega arith, λ d. here)
    | inr none ↦
        let rest = some_item xs (let all = sum_by-cons f x xs in omega (arith, all, some, none)) in
        (suc rest.0, omega (arith, rest.1), λ d. rest.2 d)
  ]

  -- an item is at most the sum
  pub item_within : (xs : List X) (k : ℕ) (d : X) → k < length xs → f (get_or xs k d) ≤ sum_by f xs
  item_within [] k d lt = absurd (omega (arith, lt))
  item_within (x ∷ xs) zero d lt = let all = sum_by-cons f x xs in omega (arith, all)
  item_within (x ∷ xs) (suc k) d lt = let all = sum_by-cons f x xs in let less = item_within xs k d (omega (arith, lt)) in omega (arith, all, less)

  pub sum_mapped : (xs : List X) → sum_by (λ n. n) (map f xs) ≡ sum_by f xs
  sum_mapped [] = refl
  sum_mapped (x ∷ xs) = sum_by-cons (λ n. n) (f x) (map f xs) ∙ ap (λ n. f x + n) (sum_mapped xs) ∙ sym (sum_by-cons f x xs)

-- a seat, where there is one
first_of : {X : Type 0} (xs : List X) (k : ℕ) → k < length xs → X
first_of [] k lt = absurd (omega (arith, lt))
first_of (x ∷ xs) k lt = x

-- a fact of two seats, as one of what they have
mapped_at : {X S : Type 0} (f : X → S) (R : S → S → Type 0) (xs ys : List X) (k : ℕ) (s : S) → length ys ≡ length xs → k < length xs
    → ((d : X) → R (f (get_or xs k d)) (f (get_or ys k d))) → R (get_or (map f xs) k s) (get_or (map f ys) k s)
mapped_at f R xs ys k s same lt each =
    let d = first_of xs k lt in
    subst (λ (a : _). R a (get_or (map f ys) k s)) (sym (get_or-map f xs k d s lt))
    (subst (λ (b : _). R (f (get_or xs k d)) b) (sym (get_or-map f ys k d s (omega (arith, lt, same)))) (each d))

module _ {S N C A B D E F G : Type 0} (told : Option World) (state : S → ScanState) (xs ys : List (Seat S N C A B D E F G)) (threads most : ℕ) (size : length ys ≡ length xs)
    (worked : EachBecame (length xs) (HasWorked told state most) xs ys) (idle : All (λ x. IsFresh x) xs) where
  abbrev scan_of : Seat S N C A B D E F G → S
  scan_of x = x.loader.scan

  abbrev loads_of : Seat S N C A B D E F G → ℕ
  loads_of x = x.loader.loads

  abbrev failed_of : Seat S N C A B D E F G → Bool
  failed_of x = x.has_failed

  -- a stop for a source file was counted at a seat whose load failed
  source_seat : 1 ≤ sum_by (λ x. x.marks.source.amount) ys → (k : ℕ) × (k < length xs) × ((d : Seat S N C A B D E F G) → (get_or ys k d).has_failed ≡ true)
  source_seat some =
      let found = some_item (λ x. x.marks.source.amount) ys some in
      let within : found.0 < length xs = omega (arith, found.1, size) in (
        found.0,
        within,
        λ d.
            let none = ap (λ (m : Tallies). m.source.amount) (idle found.0 d within).marks in
            (worked found.0 d within).causes.source (omega (arith, none, found.2 d)),
      )

  -- and for one that has changed at a seat that loaded
  pub changed_seat : 1 ≤ sum_by (λ x. x.marks.changed.amount) ys → 1 ≤ sum_by loads_of ys
  changed_seat some =
      let found = some_item (λ x. x.marks.changed.amount) ys some in
      let within : found.0 < length xs = omega (arith, found.1, size) in
      let d = first_of xs found.0 within in
      let none = ap (λ (m : Tallies). m.changed.amount) (idle found.0 d within).marks in
      let loaded = ((worked found.0 d within).causes.changed (omega (arith, none, found.2 d))).0 in
      omega (arith, loaded, item_within loads_of ys found.0 d found.1)

  abbrev IsScannedAt : ℕ → S → S → Type 0
  IsScannedAt k a b = IsScannedAlone (get_or (map loads_of ys) k 0) (get_or (map failed_of ys) k false ≡ true) (state a) (state b)

  pub gathered : (before after : List S) (all : ℕ) (Failed : Type 0) → map scan_of xs ≡ before → after ≡ map scan_of ys → all ≡ sum_by loads_of ys
      → ((k : ℕ) (d : Seat S N C A B D E F G) → threads ≤ k → get_or ys k d ≡ get_or xs k d)
      → (Failed → 1 ≤ sum_by (λ x. x.marks.source.amount) ys)
      → AreWorked state threads all Failed before after
  gathered before after all Failed first last total unused fails =
      subst (λ (l : List S). AreWorked state threads all Failed l after) first
      (subst (λ (l : List S). AreWorked state threads all Failed (map scan_of xs) l) (sym last) (record {
        size = length-map ys scan_of ∙ size ∙ sym (length-map xs scan_of);
        counts = map loads_of ys;
        flags = map failed_of ys;
        sum = sum_mapped loads_of ys ∙ sym total;
        each = λ k s lt.
            let within : k < length xs = omega (arith, lt, length-map xs scan_of) in
            mapped_at scan_of (λ a b. IsScannedAt k a b) xs ys k s size within (λ d. at_seat k d within);
        unused = λ k s late. same_at k s late (cases_lt k (length xs));
        failed = λ is.
            let found = source_seat (fails is) in
            let d = first_of xs found.0 found.1 in
            (found.0, omega (arith, found.1, length-map xs scan_of), get_or-map failed_of ys found.0 d false (omega (arith, found.1, size)) ∙ found.2 d);
      }))
    where
      at_seat : (k : ℕ) (d : Seat S N C A B D E F G) → k < length xs → IsScannedAt k ((get_or xs k d).loader.scan) ((get_or ys k d).loader.scan)
      at_seat k d within =
          subst (λ (n : ℕ). IsScannedAlone n (get_or (map failed_of ys) k false ≡ true) (state ((get_or xs k d).loader.scan)) (state ((get_or ys k d).loader.scan))) (sym (get_or-map loads_of ys k d 0 (omega (arith, within, size))))
          (subst (λ (b : Bool). IsScannedAlone ((get_or ys k d).loader.loads) (b ≡ true) (state ((get_or xs k d).loader.scan)) (state ((get_or ys k d).loader.scan))) (sym (get_or-map failed_of ys k d false (omega (arith, within, size))))
          (worked k d within).scanned)

      same_at : (k : ℕ) (s : S) → threads ≤ k → (k < length xs) ⊎ (length xs ≤ k) → get_or (map scan_of ys) k s ≡ get_or (map scan_of xs) k s
      same_at k s late (inl within) =
          let d = first_of xs k within in
          get_or-map scan_of ys k d s (omega (arith, within, size)) ∙ ap scan_of (unused k d late) ∙ sym (get_or-map scan_of xs k d s within)
      same_at k s late (inr past) =
          get_or_past (map scan_of ys) k s (omega (arith, past, size, length-map ys scan_of)) ∙ sym (get_or_past (map scan_of xs) k s (omega (arith, past, length-map xs scan_of)))

-- where no worker was made, no scan was used
pub unworked : {S : Type 0} (state : S → ScanState) → (threads all : ℕ) (Failed : Type 0) (before after : List S)
    → after ≡ before → all ≡ 0 → (Failed → ⊥) → AreWorked state threads all Failed before after
unworked state threads all Failed before after is none never =
    subst (λ (l : List _). AreWorked state threads all Failed before l) (sym is) (record {
      size = refl;
      counts = [];
      flags = [];
      sum = sym none;
      each = λ k s lt. alone_itself (false ≡ true) (λ e. true≢false (sym e)) (state (get_or before k s));
      unused = λ k s late. refl;
      failed = λ is. absurd (never is);
    })

-- the first stop is counted
pub stop_counted : (kind : Why → Bool) (steps : List Step) (why : Why) → first_why steps ≡ Some why → kind why ≡ true → 1 ≤ stops_of kind steps
stop_counted kind [] why first is = cc
stop_counted kind (Claim w i ∷ steps) why first is = let all = sum_by-cons (λ s. cond (is_stop_by kind s) 1 0) (Claim w i) steps in let less = stop_counted kind steps why first is in omega (arith, all, less)
stop_counted kind (Finish w i ∷ steps) why first is = let all = sum_by-cons (λ s. cond (is_stop_by kind s) 1 0) (Finish w i) steps in let less = stop_counted kind steps why first is in omega (arith, all, less)
stop_counted kind (Stop w other ∷ steps) why first is =
    let all = sum_by-cons (λ s. cond (is_stop_by kind s) 1 0) (Stop w other) steps in
    let same : other ≡ why = same_Some _ _ first in
    let here : ◌≡◌ {A = ℕ} (cond (kind other) 1 0) 1 = ap (λ (b : Bool). cond b 1 0) (ap kind same ∙ is) in
    omega (arith, all, here)

-- without a stop there is no first one
pub no_first : (steps : List Step) → has_stop steps ≡ false → first_why steps ≡ None
no_first [] none = refl
no_first (Claim w i ∷ steps) none = no_first steps none
no_first (Finish w i ∷ steps) none = no_first steps none
no_first (Stop w why ∷ steps) none = absurd (true≢false none)

some_first : (steps : List Step) → first_why steps ≡ None → has_stop steps ≡ false
some_first [] none = refl
some_first (Claim w i ∷ steps) none = some_first steps none
some_first (Finish w i ∷ steps) none = some_first steps none
some_first (Stop w why ∷ steps) none = cc

-- the ends by their stops
pub end_source : (steps : List Step) (why : Option Why) → first_why steps ≡ why → end_by why ≡ SourceFault → 1 ≤ stops_of is_source steps
end_source steps None first is = cc
end_source steps (Some Source) first is = stop_counted is_source steps Source first refl
end_source steps (Some Disk) first is = cc
end_source steps (Some Memory) first is = cc
end_source steps (Some (Changed key was now)) first is = cc

pub end_disk : (steps : List Step) (why : Option Why) → first_why steps ≡ why → end_by why ≡ DiskFault → 1 ≤ stops_of is_disk steps
end_disk steps None first is = cc
end_disk steps (Some Source) first is = cc
end_disk steps (Some Disk) first is = stop_counted is_disk steps Disk first refl
end_disk steps (Some Memory) first is = cc
end_disk steps (Some (Changed key was now)) first is = cc

pub end_changed : (steps : List Step) (why : Option Why) → first_why steps ≡ why → IsChange (end_by why) → 1 ≤ stops_of is_changed steps
end_changed steps None first is = let never = is.3 in cc
end_changed steps (Some Source) first is = let never = is.3 in cc
end_changed steps (Some Disk) first is = let never = is.3 in cc
end_changed steps (Some Memory) first is = let never = is.3 in cc
end_changed steps (Some (Changed key was now)) first is = stop_counted is_changed steps (Changed key was now) first refl

pub end_done : (steps : List Step) (why : Option Why) → first_why steps ≡ why → end_by why ≡ Done → has_stop steps ≡ false
end_done steps None first is = some_first steps first
end_done steps (Some Source) first is = cc
end_done steps (Some Disk) first is = cc
end_done steps (Some Memory) first is = cc
end_done steps (Some (Changed key was now)) first is = cc

module _ {S N C A B D E F G : Type 0} (told : Option World) (state : S → ScanState)
    (xs ys : List (Seat S N C A B D E F G)) (s : Seat S N C A B D E F G) (threads n m most : ℕ) (some : 0 < threads) (le : n + m ≤ most) (size : length ys ≡ length xs) (ready : All (λ x. IsReady told state x) xs)
    (worked : EachBecame threads (HasWorked told state n) xs ys) (others : (k : ℕ) (d : Seat S N C A B D E F G) → threads ≤ k → get_or ys k d ≡ get_or xs k d) where
  abbrev Became : Seat S N C A B D E F G → Seat S N C A B D E F G → Type 0
  Became x y = HasWorked told state most x y

  first_most : (x y : Seat S N C A B D E F G) → HasWorked told state n x y → Became x y
  first_most x y work = record { few = omega (arith, work.few, le); units = work.units; scanned = work.scanned; causes = work.causes; needed = work.needed }

  worked_at : (k : ℕ) (d : Seat S N C A B D E F G) → k < length xs → Became (get_or xs k d) (get_or ys k d)
  worked_at k d lt = elim (cases_lt k threads) [
    | inl early ↦ first_most (get_or xs k d) (get_or ys k d) (worked k d early)
    | inr late ↦
        subst (λ (y : Seat S N C A B D E F G). Became (get_or xs k d) y) (sym (others k d late))
        (worked_first told state 0 most (get_or xs k d) (get_or xs k d) (omega arith) (ready k d lt).none (ready k d lt).unfailed (stepped_itself told state 0 0 (get_or xs k d)))
  ]

  -- each seat was worked in, or nothing was done to it; the first one may have gone on
  pub worked_all : (e : Seat S N C A B D E F G) → HasStepped told state m 0 (get_or ys 0 e) s → EachBecame (length xs) (HasWorked told state most) xs (set ys 0 s)
  worked_all e stepped k d lt = elim (cases_eq k 0) [
    | inl front ↦
        let first : 0 < length ys = omega (arith, lt, size) in
        subst (λ (i : ℕ). Became (get_or xs i d) (get_or (set ys 0 s) i d)) (sym front)
        (subst (λ (y : Seat S N C A B D E F G). Became (get_or xs 0 d) y) (sym (get_or-set_same ys 0 s d first))
        (worked_on told state n m most (get_or xs 0 d) (get_or ys 0 d) s le (worked 0 d some)
        (subst (λ (y : Seat S N C A B D E F G). HasStepped told state m 0 y s) (get_or_default ys 0 e d first) stepped)))
    | inr other ↦ subst (λ (y : Seat S N C A B D E F G). Became (get_or xs k d) y) (sym (get_or-set_other ys 0 k s d other)) (worked_at k d lt)
  ]
