-- Counts that are added block by block.
use Rattle.std.proofs.Common.{◌≡◌, ℕ, zero, suc, set, inl, inr, min, ◌-◌, replicate, ◌+◌, ◌*◌, ◌/◌, ◌%◌, ◌^◌, ◌<◌, ◌≤◌, List, [], ◌∷◌, ◌++◌, length, take, drop, get_or, refl, sym, ap, subst, ◌∙◌, arith, w64, Fits}
use Rattle.std.proofs.lemmas.Bool.{cases_lt}
use Rattle.std.proofs.lemmas.List.{get_or-append_right, get_or_append_left, length-append, length-replicate, get_or-replicate, get_or-map, get_or_default, get_or_past, get_or-set_same, get_or-set_other, length-set, get_or-take, get_or-drop, length-map, length-take, length-take-le, length-drop, same_lists, take_all, take-append-drop, drop_all, drop-take, take-take}
use Rattle.std.proofs.Math.Nat.{mod-lt, mul-le-mul}
use Rattle.std.proofs.lemmas.Nat.{div-mul-add, mod-mul-add}
use Rattle.std.proofs.Math.Facts.{Fits-lt-pow}
use Rattle.reel_qc.specs.declared.table.probe.ProbeKind.{ProbeKind}
use Rattle.reel_qc.specs.Counts.{HasAdded, count_of, counts_of}
use Rattle.reel_qc.specs.inside.Counts.{block_of, cell_of}
use Rattle.reel_qc.specs.inside.Table.{AddsCounts, HasCounted}
use Rattle.reel_qc.proofs.Cutting.{count_along, count_small}

-- by its place
pub count_at : (kinds : List ProbeKind) (words : List ℕ) (k : ℕ) (d : ProbeKind) → k < length kinds → get_or (counts_of kinds words) k 0 ≡ count_of (get_or kinds k d) words
count_at kinds words k d lt = get_or-map (λ kind. count_of kind words) kinds k d 0 lt

-- of two parts of the words
pub counts_along : (kinds : List ProbeKind) (first second : List ℕ) (k : ℕ)
    → get_or (counts_of kinds (first ++ second)) k 0 ≡ get_or (counts_of kinds first) k 0 + get_or (counts_of kinds second) k 0
counts_along [] first second k = refl
counts_along (kind ∷ kinds) first second zero = count_along kind first second
counts_along (kind ∷ kinds) first second (suc k) = counts_along kinds first second k

pub nothing_added : (kinds : List ProbeKind) (counts : List ℕ) → ((k : ℕ) → Fits w64 (get_or counts k 0)) → HasAdded (counts_of kinds []) counts counts
nothing_added kinds counts fit = record {
  size = refl;
  each = λ k. let small = Fits-lt-pow {w = w64} (fit k) in let none = zero_at kinds k in omega (arith, small, none);
}
  where
    zero_at : (kinds : List ProbeKind) (k : ℕ) → get_or (counts_of kinds []) k 0 ≡ 0
    zero_at kinds k = let twice = counts_along kinds [] [] k in omega (arith, twice)

-- what two steps add is what they add together
pub added_along : (a b c old mid new : List ℕ) → ((k : ℕ) → get_or c k 0 ≡ get_or a k 0 + get_or b k 0) → HasAdded a old mid → HasAdded b mid new → HasAdded c old new
added_along a b c old mid new sum one two = record {
  size = two.size ∙ one.size;
  each = λ k. let first = one.each k in let second = two.each k in let both = sum k in omega (arith, first, second, both);
}

pub words_added : (kinds : List ProbeKind) (first second old mid new : List ℕ) → HasAdded (counts_of kinds first) old mid → HasAdded (counts_of kinds second) mid new
    → HasAdded (counts_of kinds (first ++ second)) old new
words_added kinds first second old mid new = added_along _ _ _ old mid new (counts_along kinds first second)

-- the blocks before the n-th, and that block
block_along : (words : List ℕ) (n : ℕ) → take (n * 16384) words ++ block_of words n ≡ take ((n + 1) * 16384) words
block_along words n =
    let next : (n + 1) * 16384 ≡ n * 16384 + 16384 = omega arith in
    (λ i. sym (take-take (n * 16384) (n * 16384 + 16384) words (omega arith)) i ++ sym (drop-take (n * 16384) 16384 words) i)
    ∙ take-append-drop (n * 16384) (take (n * 16384 + 16384) words)
    ∙ ap (λ m. take m words) (sym next)

-- the first k are added to their counts, and the others are as they were
pub record IsAddedTo (added start now : List ℕ) (k : ℕ) : Type 0 where
  pub size : length now ≡ length start
  pub done : (j : ℕ) → j < k → get_or now j 0 ≡ (get_or start j 0 + get_or added j 0) % 2 ^ 64
  pub rest : (j : ℕ) → k ≤ j → get_or now j 0 ≡ get_or start j 0

pub none_added : (added start : List ℕ) → IsAddedTo added start start 0
none_added added start = record { size = refl; done = λ j lt. omega (arith, lt); rest = λ j le. refl }

pub one_added : (added start now : List ℕ) (k value : ℕ) → k < length now → value ≡ (get_or now k 0 + get_or added k 0) % 2 ^ 64
    → IsAddedTo added start now k → IsAddedTo added start (set now k value) (k + 1)
one_added added start now k value within is before = record {
  size = length-set now k value ∙ before.size;
  done = λ j lt. elim (cases_lt j k) [
    | inl below ↦ get_or-set_other now k j value 0 (λ same. omega (arith, below, same)) ∙ before.done j below
    | inr not_below ↦
        let same : j ≡ k = omega (arith, lt, not_below) in
        ap (λ i. get_or (set now k value) i 0) same ∙ get_or-set_same now k value 0 within ∙ is
        ∙ ap (λ n. (n + get_or added k 0) % 2 ^ 64) (before.rest k (omega arith))
        ∙ ap (λ i. (get_or start i 0 + get_or added i 0) % 2 ^ 64) (sym same)
  ];
  rest = λ j le. get_or-set_other now k j value 0 (λ same. omega (arith, le, same)) ∙ before.rest j (omega (arith, le));
}

pub all_added : (added start now : List ℕ) (k : ℕ) → length added ≡ length start → length start ≤ k → IsAddedTo added start now k → HasAdded added start now
all_added added start now k size all is = record {
  size = is.size;
  each = λ j. elim (cases_lt j k) [
    | inl below ↦ is.done j below
    | inr not_below ↦
        let now_none = get_or_past now j 0 (omega (arith, all, not_below, is.size)) in
        let start_none = get_or_past start j 0 (omega (arith, all, not_below)) in
        let added_none = get_or_past added j 0 (omega (arith, all, not_below, size)) in
        omega (arith, now_none, start_none, added_none)
  ];
}

-- row n of the cells has the counts of block n
pub row_counts : (kinds : List ProbeKind) (words cells row : List ℕ) (n blocks width : ℕ) → width ≡ length kinds → length cells ≡ blocks * width → n < blocks
    → ((i : ℕ) → i < length cells → get_or cells i 0 ≡ cell_of kinds words i)
    → row ≡ take width (drop (n * width) cells) → row ≡ counts_of kinds (block_of words n)
row_counts kinds words cells row n blocks width width_is size within are row_is = same_lists row (counts_of kinds (block_of words n)) (long ∙ width_is ∙ sym counted) each
  where
    fits : n * width + width ≤ length cells
    fits =
        let next : n + 1 ≤ blocks = omega (arith, within) in
        let same : width ≤ width = omega arith in
        let all = mul-le-mul next same in
        omega (arith, all, size)

    long : length row ≡ width
    long = ap length row_is ∙ length-take-le width (drop (n * width) cells) (omega (arith, length-drop (n * width) cells, fits))

    counted : length (counts_of kinds (block_of words n)) ≡ length kinds
    counted = length-map kinds (λ kind. count_of kind (block_of words n))

    each : (k d : ℕ) → k < length row → get_or row k d ≡ get_or (counts_of kinds (block_of words n)) k d
    each k d lt =
        let short : k < width = omega (arith, lt, long) in
        let short_kinds : k < length kinds = omega (arith, short, width_is) in
        let inside : n * width + k < length cells = omega (arith, fits, short) in
        get_or_default row k d 0 lt
        ∙ ap (λ l. get_or l k 0) row_is ∙ get_or-take width (drop (n * width) cells) k 0 short ∙ get_or-drop (n * width) cells k 0
        ∙ are (n * width + k) inside
        ∙ ap (λ w. get_or (counts_of kinds (block_of words ((n * width + k) / w))) ((n * width + k) % w) 0) (sym width_is)
        ∙ (λ i. get_or (counts_of kinds (block_of words (div-mul-add n width k short i))) (mod-mul-add n width k short i) 0)
        ∙ get_or_default (counts_of kinds (block_of words n)) k 0 d (omega (arith, counted, short_kinds))

-- one block more
pub block_added : (kinds : List ProbeKind) (words old mid new : List ℕ) (n : ℕ) → HasAdded (counts_of kinds (take (n * 16384) words)) old mid
    → HasAdded (counts_of kinds (block_of words n)) mid new → HasAdded (counts_of kinds (take ((n + 1) * 16384) words)) old new
block_added kinds words old mid new n before more =
    subst (λ l. HasAdded (counts_of kinds l) old new) (block_along words n) (words_added kinds (take (n * 16384) words) (block_of words n) old mid new before more)

pub blocks_added : (kinds : List ProbeKind) (words old new : List ℕ) (n : ℕ) → length words ≤ n * 16384 → HasAdded (counts_of kinds (take (n * 16384) words)) old new
    → HasAdded (counts_of kinds words) old new
blocks_added kinds words old new n all has = subst (λ l. HasAdded (counts_of kinds l) old new) (take_all (n * 16384) words all) has

pub range_is_block : (words : List ℕ) (n start end : ℕ) → start ≡ min (min (n * 16384) (2 ^ 64 - 1)) (length words) → end ≡ min (start + 16384) (length words) → length words ≤ 16777216
    → take (end - start) (drop start words) ≡ block_of words n
range_is_block words n start end start_is end_is short = elim (cases_lt (n * 16384) (length words)) [
  | inl inside ↦
      let from : start ≡ n * 16384 = omega (arith, start_is, inside, short) in
      let size : length (drop start words) ≡ length words - start = length-drop start words in
      cut (end - start) (drop start words) (omega (arith, end_is, size, from, inside)) ∙ ap (λ m. take 16384 (drop m words)) from
  | inr behind ↦
      let none_left : length words ≤ start = omega (arith, start_is, behind, short) in
      ap (take (end - start)) (drop_all start words none_left) ∙ take_nil (end - start) ∙ sym (ap (take 16384) (drop_all (n * 16384) words behind))
]
  where
    cut : (m : ℕ) (l : List ℕ) → m ≡ min 16384 (length l) → take m l ≡ take 16384 l
    cut m l is = elim (cases_lt (length l) 16384) [
      | inl short ↦ let all : length l ≤ m = omega (arith, is, short) in take_all m l all ∙ sym (take_all 16384 l (omega (arith, short)))
      | inr long ↦ let full : m ≡ 16384 = omega (arith, is, long) in ap (λ k. take k l) full
    ]

    take_nil : (m : ℕ) → take {A = ℕ} m [] ≡ []
    take_nil m = take_all m [] (omega arith)

-- a cell is the count of its probe over its block
pub cell_is : (kinds : List ProbeKind) (words block : List ℕ) (i count : ℕ) (kind : ProbeKind) → 0 < length kinds → block ≡ block_of words (i / length kinds)
    → kind ≡ get_or kinds (i % length kinds) kind → count ≡ count_of kind block → count ≡ cell_of kinds words i
cell_is kinds words block i count kind some block_is kind_is is =
    is ∙ (λ t. count_of (kind_is t) (block_is t)) ∙ sym (count_at kinds (block_of words (i / length kinds)) (i % length kinds) kind (mod-lt i some))

-- the count of probe k is added
pub probe_added : (kinds : List ProbeKind) (words start now : List ℕ) (k count : ℕ) (kind : ProbeKind) → k < length kinds → length now ≡ length kinds
    → kind ≡ get_or kinds k kind → count ≡ count_of kind words → IsAddedTo (counts_of kinds words) start now k
    → IsAddedTo (counts_of kinds words) start (set now k ((get_or now k 0 + count) % 2 ^ 64)) (k + 1)
probe_added kinds words start now k count kind within size kind_is is before =
    one_added (counts_of kinds words) start now k ((get_or now k 0 + count) % 2 ^ 64) (omega (arith, within, size))
    (ap (λ n. (get_or now k 0 + n) % 2 ^ 64) (is ∙ ap (λ kd. count_of kd words) kind_is ∙ sym (count_at kinds words k kind within))) before

counts_small : (kinds : List ProbeKind) (words : List ℕ) → ((i : ℕ) → get_or words i 0 < 2 ^ 32) → length words ≤ 16777216 → (k : ℕ) → get_or (counts_of kinds words) k 0 < 2 ^ 64
counts_small [] words small short k = omega arith
counts_small (kind ∷ kinds) words small short zero = count_small kind words small short
counts_small (kind ∷ kinds) words small short (suc k) = counts_small kinds words small short k

-- no counts yet
pub none_counted : (kinds : List ProbeKind) (Told : Type 0) (exact : List ℕ) (Reads : List ℕ → Type 0) (counts : List ℕ) → (Told → [] ≡ exact) → Reads [] → ((k : ℕ) → Fits w64 (get_or counts k 0)) → AddsCounts kinds Told exact Reads 0 counts counts
none_counted kinds Told exact Reads counts told read fit = record {
  words = [];
  told = told;
  read = read;
  few = omega arith;
  small = λ k. omega arith;
  added = nothing_added kinds counts fit;
}

-- more words are counted
pub counted_more : (kinds : List ProbeKind) (Told : Type 0) (exact more whole : List ℕ) (First Second Reads : List ℕ → Type 0) (old mid new : List ℕ) (done room : ℕ)
    → AddsCounts kinds Told exact First done old mid → (Told → whole ≡ exact ++ more) → ((a b : List ℕ) → First a → Second b → Reads (a ++ b)) → AddsCounts kinds Told more Second room mid new
    → AddsCounts kinds Told whole Reads (done + room) old new
counted_more kinds Told exact more whole First Second Reads old mid new done room first is both second = record {
  words = first.words ++ second.words;
  told = λ t. (λ i. first.told t i ++ second.told t i) ∙ sym (is t);
  read = both first.words second.words first.read second.read;
  few = let sum = length-append first.words second.words in omega (arith, sum, first.few, second.few);
  small = all_small;
  added = words_added kinds first.words second.words old mid new first.added second.added;
}
  where
    all_small : (i : ℕ) → get_or (first.words ++ second.words) i 0 < 2 ^ 32
    all_small i = elim (cases_lt i (length first.words)) [
      | inl front ↦ let is = get_or_append_left first.words second.words 0 i front in omega (arith, is, first.small i)
      | inr later ↦ let is = get_or-append_right first.words second.words (length first.words) i 0 refl later in omega (arith, is, second.small (i - length first.words))
    ]

-- counts that began at 0 are those of the words
pub whole_counted : (kinds : List ProbeKind) (Told : Type 0) (exact : List ℕ) (Reads : List ℕ → Type 0) (old new : List ℕ) (most : ℕ) → most ≤ 16777216 → old ≡ replicate (length kinds) 0
    → AddsCounts kinds Told exact Reads most old new → HasCounted kinds Told exact Reads new
whole_counted kinds Told exact Reads old new most few zeros has = record {
  words = has.words;
  told = has.told;
  read = has.read;
  counts_are = same_lists new (counts_of kinds has.words) long each;
}
  where
    all : length (counts_of kinds has.words) ≡ length kinds
    all = length-map kinds (λ kind. count_of kind has.words)

    long : length new ≡ length (counts_of kinds has.words)
    long = has.added.size ∙ ap length zeros ∙ length-replicate (length kinds) 0 ∙ sym all

    each : (k d : ℕ) → k < length new → get_or new k d ≡ get_or (counts_of kinds has.words) k d
    each k d lt =
        let step = has.added.each k in
        let zero_before = ap (λ l. get_or l k 0) zeros ∙ get_or-replicate (length kinds) k 0 0 (omega (arith, lt, long, all)) in
        let fits = counts_small kinds has.words has.small (omega (arith, has.few, few)) k in
        let same : get_or new k 0 ≡ get_or (counts_of kinds has.words) k 0 = omega (arith, step, zero_before, fits) in
        get_or_default new k d 0 lt ∙ same ∙ get_or_default (counts_of kinds has.words) k 0 d (omega (arith, lt, long))

-- the same, by what the words were and how they were read
pub counted_as : (kinds : List ProbeKind) (Told : Type 0) (exact same : List ℕ) (Reads Other : List ℕ → Type 0) (counts new : List ℕ) → exact ≡ same → ((words : List ℕ) → Reads words → Other words) → new ≡ counts
    → HasCounted kinds Told exact Reads counts → HasCounted kinds Told same Other new
counted_as kinds Told exact same Reads Other counts new is other are has = record {
  words = has.words;
  told = λ told. has.told told ∙ is;
  read = other has.words has.read;
  counts_are = are ∙ has.counts_are;
}

-- the words of a front have 32 bits
pub front_small : (n : ℕ) (words : List ℕ) → ((k : ℕ) → get_or words k 0 < 2 ^ 32) → (k : ℕ) → get_or (take n words) k 0 < 2 ^ 32
front_small n words small k = elim (cases_lt k n) [
  | inl within ↦ let is = get_or-take n words k 0 within in omega (arith, is, small k)
  | inr past ↦
      let few = length-take n words in
      let is = get_or_past (take n words) k 0 (omega (arith, few, past)) in
      omega (arith, is)
]
