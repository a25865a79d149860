-- Lines from their words, and a table from its lines.
use Rattle.std.proofs.Common.{◌≡◌, ℕ, ◌+◌, ◌≤◌, List, [], ◌∷◌, ◌++◌, length, take, map, cond, Bool, true, false, refl, sym, ap, subst, ◌∙◌, arith, append-nil}
use Rattle.std.specs.Prelude.{slice_index_or, decimal, codes, Option}
use Rattle.std.specs.List.{flat_map, join_with_byte, range_with_len}
use Rattle.std.proofs.lemmas.List.{append_assoc, length-append, map-append, take_all}
use Rattle.std.proofs.lemmas.List.Concat.{flat_map-append}
use Rattle.std.proofs.lemmas.List.Elements.{filter-append}
use Rattle.cf_base.proofs.RangeLaws.{range_more}
use Rattle.conform_job.specs.Job.{JobData}
use Rattle.reel_disk.specs.Call.{Call}
use Rattle.reel_disk.specs.Disk.{Files}
use Rattle.scan_source.specs.World.{World}
use Rattle.reel_writer.specs.Reel.{frames_of, IsSoundReel}
use Rattle.resume_ledger.specs.Look.{ViewState, IsViewOf}
use Rattle.reel_qc.specs.Reads.{ReadsFrame}
use Rattle.reel_qc.specs.Words.{frame_words}
use Rattle.printed_text.specs.Text.{spaced_line}
use Rattle.reel_qc.specs.Counts.{count_of, counts_of}
use Rattle.reel_qc.specs.Table.{acked_frames, acked_of, defined_row, defined_table, kind_word, quality_table, row_line, row_of, table_of}
use Rattle.reel_qc.specs.inside.Table.{HasRows}
use Rattle.reel_qc.specs.declared.table.probe.ProbeKind.{ProbeKind}
use Rattle.reel_qc.proofs.Asking.{asks_rows}

joined : (word : List ℕ) (words : List (List ℕ)) → join_with_byte 32 (word ∷ words) ≡ word ++ flat_map (λ w. 32 ∷ w) words
joined word [] = sym (append-nil word)
joined word (next ∷ words) = ap (λ l. word ++ (32 ∷ l)) (joined next words)

map_twice : {X Y Z : Type 0} (f : Y → Z) (g : X → Y) (xs : List X) → map f (map g xs) ≡ map (λ x. f (g x)) xs
map_twice f g [] = refl
map_twice f g (x ∷ xs) = ap (λ l. f (g x) ∷ l) (map_twice f g xs)

module _ {X : Type 0} (word_of : X → List ℕ) where
  each_word : (xs : List X) → flat_map (λ x. 32 ∷ word_of x) xs ≡ flat_map (λ w. 32 ∷ w) (map word_of xs)
  each_word [] = refl
  each_word (x ∷ xs) = ap (λ l. 32 ∷ word_of x ++ l) (each_word xs)

  -- a word and what each item adds make up a line
  line_made : (old word : List ℕ) (xs : List X) → old ++ word ++ flat_map (λ x. 32 ∷ word_of x) xs ++ 10 ∷ [] ≡ old ++ spaced_line (word ∷ map word_of xs)
  line_made old word xs =
      ap (λ l. old ++ word ++ l ++ 10 ∷ []) (each_word xs)
      ∙ ap (λ l. l ++ 10 ∷ []) (append_assoc old word _)
      ∙ append_assoc old _ (10 ∷ [])
      ∙ ap (λ l. old ++ (l ++ 10 ∷ [])) (sym (joined word (map word_of xs)))

  -- the loop has gone over all items
  pub made : (old word text new : List ℕ) (i : ℕ) (xs : List X) → text ≡ old ++ word ++ flat_map (λ x. 32 ∷ word_of x) (take i xs)
      → length xs ≤ i → new ≡ text ++ 10 ∷ [] → new ≡ old ++ spaced_line (word ∷ map word_of xs)
  made old word text new i xs is all end =
      end ∙ ap (λ l. l ++ 10 ∷ []) (is ∙ ap (λ ys. old ++ word ++ flat_map (λ x. 32 ∷ word_of x) ys) (take_all i xs all))
      ∙ line_made old word xs

pub kinds_made : {X : Type 0} (kind_of : X → ProbeKind) (old text new : List ℕ) (i : ℕ) (xs : List X) → text ≡ old ++ codes "qc" ++ flat_map (λ x. 32 ∷ kind_word (kind_of x)) (take i xs)
    → length xs ≤ i → new ≡ text ++ 10 ∷ [] → new ≡ old ++ spaced_line (codes "qc" ∷ map kind_word (map kind_of xs))
kinds_made kind_of old text new i xs is all end =
    made (λ x. kind_word (kind_of x)) old (codes "qc") text new i xs is all end ∙ ap (λ l. old ++ spaced_line (codes "qc" ∷ l)) (sym (map_twice kind_word kind_of xs))

-- a line of counts is that of the words that they count
pub row_counted : (kinds : List ProbeKind) (frame : ℕ) (words counts old new : List ℕ) → counts ≡ counts_of kinds words
    → new ≡ old ++ spaced_line (decimal frame ∷ map decimal counts) → new ≡ old ++ row_line kinds (record { frame = frame; words = words })
unfolding row_line
row_counted kinds frame words counts old new counted is =
    is ∙ ap (λ l. old ++ spaced_line (decimal frame ∷ map decimal l)) counted
    ∙ ap (λ l. old ++ spaced_line (decimal frame ∷ l)) (map_twice decimal (λ kind. count_of kind words) kinds)

module _ (kinds : List ProbeKind) (job : JobData) (Told : Type 0) (files : Files) where
  one_row : (i : ℕ) (before after : List Call) (words old new : List ℕ) → (Told → words ≡ (row_of job files i).words) → ReadsFrame job i words before after → new ≡ old ++ row_line kinds (record { frame = i; words = words })
      → HasRows kinds job Told files (i ∷ []) before after old new 1
  one_row i before after words old new told read text = record {
    rows = record { frame = i; words = words } ∷ [];
    frames_are = refl;
    rows_are = λ t. ap (λ ws. record { frame = i; words = ws } ∷ []) (told t);
    read = (after, read, refl);
    text = text ∙ ap (λ l. old ++ l) (sym (append-nil _));
    number_is = refl;
  }

  pub rows_along : (first second : List ℕ) (before between after : List Call) (old mid new : List ℕ) (a b : ℕ) → HasRows kinds job Told files first before between old mid a
      → HasRows kinds job Told files second between after mid new b → HasRows kinds job Told files (first ++ second) before after old new (a + b)
  rows_along first second before between after old mid new a b one two = record {
    rows = one.rows ++ two.rows;
    frames_are = map-append _ one.rows two.rows ∙ (λ t. one.frames_are t ++ two.frames_are t);
    rows_are = λ told. (λ t. one.rows_are told t ++ two.rows_are told t) ∙ sym (map-append (row_of job files) first second);
    read = asks_rows job one.rows two.rows before between after one.read two.read;
    text = two.text ∙ ap (λ l. l ++ flat_map (row_line kinds) two.rows) one.text
        ∙ append_assoc old _ _ ∙ ap (λ l. old ++ l) (sym (flat_map-append (row_line kinds) one.rows two.rows));
    number_is = omega (arith, one.number_is, two.number_is, length-append one.rows two.rows);
  }

  -- the same over other files that were told to be these
  pub rows_as : (other : Files) (frames : List ℕ) (before after : List Call) (old new : List ℕ) (number : ℕ) → (Told → other ≡ files) → HasRows kinds job Told other frames before after old new number
      → HasRows kinds job Told files frames before after old new number
  rows_as other frames before after old new number same has = record {
    rows = has.rows;
    frames_are = has.frames_are;
    rows_are = λ told. subst (λ (f : Files). has.rows ≡ map (row_of job f) frames) (same told) (has.rows_are told);
    read = has.read;
    text = has.text;
    number_is = has.number_is;
  }

-- one frame more
pub acked_more : (view : ViewState) (i : ℕ) → acked_of view (range_with_len 0 (i + 1)) ≡ acked_of view (range_with_len 0 i) ++ acked_of view (i ∷ [])
acked_more view i = ap (acked_of view) (range_more i) ∙ filter-append (λ k. slice_index_or view.gates k false) (range_with_len 0 i) (i ∷ [])

acked_one : (view : ViewState) (i : ℕ) → slice_index_or view.gates i false ≡ true → acked_of view (i ∷ []) ≡ i ∷ []
acked_one view i open_gate = ap (λ b. cond b (i ∷ []) []) open_gate

pub row_put : (kinds : List ProbeKind) (job : JobData) (Told : Type 0) (files : Files) (view : ViewState) (i : ℕ) (before after : List Call) (words old new : List ℕ) → slice_index_or view.gates i false ≡ true
    → (Told → words ≡ (row_of job files i).words) → ReadsFrame job i words before after → new ≡ old ++ row_line kinds (record { frame = i; words = words })
    → HasRows kinds job Told files (acked_of view (i ∷ [])) before after old new 1
row_put kinds job Told files view i before after words old new acked told read text =
    subst (λ frames. HasRows kinds job Told files frames before after old new 1) (sym (acked_one view i acked)) (one_row kinds job Told files i before after words old new told read text)

-- the three parts make up the table
pub table_made : (kinds : List ProbeKind) (view : ViewState) (job : JobData) (Told : Type 0) (files : Files) (before after : List Call) (old mid new last : List ℕ) (number : ℕ)
    → old ≡ [] → mid ≡ old ++ spaced_line (codes "qc" ∷ map kind_word kinds) → (has : HasRows kinds job Told files (acked_frames view) before after mid new number)
    → last ≡ new ++ spaced_line (codes "frames" ∷ decimal number ∷ []) → last ≡ table_of kinds has.rows
unfolding table_of
table_made kinds view job Told files before after old mid new last number empty first has end =
    let front = first ∙ ap (λ l. l ++ spaced_line (codes "qc" ∷ map kind_word kinds)) empty in
    end ∙ ap (λ l. l ++ spaced_line (codes "frames" ∷ decimal number ∷ [])) (has.text ∙ ap (λ l. l ++ flat_map (row_line kinds) has.rows) front)
    ∙ ap (λ n. spaced_line (codes "qc" ∷ map kind_word kinds) ++ flat_map (row_line kinds) has.rows ++ spaced_line (codes "frames" ∷ decimal n ∷ [])) has.number_is

-- which is that of the files that were told
pub table_told : (kinds : List ProbeKind) (view : ViewState) (job : JobData) (Told : Type 0) (files : Files) (before after : List Call) (old new text : List ℕ) (number : ℕ) (has : HasRows kinds job Told files (acked_frames view) before after old new number)
    → text ≡ table_of kinds has.rows → Told → text ≡ quality_table kinds job view files
table_told kinds view job Told files before after old new text number has is told = is ∙ ap (table_of kinds) (has.rows_are told)

-- a sound folder has the files of the definition
module _ (job : JobData) (view : ViewState) (files : Files) (world : World) (of : IsViewOf job.parts.digest (frames_of job) files view) (sound : IsSoundReel job world files) where
  same_row : (i : ℕ) → slice_index_or view.gates i false ≡ true → row_of job files i ≡ defined_row job world i
  same_row i acked =
      let at = sound.sound i ((of.acks.flags_are i).0 acked) in
      ap (λ (content : Option (List ℕ)). record { frame = i; words = frame_words job content }) at.file

  same_rows : (frames : List ℕ) → map (row_of job files) (acked_of view frames) ≡ map (defined_row job world) (acked_of view frames)
  same_rows [] = refl
  same_rows (i ∷ frames) = by (slice_index_or view.gates i false) refl (same_rows frames)
    where
      by : (gate : Bool) → slice_index_or view.gates i false ≡ gate → map (row_of job files) (acked_of view frames) ≡ map (defined_row job world) (acked_of view frames)
          → map (row_of job files) (acked_of view (i ∷ frames)) ≡ map (defined_row job world) (acked_of view (i ∷ frames))
      by true is rest = rw is (λ t. same_row i is t ∷ rest t)
      by false is rest = rw is rest

  pub sound_table : (kinds : List ProbeKind) → quality_table kinds job view files ≡ defined_table kinds job world view
  sound_table kinds = ap (table_of kinds) (same_rows (range_with_len 0 (length view.gates)))
