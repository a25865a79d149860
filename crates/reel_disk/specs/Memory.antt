-- What a disk in memory holds, and held: its files now, and what it takes to go back from each step.
-- * disk in memory [MemoryDisk]: its history from its files and what it takes to go back from each step; which calls fail
use Rattle.std.specs.Prelude.{ℕ, zero, suc, List, [], ◌∷◌, length, drop, Option, Some, None, Vec}
use Rattle.std.specs.declared.alloc.Global.{Global}
use Rattle.std.specs.BTreeMap.{BTreeMap, get}
use Rattle.cf_base.specs.declared.file.FileId.{FileId}
use Rattle.cf_base.specs.contracts.file.FileIdOrd.TheImpl as file_id_order
use Rattle.reel_disk.specs.declared.disk.Place.{Place}
use Rattle.reel_disk.specs.declared.store.Step.{Step}
use Rattle.reel_disk.specs.declared.store.Step.TheVariants.{Wrote, Patched, Synced}
use Rattle.reel_disk.specs.declared.store.Store.{Store}
use Rattle.reel_disk.specs.Disk.{Files, Moment, History, with_file}

abbrev pub content_of : Option (Vec ℕ Global) → Option (List ℕ)
content_of None = None
content_of (Some bytes) = Some bytes.items

-- the bytes of each file
abbrev pub find_file : BTreeMap FileId (Vec ℕ Global) → Files
find_file files id = content_of (get (file_id_order.ghosts).cmp files id)

abbrev pub tail_of : List Place → List Place
tail_of [] = []
tail_of (p ∷ ps) = ps

-- the list with other numbers laid over it from a place on, as far as it goes
abbrev pub laid_over : List ℕ → ℕ → List ℕ → List ℕ
laid_over [] start others = []
laid_over (x ∷ xs) zero [] = x ∷ xs
laid_over (x ∷ xs) zero (y ∷ ys) = y ∷ laid_over xs zero ys
laid_over (x ∷ xs) (suc start) ys = x ∷ laid_over xs start ys

abbrev pub put_back : Option (List ℕ) → ℕ → List ℕ → Option (List ℕ)
put_back None start others = None
put_back (Some bytes) start others = Some (laid_over bytes start others)

-- the loose places before a step
abbrev pub loose_before : Step → List Place → List Place
loose_before (Synced before) places = before.items
loose_before step places = tail_of places

-- the files before a step
abbrev pub view_before : Step → Files → Files
view_before (Wrote id before) files = with_file id (content_of before) files
view_before (Patched id start before) files = with_file id (put_back (files id) start before.items) files
view_before step files = files

-- the moment before a step
abbrev pub undo : Step → Moment → Moment
undo s m = record { view = view_before s m.view; loose = loose_before s m.loose }

-- the moment before several steps, the oldest of them first
abbrev pub undo_all : List Step → Moment → Moment
undo_all [] m = m
undo_all (s ∷ steps) m = undo s (undo_all steps m)

abbrev pub history_from : Files → List Place → List Step → History
history_from files loose steps = record { now = length steps; past = λ m. undo_all (drop m steps) (record { view = files; loose = loose }) }

abbrev pub history_of : Store → History
history_of s = history_from (find_file s.files) s.loose.items s.steps.items
