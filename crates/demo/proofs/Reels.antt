-- The files of a reel, one after another.
use Rattle.std.specs.Prelude.{Option, Some}
use Rattle.cf_base.specs.declared.file.FileId.{FileId}
use Rattle.reel_disk.specs.Disk.{Files}
use Rattle.std.proofs.Common.{◌≡◌, ℕ, ◌+◌, List, [], ◌∷◌, ◌++◌, flat_map, ap, sym, ◌∙◌, append-nil}
use Rattle.std.specs.List.{range_with_len}
use Rattle.std.proofs.lemmas.List.Concat.{flat_map-append}
use Rattle.cf_base.proofs.RangeLaws.{range_more}

pub one_file_more : (file : ℕ → List ℕ) (i : ℕ) → flat_map file (range_with_len 0 (i + 1)) ≡ flat_map file (range_with_len 0 i) ++ file i
one_file_more file i =
    ap (flat_map file) (range_more i) ∙ flat_map-append file (range_with_len 0 i) (i ∷ [])
    ∙ ap (λ (l : List ℕ). flat_map file (range_with_len 0 i) ++ l) (append-nil (file i))

-- what was read of a file is what the disk had there at the start
pub read_is : (start now : Files) (id at : FileId) (read there : List ℕ) → now ≡ start → id ≡ at → now id ≡ Some read → start at ≡ Some there → read ≡ there
read_is start now id at read there same here has had =
    let found : ◌≡◌ {A = Option (List ℕ)} (Some read) (Some there) = sym has ∙ ap (λ (files : Files). files id) same ∙ ap start here ∙ had in cc
