-- What it says of a path, a title or a name that it is one: its length, and each of its bytes.
use Rattle.std.proofs.Common.{◌≡◌, ℕ, ◌≤◌, true, List, length, arith}
use Rattle.std.specs.List.{list_all}
use Rattle.std.proofs.lemmas.Bool.Decides.{nat_tests}
use Rattle.cf_base.specs.Text.{is_printable, IsPathText}

-- how long a path is
pub path_size : (bytes : List ℕ) → IsPathText bytes → (1 ≤ length bytes) × (length bytes ≤ 255)
path_size bytes is = (grind (arith, nat_tests), grind (arith, nat_tests))

-- of what size and of which bytes a path is made
pub path_whole : (bytes : List ℕ) → 1 ≤ length bytes → length bytes ≤ 255 → list_all is_printable bytes ≡ true → IsPathText bytes
path_whole bytes some short prints = grind (arith, nat_tests)

pub path_prints : (bytes : List ℕ) → IsPathText bytes → list_all is_printable bytes ≡ true
path_prints bytes is = grind (arith, nat_tests)
