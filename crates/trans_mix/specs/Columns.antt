-- Which columns of a line pass a test, where they lie side by side; and the tests of one line of a wipe. Places are those
-- of centres, as in Wipe: a column's is 2x + 1 of 2w, in halves of a pixel.
-- * columns: those from one up to another of a line, and no others, pass a test
--     AreColumns shows w from to      of w columns those from `from` up to `to`, and no others, show
use Rattle.std.specs.Prelude.{◌≡◌, ℕ, ◌<◌, ◌≤◌, Bool, true, false}

pub record AreColumns (shows : ℕ → Bool) (w from to : ℕ) : Type 0 where
  pub order : from ≤ to
  pub within : to ≤ w
  pub inside : (x : ℕ) → from ≤ x → x < to → shows x ≡ true
  pub before : (x : ℕ) → x < from → shows x ≡ false
  pub behind : (x : ℕ) → to ≤ x → x < w → shows x ≡ false
