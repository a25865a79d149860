-- A test of all items of a list, from one item to the next.
use Rattle.std.proofs.Common.{◌≡◌, ℕ, ◌+◌, ◌<◌, Bool, true, false, List, length, drop, get_or, refl, sym}
use Rattle.toml.specs.Data.{Data}
use Rattle.toml.specs.View.{items_view, view}
use Rattle.toml.specs.declared.value.Value.{Value}
use Rattle.toml.proofs.Views.{items_view-drop}
use Rattle.project_file.specs.Keys.{all_items}

module _ (test : Data → Bool) (xs : List Value) (i : ℕ) (item : Value) (within : i < length xs) (at : get_or xs i item ≡ item) where
  -- behind an item that passes the others decide
  pub passed : test (view item) ≡ true → all_items test (items_view (drop (i + 1) xs)) ≡ all_items test (items_view (drop i xs))
  passed good = sym (rw (items_view-drop xs i item within, at, good) refl)

  -- one that doesn't decides
  pub stopped : test (view item) ≡ false → false ≡ all_items test (items_view (drop i xs))
  stopped bad = sym (rw (items_view-drop xs i item within, at, bad) refl)
