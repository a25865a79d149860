-- What a cube text stands for: the kind and size of its table, the bounds of the input on each channel,
-- and the values of each data line, by its number from 0. Lists of three go by channel: red, green, blue.
use Rattle.std.specs.Prelude.{◌≡◌, ℕ, ◌*◌, ◌<◌, ◌≤◌, Bool, List, [], length, if◌then◌else◌, ℤ, pos, neg_ℤ, ◌<ℤ◌, ◌≤ℤ◌, slice_index_or}
use Rattle.cf_base.specs.declared.fixed.Fixed.{Fixed}

pub record Table : Type 0 where
  pub is_3d : Bool
  pub size : ℕ
  pub low : List Fixed
  pub high : List Fixed
  pub entries : List (List Fixed)

-- how many data lines a table has
abbrev pub entry_count : (is_3d : Bool) (size : ℕ) → ℕ
entry_count is_3d size = if is_3d then size * size * size else size

abbrev pub greatest_size : (is_3d : Bool) → ℕ
greatest_size is_3d = if is_3d then 129 else 65536

-- the units of one channel
abbrev pub units : (values : List Fixed) (channel : ℕ) → ℤ
units values channel = (slice_index_or values channel (record { 0 = pos 0 })).0

-- each bound is at most 100 in size
abbrev pub IsBound : ℤ → Type 0
IsBound z = (neg_ℤ (pos 100000000000) ≤ℤ z) × (z ≤ℤ pos 100000000000)

-- what holds of each table that is read
pub record IsTable (t : Table) : Type 0 where
  pub least : 2 ≤ t.size
  pub greatest : t.size ≤ greatest_size t.is_3d
  pub count : length t.entries ≡ entry_count t.is_3d t.size
  pub three : (n : ℕ) → n < length t.entries → length (slice_index_or t.entries n []) ≡ 3
  pub low_three : length t.low ≡ 3
  pub high_three : length t.high ≡ 3
  pub low : (channel : ℕ) → channel < 3 → IsBound (units t.low channel)
  pub high : (channel : ℕ) → channel < 3 → IsBound (units t.high channel)
  pub order : (channel : ℕ) → channel < 3 → units t.low channel <ℤ units t.high channel
  pub values : (n channel : ℕ) → n < length t.entries → channel < 3 → (pos 0 ≤ℤ units (slice_index_or t.entries n []) channel)
      × (units (slice_index_or t.entries n []) channel ≤ℤ pos 1000000000)
