-- What a grid's fields are of.
use Rattle.std.specs.Prelude.{map, take}
use Rattle.tetra_look.specs.declared.grid.Grid.TheInside.{Inside}
use Rattle.tetra_look.specs.inside.Grid.{IsGrid}
use Rattle.tetra_look.specs.Look.{Lattice}

abbrev pub lattice_in : Inside → Lattice
lattice_in a = record { is_3d = a.is_3d; size = a.size; low = a.low; high = a.high; entries = map (take 3) a.entries.items }

-- the steps and the spots are those of the lattice
abbrev pub IsOfLattice : Inside → Type 0
IsOfLattice a = IsGrid (lattice_in a) a.green_step a.blue_step a.reds.items a.greens.items a.blues.items
