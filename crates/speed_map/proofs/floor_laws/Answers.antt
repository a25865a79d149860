use Rattle.speed_map.proofs.Floors.{rounds_down, one_floor}
use Rattle.speed_map.proofs.floor_laws.Goals as goal

pub returns : goal.returns
returns c = record { floor = rounds_down; one = one_floor }
