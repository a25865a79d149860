-- A disk in memory as contracts see it.
use Rattle.std.specs.Prelude.{◌≡◌, ℕ, ◌+◌, ◌-◌, ◌^◌, min, Bool, false, ◌==◌, ◌||◌, nat_le, List, [], Option, None, Some}
use Rattle.std.specs.List.{list_any}
use Rattle.cf_base.specs.Count.{kept}
use Rattle.reel_disk.specs.declared.memory.MemoryDisk.{MemoryDisk}
use Rattle.reel_disk.specs.Call.{Call}
use Rattle.reel_disk.specs.Disk.{History}
use Rattle.reel_disk.specs.Memory.{history_of}
use Rattle.reel_disk.specs.State.{DiskState}

abbrev pub history_in : MemoryDisk → History
history_in d = history_of d.store

abbrev pub faults_in : MemoryDisk → ℕ
faults_in d = kept d.faults

-- the calls that were made, the newest first
abbrev pub made_in : MemoryDisk → List Call
made_in d = d.made.list

abbrev pub state_in : MemoryDisk → DiskState
state_in d = record { history = history_in d; faults = faults_in d; calls = made_in d; loans = [] }

-- The numbers of the calls that fail, and the call from which on each one fails. The first call has the number 1.
pub record Script : Type 0 where
  pub calls : List ℕ
  pub stop : Option ℕ

-- a script by which no call fails
abbrev pub no_fault : Script
no_fault = record { calls = []; stop = None }

abbrev pub is_stopped : Option ℕ → ℕ → Bool
is_stopped None n = false
is_stopped (Some stop) n = nat_le stop n

-- the call of this number fails
abbrev pub fails_at : Script → ℕ → Bool
fails_at s n = list_any (λ call. call == n) s.calls || is_stopped s.stop n

abbrev pub script_in : MemoryDisk → Script
script_in d = record { calls = d.fails.items; stop = d.stop }

-- how many calls were made, as far as 64 bits count
abbrev pub calls_in : MemoryDisk → ℕ
calls_in d = d.calls

-- the number of the next call
abbrev pub next_call : MemoryDisk → ℕ
next_call d = min (d.calls + 1) (2 ^ 64 - 1)

-- one call was counted, and the same calls are to fail
pub record IsNextCall (old new : MemoryDisk) : Type 0 where
  pub number : calls_in new ≡ next_call old
  pub script : script_in new ≡ script_in old
