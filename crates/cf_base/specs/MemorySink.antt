-- A sink in memory as contracts see it: which of its puts fail, and what they leave.
-- * sink in memory: which of its puts fail by their number, what they keep of the piece, and what the next put is
use Rattle.std.specs.Prelude.{◌≡◌, ◌⊎◌, ℕ, ◌+◌, ◌-◌, ◌^◌, min, Bool, cond, ◌==◌, List, ◌++◌, take}
use Rattle.std.specs.List.{list_any}
use Rattle.cf_base.specs.Count.{kept}
use Rattle.cf_base.specs.declared.sink.MemorySink.{MemorySink}
use Rattle.cf_base.specs.declared.sink.Put.{Put}
use Rattle.cf_base.specs.declared.sink.Put.TheVariants.{All, Failed}

-- how many puts were made, as far as 64 bits count, the numbers of those that fail, and how many bytes such a put keeps
pub record PutPlan : Type 0 where
  pub puts : ℕ
  pub fails : List ℕ
  pub keep : ℕ

abbrev pub plan_of : MemorySink → PutPlan
plan_of sink = record { puts = sink.puts; fails = sink.fails.items; keep = sink.keep }

abbrev pub written_in : MemorySink → List ℕ
written_in sink = sink.bytes.items

abbrev pub faults_in : MemorySink → ℕ
faults_in sink = kept sink.faults

-- the number of the next put: the first has the number 1
abbrev pub next_put : PutPlan → ℕ
next_put plan = min (plan.puts + 1) (2 ^ 64 - 1)

-- the next put fails by its number
abbrev pub fails_next : PutPlan → Bool
fails_next plan = list_any (λ put. put == next_put plan) plan.fails

-- a put with memory: one that fails by its number appends what it keeps of the piece, and any other the whole piece
pub record HasPut (plan : PutPlan) (old new piece : List ℕ) (answer : Put) : Type 0 where
  pub answered : answer ≡ cond (fails_next plan) Failed All
  pub bytes : new ≡ old ++ cond (fails_next plan) (take plan.keep piece) piece

-- a put that found no memory
pub record HasNoRoom (old new : List ℕ) (answer : Put) : Type 0 where
  pub answered : answer ≡ Failed
  pub bytes : new ≡ old

abbrev pub IsPut : PutPlan → (old new piece : List ℕ) → Put → Type 0
IsPut plan old new piece answer = HasPut plan old new piece answer ⊎ HasNoRoom old new answer

-- one put was counted, and the same puts are to fail
abbrev pub after_put : PutPlan → PutPlan
after_put plan = record plan { puts = next_put plan }
