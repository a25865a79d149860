-- The steps of a definition, one after another.
-- * steps: one after another, each from what the one before gave: the first fault stands; what is there, or else the fault
--     step >>= next      what comes next, from what the step gave: the first fault stands
--     required fault value      what is there, or else the fault
use Rattle.std.specs.Prelude.{Option, Some, None, Result, Ok, Err}

infixl 10 ◌>>=◌
abbrev pub ◌>>=◌ : {A B F : Type 0} → Result A F → (A → Result B F) → Result B F
(Ok x) >>= next = next x
(Err fault) >>= next = Err fault

abbrev pub required : {A F : Type 0} → F → Option A → Result A F
required fault None = Err fault
required fault (Some x) = Ok x
