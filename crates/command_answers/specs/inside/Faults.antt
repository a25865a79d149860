-- The fault of a call that may also find no memory.
use Rattle.std.specs.Prelude.{Result, Ok, Err}
use Rattle.cf_base.specs.declared.fail.Fail.{Fail}
use Rattle.cf_base.specs.declared.fail.Fail.TheVariants.{Fault, NoMemory}

-- what holds of the fault, where there is one
abbrev pub IfFault : {A F : Type 0} → Result A (Fail F) → (F → Type 0) → Type 0
IfFault (Ok x) holds = Unit {0}
IfFault (Err (Fault fault)) holds = holds fault
IfFault (Err NoMemory) holds = Unit {0}
