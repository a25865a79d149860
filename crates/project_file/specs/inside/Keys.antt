-- What is asked of a key of a project file: that it is there, that its value has the type, that it is in range: words of private clauses.
use Rattle.std.specs.Prelude.{◌≡◌, Result, Ok, Err}
use Rattle.cf_base.specs.declared.fail.Fail.{Fail}
use Rattle.cf_base.specs.declared.fail.Fail.TheVariants.{Fault, NoMemory}
use Rattle.project_file.specs.declared.fault.ProjectFault.{ProjectFault}

-- the same of what is seen of a value
abbrev pub seen_as : {A B : Type 0} → (A → B) → Result A ProjectFault → Result B ProjectFault
seen_as view (Ok x) = Ok (view x)
seen_as view (Err e) = Err e

-- what was given, or want of memory
abbrev pub GivesSeen : {A B : Type 0} → (A → B) → Result A (Fail ProjectFault) → Result B ProjectFault → Type 0
GivesSeen view (Ok x) want = want ≡ Ok (view x)
GivesSeen view (Err (Fault e)) want = want ≡ Err e
GivesSeen view (Err NoMemory) want = Unit {0}
