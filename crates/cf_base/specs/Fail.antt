-- What a call gave, against what it is to give: any answer may yield to want of memory.
-- * gives: a result is what a definition gives, or want of memory
use Rattle.std.specs.Prelude.{◌≡◌, Result, Ok, Err}
use Rattle.cf_base.specs.declared.fail.Fail.{Fail}
use Rattle.cf_base.specs.declared.fail.Fail.TheVariants.{Fault, NoMemory}

abbrev pub Gives : {A F : Type 0} → Result A (Fail F) → Result A F → Type 0
Gives (Ok x) want = want ≡ Ok x
Gives (Err (Fault f)) want = want ≡ Err f
Gives (Err NoMemory) want = Unit {0}
