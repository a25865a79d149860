-- What a project file says: words of private clauses.
use Rattle.std.specs.Prelude.{◌≡◌, ℕ}
use Rattle.std.specs.Prelude.{List}
use Rattle.cf_base.specs.declared.fail.Fail.{Fail}
use Rattle.cf_base.specs.declared.fail.Fail.TheVariants.{Fault, NoMemory}
use Rattle.project_file.specs.Keys.{fault}
use Rattle.project_file.specs.declared.fault.ProjectFault.{ProjectFault}
use Rattle.project_file.specs.declared.fault.ProjectKind.TheVariants.{Text}
use Rattle.project_file.specs.Projects.{IsUnread, top}

-- a text that isn't read, or want of memory
abbrev pub IsTextFault : List ℕ → Fail ProjectFault → Type 0
IsTextFault text (Fault e) = IsUnread text × (e ≡ fault Text (top 0))
IsTextFault text NoMemory = Unit {0}
