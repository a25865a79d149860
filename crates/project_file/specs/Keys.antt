-- What is asked of a key of a project file: that it is there, that its value has the type, that it is in range.
--     needed place read, optional default read      a key that has to be there, and one that has a default
--     text_at, flag_at, whole_at, list_at      what is read of its value
-- Each step gives the value, or the fault at the key's place; the first fault stands.
use Rattle.std.specs.Prelude.{◌&&◌, if◌then◌else◌, ℕ, ℤ, pos, negsuc, Bool, true, List, Option, Some, None, Result, Ok, Err, is_some, suc}
use Rattle.cf_base.specs.Text.{is_within}
use Rattle.cf_base.specs.Steps.{◌>>=◌, required}
use Rattle.toml.specs.Data.{Data, Items, Members, as_array, as_bool, as_integer, as_str, as_table, item, member, no_items, no_members}
use Rattle.project_file.specs.declared.fault.Place.{Place}
use Rattle.project_file.specs.declared.fault.ProjectFault.{ProjectFault}
use Rattle.project_file.specs.declared.fault.ProjectKind.{ProjectKind}
use Rattle.project_file.specs.declared.fault.ProjectKind.TheVariants.{MissingKey, WrongType, OutOfRange}

abbrev pub fault : ProjectKind → Place → ProjectFault
fault kind place = record { kind = kind; key = place.key; reel = place.reel }

abbrev pub needed : {A : Type 0} → Place → (Data → Result A ProjectFault) → Option Data → Result A ProjectFault
needed place read None = Err (fault MissingKey place)
needed place read (Some d) = read d

abbrev pub optional : {A : Type 0} → A → (Data → Result A ProjectFault) → Option Data → Result A ProjectFault
optional default read None = Ok default
optional default read (Some d) = read d

-- a text, of whose bytes `make` makes the value
abbrev pub text_at : {A : Type 0} → Place → (List ℕ → Option A) → Data → Result A ProjectFault
text_at place make d = do
  bytes ← required (fault WrongType place) (as_str d)
  required (fault OutOfRange place) (make bytes)

abbrev pub flag_at : Place → Data → Result Bool ProjectFault
flag_at place d = required (fault WrongType place) (as_bool d)

abbrev pub number_between : ℕ → ℕ → ℤ → Option ℕ
number_between low high (pos n) = if is_within low high n then Some n else None
number_between low high (negsuc n) = None

-- a whole number from `low` to `high`
abbrev pub whole_at : Place → ℕ → ℕ → Data → Result ℕ ProjectFault
whole_at place low high d = do
  z ← required (fault WrongType place) (as_integer d)
  required (fault OutOfRange place) (number_between low high z)

-- ---- lists

abbrev pub all_items : (Data → Bool) → Items → Bool
all_items test no_items = true
all_items test (item d ds) = test d && all_items test ds

abbrev pub count_items : Items → ℕ
count_items no_items = 0
count_items (item d ds) = suc (count_items ds)

abbrev pub is_whole : Data → Bool
is_whole d = is_some (as_integer d)

abbrev pub is_table : Data → Bool
is_table d = is_some (as_table d)

abbrev pub is_text : Data → Bool
is_text d = is_some (as_str d)

-- a list whose members all pass the test of their type
abbrev pub list_at : Place → (Data → Bool) → Data → Result Items ProjectFault
list_at place test d = do
  items ← required (fault WrongType place) (as_array d)
  if all_items test items then Ok items else Err (fault WrongType place)

-- ---- keys

abbrev pub all_keys : (List ℕ → Bool) → Members → Bool
all_keys test no_members = true
all_keys test (member k d ms) = test k && all_keys test ms
