-- A list that is read is well made.
--     AcceptsWellMade      so is each list that the definition accepts
use Rattle.std.specs.Prelude.{◌≡◌, ℕ, List, Result, Ok, IfOk}
use Rattle.cf_base.specs.declared.timing.Rate.{Rate}
use Rattle.cf_base.specs.declared.event.EventList.{EventList}
use Rattle.cf_base.specs.declared.fail.Fail.{Fail}
use Rattle.cf_base.specs.Events.{IsWellMade}
use Rattle.edl_events.specs.declared.ListRefusal.{ListRefusal}
use Rattle.edl_events.specs.Lists.{list_of}

abbrev pub IsMade : Rate → Result EventList (Fail ListRefusal) → Type 0
IsMade rate answer = IfOk answer (λ list. IsWellMade rate list.mode list.events)

-- each list that the definition accepts is well made
abbrev pub AcceptsWellMade : Type 0
AcceptsWellMade = (rate : Rate) (text : List ℕ) (list : EventList) → list_of rate text ≡ Ok list → IsWellMade rate list.mode list.events
