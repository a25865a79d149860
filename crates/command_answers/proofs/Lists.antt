-- From the front of a text to the list of the text.
use Rattle.std.proofs.Common.{◌≡◌, List, ℕ, take, Some, Ok, Err, IsOk, IsOkAnd, refl, sym, subst, ◌∙◌}
use Rattle.cf_base.specs.declared.timing.Rate.{Rate}
use Rattle.edl_events.specs.Lists.{list_of}
use Rattle.edl_events.specs.declared.ListRefusal.{ListRefusal}
use Rattle.command_answers.specs.Commands.List.{IsListCase, IsListForm}
use Rattle.printed_tables.specs.Table.{event_table}
use Rattle.command_answers.specs.ByFile.{IsRightBy}
use Rattle.outcome.specs.declared.Outcome.TheVariants.{Done, Refused}
use Rattle.outcome.specs.declared.Refused.TheVariants as refused
use Rattle.project_job.proofs.Projects.{front_list}

pub list_done : (rate : Rate) (text into out : List ℕ) → IsOkAnd (list_of rate into) (λ list. out ≡ event_table rate list)
    → into ≡ take 4194305 text → IsRightBy (IsListCase rate (Some text)) (IsListForm rate (Some text)) Done out
list_done rate text into out made into_is =
    let form : IsOkAnd (list_of rate text) (λ list. out ≡ event_table rate list) = subst (λ r. IsOkAnd r (λ list. out ≡ event_table rate list)) (front_list rate text into into_is) made in
    record {
      case = elim (list_of rate text) as (λ r. IsOkAnd r (λ list. out ≡ event_table rate list) → IsOk r) [ Ok list ↦ λ _. refl | Err refusal ↦ λ none. absurd none ] form;
      form = λ _. form;
    }

pub list_refused : (rate : Rate) (text into out : List ℕ) (refusal : ListRefusal) → list_of rate into ≡ Err refusal
    → into ≡ take 4194305 text → IsRightBy (IsListCase rate (Some text)) (IsListForm rate (Some text)) (Refused (refused.List refusal)) out
list_refused rate text into out refusal is into_is = record { case = sym (front_list rate text into into_is) ∙ is; form = λ same. absurd (cc) }
