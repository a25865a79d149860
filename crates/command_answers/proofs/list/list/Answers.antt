-- The front that was loaded stands for the file at the path.
use Rattle.std.proofs.Common.{◌≡◌, Err, refl, ◌∙◌}
use Rattle.edl_events.specs.Lists.{list_of}
use Rattle.scan_source.proofs.Leaving.{leaves_as, leaves_done}
use Rattle.command_words.specs.declared.command.Command.TheVariants as commands
use Rattle.command_answers.proofs.Lists.{list_done, list_refused}
use Rattle.command_answers.proofs.Replies.{by_front, reply_of, fault_given, list_missing, list_memory, replied_load, error_of, outcome_of}
use Rattle.command_answers.proofs.list.list.Goals as goal

pub returns-in-Ok-table_of-clause-reply : goal.returns-in-Ok-table_of-clause-reply
returns-in-Ok-table_of-clause-reply g c =
    let load = c.in-Ok.ensures in
    reply_of _ _ _ _ _ tt
    (by_front _ _ _ 4194305 c.in-Ok.front load.read (λ bytes len_is into_is.
    list_done c.args.rate bytes c.deref.result.now _ c.in-Ok-table_of.ensures.form (c.deref.ensures.value ∙ into_is)))
    (λ not_done. absurd (not_done refl)) (leaves_done (λ same. cc) (λ same. cc) load.scan) load.loads load.heads

pub returns-in-Err-Fault-clause-reply : goal.returns-in-Err-Fault-clause-reply
returns-in-Err-Fault-clause-reply g c =
    let load = c.in-Ok.ensures in
    let fault = fault_given _ _ c.in-Err-Fault.refusal (λ f. list_of c.args.rate c.deref.result.now ≡ Err f) c.in-Err-Fault.is c.in-Err-Fault.field-0-is c.table_of.ensures.fault in
    reply_of _ _ _ _ _ tt
    (by_front _ _ _ 4194305 c.in-Ok.front load.read (λ bytes len_is into_is.
    list_refused c.args.rate bytes c.deref.result.now _ _ fault (c.deref.ensures.value ∙ into_is)))
    (λ _. refl) (leaves_done (λ same. cc) (λ same. cc) load.scan) load.loads load.heads

pub returns-clause-reply : goal.returns-clause-reply
returns-clause-reply g c =
    let load = c.in-Ok.ensures in
    reply_of _ _ _ _ _ tt (list_memory c.args.rate _ c.args.path.now _) (λ _. refl) (leaves_done (λ same. cc) (λ same. cc) load.scan) load.loads load.heads

pub returns-in-Err-clause-reply : goal.returns-in-Err-clause-reply
returns-in-Err-clause-reply g c =
    let load = c.in-Err.ensures in
    reply_of _ _ _ _ _ (replied_load (commands.List c.args.path.now c.args.rate) _ _ load.kind) (list_missing c.args.rate _ c.args.path.now _ _ load.read)
    (λ _. refl) (leaves_as (error_of _ _) (outcome_of _ _) load.scan) load.loads load.heads
