-- The front that was loaded stands for the file at the path.
use Rattle.std.proofs.Common.{◌≡◌, Err, refl, ◌∙◌}
use Rattle.dpx_header.specs.Reading.{info_of}
use Rattle.scan_source.specs.Answers.{first_bytes}
use Rattle.scan_source.proofs.Leaving.{leaves_as, leaves_done}
use Rattle.command_words.specs.declared.command.Command.TheVariants as commands
use Rattle.command_answers.proofs.Frames.{frame_done, frame_fault}
use Rattle.command_answers.proofs.Replies.{by_front, reply_of, fault_given, frame_missing, frame_memory, replied_load, error_of, outcome_of}
use Rattle.command_answers.proofs.frame.frame.Goals as goal

pub returns-in-Ok-converted-clause-reply : goal.returns-in-Ok-converted-clause-reply
returns-in-Ok-converted-clause-reply g c =
    let load = c.in-Ok.ensures in
    reply_of _ _ _ _ _ tt
    (by_front _ _ _ 84914180 c.in-Ok.front load.read (λ bytes len_is into_is.
    frame_done bytes c.deref.result.now _ c.in-Ok.front.len c.in-Ok-converted.ensures.form len_is (c.deref.ensures.value ∙ into_is)))
    (λ not_done. absurd (not_done refl)) (leaves_done (λ same. cc) (λ same. cc) load.scan) load.loads load.heads

pub returns-in-Err-Fault-clause-reply : goal.returns-in-Err-Fault-clause-reply
returns-in-Err-Fault-clause-reply g c =
    let load = c.in-Ok.ensures in
    let fault = fault_given _ _ c.in-Err-Fault.fault (λ f. info_of (first_bytes 2048 c.deref.result.now) c.in-Ok.front.len ≡ Err f) c.in-Err-Fault.is c.in-Err-Fault.field-0-is c.converted.ensures.fault in
    reply_of _ _ _ _ _ tt
    (by_front _ _ _ 84914180 c.in-Ok.front load.read (λ bytes len_is into_is.
    frame_fault bytes c.deref.result.now _ c.in-Ok.front.len _ fault len_is (c.deref.ensures.value ∙ into_is)))
    (λ _. refl) (leaves_done (λ same. cc) (λ same. cc) load.scan) load.loads load.heads

pub returns-clause-reply : goal.returns-clause-reply
returns-clause-reply g c =
    let load = c.in-Ok.ensures in
    reply_of _ _ _ _ _ tt (frame_memory _ c.args.path.now _) (λ _. refl) (leaves_done (λ same. cc) (λ same. cc) load.scan) load.loads load.heads

pub returns-in-Err-clause-reply : goal.returns-in-Err-clause-reply
returns-in-Err-clause-reply g c =
    let load = c.in-Err.ensures in
    reply_of _ _ _ _ _ (replied_load (commands.Frame c.args.path.now) _ _ load.kind) (frame_missing _ c.args.path.now _ _ load.read)
    (λ _. refl) (leaves_as (error_of _ _) (outcome_of _ _) load.scan) load.loads load.heads
