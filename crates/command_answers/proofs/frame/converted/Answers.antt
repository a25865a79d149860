-- What the header says decides.
use Rattle.std.proofs.Common.{◌∙◌, sym, ap, arith}
use Rattle.dpx_header.specs.Reading.{info_of}
use Rattle.command_answers.proofs.Frames.{need_most, made_of}
use Rattle.command_answers.proofs.frame.converted.Goals as goal

pub returns-in-Err-clause-fault : goal.returns-in-Err-clause-fault
returns-in-Err-clause-fault c = sym (c.in-Err.ensures.info ∙ ap (λ h. info_of h c.args.len) c.head_of.ensures)

pub new_file-requires-clause-whole : goal.new_file-requires-clause-whole
new_file-requires-clause-whole c =
    omega (arith, need_most c.in-Ok.info c.in-Ok.ensures.frame, c.in-Ok.ensures.whole, c.requires)

pub returns-in-Ok-new_file-clause-form : goal.returns-in-Ok-new_file-clause-form
returns-in-Ok-new_file-clause-form c =
    made_of c.args.bytes.now c.head_of.result _ c.args.len c.in-Ok.info c.head_of.ensures c.in-Ok.ensures.info c.in-Ok.ensures.frame c.in-Ok-new_file.ensures
