use Rattle.std.proofs.Common.{sym, ◌∙◌, ap, subst}
use Rattle.std.specs.Prelude.{Ok, IfOk, Result}
use Rattle.cf_timecode.specs.declared.Label.{Label}
use Rattle.cf_timecode.specs.declared.TcFault.{TcFault}
use Rattle.cf_timecode.specs.Counting.{IsValid}
use Rattle.edl_events.proofs.LabelLaws.{numbered_is}
use Rattle.edl_events.specs.Pictures.{numbered}
use Rattle.edl_events.proofs.steps.label_number.Goals as goal

pub returns-in-Ok-clause-value : goal.returns-in-Ok-clause-value
returns-in-Ok-clause-value c =
    let valid : IsValid c.args.rate c.args.mode c.in-Ok.label = subst (λ (r : Result Label TcFault). IfOk r (λ l. IsValid c.args.rate c.args.mode l)) c.in-Ok.is c.parse.ensures.valid in
    ap Ok (numbered_is c.args.rate c.args.mode c.in-Ok.label c.frames_of.result c.requires.counts valid c.counting_laws.ensures.once c.counting_laws.ensures.numbers c.frames_of.ensures.reached)
    ∙ rw (← c.bytes_in.ensures) (ap (numbered c.args.rate c.args.mode) (sym (sym c.parse.ensures.label ∙ c.in-Ok.is)))
