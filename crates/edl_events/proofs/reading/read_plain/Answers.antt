use Rattle.std.proofs.Common.{refl, sym, ◌∙◌, ap}
use Rattle.std.specs.Prelude.{Ok}
use Rattle.edl_events.proofs.StepLaws.{step_fault, fault_is}
use Rattle.edl_events.proofs.ReadLaws.{refused, reads_more}
use Rattle.edl_events.proofs.FollowLaws.{follows_plain}
use Rattle.edl_events.proofs.reading.read_plain.Goals as goal

pub returns-in-Err : goal.returns-in-Err
returns-in-Err c lines at r =
    refused c.args.rate lines c.args.reading.now.state.lines c.args.reading.now.state c.args.reading.now.events.items r.reads (record { bytes = c.args.line.now; kind = Ok c.args.kind }) at c.in-Err.kind
    (fault_is c.args.rate lines c.args.reading.now.state.lines c.args.reading.now.state r.reads.knows (record { bytes = c.args.line.now; kind = Ok c.args.kind }) at c.args.kind refl c.requires.plain
    ∙ ap step_fault (sym c.next_step.ensures.value ∙ c.in-Err.is))

pub returns-in-Ok-add_line : goal.returns-in-Ok-add_line
returns-in-Ok-add_line c lines at r = record {
  reads = reads_more c.args.rate lines c.args.reading.now.state.lines c.args.reading.now.state c.args.reading.now.events.items r.reads (record { bytes = c.args.line.now; kind = Ok c.args.kind }) at c.args.kind refl c.requires.plain
      c.in-Ok.step (sym c.next_step.ensures.value ∙ c.in-Ok.is) c.in-Ok.ensures.day c.keep.new.events.items c.in-Ok-keep.ensures;
  follows = follows_plain lines c.args.reading.now.state.lines c.args.reading.now.table c.args.reading.now.speeds r.follows (record { bytes = c.args.line.now; kind = Ok c.args.kind }) at c.requires.few c.args.kind refl c.requires.plain
      c.add_line.new.table c.in-Ok-add_line.ensures;
}
