use Rattle.std.proofs.Common.{refl, sym, ◌∙◌, w32}
use Rattle.std.proofs.lemmas.Int.{to_z-of_z}
use Rattle.std.specs.Prelude.{Ok}
use Rattle.edl_lines.specs.declared.LineKind.TheVariants.{Motion}
use Rattle.edl_events.specs.declared.ListKind.TheVariants as fault
use Rattle.edl_events.proofs.ReadLaws.{refused, reads_motion, bad_label, stray, sound, ok_by}
use Rattle.edl_events.proofs.FollowLaws.{owner_known, follows_motion, same_sets}
use Rattle.edl_events.proofs.reading.read_motion.Goals as goal

pub returns-in-Err : goal.returns-in-Err
returns-in-Err c lines at r =
    refused c.args.rate lines c.args.reading.now.state.lines c.args.reading.now.state c.args.reading.now.events.items r.reads (record { bytes = c.args.line.now; kind = Ok (Motion c.args.reel.now c.args.speed c.args.trigger) }) at c.in-Err.kind
    (bad_label c.args.rate lines c.args.reading.now.state.lines c.args.reading.now.state c.args.reading.now.events.items r.reads (record { bytes = c.args.line.now; kind = Ok (Motion c.args.reel.now c.args.speed c.args.trigger) }) at c.args.reel.now c.args.speed c.args.trigger refl c.in-Err.kind (sym c.label_number.ensures.value ∙ c.in-Err.is))

pub returns-in_default-owner : goal.returns-in_default-owner
returns-in_default-owner c lines at r =
    let label = ok_by c.label_number.result c.in_default.not-Err in
    refused c.args.rate lines c.args.reading.now.state.lines c.args.reading.now.state c.args.reading.now.events.items r.reads (record { bytes = c.args.line.now; kind = Ok (Motion c.args.reel.now c.args.speed c.args.trigger) }) at fault.StrayMotion
    (stray c.args.rate lines c.args.reading.now.state.lines c.args.reading.now.state c.args.reading.now.events.items r.reads (record { bytes = c.args.line.now; kind = Ok (Motion c.args.reel.now c.args.speed c.args.trigger) }) at c.args.reel.now c.args.speed c.args.trigger refl label.0 (sym c.label_number.ensures.value ∙ label.1)
    (owner_known lines c.args.reading.now.state.lines c.args.reading.now.table c.args.reading.now.speeds r.follows (record { bytes = c.args.line.now; kind = Ok (Motion c.args.reel.now c.args.speed c.args.trigger) }) at c.requires.few c.args.reel.now ∙ sym c.owner.ensures.owner ∙ c.in_default-owner.is))

pub returns-in-Ok-take_motion : goal.returns-in-Ok-take_motion
returns-in-Ok-take_motion c lines at r =
    let label = ok_by c.label_number.result c.in_default.not-Err in
    let owner = owner_known lines c.args.reading.now.state.lines c.args.reading.now.table c.args.reading.now.speeds r.follows (record { bytes = c.args.line.now; kind = Ok (Motion c.args.reel.now c.args.speed c.args.trigger) }) at c.requires.few c.args.reel.now ∙ sym c.owner.ensures.owner ∙ c.in-Some.is in
    record {
      reads = reads_motion c.args.rate lines c.args.reading.now.state.lines c.args.reading.now.state c.args.reading.now.events.items r.reads (record { bytes = c.args.line.now; kind = Ok (Motion c.args.reel.now c.args.speed c.args.trigger) }) at c.args.reel.now c.args.speed c.args.trigger refl
          (sound c.args.rate lines c.args.reading.now.state.lines c.args.reading.now.state c.args.reading.now.events.items r.reads (record { bytes = c.args.line.now; kind = Ok (Motion c.args.reel.now c.args.speed c.args.trigger) }) at c.args.reel.now c.args.speed c.args.trigger refl label.0 c.in-Some.place (sym c.label_number.ensures.value ∙ label.1) owner);
      follows = follows_motion lines c.args.reading.now.state.lines c.args.reading.now.table c.args.reading.now.speeds r.follows (record { bytes = c.args.line.now; kind = Ok (Motion c.args.reel.now c.args.speed c.args.trigger) }) at c.requires.few c.args.reel.now c.args.speed c.args.trigger refl c.requires.bound c.in-Some.place owner
          c.take_motion.new.self c.in-Ok-take_motion.ensures.number c.in-Ok-take_motion.ensures.counts c.in-Ok-take_motion.ensures.places c.note_speed.new.speeds (same_sets c.note_speed.new.speeds c.args.reading.now.speeds c.in-Some.place _ c.args.speed (to_z-of_z w32 c.args.speed c.ranges.speed) c.in-Ok.ensures);
    }
