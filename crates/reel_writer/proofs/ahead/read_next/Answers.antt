use Rattle.std.proofs.Common.{rules, ◌≡◌, List, ◌∷◌, ℕ, true, false, refl, sym, ap, ◌∙◌, arith, subst}
use Rattle.std.specs.Prelude.{Some, IfSome, Ok, Err, Vec}
use Rattle.std.specs.declared.alloc.Global.{Global}
use Rattle.std.proofs.lemmas.List.{take_at}
use Rattle.conform_job.specs.Job.{file_of}
use Rattle.reel_writer.specs.Reads.{ReadsWhole, WasReadWhole}
use Rattle.reel_writer.proofs.Once.{asked, failed_once, next_later, not_whole_once, read_whole_once, same_first}
use Rattle.reel_writer.proofs.ReadCalls.{was_now}
use Rattle.reel_writer.proofs.ahead.read_next.Goals as goal

-- the file lies in the room as the read gave it
pub returns-in-Ok-true-clause-room : goal.returns-in-Ok-true-clause-room
returns-in-Ok-true-clause-room g c =
    let old = (g.D.Disk.state c.args.disk.now).calls in
    let new = (g.D.Disk.state c.read_whole.new.disk).calls in
    let frame : c.begin.new.self.frame ≡ Some c.in-Some.i = search rules in
    let bytes : c.begin.new.self.bytes.items ≡ c.read_whole.new.into =
    ap (λ (v : Vec ℕ Global). v.items) c.begin.ensures.bytes ∙ take_at c.read_whole.new.into _ _ (omega (arith, c.read_whole.ensures.room, c.deref_mut.ensures.len)) in
    let made : ReadsWhole (file_of c.args.job.now c.in-Some.i) c.read_whole.new.into old new = search rules in
    record {
      file = search rules;
      begun = search rules;
      read = subst (λ f. IfSome f (λ i. WasReadWhole (file_of c.args.job.now i) c.begin.new.self.bytes.items new)) (sym frame)
          (subst (λ (items : List ℕ). WasReadWhole (file_of c.args.job.now c.in-Some.i) items new) (sym bytes) (was_now _ old new made));
    }

-- no file was read twice
pub returns-in-Ok-true-clause-once : goal.returns-in-Ok-true-clause-once
returns-in-Ok-true-clause-once g c low before held le sofar =
    let old = (g.D.Disk.state c.args.disk.now).calls in
    let new = (g.D.Disk.state c.read_whole.new.disk).calls in
    let frame : c.begin.new.self.frame ≡ Some c.in-Some.i = search rules in
    let asks = asked c.file_of.result _ _ _ (Ok true) old new c.file_of.ensures (c.in-Ok-true.is ∙ ap Ok c.in-Ok-true.field-0-test) c.read_whole.ensures.asks in
    read_whole_once c.args.job.now low c.args.from before old new c.args.room.now c.begin.new.self held c.in-Some.i _ (omega (arith, le, c.in-Some.ensures.behind)) c.in-Some.ensures.behind c.in-Some.ensures.recorded.0 c.requires.free sofar asks frame

pub returns-in-Ok-false-clause-once : goal.returns-in-Ok-false-clause-once
returns-in-Ok-false-clause-once g c low before held le sofar =
    let old = (g.D.Disk.state c.args.disk.now).calls in
    let new = (g.D.Disk.state c.read_whole.new.disk).calls in
    let asks = asked c.file_of.result _ _ _ (Ok false) old new c.file_of.ensures (c.in-Ok-false.is ∙ ap Ok c.in-Ok-false.field-0-test) c.read_whole.ensures.asks in
    let made = not_whole_once c.args.job.now low c.args.from before old new c.args.room.now c.args.room.now held c.in-Some.i _ (omega (arith, le, c.in-Some.ensures.behind)) c.in-Some.ensures.behind c.in-Some.ensures.recorded.0 c.requires.free sofar asks in
    let all = next_later c.args.job.now low c.args.from before new (c.args.room.now ∷ held) made c.count-end.result (omega (arith, sofar.within, c.count-end.ensures.count)) (omega (arith, c.count-end.ensures.count)) in
    same_first c.args.room.now _ held refl c.args.job.now low c.count-end.result before new all

pub returns-in-Err-clause-once : goal.returns-in-Err-clause-once
returns-in-Err-clause-once g c low before held le sofar =
    let old = (g.D.Disk.state c.args.disk.now).calls in
    let new = (g.D.Disk.state c.read_whole.new.disk).calls in
    let asks = asked c.file_of.result _ _ _ (Err _) old new c.file_of.ensures c.in-Err.is c.read_whole.ensures.asks in
    failed_once c.args.job.now low c.args.from before old new c.args.room.now c.args.room.now held c.in-Some.i _ (omega (arith, le, c.in-Some.ensures.behind)) c.in-Some.ensures.behind c.in-Some.ensures.recorded.0 c.requires.free sofar _ asks

pub returns-in-None-clause-once : goal.returns-in-None-clause-once
returns-in-None-clause-once g c low before held le sofar =
    next_later c.args.job.now low c.args.from before (g.D.Disk.state c.args.disk.now).calls (c.args.room.now ∷ held) sofar c.count-end.result (omega (arith, sofar.within, c.count-end.ensures.count)) (omega (arith, c.count-end.ensures.count))
