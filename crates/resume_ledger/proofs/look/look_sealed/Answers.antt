use Rattle.std.proofs.Common.{rules, ◌≡◌, ◌∙◌, ap, sym, subst, inr}
use Rattle.std.specs.Prelude.{Some, List, ℕ, Ok, Err}
use Rattle.reel_disk.specs.Disk.{view_of}
use Rattle.resume_ledger.specs.Look.{ViewState, IsViewOf}
use Rattle.resume_ledger.specs.Steps.{records_in, IsJudged}
use Rattle.resume_ledger.specs.Body.{layout_of}
use Rattle.resume_ledger.proofs.Attaching.{unread, refused}
use Rattle.resume_ledger.proofs.Looking.{viewed_own}
use Rattle.resume_ledger.proofs.Reading.{still_unwritten}
use Rattle.resume_ledger.proofs.look.look_sealed.Goals as goal

pub returns-in-Err-clause-answer : goal.returns-in-Err-clause-answer
returns-in-Err-clause-answer g c told = unread _ _ c.args.version _ _ (c.requires.sealed told) c.in-Err.fault (λ other. still_unwritten _ _ (c.load_body.ensures.reads.still told)) (c.in-Err.ensures.body told)

pub returns-in-Ok-judge-clause-answer : goal.returns-in-Ok-judge-clause-answer
returns-in-Ok-judge-clause-answer g c told =
    let judged = c.in-Ok-judge.ensures in
    let there = c.in-Ok.ensures.body told ∙ ap Some (sym c.deref.ensures.value) in
    let is : c.view_by.result ≡ record { gates = c.in-Ok-judge.gates.items; body = records_in c.args.version c.deref.result.now } = c.view_by.ensures ∙ search rules in
    subst (λ (v : ViewState). IsViewOf c.args.digest c.args.count (view_of (g.D.Disk.state c.args.disk.now).history) v) (sym is)
    (viewed_own c.args.digest c.args.count (view_of (g.D.Disk.state c.args.disk.now).history) c.deref.result.now c.in-Ok-judge.gates.items c.args.version (c.requires.sealed told) there judged.0 judged.1)

pub returns-in-Err-judge-clause-answer : goal.returns-in-Err-judge-clause-answer
returns-in-Err-judge-clause-answer g c told =
    refused _ _ c.args.version _ _ (c.requires.sealed told) c.deref.result.now c.in-Err-judge.fault (still_unwritten _ _ (c.load_body.ensures.reads.still told)) (c.in-Ok.ensures.body told ∙ ap Some (sym c.deref.ensures.value)) c.in-Err-judge.ensures

-- the bytes that were judged are those that were read
pub returns-in-Ok-judge-clause-calls : goal.returns-in-Ok-judge-clause-calls
returns-in-Ok-judge-clause-calls g c =
    let judged = subst (λ (body : List ℕ). IsJudged (layout_of c.args.version) c.args.digest c.args.count body (Ok c.in-Ok-judge.gates)) c.deref.ensures.value c.in-Ok-judge.ensures in
    (c.in-Ok.body, c.in-Ok.ensures.calls, (c.in-Ok-judge.gates, judged, c.view_by.ensures))

pub returns-in-Err-judge-clause-calls : goal.returns-in-Err-judge-clause-calls
returns-in-Err-judge-clause-calls g c =
    inr (c.in-Ok.body, c.in-Ok.ensures.calls, subst (λ (body : List ℕ). IsJudged (layout_of c.args.version) c.args.digest c.args.count body (Err c.in-Err-judge.fault)) c.deref.ensures.value c.in-Err-judge.ensures)
