use Rattle.std.proofs.Common.{rules, ◌∙◌, ap, sym, subst, inr, ℕ, List}
use Rattle.std.specs.Prelude.{Some, Ok, Err}
use Rattle.resume_ledger.specs.declared.layout.Version.TheVariants.{Two}
use Rattle.resume_ledger.specs.Body.{layout_of}
use Rattle.resume_ledger.specs.Ledger.{AreGatesOf}
use Rattle.resume_ledger.specs.Attach.{IsOpenFor}
use Rattle.resume_ledger.specs.Steps.{IsJudged}
use Rattle.resume_ledger.proofs.Attaching.{found, refused}
use Rattle.resume_ledger.proofs.sealed.open_sealed.Goals as goal

pub returns-in-Ok-judge-clause-answer : goal.returns-in-Ok-judge-clause-answer
returns-in-Ok-judge-clause-answer g c told name size =
    let judged = c.in-Ok-judge.ensures in
    let is : IsOpenFor c.args.digest c.args.count c.of.result = search rules in
    let gates : AreGatesOf (layout_of Two) c.deref.result.now c.args.count c.of.result.gates = search rules in
    found c.args.digest c.args.count name size (g.D.Disk.state c.args.disk.now).history (g.D.Disk.state c.read_body.new.disk).history (c.requires.sealed told) (c.requires.firm told)
    (c.in-Ok.ensures.read (λ same. cc) told) c.deref.result.now (c.in-Ok.ensures.body told ∙ ap Some (sym c.deref.ensures.value)) judged.0 c.of.result is gates

pub returns-clause-answer : goal.returns-clause-answer
returns-clause-answer g c told name size =
    refused _ _ Two _ _ (c.requires.sealed told) c.deref.result.now c.in-Err-judge.fault (record { narrows = (c.read_body.ensures.reading told).narrows; view = (c.in-Ok.ensures.read (λ same. cc) told).view })
    (c.in-Ok.ensures.body told ∙ ap Some (sym c.deref.ensures.value)) c.in-Err-judge.ensures

-- the bytes that were judged are those that were read
pub returns-in-Ok-judge-clause-calls : goal.returns-in-Ok-judge-clause-calls
returns-in-Ok-judge-clause-calls g c =
    let judged = subst (λ (body : List ℕ). IsJudged (layout_of Two) c.args.digest c.args.count body (Ok c.in-Ok-judge.gates)) c.deref.ensures.value c.in-Ok-judge.ensures in
    (c.in-Ok.body, c.in-Ok.ensures.calls, (c.in-Ok-judge.gates, judged, c.of.ensures))

pub returns-clause-calls : goal.returns-clause-calls
returns-clause-calls g c =
    inr (c.in-Ok.body, c.in-Ok.ensures.calls, subst (λ (body : List ℕ). IsJudged (layout_of Two) c.args.digest c.args.count body (Err c.in-Err-judge.fault)) c.deref.ensures.value c.in-Err-judge.ensures)
