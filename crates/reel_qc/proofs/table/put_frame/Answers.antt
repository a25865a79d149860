-- An acknowledged frame has its line, and any other has none.
use Rattle.std.proofs.Common.{◌≡◌, ◌∙◌, ℕ, List, [], ◌∷◌, cond, false, refl, sym, ap, subst, append-nil}
use Rattle.std.specs.Prelude.{slice_index_or}
use Rattle.conform_job.specs.Job.{JobData}
use Rattle.reel_disk.specs.Call.{Call}
use Rattle.reel_disk.specs.Disk.{Files}
use Rattle.resume_ledger.specs.Look.{ViewState}
use Rattle.reel_qc.specs.Table.{acked_of}
use Rattle.reel_qc.specs.inside.Table.{HasRows}
use Rattle.reel_qc.specs.declared.table.probe.ProbeKind.{ProbeKind}
use Rattle.reel_qc.proofs.Lines.{row_counted, row_put}
use Rattle.reel_qc.proofs.table.put_frame.Goals as goal

row_none : (kinds : List ProbeKind) (job : JobData) (Told : Type 0) (files : Files) (view : ViewState) (i : ℕ) (calls : List Call) (text : List ℕ) → slice_index_or view.gates i false ≡ false
    → HasRows kinds job Told files (acked_of view (i ∷ [])) calls calls text text 0
row_none kinds job Told files view i calls text shut = subst (λ frames. HasRows kinds job Told files frames calls calls text text 0) (sym (ap (λ b. cond b (i ∷ []) []) shut)) (record {
  rows = [];
  frames_are = refl;
  rows_are = λ told. refl;
  read = refl;
  text = sym (append-nil text);
  number_is = refl;
})

pub returns-then-not-is_acked-clause-rows : goal.returns-then-not-is_acked-clause-rows
returns-then-not-is_acked-clause-rows g c = row_none _ c.args.job.now _ _ c.args.view.now c.args.i _ _ (sym c.is_acked.ensures ∙ c.if-not-is_acked.true)

pub returns-clause-rows : goal.returns-clause-rows
returns-clause-rows g c =
    let has = c.in_ok-counts.ensures.counted in
    row_put _ c.args.job.now _ _ c.args.view.now c.args.i _ _ has.words _ _ (sym c.is_acked.ensures ∙ c.if-not-is_acked.false) has.told has.read
    (row_counted _ c.args.i has.words _ _ _ (c.deref.ensures.value ∙ has.counts_are) c.in_ok-put_row.ensures)
