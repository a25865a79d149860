use Rattle.std.proofs.Common.{◌≡◌, ◌+◌, ap, arith, sym, refl, List, [], get_or, Result, Ok, Err}
use Rattle.std.proofs.lemmas.List.{length_push}
use Rattle.std.proofs.lemmas.List.Elements.{All-nil, All-push}
use Rattle.toml.specs.View.{items_view}
use Rattle.cf_base.specs.declared.reel.ReelEntry.{ReelEntry}
use Rattle.project_file.specs.Projects.{reels_from, IsReelInRange}
use Rattle.project_file.specs.declared.fault.ProjectFault.{ProjectFault}
use Rattle.project_file.proofs.Projects.{prefixed, reel_refused, reel_taken, reels_end}
use Rattle.project_file.proofs.reels.read_reels.Goals as goal

pub values-init : goal.values-init
values-init c = record {
  number = refl;
  rest = rw c.new-reels.ensures.items (same (reels_from c.args.rate 1 (items_view c.args.values.now)));
  range = rw c.new-reels.ensures.items (All-nil IsReelInRange);
  count = rw c.new-reels.ensures.items refl;
}
  where
    same : (r : Result (List ReelEntry) ProjectFault) → r ≡ prefixed [] r
    same (Ok others) = refl
    same (Err e) = refl

pub returns-in-Err-clause-reels : goal.returns-in-Err-clause-reels
returns-in-Err-clause-reels c =
    let v = c.value-item.result in
    let at : get_or c.args.values.now c.values.value-index v ≡ v = sym c.value-item.is in
    reel_refused _ c.values.reels.items c.args.rate c.values.number c.args.values.now c.values.value-index v c.in-Err.fault c.values-test.true at (sym c.in-Err.ensures.reel) c.values.invariant.rest

pub values-preserved : goal.values-preserved
values-preserved c =
    let v = c.value-item.result in
    let at : get_or c.args.values.now c.values.value-index v ≡ v = sym c.value-item.is in
    let so_far = c.values.invariant in
    record {
      number = ap (λ n. n + 1) so_far.number;
      rest = rw c.in-Ok-push.ensures.items
          (reel_taken _ c.values.reels.items c.args.rate c.values.number c.args.values.now c.values.value-index v c.in-Ok.reel c.values-test.true at (sym c.in-Ok.ensures.reel) so_far.rest);
      range = rw c.in-Ok-push.ensures.items (All-push IsReelInRange c.values.reels.items c.in-Ok.reel so_far.range c.in-Ok.ensures.range);
      count = rw (c.in-Ok-push.ensures.items, length_push c.values.reels.items c.in-Ok.reel) (ap (λ n. n + 1) so_far.count);
    }

pub returns-clause-reels : goal.returns-clause-reels
returns-clause-reels c = reels_end _ c.values.reels.items c.args.rate c.values.number c.args.values.now c.values.value-index c.values-test.false c.values.invariant.rest

pub returns-clause-range : goal.returns-clause-range
returns-clause-range c = c.values.invariant.range

pub returns-clause-few : goal.returns-clause-few
returns-clause-few c = omega (arith, c.values.invariant.count, c.values.auto.value-index-end, c.requires.few)
