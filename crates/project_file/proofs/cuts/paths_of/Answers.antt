use Rattle.std.proofs.Common.{◌≡◌, ◌∙◌, ◌+◌, ℕ, ap, arith, sym, refl, List, [], get_or, Result, Ok, Err}
use Rattle.std.proofs.lemmas.List.{length_push}
use Rattle.toml.specs.View.{items_view, view}
use Rattle.cf_base.specs.Text.{path_text_of}
use Rattle.project_file.specs.Keys.{text_at}
use Rattle.project_file.specs.Projects.{paths_of}
use Rattle.project_file.specs.declared.fault.ProjectFault.{ProjectFault}
use Rattle.project_file.proofs.Projects.{prefixed, path_refused, path_taken, paths_end}
use Rattle.project_file.proofs.cuts.paths_of.Goals as goal

pub values-init : goal.values-init
values-init c = record {
  rest = rw c.new-paths.ensures.items (same (paths_of (items_view c.args.values.now)));
  count = rw c.new-paths.ensures.items refl;
}
  where
    same : (r : Result (List (List ℕ)) ProjectFault) → r ≡ prefixed [] r
    same (Ok others) = refl
    same (Err e) = refl

pub returns-in-Err-clause-paths : goal.returns-in-Err-clause-paths
returns-in-Err-clause-paths c =
    let v = c.value-item.result in
    let at : get_or c.args.values.now c.values.value-index v ≡ v = sym c.value-item.is in
    path_refused _ c.values.paths.items c.args.values.now c.values.value-index v c.in-Err.fault c.values-test.true at (sym (c.in-Err.ensures.path ∙ ap (λ place. text_at place path_text_of (view v)) c.top.ensures)) c.values.invariant.rest

pub values-preserved : goal.values-preserved
values-preserved c =
    let v = c.value-item.result in
    let at : get_or c.args.values.now c.values.value-index v ≡ v = sym c.value-item.is in
    let so_far = c.values.invariant in
    record {
      rest = rw c.in-Ok-push.ensures.items
          (path_taken _ c.values.paths.items c.args.values.now c.values.value-index v c.in-Ok.path c.values-test.true at (sym (c.in-Ok.ensures.path ∙ ap (λ place. text_at place path_text_of (view v)) c.top.ensures)) so_far.rest);
      count = rw (c.in-Ok-push.ensures.items, length_push c.values.paths.items c.in-Ok.path) (ap (λ n. n + 1) so_far.count);
    }

pub returns-clause-paths : goal.returns-clause-paths
returns-clause-paths c = paths_end _ c.values.paths.items c.args.values.now c.values.value-index c.values-test.false c.values.invariant.rest

pub returns-clause-count : goal.returns-clause-count
returns-clause-count c = omega (arith, c.values.invariant.count, c.values.auto.value-index-end, c.values-test.false)
