use Rattle.std.proofs.Common.{◌≡◌, ℕ, ◌∷◌, [], ◌++◌, List, refl, sym, ◌∙◌, subst, arith}
use Rattle.std.specs.Prelude.{slice_index, unwrap_or}
use Rattle.reel_disk.specs.declared.disk.Place.{Place}
use Rattle.reel_disk.specs.declared.store.Step.{Step}
use Rattle.reel_disk.specs.Crash.{IsEarlier}
use Rattle.reel_disk.specs.Memory.{history_of, history_from, find_file}
use Rattle.reel_disk.proofs.Steps.{view_is}
use Rattle.reel_disk.proofs.Walks.{each_more, is_earlier, byte_there}
use Rattle.reel_disk.proofs.crash.earlier.Goals as goal

pub loop-k-preserved : goal.loop-k-preserved
loop-k-preserved c =
    let files = find_file c.args.store.now.files in
    let value = c.byte_before-byte.result in
    let there = byte_there (files c.args.id) c.args.bytes.now c.loop-k.k (sym (view_is files c.args.store.now.loose.items c.args.store.now.steps.items c.args.id) ∙ c.requires) (omega (arith, c.loop-k-test.true)) in
    let found : IsEarlier (history_from files c.deref-in-loop-k.result.now c.deref.result.now) c.args.id c.loop-k.k (unwrap_or value 0) = is_earlier _ c.args.id c.loop-k.k value (c.byte_before-byte.ensures files there) in
    let last : IsEarlier (history_of c.args.store.now) c.args.id c.loop-k.k c.unwrap_or.result =
    subst (λ n. IsEarlier (history_of c.args.store.now) c.args.id c.loop-k.k n) (sym c.unwrap_or.ensures)
    (subst (λ (l : List Place). IsEarlier (history_from files l c.args.store.now.steps.items) c.args.id c.loop-k.k (unwrap_or value 0)) c.deref-in-loop-k.ensures.value
    (subst (λ (s : List Step). IsEarlier (history_from files c.deref-in-loop-k.result.now s) c.args.id c.loop-k.k (unwrap_or value 0)) c.deref.ensures.value found)) in
    let pushed : c.push.new.self.items ≡ c.loop-k.left.items ++ c.unwrap_or.result ∷ [] = c.in_ok-push.ensures.items in
    record {
      size = omega (arith, c.in_ok-push.ensures.len, c.loop-k.invariant.size);
      each = λ j lt. subst (λ (l : List ℕ). IsEarlier (history_of c.args.store.now) c.args.id j (slice_index l j)) (sym pushed)
          (each_more (IsEarlier (history_of c.args.store.now) c.args.id) c.loop-k.left.items c.loop-k.k c.unwrap_or.result c.loop-k.invariant.size c.loop-k.invariant.each last j lt);
    }

pub returns : goal.returns
returns c = (
  c.loop-k.left.items,
  refl,
  omega (arith, c.loop-k.invariant.size, c.loop-k-test.false),
  λ k lt. c.loop-k.invariant.each k (omega (arith, lt, c.loop-k-test.false)),
)
