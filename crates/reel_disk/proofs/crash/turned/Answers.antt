use Rattle.std.proofs.Common.{◌≡◌, ℕ, ◌∷◌, [], ◌++◌, List, sym, subst, arith}
use Rattle.std.specs.Prelude.{slice_index}
use Rattle.reel_disk.specs.Crash.{IsTurned}
use Rattle.reel_disk.specs.Memory.{history_of, find_file}
use Rattle.reel_disk.proofs.Walks.{each_more, is_turned}
use Rattle.reel_disk.specs.Disk.{IsLooseAt}
use Rattle.reel_disk.specs.declared.disk.Place.{Place}
use Rattle.reel_disk.proofs.crash.turned.Goals as goal

pub loop-k-preserved : goal.loop-k-preserved
loop-k-preserved c =
    let Rule : ℕ → ℕ → Type 0 = IsTurned (history_of c.args.store.now) c.args.id in
    let pushed : c.push.new.self.items ≡ c.loop-k.left.items ++ c.turn.result ∷ [] = c.in_ok-push.ensures.items in
    let turns = c.turn.ensures in
    let last : IsTurned (history_of c.args.store.now) c.args.id c.loop-k.k c.turn.result = is_turned (find_file c.args.store.now.files) c.args.store.now.loose.items c.args.store.now.steps.items c.args.id c.args.bytes.now c.loop-k.k c.turn.result c.requires
    (λ at. turns.loose (subst (λ (l : List Place). IsLooseAt l c.args.id c.loop-k.k) (sym c.deref.ensures.value) at))
    (λ firm. turns.firm (λ at. firm (subst (λ (l : List Place). IsLooseAt l c.args.id c.loop-k.k) c.deref.ensures.value at))) in
    record {
      size = omega (arith, c.in_ok-push.ensures.len, c.loop-k.invariant.size);
      each = λ j lt. subst (λ (l : List ℕ). IsTurned (history_of c.args.store.now) c.args.id j (slice_index l j)) (sym pushed)
          (each_more (IsTurned (history_of c.args.store.now) c.args.id) c.loop-k.left.items c.loop-k.k c.turn.result c.loop-k.invariant.size c.loop-k.invariant.each last j lt);
    }
