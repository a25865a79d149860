use Rattle.std.proofs.Common.{List, ◌++◌, append_assoc, ap, refl, sym, ◌∙◌}
use Rattle.std.specs.Vec.Iter.{into_iter_items}
use Rattle.outside.proofs.Words.{behind, none_left}
use Rattle.outside.proofs.words_behind.Goals as goal

pub loop-word-init : goal.loop-word-init
loop-word-init c = rw c.new-words.ensures.items refl

pub loop-word-preserved : goal.loop-word-preserved
loop-word-preserved c =
    let words = c.loop-word.words.items in
    rw c.in_ok-push.ensures.items (append_assoc words _ _ ∙ ap (λ (l : List _). words ++ l) (sym c.in-Some.ensures.steps.0) ∙ c.loop-word.invariant)

pub returns : goal.returns
returns c =
    none_left c.loop-word.words.items _ _ _ c.loop-word.invariant c.loop-word.word-iterator.rest.ok.0 c.in-None.ensures.steps.0
    ∙ ap into_iter_items c.into_iter-word-iterator.ensures.into_iter_gives
    ∙ behind (into_iter_items c.args.arguments) (into_iter_items c.next.new.self) c.next.result _ _ c.next.ensures.items c.args.arguments.rest.ok.0 c.next.new.self.rest.ok.0 c.next.ensures.len c.next.ensures.variant
