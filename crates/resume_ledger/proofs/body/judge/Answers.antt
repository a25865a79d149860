use Rattle.std.proofs.Common.{◌∙◌, refl, sym, ap}
use Rattle.resume_ledger.specs.Body.{layout_of, head_of}
use Rattle.resume_ledger.proofs.Judging.{tested_apart, tested_same, bad_head}
use Rattle.resume_ledger.proofs.body.judge.Goals as goal

-- the head doesn't fit the body
pub returns-then-ne : goal.returns-then-ne
returns-then-ne c =
    let head = c.as_slice.ensures.value ∙ c.in-Ok.ensures ∙ ap (λ d. head_of (layout_of c.args.version) d c.in-Some.frames) c.copy_from_slice.ensures.after in
    bad_head c.args.version c.args.digest c.args.count c.args.body.now c.in-Some.frames c.in-Some.ensures.exact (λ same. tested_apart _ _ _ c.ne.ensures c.if-ne.true (same ∙ sym head))

-- it fits, and the body is another job's
pub returns-then-ne-2 : goal.returns-then-ne-2
returns-then-ne-2 c = record {
  well = record {
    frames = c.in-Some.frames;
    size = c.in-Some.ensures.exact;
    no_longer = c.requires.size;
    head = tested_same _ _ _ c.ne.ensures c.if-ne.false ∙ c.as_slice.ensures.value ∙ c.in-Ok.ensures ∙ ap (λ d. head_of (layout_of c.args.version) d c.in-Some.frames) c.copy_from_slice.ensures.after;
  };
  kept_is = c.copy_from_slice.ensures.after;
  wanted_is = refl;
  differ = λ same. tested_apart _ _ _ c.ne-2.ensures c.if-ne-2.true (c.copy_from_slice.ensures.after ∙ same);
}

-- it is this job's
pub returns-in-Ok-gates : goal.returns-in-Ok-gates
returns-in-Ok-gates c = (
  record {
    well = record {
      frames = c.in-Some.frames;
      size = c.in-Some.ensures.exact;
      no_longer = c.requires.size;
      head = tested_same _ _ _ c.ne.ensures c.if-ne.false ∙ c.as_slice.ensures.value ∙ c.in-Ok.ensures ∙ ap (λ d. head_of (layout_of c.args.version) d c.in-Some.frames) c.copy_from_slice.ensures.after;
    };
    job = sym c.copy_from_slice.ensures.after ∙ tested_same _ _ _ c.ne-2.ensures c.if-ne-2.false;
    size = c.in-Some.ensures.exact ∙ ap (layout_of c.args.version).size c.if-frames-count.false;
  },
  c.in-Ok-gates.ensures,
)
