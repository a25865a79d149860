use Rattle.std.proofs.Common.{rules, ◌≡◌, inl, inr, ◌<◌, length, get_or, set, refl, sym, ap, ◌∙◌, subst, arith}
use Rattle.std.specs.Prelude.{Some}
use Rattle.std.proofs.lemmas.Bool.{cases_eq}
use Rattle.std.proofs.lemmas.List.{get_or-set_other, get_or-set_same, length-set}
use Rattle.frame_hash.specs.declared.Room.{Room}
use Rattle.reconform.specs.inside.Ahead.{CanFinish}
use Rattle.reconform.proofs.Dressing.{more_rooms}
use Rattle.reconform.proofs.takeover.Takeover.dress_all.Goals as goal

pub loop-n-preserved : goal.loop-n-preserved
loop-n-preserved g c =
    let inv = c.loop-n.invariant in
    let test = c.loop-n-test.true in
    let count = inv.count in
    let rooms = c.loop-n.rooms in
    let n = c.loop-n.n in
    let room = c.dress.new.room in
    let lt : n < length rooms = omega (arith, test, count) in
    let size = length-set rooms n room in
    record {
      frames = more_rooms (CanFinish g.N.Work.job g.O.Work.job g.N.Work.files g.D.Disk.tells c.args.self.now.view.now (g.D.Disk.state c.args._old.now)) rooms n room lt inv.frames c.dress.ensures.frame;
      stays = λ told i has k within was d. elim (cases_eq k n) [
        | inl same ↦
            let here = c.index-rooms-n.result in
            let at : (get_or rooms n here).frame ≡ Some i = ap (λ (r : Room). r.frame) (inv.left n here (omega arith)) ∙ subst (λ m. (get_or c.args.rooms.now m here).frame ≡ Some i) same (was here) in
            subst (λ m. (get_or (set rooms n room) m d).frame ≡ Some i) (sym same) (ap (λ (r : Room). r.frame) (get_or-set_same rooms n room d lt) ∙ c.dress.ensures.stays told i has (search (rules, at)))
        | inr other ↦ ap (λ (r : Room). r.frame) (get_or-set_other rooms n k room d other) ∙ inv.stays told i has k (omega (arith, within, other)) was d
      ];
      left = λ k d behind. get_or-set_other rooms n k room d (λ same. absurd (omega (arith, same, behind))) ∙ inv.left k d (omega (arith, behind));
      count = size ∙ inv.count;
      within = omega (arith, lt, size);
      ending = sym (size ∙ inv.count);
    }

-- each room that was a frame's is so still
pub returns-clause-stays : goal.returns-clause-stays
returns-clause-stays g c told i has was =
    let inv = c.loop-n.invariant in
    let lt = was.1 in
    let end = c.loop-n-test.false in
    let ending = inv.ending in
    let count = inv.count in
    (was.0, omega (arith, lt, count), inv.stays told i has was.0 (omega (arith, lt, end, ending, count)) was.2)
