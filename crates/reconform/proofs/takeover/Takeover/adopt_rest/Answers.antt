use Rattle.std.proofs.Common.{rules, refl, subst}
use Rattle.std.specs.Prelude.{All}
use Rattle.reconform.specs.inside.Ahead.{CanFinish}
use Rattle.reconform.proofs.Asking.{from_made}
use Rattle.reconform.proofs.Dressing.{finish_along, ready_on}
use Rattle.reconform.proofs.Stepping.{room_hashed, whole_under_way}
use Rattle.reconform.proofs.takeover.Takeover.adopt_rest.Goals as goal

-- the old folder was only read meanwhile
pub returns-in-Ok-clause-read : goal.returns-in-Ok-clause-read
returns-in-Ok-clause-read g c =
    let done = c.in-Ok.ensures.worked.met.1.1.1.1.1 in
    subst (λ (old : g.row.D.Denot). All (CanFinish g.N.Work.job g.O.Work.job g.N.Work.files g.D.Disk.tells c.args.self.now.view.now (g.D.Disk.state old)) c.hash_beside.new.rooms) (search rules)
    (finish_along done.reads done.taken.read c.hash_beside.new.rooms (ready_on _ _ _ c.in-Ok.ensures.hashed _ _ _ _ _ _ c.requires.read))

pub returns-in-Ok-clause-to : goal.returns-in-Ok-clause-to
returns-in-Ok-clause-to g c =
    let worked = c.in-Ok.ensures.worked.met.1 in
    let led = whole_under_way c.args.at worked.1.1.1.1.stays.grows c.requires.under_way _ worked.0 (λ k. room_hashed k c.in-Ok.ensures.hashed) worked.1.1.0 in
    (record { adopted = refl; made = refl; read = search (rules, worked.0) }, search (rules, led))
