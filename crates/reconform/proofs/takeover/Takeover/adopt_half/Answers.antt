use Rattle.std.proofs.Common.{rules, subst}
use Rattle.reconform.proofs.Dressing.{donors_on}
use Rattle.reconform.proofs.Stepping.{half_under_way, room_hashed}
use Rattle.reconform.proofs.takeover.Takeover.adopt_half.Goals as goal

-- the donors' files were hashed meanwhile
pub dress_all-requires-clause-read : goal.dress_all-requires-clause-read
dress_all-requires-clause-read g c = donors_on _ _ _ c.in-Ok.ensures.hashed _ _ _ _ _ c.requires.read

pub returns-in-Ok-clause-to : goal.returns-in-Ok-clause-to
returns-in-Ok-clause-to g c =
    let worked = c.in-Ok.ensures.worked.met.1 in
    let led = half_under_way c.args.at worked.1.1.1.stays.grows c.requires.under_way worked.1.1.0 (λ told k has room. c.dress_all.ensures.stays told k has (room_hashed k c.in-Ok.ensures.hashed room)) in
    (search (rules, worked.0), search (rules, led))
