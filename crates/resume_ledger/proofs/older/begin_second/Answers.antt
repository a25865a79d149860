use Rattle.std.proofs.Common.{refl}
use Rattle.resume_ledger.proofs.Beginning.{first_part, second_part}
use Rattle.resume_ledger.proofs.older.begin_second.Goals as goal

-- the body's write failed
pub returns-in_default-clause-part : goal.returns-in_default-clause-part
returns-in_default-clause-part g c told digest count name size frames older first =
    first_part digest count name size _ older c.args.body.now first frames _ _ refl (c.write_firmly.ensures.put told) (c.write_firmly.ensures.spares told)

-- the seal's
pub returns-in_default-write_firmly-clause-part : goal.returns-in_default-write_firmly-clause-part
returns-in_default-write_firmly-clause-part g c told digest count name size frames older first =
    second_part digest count name size _ older c.args.body.now first frames _ _ refl (c.write_firmly.ensures.put told) (c.write_firmly.ensures.spares told) (c.in-Ok.ensures.firmly told) _ (c.write_firmly-2.ensures.put told) (c.write_firmly-2.ensures.spares told)

-- both were done
pub returns-clause-part : goal.returns-clause-part
returns-clause-part g c told digest count name size frames older first =
    second_part digest count name size _ older c.args.body.now first frames _ _ refl (c.write_firmly.ensures.put told) (c.write_firmly.ensures.spares told) (c.in-Ok.ensures.firmly told) _ (c.write_firmly-2.ensures.put told) (c.write_firmly-2.ensures.spares told)
