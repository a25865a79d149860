use Rattle.std.proofs.Common.{ℕ, ◌∙◌, ap, sym, subst}
use Rattle.std.specs.Prelude.{Option, List}
use Rattle.reel_disk.specs.declared.disk.Length.TheVariants.{There}
use Rattle.reel_disk.specs.declared.disk.Got.TheVariants.{Bytes}
use Rattle.reel_disk.specs.Disk.{view_of, HasLength, HasRead}
use Rattle.reel_disk.proofs.WholeRead.{whole_read}
use Rattle.resume_ledger.specs.Body.{layout_of}
use Rattle.resume_ledger.proofs.Wholes.{seal_test, other_length, other_read}
use Rattle.resume_ledger.proofs.sealed.has_seal.Goals as goal

-- the whole file was read
pub returns-in-Bytes-eq15-clause-sealed : goal.returns-in-Bytes-eq15-clause-sealed
returns-in-Bytes-eq15-clause-sealed g c told =
    let view = view_of (g.D.Disk.state c.args.disk.now).history in
    let content = view (layout_of c.args.version).seal in
    let there : HasLength content (There c.in-There-eq15.field-0) = subst (λ id. HasLength (view id) (There c.in-There-eq15.field-0)) c.seal.ensures (c.in-There-eq15.ensures.answer told) in
    let seen = ap (λ m. m.view c.seal-in-There-eq15.result) (c.length.ensures.time told).same ∙ ap view c.seal-in-There-eq15.ensures in
    let read : HasRead content 0 c.read.new.into (Bytes c.in-Bytes-eq15.field-0) = subst (λ (found : Option (List ℕ)). HasRead found 0 c.read.new.into (Bytes c.in-Bytes-eq15.field-0)) seen (c.in-Bytes-eq15.ensures.answer told) in
    let whole = whole_read content c.in-There-eq15.field-0 c.in-Bytes-eq15.field-0 c.read.new.into there read (c.in-Bytes-eq15.field-0-test ∙ sym c.in-There-eq15.field-0-test) (c.read.auto.into ∙ sym c.in-There-eq15.field-0-test) in
    seal_test c.args.version content c.read.new.into c.mark.result c.eq.result whole c.eq.ensures c.mark.ensures

-- it has another length
pub returns-in_default-read-clause-sealed : goal.returns-in_default-read-clause-sealed
returns-in_default-read-clause-sealed g c told =
    let seen = ap (λ m. m.view c.seal-in-There-eq15.result) (c.length.ensures.time told).same ∙ ap (view_of (g.D.Disk.state c.args.disk.now).history) c.seal-in-There-eq15.ensures in
    (λ never. cc, λ seal. absurd (other_read c.args.version _ _ _ (c.in_default-read.ensures.answer told) c.read.auto.into c.in_default-read.field-0-test.1 (seen ∙ seal)))

pub returns-in_default-clause-sealed : goal.returns-in_default-clause-sealed
returns-in_default-clause-sealed g c told =
    (λ never. cc, λ seal. absurd (other_length c.args.version _ _ (c.in_default.ensures.answer told) c.in_default.field-0-test.1 (ap (view_of (g.D.Disk.state c.args.disk.now).history) c.seal.ensures ∙ seal)))
