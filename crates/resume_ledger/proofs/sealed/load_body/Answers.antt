use Rattle.std.proofs.Common.{◌≡◌, length, drop, ◌++◌, ◌∙◌, ap, sym, subst, arith}
use Rattle.std.specs.Prelude.{Option, List, ℕ}
use Rattle.std.proofs.lemmas.List.{length-take}
use Rattle.reel_disk.specs.declared.disk.Length.TheVariants.{There}
use Rattle.reel_disk.specs.declared.disk.Got.TheVariants.{Bytes}
use Rattle.reel_disk.specs.Disk.{view_of, HasLength, HasRead}
use Rattle.resume_ledger.specs.Body.{layout_of}
use Rattle.resume_ledger.proofs.Wholes.{whole_front}
use Rattle.resume_ledger.proofs.sealed.load_body.Goals as goal

-- the whole file was read
pub returns-in-Bytes-clause-body : goal.returns-in-Bytes-clause-body
returns-in-Bytes-clause-body g c told =
    let content = view_of (g.D.Disk.state c.args.disk.now).history (layout_of c.args.version).body in
    let len : c.in-There.len ≡ c.in-Ok.body.len = sym c.in-Ok.ensures.len in
    let there : HasLength content (There c.in-Ok.body.len) = subst (λ n. HasLength content (There n)) len (subst (λ id. HasLength (view_of (g.D.Disk.state c.args.disk.now).history id) (There c.in-There.len)) c.body.ensures (c.in-There.ensures.answer told)) in
    let same = ap (λ m. m.view) (c.in-There.ensures.time told).same in
    let read : HasRead content 0 c.read.new.into (Bytes c.in-Bytes.n) = subst (λ (found : Option (List ℕ)). HasRead found 0 c.read.new.into (Bytes c.in-Bytes.n)) (ap (λ view. view c.body-2.result) same ∙ ap (view_of (g.D.Disk.state c.args.disk.now).history) c.body-2.ensures) (c.in-Bytes.ensures.answer told) in
    whole_front content c.in-Ok.body.len c.in-Bytes.n c.read.new.into _ there read (c.if-n-len.true ∙ c.len.ensures) (c.read.auto.into ∙ c.deref_mut.ensures.len)

pub returns-in-Bytes-clause-known : goal.returns-in-Bytes-clause-known
returns-in-Bytes-clause-known g c =
    omega (arith, length-take c.in-Ok.body.len (c.read.new.into ++ drop (length c.read.new.into) c.in-Ok.body.items), c.if-len-most.false, c.most.ensures, c.in-Ok.ensures.len)
