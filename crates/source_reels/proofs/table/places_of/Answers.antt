use Rattle.std.proofs.Common.{◌∷◌, ◌++◌, [], List, arith, ap, refl, subst, sym, ◌∙◌, length, take}
use Rattle.std.proofs.lemmas.List.{length-take-le, take_all, take_more}
use Rattle.std.proofs.lemmas.Option.{slice_get_read, slice_get_within}
use Rattle.cf_base.specs.declared.reel.ReelEntry.{ReelEntry}
use Rattle.source_reels.specs.inside.Places.{HasPlaces}
use Rattle.source_reels.proofs.Faults.{first_refused, no_fault_more, none_refused}
use Rattle.source_reels.proofs.PlaceLaws.{new_name, places_more}
use Rattle.source_reels.proofs.table.places_of.Goals as goal

pub returns-in-Some : goal.returns-in-Some
returns-in-Some c =
    let entries = c.args.entries.now in
    let i = c.loop-i.i in
    let e = c.index-entries-i in
    let kind = c.kind_after.ensures (take i entries) c.loop-i.invariant.places in
    first_refused entries i e.result _ (slice_get_read entries (length entries) i e.result refl c.loop-i-test.true e.is) (sym kind ∙ c.in-Some.is) c.loop-i.invariant.none

pub loop-i-preserved : goal.loop-i-preserved
loop-i-preserved c =
    let entries = c.args.entries.now in
    let i = c.loop-i.i in
    let e = c.index-entries-i in
    let inv = c.loop-i.invariant in
    let good = sym (c.kind_after.ensures (take i entries) inv.places) ∙ c.in_default.is in
    let next = take_more entries i e.result c.loop-i-test.true ∙ ap (λ (x : ReelEntry). take i entries ++ x ∷ []) (sym e.is) in
    let long = length-take-le i entries inv.within in
    record {
      within = omega (arith, c.loop-i-test.true);
      none = no_fault_more entries i e.result (slice_get_read entries (length entries) i e.result refl c.loop-i-test.true e.is) good inv.none;
      places =
          subst (λ (before : List ReelEntry). HasPlaces before c.insert.new.self) (sym next)
          (places_more (take i entries) i e.result c.loop-i.places c.insert.new.self long inv.places (new_name (take i entries) c.loop-i.places e.result inv.places good) c.in-Ok.ensures.updates);
    }

pub returns : goal.returns
returns c =
    let entries = c.args.entries.now in
    let inv = c.loop-i.invariant in
    let late = c.loop-i-test.false in (
      none_refused entries (λ i e at. let below = slice_get_within entries i e at in inv.none i e (omega (arith, below, late)) at),
      subst (λ (before : List ReelEntry). HasPlaces before c.loop-i.places) (take_all c.loop-i.i entries late) inv.places,
    )
