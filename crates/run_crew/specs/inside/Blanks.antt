-- The totals of a crew, still without a count: words of private clauses.
--     AreBlanks      the blanks have these names and parts, in the order of their fields: one part for each worker, and one
--                    that stays
use Rattle.std.specs.Prelude.{◌≡◌, ℕ}
use Rattle.frame_share.specs.Share.{IsBlankOf as IsCounterOf}
use Rattle.station.specs.Marks.{IsBlankOf}
use Rattle.run_crew.specs.declared.crew.Blanks.{Blanks}
use Rattle.run_crew.specs.declared.crew.TheConstants.{PARTS}

pub record AreBlanks (blanks : Blanks) (a b c d e f : ℕ × ℕ) : Type 0 where
  pub source : IsBlankOf a.0 a.1 blanks.source.name blanks.source.parts × (blanks.source.parts ≡ PARTS)
  pub disk : IsBlankOf b.0 b.1 blanks.disk.name blanks.disk.parts × (blanks.disk.parts ≡ PARTS)
  pub memory : IsBlankOf c.0 c.1 blanks.memory.name blanks.memory.parts × (blanks.memory.parts ≡ PARTS)
  pub changed : IsBlankOf d.0 d.1 blanks.changed.name blanks.changed.parts × (blanks.changed.parts ≡ PARTS)
  pub misses : IsCounterOf e.0 e.1 blanks.misses.name blanks.misses.parts × (blanks.misses.parts ≡ PARTS)
  pub claims : IsBlankOf f.0 f.1 blanks.claims.name blanks.claims.parts × (blanks.claims.parts ≡ PARTS)
