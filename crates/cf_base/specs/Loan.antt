-- How a part of the outside is lent: this project's own rule.
-- * loan: the name of a loan, and where that lies which is lent; a scan or a disk has one for each time that it is lent, the
--   outermost first, and keeps them in each call
use Rattle.std.specs.Prelude.{ℕ}

-- a loan: its name, and where that lies which is lent
pub record Loan : Type 0 where
  pub name : ℕ
  pub place : ℕ × ℕ
