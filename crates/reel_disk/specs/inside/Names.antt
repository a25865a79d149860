-- The names of the files of a reel folder: words of private clauses.
use Rattle.std.specs.Prelude.{◌≤◌}
use Rattle.cf_base.specs.declared.file.FileId.{FileId}
use Rattle.cf_base.specs.declared.file.FileId.TheVariants.{Frame}

-- a frame has a name where its reel has at most three decimal digits and its number at most seven
abbrev pub HasName : FileId → Type 0
HasName (Frame reel frame) = (reel ≤ 999) × (frame ≤ 9999999)
HasName id = Unit {0}
