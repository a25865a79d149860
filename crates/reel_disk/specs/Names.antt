-- The names of the files of a reel folder: this project's own rule.
-- * names of files: the file of each id in a reel folder
use Rattle.std.specs.Prelude.{ℕ, List, codes}
use Rattle.cf_base.specs.Digits.{frame_file_name}
use Rattle.cf_base.specs.declared.file.FileId.{FileId}
use Rattle.cf_base.specs.declared.file.FileId.TheVariants.{Seal, Body, Seal2, Body2, Sheet, Frame}

-- a frame's name is the one that stands in its header
abbrev pub file_name : FileId → List ℕ
file_name Seal = codes "conform.seal"
file_name Body = codes "conform.body"
file_name Seal2 = codes "conform.seal2"
file_name Body2 = codes "conform.body2"
file_name Sheet = codes "sheet.dpx"
file_name (Frame reel frame) = frame_file_name reel frame
