-- Infos by key.
use Rattle.std.specs.Prelude.{◌≡◌, List, [], ◌∷◌, None}
use Rattle.cf_base.specs.declared.key.Key.{Key}
use Rattle.dpx_header.specs.declared.info.FrameInfo.{FrameInfo}
use Rattle.conform_job.specs.Keys.{info_at}

-- no key has two infos
abbrev pub HasEachOnce : List (Key × FrameInfo) → Type 0
HasEachOnce [] = Unit {0}
HasEachOnce (entry ∷ others) = (info_at others entry.0 ≡ None) × HasEachOnce others
