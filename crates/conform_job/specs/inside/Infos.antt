-- Infos by key: words of private clauses.
use Rattle.std.specs.Prelude.{◌≡◌, if◌then◌else◌, List, Some}
use Rattle.cf_base.specs.declared.key.Key.{Key}
use Rattle.dpx_header.specs.declared.info.FrameInfo.{FrameInfo}
use Rattle.conform_job.specs.Keys.{info_at, is_key}

-- afterwards the key has this info, and all others what they had
abbrev pub IsSetTo : List (Key × FrameInfo) → Key → FrameInfo → List (Key × FrameInfo) → Type 0
IsSetTo before key info after = (q : Key) → info_at after q ≡ (if is_key key q then Some info else info_at before q)
