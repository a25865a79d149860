-- What is read of a header that was written.
use Rattle.std.specs.Prelude.{◌≡◌, ℕ, ◌+◌, ◌*◌, ◌≤◌, List, Ok}
use Rattle.cf_base.specs.declared.limits.TheConstants.{HEADER}
use Rattle.dpx_header.specs.Reading.{info_of}
use Rattle.dpx_header.specs.Writing.{written_info}
use Rattle.dpx_header.specs.declared.writing.OutHead.{OutHead}

-- these bytes are read back with the size that was written, in each file that has room for the pixels
abbrev pub ReadsBack : OutHead → List ℕ → Type 0
ReadsBack head bytes = (len : ℕ) → HEADER + 4 * head.width * head.height ≤ len → info_of bytes len ≡ Ok (written_info head)
